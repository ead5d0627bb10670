-- A call that asks, as its own function has it.
use Rattle.std.proofs.Common.{◌≡◌, ◌≤◌, ℕ, ap, subst, ◌∙◌}
use Rattle.std.specs.Prelude.{IsOk}
use Rattle.pk_base.specs.declared.act.Reply.{Reply}
use Rattle.pk_base.specs.declared.call.Call.{Call}
use Rattle.pk_model.specs.Maps.{EntityMap}
use Rattle.solid_model.specs.Euler.{list_of}
use Rattle.solid_model.specs.Rows.{tells}
use Rattle.solid_calls.specs.Pairs.{row_on}

module _ (m : EntityMap) (c d : Call) (is : c ≡ d) where
  pub goes-as : IsOk (row_on m c) → IsOk (row_on m d)
  goes-as h = subst (λ x. IsOk (row_on m x)) is h

  pub room-as : (spare : ℕ) → list_of (row_on m c) ≤ spare → list_of (row_on m d) ≤ spare
  room-as spare h = subst (λ x. list_of (row_on m x) ≤ spare) is h

  pub told-as : (reply : Reply) → row_on m d ≡ tells reply → row_on m c ≡ tells reply
  told-as reply h = ap (row_on m) is ∙ h
