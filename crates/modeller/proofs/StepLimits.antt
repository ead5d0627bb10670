-- No bound is named for a call that asks.
use Rattle.std.proofs.Common.{ℕ}
use Rattle.std.specs.Prelude.{IsTrue}
use Rattle.pk_base.specs.declared.call.Call.{Call}
use Rattle.pk_base.specs.declared.call.Call.TheVariants.{Mvfs}
use Rattle.entity_store.specs.Modeller.{AddsAtMost}
use Rattle.modeller.specs.Replies.{is_told}
use Rattle.modeller.specs.StepLimits.{step_limit}

pub told-unbound : (c : Call) → IsTrue (is_told c) → (a b : ℕ) → AddsAtMost (step_limit c) a b
told-unbound (Mvfs at) h a b = absurd (cc)
told-unbound _ h a b = tt
