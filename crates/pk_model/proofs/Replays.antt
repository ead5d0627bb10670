-- What a replay is, and what it tells, after one more entry.
use Rattle.std.proofs.Common.{◌≡◌, List, [], ◌∷◌, ◌++◌, Option, Some, None, refl, ap, ◌∙◌}
use Rattle.std.specs.Option.{option_and_then, option_map_or}
use Rattle.pk_base.specs.declared.act.Entry.{Entry}
use Rattle.pk_model.specs.State.{PartitionState}
use Rattle.pk_model.specs.Modelling.{Modelling}
use Rattle.pk_model.specs.Step.{step, Stepped}
use Rattle.pk_model.specs.Replay.{replay_from, AnsweredEntry, answered_entries_from}

-- what an entry and its step tell
abbrev pub told_of : PartitionState → Entry → Stepped → AnsweredEntry
told_of s e r = record { entry = e; before = s; answer = r.answer }

-- The entry has this step, and the rest leads on from its state.
pub record IsFirst (K : Modelling) (s : PartitionState) (e : Entry) (es : List Entry) (end : PartitionState) : Type 0 where
  pub first : Stepped
  pub steps : step K s e ≡ Some first
  pub rest : replay_from K first.state es ≡ Some end

IsFirst-by : (K : Modelling) (s : PartitionState) (e : Entry) (es : List Entry) (end : PartitionState) (o : Option Stepped) → step K s e ≡ o → option_and_then (λ (r : Stepped). replay_from K r.state es) o ≡ Some end → IsFirst K s e es end
IsFirst-by K s e es end None is h = absurd (cc)
IsFirst-by K s e es end (Some r) is h = record { first = r; steps = is; rest = h }

-- a replay that is there has its first step
pub replay_from-first : (K : Modelling) (s : PartitionState) (e : Entry) (es : List Entry) (end : PartitionState) → replay_from K s (e ∷ es) ≡ Some end → IsFirst K s e es end
replay_from-first K s e es end h = IsFirst-by K s e es end (step K s e) refl h

pub replay_from-step : (K : Modelling) (s : PartitionState) (e : Entry) (es : List Entry) (r : Stepped) → step K s e ≡ Some r → replay_from K s (e ∷ es) ≡ replay_from K r.state es
replay_from-step K s e es r h = ap (option_and_then (λ (q : Stepped). replay_from K q.state es)) h

pub answered_entries_from-step : (K : Modelling) (s : PartitionState) (e : Entry) (es : List Entry) (r : Stepped) → step K s e ≡ Some r → answered_entries_from K s (e ∷ es) ≡ told_of s e r ∷ answered_entries_from K r.state es
answered_entries_from-step K s e es r h = ap (λ o. option_map_or (λ (q : Stepped). told_of s e q ∷ answered_entries_from K q.state es) o []) h

-- a replay of some entries and then others goes on from where the first end
pub replay_from-append : (K : Modelling) (s : PartitionState) (es fs : List Entry) (mid : PartitionState) → replay_from K s es ≡ Some mid → replay_from K s (es ++ fs) ≡ replay_from K mid fs
replay_from-append K s [] fs mid h = let e : s ≡ mid = cc in ap (λ x. replay_from K x fs) e
replay_from-append K s (e ∷ es) fs mid h =
    let c = replay_from-first K s e es mid h in
    replay_from-step K s e (es ++ fs) c.first c.steps ∙ replay_from-append K c.first.state es fs mid c.rest

pub replay_from-push : (K : Modelling) (s : PartitionState) (es : List Entry) (e : Entry) (mid : PartitionState) (r : Stepped) → replay_from K s es ≡ Some mid → step K mid e ≡ Some r → replay_from K s (es ++ e ∷ []) ≡ Some r.state
replay_from-push K s es e mid r h k = replay_from-append K s es (e ∷ []) mid h ∙ replay_from-step K mid e [] r k
