-- What contracts see of a partition, and how an entry changes it.
use Rattle.std.specs.Prelude.{◌≡◌, ℕ, ◌-◌, ◌<◌, min, List, [], ◌∷◌, ◌++◌, length, Option, Some, IsSome, Result, Ok, Err, unwrap_or, refl}
use Rattle.std.specs.Coded.{Coded, code_by, coded×, coded_ℕ, coded_list}
use Rattle.pk_base.specs.contracts.act.Entry as entries
use Rattle.pk_base.specs.declared.act.Act.{Act}
use Rattle.pk_base.specs.declared.act.Entry.{Entry}
use Rattle.pk_base.specs.declared.act.Entry.TheVariants.{Did}
use Rattle.pk_base.specs.declared.act.Reply.{Reply}
use Rattle.pk_base.specs.declared.refusal.Refusal.{Refusal}
use Rattle.pk_base.specs.declared.refusal.Fault.{Fault}
use Rattle.pk_base.specs.declared.refusal.Fault.TheVariants.{Refused, NoMemory}
use Rattle.pk_model.specs.Codes.{state_code}
use Rattle.pk_model.specs.State.{PartitionState, opening}
use Rattle.pk_model.specs.Modelling.{Modelling}
use Rattle.pk_model.specs.Step.{step}
use Rattle.pk_model.specs.Replay.{replay}

pub record PartitionView : Type 0 where
  pub number : ℕ
  pub state : PartitionState
  pub journal : List Entry
  -- for how many draws of a block there is room
  pub reserved : ℕ

abbrev pub view_code : Coded PartitionView
view_code =
    code_by (ℕ × (PartitionState × (List Entry × ℕ)))
    (coded× coded_ℕ (coded× state_code (coded× (coded_list entries.the_row.coded) coded_ℕ)))
    (λ v. (v.number, (v.state, (v.journal, v.reserved))))
    (λ p. record { number = p.0; state = p.1.0; journal = p.1.1.0; reserved = p.1.1.1 })
    (λ _. refl)

-- The room for draws, where there is room for so many blocks, and for so many entries: one of these
-- is kept for the release.
abbrev pub reserved_in : ℕ → ℕ → ℕ
reserved_in blocks entries = min blocks (entries - 1)

-- partition p at its beginning
pub record Begins (p : ℕ) (v : PartitionView) : Type 0 where
  pub number : v.number ≡ p
  pub state : v.state ≡ opening p
  pub journal : v.journal ≡ []

abbrev pub holder_of : PartitionView → ℕ
holder_of v = unwrap_or v.state.holder 0

-- nothing of it has changed, but for the room
pub record Stays (old new : PartitionView) : Type 0 where
  pub number : new.number ≡ old.number
  pub state : new.state ≡ old.state
  pub journal : new.journal ≡ old.journal

-- The journal has one entry more, whose step leads from the old state to the new one with this
-- answer.
pub record Appends (K : Modelling) (old : PartitionView) (e : Entry)
    (answer : Option (Result Reply Refusal)) (new : PartitionView) : Type 0 where
  pub number : new.number ≡ old.number
  pub steps : step K old.state e ≡ Some (record { state = new.state; answer = answer })
  pub journal : new.journal ≡ old.journal ++ e ∷ []

-- The holder's act was done with this answer, a reply or a refusal. Where memory ran out, nothing
-- changed.
abbrev pub Answers : Modelling → PartitionView → Act → Result Reply Fault → PartitionView → Type 0
Answers K old a (Ok r) new = Appends K old (Did (holder_of old) a) (Some (Ok r)) new
Answers K old a (Err (Refused e)) new = Appends K old (Did (holder_of old) a) (Some (Err e)) new
Answers K old a (Err NoMemory) new = Stays old new

-- the answer of an act that was done or refused
abbrev pub answer_of : Result Reply Refusal → Result Reply Fault
answer_of (Ok r) = Ok r
answer_of (Err e) = Err (Refused e)

-- The state is the replay of the journal, and while a thread holds the partition there is room for
-- the entry of its release.
pub record IsValid (K : Modelling) (number : ℕ) (state : PartitionState) (journal : List Entry)
    (capacity : ℕ) : Type 0 where
  pub replays : replay K number journal ≡ Some state
  pub room : IsSome state.holder → length journal < capacity
