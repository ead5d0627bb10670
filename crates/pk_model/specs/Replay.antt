-- The replay of a journal, and when a journal is legal.
use Rattle.std.specs.Prelude.{ℕ, ◌+◌, ◌<◌, ◌≤◌, List, [], ◌∷◌, Option, Some, None, IsSome}
use Rattle.std.specs.Option.{option_and_then, option_map_or}
use Rattle.std.specs.List.{filter_map, AllByRecursion}
use Rattle.std.specs.Prelude.{Result}
use Rattle.pk_base.specs.declared.act.Entry.{Entry}
use Rattle.pk_base.specs.declared.act.Entry.TheVariants.{Claimed, Drew, Did, Spent, Released}
use Rattle.pk_base.specs.declared.act.Reply.{Reply}
use Rattle.pk_base.specs.declared.refusal.Refusal.{Refusal}
use Rattle.pk_model.specs.State.{PartitionState, opening}
use Rattle.pk_model.specs.Modelling.{Modelling}
use Rattle.pk_model.specs.Step.{step, Stepped}

-- the state after the entries; nothing where some step is not defined
abbrev pub replay_from : Modelling → PartitionState → List Entry → Option PartitionState
replay_from K s [] = Some s
replay_from K s (e ∷ es) = option_and_then (λ (r : Stepped). replay_from K r.state es) (step K s e)

-- the state after the journal of partition p
abbrev pub replay : Modelling → ℕ → List Entry → Option PartitionState
replay K p journal = replay_from K (opening p) journal

-- an entry, the state before it, and what its act answered
pub record AnsweredEntry : Type 0 where
  pub entry : Entry
  pub before : PartitionState
  pub answer : Option (Result Reply Refusal)

-- the entries with their answers, up to the first that is not defined
abbrev pub answered_entries_from : Modelling → PartitionState → List Entry → List AnsweredEntry
answered_entries_from K s [] = []
answered_entries_from K s (e ∷ es) =
    option_map_or (λ (r : Stepped). record { entry = e; before = s; answer = r.answer }
    ∷ answered_entries_from K r.state es) (step K s e) []

-- the entries of partition p with their answers
abbrev pub answered_entries : Modelling → ℕ → List Entry → List AnsweredEntry
answered_entries K p journal = answered_entries_from K (opening p) journal

abbrev pub drawn_block : Entry → Option ℕ
drawn_block (Drew t b) = Some b
drawn_block (Claimed t) = None
drawn_block (Did t a) = None
drawn_block (Spent t next a) = None
drawn_block (Released t) = None

abbrev pub spent_number : Entry → Option ℕ
spent_number (Spent t next a) = Some next
spent_number (Claimed t) = None
spent_number (Drew t b) = None
spent_number (Did t a) = None
spent_number (Released t) = None

abbrev pub thread_of : Entry → ℕ
thread_of (Claimed t) = t
thread_of (Drew t b) = t
thread_of (Did t a) = t
thread_of (Spent t next a) = t
thread_of (Released t) = t

-- The journal of partition p is legal in a session of n partitions whose last block is `last`: each
-- of its steps is defined; each block drawn is above n and at most `last`; each number that was
-- found spent is above `last`, and by at most 65,535, since a session has no more seats and each
-- adds to a number above `last` at most once.
pub record Legal (K : Modelling) (p n last : ℕ) (journal : List Entry) : Type 0 where
  pub replays : IsSome (replay K p journal)
  pub drawn : AllByRecursion (λ b. (n < b) × (b ≤ last)) (filter_map drawn_block journal)
  pub spent : AllByRecursion (λ k. (last < k) × (k ≤ last + 65535))
      (filter_map spent_number journal)
