-- The journals of one session's partitions, taken together.
use Rattle.std.specs.Prelude.{◌≢◌, ℕ, ◌+◌, ◌<◌, List, [], ◌∷◌, length, IsSome}
use Rattle.std.specs.List.{flat_map, filter_map, AllByRecursion}
use Rattle.pk_base.specs.declared.act.Entry.{Entry}
use Rattle.pk_model.specs.Modelling.{Modelling}
use Rattle.pk_model.specs.Replay.{replay, drawn_block}

-- the blocks drawn, journal by journal
abbrev pub drawn_in : List (List Entry) → List ℕ
drawn_in journals = flat_map (filter_map drawn_block) journals

-- no block stands twice
abbrev pub BlocksApart : List ℕ → Type 0
BlocksApart [] = Unit {0}
BlocksApart (b ∷ bs) = AllByRecursion (λ c. b ≢ c) bs × BlocksApart bs

-- the journals of the partitions p, p + 1 and so on have their replays
abbrev pub EachReplays : Modelling → ℕ → List (List Entry) → Type 0
EachReplays K p [] = Unit {0}
EachReplays K p (journal ∷ journals) = IsSome (replay K p journal) × EachReplays K (p + 1) journals

-- The journals of partitions 1 to n: each has a replay, and each block that was drawn is above n
-- and was drawn once.
pub record AreOneSession (K : Modelling) (journals : List (List Entry)) : Type 0 where
  pub replays : EachReplays K 1 journals
  pub above : AllByRecursion (λ b. length journals < b) (drawn_in journals)
  pub once : BlocksApart (drawn_in journals)
