-- No tag ever names two entities.
use Rattle.std.specs.Prelude.{◌≡◌, ◌≢◌, ◌⊎◌, ℕ, ◌+◌, List, [], ◌∷◌, ◌++◌, take, Some, IsSome, Contains, slice_get}
use Rattle.std.specs.List.{flat_map, AllByRecursion}
use Rattle.std.specs.FinMap.{get}
use Rattle.pk_base.specs.declared.tag.Tag.{Tag}
use Rattle.pk_base.specs.declared.act.Entry.{Entry}
use Rattle.pk_base.specs.declared.act.Entry.TheVariants.{Claimed, Drew, Did, Spent, Released}
use Rattle.pk_model.specs.Tags.{next_tags}
use Rattle.pk_model.specs.State.{Mark, PartitionState, initial_mark}
use Rattle.pk_model.specs.Modelling.{Modelling}
use Rattle.pk_model.specs.Step.{act_cost}
use Rattle.pk_model.specs.Replay.{answered_entries, replay}

-- the tags that an entry takes
abbrev pub taken_by : Modelling → PartitionState → Entry → List Tag
taken_by K s (Did t a) = take (act_cost K s a) (next_tags s.blocks s.used)
taken_by K s (Claimed t) = []
taken_by K s (Drew t b) = []
taken_by K s (Spent t next a) = []
taken_by K s (Released t) = []

-- the tags that the entries of a journal take, in order
abbrev pub taken_in : Modelling → ℕ → List Entry → List Tag
taken_in K p journal = flat_map (λ x. taken_by K x.before x.entry) (answered_entries K p journal)

-- the initial marks and the tags taken of the partitions p, p + 1 and so on
abbrev pub created_from : Modelling → ℕ → List (List Entry) → List Tag
created_from K p [] = []
created_from K p (journal ∷ journals) =
    (initial_mark p ∷ taken_in K p journal) ++ created_from K (p + 1) journals

-- no tag stands twice
abbrev pub NoRepeats : List Tag → Type 0
NoRepeats [] = Unit {0}
NoRepeats (t ∷ ts) = AllByRecursion (λ u. t ≢ u) ts × NoRepeats ts

-- the tag is live in the state now, or in the map of a mark
abbrev pub IsLiveIn : PartitionState → Tag → Type 0
IsLiveIn s t =
    IsSome (get s.now t)
    ⊎ ((i : ℕ) × (k : Mark) × (slice_get s.marks i ≡ Some k) × IsSome (get k.map t))

-- at each moment of the replay, each live tag was taken by an earlier entry of this journal
abbrev pub TakenBefore : Modelling → ℕ → List Entry → Type 0
TakenBefore K p journal =
    (moment : ℕ) (s : PartitionState) → replay K p (take moment journal) ≡ Some s
    → (t : Tag) → IsLiveIn s t → Contains (taken_in K p (take moment journal)) t

abbrev pub EachTakenBefore : Modelling → ℕ → List (List Entry) → Type 0
EachTakenBefore K p [] = Unit {0}
EachTakenBefore K p (journal ∷ journals) =
    TakenBefore K p journal × EachTakenBefore K (p + 1) journals

-- over the journals of partitions 1, 2 and so on
pub record Apart (K : Modelling) (journals : List (List Entry)) : Type 0 where
  pub once : NoRepeats (created_from K 1 journals)
  pub taken : EachTakenBefore K 1 journals
