-- Journals that go on.
use Rattle.std.specs.Prelude.{◌≡◌, ◌≢◌, ℕ, ◌-◌, List, [], ◌∷◌, ◌++◌, slice_index_or, slice_set}
use Rattle.std.specs.List.{AllByRecursion}
use Rattle.pk_base.specs.declared.act.Entry.{Entry}
use Rattle.pk_model.specs.Replay.{thread_of}

-- The journal is the earlier one, and more behind it that is of other threads than t.
pub record GoesOnWithout (t : ℕ) (earlier journal : List Entry) : Type 0 where
  pub more : List Entry
  pub whole : journal ≡ earlier ++ more
  pub others : AllByRecursion (λ e. thread_of e ≢ t) more

-- each of the journals is so, in order
abbrev pub EachGoesOnWithout : ℕ → List (List Entry) → List (List Entry) → Type 0
EachGoesOnWithout t [] [] = Unit {0}
EachGoesOnWithout t (earlier ∷ more) (journal ∷ journals) =
    GoesOnWithout t earlier journal × EachGoesOnWithout t more journals
EachGoesOnWithout t [] (journal ∷ journals) = ⊥
EachGoesOnWithout t (earlier ∷ more) [] = ⊥

-- the journals, where that of partition p has these entries more
abbrev pub with_entries : List (List Entry) → ℕ → List Entry → List (List Entry)
with_entries journals p es = slice_set journals (p - 1) (slice_index_or journals (p - 1) [] ++ es)
