-- Two lists of changes, one behind the other, as one list.
use Rattle.std.specs.Prelude.{◌≡◌, ℕ, ◌+◌, ◌<◌, ◌≤◌, nat_lt, if◌then◌else◌, List, [], ◌∷◌, drop, length, Option, None, Some}
use Rattle.std.specs.List.{cons_option}
use Rattle.entity_store.specs.Changes.{same_value}
use Rattle.entity_store.specs.declared.changes.Change.{Change}

-- the change that two of one tag make: none where the tag comes back
abbrev pub joined : Change → Change → Option Change
joined c d =
    if same_value c.before d.after then None
    else Some (record { tag = c.tag; before = c.before; after = d.after })

-- a change and those behind it, which `rest` merges with the second list, merged with that list
abbrev pub merged : Change → (List Change → List Change) → List Change → List Change
merged c rest [] = c ∷ rest []
merged c rest (d ∷ ds) =
    if nat_lt d.tag.0 c.tag.0 then d ∷ merged c rest ds
    else if nat_lt c.tag.0 d.tag.0 then c ∷ rest (d ∷ ds)
    else cons_option (joined c d) (rest ds)

-- both lists merged by their tags, the second behind the first
abbrev pub composed : List Change → List Change → List Change
composed [] ds = ds
composed (c ∷ cs) ds = merged c (λ es. composed cs es) ds

-- What comes next of two lists that are merged: so many changes of each are taken, and become this
-- change, or none.
pub record ComesNext (cs ds : List Change) (change : Option Change) (i j : ℕ) : Type 0 where
  pub is : composed cs ds ≡ cons_option change (composed (drop i cs) (drop j ds))
  pub first : i ≤ length cs
  pub second : j ≤ length ds
  pub further : 0 < length cs + length ds → 0 < i + j
