-- How a mark is removed: its children are moved to its parent, and then it is dead.
use Rattle.std.specs.Prelude.{◌≡◌, ◌≢◌, ℕ, ◌+◌, ◌*◌, ◌<◌, ◌↔◌, List, [], ◌∷◌, length, map, set, sum_by, Option, Some, IsSome, Contains}
use Rattle.std.specs.List.{AllByRecursion}
use Rattle.pk_base.specs.declared.tag.Tag.{Tag}
use Rattle.delta.specs.Composed.{composed}
use Rattle.owner_links.specs.Links.{NoRepeats, owner_at}
use Rattle.pmark_tree.specs.declared.mark.TreeMark.{TreeMark}
use Rattle.pmark_tree.specs.declared.remove.Moved.{Moved}
use Rattle.pmark_tree.specs.Rows.{row_at, IsChildRow}

abbrev pub rows_in : List Moved → List ℕ
rows_in moved = map (λ (m : Moved). m.row) moved

-- its changes are those of the mark in row `at`, followed by its own
abbrev pub IsMoved : List TreeMark → ℕ → Moved → Type 0
IsMoved rows at m = m.delta ≡ composed (row_at rows at).delta (row_at rows m.row).delta

-- the children of the mark in row `at`, each once, with their new changes
pub record AreMoved (rows : List TreeMark) (at : ℕ) (moved : List Moved) : Type 0 where
  pub once : NoRepeats (rows_in moved)
  pub all : (c : ℕ) → Contains (rows_in moved) c ↔ IsChildRow rows c at
  pub deltas : AllByRecursion (IsMoved rows at) moved

-- the child is below this parent now
abbrev pub with_moved : Tag → Moved → List TreeMark → List TreeMark
with_moved p m rows =
    set rows m.row (record (row_at rows m.row) { parent = Some p; delta = m.delta })

-- all of them are, the last one first
abbrev pub handed_over : Tag → List Moved → List TreeMark → List TreeMark
handed_over p [] rows = rows
handed_over p (m ∷ moved) rows = with_moved p m (handed_over p moved rows)

-- the owners, once these are the children of one
abbrev pub owned_by : ℕ → List ℕ → List (Option ℕ) → List (Option ℕ)
owned_by owner [] owners = owners
owned_by owner (c ∷ cs) owners = set (owned_by owner cs owners) c (Some owner)

-- the child has a row, and an owner that is not the new one
pub record MayMove (rows : ℕ) (owner : ℕ) (owners : List (Option ℕ)) (child : ℕ) : Type 0 where
  pub within : child < rows
  pub slot : child < length owners
  pub owned : IsSome (owner_at owners child)
  pub other : child ≢ owner

-- the most steps to compose the changes of a child with those of the mark in row `at`
abbrev pub child_steps : List TreeMark → ℕ → ℕ → ℕ
child_steps rows at c = 2 * (length (row_at rows at).delta + length (row_at rows c).delta)

abbrev pub steps_of : List TreeMark → ℕ → List ℕ → ℕ
steps_of rows at cs = sum_by (child_steps rows at) cs
