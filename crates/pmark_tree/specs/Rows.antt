-- How the marks are kept: a row for each mark ever made, the tags of the live ones, and the rows of
-- each mark's children in links.
use Rattle.std.specs.Prelude.{◌≡◌, ℕ, ◌<◌, ◌≤◌, ◌↔◌, min, List, length, get_or, Option, Some}
use Rattle.pk_base.specs.Blocks.{tag}
use Rattle.pk_base.specs.declared.tag.Tag.{Tag}
use Rattle.owner_links.specs.Links.{owner_at}
use Rattle.pmark_tree.specs.declared.mark.TreeMark.{TreeMark}
use Rattle.pmark_tree.specs.Marks.{dead_mark, live_tags}
use Rattle.pmark_tree.specs.Trees.{IsTree}

-- the mark in a row; a dead one where there is no such row
abbrev pub row_at : List TreeMark → ℕ → TreeMark
row_at rows i = get_or rows i (dead_mark (tag 0))

-- the mark in the one row is the child of that in the other
pub record IsChildRow (rows : List TreeMark) (child owner : ℕ) : Type 0 where
  pub within : owner < length rows
  pub parent : (row_at rows child).parent ≡ Some (row_at rows owner).tag

-- the owners of the slots are the rows of the marks' parents
abbrev pub AreLinked : List TreeMark → List (Option ℕ) → Type 0
AreLinked rows owners = (child owner : ℕ)
    → (owner_at owners child ≡ Some owner) ↔ IsChildRow rows child owner

pub record AreKept (rows : List TreeMark) (tags : List Tag) (owners : List (Option ℕ)) (slots : ℕ)
    : Type 0 where
  pub tree : IsTree rows
  pub live : tags ≡ live_tags rows
  pub linked : AreLinked rows owners
  pub count : slots ≡ length owners
  pub within : length rows ≤ slots

-- for how many marks there is room, where the three lists have so much room left
abbrev pub room_for : (rows live slots : ℕ) → ℕ
room_for rows live slots = min rows (min live slots)
