-- What changed since the current mark, kept by the numbers of the tags.
use Rattle.std.specs.Prelude.{◌≡◌, ℕ, ◌==◌, List, Option, Some, None}
use Rattle.std.specs.Map.{lookup}
use Rattle.pk_base.specs.declared.tag.Tag.{Tag}
use Rattle.pk_model.specs.Maps.{EntityMap}
use Rattle.entity_store.specs.declared.changes.Change.{Change}
use Rattle.entity_store.specs.Changes.{change_at}
use Rattle.delta.specs.Composed.{joined}

-- the change of this tag, if there is one
abbrev pub change_of : List (ℕ × Change) → Tag → Option Change
change_of entries t = lookup (λ k. t.0 == k) entries

-- Each tag at which the two maps differ has its change, and no other tag has one.
abbrev pub IsUnsaved : EntityMap → EntityMap → List (ℕ × Change) → Type 0
IsUnsaved base now entries = (t : Tag) → change_of entries t ≡ change_at base now t

-- They are what some map differs by from another.
pub record AreNet (entries : List (ℕ × Change)) : Type 0 where
  pub base : EntityMap
  pub now : EntityMap
  pub net : IsUnsaved base now entries

-- what a tag's change becomes with one more: none where the tag comes back
abbrev pub joined_to : Option Change → Change → Option Change
joined_to None d = Some d
joined_to (Some c) d = joined c d
