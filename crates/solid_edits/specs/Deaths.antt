-- Maps in which entities have died with their attributes.
use Rattle.std.specs.Prelude.{◌≡◌, ◌≢◌, List, [], ◌∷◌, ◌++◌, Option, None}
use Rattle.std.specs.List.{AllByRecursion, flat_map}
use Rattle.std.specs.FinMap.{get}
use Rattle.pk_base.specs.declared.tag.Tag.{Tag}
use Rattle.pk_base.specs.declared.entity.Entity.{Entity}
use Rattle.pk_model.specs.Maps.{EntityMap}
use Rattle.solid_calls.specs.Attributes.{attributes_on, unless_on}

-- The entity has died with its attributes, and nothing else has changed.
pub record Dies (old : EntityMap) (tag : Tag) (new : EntityMap) : Type 0 where
  pub gone : get new tag ≡ None
  pub others : (t : Tag) → t ≢ tag → get new t ≡ unless_on tag (get old t)

-- what stays under a tag where the attributes of these owners die
abbrev pub unless_on_any : List Tag → Option Entity → Option Entity
unless_on_any [] e = e
unless_on_any (o ∷ os) e = unless_on_any os (unless_on o e)

-- These have died with their attributes, and nothing else has changed.
pub record Kills (old : EntityMap) (ts : List Tag) (new : EntityMap) : Type 0 where
  pub dead : AllByRecursion (λ t. get new t ≡ None) ts
  pub others : (t : Tag) → AllByRecursion (λ u. t ≢ u) ts
      → get new t ≡ unless_on_any ts (get old t)

-- these tags, and those of their attributes
abbrev pub with_attributes : EntityMap → List Tag → List Tag
with_attributes m ts = ts ++ flat_map (attributes_on m) ts
