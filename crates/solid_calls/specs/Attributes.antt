-- The attributes of an entity, in a map of entities.
use Rattle.std.specs.Prelude.{◌≡◌, Bool, false, if◌then◌else◌, List, Option, None, Some, filter}
use Rattle.std.specs.Option.{option_map_or}
use Rattle.std.specs.FinMap.{get, keys}
use Rattle.pk_base.specs.Entity.{same_tag}
use Rattle.pk_base.specs.declared.tag.Tag.{Tag}
use Rattle.pk_base.specs.declared.entity.Entity.{Entity}
use Rattle.pk_base.specs.declared.entity.Entity.TheVariants as entity
use Rattle.pk_model.specs.Maps.{EntityMap}

abbrev pub is_attribute_on : Tag → Entity → Bool
is_attribute_on o (entity.Attr owner name value) = same_tag owner o
is_attribute_on o (entity.Body shell) = false
is_attribute_on o (entity.Shell body q) = false
is_attribute_on o (entity.Face shell outer) = false
is_attribute_on o (entity.Loop face first vertex) = false
is_attribute_on o (entity.Fin l next prev mate edge vertex) = false
is_attribute_on o (entity.Edge body fin) = false
is_attribute_on o (entity.Vertex body point) = false

-- the owner's attributes, ascending
abbrev pub attributes_on : EntityMap → Tag → List Tag
attributes_on m o = filter (λ t. option_map_or (is_attribute_on o) (get m t) false) (keys m)

-- what stays under a tag where the owner's attributes die
abbrev pub unless_on : Tag → Option Entity → Option Entity
unless_on o None = None
unless_on o (Some e) = if is_attribute_on o e then None else Some e

-- The owner's attributes have died, and nothing else has changed.
abbrev pub DropsAttributes : EntityMap → Tag → EntityMap → Type 0
DropsAttributes old o new = (t : Tag) → get new t ≡ unless_on o (get old t)
