-- Which entities are attributes, and of which name.
use Rattle.std.specs.Prelude.{Bool, true, false}
use Rattle.pk_base.specs.Entity.{same_name}
use Rattle.pk_base.specs.declared.entity.Name.{Name}
use Rattle.pk_base.specs.declared.entity.Entity.{Entity}
use Rattle.pk_base.specs.declared.entity.Entity.TheVariants.{Body, Shell, Face, Loop, Fin, Edge, Vertex, Attr}

abbrev pub is_attribute : Entity → Bool
is_attribute (Attr owner name value) = true
is_attribute (Body shell) = false
is_attribute (Shell body q) = false
is_attribute (Face shell outer) = false
is_attribute (Loop face first vertex) = false
is_attribute (Fin l next prev mate edge vertex) = false
is_attribute (Edge body fin) = false
is_attribute (Vertex body point) = false

-- an attribute of this name
abbrev pub is_named : Name → Entity → Bool
is_named n (Attr owner name value) = same_name name n
is_named n (Body shell) = false
is_named n (Shell body q) = false
is_named n (Face shell outer) = false
is_named n (Loop face first vertex) = false
is_named n (Fin l next prev mate edge vertex) = false
is_named n (Edge body fin) = false
is_named n (Vertex body point) = false
