-- The first fin that a loop names.
use Rattle.std.specs.Prelude.{Option, None, Some}
use Rattle.pk_base.specs.declared.tag.Tag.{Tag}
use Rattle.pk_base.specs.declared.entity.Entity.{Entity}
use Rattle.pk_base.specs.declared.entity.Entity.TheVariants as entity

abbrev pub first_named : Option Entity → Option Tag
first_named None = None
first_named (Some (entity.Loop face first vertex)) = first
first_named (Some (entity.Body shell)) = None
first_named (Some (entity.Shell body q)) = None
first_named (Some (entity.Face shell outer)) = None
first_named (Some (entity.Fin l next prev mate edge vertex)) = None
first_named (Some (entity.Edge body fin)) = None
first_named (Some (entity.Vertex body point)) = None
first_named (Some (entity.Attr owner name value)) = None
