-- Loops that are given to another face, and shells of which q changes, in a map of entities.
use Rattle.std.specs.Prelude.{ℤ, pos, negsuc, ◌≤ℤ◌, ◌+ℤ◌, Option, Some, None}
use Rattle.pk_base.specs.declared.tag.Tag.{Tag}
use Rattle.pk_base.specs.declared.entity.Entity.{Entity}
use Rattle.pk_base.specs.declared.entity.Entity.TheVariants as entity

-- it is a loop
abbrev pub IsLoop : Option Entity → Type 0
IsLoop (Some (entity.Loop face first vertex)) = Unit {0}
IsLoop (Some (entity.Body shell)) = ⊥
IsLoop (Some (entity.Shell body q)) = ⊥
IsLoop (Some (entity.Face shell outer)) = ⊥
IsLoop (Some (entity.Fin l next prev mate edge vertex)) = ⊥
IsLoop (Some (entity.Edge body fin)) = ⊥
IsLoop (Some (entity.Vertex body point)) = ⊥
IsLoop (Some (entity.Attr owner name value)) = ⊥
IsLoop None = ⊥

-- a loop as one of another face, any other entity as it is
abbrev pub of_face : Tag → Entity → Entity
of_face to (entity.Loop face first vertex) = entity.Loop to first vertex
of_face to (entity.Body shell) = entity.Body shell
of_face to (entity.Shell body q) = entity.Shell body q
of_face to (entity.Face shell outer) = entity.Face shell outer
of_face to (entity.Fin l next prev mate edge vertex) = entity.Fin l next prev mate edge vertex
of_face to (entity.Edge body fin) = entity.Edge body fin
of_face to (entity.Vertex body point) = entity.Vertex body point
of_face to (entity.Attr owner name value) = entity.Attr owner name value

-- it is a shell, whose q is no more than the faces and loops of a store may make it
abbrev pub IsShell : Option Entity → Type 0
IsShell (Some (entity.Shell body q)) = (negsuc 33554431 ≤ℤ q) × (q ≤ℤ pos 33554432)
IsShell (Some (entity.Body shell)) = ⊥
IsShell (Some (entity.Face shell outer)) = ⊥
IsShell (Some (entity.Loop face first vertex)) = ⊥
IsShell (Some (entity.Fin l next prev mate edge vertex)) = ⊥
IsShell (Some (entity.Edge body fin)) = ⊥
IsShell (Some (entity.Vertex body point)) = ⊥
IsShell (Some (entity.Attr owner name value)) = ⊥
IsShell None = ⊥

-- a shell with so much more q, any other entity as it is
abbrev pub with_more : ℤ → Entity → Entity
with_more by (entity.Shell body q) = entity.Shell body (q +ℤ by)
with_more by (entity.Body shell) = entity.Body shell
with_more by (entity.Face shell outer) = entity.Face shell outer
with_more by (entity.Loop face first vertex) = entity.Loop face first vertex
with_more by (entity.Fin l next prev mate edge vertex) = entity.Fin l next prev mate edge vertex
with_more by (entity.Edge body fin) = entity.Edge body fin
with_more by (entity.Vertex body point) = entity.Vertex body point
with_more by (entity.Attr owner name value) = entity.Attr owner name value
