-- What contracts see of a view: the map of the store that it borrows, and which body, face or loop
-- of it is viewed.
use Rattle.std.specs.Prelude.{◌≡◌, ℕ, nat_le, if◌then◌else◌, List, Option, None, Some, IfSome, refl}
use Rattle.std.specs.List.{take_while}
use Rattle.std.specs.Option.{option_and_then}
use Rattle.std.specs.Coded.{Coded, code_by, coded×}
use Rattle.std.specs.FinMap.{get}
use Rattle.pk_base.specs.declared.tag.Tag.{Tag}
use Rattle.pk_base.specs.Entity.{same_tag}
use Rattle.pk_base.specs.declared.entity.Point.{Point}
use Rattle.pk_base.specs.declared.entity.Entity.{Entity}
use Rattle.pk_base.specs.declared.entity.Entity.TheVariants as entity
use Rattle.pk_model.specs.Codes.{map_code, tag_code}
use Rattle.pk_model.specs.Maps.{EntityMap}
use Rattle.halfedge.specs.LinkedRings.{IsInRing, ring_of_any}
use Rattle.solid_model.specs.Places.{fins_at}
use Rattle.solid_model.specs.Shapes.{shape_of}

-- a body, with its shell
pub record BodySeen : Type 0 where
  pub map : EntityMap
  pub body : Tag
  pub shell : Tag

abbrev pub body_code : Coded BodySeen
body_code = code_by (EntityMap × (Tag × Tag)) (coded× map_code (coded× tag_code tag_code))
    (λ v. (v.map, (v.body, v.shell))) (λ p. record { map = p.0; body = p.1.0; shell = p.1.1 })
    (λ _. refl)

-- a face, with its outer loop
pub record FaceSeen : Type 0 where
  pub map : EntityMap
  pub face : Tag
  pub outer : Tag

abbrev pub face_code : Coded FaceSeen
face_code = code_by (EntityMap × (Tag × Tag)) (coded× map_code (coded× tag_code tag_code))
    (λ v. (v.map, (v.face, v.outer))) (λ p. record { map = p.0; face = p.1.0; outer = p.1.1 })
    (λ _. refl)

-- a loop, in the map of a sound shape
pub record LoopSeen : Type 0 where
  pub map : EntityMap
  pub ring : Tag

abbrev pub loop_code : Coded LoopSeen
loop_code = code_by (EntityMap × Tag) (coded× map_code tag_code)
    (λ v. (v.map, v.ring)) (λ p. record { map = p.0; ring = p.1 })
    (λ _. refl)

-- with its first fin, from which on the ring is that of its fins; with none where it has none
pub record HasFirst (m : EntityMap) (l : Tag) (first : Option Tag) : Type 0 where
  pub fins : fins_at (shape_of m) l ≡ ring_of_any m first
  pub ring : IfSome first (IsInRing m)

-- ---- what is lent of a vertex

abbrev pub point_if : Tag → Entity → Option Point
point_if b (entity.Vertex body point) = if same_tag body b then Some point else None
point_if b (entity.Body shell) = None
point_if b (entity.Shell body q) = None
point_if b (entity.Face shell outer) = None
point_if b (entity.Loop face first vertex) = None
point_if b (entity.Fin l next prev mate edge vertex) = None
point_if b (entity.Edge body fin) = None
point_if b (entity.Attr owner name value) = None

-- the point of the vertex of this body under the tag, where there is one
abbrev pub point_in_body : EntityMap → Tag → Tag → Option Point
point_in_body m b t = option_and_then (point_if b) (get m t)

-- ---- what is lent of an attribute

-- its name, without the padding
abbrev pub name_if : Entity → Option (List ℕ)
name_if (entity.Attr owner name value) = Some (take_while (λ b. nat_le 1 b) name.0)
name_if (entity.Body shell) = None
name_if (entity.Shell body q) = None
name_if (entity.Face shell outer) = None
name_if (entity.Loop face first vertex) = None
name_if (entity.Fin l next prev mate edge vertex) = None
name_if (entity.Edge body fin) = None
name_if (entity.Vertex body point) = None

-- the name of the attribute under the tag, where there is one
abbrev pub name_under : EntityMap → Tag → Option (List ℕ)
name_under m t = option_and_then name_if (get m t)
