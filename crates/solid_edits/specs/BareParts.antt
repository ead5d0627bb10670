-- The parts of a body of one vertex.
use Rattle.std.specs.Prelude.{◌≡◌, ℕ, ℤ, pos, List, [], ◌∷◌, Option, None, Some, IsTrue}
use Rattle.std.specs.List.{AllByRecursion}
use Rattle.pk_base.specs.declared.tag.Tag.{Tag}
use Rattle.pk_base.specs.declared.entity.Entity.{Entity}
use Rattle.pk_base.specs.declared.entity.Entity.TheVariants as entity
use Rattle.pk_base.specs.declared.entity.Point.{Point}
use Rattle.pk_model.specs.Apart.{NoRepeats}
use Rattle.pk_model.specs.Maps.{EntityMap, with_entity}
use Rattle.pk_model.specs.Tags.{owns}
use Rattle.solid_model.specs.Items.{Shape, item_at}
use Rattle.solid_model.specs.Items.Item.{Body, Shell, Face, Loop, Vertex}
use Rattle.solid_edits.specs.declared.bare_parts.BareParts.{BareParts}

abbrev pub tags_of_parts : BareParts → List Tag
tags_of_parts p = p.body ∷ p.shell ∷ p.face ∷ p.loop_ ∷ p.vertex ∷ []

-- the parts are the first five of the tags, in their order
abbrev pub IsMadeOf : List Tag → BareParts → List Tag → Type 0
IsMadeOf tags p rest = tags ≡ p.body ∷ p.shell ∷ p.face ∷ p.loop_ ∷ p.vertex ∷ rest

-- the parts are five, and their blocks are owned
pub record AreHostedBy (blocks : List ℕ) (p : BareParts) : Type 0 where
  pub once : NoRepeats (tags_of_parts p)
  pub owned : AllByRecursion (λ t. IsTrue (owns blocks t)) (tags_of_parts p)

-- the map with a body of these parts, whose vertex is at the point
abbrev pub with_bare_body : EntityMap → BareParts → Point → EntityMap
with_bare_body m p point =
    let one = with_entity m p.body (Some (entity.Body p.shell)) in
    let two = with_entity one p.shell (Some (entity.Shell p.body (pos 1))) in
    let three = with_entity two p.face (Some (entity.Face p.shell p.loop_)) in
    let four = with_entity three p.loop_ (Some (entity.Loop p.face None (Some p.vertex))) in
    with_entity four p.vertex (Some (entity.Vertex p.body point))

-- The parts of a body: its shell, a face of that, the outer loop of the face, without fins, and
-- the loop's lone vertex.
pub record AreBareParts (S : Shape) (p : BareParts) : Type 0 where
  pub q : ℤ
  pub point : Point
  pub body_is : item_at S p.body ≡ Some (Body p.shell)
  pub shell_is : item_at S p.shell ≡ Some (Shell p.body q)
  pub face_is : item_at S p.face ≡ Some (Face p.shell p.loop_)
  pub loop_is : item_at S p.loop_ ≡ Some (Loop p.face [] (Some p.vertex))
  pub vertex_is : item_at S p.vertex ≡ Some (Vertex p.body point)

-- the lone vertex of a loop
abbrev pub lone_vertex : Option Entity → Option Tag
lone_vertex None = None
lone_vertex (Some (entity.Loop face first vertex)) = vertex
lone_vertex (Some (entity.Body shell)) = None
lone_vertex (Some (entity.Shell body q)) = None
lone_vertex (Some (entity.Face shell outer)) = None
lone_vertex (Some (entity.Fin l next prev mate edge vertex)) = None
lone_vertex (Some (entity.Edge body fin)) = None
lone_vertex (Some (entity.Vertex body point)) = None
lone_vertex (Some (entity.Attr owner name value)) = None
