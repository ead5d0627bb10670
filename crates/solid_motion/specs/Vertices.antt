-- The vertices of a body on a map, and which of them are looked for.
use Rattle.std.specs.Prelude.{◌≡◌, ℕ, ◌≤◌, Bool, true, false, not, ◌&&◌, nat_le, nat_lt, List, filter, if◌then◌else◌, find, is_some, Option, None, Some, option_map}
use Rattle.std.specs.Option.{option_map_or}
use Rattle.std.specs.FinMap.{get, keys}
use Rattle.pk_base.specs.Entity.{same_tag}
use Rattle.pk_base.specs.declared.tag.Tag.{Tag}
use Rattle.pk_base.specs.declared.entity.Point.{Point}
use Rattle.pk_base.specs.declared.entity.Entity.{Entity}
use Rattle.pk_base.specs.declared.entity.Entity.TheVariants.{Body, Shell, Face, Loop, Fin, Edge, Vertex, Attr}
use Rattle.pk_model.specs.Maps.{EntityMap}
use Rattle.pk_plane.specs.Turns.{moved}
use Rattle.solid_model.specs.Ranges.{is_coordinate, coordinates_of}
use Rattle.entity_store.specs.Room.{PutsAmong}
use Rattle.entity_store.specs.Store.{StoreView}
use Rattle.solid_motion.specs.declared.vertices.Wanted.{Wanted}
use Rattle.solid_motion.specs.declared.vertices.Wanted.TheVariants.{From, Outside}
use Rattle.solid_places.specs.Points.{AreComponents, AreCoordinates}

-- a coordinate of the point is out of range
abbrev pub is_outside : Point → Bool
is_outside p = is_some (find (λ v. not (is_coordinate v)) (coordinates_of p))

-- the vertex under this tag with this point is looked for
abbrev pub is_wanted : Wanted → Tag → Point → Bool
is_wanted (From least) t p = nat_le least t.0
is_wanted (Outside by) t p = is_outside (moved by p)

-- the numbers that are asked for are such as a vector may have
abbrev pub MayBeWanted : Wanted → Type 0
MayBeWanted (From least) = Unit {0}
MayBeWanted (Outside by) = AreComponents by

-- under the tag stands a vertex of the body, which is looked for
pub record IsWantedAt (m : EntityMap) (b : Tag) (w : Wanted) (t : Tag) (p : Point) : Type 0 where
  pub live : get m t ≡ Some (Vertex b p)
  pub wanted : is_wanted w t p ≡ true

-- the least of those that are looked for, with its point
abbrev pub IsLeastWanted : EntityMap → Tag → Wanted → Option (Tag × Point) → Type 0
IsLeastWanted m b w None = (t : Tag) (p : Point) → IsWantedAt m b w t p → ⊥
IsLeastWanted m b w (Some x) =
    IsWantedAt m b w x.0 x.1 × ((t : Tag) (p : Point) → IsWantedAt m b w t p → x.0.0 ≤ t.0)

-- the entity, with its point moved so where it is a vertex of the body
abbrev pub entity_moved : (Point → Point) → Tag → Entity → Entity
entity_moved motion b (Vertex body point) =
    Vertex body (if same_tag body b then motion point else point)
entity_moved motion b (Body shell) = Body shell
entity_moved motion b (Shell body q) = Shell body q
entity_moved motion b (Face shell outer) = Face shell outer
entity_moved motion b (Loop face first vertex) = Loop face first vertex
entity_moved motion b (Fin l next prev mate edge vertex) = Fin l next prev mate edge vertex
entity_moved motion b (Edge body fin) = Edge body fin
entity_moved motion b (Attr owner name value) = Attr owner name value

-- every vertex of the body is moved so, and nothing else has changed
abbrev pub MovesVertices : (Point → Point) → Tag → EntityMap → EntityMap → Type 0
MovesVertices motion b old new =
    (t : Tag) → get new t ≡ option_map (entity_moved motion b) (get old t)

-- the one of the two that has the lesser tag
abbrev pub lesser : Option (Tag × Point) → Tag × Point → Option (Tag × Point)
lesser None y = Some y
lesser (Some x) y = if nat_lt x.0.0 y.0.0 then Some x else Some y

-- every vertex of the body has coordinates in range, and so has it where the motion brings it
abbrev pub AreWithin : (Point → Point) → Tag → EntityMap → Type 0
AreWithin motion b m = (t : Tag) (p : Point) → get m t ≡ Some (Vertex b p)
    → AreCoordinates p × AreCoordinates (motion p)

-- ---- a run of tags

-- it is a vertex of the body
abbrev pub is_vertex_of : Tag → Entity → Bool
is_vertex_of b (Vertex body point) = same_tag body b
is_vertex_of b (Body shell) = false
is_vertex_of b (Shell body q) = false
is_vertex_of b (Face shell outer) = false
is_vertex_of b (Loop face first vertex) = false
is_vertex_of b (Fin l next prev mate edge vertex) = false
is_vertex_of b (Edge body fin) = false
is_vertex_of b (Attr owner name value) = false

-- the vertices of the body, ascending
abbrev pub vertices_on : EntityMap → Tag → List Tag
vertices_on m b = filter (λ t. option_map_or (is_vertex_of b) (get m t) false) (keys m)

-- what stands under the tag, moved so where its number is in the run
abbrev pub moved_in_run : (Point → Point) → Tag → (from to : ℕ) → Tag → Option Entity
    → Option Entity
moved_in_run motion b from to t o =
    if nat_le from t.0 && nat_lt t.0 to then option_map (entity_moved motion b) o else o

-- The vertices of the body with these numbers are moved so, nothing else has changed, and no other
-- tags were put than those of its vertices.
pub record MovesRun (motion : Point → Point) (b : Tag) (from to : ℕ) (old new : StoreView)
    : Type 0 where
  pub moved : (t : Tag) → get new.state.map t
      ≡ moved_in_run motion b from to t (get old.state.map t)
  pub state : new.state ≡ record old.state { map = new.state.map }
  pub puts : PutsAmong (vertices_on old.state.map b) old new
