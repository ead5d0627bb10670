-- What the second operator is given to undo the first one: read from the shape before the first,
-- where it kills. And what the first one kills, in the order in which it is made anew, or
-- ascending.
use Rattle.std.specs.Prelude.{not, ◌&&◌, List, [], ◌∷◌, drop, map, filter, unwrap_or, Option, Some, None, Result, Ok, Err}
use Rattle.std.specs.Option.{option_map_or}
use Rattle.pk_base.specs.Blocks.{tag}
use Rattle.pk_base.specs.Entity.{same_tag}
use Rattle.pk_base.specs.declared.tag.Tag.{Tag}
use Rattle.pk_base.specs.declared.entity.Class.TheVariants as class
use Rattle.pk_base.specs.declared.entity.Point.{Point}
use Rattle.pk_base.specs.declared.entity.Triple.{Triple}
use Rattle.pk_base.specs.declared.entity.Entity.{Entity}
use Rattle.pk_base.specs.declared.entity.Entity.TheVariants as entity
use Rattle.pk_base.specs.declared.refusal.Refusal.{Refusal}
use Rattle.solid_model.specs.Items.{Item, Shape, class_of_item, item_at}
use Rattle.solid_model.specs.Items.Item.{Body, Shell, Face, Loop, Fin, Edge, Vertex, Attr}
use Rattle.solid_model.specs.Rings.{before, first_tag, from, next_in, written_from}
use Rattle.solid_model.specs.Owners.{body_of, owner_in, same_class}
use Rattle.solid_model.specs.Room.{vertices_in_body}
use Rattle.solid_model.specs.Places.{End, end_at, fins_at, mate_at, point_at, start_at}

-- ---- what stands around a fin

abbrev pub edge_of : Item → Tag
edge_of (Fin mate edge vertex) = edge
edge_of (Body shell) = tag 0
edge_of (Shell body q) = tag 0
edge_of (Face shell outer) = tag 0
edge_of (Loop face fins vertex) = tag 0
edge_of (Edge body) = tag 0
edge_of (Vertex body point) = tag 0
edge_of (Attr owner name value) = tag 0

-- the edge of the fin under this tag
abbrev pub edge_at : Shape → Tag → Tag
edge_at S f = option_map_or edge_of (item_at S f) (tag 0)

-- the fins of its loop, written from it
abbrev pub fins_from : Shape → Tag → List Tag
fins_from S f = written_from f (fins_at S (owner_in S f))

-- a point, as it is given to a call
abbrev pub triple_of : Point → Triple
triple_of p = record { x = p.x; y = p.y; z = p.z }

-- ---- kev, and then mev

-- the fin after the edge of f and its mate, or the loop where there is none
abbrev pub end_left : Shape → Tag → Tag
end_left S f = unwrap_or (first_tag (drop 2 (fins_from S f))) (owner_in S f)

-- the point where the mate of f starts
abbrev pub point_beyond : Shape → Tag → Triple
point_beyond S f = triple_of (point_at S (start_at S (mate_at S f)))

-- the vertex where the mate starts, the edge, the fin and its mate
abbrev pub strut : Shape → Tag → List Tag
strut S f = start_at S (mate_at S f) ∷ edge_at S f ∷ f ∷ mate_at S f ∷ []

-- the point of the vertex that was read
abbrev pub point_read : Option Entity → Option Point
point_read None = None
point_read (Some (entity.Vertex body point)) = Some point
point_read (Some (entity.Body shell)) = None
point_read (Some (entity.Shell body q)) = None
point_read (Some (entity.Face shell outer)) = None
point_read (Some (entity.Loop face first vertex)) = None
point_read (Some (entity.Fin l next prev mate edge vertex)) = None
point_read (Some (entity.Edge body fin)) = None
point_read (Some (entity.Attr owner name value)) = None

-- ---- mekr, and then kemr

abbrev pub end_loop : Result End Refusal → Tag
end_loop (Ok u) = u.loop_
end_loop (Err e) = tag 0

-- the loop of an end
abbrev pub loop_at_end : Shape → Tag → Tag
loop_at_end S t = end_loop (end_at S t)

-- ---- kemr, and then mekr

-- the fins between f and its mate, and those behind the mate
abbrev pub fins_between : Shape → Tag → List Tag
fins_between S f = drop 1 (before (mate_at S f) (fins_from S f))

abbrev pub fins_behind : Shape → Tag → List Tag
fins_behind S f = drop 1 (from (mate_at S f) (fins_from S f))

-- the end in the loop that stays: the fin after the mate, or the loop where there is none
abbrev pub kept_end : Shape → Tag → Tag
kept_end S f = unwrap_or (first_tag (fins_behind S f)) (owner_in S f)

-- the end in the ring t that was cut off: the fin after f, or the ring where there is none
abbrev pub cut_end : Shape → Tag → Tag → Tag
cut_end S f t = unwrap_or (first_tag (fins_between S f)) t

-- the edge, the fin and its mate
abbrev pub bridge : Shape → Tag → List Tag
bridge S f = edge_at S f ∷ f ∷ mate_at S f ∷ []

-- ---- kef, and then mef

-- the fin after f in its loop
abbrev pub fin_after : Shape → Tag → Tag
fin_after S f = next_in (fins_from S f) f

-- the face of f, its loop, the edge, the fin and its mate
abbrev pub face_and_edge : Shape → Tag → List Tag
face_and_edge S f =
    owner_in S (owner_in S f) ∷ owner_in S f ∷ edge_at S f ∷ f ∷ mate_at S f ∷ []

-- ---- kvfs, and then mvfs

-- the vertex of a body that has just one
abbrev pub bare_vertex : Shape → Tag → Tag
bare_vertex S b = unwrap_or (first_tag (vertices_in_body S b)) b

-- the point where it stands
abbrev pub point_of_body : Shape → Tag → Triple
point_of_body S b = triple_of (point_at S (bare_vertex S b))

-- the body and all that stands in it, but no attribute, ascending
abbrev pub bare_body : Shape → Tag → List Tag
bare_body S b =
    map (λ x. x.0) (filter (λ x. not (same_class (class_of_item x.1) class.Attr)
    && same_tag (body_of S x.0) b) S)
