-- What a row asks of its operands: a body, a face, a loop, a fin, or an end for an edge, each with
-- what stands around it.
use Rattle.std.specs.Prelude.{ℤ, pos, List, [], Option, Some, None, Result, Ok, Err}
use Rattle.std.specs.Option.{option_and_then, option_map_or}
use Rattle.pk_base.specs.Blocks.{tag}
use Rattle.pk_base.specs.declared.tag.Tag.{Tag}
use Rattle.pk_base.specs.declared.entity.Point.{Point}
use Rattle.pk_base.specs.declared.entity.Class.TheVariants as class
use Rattle.pk_base.specs.declared.refusal.Refusal.{Refusal}
use Rattle.pk_base.specs.declared.refusal.Refusal.TheVariants.{NoSuchTag, WrongClass, NotBare}
use Rattle.solid_model.specs.Items.{Item, Shape, item_at, class_of_item}
use Rattle.solid_model.specs.Items.Item.{Body, Shell, Face, Loop, Fin, Edge, Vertex, Attr}
use Rattle.solid_model.specs.Rings.{written_from}
use Rattle.solid_model.specs.Owners.{fins_of, owner_in, body_of}

-- what the item is asked to be, or the refusal of one of another class
abbrev pub of_class : {A : Type 0} → Tag → Item → Option A → Result A Refusal
of_class t x (Some a) = Ok a
of_class t x None = Err (WrongClass t (class_of_item x))

-- the tag is refused where it is not live, and else where its item is not what is asked
abbrev pub asked : {A : Type 0} → (Item → Option A) → Tag → Option Item → Result A Refusal
asked as_asked t None = Err (NoSuchTag t)
asked as_asked t (Some x) = of_class t x (as_asked x)

-- any live item
abbrev pub live_at : Shape → Tag → Result Item Refusal
live_at S t = asked Some t (item_at S t)

-- ---- bodies and shells

-- the shell of a body
abbrev pub as_body : Item → Option Tag
as_body (Body shell) = Some shell
as_body (Shell body q) = None
as_body (Face shell outer) = None
as_body (Loop face fins vertex) = None
as_body (Fin mate edge vertex) = None
as_body (Edge body) = None
as_body (Vertex body point) = None
as_body (Attr owner name value) = None

abbrev pub body_at : Shape → Tag → Result Tag Refusal
body_at S b = asked as_body b (item_at S b)

abbrev pub q_of : Item → ℤ
q_of (Shell body q) = q
q_of (Body shell) = pos 0
q_of (Face shell outer) = pos 0
q_of (Loop face fins vertex) = pos 0
q_of (Fin mate edge vertex) = pos 0
q_of (Edge body) = pos 0
q_of (Vertex body point) = pos 0
q_of (Attr owner name value) = pos 0

-- the q of the shell under this tag
abbrev pub q_at : Shape → Tag → ℤ
q_at S shell = option_map_or q_of (item_at S shell) (pos 0)

-- ---- faces

pub record PlacedFace : Type 0 where
  pub shell : Tag
  pub body : Tag
  pub outer : Tag

abbrev pub as_face : Shape → Item → Option PlacedFace
as_face S (Face shell outer) =
    Some (record { shell = shell; body = owner_in S shell; outer = outer })
as_face S (Body shell) = None
as_face S (Shell body q) = None
as_face S (Loop face fins vertex) = None
as_face S (Fin mate edge vertex) = None
as_face S (Edge body) = None
as_face S (Vertex body point) = None
as_face S (Attr owner name value) = None

abbrev pub face_at : Shape → Tag → Result PlacedFace Refusal
face_at S f = asked (as_face S) f (item_at S f)

abbrev pub outer_of : Item → Tag
outer_of (Face shell outer) = outer
outer_of (Body shell) = tag 0
outer_of (Shell body q) = tag 0
outer_of (Loop face fins vertex) = tag 0
outer_of (Fin mate edge vertex) = tag 0
outer_of (Edge body) = tag 0
outer_of (Vertex body point) = tag 0
outer_of (Attr owner name value) = tag 0

-- the outer loop of the face under this tag
abbrev pub outer_at : Shape → Tag → Tag
outer_at S f = option_map_or outer_of (item_at S f) (tag 0)

-- ---- loops

-- the fins of the loop under this tag
abbrev pub fins_at : Shape → Tag → List Tag
fins_at S l = option_map_or fins_of (item_at S l) []

abbrev pub lone_of : Item → Option Tag
lone_of (Loop face fins vertex) = vertex
lone_of (Body shell) = None
lone_of (Shell body q) = None
lone_of (Face shell outer) = None
lone_of (Fin mate edge vertex) = None
lone_of (Edge body) = None
lone_of (Vertex body point) = None
lone_of (Attr owner name value) = None

-- the lone vertex of the loop under this tag
abbrev pub lone_at : Shape → Tag → Option Tag
lone_at S l = option_and_then lone_of (item_at S l)

-- a loop, its face, and the outer loop of that
pub record PlacedLoop : Type 0 where
  pub face : Tag
  pub outer : Tag
  pub shell : Tag
  pub body : Tag

abbrev pub placed_loop : Shape → Tag → PlacedLoop
placed_loop S face = record {
  face = face;
  outer = outer_at S face;
  shell = owner_in S face;
  body = body_of S face;
}

abbrev pub as_loop : Shape → Item → Option PlacedLoop
as_loop S (Loop face fins vertex) = Some (placed_loop S face)
as_loop S (Body shell) = None
as_loop S (Shell body q) = None
as_loop S (Face shell outer) = None
as_loop S (Fin mate edge vertex) = None
as_loop S (Edge body) = None
as_loop S (Vertex body point) = None
as_loop S (Attr owner name value) = None

abbrev pub loop_at : Shape → Tag → Result PlacedLoop Refusal
loop_at S l = asked (as_loop S) l (item_at S l)

-- ---- fins

-- a fin: its mate, its edge, the vertex where it starts, and its loop, whose fins are written from
-- this one
pub record PlacedFin : Type 0 where
  pub mate : Tag
  pub edge : Tag
  pub vertex : Tag
  pub loop_ : Tag
  pub face : Tag
  pub shell : Tag
  pub body : Tag
  pub fins : List Tag

abbrev pub placed_fin : Shape → Tag → Tag → Tag → Tag → Tag → PlacedFin
placed_fin S f mate edge vertex l = record {
  mate = mate;
  edge = edge;
  vertex = vertex;
  loop_ = l;
  face = owner_in S l;
  shell = owner_in S (owner_in S l);
  body = body_of S l;
  fins = written_from f (fins_at S l);
}

abbrev pub as_fin : Shape → Tag → Item → Option PlacedFin
as_fin S f (Fin mate edge vertex) = Some (placed_fin S f mate edge vertex (owner_in S f))
as_fin S f (Body shell) = None
as_fin S f (Shell body q) = None
as_fin S f (Face shell outer) = None
as_fin S f (Loop face fins vertex) = None
as_fin S f (Edge body) = None
as_fin S f (Vertex body point) = None
as_fin S f (Attr owner name value) = None

abbrev pub fin_at : Shape → Tag → Result PlacedFin Refusal
fin_at S f = asked (as_fin S f) f (item_at S f)

abbrev pub vertex_of : Item → Tag
vertex_of (Fin mate edge vertex) = vertex
vertex_of (Body shell) = tag 0
vertex_of (Shell body q) = tag 0
vertex_of (Face shell outer) = tag 0
vertex_of (Loop face fins vertex) = tag 0
vertex_of (Edge body) = tag 0
vertex_of (Vertex body point) = tag 0
vertex_of (Attr owner name value) = tag 0

-- the vertex where the fin under this tag starts
abbrev pub start_at : Shape → Tag → Tag
start_at S f = option_map_or vertex_of (item_at S f) (tag 0)

abbrev pub mate_of : Item → Tag
mate_of (Fin mate edge vertex) = mate
mate_of (Body shell) = tag 0
mate_of (Shell body q) = tag 0
mate_of (Face shell outer) = tag 0
mate_of (Loop face fins vertex) = tag 0
mate_of (Edge body) = tag 0
mate_of (Vertex body point) = tag 0
mate_of (Attr owner name value) = tag 0

-- the mate of the fin under this tag
abbrev pub mate_at : Shape → Tag → Tag
mate_at S f = option_map_or mate_of (item_at S f) (tag 0)

abbrev pub the_origin : Point
the_origin = record { x = pos 0; y = pos 0; z = pos 0 }

abbrev pub point_of_vertex : Item → Point
point_of_vertex (Vertex body point) = point
point_of_vertex (Body shell) = the_origin
point_of_vertex (Shell body q) = the_origin
point_of_vertex (Face shell outer) = the_origin
point_of_vertex (Loop face fins vertex) = the_origin
point_of_vertex (Fin mate edge vertex) = the_origin
point_of_vertex (Edge body) = the_origin
point_of_vertex (Attr owner name value) = the_origin

-- the point of the vertex under this tag
abbrev pub point_at : Shape → Tag → Point
point_at S v = option_map_or point_of_vertex (item_at S v) the_origin

-- ---- ends for an edge

-- An end for a new edge: where a fin starts, or the lone vertex of a loop. The loop's fins are
-- written from that fin; at a lone vertex there are none.
pub record End : Type 0 where
  pub vertex : Tag
  pub loop_ : Tag
  pub face : Tag
  pub body : Tag
  pub fins : List Tag

abbrev pub end_in : Shape → Tag → Tag → List Tag → End
end_in S vertex l fins = record {
  vertex = vertex;
  loop_ = l;
  face = owner_in S l;
  body = body_of S l;
  fins = fins;
}

-- refused where it is neither a fin nor a loop, and else where it is a loop with fins
abbrev pub end_of_item : Shape → Tag → Option Item → Result End Refusal
end_of_item S t None = Err (NoSuchTag t)
end_of_item S t (Some (Fin mate edge vertex)) =
    Ok (end_in S vertex (owner_in S t) (written_from t (fins_at S (owner_in S t))))
end_of_item S t (Some (Loop face fins (Some vertex))) = Ok (end_in S vertex t [])
end_of_item S t (Some (Loop face fins None)) = Err (NotBare t)
end_of_item S t (Some (Body shell)) = Err (WrongClass t class.Body)
end_of_item S t (Some (Shell body q)) = Err (WrongClass t class.Shell)
end_of_item S t (Some (Face shell outer)) = Err (WrongClass t class.Face)
end_of_item S t (Some (Edge body)) = Err (WrongClass t class.Edge)
end_of_item S t (Some (Vertex body point)) = Err (WrongClass t class.Vertex)
end_of_item S t (Some (Attr owner name value)) = Err (WrongClass t class.Attr)

abbrev pub end_at : Shape → Tag → Result End Refusal
end_at S t = end_of_item S t (item_at S t)

-- ---- loops that are made

-- the loop under this tag, as a loop of another face
abbrev pub in_face : Shape → Tag → Tag → Item
in_face S l face = Loop face (fins_at S l) (lone_at S l)
