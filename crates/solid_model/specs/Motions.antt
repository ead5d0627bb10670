-- Moves and quarter turns of a body.
use Rattle.std.specs.Prelude.{ℤ, nat_abs, pos, int_le, Bool, ◌&&◌, List, [], ◌∷◌, map, if◌then◌else◌}
use Rattle.std.specs.List.{filter_map, flat_map}
use Rattle.std.specs.Prelude.{Option, Some, None}
use Rattle.pk_base.specs.Entity.{same_tag}
use Rattle.pk_base.specs.declared.tag.Tag.{Tag}
use Rattle.pk_base.specs.declared.entity.Axis.{Axis}
use Rattle.pk_base.specs.declared.entity.Point.{Point}
use Rattle.pk_base.specs.declared.entity.Triple.{Triple}
use Rattle.pk_model.specs.Step.{◌>>=◌}
use Rattle.pk_plane.specs.Turns.{moved, quarters}
use Rattle.solid_model.specs.Items.{Item, Shape}
use Rattle.solid_model.specs.Items.Item.{Body, Shell, Face, Loop, Fin, Edge, Vertex, Attr}
use Rattle.solid_model.specs.Rows.{Row, changes, ◌>>◌}
use Rattle.solid_model.specs.Places.{body_at}
use Rattle.solid_model.specs.Ranges.{is_component, is_coordinate, numbers_of, coordinates_of, refuse_outside}

-- the item with its point moved so, where it is a vertex of the body
abbrev pub with_point : (Point → Point) → Tag → Item → Item
with_point motion b (Vertex body point) =
    Vertex body (if same_tag body b then motion point else point)
with_point motion b (Body shell) = Body shell
with_point motion b (Shell body q) = Shell body q
with_point motion b (Face shell outer) = Face shell outer
with_point motion b (Loop face fins vertex) = Loop face fins vertex
with_point motion b (Fin mate edge vertex) = Fin mate edge vertex
with_point motion b (Edge body) = Edge body
with_point motion b (Attr owner name value) = Attr owner name value

-- every vertex of the body is moved so
abbrev pub with_points : (Point → Point) → Shape → Tag → Shape
with_points motion S b = map (λ x. (x.0, with_point motion b x.1)) S

-- the point of a vertex of the body
abbrev pub point_in : Tag → Item → Option Point
point_in b (Vertex body point) = if same_tag body b then Some point else None
point_in b (Body shell) = None
point_in b (Shell body q) = None
point_in b (Face shell outer) = None
point_in b (Loop face fins vertex) = None
point_in b (Fin mate edge vertex) = None
point_in b (Edge body) = None
point_in b (Attr owner name value) = None

-- the points of a body, its vertices ascending
abbrev pub points_of : Shape → Tag → List Point
points_of S b = filter_map (λ x. point_in b x.1) S

-- every vertex of the body moves by the vector
abbrev pub move : Shape → Tag → Triple → Row
move S b by = do
  shell ← body_at S b
  refuse_outside is_component (numbers_of by)
  refuse_outside is_coordinate (flat_map (λ p. coordinates_of (moved by p)) (points_of S b))
  changes (with_points (moved by) S b)

abbrev pub is_turn : ℤ → Bool
is_turn k = int_le (pos 1) k && int_le k (pos 3)

-- every vertex of the body is turned about the axis by 1, 2 or 3 quarter turns
abbrev pub turn : Shape → Tag → Axis → ℤ → Row
turn S b axis k = do
  shell ← body_at S b
  refuse_outside is_turn (k ∷ [])
  changes (with_points (quarters (nat_abs k) axis) S b)
