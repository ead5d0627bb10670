-- mev makes an edge to a new vertex w, from the vertex u at an end t (Mäntylä 1988: make edge,
-- vertex).
--
--     before:  t A                 after:  out back t A    where t is a fin
--              lone vertex u               out back        where t is a loop with a lone vertex
--
-- t and out start at u, and back starts at w. kev undoes it.
use Rattle.std.specs.Prelude.{[], ◌∷◌}
use Rattle.pk_base.specs.declared.tag.Tag.{Tag}
use Rattle.pk_base.specs.declared.entity.Triple.{Triple}
use Rattle.pk_model.specs.Step.{◌>>=◌}
use Rattle.solid_model.specs.Items.{Shape, ◌with◌}
use Rattle.solid_model.specs.Items.Item.{Fin, Edge, Vertex}
use Rattle.solid_model.specs.Rings.{ring_of}
use Rattle.solid_model.specs.Rows.{Row, makes_four, ◌>>◌}
use Rattle.solid_model.specs.Places.{end_at}
use Rattle.solid_model.specs.Ranges.{is_coordinate, numbers_of, point_of, refuse_outside}

abbrev pub mev : Shape → Tag → Triple → Row
mev S t at = do
  u ← end_at S t
  refuse_outside is_coordinate (numbers_of at)
  makes_four (λ vertex edge out back. S with
      (vertex, Vertex u.body (point_of at)) ∷
      (edge, Edge u.body) ∷
      (out, Fin back edge u.vertex) ∷
      (back, Fin out edge vertex) ∷
      (u.loop_, ring_of u.face (out ∷ back ∷ u.fins)) ∷ [])
