-- A sweep of a face without rings by a vector that points out of it. f1 to fn are the fins of its
-- loop from the first one, u1 to un the vertices where they start.
--
--     mev at fi to ui and the vector,     takes 4i - 4 to 4i - 1: vertex wi, edge, out oi, back bi
--     for each i
--     mef from bi to the next b, for      the first takes 4n to 4n + 4, and so on: face, loop,
--     each i but the last                 edge, xi, yi
--     mef from bn to y1                   takes face, loop, edge, xn, yn
--
-- Side face i has the loop `bi fi o(i+1) xi`, the last one `bn fn o1 xn`. The swept face keeps its
-- tag and its loop, whose list is then `y1 .. yn`.
use Rattle.std.specs.Prelude.{◌+◌, ◌*◌, pos, int_lt, not, [], ◌∷◌, ◌++◌, length, map, Ok}
use Rattle.std.specs.List.{range_with_len, flat_map}
use Rattle.pk_base.specs.declared.tag.Tag.{Tag}
use Rattle.pk_base.specs.declared.entity.Point.{Point}
use Rattle.pk_base.specs.declared.entity.Triple.{Triple}
use Rattle.pk_base.specs.declared.refusal.Refusal.TheVariants.{HasRings, FlatSweep}
use Rattle.pk_model.specs.Tags.{tag_at}
use Rattle.pk_model.specs.Step.{◌>>=◌}
use Rattle.pk_plane.specs.Vectors.{dot}
use Rattle.pk_plane.specs.Turns.{moved}
use Rattle.solid_model.specs.Items.{Shape}
use Rattle.solid_model.specs.Owners.{has_rings}
use Rattle.solid_model.specs.Rows.{Row, refuse_where, ◌>>◌}
use Rattle.solid_model.specs.Rows.Effect.{Makes}
use Rattle.solid_model.specs.Places.{face_at, fins_at, outer_at, start_at, point_at}
use Rattle.solid_model.specs.Ranges.{is_component, is_coordinate, numbers_of, coordinates_of, refuse_outside}
use Rattle.solid_model.specs.Newell.{newell, starts_of}
use Rattle.solid_model.specs.Folds.{Progress, after_edges, after_cuts}

abbrev pub triple_of : Point → Triple
triple_of p = record { x = p.x; y = p.y; z = p.z }

-- where an edge from the start of this fin leads, along the vector
abbrev pub along : Shape → Triple → Tag → Tag × Triple
along S by f = (f, triple_of (moved by (point_at S (start_at S f))))

abbrev pub after_sweep : Tag → Triple → Progress → Progress
after_sweep face by p =
    let fins = fins_at p.shape (outer_at p.shape face) in
    let n = length fins in
    let backs = map (λ i. tag_at p.tags (4 * i + 3)) (range_with_len 0 n) in
    let first_y = tag_at p.tags (4 * n + 4) in
    after_cuts (backs ++ first_y ∷ []) (after_edges (map (along p.shape by) fins) p)

abbrev pub sweep : Shape → Tag → Triple → Row
sweep S f by = do
  face ← face_at S f
  refuse_where (has_rings S f) (HasRings f)
  refuse_outside is_component (numbers_of by)
  refuse_outside is_coordinate
      (flat_map (λ p. coordinates_of (moved by p)) (starts_of S face.outer))
  refuse_where (not (int_lt (pos 0) (dot (newell S face.outer) by))) FlatSweep
  Ok (Makes (9 * length (fins_at S face.outer))
      (λ tags. (after_sweep f by (record { shape = S; tags = tags })).shape))
