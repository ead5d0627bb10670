-- A lamina: a flat body of two faces, whose n corners c0, c1 and so on stand at one height.
--
--     mvfs at c0                          takes body 0, shell 1, face 2, loop 3, vertex 4
--     mev from the loop to c1, from       the edge to ci takes 4i + 1 to 4i + 4: vertex, edge,
--     there to c2, and so on              out, back
--     mef from the first fin out to       takes face 4n + 1, loop, edge, x, y
--     the last fin back
--
-- The first face looks down, and the list of its loop is the fins back from the last one on, and y.
-- The new face looks up, and the list of its loop is the fins out from the first one on, and x.
use Rattle.std.specs.Prelude.{◌+◌, ◌*◌, ℤ, nat_lt, ◌||◌, List, [], ◌∷◌, length, map, Option, Ok, option_map}
use Rattle.std.specs.List.{flat_map}
use Rattle.pk_base.specs.declared.entity.Pair.{Pair}
use Rattle.pk_base.specs.declared.entity.Triple.{Triple}
use Rattle.pk_base.specs.declared.refusal.Refusal.{Refusal}
use Rattle.pk_base.specs.declared.refusal.Refusal.TheVariants.{CornerCount, BadPolygon}
use Rattle.pk_model.specs.Tags.{tag_at}
use Rattle.pk_plane.specs.Polygons.{bad_corner}
use Rattle.solid_model.specs.Items.{Shape}
use Rattle.solid_model.specs.Rows.{Row, refuse_where, ◌>>◌}
use Rattle.solid_model.specs.Rows.Effect.{Makes}
use Rattle.solid_model.specs.Ranges.{is_coordinate, refuse_outside}
use Rattle.solid_model.specs.Folds.{Progress, after_row, after_path}
use Rattle.solid_model.specs.Mvfs.{mvfs}
use Rattle.solid_model.specs.Mef.{mef}

abbrev pub at_height : ℤ → Pair → Triple
at_height z c = record { x = c.x; y = c.y; z = z }

abbrev pub after_lamina : ℤ → List Pair → Progress → Progress
after_lamina z [] p = p
after_lamina z (c ∷ cs) p =
    let vertex = after_row (mvfs p.shape (at_height z c)) p in
    let path = after_path (tag_at p.tags 3) (map (at_height z) cs) vertex in
    after_row (mef path.shape (tag_at p.tags 7) (tag_at p.tags (4 * length (c ∷ cs)))) path

-- there are 3 to 256 corners
abbrev pub refuse_count : List Pair → Option Refusal
refuse_count corners =
    refuse_where (nat_lt (length corners) 3 || nat_lt 256 (length corners))
    (CornerCount (length corners))

-- each x and y is a coordinate
abbrev pub refuse_corners : List Pair → Option Refusal
refuse_corners corners = refuse_outside is_coordinate (flat_map (λ c. c.x ∷ c.y ∷ []) corners)

-- the corners go round a simple polygon, counter-clockwise
abbrev pub refuse_polygon : List Pair → Option Refusal
refuse_polygon corners = option_map BadPolygon (bad_corner corners)

abbrev pub lamina : Shape → ℤ → List Pair → Row
lamina S z corners =
    refuse_count corners
    >> refuse_outside is_coordinate (z ∷ [])
    >> refuse_corners corners
    >> refuse_polygon corners
    >> Ok (Makes (4 * length corners + 6)
    (λ tags. (after_lamina z corners (record { shape = S; tags = tags })).shape))
