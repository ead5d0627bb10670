-- The Newell vector of a loop, which points out of its face.
use Rattle.std.specs.Prelude.{List, map}
use Rattle.std.specs.List.{fold}
use Rattle.pk_base.specs.declared.tag.Tag.{Tag}
use Rattle.pk_base.specs.declared.entity.Point.{Point}
use Rattle.pk_base.specs.declared.entity.Triple.{Triple}
use Rattle.pk_plane.specs.Vectors.{cross, plus, no_vector}
use Rattle.solid_model.specs.Items.{Shape}
use Rattle.solid_model.specs.Rings.{neighbours}
use Rattle.solid_model.specs.Places.{fins_at, start_at, point_at}

-- the points where the fins of a loop start, from its first fin
abbrev pub starts_of : Shape → Tag → List Point
starts_of S l = map (λ f. point_at S (start_at S f)) (fins_at S l)

-- The sum of the products of each start with the next one. It is zero where there are fewer than
-- three.
abbrev pub newell : Shape → Tag → Triple
newell S l = fold plus no_vector (map (λ x. cross x.0 x.1) (neighbours (starts_of S l)))
