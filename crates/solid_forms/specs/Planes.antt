-- Plane faces.
use Rattle.std.specs.Prelude.{◌≡◌, ◌↔◌, ℤ, List, ◌++◌, map, Option, Some, None}
use Rattle.std.specs.List.{AllByRecursion}
use Rattle.pk_base.specs.declared.tag.Tag.{Tag}
use Rattle.pk_base.specs.declared.entity.Point.{Point}
use Rattle.pk_plane.specs.Vectors.{dot}
use Rattle.solid_model.specs.Items.{Shape, item_at}
use Rattle.solid_model.specs.Items.Item.{Face, Loop}
use Rattle.solid_model.specs.Places.{outer_at, start_at, point_at}
use Rattle.solid_model.specs.Newell.{newell}
use Rattle.solid_model.specs.Sound.{optional}
use Rattle.solid_model.specs.Sweep.{triple_of}

-- the points where the fins of a loop start, and its lone vertex
abbrev pub points_round : Shape → List Tag → Option Tag → List Point
points_round S fins lone =
    map (λ f. point_at S (start_at S f)) fins ++ map (point_at S) (optional lone)

-- All points of the loops of the face have one product with the Newell vector of its outer loop.
pub record IsPlane (S : Shape) (f : Tag) : Type 0 where
  pub level : ℤ
  pub points : (l : Tag) (fins : List Tag) (lone : Option Tag)
      → item_at S l ≡ Some (Loop f fins lone)
      → AllByRecursion (λ p. dot (triple_of p) (newell S (outer_at S f)) ≡ level)
      (points_round S fins lone)

-- each face that did not stand before is plane
abbrev pub NewFacesArePlane : Shape → Shape → Type 0
NewFacesArePlane S R =
    (f shell outer : Tag) → item_at S f ≡ None → item_at R f ≡ Some (Face shell outer) → IsPlane R f

-- The face has the loops that it had, and they have the points that they had.
pub record HasItsPoints (S R : Shape) (f : Tag) : Type 0 where
  pub loops : (l : Tag) (fins : List Tag) (lone : Option Tag)
      → item_at S l ≡ Some (Loop f fins lone) ↔ item_at R l ≡ Some (Loop f fins lone)
  pub points : (l : Tag) (fins : List Tag) (lone : Option Tag)
      → item_at S l ≡ Some (Loop f fins lone)
      → points_round R fins lone ≡ points_round S fins lone
