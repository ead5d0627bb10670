-- A prism: a lamina, and then the sweep of its new face upwards. Of n corners it takes 13n + 6
-- tags: the 4n + 6 of the lamina, the 9n of the sweep. A block is the prism of a rectangle.
use Rattle.std.specs.Prelude.{◌+◌, ◌*◌, ℤ, pos, ◌+ℤ◌, List, [], ◌∷◌, length, Ok}
use Rattle.pk_base.specs.declared.entity.Pair.{Pair}
use Rattle.pk_base.specs.declared.entity.Triple.{Triple}
use Rattle.pk_model.specs.Tags.{tag_at}
use Rattle.solid_model.specs.Items.{Shape}
use Rattle.solid_model.specs.Rows.{Row, ◌>>◌}
use Rattle.solid_model.specs.Rows.Effect.{Makes}
use Rattle.solid_model.specs.Ranges.{is_coordinate, is_size, numbers_of, refuse_outside}
use Rattle.solid_model.specs.Folds.{Progress}
use Rattle.solid_model.specs.Lamina.{after_lamina, refuse_count, refuse_corners, refuse_polygon}
use Rattle.solid_model.specs.Sweep.{after_sweep}

abbrev pub upwards : ℤ → Triple
upwards h = record { x = pos 0; y = pos 0; z = h }

-- the new face of a lamina of n corners takes its tag at place 4n + 1
abbrev pub after_prism : ℤ → ℤ → List Pair → Progress → Progress
after_prism z h corners p =
    after_sweep (tag_at p.tags (4 * length corners + 1)) (upwards h) (after_lamina z corners p)

abbrev pub makes_prism : Shape → ℤ → ℤ → List Pair → Row
makes_prism S z h corners = Ok (Makes (13 * length corners + 6)
    (λ tags. (after_prism z h corners (record { shape = S; tags = tags })).shape))

abbrev pub prism : Shape → ℤ → ℤ → List Pair → Row
prism S z h corners =
    refuse_count corners
    >> refuse_outside is_coordinate (z ∷ [])
    >> refuse_outside is_size (h ∷ [])
    >> refuse_outside is_coordinate ((z +ℤ h) ∷ [])
    >> refuse_corners corners
    >> refuse_polygon corners
    >> makes_prism S z h corners

abbrev pub pair : ℤ → ℤ → Pair
pair x y = record { x = x; y = y }

-- the rectangle from (x, y) on with these sizes
abbrev pub rectangle : ℤ → ℤ → ℤ → ℤ → List Pair
rectangle x y dx dy =
    pair x y ∷ pair (x +ℤ dx) y ∷ pair (x +ℤ dx) (y +ℤ dy) ∷ pair x (y +ℤ dy) ∷ []

abbrev pub block : Shape → Triple → Triple → Row
block S at size =
    refuse_outside is_coordinate (numbers_of at)
    >> refuse_outside is_size (numbers_of size)
    >> refuse_outside is_coordinate
    ((at.x +ℤ size.x) ∷ (at.y +ℤ size.y) ∷ (at.z +ℤ size.z) ∷ [])
    >> makes_prism S at.z size.z (rectangle at.x at.y size.x size.y)
