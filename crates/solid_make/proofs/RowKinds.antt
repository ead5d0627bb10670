-- The rows lamina, prism and block make a solid of so many tags.
use Rattle.std.proofs.Common.{◌+◌, ◌*◌, List, [], ◌∷◌, length, Option, Some, None, ℕ, refl}
use Rattle.std.specs.Prelude.{ℤ, ◌+ℤ◌}
use Rattle.pk_base.specs.declared.entity.Pair.{Pair}
use Rattle.pk_base.specs.declared.entity.Triple.{Triple}
use Rattle.pk_base.specs.declared.refusal.Refusal.{Refusal}
use Rattle.solid_calls.proofs.RowKinds.{IsMaking}
use Rattle.solid_model.specs.Items.{Shape}
use Rattle.solid_model.specs.Lamina.{lamina, refuse_corners, refuse_count, refuse_polygon}
use Rattle.solid_model.specs.Prism.{block, prism}
use Rattle.solid_model.specs.Ranges.{is_coordinate, is_size, numbers_of, refuse_outside}
use Rattle.solid_model.specs.Rows.{Row, ◌>>◌}

after : (k : ℕ) (o : Option Refusal) (row : Row) → IsMaking k row → IsMaking k (o >> row)
after k None row h = h
after k (Some e) row h = tt

pub lamina-makes : (S : Shape) (z : ℤ) (corners : List Pair) → IsMaking (4 * length corners + 6) (lamina S z corners)
lamina-makes S z corners =
    let k = 4 * length corners + 6 in
    after k (refuse_count corners) _ (after k (refuse_outside is_coordinate (z ∷ [])) _ (after k (refuse_corners corners) _ (after k (refuse_polygon corners) _ refl)))

pub prism-makes : (S : Shape) (z h : ℤ) (corners : List Pair) → IsMaking (13 * length corners + 6) (prism S z h corners)
prism-makes S z h corners =
    let k = 13 * length corners + 6 in
    after k (refuse_count corners) _ (after k (refuse_outside is_coordinate (z ∷ [])) _ (after k (refuse_outside is_size (h ∷ [])) _
    (after k (refuse_outside is_coordinate ((z +ℤ h) ∷ [])) _ (after k (refuse_corners corners) _ (after k (refuse_polygon corners) _ refl)))))

pub block-makes : (S : Shape) (at size : Triple) → IsMaking 58 (block S at size)
block-makes S at size =
    after 58 (refuse_outside is_coordinate (numbers_of at)) _ (after 58 (refuse_outside is_size (numbers_of size)) _
    (after 58 (refuse_outside is_coordinate ((at.x +ℤ size.x) ∷ (at.y +ℤ size.y) ∷ (at.z +ℤ size.z) ∷ [])) _ refl))
