-- The sum of the areas of the triangles between the origin and each edge, one edge after another.
use Rattle.std.proofs.Common.{◌≡◌, ℕ, ◌+◌, List, [], ◌∷◌, ◌++◌, refl, ap, ◌∙◌, arith}
use Rattle.std.specs.Prelude.{ℤ, ◌+ℤ◌, map}
use Rattle.std.specs.List.{range_with_len, fold}
use Rattle.std.proofs.lemmas.List.FromFn.{map-range_with_len_more}
use Rattle.pk_base.specs.declared.entity.Pair.{Pair}
use Rattle.pk_plane.specs.Polygons.{origin, side, edge, sum_of}

fold-last : {A B : Type 0} (f : B → A → B) (a : B) (xs : List A) (x : A) → fold f a (xs ++ x ∷ []) ≡ f (fold f a xs) x
fold-last f a [] x = refl
fold-last f a (y ∷ ys) x = fold-last f (f a y) ys x

abbrev pub area_at : List Pair → ℕ → ℤ
area_at corners i = side origin (edge corners i).start (edge corners i).end

-- twice the area of the triangles at the first edges
abbrev pub area_of : List Pair → ℕ → ℤ
area_of corners n = sum_of (map (area_at corners) (range_with_len 0 n))

pub area-more : (corners : List Pair) (n : ℕ) → area_of corners (n + 1) ≡ area_of corners n +ℤ area_at corners n
area-more corners n = ap sum_of (map-range_with_len_more (area_at corners) 0 n n (omega arith)) ∙ fold-last ◌+ℤ◌ _ (map (area_at corners) (range_with_len 0 n)) (area_at corners n)
