-- The Newell vector of a cyclic list of points.
use Rattle.std.proofs.Common.{◌≡◌, ◌≤◌, List, [], ◌∷◌, ◌++◌, length, refl, sym, ap, ◌∙◌, append-nil, arith}
use Rattle.std.specs.Prelude.{ℤ, pos, ◌+ℤ◌, ◌-ℤ◌, ◌*ℤ◌, map}
use Rattle.std.specs.List.{fold}
use Rattle.std.proofs.Math.IntN.{*ℤ_comm, zero-*ℤ, +ℤ_assoc, +ℤ_comm, +ℤ_idl, +ℤ_idr}
use Rattle.std.proofs.lemmas.Int.{ints}
use Rattle.pk_base.specs.declared.entity.Point.{Point}
use Rattle.pk_base.specs.declared.entity.Triple.{Triple}
use Rattle.pk_plane.specs.Vectors.{cross, plus, no_vector, dot}
use Rattle.solid_model.specs.Rings.{neighbours, neighbours_from}
use Rattle.solid_model.proofs.lists.Neighbours.{neighbours_from-append}
use Rattle.std.proofs.lemmas.List.{map-append}

abbrev pub pair_cross : Point × Point → Triple
pair_cross x = cross x.0 x.1

abbrev pub sum_of : List Triple → Triple
sum_of vs = fold plus no_vector vs

-- what `newell` is of the points of a loop
abbrev pub newell_of : List Point → Triple
newell_of ps = sum_of (map pair_cross (neighbours ps))

-- ---- sums of vectors

plus_assoc : (a b c : Triple) → plus (plus a b) c ≡ plus a (plus b c)
plus_assoc a b c = λ i. record { x = +ℤ_assoc a.x b.x c.x i; y = +ℤ_assoc a.y b.y c.y i; z = +ℤ_assoc a.z b.z c.z i }

plus_comm : (a b : Triple) → plus a b ≡ plus b a
plus_comm a b = λ i. record { x = +ℤ_comm a.x b.x i; y = +ℤ_comm a.y b.y i; z = +ℤ_comm a.z b.z i }

plus_idl : (a : Triple) → plus no_vector a ≡ a
plus_idl a = λ i. record { x = +ℤ_idl a.x i; y = +ℤ_idl a.y i; z = +ℤ_idl a.z i }

plus_idr : (a : Triple) → plus a no_vector ≡ a
plus_idr a = λ i. record { x = +ℤ_idr a.x i; y = +ℤ_idr a.y i; z = +ℤ_idr a.z i }

fold-plus : (a : Triple) (vs : List Triple) → fold plus a vs ≡ plus a (sum_of vs)
fold-plus a [] = sym (plus_idr a)
fold-plus a (v ∷ vs) =
    fold-plus (plus a v) vs ∙ plus_assoc a v (sum_of vs)
    ∙ ap (plus a) (sym (fold-plus v vs) ∙ ap (λ x. fold plus x vs) (sym (plus_idl v)))

pub sum-more : (v : Triple) (vs : List Triple) → sum_of (v ∷ vs) ≡ plus v (sum_of vs)
sum-more v vs = ap (λ x. fold plus x vs) (plus_idl v) ∙ fold-plus v vs

sum-append : (us vs : List Triple) → sum_of (us ++ vs) ≡ plus (sum_of us) (sum_of vs)
sum-append [] vs = sym (plus_idl (sum_of vs))
sum-append (u ∷ us) vs =
    sum-more u (us ++ vs) ∙ ap (plus u) (sum-append us vs) ∙ sym (plus_assoc u (sum_of us) (sum_of vs))
    ∙ ap (λ x. plus x (sum_of vs)) (sym (sum-more u us))

-- ---- a cyclic list that is written from another of its points

in_two : (a x : Point) (xs : List Point) (b y : Point) (ys : List Point)
    → sum_of (map pair_cross (neighbours_from a x xs ++ neighbours_from b y ys)) ≡ sum_of (map pair_cross (neighbours_from b y ys ++ neighbours_from a x xs))
in_two a x xs b y ys =
    let us = neighbours_from a x xs in
    let vs = neighbours_from b y ys in
    ap sum_of (map-append pair_cross us vs) ∙ sum-append (map pair_cross us) (map pair_cross vs)
    ∙ plus_comm (sum_of (map pair_cross us)) (sum_of (map pair_cross vs))
    ∙ sym (sum-append (map pair_cross vs) (map pair_cross us)) ∙ ap sum_of (sym (map-append pair_cross vs us))

pub newell-turned : (xs ys : List Point) → newell_of (xs ++ ys) ≡ newell_of (ys ++ xs)
newell-turned [] ys = ap newell_of (sym (append-nil ys))
newell-turned (x ∷ xs) [] = ap newell_of (append-nil (x ∷ xs))
newell-turned (x ∷ xs) (y ∷ ys) =
    ap (λ ns. sum_of (map pair_cross ns)) (neighbours_from-append x x xs y ys)
    ∙ in_two y x xs x y ys
    ∙ ap (λ ns. sum_of (map pair_cross ns)) (sym (neighbours_from-append y y ys x xs))

-- ---- a list of fewer than three points

none_left : (a b : ℤ) → a ≡ b → pos 0 +ℤ (a -ℤ b) ≡ pos 0
none_left a b h = omega (arith, ints)

none_left_of_two : (a b c d : ℤ) → a ≡ d → b ≡ c → (pos 0 +ℤ (a -ℤ b)) +ℤ (c -ℤ d) ≡ pos 0
none_left_of_two a b c d h k = omega (arith, ints)

few_none : (ps : List Point) → length ps ≤ 2 → newell_of ps ≡ no_vector
few_none [] h = refl
few_none (p ∷ []) h = λ i. record {
  x = none_left (p.y *ℤ p.z) (p.z *ℤ p.y) (*ℤ_comm p.y p.z) i;
  y = none_left (p.z *ℤ p.x) (p.x *ℤ p.z) (*ℤ_comm p.z p.x) i;
  z = none_left (p.x *ℤ p.y) (p.y *ℤ p.x) (*ℤ_comm p.x p.y) i;
}
few_none (p ∷ q ∷ []) h = λ i. record {
  x = none_left_of_two (p.y *ℤ q.z) (p.z *ℤ q.y) (q.y *ℤ p.z) (q.z *ℤ p.y) (*ℤ_comm p.y q.z) (*ℤ_comm p.z q.y) i;
  y = none_left_of_two (p.z *ℤ q.x) (p.x *ℤ q.z) (q.z *ℤ p.x) (q.x *ℤ p.z) (*ℤ_comm p.z q.x) (*ℤ_comm p.x q.z) i;
  z = none_left_of_two (p.x *ℤ q.y) (p.y *ℤ q.x) (q.x *ℤ p.y) (q.y *ℤ p.x) (*ℤ_comm p.x q.y) (*ℤ_comm p.y q.x) i;
}
few_none (p ∷ q ∷ r ∷ ps) h = absurd (omega (arith, h))

no_vector-dot : (by : Triple) → dot no_vector by ≡ pos 0
no_vector-dot by = λ i. (zero-*ℤ by.x i +ℤ zero-*ℤ by.y i) +ℤ zero-*ℤ by.z i

pub few-flat : (ps : List Point) (by : Triple) → length ps ≤ 2 → dot (newell_of ps) by ≡ pos 0
few-flat ps by h = ap (λ v. dot v by) (few_none ps h) ∙ no_vector-dot by
