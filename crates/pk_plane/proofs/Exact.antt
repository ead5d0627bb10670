-- Sums and differences of two numbers within one size, in 128 bits: they fit, and are exact.
use Rattle.std.proofs.Common.{◌≡◌, ℕ, ◌+◌, ◌^◌, ◌<◌, refl, ap, subst, sym, ◌∙◌, lit<, arith}
use Rattle.std.specs.Prelude.{ℤ, ◌+ℤ◌, ◌-ℤ◌, ◌*ℤ◌, FitsSigned}
use Rattle.std.proofs.lemmas.Int.{to_z-of_z}
use mir.Syntax.{w64, w128}
use mir.Val.{to_z, of_z}
use Rattle.pk_plane.specs.Sizes.{IsWithin, reach}
use Rattle.pk_plane.proofs.Within.{within-add, within-sub, within-fits, operands, exact, fits}

one-fits : (n : ℕ) (a : ℤ) → IsWithin n a → n + n < 2 ^ 127 → FitsSigned w128 a
one-fits n a h k = within-fits w128 n a h (omega arith)

pub minus-fits : (n : ℕ) (a b : ℤ) → IsWithin n a → IsWithin n b → n + n < 2 ^ 127 → FitsSigned w128 (to_z w128 (of_z w128 a) -ℤ to_z w128 (of_z w128 b))
minus-fits n a b h k small = fits w128 ◌-ℤ◌ a b (one-fits n a h small) (one-fits n b k small) (within-fits w128 (n + n) (a -ℤ b) (within-sub n n a b h k) small)

pub plus-fits : (n : ℕ) (a b : ℤ) → IsWithin n a → IsWithin n b → n + n < 2 ^ 127 → FitsSigned w128 (to_z w128 (of_z w128 a) +ℤ to_z w128 (of_z w128 b))
plus-fits n a b h k small = fits w128 ◌+ℤ◌ a b (one-fits n a h small) (one-fits n b k small) (within-fits w128 (n + n) (a +ℤ b) (within-add n n a b h k) small)

-- The operands are given with what they are.
pub minus-is : (n : ℕ) {a b x y : ℤ} → a ≡ x → b ≡ y → IsWithin n a → IsWithin n b → n + n < 2 ^ 127 → to_z w128 (of_z w128 (to_z w128 (of_z w128 a) -ℤ to_z w128 (of_z w128 b))) ≡ x -ℤ y
minus-is n {a} {b} {x} {y} d e h k small =
    exact w128 ◌-ℤ◌ a b (one-fits n a h small) (one-fits n b k small) (within-fits w128 (n + n) (a -ℤ b) (within-sub n n a b h k) small)
    ∙ ap (λ z. z -ℤ b) d ∙ ap (λ z. x -ℤ z) e

pub plus-is : (n : ℕ) {a b x y : ℤ} → a ≡ x → b ≡ y → IsWithin n a → IsWithin n b → n + n < 2 ^ 127 → to_z w128 (of_z w128 (to_z w128 (of_z w128 a) +ℤ to_z w128 (of_z w128 b))) ≡ x +ℤ y
plus-is n {a} {b} {x} {y} d e h k small =
    exact w128 ◌+ℤ◌ a b (one-fits n a h small) (one-fits n b k small) (within-fits w128 (n + n) (a +ℤ b) (within-add n n a b h k) small)
    ∙ ap (λ z. z +ℤ b) d ∙ ap (λ z. x +ℤ z) e

pub minus-within : (n : ℕ) {a b : ℤ} → IsWithin n a → IsWithin n b → n + n < 2 ^ 127 → IsWithin (n + n) (to_z w128 (of_z w128 (to_z w128 (of_z w128 a) -ℤ to_z w128 (of_z w128 b))))
minus-within n {a} {b} h k small = subst (IsWithin (n + n)) (sym (minus-is n refl refl h k small)) (within-sub n n a b h k)

-- a sum that is added to
pub sum-is : (n : ℕ) {a b x y : ℤ} → a ≡ x → b ≡ y → IsWithin n a → IsWithin n b → n + n < 2 ^ 127 → (to_z w128 (of_z w128 a) +ℤ to_z w128 (of_z w128 b)) ≡ x +ℤ y
sum-is n {a} {b} {x} {y} d e h k small = operands w128 ◌+ℤ◌ a b (one-fits n a h small) (one-fits n b k small) ∙ ap (λ z. z +ℤ b) d ∙ ap (λ z. x +ℤ z) e

pub sum-within : (n : ℕ) {a b : ℤ} → IsWithin n a → IsWithin n b → n + n < 2 ^ 127 → IsWithin (n + n) (to_z w128 (of_z w128 a) +ℤ to_z w128 (of_z w128 b))
sum-within n {a} {b} h k small = subst (IsWithin (n + n)) (sym (sum-is n refl refl h k small)) (within-add n n a b h k)

-- what is added to a running sum
pub onto-fits : (n : ℕ) (a b : ℤ) → IsWithin n a → IsWithin n b → n + n < 2 ^ 127 → FitsSigned w128 (a +ℤ to_z w128 (of_z w128 b))
onto-fits n a b h k small = subst (λ z. FitsSigned w128 (a +ℤ z)) (sym (to_z-of_z w128 b (one-fits n b k small))) (within-fits w128 (n + n) (a +ℤ b) (within-add n n a b h k) small)

pub onto-is : (n : ℕ) {a b x y : ℤ} → a ≡ x → b ≡ y → IsWithin n a → IsWithin n b → n + n < 2 ^ 127 → to_z w128 (of_z w128 (a +ℤ to_z w128 (of_z w128 b))) ≡ x +ℤ y
onto-is n {a} {b} {x} {y} d e h k small =
    to_z-of_z w128 _ (onto-fits n a b h k small)
    ∙ ap (λ z. a +ℤ z) (to_z-of_z w128 b (one-fits n b k small) ∙ e) ∙ ap (λ z. z +ℤ y) d

-- ---- the difference of two coordinates, in 64 bits

pub gap-is : {a b : ℤ} → IsWithin reach a → IsWithin reach b → to_z w64 (of_z w64 (to_z w64 (of_z w64 b) -ℤ to_z w64 (of_z w64 a))) ≡ b -ℤ a
gap-is {a} {b} h k = exact w64 ◌-ℤ◌ b a (within-fits w64 reach b k (lit< tt)) (within-fits w64 reach a h (lit< tt)) (within-fits w64 (2 ^ 21) (b -ℤ a) (within-sub reach reach b a k h) (lit< tt))

pub gap-within : {a b : ℤ} → IsWithin reach a → IsWithin reach b → IsWithin (2 ^ 21) (to_z w64 (of_z w64 (to_z w64 (of_z w64 b) -ℤ to_z w64 (of_z w64 a))))
gap-within {a} {b} h k = subst (IsWithin (2 ^ 21)) (sym (gap-is h k)) (within-sub reach reach b a k h)

-- a product of two such differences
pub gaps-are : {r u v x y : ℤ} → r ≡ u *ℤ v → u ≡ x → v ≡ y → r ≡ x *ℤ y
gaps-are {r} {u} {v} {x} {y} e p q = e ∙ ap (λ z. z *ℤ v) p ∙ ap (λ z. x *ℤ z) q
