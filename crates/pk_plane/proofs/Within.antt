-- Numbers within a size: their sums, differences and products, and the widths that they fit.
use Rattle.std.proofs.Common.{◌≡◌, ℕ, ◌+◌, ◌*◌, ◌^◌, ◌≤◌, ◌<◌, ap, subst, sym, ◌∙◌, mul-le-mul, arith}
use Rattle.std.specs.Prelude.{ℤ, pos, negsuc, neg_ℤ, nat_abs, ◌+ℤ◌, ◌-ℤ◌, ◌*ℤ◌, ◌≤ℤ◌, FitsSigned}
use Rattle.std.proofs.lemmas.Int.{ints, to_z-of_z, unsigned_abs-mul, fits_signed_from_abs}
use mir.Syntax.{Width}
use mir.Val.{hbits, to_z, of_z}
use Rattle.pk_plane.specs.Sizes.{IsWithin}

-- ---- the size of a result

pub abs-within : (n : ℕ) (v : ℤ) → IsWithin n v → nat_abs v ≤ n
abs-within n (pos k) h = let high : pos k ≤ℤ pos n = h.high in omega (arith, ints)
abs-within n (negsuc k) h = let low : neg_ℤ (pos n) ≤ℤ negsuc k = h.low in omega (arith, ints)

pub within-abs : (n : ℕ) (v : ℤ) → nat_abs v ≤ n → IsWithin n v
within-abs n (pos k) h = record { low = omega (arith, ints); high = omega (arith, ints) }
within-abs n (negsuc k) h = record { low = omega (arith, ints); high = omega (arith, ints) }

pub within-mul : (m n : ℕ) (a b : ℤ) → IsWithin m a → IsWithin n b → IsWithin (m * n) (a *ℤ b)
within-mul m n a b h k = within-abs (m * n) (a *ℤ b) (subst (λ i. i ≤ m * n) (sym (unsigned_abs-mul a b)) (mul-le-mul (abs-within m a h) (abs-within n b k)))

pub within-add : (m n : ℕ) (a b : ℤ) → IsWithin m a → IsWithin n b → IsWithin (m + n) (a +ℤ b)
within-add m n a b h k = record { low = omega (arith, ints); high = omega (arith, ints) }

pub within-sub : (m n : ℕ) (a b : ℤ) → IsWithin m a → IsWithin n b → IsWithin (m + n) (a -ℤ b)
within-sub m n a b h k = record { low = omega (arith, ints); high = omega (arith, ints) }

pub within-more : (m n : ℕ) (v : ℤ) → m ≤ n → IsWithin m v → IsWithin n v
within-more m n v h k = record { low = omega (arith, ints); high = omega (arith, ints) }

-- ---- what fits a width

pub within-fits : (w : Width) (n : ℕ) (v : ℤ) → IsWithin n v → n < 2 ^ hbits w → FitsSigned w v
within-fits w n v h k = fits_signed_from_abs w v (let small = abs-within n v h in omega arith)

pub fits-within : (w : Width) (v : ℤ) → FitsSigned w v → IsWithin (2 ^ hbits w) v
fits-within w (pos k) h = within-abs (2 ^ hbits w) (pos k) (let small : k < 2 ^ hbits w = h.sfits in omega arith)
fits-within w (negsuc k) h = within-abs (2 ^ hbits w) (negsuc k) (let small : k < 2 ^ hbits w = h.sfits in omega arith)

-- ---- an operation on numbers that fit is exact where its result fits

pub operands : (w : Width) (f : ℤ → ℤ → ℤ) (a b : ℤ) → FitsSigned w a → FitsSigned w b → f (to_z w (of_z w a)) (to_z w (of_z w b)) ≡ f a b
operands w f a b p q = ap (λ x. f x (to_z w (of_z w b))) (to_z-of_z w a p) ∙ ap (f a) (to_z-of_z w b q)

pub exact : (w : Width) (f : ℤ → ℤ → ℤ) (a b : ℤ) → FitsSigned w a → FitsSigned w b → FitsSigned w (f a b) → to_z w (of_z w (f (to_z w (of_z w a)) (to_z w (of_z w b)))) ≡ f a b
exact w f a b p q r = ap (λ z. to_z w (of_z w z)) (operands w f a b p q) ∙ to_z-of_z w (f a b) r

pub fits : (w : Width) (f : ℤ → ℤ → ℤ) (a b : ℤ) → FitsSigned w a → FitsSigned w b → FitsSigned w (f a b) → FitsSigned w (f (to_z w (of_z w a)) (to_z w (of_z w b)))
fits w f a b p q r = subst (FitsSigned w) (sym (operands w f a b p q)) r
