-- How many loops more than faces there are is computed in 64 bits, exactly.
use Rattle.std.proofs.Common.{◌≡◌, ℕ, ◌+◌, ◌*◌, ◌^◌, ◌<◌, ◌∙◌, lit<, arith}
use Rattle.std.specs.Prelude.{ℤ, pos, ◌+ℤ◌, ◌-ℤ◌, ◌*ℤ◌, FitsSigned}
use Rattle.std.proofs.lemmas.Int.{to_z-of_z}
use mir.Syntax.{w32, w64}
use mir.Val.{hbits, to_z, of_z}
use Rattle.pk_plane.specs.Sizes.{IsWithin}
use Rattle.pk_plane.proofs.Within.{fits-within, within-abs, within-add, within-fits, within-mul, within-sub}
use Rattle.queries.specs.Formula.{rings_by_formula}

abbrev kept : ℤ → ℤ
kept z = to_z w64 (of_z w64 z)

number : (n : ℕ) → n < 4294967296 → IsWithin 4294967296 (pos n)
number n h = within-abs 4294967296 (pos n) (omega (arith, h))

pub number-kept : (n : ℕ) → n < 4294967296 → kept (pos n) ≡ pos n
number-kept n h = to_z-of_z w64 (pos n) (within-fits w64 4294967296 (pos n) (number n h) (lit< tt))

pub number-fits : (n : ℕ) → n < 4294967296 → FitsSigned w64 (pos n)
number-fits n h = within-fits w64 4294967296 (pos n) (number n h) (lit< tt)

module _ (v e f : ℕ) (q : ℤ) (v_fits : v < 4294967296) (e_fits : e < 4294967296) (f_fits : f < 4294967296) (q_fits : FitsSigned w32 q) where
  q_small : IsWithin (2 ^ hbits w32) q
  q_small = fits-within w32 q q_fits

  q_kept : kept q ≡ q
  q_kept = to_z-of_z w64 q (within-fits w64 (2 ^ hbits w32) q q_small (lit< tt))

  twice : kept (pos 2 *ℤ q) ≡ pos 2 *ℤ q
  twice = to_z-of_z w64 (pos 2 *ℤ q) (within-fits w64 (2 * 2 ^ hbits w32) (pos 2 *ℤ q) (within-mul 2 (2 ^ hbits w32) (pos 2) q (within-abs 2 (pos 2) (omega arith)) q_small) (lit< tt))

  less : IsWithin (4294967296 + 4294967296) (pos v -ℤ pos e)
  less = within-sub 4294967296 4294967296 (pos v) (pos e) (number v v_fits) (number e e_fits)

  less_kept : kept (pos v -ℤ pos e) ≡ pos v -ℤ pos e
  less_kept = to_z-of_z w64 (pos v -ℤ pos e) (within-fits w64 (4294967296 + 4294967296) (pos v -ℤ pos e) less (lit< tt))

  more_kept : kept ((pos v -ℤ pos e) +ℤ pos f) ≡ (pos v -ℤ pos e) +ℤ pos f
  more_kept =
      let n : ℕ = 4294967296 + 4294967296 + 4294967296 in
      to_z-of_z w64 ((pos v -ℤ pos e) +ℤ pos f) (within-fits w64 n ((pos v -ℤ pos e) +ℤ pos f) (within-add (4294967296 + 4294967296) 4294967296 (pos v -ℤ pos e) (pos f) less (number f f_fits)) (lit< tt))

  pub exactly : (x y z u : ℤ) → x ≡ pos v → y ≡ pos e → z ≡ pos f → u ≡ q
      → kept (kept (kept x -ℤ kept y) +ℤ kept z) -ℤ kept (pos 2 *ℤ kept u) ≡ rings_by_formula v e f q
  exactly x y z u x_is y_is z_is u_is =
      let one : kept (kept x -ℤ kept y) ≡ pos v -ℤ pos e =
      (λ i. kept (kept (x_is i) -ℤ kept (y_is i))) ∙ (λ i. kept (number-kept v v_fits i -ℤ number-kept e e_fits i)) ∙ less_kept in
      let two : kept (kept (kept x -ℤ kept y) +ℤ kept z) ≡ (pos v -ℤ pos e) +ℤ pos f =
      (λ i. kept (one i +ℤ kept (z_is i))) ∙ (λ i. kept ((pos v -ℤ pos e) +ℤ number-kept f f_fits i)) ∙ more_kept in
      let three : kept (pos 2 *ℤ kept u) ≡ pos 2 *ℤ q = (λ i. kept (pos 2 *ℤ kept (u_is i))) ∙ (λ i. kept (pos 2 *ℤ q_kept i)) ∙ twice in
      λ i. two i -ℤ three i
