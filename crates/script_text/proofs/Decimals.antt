-- The decimal text of a number: its bytes, and the number that it is.
use Rattle.std.proofs.Common.{◌≡◌, ℕ, zero, suc, ◌/◌, ◌%◌, ◌^◌, ◌+◌, ◌<◌, ◌≤◌, ◌==◌, eqb, ◌&&◌, cond, Bool, true, false, if◌then◌else◌, List, [], ◌∷◌, ℤ, pos, negsuc, neg_ℤ, nat_abs, decimal, refl, ap, ◌∙◌, arith, mod-lt}
use Rattle.std.proofs.lemmas.Bool.{lt-ltb, le-leb, ne_eqb}
use Rattle.std.proofs.lemmas.Fmt.{decimal_is_IsNumeral}
use Rattle.std.specs.Cmp.Derive.{both_true}
use Rattle.std.specs.Fmt.{digit_glyph, digits_onto, digits, signed_decimal}
use Rattle.std.specs.List.{list_all}
use Rattle.std.specs.Str.Parse.{digits_value}
use Rattle.script_text.specs.Numbers.{is_digit}

digit_is : (b : ℕ) → 48 ≤ b → b ≤ 57 → is_digit b ≡ true
digit_is b low high = both_true (le-leb 48 b low) (le-leb b 57 high)

glyph_is : (d : ℕ) → d < 10 → is_digit (digit_glyph false d) ≡ true
glyph_is d h = ap (λ (t : Bool). is_digit (cond t (48 + d) (87 + d))) (lt-ltb d 10 h) ∙ digit_is (48 + d) (omega arith) (omega arith)

-- digits before digits
digits_before : (k n : ℕ) (after : List ℕ) → list_all is_digit after ≡ true → list_all is_digit (digits_onto k 10 false n after) ≡ true
digits_before zero n after h = h
digits_before (suc k) n after h =
    let first = digit_glyph false (n % 10) ∷ after in
    let here : list_all is_digit first ≡ true = both_true (glyph_is (n % 10) (mod-lt n (omega arith))) h in
    let more = digits_before k (n / 10) first here in
    elim (eqb (n / 10) 0) as (λ t. list_all is_digit (cond t first (digits_onto k 10 false (n / 10) first)) ≡ true) [ true ↦ here | false ↦ more ]

-- each byte is a digit
pub decimal_digits : (n : ℕ) → list_all is_digit (decimal n) ≡ true
unfolding digits
decimal_digits n = digits_before 64 n [] refl

-- a byte that is no digit
pub digit_ne : (s b : ℕ) → is_digit s ≡ false → is_digit b ≡ true → (b == s) ≡ false
digit_ne s b other digit = ne_eqb b s (λ e. let same : is_digit b ≡ is_digit s = ap is_digit e in cc)

-- the number of a text
abbrev pub number_in : List ℕ → ℕ
number_in w = digits_value 10 w

pub number_in-decimal : (n : ℕ) → n < 2 ^ 64 → number_in (decimal n) ≡ n
number_in-decimal n h = (decimal_is_IsNumeral n h).1

abbrev pub integer_in : List ℕ → ℤ
integer_in [] = pos 0
integer_in (b ∷ bs) = if b == 45 then neg_ℤ (pos (number_in bs)) else pos (number_in (b ∷ bs))

integer_of_digits : (w : List ℕ) → list_all is_digit w ≡ true → integer_in w ≡ pos (number_in w)
integer_of_digits [] h = refl
integer_of_digits (b ∷ bs) h =
    let first : is_digit b ≡ true = and_first (is_digit b) _ h in
    ap (λ t. if t then neg_ℤ (pos (number_in bs)) else pos (number_in (b ∷ bs))) (digit_ne 45 b refl first)
  where
    and_first : (s t : Bool) → (s && t) ≡ true → s ≡ true
    and_first true t e = refl
    and_first false t e = e

pub integer_in-signed : (z : ℤ) → nat_abs z < 2 ^ 64 → integer_in (signed_decimal z) ≡ z
integer_in-signed (pos n) h = integer_of_digits (decimal n) (decimal_digits n) ∙ ap pos (number_in-decimal n h)
integer_in-signed (negsuc n) h = ap (λ k. neg_ℤ (pos k)) (number_in-decimal (suc n) h)
