-- Digits, read from the left.
use Rattle.std.proofs.Common.{◌≡◌, ℕ, ◌+◌, ◌-◌, ◌*◌, ◌≤◌, nat_lt, ◌&&◌, Bool, true, false, if◌then◌else◌, List, [], ◌∷◌, length, eqb, Option, None, Some, option_and_then, refl, ap, arith}
use Rattle.std.proofs.lemmas.Bool.{ltb-false, le-ltb}
use Rattle.std.specs.List.{list_all}
use Rattle.script_text.specs.Numbers.{is_digit, digits_of, digits_value, below}

-- the number below a limit that the digits spell after some that spell `front`
abbrev pub digits_from : ℕ → ℕ → List ℕ → Option ℕ
digits_from limit front ds = if list_all is_digit ds then below limit (Some (digits_value front ds)) else None

-- one more digit
abbrev pub digit_onto : ℕ → ℕ → ℕ → Option ℕ
digit_onto limit front d = if is_digit d then below limit (Some (10 * front + (d - 48))) else None

-- more digits make no smaller number
digits_value_ge : (front : ℕ) (ds : List ℕ) → front ≤ digits_value front ds
digits_value_ge front [] = omega arith
digits_value_ge front (d ∷ ds) = omega (arith, digits_value_ge (10 * front + (d - 48)) ds)

digit_step : (one all small : Bool) (limit v : ℕ) (value : ℕ → ℕ) → v ≤ value v → nat_lt v limit ≡ small →
    (if one && all then below limit (Some (value v)) else None) ≡ option_and_then (λ x. if all then below limit (Some (value x)) else None) (if one then (if small then Some v else None) else None)
digit_step false all small limit v value le e = refl
digit_step true all true limit v value le e = refl
digit_step true false false limit v value le e = refl
digit_step true true false limit v value le e = ap (λ b. if b then Some (value v) else None) (le-ltb (value v) limit (omega (arith, ltb-false v limit e)))

pub digits_from_step : (limit front d : ℕ) (ds : List ℕ) → digits_from limit front (d ∷ ds) ≡ option_and_then (λ v. digits_from limit v ds) (digit_onto limit front d)
digits_from_step limit front d ds =
    let v = 10 * front + (d - 48) in
    digit_step (is_digit d) (list_all is_digit ds) (nat_lt v limit) limit v (λ x. digits_value x ds) (digits_value_ge v ds) refl

pub digits_from_word : (limit : ℕ) (word : List ℕ) → eqb (length word) 0 ≡ false → below limit (digits_of word) ≡ digits_from limit 0 word
digits_from_word limit [] h = cc
digits_from_word limit (d ∷ ds) h = elim (list_all is_digit (d ∷ ds)) as (λ b. below limit (if b then Some (digits_value 0 (d ∷ ds)) else None) ≡ (if b then below limit (Some (digits_value 0 (d ∷ ds))) else None)) [ true ↦ refl | false ↦ refl ]
