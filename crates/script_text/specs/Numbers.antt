-- Numbers by their digits.
use Rattle.std.specs.Prelude.{ℕ, ◌+◌, ◌-◌, ◌*◌, ◌^◌, nat_lt, nat_le, ◌==◌, ◌&&◌, Bool, false, if◌then◌else◌, List, [], ◌∷◌, Option, None, Some, option_map, ℤ, pos, neg_ℤ}
use Rattle.std.specs.Option.{option_and_then}
use Rattle.std.specs.List.{list_all}

abbrev pub is_digit : ℕ → Bool
is_digit b = nat_le 48 b && nat_le b 57

abbrev pub begins_with_digit : List ℕ → Bool
begins_with_digit [] = false
begins_with_digit (b ∷ bs) = is_digit b

abbrev pub digits_value : ℕ → List ℕ → ℕ
digits_value front [] = front
digits_value front (d ∷ ds) = digits_value (10 * front + (d - 48)) ds

-- one or more digits
abbrev pub digits_of : List ℕ → Option ℕ
digits_of [] = None
digits_of (d ∷ ds) = if list_all is_digit (d ∷ ds) then Some (digits_value 0 (d ∷ ds)) else None

-- a number that is below a limit
abbrev pub below : ℕ → Option ℕ → Option ℕ
below limit o = option_and_then (λ n. if nat_lt n limit then Some n else None) o

-- numbers of 32 bits are below this
abbrev pub small_limit : ℕ
small_limit = 2 ^ 32

-- signed numbers of 64 bits are below this, and no less than its negative
abbrev pub number_limit : ℕ
number_limit = 2 ^ 63

-- one or more digits, which fit 32 bits
abbrev pub small_number_of : List ℕ → Option ℕ
small_number_of word = below small_limit (digits_of word)

-- an optional `-` and one or more digits, which fit a signed number of 64 bits
abbrev pub number_of : List ℕ → Option ℤ
number_of [] = None
number_of (b ∷ bs) =
    if b == 45 then option_map (λ n. neg_ℤ (pos n)) (below (number_limit + 1) (digits_of bs))
    else option_map pos (below number_limit (digits_of (b ∷ bs)))
