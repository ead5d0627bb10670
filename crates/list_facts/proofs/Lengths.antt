-- How long lists are, and lists of at most one element.
use Rattle.std.proofs.Common.{◌≡◌, ◌+◌, ◌≤◌, List, [], ◌∷◌, ◌++◌, length, Option, None, Some, refl, arith}
use Rattle.std.specs.List.{filter_map, cons_option}

pub nil_of_length : {X : Type 0} (xs : List X) → length xs ≡ 0 → xs ≡ []
nil_of_length [] e = refl
nil_of_length (x ∷ xs) e = absurd (omega arith)

pub length-cons_option : {X : Type 0} (o : Option X) (xs : List X) → length (cons_option o xs) ≤ 1 + length xs
length-cons_option None xs = omega arith
length-cons_option (Some x) xs = omega arith

pub length-filter_map : {X Y : Type 0} (h : X → Option Y) (xs : List X) → length (filter_map h xs) ≤ length xs
length-filter_map h [] = omega arith
length-filter_map h (x ∷ xs) = omega (arith, length-cons_option (h x) (filter_map h xs), length-filter_map h xs)

pub cons_option-append : {X : Type 0} (o : Option X) (xs : List X) → cons_option o [] ++ xs ≡ cons_option o xs
cons_option-append None xs = refl
cons_option-append (Some x) xs = refl
