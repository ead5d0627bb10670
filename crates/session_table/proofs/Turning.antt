-- A row that turns.
use Rattle.std.proofs.Common.{◌≡◌, ◌≢◌, ℕ, zero, suc, ◌+◌, ◌<◌, Bool, true, false, ap, ap₂, sym, refl, subst, ◌∙◌, arith, List, [], ◌∷◌, ◌++◌, length, get_or, take, drop, append_assoc, ne_eqb}
use Rattle.std.specs.Prelude.{◌==◌, ◌||◌}
use Rattle.std.specs.List.{list_any, remove}
use Rattle.std.proofs.Math.Seq.{drop-cons, take-suc}
use Rattle.std.proofs.lemmas.List.{map-append, drop-map, take-map, take-append-drop}
use Rattle.std.proofs.lemmas.List.Folds.{list_any-append}
use Rattle.atomic_table.specs.Table.{turned, rest}
use Rattle.session_table.specs.Slots.{numbers}

false_not_true : false ≡ true → ⊥
false_not_true e = cc

-- where a number is among the rest, and is not the next one, it is among those behind it
pub further : (p : ℕ) (xs : List ℕ) (i : ℕ) → list_any (λ q. q == p) (drop i xs) ≡ true → i < length xs
further p [] zero e = absurd (false_not_true e)
further p [] (suc i) e = absurd (false_not_true e)
further p (x ∷ xs) zero e = omega arith
further p (x ∷ xs) (suc i) e = let h = further p xs i e in omega arith

pub behind : (p : ℕ) (xs : List ℕ) (i d : ℕ) → list_any (λ q. q == p) (drop i xs) ≡ true → get_or xs i d ≢ p → list_any (λ q. q == p) (drop (i + 1) xs) ≡ true
behind p xs i d e ne =
    let more = drop-cons xs i d (further p xs i e) in
    subst (λ (k : ℕ). list_any (λ q. q == p) (drop k xs) ≡ true) (let h : suc i ≡ i + 1 = omega arith in h)
    (sym (ap (λ (b : Bool). b || list_any (λ q. q == p) (drop (suc i) xs)) (ne_eqb (get_or xs i d) p ne)) ∙ (sym (ap (list_any (λ q. q == p)) more) ∙ e))

pub turn_once : {A : Type 0} (xs : List (ℕ × A)) (i : ℕ) → i < length xs → turned (drop i xs ++ take i xs) ≡ drop (i + 1) xs ++ take (i + 1) xs
turn_once [] i h = absurd (omega arith)
turn_once (x ∷ xs) i h =
    let all : List (ℕ × _) = x ∷ xs in let y = get_or all i x in
    ap (λ (l : List (ℕ × _)). turned (l ++ take i all)) (drop-cons all i x h)
    ∙ append_assoc (drop (suc i) all) (take i all) (y ∷ [])
    ∙ ap (λ (l : List (ℕ × _)). drop (suc i) all ++ l) (sym (take-suc all i x h))
    ∙ ap (λ (k : ℕ). drop k all ++ take k all) (let e : suc i ≡ i + 1 = omega arith in e)

pub numbers_there : {A : Type 0} (xs : List (ℕ × A)) (i : ℕ) → numbers (drop i xs ++ take i xs) ≡ drop i (numbers xs) ++ take i (numbers xs)
numbers_there xs i = map-append (λ x. x.0) (drop i xs) (take i xs) ∙ ap₂ ◌++◌ (sym (drop-map (λ x. x.0) i xs)) (sym (take-map (λ x. x.0) i xs))

or_turned : (a b : Bool) → (a || b) ≡ (b || a)
or_turned true true = refl
or_turned true false = refl
or_turned false true = refl
or_turned false false = refl

pub any_there : (test : ℕ → Bool) (xs : List ℕ) (i : ℕ) → list_any test (drop i xs ++ take i xs) ≡ list_any test xs
any_there test xs i = list_any-append test (drop i xs) (take i xs) ∙ or_turned (list_any test (drop i xs)) (list_any test (take i xs))
    ∙ sym (list_any-append test (take i xs) (drop i xs)) ∙ ap (list_any test) (take-append-drop i xs)

first_of_row : {A : Type 0} (row : List (ℕ × A)) (p : ℕ) (others : List ℕ) → numbers row ≡ p ∷ others → (y : A) × (row ≡ (p, y) ∷ rest row)
first_of_row [] p others e = absurd (let h : 0 ≡ suc (length others) = ap length e in omega arith)
first_of_row (x ∷ xs) p others e = (x.1, let h : x.0 ≡ p = ap (λ (l : List ℕ). get_or l 0 p) e in λ i. (h i, x.1) ∷ xs)

-- the slot that was at the place i is in front
pub front_there : {A : Type 0} (row : List (ℕ × A)) (held : List ℕ) (i p : ℕ) → numbers row ≡ drop i held ++ take i held → i < length held → get_or held i 0 ≡ p → (y : A) × (row ≡ (p, y) ∷ rest row)
front_there row held i p is near there = first_of_row row p (drop (suc i) held ++ take i held)
    (is ∙ ap (λ (l : List ℕ). l ++ take i held) (drop-cons held i 0 near ∙ ap (λ (k : ℕ). k ∷ drop (suc i) held) there))

-- the numbers without the one in front
pub rest_numbers : {A : Type 0} (row : List (ℕ × A)) (held : List ℕ) → numbers row ≡ held → numbers (rest row) ≡ remove held 0
rest_numbers [] held e = subst (λ (l : List ℕ). [] ≡ remove l 0) e refl
rest_numbers (x ∷ xs) held e = subst (λ (l : List ℕ). numbers xs ≡ remove l 0) e refl
