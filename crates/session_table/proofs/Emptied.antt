-- Slots that are taken out one by one.
use Rattle.std.proofs.Common.{◌≡◌, ℕ, zero, suc, ◌+◌, Bool, false, ap, sym, refl, subst, ◌∙◌, arith, List, [], ◌∷◌, ◌++◌, map, get_or, set, take, drop}
use mathlib.Core.Option.{some-injective, some-ne-none}
use mathlib.Core.Option as maybe
use lib.ListN.{get_elem?}
use Rattle.std.specs.Prelude.{Option, Some, None}
use Rattle.std.proofs.lemmas.Option.{none-some}

module _ {X : Type 0} where
  none_there : (xs : List X) (i : ℕ) → get_elem? (map (λ (x : X). Some x) xs) i ≡ maybe.some None → ⊥
  none_there [] i e = some-ne-none None (sym e)
  none_there (x ∷ xs) zero e = none-some x (sym (some-injective (Some x) None e))
  none_there (x ∷ xs) (suc i) e = none_there xs i e

  pub not_empty : (slots : List (Option X)) (xs : List X) (i : ℕ) → drop 1 slots ≡ map Some xs → get_elem? slots (i + 1) ≡ maybe.some None → ⊥
  not_empty [] xs i is e = some-ne-none None (sym e)
  not_empty (y ∷ ys) xs i is e = none_there xs i
      (ap (λ (l : List (Option X)). get_elem? l i) (sym is) ∙ subst (λ (k : ℕ). get_elem? (y ∷ ys) k ≡ maybe.some None) (let q : i + 1 ≡ suc i = omega arith in q) e)

  more_there : (ys : List (Option X)) (i : ℕ) (y : Option X) → get_elem? ys i ≡ maybe.some y → take (suc i) ys ≡ take i ys ++ y ∷ []
  more_there [] i y e = absurd (some-ne-none y (sym e))
  more_there (z ∷ zs) zero y e = ap (λ (k : Option X). k ∷ []) (some-injective z y e)
  more_there (z ∷ zs) (suc i) y e = ap (λ (l : List (Option X)). z ∷ l) (more_there zs i y e)

  pub one_taken : (slots : List (Option X)) (i : ℕ) (y : Option X) → get_elem? slots (i + 1) ≡ maybe.some y → take (i + 1) (drop 1 slots) ≡ take i (drop 1 slots) ++ y ∷ []
  one_taken [] i y e = absurd (some-ne-none y (sym e))
  one_taken (z ∷ zs) i y e =
      ap (λ (k : ℕ). take k zs) (let q : i + 1 ≡ suc i = omega arith in q)
      ∙ more_there zs i y (subst (λ (k : ℕ). get_elem? (z ∷ zs) k ≡ maybe.some y) (let q : i + 1 ≡ suc i = omega arith in q) e)

pub set_false : (l : List Bool) (i : ℕ) → get_or (set l i false) i false ≡ false
set_false [] i = refl
set_false (x ∷ xs) zero = refl
set_false (x ∷ xs) (suc i) = set_false xs i
