-- How often a number stands in a list, and lists in which each number stands as often.
use Rattle.std.proofs.Common.{◌≡◌, ◌≢◌, ℕ, zero, suc, ◌+◌, ◌<◌, ◌≤◌, Bool, cond, List, [], ◌∷◌, ◌++◌, ap, sym, refl, subst, arith, eq-eqb, ne_eqb}
use native.Mathlib.Decide.{ℕ_discrete}
use Rattle.std.specs.Prelude.{◌==◌, IsPermutation}
use Rattle.std.specs.List.{range_with_len}
use Rattle.std.proofs.lemmas.List.Sorted.{IsPermutation-refl, IsPermutation-cons, IsPermutation-middle, IsPermutation-trans}
use Rattle.session_table.specs.Rule.{times}

-- one where they are the same
abbrev pub hit : ℕ → ℕ → ℕ
hit x b = cond (x == b) 1 0

pub hit_same : (x b : ℕ) → x ≡ b → hit x b ≡ 1
hit_same x b e = ap (λ (c : Bool). cond c 1 0) (eq-eqb x b e)

pub hit_other : (x b : ℕ) → x ≢ b → hit x b ≡ 0
hit_other x b ne = ap (λ (c : Bool). cond c 1 0) (ne_eqb x b ne)

pub times-append : (b : ℕ) (xs ys : List ℕ) → times b (xs ++ ys) ≡ times b xs + times b ys
times-append b [] ys = omega arith
times-append b (x ∷ xs) ys = let h = times-append b xs ys in omega arith

-- where the list has the number first, somewhere
record IsParted (b : ℕ) (xs : List ℕ) : Type 0 where
  pub before : List ℕ
  pub after : List ℕ
  pub is : xs ≡ before ++ b ∷ after

parted : (b : ℕ) (xs : List ℕ) → 1 ≤ times b xs → IsParted b xs
parted b [] some = absurd (omega arith)
parted b (x ∷ xs) some = elim (ℕ_discrete x b) as (λ _. IsParted b (x ∷ xs)) [
  | yes e ↦ record { before = []; after = xs; is = ap (λ (y : ℕ). y ∷ xs) e }
  | no ne ↦
      let h = parted b xs (let k = hit_other x b ne in omega arith) in
      record { before = x ∷ h.before; after = h.after; is = ap (λ (l : List ℕ). x ∷ l) h.is }
]

parted-times : (b c : ℕ) (before after : List ℕ) → times c (before ++ b ∷ after) ≡ hit b c + times c (before ++ after)
parted-times b c before after = let h = times-append c before (b ∷ after) in let k = times-append c before after in omega arith

-- lists in which each number stands as often are the same in another order
pub same_times : (ys xs : List ℕ) → ((b : ℕ) → times b xs ≡ times b ys) → IsPermutation xs ys
same_times [] [] same = IsPermutation-refl []
same_times [] (x ∷ xs) same = absurd (let h = same x in let k = hit_same x x refl in omega arith)
same_times (y ∷ ys) xs same =
    let p = parted y xs (let h = same y in let k = hit_same y y refl in omega arith) in
    let rest = same_times ys (p.before ++ p.after) (λ b. let h = same b in let k = parted-times y b p.before p.after in let z = ap (times b) p.is in omega arith) in
    subst (λ (l : List ℕ). IsPermutation l (y ∷ ys)) (sym p.is)
    (IsPermutation-trans (p.before ++ y ∷ p.after) (y ∷ (p.before ++ p.after)) (y ∷ ys) (IsPermutation-middle p.before y p.after) (IsPermutation-cons y (p.before ++ p.after) ys rest))

-- ---- the numbers from a on

pub below_none : (a k b : ℕ) → b < a → times b (range_with_len a k) ≡ 0
below_none a zero b low = refl
below_none a (suc k) b low = let h = hit_other a b (λ e. omega arith) in let r = below_none (a + 1) k b (omega arith) in omega arith

pub above_none : (a k b : ℕ) → a + k ≤ b → times b (range_with_len a k) ≡ 0
above_none a zero b high = refl
above_none a (suc k) b high = let h = hit_other a b (λ e. omega arith) in let r = above_none (a + 1) k b (omega arith) in omega arith

pub within_once : (a k b : ℕ) → a ≤ b → b < a + k → times b (range_with_len a k) ≡ 1
within_once a zero b low high = absurd (omega arith)
within_once a (suc k) b low high = elim (ℕ_discrete a b) as (λ _. times b (range_with_len a (suc k)) ≡ 1) [
  | yes e ↦ let h = hit_same a b e in let r = below_none (a + 1) k b (omega arith) in omega arith
  | no ne ↦ let h = hit_other a b ne in let r = within_once (a + 1) k b (omega arith) (omega arith) in omega arith
]
