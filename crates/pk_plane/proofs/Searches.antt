-- Searches that count up: the first number that passes a test, or that none does.
use Rattle.std.proofs.Common.{◌≡◌, ℕ, zero, suc, ◌+◌, ◌<◌, Bool, true, false, cond, ◌||◌, Some, None, refl, ap, subst, ◌∙◌, below_more, arith}
use Rattle.std.specs.Prelude.{find}
use Rattle.std.specs.List.{range_with_len, list_any}

pub or-true : (a : Bool) {b : Bool} → b ≡ true → (a || b) ≡ true
or-true true e = refl
or-true false e = e

-- each number below this one fails the test
pub record AllFail (p : ℕ → Bool) (n : ℕ) : Type 0 where
  pub fails : (k : ℕ) → k < n → p k ≡ false

pub none-fail : (p : ℕ → Bool) → AllFail p 0
none-fail p = record { fails = λ k h. absurd (omega arith) }

pub one-more : (p : ℕ → Bool) (n : ℕ) → AllFail p n → p n ≡ false → AllFail p (n + 1)
one-more p n h e = record { fails = below_more (λ k. p k ≡ false) n h.fails e }

any-from : (p : ℕ → Bool) (a n : ℕ) → ((k : ℕ) → k < n → p (a + k) ≡ false) → list_any p (range_with_len a n) ≡ false
any-from p a zero h = refl
any-from p a (suc n) h =
    let here : p a ≡ false = subst (λ i. p i ≡ false) (omega arith) (h 0 (omega arith)) in
    let rest = any-from p (a + 1) n (λ k l. subst (λ i. p i ≡ false) (omega arith) (h (suc k) (omega arith))) in
    ap (λ b. b || list_any p (range_with_len (a + 1) n)) here ∙ rest

any-found : (p : ℕ → Bool) (a n j : ℕ) → j < n → p (a + j) ≡ true → list_any p (range_with_len a n) ≡ true
any-found p a zero j h e = absurd (omega arith)
any-found p a (suc n) zero h e =
    let here : p a ≡ true = subst (λ i. p i ≡ true) (omega arith) e in
    ap (λ b. b || list_any p (range_with_len (a + 1) n)) here
any-found p a (suc n) (suc j) h e =
    let rest = any-found p (a + 1) n j (omega arith) (subst (λ i. p i ≡ true) (omega arith) e) in
    or-true (p a) rest

find-from : (p : ℕ → Bool) (a n : ℕ) → ((k : ℕ) → k < n → p (a + k) ≡ false) → find p (range_with_len a n) ≡ None
find-from p a zero h = refl
find-from p a (suc n) h =
    let here : p a ≡ false = subst (λ i. p i ≡ false) (omega arith) (h 0 (omega arith)) in
    let rest = find-from p (a + 1) n (λ k l. subst (λ i. p i ≡ false) (omega arith) (h (suc k) (omega arith))) in
    ap (λ b. cond b (Some a) (find p (range_with_len (a + 1) n))) here ∙ rest

find-found : (p : ℕ → Bool) (a n j : ℕ) → j < n → ((k : ℕ) → k < j → p (a + k) ≡ false) → p (a + j) ≡ true → find p (range_with_len a n) ≡ Some (a + j)
find-found p a zero j h below e = absurd (omega arith)
find-found p a (suc n) zero h below e =
    let here : p a ≡ true = subst (λ i. p i ≡ true) (omega arith) e in
    ap (λ b. cond b (Some a) (find p (range_with_len (a + 1) n))) here ∙ ap Some (omega arith)
find-found p a (suc n) (suc j) h below e =
    let here : p a ≡ false = subst (λ i. p i ≡ false) (omega arith) (below 0 (omega arith)) in
    let rest = find-found p (a + 1) n j (omega arith) (λ k l. subst (λ i. p i ≡ false) (omega arith) (below (suc k) (omega arith))) (subst (λ i. p i ≡ true) (omega arith) e) in
    ap (λ b. cond b (Some a) (find p (range_with_len (a + 1) n))) here ∙ rest ∙ ap Some (omega arith)

pub any-none : (p : ℕ → Bool) (n : ℕ) → AllFail p n → list_any p (range_with_len 0 n) ≡ false
any-none p n h = any-from p 0 n (λ k l. subst (λ i. p i ≡ false) (omega arith) (h.fails k l))

pub any-some : (p : ℕ → Bool) (n j : ℕ) → j < n → p j ≡ true → list_any p (range_with_len 0 n) ≡ true
any-some p n j h e = any-found p 0 n j h (subst (λ i. p i ≡ true) (omega arith) e)

pub find-none : (p : ℕ → Bool) (n : ℕ) → AllFail p n → find p (range_with_len 0 n) ≡ None
find-none p n h = find-from p 0 n (λ k l. subst (λ i. p i ≡ false) (omega arith) (h.fails k l))

pub find-some : (p : ℕ → Bool) (n j : ℕ) → j < n → AllFail p j → p j ≡ true → find p (range_with_len 0 n) ≡ Some j
find-some p n j h below e = find-found p 0 n j h (λ k l. subst (λ i. p i ≡ false) (omega arith) (below.fails k l)) (subst (λ i. p i ≡ true) (omega arith) e) ∙ ap Some (omega arith)
