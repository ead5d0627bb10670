-- Numbers below another one, and places of a list.
use Rattle.std.proofs.Common.{◌≡◌, ℕ, suc, ◌+◌, ◌<◌, ◌≤◌, ◌⊎◌, ⊎_elim, List, [], ◌∷◌, ◌++◌, length, refl, subst, arith}
use Rattle.std.specs.List.{AllByRecursion}
use Rattle.pk_base.specs.declared.tag.Tag.{Tag}
use Rattle.pk_model.specs.Tags.{tag_at}

-- ---- numbers

pub or_more : (a b : ℕ) → (a < b) ⊎ (b ≤ a)
or_more a b = grind arith

pub less_or_more : (a b : ℕ) → (a < b) ⊎ ((b < a) ⊎ (a ≡ b))
less_or_more a b = grind arith

pub within_or_last : (i n : ℕ) → i < n → (i + 1 < n) ⊎ (i + 1 ≡ n)
within_or_last i n h = grind arith

-- what holds below n and at n
pub all_below_more : (P : ℕ → Type 0) (n : ℕ) → ((i : ℕ) → i < n → P i) → P n → (i : ℕ) → i < n + 1 → P i
all_below_more P n h last i less = ⊎_elim (λ (l : i < n). h i l)
    (λ (m : n ≤ i). (let same : n ≡ i = omega (arith, less, m) in subst P same last))
    (or_more i n)

pub all_below : (P : ℕ → Type 0) (n : ℕ) → ((i : ℕ) → i < n → P i) → P n → (i : ℕ) → i < suc n → P i
all_below P n h last i less = all_below_more P n h last i (omega (arith, less))

-- ---- lists

pub head_is : {X : Type 0} (x y : X) (xs ys : List X) → x ∷ xs ≡ y ∷ ys → x ≡ y
head_is x y xs ys h = cc

pub tail_is : {X : Type 0} (x y : X) (xs ys : List X) → x ∷ xs ≡ y ∷ ys → xs ≡ ys
tail_is x y xs ys h = cc

pub length-last : {X : Type 0} (xs : List X) (x : X) → length (xs ++ x ∷ []) ≡ suc (length xs)
length-last [] x = refl
length-last (y ∷ ys) x = let rest = length-last ys x in omega (arith, rest)

-- what holds at every place holds of each
pub each_place : (P : Tag → Type 0) (xs : List Tag) → ((i : ℕ) → i < length xs → P (tag_at xs i)) → AllByRecursion P xs
each_place P [] h = tt
each_place P (x ∷ xs) h = (h 0 (omega arith), each_place P xs (λ i less. h (suc i) (omega (arith, less))))
