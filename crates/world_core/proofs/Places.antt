-- Lists of which one item changes.
use Rattle.std.proofs.Common.{◌≡◌, ℕ, zero, suc, ◌+◌, ◌<◌, true, List, [], ◌∷◌, ◌++◌, length, get_or, sym, ap, subst, ◌∙◌, append_assoc, arith, nat_lt}
use Rattle.std.specs.Prelude.{slice_set, IsPermutation}
use Rattle.std.specs.List.{flat_map, list_all, range_with_len, AllByRecursion}
use Rattle.std.proofs.lemmas.Bool.{lt-ltb, and_from}
use Rattle.std.proofs.lemmas.List.Sorted.{IsPermutation-sym, IsPermutation-trans, IsPermutation-append_left, IsPermutation-append_right, IsPermutation-append_comm}
use Rattle.list_facts.proofs.Each.{ByRecursion-left, ByRecursion-right}

-- an item is replaced by one of which f has more
pub set_adds : {X A : Type 0} (f : X → List A) (xs : List X) (i : ℕ) (y d : X) (es : List A) → i < length xs → f y ≡ f (get_or xs i d) ++ es → IsPermutation (flat_map f xs ++ es) (flat_map f (slice_set xs i y))
set_adds f [] i y d es h e = absurd (omega arith)
set_adds f (x ∷ xs) zero y d es h e =
    let rest = flat_map f xs in
    subst (λ l. IsPermutation l (f y ++ rest)) (sym (append_assoc (f x) rest es))
    (subst (IsPermutation (f x ++ (rest ++ es))) (sym (append_assoc (f x) es rest) ∙ ap (λ l. l ++ rest) (sym e))
    (IsPermutation-append_right (f x) (rest ++ es) (es ++ rest) (IsPermutation-append_comm rest es)))
set_adds f (x ∷ xs) (suc i) y d es h e =
    let rest = flat_map f xs in
    subst (λ l. IsPermutation l (f x ++ flat_map f (slice_set xs i y))) (sym (append_assoc (f x) rest es))
    (IsPermutation-append_right (f x) (rest ++ es) (flat_map f (slice_set xs i y)) (set_adds f xs i y d es (omega arith) e))

-- what all items had were these numbers, and now it is those
pub set_counts : {X : Type 0} (f : X → List ℕ) (xs : List X) (i : ℕ) (y d : X) (es before after : List ℕ) → i < length xs → f y ≡ f (get_or xs i d) ++ es → before ++ es ≡ after → IsPermutation (flat_map f xs) before → IsPermutation (flat_map f (slice_set xs i y)) after
set_counts f xs i y d es before after h e is p =
    IsPermutation-trans (flat_map f (slice_set xs i y)) (flat_map f xs ++ es) after
    (IsPermutation-sym (flat_map f xs ++ es) (flat_map f (slice_set xs i y)) (set_adds f xs i y d es h e))
    (subst (IsPermutation (flat_map f xs ++ es)) is (IsPermutation-append_left es (flat_map f xs) before p))

-- one number more
pub range_more : (a k : ℕ) → range_with_len a k ++ (a + k) ∷ [] ≡ range_with_len a (k + 1)
range_more a zero = ap (λ n. n ∷ []) (omega arith)
range_more a (suc k) =
    let e : a + suc k ≡ (a + 1) + k = omega arith in
    let f : suc (k + 1) ≡ suc k + 1 = omega arith in
    ap (λ n. a ∷ (range_with_len (a + 1) k ++ n ∷ [])) e
    ∙ ap (λ l. a ∷ l) (range_more (a + 1) k)
    ∙ ap (range_with_len a) f

pub range_below : (a k n : ℕ) → a + k < n + 1 → AllByRecursion (λ b. b < n) (range_with_len a k)
range_below a zero n h = tt
range_below a (suc k) n h = (omega arith, range_below (a + 1) k n (omega arith))

-- what holds of all that f gives holds of what it gives of one item
pub of_one : {X A : Type 0} (P : A → Type 0) (f : X → List A) (xs : List X) (i : ℕ) (d : X) → i < length xs → AllByRecursion P (flat_map f xs) → AllByRecursion P (f (get_or xs i d))
of_one P f [] i d h all = absurd (omega arith)
of_one P f (x ∷ xs) zero d h all = ByRecursion-left P (f x) (flat_map f xs) all
of_one P f (x ∷ xs) (suc i) d h all = of_one P f xs i d (omega arith) (ByRecursion-right P (f x) (flat_map f xs) all)

pub all_below : (bs : List ℕ) (n : ℕ) → AllByRecursion (λ b. b < n) bs → list_all (λ o. nat_lt o n) bs ≡ true
all_below [] n h = cc
all_below (b ∷ bs) n h = and_from _ _ (lt-ltb b n h.0) (all_below bs n h.1)
