-- The lists of the partitions that a thread holds.
use Rattle.std.proofs.Common.{◌≡◌, ℕ, ◌+◌, ◌<◌, ◌≤◌, max, ◌⊎◌, inl, inr, ⊎_elim, Bool, true, false, not, cond, List, [], ◌∷◌, ◌++◌, filter, length, refl, sym, ap, subst, ◌∙◌, arith}
use Rattle.std.specs.Prelude.{◌≢◌, ◌==◌, ◌||◌, nat_le, nat_lt, fold}
use Rattle.std.specs.List.{AllByRecursion}
use Rattle.std.proofs.lemmas.Bool.{cases_lt, cases_order, eq-eqb, eqb-true, leb-false, leb-true, le-ltb, lt-ltb, ltb-true, ne_eqb, or_cases, or_left, or_right, true≢false}
use Rattle.std.proofs.lemmas.List.Folds.{list_any-append}
use Rattle.std.proofs.lemmas.Map.Views.{any-filter_same}
use Rattle.pk_model.specs.Tags.{Ascends}
use Rattle.list_facts.proofs.Each.{ByRecursion-filter, ByRecursion-append, ByRecursion-weaker}
use Rattle.script_text.specs.Walk.{greatest, is_held, with_held, without_held}

-- what holds of all that are held holds of each
pub held_each : (P : ℕ → Type 0) (held : List ℕ) (q : ℕ) → AllByRecursion P held → is_held held q ≡ true → P q
held_each P [] q all h = absurd (true≢false (sym h))
held_each P (p ∷ held) q all h =
    ⊎_elim (λ (here : (p == q) ≡ true). subst P (eqb-true p q here) all.0)
    (λ (there : is_held held q ≡ true). held_each P held q all.1 there) (or_cases _ _ h)

-- what passes a test stays behind it
is_held-filter : (test : ℕ → Bool) (held : List ℕ) (q : ℕ) → test q ≡ true → is_held held q ≡ true → is_held (filter test held) q ≡ true
is_held-filter test held q passes h =
    any-filter_same (λ x. x == q) test true (λ k same. ap test (eqb-true k q same) ∙ passes) held ∙ h

-- p is among the partitions held with it
pub is_held-with_itself : (p : ℕ) (held : List ℕ) → is_held (with_held p held) p ≡ true
is_held-with_itself p held =
    let low = filter (λ q. nat_lt q p) held in
    let high = filter (λ q. nat_lt p q) held in
    list_any-append (λ x. x == p) low (p ∷ high) ∙ or_right (is_held low p) (is_held (p ∷ high) p) (or_left (p == p) (is_held high p) (eq-eqb p p refl))

-- and so is each other
pub is_held-with : (p : ℕ) (held : List ℕ) (q : ℕ) → is_held held q ≡ true → is_held (with_held p held) q ≡ true
is_held-with p held q h =
    let low = filter (λ x. nat_lt x p) held in
    let high = filter (λ x. nat_lt p x) held in
    ⊎_elim (λ (same : q ≡ p). subst (λ x. is_held (with_held p held) x ≡ true) (sym same) (is_held-with_itself p held))
    (⊎_elim (λ (below : q < p). list_any-append (λ x. x == q) low (p ∷ high) ∙ or_left (is_held low q) (is_held (p ∷ high) q) (is_held-filter (λ x. nat_lt x p) held q (lt-ltb q p below) h))
    (λ (above : p < q). list_any-append (λ x. x == q) low (p ∷ high) ∙ or_right (is_held low q) (is_held (p ∷ high) q) (or_right (p == q) (is_held high q) (is_held-filter (λ x. nat_lt p x) held q (lt-ltb p q above) h))))
    (cases_order q p)

-- what holds of all that are held, and of p
pub all_with : (P : ℕ → Type 0) (p : ℕ) (held : List ℕ) → AllByRecursion P held → P p → AllByRecursion P (with_held p held)
all_with P p held all this =
    let low = filter (λ q. nat_lt q p) held in
    let high = filter (λ q. nat_lt p q) held in
    ByRecursion-append P low (p ∷ high) (ByRecursion-filter P (λ q. nat_lt q p) held all) (this, ByRecursion-filter P (λ q. nat_lt p q) held all)

-- each other partition is among those held without p
pub is_held-without : (p : ℕ) (held : List ℕ) (q : ℕ) → q ≢ p → is_held held q ≡ true → is_held (without_held p held) q ≡ true
is_held-without p held q differ h = is_held-filter (λ x. not (x == p)) held q (ap not (ne_eqb q p differ)) h

-- what passes a test, of which each passes
all_filtered : (P : ℕ → Type 0) (test : ℕ → Bool) (xs : List ℕ) → ((x : ℕ) → test x ≡ true → P x) → AllByRecursion P (filter test xs)
all_filtered P test [] f = tt
all_filtered P test (x ∷ xs) f =
    let rest = all_filtered P test xs f in
    elim (test x) as (λ b. test x ≡ b → AllByRecursion P (cond b (x ∷ filter test xs) (filter test xs))) [ true ↦ λ is. (f x is, rest) | false ↦ λ is. rest ] refl

-- what holds of all held but p
pub all_without : (P : ℕ → Type 0) (p : ℕ) (held : List ℕ) → ((q : ℕ) → is_held held q ≡ true → q ≢ p → P q) → AllByRecursion P (without_held p held)
all_without P p [] f = tt
all_without P p (x ∷ held) f =
    let rest = all_without P p held (λ q h differ. f q (or_right (x == q) (is_held held q) h) differ) in
    elim (x == p) as (λ b. (x == p) ≡ b → AllByRecursion P (cond (not b) (x ∷ without_held p held) (without_held p held))) [
      | true ↦ λ is. rest
      | false ↦ λ is. (f x (or_left (x == x) (is_held held x) (eq-eqb x x refl)) (λ (e : x ≡ p). true≢false (sym (eq-eqb x p e) ∙ is)), rest)
    ] refl

-- ---- ascending

-- some of them ascend too
pub Ascends-filter : (test : ℕ → Bool) (xs : List ℕ) → Ascends xs → Ascends (filter test xs)
Ascends-filter test [] h = tt
Ascends-filter test (x ∷ xs) h =
    let rest = Ascends-filter test xs h.1 in
    elim (test x) as (λ b. Ascends (cond b (x ∷ filter test xs) (filter test xs))) [ true ↦ (ByRecursion-filter (λ c. x < c) test xs h.0, rest) | false ↦ rest ]

Ascends-append : (xs ys : List ℕ) → Ascends xs → Ascends ys → AllByRecursion (λ x. AllByRecursion (λ y. x < y) ys) xs → Ascends (xs ++ ys)
Ascends-append [] ys a b h = b
Ascends-append (x ∷ xs) ys a b h = (ByRecursion-append (λ y. x < y) xs ys a.0 h.0, Ascends-append xs ys a.1 b h.1)

-- what is held with p ascends
pub Ascends-with : (p : ℕ) (held : List ℕ) → Ascends held → Ascends (with_held p held)
Ascends-with p held h =
    let low = filter (λ q. nat_lt q p) held in
    let high = filter (λ q. nat_lt p q) held in
    let above : AllByRecursion (λ y. p < y) high = all_filtered (λ y. p < y) (λ q. nat_lt p q) held (λ x t. ltb-true p x t) in
    let below : AllByRecursion (λ x. x < p) low = all_filtered (λ x. x < p) (λ q. nat_lt q p) held (λ x t. ltb-true x p t) in
    let apart : (x : ℕ) → x < p → AllByRecursion (λ y. x < y) (p ∷ high) = λ x lower. (lower, ByRecursion-weaker (λ y. p < y) (λ y. x < y) (λ y higher. omega arith) high above) in
    Ascends-append low (p ∷ high) (Ascends-filter (λ q. nat_lt q p) held h) (above, Ascends-filter (λ q. nat_lt p q) held h)
    (ByRecursion-weaker (λ x. x < p) (λ x. AllByRecursion (λ y. x < y) (p ∷ high)) apart low below)

-- and what is held without p
pub Ascends-without : (p : ℕ) (held : List ℕ) → Ascends held → Ascends (without_held p held)
Ascends-without p held h = Ascends-filter (λ q. not (q == p)) held h

-- ---- the greatest

fold_max-from : (a : ℕ) (xs : List ℕ) → a ≤ fold max a xs
fold_max-from a [] = omega arith
fold_max-from a (x ∷ xs) = let more = fold_max-from (max a x) xs in omega arith

fold_max-each : (a : ℕ) (xs : List ℕ) (q : ℕ) → is_held xs q ≡ true → q ≤ fold max a xs
fold_max-each a [] q h = absurd (true≢false (sym h))
fold_max-each a (x ∷ xs) q h =
    let more = fold_max-from (max a x) xs in
    ⊎_elim (λ (here : (x == q) ≡ true). let e = eqb-true x q here in omega arith)
    (λ (there : is_held xs q ≡ true). fold_max-each (max a x) xs q there) (or_cases _ _ h)

-- none that is held is above the greatest
pub held_le_greatest : (held : List ℕ) (q : ℕ) → is_held held q ≡ true → q ≤ greatest held
held_le_greatest held q h = fold_max-each 0 held q h

-- the greatest of some numbers and m is m, or one of them
greatest_among : (m : ℕ) (ps : List ℕ) → (fold max m ps ≡ m) ⊎ (is_held ps (fold max m ps) ≡ true)
greatest_among m [] = inl refl
greatest_among m (p ∷ ps) = ⊎_elim
    (λ (e : fold max (max m p) ps ≡ max m p). of_two (nat_le p m) refl e)
    (λ (h : is_held ps (fold max (max m p) ps) ≡ true). inr (or_right (p == fold max (max m p) ps) (is_held ps (fold max (max m p) ps)) h))
    (greatest_among (max m p) ps) where
      of_two : (b : Bool) → nat_le p m ≡ b → fold max (max m p) ps ≡ max m p → (fold max (max m p) ps ≡ m) ⊎ (((p == fold max (max m p) ps) || is_held ps (fold max (max m p) ps)) ≡ true)
      of_two true is e = let less : p ≤ m = leb-true p m is in inl (omega (arith, e, less))
      of_two false is e =
          let more : m < p = leb-false p m is in
          let same : fold max (max m p) ps ≡ p = omega (arith, e, more) in
          inr (or_left (p == fold max (max m p) ps) (is_held ps (fold max (max m p) ps)) (eq-eqb p (fold max (max m p) ps) (sym same)))

-- a number that is not held, and not below the greatest, is above it
pub above_greatest : (held : List ℕ) (p : ℕ) → 1 ≤ p → is_held held p ≡ false → greatest held ≤ p → greatest held < p
above_greatest held p some new most = ⊎_elim
    (λ (e : greatest held ≡ 0). omega (arith, e, some))
    (λ (among : is_held held (greatest held) ≡ true). ⊎_elim
    (λ (less : greatest held < p). less)
    (λ (more : p ≤ greatest held). let same : greatest held ≡ p = omega (arith, most, more) in absurd (true≢false (sym among ∙ ap (is_held held) same ∙ new)))
    (cases_lt (greatest held) p))
    (greatest_among 0 held)

-- ---- a number above all

-- all are below what is above the greatest
all_below : (m p : ℕ) (ps : List ℕ) → fold max m ps < p → filter (λ q. nat_lt q p) ps ≡ ps
all_below m p [] above = refl
all_below m p (q ∷ ps) above =
    let less : q < p = omega (arith, above, fold_max-from (max m q) ps) in
    ap (λ b. cond b (q ∷ filter (λ r. nat_lt r p) ps) (filter (λ r. nat_lt r p) ps)) (lt-ltb q p less)
    ∙ ap (λ rs. q ∷ rs) (all_below (max m q) p ps above)

-- and none is above it
none_above : (m p : ℕ) (ps : List ℕ) → fold max m ps < p → filter (λ q. nat_lt p q) ps ≡ []
none_above m p [] above = refl
none_above m p (q ∷ ps) above =
    let less : q ≤ p = omega (arith, above, fold_max-from (max m q) ps) in
    ap (λ b. cond b (q ∷ filter (λ r. nat_lt p r) ps) (filter (λ r. nat_lt p r) ps)) (le-ltb p q less)
    ∙ none_above (max m q) p ps above

-- a partition above all that are held goes behind them
pub with_greatest : (p : ℕ) (held : List ℕ) → greatest held < p → held ++ p ∷ [] ≡ with_held p held
with_greatest p held above =
    ap (λ qs. qs ++ p ∷ []) (sym (all_below 0 p held above))
    ∙ ap (λ qs. filter (λ q. nat_lt q p) held ++ p ∷ qs) (sym (none_above 0 p held above))

-- numbers that ascend from above low, to one below p, are fewer than p
pub few_ascend : (low m p : ℕ) (ps : List ℕ) → Ascends (low ∷ ps) → fold max m ps < p → low < p → length ps + low < p
few_ascend low m p [] h above less = omega (arith, less)
few_ascend low m p (q ∷ ps) h above less =
    omega (arith, h.0.0, few_ascend q (max m q) p ps h.1 above (omega (arith, above, fold_max-from (max m q) ps)))
