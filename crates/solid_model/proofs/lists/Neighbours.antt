-- Cyclic lists of tags: their parts, their neighbours, and how often a tag stands in them.
use Rattle.std.proofs.Common.{◌≡◌, ◌≢◌, ℕ, zero, suc, ◌+◌, ◌<◌, ◌≤◌, ◌⊎◌, inl, inr, ⊎_elim, Bool, true, false, not, ◌||◌, cond, List, [], ◌∷◌, ◌++◌, refl, sym, ap, subst, ◌∙◌, append-nil, arith}
use Rattle.std.specs.Prelude.{T, ◌&&◌, unwrap_or, Contains}
use Rattle.std.specs.List.{count_by}
use Rattle.std.proofs.lemmas.Bool.{true≢false, cases_Bool, or_left, or_right, or_cases, or_parts, or_from, not-true, not_from_false}
use Rattle.std.proofs.lemmas.List.Sums.{sum_by-cons, sum_by-append}
use Rattle.std.proofs.lemmas.List.Elements.{Contains-append_right}
use Rattle.pk_base.specs.Entity.{same_tag}
use Rattle.pk_base.proofs.Same.{differs_means, not_same, same_itself, same_means, same_tag-Decides}
use Rattle.pk_model.proofs.TagLists.{NoneOf}
use Rattle.pk_base.specs.declared.tag.Tag.{Tag}
use Rattle.pk_model.specs.Apart.{NoRepeats}
use Rattle.solid_model.specs.Rings.{is_among, before, from, first_tag, neighbours, neighbours_from}
use Rattle.list_facts.proofs.Elements.{not_in_nil, Contains-first, Contains-later, Contains-cases}
use Rattle.list_facts.proofs.Each.{ByRecursion-append, ByRecursion-contains, ByRecursion-at}

-- ---- tests

pub both_parts : (a b : Bool) → T (a && b) → T a × T b
both_parts true b h = (tt, h)
both_parts false b h = absurd h

pub both_from : (a b : Bool) → T a → T b → T (a && b)
both_from true b h k = k
both_from false b h k = h

pub neither_parts : (a b : Bool) → not (a || b) ≡ true → (a ≡ false) × (b ≡ false)
neither_parts a b h = or_parts a b (not-true (a || b) h)

pub neither_from : (a b : Bool) → a ≡ false → b ≡ false → not (a || b) ≡ true
neither_from a b h k = not_from_false (a || b) (or_from a b h k)

pub zero_or_more : (n : ℕ) → (n ≡ 0) ⊎ (1 ≤ n)
zero_or_more zero = inl refl
zero_or_more (suc n) = inr (omega arith)

-- ---- how often a tag stands in a list

abbrev pub one_if : Bool → ℕ
one_if b = cond b 1 0

abbrev pub times : Tag → List Tag → ℕ
times f ts = count_by (λ t. same_tag t f) ts

pub times-cons : (f t : Tag) (ts : List Tag) → times f (t ∷ ts) ≡ one_if (same_tag t f) + times f ts
times-cons f t ts = sum_by-cons (λ (x : Tag). one_if (same_tag x f)) t ts

pub times-append : (f : Tag) (ts us : List Tag) → times f (ts ++ us) ≡ times f ts + times f us
times-append f ts us = sum_by-append (λ (x : Tag). one_if (same_tag x f)) ts us

pub times-in : (f : Tag) (ts : List Tag) → Contains ts f → 1 ≤ times f ts
times-in f [] h = absurd (not_in_nil f h)
times-in f (t ∷ ts) h =
    ⊎_elim (λ (l : t ≡ f).
    let e : one_if (same_tag t f) ≡ 1 = ap one_if ((same_tag-Decides t f).1 l) in
    omega (arith, times-cons f t ts))
    (λ (r : Contains ts f). omega (arith, times-cons f t ts, times-in f ts r))
    (Contains-cases t ts f h)

pub in-times : (f : Tag) (ts : List Tag) → 1 ≤ times f ts → Contains ts f
in-times f [] h = absurd (omega arith)
in-times f (t ∷ ts) h =
    ⊎_elim (λ (l : same_tag t f ≡ true). subst (Contains (t ∷ ts)) (same_means t f l) (Contains-first t ts))
    (λ (r : same_tag t f ≡ false).
    let e : one_if (same_tag t f) ≡ 0 = ap one_if r in
    Contains-later t ts f (in-times f ts (omega (arith, times-cons f t ts))))
    (cases_Bool (same_tag t f))

-- ---- parts of a list

pub before-from : (f : Tag) (ts : List Tag) → before f ts ++ from f ts ≡ ts
before-from f [] = refl
before-from f (t ∷ ts) = elim (same_tag t f) as (λ b. cond b [] (t ∷ before f ts) ++ cond b (t ∷ ts) (from f ts) ≡ t ∷ ts) [
  | true ↦ refl
  | false ↦ ap (λ us. t ∷ us) (before-from f ts)
]

-- a list around one of its tags
pub record Parts (f : Tag) (ts : List Tag) : Type 0 where
  pub pre : List Tag
  pub post : List Tag
  pub is : ts ≡ pre ++ f ∷ post
  pub before_is : before f ts ≡ pre
  pub from_is : from f ts ≡ f ∷ post

pub parts : (f : Tag) (ts : List Tag) → Contains ts f → Parts f ts
parts f [] h = absurd (not_in_nil f h)
parts f (t ∷ ts) h =
    ⊎_elim (λ (l : same_tag t f ≡ true). record {
      pre = [];
      post = ts;
      is = ap (λ u. u ∷ ts) (same_means t f l);
      before_is = ap (λ b. cond b [] (t ∷ before f ts)) l;
      from_is = ap (λ b. cond b (t ∷ ts) (from f ts)) l ∙ ap (λ u. u ∷ ts) (same_means t f l);
    })
    (λ (r : same_tag t f ≡ false).
    let later = ⊎_elim (λ (e : t ≡ f). absurd (differs_means t f r e)) (λ (k : Contains ts f). k) (Contains-cases t ts f h) in
    let p = parts f ts later in
    record {
      pre = t ∷ p.pre;
      post = p.post;
      is = ap (λ us. t ∷ us) p.is;
      before_is = ap (λ b. cond b [] (t ∷ before f ts)) r ∙ ap (λ us. t ∷ us) p.before_is;
      from_is = ap (λ b. cond b (t ∷ ts) (from f ts)) r ∙ p.from_is;
    })
    (cases_Bool (same_tag t f))

-- a tag that does not stand in the first part is found behind it
pub parts_at : (f : Tag) (pre post : List Tag) → ¬ (Contains pre f) → (before f (pre ++ f ∷ post) ≡ pre) × (from f (pre ++ f ∷ post) ≡ f ∷ post)
parts_at f [] post h = (ap (λ b. cond b [] (f ∷ before f post)) (same_itself f), ap (λ b. cond b (f ∷ post) (from f post)) (same_itself f))
parts_at f (t ∷ pre) post h =
    let other : same_tag t f ≡ false = not_same t f (λ e. h (subst (Contains (t ∷ pre)) e (Contains-first t pre))) in
    let rest = parts_at f pre post (λ k. h (Contains-later t pre f k)) in
    (ap (λ b. cond b [] (t ∷ before f (pre ++ f ∷ post))) other ∙ ap (λ us. t ∷ us) rest.0, ap (λ b. cond b (t ∷ pre ++ f ∷ post) (from f (pre ++ f ∷ post))) other ∙ rest.1)

-- ---- no tag stands twice

pub once-times : (ts : List Tag) → ((f : Tag) → Contains ts f → times f ts ≤ 1) → NoRepeats ts
once-times [] h = tt
once-times (t ∷ ts) h = (
  ByRecursion-contains (λ u. t ≢ u) ts (λ u k e.
      let two = h u (Contains-later t ts u k) in
      let one : one_if (same_tag t u) ≡ 1 = ap one_if ((same_tag-Decides t u).1 e) in
      omega (arith, times-cons u t ts, times-in u ts k)),
  once-times ts (λ f k. omega (arith, times-cons f t ts, h f (Contains-later t ts f k))),
)

pub times-once : (ts : List Tag) (f : Tag) → NoRepeats ts → times f ts ≤ 1
times-once [] f h = omega arith
times-once (t ∷ ts) f h =
    ⊎_elim (λ (l : same_tag t f ≡ true).
    let one : one_if (same_tag t f) ≡ 1 = ap one_if l in
    let none : times f ts ≡ 0 = ⊎_elim (λ (z : times f ts ≡ 0). z) (λ (p : 1 ≤ times f ts). absurd (ByRecursion-at (λ u. t ≢ u) ts f h.0 (in-times f ts p) (same_means t f l))) (zero_or_more (times f ts)) in
    omega (arith, times-cons f t ts))
    (λ (r : same_tag t f ≡ false).
    let zero : one_if (same_tag t f) ≡ 0 = ap one_if r in
    omega (arith, times-cons f t ts, times-once ts f h.1))
    (cases_Bool (same_tag t f))

-- ---- the test whether a tag stands in a list

pub is_among-in : (f : Tag) (ts : List Tag) → Contains ts f → is_among f ts ≡ true
is_among-in f [] h = absurd (not_in_nil f h)
is_among-in f (t ∷ ts) h =
    ⊎_elim (λ (l : t ≡ f). or_left _ _ ((same_tag-Decides t f).1 l)) (λ (r : Contains ts f). or_right _ _ (is_among-in f ts r)) (Contains-cases t ts f h)

pub in-is_among : (f : Tag) (ts : List Tag) → is_among f ts ≡ true → Contains ts f
in-is_among f [] h = absurd (cc)
in-is_among f (t ∷ ts) h =
    ⊎_elim (λ (l : same_tag t f ≡ true). subst (Contains (t ∷ ts)) (same_means t f l) (Contains-first t ts)) (λ (r : is_among f ts ≡ true). Contains-later t ts f (in-is_among f ts r)) (or_cases _ _ h)

pub not_among : (f : Tag) (ts : List Tag) → ¬ (Contains ts f) → is_among f ts ≡ false
not_among f ts h = ⊎_elim (λ (l : is_among f ts ≡ true). absurd (h (in-is_among f ts l))) (λ r. r) (cases_Bool (is_among f ts))

-- ---- a tag that is none of these

pub none-of : (ts : List Tag) (t : Tag) → ¬ (Contains ts t) → NoneOf t ts
none-of ts t out = ByRecursion-contains (λ u. t ≢ u) ts (λ u k same. out (subst (Contains ts) (sym same) k))

pub none-not : (t : Tag) (ts : List Tag) → NoneOf t ts → ¬ (Contains ts t)
none-not t ts h k = ByRecursion-at (λ u. t ≢ u) ts t h k refl

pub none-is : (t : Tag) (ts : List Tag) → is_among t ts ≡ false → NoneOf t ts
none-is t ts h = none-of ts t (λ k. true≢false (sym (is_among-in t ts k) ∙ h))

pub is-none : (t : Tag) (ts : List Tag) → NoneOf t ts → is_among t ts ≡ false
is-none t ts h = not_among t ts (none-not t ts h)

pub among_or_none : (t : Tag) (ts : List Tag) → Contains ts t ⊎ NoneOf t ts
among_or_none t ts = ⊎_elim {C = Contains ts t ⊎ NoneOf t ts} (λ h. inl (in-is_among t ts h)) (λ h. inr (none-is t ts h)) (cases_Bool (is_among t ts))

pub among_or_not : (t : Tag) (ts : List Tag) → Contains ts t ⊎ (¬ (Contains ts t))
among_or_not t ts = ⊎_elim {C = Contains ts t ⊎ (¬ (Contains ts t))} inl (λ h. inr (none-not t ts h)) (among_or_none t ts)

-- one more tag stands once
pub once-last : (ts : List Tag) (t : Tag) → NoRepeats ts → NoneOf t ts → NoRepeats (ts ++ t ∷ [])
once-last [] t once new = (tt, tt)
once-last (u ∷ us) t once new = (ByRecursion-append (λ v. u ≢ v) us (t ∷ []) once.0 ((λ e. new.0 (sym e)), tt), once-last us t once.1 new.1)

pub below : (t u : Tag) → t.0 < u.0 → t ≢ u
below t u h e = let same : t.0 ≡ u.0 = ap (λ (x : Tag). x.0) e in omega arith

-- ---- neighbours

pub neighbours_from-append : {A : Type 0} (first x : A) (ys : List A) (z : A) (zs : List A) → neighbours_from first x (ys ++ z ∷ zs) ≡ neighbours_from z x ys ++ neighbours_from first z zs
neighbours_from-append first x [] z zs = refl
neighbours_from-append first x (y ∷ ys) z zs = ap (λ ns. (x, y) ∷ ns) (neighbours_from-append first y ys z zs)

-- the first of a list, or f
abbrev pub head_or : Tag → List Tag → Tag
head_or f ts = unwrap_or (first_tag ts) f

neighbours_from-first : (first x : Tag) (xs : List Tag) → Contains (neighbours_from first x xs) (x, head_or first xs)
neighbours_from-first first x [] = Contains-first (x, first) []
neighbours_from-first first x (y ∷ ys) = Contains-first (x, y) (neighbours_from first y ys)

head_or-append : (f p : Tag) (ts us : List Tag) → head_or p ts ≡ head_or f (ts ++ p ∷ us)
head_or-append f p [] us = refl
head_or-append f p (t ∷ ts) us = refl

-- f and the one that comes next
pub neighbour_of : (f : Tag) (pre post : List Tag) → Contains (neighbours (pre ++ f ∷ post)) (f, head_or f (post ++ pre))
neighbour_of f [] post =
    subst (λ ts. Contains (neighbours (f ∷ post)) (f, head_or f ts)) (sym (append-nil post)) (neighbours_from-first f f post)
neighbour_of f (p ∷ pre) post =
    subst (λ ns. Contains ns (f, head_or f (post ++ p ∷ pre))) (sym (neighbours_from-append p p pre f post))
    (Contains-append_right (neighbours_from f p pre) (neighbours_from p f post) (f, head_or f (post ++ p ∷ pre))
    (subst (λ (t : Tag). Contains (neighbours_from p f post) (f, t)) (head_or-append f p post pre) (neighbours_from-first p f post)))

-- a tag that comes next after itself stands alone
pub alone_in_ring : (f : Tag) (ring : List Tag) → NoRepeats ring → Contains ring f → ((g : Tag) → Contains (neighbours ring) (f, g) → g ≡ f) → ring ≡ f ∷ []
alone_in_ring f ring once k own =
    let p = parts f ring k in
    let next = own (head_or f (p.post ++ p.pre)) (subst (λ ts. Contains (neighbours ts) (f, head_or f (p.post ++ p.pre))) (sym p.is) (neighbour_of f p.pre p.post)) in
    p.is ∙ only f p.pre p.post (subst NoRepeats p.is once) next
  where
    only : (f : Tag) (pre post : List Tag) → NoRepeats (pre ++ f ∷ post) → head_or f (post ++ pre) ≡ f → pre ++ f ∷ post ≡ f ∷ []
    only f [] [] once e = refl
    only f [] (g ∷ post) once e = absurd (once.0.0 (sym e))
    only f (p ∷ pre) [] once e = absurd (ByRecursion-at (λ u. p ≢ u) (pre ++ f ∷ []) f once.0 (Contains-append_right pre (f ∷ []) f (Contains-first f [])) e)
    only f (p ∷ pre) (g ∷ post) once e = absurd (apart f g pre post once.1 e)
      where
        apart : (f g : Tag) (pre post : List Tag) → NoRepeats (pre ++ f ∷ g ∷ post) → g ≢ f
        apart f g [] post once e = once.0.0 (sym e)
        apart f g (q ∷ pre) post once e = apart f g pre post once.1 e

pub neighbours_from-in : {A : Type 0} (first x : A) (ys : List A) (n : A × A) → Contains (neighbours_from first x ys) n → Contains (x ∷ ys) n.0 × ((n.1 ≡ first) ⊎ Contains ys n.1)
neighbours_from-in {A = A} first x [] n k =
    ⊎_elim {C = Contains (x ∷ []) n.0 × ((n.1 ≡ first) ⊎ Contains [] n.1)}
    (λ (e : (x, first) ≡ n). (subst (Contains (x ∷ [])) (ap (λ (m : A × A). m.0) e) (Contains-first x []), inl (sym (ap (λ (m : A × A). m.1) e))))
    (λ (r : Contains [] n). absurd (not_in_nil n r))
    (Contains-cases (x, first) [] n k)
neighbours_from-in {A = A} first x (y ∷ ys) n k =
    ⊎_elim {C = Contains (x ∷ y ∷ ys) n.0 × ((n.1 ≡ first) ⊎ Contains (y ∷ ys) n.1)}
    (λ (e : (x, y) ≡ n). (
      subst (Contains (x ∷ y ∷ ys)) (ap (λ (m : A × A). m.0) e) (Contains-first x (y ∷ ys)),
      inr (subst (Contains (y ∷ ys)) (ap (λ (m : A × A). m.1) e) (Contains-first y ys)),
    ))
    (λ (r : Contains (neighbours_from first y ys) n).
    let rest = neighbours_from-in first y ys n r in (
      Contains-later x (y ∷ ys) n.0 rest.0,
      ⊎_elim {C = (n.1 ≡ first) ⊎ Contains (y ∷ ys) n.1} (λ e. inl e) (λ c. inr (Contains-later y ys n.1 c)) rest.1,
    ))
    (Contains-cases (x, y) (neighbours_from first y ys) n k)

-- both neighbours stand in the list
pub neighbours-in : {A : Type 0} (xs : List A) (n : A × A) → Contains (neighbours xs) n → Contains xs n.0 × Contains xs n.1
neighbours-in [] n k = absurd (not_in_nil n k)
neighbours-in (x ∷ xs) n k =
    let both = neighbours_from-in x x xs n k in (
      both.0,
      ⊎_elim (λ e. subst (Contains (x ∷ xs)) (sym e) (Contains-first x xs)) (λ c. Contains-later x xs n.1 c) both.1,
    )

pub times-none : (f : Tag) (ts : List Tag) → ¬ (Contains ts f) → times f ts ≡ 0
times-none f ts h = ⊎_elim (λ (z : times f ts ≡ 0). z) (λ (p : 1 ≤ times f ts). absurd (h (in-times f ts p))) (zero_or_more (times f ts))
