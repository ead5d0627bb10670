-- Cyclic lists that are turned, cut and joined: what comes after what, and how often a tag stands in them.
use Rattle.std.proofs.Common.{◌≡◌, ◌≢◌, ◌≤◌, ◌⊎◌, inl, inr, ⊎_elim, true, false, cond, List, [], ◌∷◌, ◌++◌, drop, refl, sym, ap, subst, ◌∙◌, append-nil, arith}
use Rattle.std.specs.Prelude.{Contains, nat_lt}
use Rattle.std.specs.List.{AllByRecursion}
use Rattle.std.proofs.lemmas.Bool.{cases_Bool}
use Rattle.std.proofs.lemmas.Bool.Decides.{nat_tests}
use Rattle.std.proofs.lemmas.List.Elements.{Contains-append_left, Contains-append_right, Contains-append_cases}
use Rattle.pk_base.specs.Entity.{same_tag}
use Rattle.pk_base.specs.declared.tag.Tag.{Tag}
use Rattle.pk_model.specs.Apart.{NoRepeats}
use Rattle.solid_model.specs.Rings.{before, from, written_from, lesser, least_of, from_least, last_of, neighbours, neighbours_from}
use Rattle.solid_model.specs.Sound.{is_empty}
use Rattle.list_facts.proofs.Elements.{not_in_nil, Contains-first, Contains-later, Contains-cases}
use Rattle.list_facts.proofs.Each.{ByRecursion-contains, ByRecursion-at}
use Rattle.pk_base.proofs.Same.{not_same}
use Rattle.solid_model.proofs.lists.Neighbours.{times, times-append, times-in, in-times, parts, parts_at, before-from, neighbours_from-append, neighbours_from-in, head_or, once-times, times-once}

abbrev pub Pair : Type 0
Pair = Tag × Tag

-- ---- from the first to the last

-- each with the next one, but for the last
abbrev pub steps : Tag → List Tag → List Pair
steps x [] = []
steps x (y ∷ ys) = (x, y) ∷ steps y ys

pub neighbours_from-steps : (z x : Tag) (xs : List Tag) → neighbours_from z x xs ≡ steps x xs ++ (last_of x xs, z) ∷ []
neighbours_from-steps z x [] = refl
neighbours_from-steps z x (y ∷ ys) = ap (λ ns. (x, y) ∷ ns) (neighbours_from-steps z y ys)

-- a step, or the last one with what comes next
pub step_or_last : (z x : Tag) (xs : List Tag) (p : Pair) → Contains (neighbours_from z x xs) p → Contains (steps x xs) p ⊎ ((last_of x xs, z) ≡ p)
step_or_last z x xs p k = ⊎_elim {C = Contains (steps x xs) p ⊎ ((last_of x xs, z) ≡ p)}
    (λ (l : Contains (steps x xs) p). inl l)
    (λ (r : Contains ((last_of x xs, z) ∷ []) p). ⊎_elim {C = Contains (steps x xs) p ⊎ ((last_of x xs, z) ≡ p)} (λ (e : (last_of x xs, z) ≡ p). inr e) (λ (n : Contains [] p). absurd (not_in_nil p n)) (Contains-cases (last_of x xs, z) [] p r))
    (Contains-append_cases (steps x xs) ((last_of x xs, z) ∷ []) p (subst (λ ns. Contains ns p) (neighbours_from-steps z x xs) k))

pub step-in : (z x : Tag) (xs : List Tag) (p : Pair) → Contains (steps x xs) p → Contains (neighbours_from z x xs) p
step-in z x xs p k = subst (λ ns. Contains ns p) (sym (neighbours_from-steps z x xs)) (Contains-append_left (steps x xs) ((last_of x xs, z) ∷ []) p k)

pub last-in : (z x : Tag) (xs : List Tag) → Contains (neighbours_from z x xs) (last_of x xs, z)
last-in z x xs = subst (λ ns. Contains ns (last_of x xs, z)) (sym (neighbours_from-steps z x xs)) (Contains-append_right (steps x xs) ((last_of x xs, z) ∷ []) (last_of x xs, z) (Contains-first (last_of x xs, z) []))

-- ---- one tag first

-- the one after the first
pub after_first : (f : Tag) (xs : List Tag) (b : Tag) → ¬ (Contains xs f) → Contains (neighbours (f ∷ xs)) (f, b) → b ≡ head_or f xs
after_first f [] b out k = ⊎_elim {C = b ≡ f}
    (λ (e : (f, f) ≡ (f, b)). sym (ap (λ (p : Pair). p.1) e))
    (λ (n : Contains [] (f, b)). absurd (not_in_nil (f, b) n))
    (Contains-cases (f, f) [] (f, b) k)
after_first f (y ∷ ys) b out k = ⊎_elim {C = b ≡ y}
    (λ (e : (f, y) ≡ (f, b)). sym (ap (λ (p : Pair). p.1) e))
    (λ (n : Contains (neighbours_from f y ys) (f, b)). absurd (out (neighbours_from-in f y ys (f, b) n).0))
    (Contains-cases (f, y) (neighbours_from f y ys) (f, b) k)

last_before : (f x : Tag) (xs : List Tag) (a : Tag) → ¬ (Contains xs f) → Contains (neighbours_from f x xs) (a, f) → a ≡ last_of x xs
last_before f x [] a out k = ⊎_elim {C = a ≡ x}
    (λ (e : (x, f) ≡ (a, f)). sym (ap (λ (p : Pair). p.0) e))
    (λ (n : Contains [] (a, f)). absurd (not_in_nil (a, f) n))
    (Contains-cases (x, f) [] (a, f) k)
last_before f x (y ∷ ys) a out k = ⊎_elim {C = a ≡ last_of y ys}
    (λ (e : (x, y) ≡ (a, f)). absurd (out (subst (Contains (y ∷ ys)) (ap (λ (p : Pair). p.1) e) (Contains-first y ys))))
    (λ (n : Contains (neighbours_from f y ys) (a, f)). last_before f y ys a (λ m. out (Contains-later y ys f m)) n)
    (Contains-cases (x, y) (neighbours_from f y ys) (a, f) k)

-- the one before the first
pub before_first : (f : Tag) (xs : List Tag) (a : Tag) → ¬ (Contains xs f) → Contains (neighbours (f ∷ xs)) (a, f) → a ≡ last_of f xs
before_first f xs a out k = last_before f f xs a out k

-- without the first tag, what came before it comes before what came after it
pub first-dropped : (f : Tag) (xs : List Tag) (a b : Tag) → Contains (neighbours xs) (a, b)
    → Contains (neighbours (f ∷ xs)) (a, b) ⊎ (Contains (neighbours (f ∷ xs)) (a, f) × Contains (neighbours (f ∷ xs)) (f, b))
first-dropped f [] a b k = absurd (not_in_nil (a, b) k)
first-dropped f (x ∷ xs) a b k = ⊎_elim {C = Contains (neighbours (f ∷ x ∷ xs)) (a, b) ⊎ (Contains (neighbours (f ∷ x ∷ xs)) (a, f) × Contains (neighbours (f ∷ x ∷ xs)) (f, b))}
    (λ (l : Contains (steps x xs) (a, b)). inl (Contains-later (f, x) (neighbours_from f x xs) (a, b) (step-in f x xs (a, b) l)))
    (λ (e : (last_of x xs, x) ≡ (a, b)). inr (
      subst (λ t. Contains (neighbours (f ∷ x ∷ xs)) (t, f)) (ap (λ (p : Pair). p.0) e) (Contains-later (f, x) (neighbours_from f x xs) (last_of x xs, f) (last-in f x xs)),
      subst (λ t. Contains (neighbours (f ∷ x ∷ xs)) (f, t)) (ap (λ (p : Pair). p.1) e) (Contains-first (f, x) (neighbours_from f x xs)),
    ))
    (step_or_last x x xs (a, b) k)

-- ---- turned

swapped : {X : Type 0} (xs ys : List X) (x : X) → Contains (xs ++ ys) x → Contains (ys ++ xs) x
swapped xs ys x k = ⊎_elim (λ (l : Contains xs x). Contains-append_right ys xs x l) (λ (r : Contains ys x). Contains-append_left ys xs x r) (Contains-append_cases xs ys x k)

-- the two parts of a cyclic list may be written the other way round
pub neighbours-turned : (xs ys : List Tag) (p : Pair) → Contains (neighbours (xs ++ ys)) p → Contains (neighbours (ys ++ xs)) p
neighbours-turned [] ys p k = subst (λ ts. Contains (neighbours ts) p) (sym (append-nil ys)) k
neighbours-turned (x ∷ xs) [] p k = subst (λ ts. Contains (neighbours ts) p) (append-nil (x ∷ xs)) k
neighbours-turned (x ∷ xs) (y ∷ ys) p k =
    subst (λ ns. Contains ns p) (sym (neighbours_from-append y y ys x xs))
    (swapped (neighbours_from y x xs) (neighbours_from x y ys) p (subst (λ ns. Contains ns p) (neighbours_from-append x x xs y ys) k))

pub times-turned : (f : Tag) (xs ys : List Tag) → times f (xs ++ ys) ≡ times f (ys ++ xs)
times-turned f xs ys = omega (arith, times-append f xs ys, times-append f ys xs)

pub times-written : (f t : Tag) (ts : List Tag) → times f (written_from t ts) ≡ times f ts
times-written f t ts = times-turned f (from t ts) (before t ts) ∙ ap (times f) (before-from t ts)

pub once-written : (t : Tag) (ts : List Tag) → NoRepeats ts → NoRepeats (written_from t ts)
once-written t ts once = once-times (written_from t ts) (λ f k. omega (arith, times-written f t ts, times-once ts f once))

pub in-written : (f t : Tag) (ts : List Tag) → Contains ts f → Contains (written_from t ts) f
in-written f t ts k = in-times f (written_from t ts) (omega (arith, times-written f t ts, times-in f ts k))

pub written-in : (f t : Tag) (ts : List Tag) → Contains (written_from t ts) f → Contains ts f
written-in f t ts k = in-times f ts (omega (arith, times-written f t ts, times-in f (written_from t ts) k))

pub neighbours-written : (t : Tag) (ts : List Tag) (p : Pair) → Contains (neighbours ts) p → Contains (neighbours (written_from t ts)) p
neighbours-written t ts p k = neighbours-turned (before t ts) (from t ts) p (subst (λ us. Contains (neighbours us) p) (sym (before-from t ts)) k)

pub written-neighbours : (t : Tag) (ts : List Tag) (p : Pair) → Contains (neighbours (written_from t ts)) p → Contains (neighbours ts) p
written-neighbours t ts p k = subst (λ us. Contains (neighbours us) p) (before-from t ts) (neighbours-turned (from t ts) (before t ts) p k)

-- a list written from one of its tags begins with it
pub written-first : (t : Tag) (ts : List Tag) → Contains ts t → written_from t ts ≡ t ∷ drop 1 (written_from t ts)
written-first t ts k =
    let p = parts t ts k in
    let is : written_from t ts ≡ t ∷ (p.post ++ p.pre) = λ i. p.from_is i ++ p.before_is i in
    is ∙ ap (λ us. t ∷ drop 1 us) (sym is)

-- ---- written from the least

lesser-case : (t u : Tag) → ((lesser t u ≡ t) × (t.0 ≤ u.0)) ⊎ ((lesser t u ≡ u) × (u.0 ≤ t.0))
lesser-case t u = ⊎_elim {C = ((lesser t u ≡ t) × (t.0 ≤ u.0)) ⊎ ((lesser t u ≡ u) × (u.0 ≤ t.0))}
    (λ (l : nat_lt u.0 t.0 ≡ true). inr (ap (λ b. cond b u t) l, grind (arith, nat_tests)))
    (λ (r : nat_lt u.0 t.0 ≡ false). inl (ap (λ b. cond b u t) r, grind (arith, nat_tests)))
    (cases_Bool (nat_lt u.0 t.0))

-- it stands among them, and none is less
pub record Least (t : Tag) (ts : List Tag) : Type 0 where
  pub among : Contains (t ∷ ts) (least_of t ts)
  pub first : (least_of t ts).0 ≤ t.0
  pub rest : AllByRecursion (λ u. (least_of t ts).0 ≤ u.0) ts

pub least : (t : Tag) (ts : List Tag) → Least t ts
least t [] = record { among = Contains-first t []; first = omega arith; rest = tt }
least t (u ∷ us) =
    let rest = least (lesser t u) us in
    ⊎_elim {C = Least t (u ∷ us)}
    (λ (l : (lesser t u ≡ t) × (t.0 ≤ u.0)).
    let low : (least_of (lesser t u) us).0 ≤ t.0 = subst (λ (x : Tag). (least_of (lesser t u) us).0 ≤ x.0) l.0 rest.first in
    record {
      among = ⊎_elim
          (λ (e : lesser t u ≡ least_of (lesser t u) us). subst (Contains (t ∷ u ∷ us)) (sym l.0 ∙ e) (Contains-first t (u ∷ us)))
          (λ (k : Contains us (least_of (lesser t u) us)). Contains-later t (u ∷ us) _ (Contains-later u us _ k))
          (Contains-cases (lesser t u) us (least_of (lesser t u) us) rest.among);
      first = low;
      rest = (let le = l.1 in omega (arith, low, le), rest.rest);
    })
    (λ (r : (lesser t u ≡ u) × (u.0 ≤ t.0)).
    let low : (least_of (lesser t u) us).0 ≤ u.0 = subst (λ (x : Tag). (least_of (lesser t u) us).0 ≤ x.0) r.0 rest.first in
    record {
      among = ⊎_elim
          (λ (e : lesser t u ≡ least_of (lesser t u) us). Contains-later t (u ∷ us) _ (subst (Contains (u ∷ us)) (sym r.0 ∙ e) (Contains-first u us)))
          (λ (k : Contains us (least_of (lesser t u) us)). Contains-later t (u ∷ us) _ (Contains-later u us _ k))
          (Contains-cases (lesser t u) us (least_of (lesser t u) us) rest.among);
      first = let le = r.1 in omega (arith, low, le);
      rest = (low, rest.rest);
    })
    (lesser-case t u)

-- a tag that no other is below is the least
pub least-first : (t : Tag) (ts : List Tag) → AllByRecursion (λ u. t.0 ≤ u.0) ts → least_of t ts ≡ t
least-first t [] h = refl
least-first t (u ∷ us) h =
    let stays : lesser t u ≡ t = ap (λ b. cond b u t) (not_below u t h.0) in
    ap (λ x. least_of x us) stays ∙ least-first t us h.1
  where
    not_below : (u t : Tag) → t.0 ≤ u.0 → nat_lt u.0 t.0 ≡ false
    not_below u t h = grind (arith, nat_tests)

pub written-itself : (t : Tag) (ts : List Tag) → written_from t (t ∷ ts) ≡ t ∷ ts
written-itself t ts = let p = parts_at t [] ts (λ k. not_in_nil t k) in (λ i. p.1 i ++ p.0 i) ∙ append-nil (t ∷ ts)

-- a list that is written from its least tag is so written
pub from_least-again : (ts : List Tag) → from_least (from_least ts) ≡ from_least ts
from_least-again [] = refl
from_least-again (t ∷ ts) =
    let l = least t ts in
    let low = least_of t ts in
    let first = written-first low (t ∷ ts) l.among in
    let below : (u : Tag) → Contains (t ∷ ts) u → low.0 ≤ u.0 = λ u k. ByRecursion-at (λ (x : Tag). low.0 ≤ x.0) (t ∷ ts) u (l.first, l.rest) k in
    let rest = drop 1 (written_from low (t ∷ ts)) in
    let is : least_of low rest ≡ low = least-first low rest (ByRecursion-contains (λ (x : Tag). low.0 ≤ x.0) rest (λ u k.
    below u (written-in u low (t ∷ ts) (subst (λ us. Contains us u) (sym first) (Contains-later low rest u k))))) in
    ap from_least first ∙ ap (λ x. written_from x (low ∷ rest)) is ∙ written-itself low rest ∙ sym first

pub times-least : (f : Tag) (ts : List Tag) → times f (from_least ts) ≡ times f ts
times-least f [] = refl
times-least f (t ∷ ts) = times-written f (least_of t ts) (t ∷ ts)

pub least-in : (f : Tag) (ts : List Tag) → Contains (from_least ts) f → Contains ts f
least-in f ts k = in-times f ts (omega (arith, times-least f ts, times-in f (from_least ts) k))

pub neighbours-least : (ts : List Tag) (p : Pair) → Contains (neighbours ts) p → Contains (neighbours (from_least ts)) p
neighbours-least [] p k = k
neighbours-least (t ∷ ts) p k = neighbours-written (least_of t ts) (t ∷ ts) p k

pub least-neighbours : (ts : List Tag) (p : Pair) → Contains (neighbours (from_least ts)) p → Contains (neighbours ts) p
least-neighbours [] p k = k
least-neighbours (t ∷ ts) p k = written-neighbours (least_of t ts) (t ∷ ts) p k

pub is_empty-least : (ts : List Tag) → is_empty (from_least ts) ≡ is_empty ts
is_empty-least [] = refl
is_empty-least (t ∷ ts) = ap is_empty (written-first (least_of t ts) (t ∷ ts) (least t ts).among)

-- ---- the last tag

pub last_of-in : (x : Tag) (xs : List Tag) → Contains (x ∷ xs) (last_of x xs)
last_of-in x [] = Contains-first x []
last_of-in x (y ∷ ys) = Contains-later x (y ∷ ys) (last_of y ys) (last_of-in y ys)

-- ---- a cyclic list written from one tag, with another behind it

pub first-ring : (n p : Tag) (ps : List Tag) → Contains (neighbours (n ∷ p ∷ ps)) (n, p)
first-ring n p ps = Contains-first (n, p) (neighbours_from n p ps)

pub last-ring : (n p : Tag) (ps : List Tag) → Contains (neighbours (n ∷ p ∷ ps)) (last_of p ps, n)
last-ring n p ps = Contains-later (n, p) (neighbours_from n p ps) (last_of p ps, n) (last-in n p ps)

pub step-ring : (n p : Tag) (ps : List Tag) (x : Pair) → Contains (steps p ps) x → Contains (neighbours (n ∷ p ∷ ps)) x
step-ring n p ps x k = Contains-later (n, p) (neighbours_from n p ps) x (step-in n p ps x k)

-- what has the first tag on neither side is a step of the rest
pub ring-step : (n p : Tag) (ps : List Tag) (a b : Tag) → Contains (neighbours (n ∷ p ∷ ps)) (a, b) → a ≢ n → b ≢ n → Contains (steps p ps) (a, b)
ring-step n p ps a b k an bn = ⊎_elim {C = Contains (steps p ps) (a, b)}
    (λ (e : (n, p) ≡ (a, b)). absurd (an (sym (ap (λ (x : Pair). x.0) e))))
    (λ (r : Contains (neighbours_from n p ps) (a, b)). ⊎_elim {C = Contains (steps p ps) (a, b)}
    (λ (s : Contains (steps p ps) (a, b)). s)
    (λ (e : (last_of p ps, n) ≡ (a, b)). absurd (bn (sym (ap (λ (x : Pair). x.1) e))))
    (step_or_last n p ps (a, b) r))
    (Contains-cases (n, p) (neighbours_from n p ps) (a, b) k)

-- ---- two lists, one behind the other

pub merge-first : (p : Tag) (ps : List Tag) (q : Tag) (qs : List Tag) (x : Pair) → Contains (neighbours_from q p ps) x → Contains (neighbours ((p ∷ ps) ++ q ∷ qs)) x
merge-first p ps q qs x k = subst (λ ns. Contains ns x) (sym (neighbours_from-append p p ps q qs)) (Contains-append_left (neighbours_from q p ps) (neighbours_from p q qs) x k)

pub merge-second : (p : Tag) (ps : List Tag) (q : Tag) (qs : List Tag) (x : Pair) → Contains (neighbours_from p q qs) x → Contains (neighbours ((p ∷ ps) ++ q ∷ qs)) x
merge-second p ps q qs x k = subst (λ ns. Contains ns x) (sym (neighbours_from-append p p ps q qs)) (Contains-append_right (neighbours_from q p ps) (neighbours_from p q qs) x k)

pub merge-cases : (p : Tag) (ps : List Tag) (q : Tag) (qs : List Tag) (x : Pair) → Contains (neighbours ((p ∷ ps) ++ q ∷ qs)) x → Contains (neighbours_from q p ps) x ⊎ Contains (neighbours_from p q qs) x
merge-cases p ps q qs x k = Contains-append_cases (neighbours_from q p ps) (neighbours_from p q qs) x (subst (λ ns. Contains ns x) (neighbours_from-append p p ps q qs) k)

-- ---- a list between two tags

-- what has neither x on the left nor z on the right is of the cyclic list between them
pub between-step : (z x : Tag) (ys : List Tag) (a b : Tag) → Contains (neighbours_from z x ys) (a, b) → a ≢ x → b ≢ z → Contains (neighbours ys) (a, b)
between-step z x [] a b k ax bz = ⊎_elim {C = Contains (neighbours []) (a, b)} (λ (e : (x, z) ≡ (a, b)). absurd (ax (sym (ap (λ (p : Pair). p.0) e)))) (λ (n : Contains [] (a, b)). n) (Contains-cases (x, z) [] (a, b) k)
between-step z x (y ∷ ys) a b k ax bz = ⊎_elim {C = Contains (neighbours (y ∷ ys)) (a, b)}
    (λ (e : (x, y) ≡ (a, b)). absurd (ax (sym (ap (λ (p : Pair). p.0) e))))
    (λ (r : Contains (neighbours_from z y ys) (a, b)). ⊎_elim {C = Contains (neighbours (y ∷ ys)) (a, b)}
    (λ (s : Contains (steps y ys) (a, b)). step-in y y ys (a, b) s)
    (λ (e : (last_of y ys, z) ≡ (a, b)). absurd (bz (sym (ap (λ (p : Pair). p.1) e))))
    (step_or_last z y ys (a, b) r))
    (Contains-cases (x, y) (neighbours_from z y ys) (a, b) k)

-- and what is of that was there, or z came after the one and the other after x
pub between-was : (z x : Tag) (ys : List Tag) (a b : Tag) → Contains (neighbours ys) (a, b)
    → Contains (neighbours_from z x ys) (a, b) ⊎ (Contains (neighbours_from z x ys) (a, z) × Contains (neighbours_from z x ys) (x, b))
between-was z x [] a b k = absurd (not_in_nil (a, b) k)
between-was z x (y ∷ ys) a b k =
    let all = neighbours_from z x (y ∷ ys) in
    ⊎_elim {C = Contains all (a, b) ⊎ (Contains all (a, z) × Contains all (x, b))}
    (λ (s : Contains (steps y ys) (a, b)). inl (Contains-later (x, y) (neighbours_from z y ys) (a, b) (step-in z y ys (a, b) s)))
    (λ (e : (last_of y ys, y) ≡ (a, b)). inr (
      subst (λ t. Contains all (t, z)) (ap (λ (p : Pair). p.0) e) (Contains-later (x, y) (neighbours_from z y ys) (last_of y ys, z) (last-in z y ys)),
      subst (λ t. Contains all (x, t)) (ap (λ (p : Pair). p.1) e) (Contains-first (x, y) (neighbours_from z y ys)),
    ))
    (step_or_last y y ys (a, b) k)

pub last_of-append : (x : Tag) (xs : List Tag) (y : Tag) (ys : List Tag) → last_of x (xs ++ y ∷ ys) ≡ last_of y ys
last_of-append x [] y ys = refl
last_of-append x (z ∷ xs) y ys = last_of-append z xs y ys

pub once-turned : (xs ys : List Tag) → NoRepeats (xs ++ ys) → NoRepeats (ys ++ xs)
once-turned xs ys once = once-times (ys ++ xs) (λ f k. omega (arith, times-turned f xs ys, times-once (xs ++ ys) f once))

-- ---- a cyclic list that n and m cut in two

-- what comes before n is the last one after m
pub before_cut : (n m : Tag) (A B : List Tag) (a : Tag) → NoRepeats ((n ∷ A) ++ m ∷ B) → Contains (neighbours ((n ∷ A) ++ m ∷ B)) (a, n) → a ≡ last_of m B
before_cut n m A B a once k = before_first n (A ++ m ∷ B) a (λ j. ByRecursion-at (λ u. n ≢ u) (A ++ m ∷ B) n once.0 j refl) k ∙ last_of-append n A m B

-- what comes after m
pub after_cut : (n m : Tag) (A B : List Tag) (b : Tag) → NoRepeats ((n ∷ A) ++ m ∷ B) → Contains (neighbours ((n ∷ A) ++ m ∷ B)) (m, b) → b ≡ head_or m (B ++ n ∷ A)
after_cut n m A B b once k =
    let turned = once-turned (n ∷ A) (m ∷ B) once in
    after_first m (B ++ n ∷ A) b (λ j. ByRecursion-at (λ u. m ≢ u) (B ++ n ∷ A) m turned.0 j refl) (neighbours-turned (n ∷ A) (m ∷ B) (m, b) k)

pub cut-joins : (n m : Tag) (A B : List Tag) (a b : Tag) → NoRepeats ((n ∷ A) ++ m ∷ B) → Contains (neighbours ((n ∷ A) ++ m ∷ B)) (a, n) → Contains (neighbours ((n ∷ A) ++ m ∷ B)) (m, b)
    → a ≢ m → Contains (neighbours B) (a, b)
cut-joins n m A [] a b once k j am = absurd (am (before_cut n m A [] a once k))
cut-joins n m A (h ∷ T) a b once k j am =
    let first = before_cut n m A (h ∷ T) a once k in
    let next = after_cut n m A (h ∷ T) b once j in
    subst (λ (p : Pair). Contains (neighbours (h ∷ T)) p) (λ i. (sym first i, sym next i)) (last-in h h T)

-- the part behind m is empty just where n comes after m
pub cut-empty : (n m : Tag) (A B : List Tag) → NoRepeats ((n ∷ A) ++ m ∷ B) → Contains (neighbours ((n ∷ A) ++ m ∷ B)) (m, n) → B ≡ []
cut-empty n m A [] once k = refl
cut-empty n m A (h ∷ T) once k =
    let turned = once-turned (n ∷ A) (m ∷ h ∷ T) once in
    absurd (ByRecursion-at (λ u. m ≢ u) ((h ∷ T) ++ n ∷ A) (last_of h T) turned.0 (Contains-append_left (h ∷ T) (n ∷ A) (last_of h T) (last_of-in h T)) (before_cut n m A (h ∷ T) m once k))

pub cut-more : (n m : Tag) (A B : List Tag) (b : Tag) → NoRepeats ((n ∷ A) ++ m ∷ B) → Contains (neighbours ((n ∷ A) ++ m ∷ B)) (m, b) → b ≢ n → is_empty B ≡ false
cut-more n m A [] b once k bn = absurd (bn (after_cut n m A [] b once k))
cut-more n m A (h ∷ T) b once k bn = refl

-- where a list that begins with n is cut by m
pub record CutAt (n m : Tag) (rest : List Tag) : Type 0 where
  pub ahead : List Tag
  pub behind : List Tag
  pub is : rest ≡ ahead ++ m ∷ behind
  pub before_is : before m (n ∷ rest) ≡ n ∷ ahead
  pub from_is : from m (n ∷ rest) ≡ m ∷ behind

pub cut-at : (n m : Tag) (rest : List Tag) → m ≢ n → Contains (n ∷ rest) m → CutAt n m rest
cut-at n m rest other k =
    let later : Contains rest m = ⊎_elim (λ (e : n ≡ m). absurd (other (sym e))) (λ (r : Contains rest m). r) (Contains-cases n rest m k) in
    let p = parts m rest later in
    let differs : same_tag n m ≡ false = not_same n m (λ e. other (sym e)) in
    record {
      ahead = p.pre;
      behind = p.post;
      is = p.is;
      before_is = ap (λ b. cond b [] (n ∷ before m rest)) differs ∙ ap (λ ts. n ∷ ts) p.before_is;
      from_is = ap (λ b. cond b (n ∷ rest) (from m rest)) differs ∙ p.from_is;
    }
