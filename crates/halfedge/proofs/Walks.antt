-- A walk along a ring, from a fin on until it comes again.
use Rattle.std.proofs.Common.{◌≡◌, ◌≢◌, ℕ, ◌+◌, ◌<◌, ◌≤◌, Bool, true, false, not, nat_eq, cond, List, [], ◌∷◌, ◌++◌, length, drop, Some, refl, sym, ap, subst, ◌∙◌, append_assoc, append-nil, length-append, arith}
use Rattle.std.specs.Prelude.{IsSome, Contains, nat_lt}
use Rattle.std.specs.FinMap.{entries, len, len-entries}
use Rattle.std.proofs.lemmas.Bool.{true≢false, not-true, not-false, eqb-true, eq-eqb, lt-ltb}
use Rattle.std.proofs.lemmas.Bool.Decides.{nat_tests}
use Rattle.std.proofs.lemmas.Option.{same_Some}
use Rattle.std.proofs.lemmas.List.Elements.{Contains-append_right}
use Rattle.pk_base.specs.declared.tag.Tag.{Tag}
use Rattle.pk_base.specs.Blocks.{tag}
use Rattle.pk_model.specs.Apart.{NoRepeats}
use Rattle.pk_model.specs.Maps.{EntityMap}
use Rattle.list_facts.proofs.Each.{ByRecursion-at}
use Rattle.solid_model.specs.Rings.{from, first_tag, lesser, least_of, from_least, neighbours}
use Rattle.solid_model.proofs.lists.Neighbours.{head_or, neighbour_of, parts_at}
use Rattle.pk_base.proofs.Same.{not_same}
use Rattle.solid_model.proofs.lists.Cycles.{least, written-first}
use Rattle.solid_model.proofs.Reading.{not_before}
use Rattle.halfedge.specs.LinkedRings.{IsRing, IsInRing, next_at, ring_at}
use Rattle.halfedge.proofs.LinkedRings.{in-ring_of, in-ring_starts, linked-at, ring-fits}
use Rattle.list_facts.proofs.Elements.{Contains-first, Contains-later}
use Rattle.halfedge.proofs.RingFins.{starts-ring, in-ring_next}

-- Of the fins behind the first one these are passed, and these are to come. Behind them the first
-- one comes again.
pub record Walked (first : Tag) (rest : List Tag) (here : Tag) : Type 0 where
  pub passed : List Tag
  pub ahead : List Tag
  pub is : rest ≡ passed ++ ahead
  pub here_is : here ≡ head_or first ahead

-- the first step has been taken
pub walked-first : (m : EntityMap) (first : Tag) (rest : List Tag) (here : Tag) → IsRing m (first ∷ rest) → next_at m first ≡ Some here → Walked first rest here
walked-first m first rest here r next = record {
  passed = [];
  ahead = rest;
  is = refl;
  here_is = same_Some here (head_or first rest) (sym next ∙ (linked-at m (first ∷ rest) r first (head_or first rest) (subst (λ (ts : List Tag). Contains (neighbours (first ∷ rest)) (first, head_or first ts)) (append-nil rest) (neighbour_of first [] rest))).next);
}

not_first : (first : Tag) (rest : List Tag) → NoRepeats (first ∷ rest) → ¬ (Contains rest first)
not_first first rest once k = ByRecursion-at (λ u. first ≢ u) rest first once.0 k refl

-- where the first one comes again, all are passed
pub all-passed : (first : Tag) (rest : List Tag) (here : Tag) (w : Walked first rest here) → NoRepeats (first ∷ rest) → here ≡ first → rest ≡ w.passed
all-passed first rest here w once back = at_end w.passed w.ahead w.is (sym w.here_is ∙ back)
  where
    at_end : (passed ahead : List Tag) → rest ≡ passed ++ ahead → head_or first ahead ≡ first → rest ≡ passed
    at_end passed [] is e = is ∙ append-nil passed
    at_end passed (h ∷ more) is e = absurd (not_first first rest once (subst (λ ts. Contains ts first) (sym is) (Contains-append_right passed (h ∷ more) first (subst (Contains (h ∷ more)) e (Contains-first h more)))))

-- One more step: the fin that is passed stands in the ring, and one fin less is to come.
pub record Further (first : Tag) (rest : List Tag) (here next : Tag) (w : Walked first rest here) : Type 0 where
  pub walked : Walked first rest next
  pub passed_is : walked.passed ≡ w.passed ++ here ∷ []
  pub ahead_is : w.ahead ≡ here ∷ walked.ahead

next_behind : (first h : Tag) (more passed : List Tag) → head_or h (more ++ first ∷ passed) ≡ head_or first more
next_behind first h [] passed = refl
next_behind first h (g ∷ more) passed = refl

pub walked-on : (m : EntityMap) (first : Tag) (rest : List Tag) (here next : Tag) (w : Walked first rest here) → IsRing m (first ∷ rest) → here ≢ first → next_at m here ≡ Some next → Further first rest here next w
walked-on m first rest here next w r other next_is = on w.ahead w.is w.here_is
  where
    on : (ahead : List Tag) (is : rest ≡ w.passed ++ ahead) (here_is : here ≡ head_or first ahead) → Further first rest here next (record { passed = w.passed; ahead = ahead; is = is; here_is = here_is })
    on [] is here_is = absurd (other here_is)
    on (h ∷ more) is here_is =
        let pair : Contains (neighbours (first ∷ rest)) (h, head_or first more) = subst (λ (l : List Tag × Tag). Contains (neighbours (first ∷ l.0)) (h, l.1)) (λ i. (sym is i, next_behind first h more w.passed i)) (neighbour_of h (first ∷ w.passed) more) in
        let same : next ≡ head_or first more = same_Some next (head_or first more) (sym next_is ∙ ap (next_at m) here_is ∙ (linked-at m (first ∷ rest) r h (head_or first more) pair).next) in
        record {
          walked = record {
            passed = w.passed ++ here ∷ [];
            ahead = more;
            is = is ∙ ap (λ t. w.passed ++ t ∷ more) (sym here_is) ∙ sym (append_assoc w.passed (here ∷ []) more);
            here_is = same;
          };
          passed_is = refl;
          ahead_is = ap (λ t. t ∷ more) (sym here_is);
        }

-- where a fin of the walk stands, and how many are to come
pub to-come : (first : Tag) (rest : List Tag) (here : Tag) (w : Walked first rest here) → NoRepeats (first ∷ rest) → from here rest ≡ w.ahead
to-come first rest here w once = come w.passed w.ahead w.is w.here_is
  where
    from-none : (t : Tag) (ts : List Tag) → ¬ (Contains ts t) → from t ts ≡ []
    from-none t [] out = refl
    from-none t (u ∷ ts) out =
        ap (λ b. cond b (u ∷ ts) (from t ts)) (not_same u t (λ e. out (subst (Contains (u ∷ ts)) e (Contains-first u ts))))
        ∙ from-none t ts (λ k. out (Contains-later u ts t k))

    come : (passed ahead : List Tag) → rest ≡ passed ++ ahead → here ≡ head_or first ahead → from here rest ≡ ahead
    come passed [] is e = ap (λ t. from t rest) e ∙ from-none first rest (not_first first rest once)
    come passed (h ∷ more) is e =
        (λ i. from (e i) (is i)) ∙ (parts_at h passed more (not_before h passed more (subst NoRepeats is once.1))).1

-- the walk comes to an end: with each step one fin less is to come
pub come-less : (first : Tag) (rest : List Tag) (here next : Tag) (w : Walked first rest here) (f : Further first rest here next w) → NoRepeats (first ∷ rest) → length (from next rest) < length (from here rest)
come-less first rest here next w f once =
    let one = ap length (to-come first rest here w once) in
    let other = ap length (to-come first rest next f.walked once) in
    let more = ap length f.ahead_is in
    omega arith

-- ---- the fins of a ring, counted, and the least of them

pub passed-more : (first : Tag) (rest : List Tag) (here next : Tag) (w : Walked first rest here) (f : Further first rest here next w) → length f.walked.passed ≡ length w.passed + 1
passed-more first rest here next w f = ap length f.passed_is ∙ length-append w.passed (here ∷ [])

-- fewer are passed than the ring has, while there is one to come
pub passed-fewer : (first : Tag) (rest : List Tag) (here next : Tag) (w : Walked first rest here) (f : Further first rest here next w) → length w.passed + 1 ≤ length rest
passed-fewer first rest here next w f =
    let whole = ap length w.is in
    let more = ap length f.ahead_is in
    omega (arith, length-append w.passed w.ahead)

least_of-more : (t : Tag) (ts : List Tag) (u : Tag) → least_of t (ts ++ u ∷ []) ≡ lesser (least_of t ts) u
least_of-more t [] u = refl
least_of-more t (v ∷ ts) u = least_of-more (lesser t v) ts u

pub least-more : (first : Tag) (rest : List Tag) (here next : Tag) (w : Walked first rest here) (f : Further first rest here next w) → least_of first f.walked.passed ≡ lesser (least_of first w.passed) here
least-more first rest here next w f = ap (least_of first) f.passed_is ∙ least_of-more first w.passed here

-- a cyclic list that is written from its least tag begins with it
pub least-of_ring : (first : Tag) (rest : List Tag) → first_tag (from_least (first ∷ rest)) ≡ Some (least_of first rest)
least-of_ring first rest = ap first_tag (written-first (least_of first rest) (first ∷ rest) (least first rest).among)

-- ---- a walk along the ring from a fin on

-- the fins behind it
abbrev pub rest_of : EntityMap → Tag → List Tag
rest_of m f = drop 1 (ring_at m f)

-- how many fins of the walk are still to come
abbrev pub to_come : EntityMap → Tag → Tag → ℕ
to_come m f here = length (from here (rest_of m f))

pub lesser-below : (t u : Tag) → u.0 < t.0 → lesser t u ≡ u
lesser-below t u h = ap (λ b. cond b u t) (lt-ltb u.0 t.0 h)

pub lesser-not_below : (t u : Tag) → t.0 ≤ u.0 → lesser t u ≡ t
lesser-not_below t u h = let no : nat_lt u.0 t.0 ≡ false = grind (arith, nat_tests) in ap (λ b. cond b u t) no

pub same-tags : (t u : Tag) (b : Bool) → b ≡ not (nat_eq t.0 u.0) → b ≡ false → t ≡ u
same-tags t u b is h = ap tag (eqb-true t.0 u.0 (not-false (nat_eq t.0 u.0) (sym is ∙ h)))

pub other-tags : (t u : Tag) (b : Bool) → b ≡ not (nat_eq t.0 u.0) → b ≡ true → t ≢ u
other-tags t u b is h e = absurd (true≢false (sym (eq-eqb t.0 u.0 (ap (λ (x : Tag). x.0) e)) ∙ not-true (nat_eq t.0 u.0) (sym is ∙ h)))

module _ (m : EntityMap) (f : Tag) (h : IsInRing m f) where
  ring : IsRing m (f ∷ rest_of m f)
  ring = starts-ring m f h

  pub walk-first : (here : Tag) → next_at m f ≡ Some here → Walked f (rest_of m f) here
  walk-first here next = walked-first m f (rest_of m f) here ring next

  pub none-passed : (here : Tag) (next : next_at m f ≡ Some here) → (walk-first here next).passed ≡ []
  unfolding walk-first walked-first
  none-passed here next = refl

  -- where it stands is a fin of the ring
  pub walk-in : (here : Tag) (w : Walked f (rest_of m f) here) → Contains (f ∷ rest_of m f) here
  walk-in here w = at w.ahead w.is w.here_is
    where
      at : (ahead : List Tag) → rest_of m f ≡ w.passed ++ ahead → here ≡ head_or f ahead → Contains (f ∷ rest_of m f) here
      at [] is e = subst (Contains (f ∷ rest_of m f)) (sym e) (Contains-first f (rest_of m f))
      at (g ∷ more) is e = subst (Contains (f ∷ rest_of m f)) (sym e) (Contains-later f (rest_of m f) g (subst (λ ts. Contains ts g) (sym is) (Contains-append_right w.passed (g ∷ more) g (Contains-first g more))))

  pub walk-live : (here : Tag) → Walked f (rest_of m f) here → IsSome (next_at m here)
  walk-live here w = in-ring_next m here (in-ring_of m (f ∷ rest_of m f) here ring (walk-in here w))

  module _ (here next : Tag) (w : Walked f (rest_of m f) here) (other : here ≢ f) (next_is : next_at m here ≡ Some next) where
    pub walk-on : Further f (rest_of m f) here next w
    walk-on = walked-on m f (rest_of m f) here next w ring other next_is

    pub walk-less : to_come m f next < to_come m f here
    walk-less = come-less f (rest_of m f) here next w walk-on ring.once

  pub walk-back : (here : Tag) (w : Walked f (rest_of m f) here) → here ≡ f → rest_of m f ≡ w.passed
  walk-back here w back = all-passed f (rest_of m f) here w ring.once back

-- so many fins are counted
pub record Counted (m : EntityMap) (f here : Tag) (count : ℕ) : Type 0 where
  pub walked : Walked f (rest_of m f) here
  pub count_is : count ≡ length walked.passed + 1

-- the least of the fins that are passed
pub record Least (m : EntityMap) (f here low : Tag) : Type 0 where
  pub walked : Walked f (rest_of m f) here
  pub low_is : low ≡ least_of f walked.passed

module _ (m : EntityMap) (f : Tag) (h : IsInRing m f) where
  pub counted-first : (here : Tag) → next_at m f ≡ Some here → Counted m f here 1
  counted-first here next =
      let none = ap length (none-passed m f h here next) in
      record { walked = walk-first m f h here next; count_is = omega arith }

  pub counted-on : (here next : Tag) (count : ℕ) → Counted m f here count → here ≢ f → next_at m here ≡ Some next → Counted m f next (count + 1)
  counted-on here next count c other next_is =
      let on = walk-on m f h here next c.walked other next_is in
      record { walked = on.walked; count_is = let k = c.count_is in omega (arith, k, passed-more f (rest_of m f) here next c.walked on) }

  -- there are no more fins than entities
  pub counted-fits : (here next : Tag) (count : ℕ) → Counted m f here count → here ≢ f → next_at m here ≡ Some next → count + 1 ≤ len m
  counted-fits here next count c other next_is =
      let on = walk-on m f h here next c.walked other next_is in
      let k = c.count_is in
      let n : len m ≡ length (entries m) = len-entries m in
      omega (arith, k, n, passed-fewer f (rest_of m f) here next c.walked on, ring-fits m (f ∷ rest_of m f) (starts-ring m f h))

  pub counted-all : (here : Tag) (count : ℕ) → Counted m f here count → here ≡ f → count ≡ length (ring_at m f)
  counted-all here count c back =
      let k = c.count_is in
      let all = ap length (walk-back m f h here c.walked back) in
      let whole = ap length (in-ring_starts m f h) in
      omega arith

  pub least-first : (here : Tag) → next_at m f ≡ Some here → Least m f here f
  least-first here next = record { walked = walk-first m f h here next; low_is = sym (ap (least_of f) (none-passed m f h here next)) }

  pub least-on : (here next low : Tag) → Least m f here low → here ≢ f → next_at m here ≡ Some next → Least m f next (lesser low here)
  least-on here next low l other next_is =
      let on = walk-on m f h here next l.walked other next_is in
      record { walked = on.walked; low_is = ap (λ t. lesser t here) l.low_is ∙ sym (least-more f (rest_of m f) here next l.walked on) }

  pub least-all : (here low : Tag) → Least m f here low → here ≡ f → first_tag (from_least (ring_at m f)) ≡ Some low
  least-all here low l back =
      ap (λ ts. first_tag (from_least ts)) (in-ring_starts m f h) ∙ least-of_ring f (rest_of m f)
      ∙ ap (λ ts. Some (least_of f ts)) (walk-back m f h here l.walked back) ∙ ap Some (sym l.low_is)
