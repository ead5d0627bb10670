-- Ways up through a tree, and where they meet.
use Rattle.std.proofs.Common.{◌≡◌, ◌≢◌, ℕ, zero, suc, ◌<◌, ◌≤◌, ⊎_elim, true, false, not, cond, Bool, List, [], ◌∷◌, ◌++◌, Option, None, Some, refl, sym, ap, subst, ◌∙◌, append_assoc, arith}
use Rattle.std.specs.Prelude.{◌||◌, IsSome, filter, reverse, Contains}
use Rattle.std.specs.List.{AllByRecursion, list_any}
use Rattle.std.proofs.lemmas.Bool.{cases_lt}
use Rattle.std.proofs.lemmas.List.{reverse-append}
use Rattle.pk_base.specs.Entity.{same_tag}
use Rattle.pk_base.specs.declared.tag.Tag.{Tag}
use Rattle.pk_base.proofs.Same.{same_itself, not_same}
use Rattle.list_facts.proofs.Elements.{not_in_nil, Contains-later, Contains-cases}
use Rattle.list_facts.proofs.Each.{ByRecursion-append, ByRecursion-weaker, ByRecursion-contains}
use Rattle.pk_model.specs.Tags.{TagsAscend}
use Rattle.pmark_tree.specs.declared.mark.TreeMark.{TreeMark}
use Rattle.pmark_tree.specs.Marks.{mark_at, is_live, parent_in, initial_of}
use Rattle.pmark_tree.specs.Trees.{IsTree}
use Rattle.pmark_tree.specs.Paths.{up_from, line_of, apart_of, Climbs, Descends, Leads}
use Rattle.pmark_tree.specs.Walks.{IsWalk}
use Rattle.pmark_tree.proofs.Found.{below_other, tags_of, mark_at-found, above_first}
use Rattle.pmark_tree.proofs.Grown.{live_mark}

-- a parent has a smaller tag
abbrev pub Falling : (Tag → Option Tag) → Type 0
Falling parents = (p t : Tag) → parents t ≡ Some p → p.0 < t.0

-- ---- lines

up_from-none : (n : ℕ) (parents : Tag → Option Tag) → up_from n parents None ≡ []
up_from-none zero parents = refl
up_from-none (suc n) parents = refl

up_from-enough : (n m : ℕ) (parents : Tag → Option Tag) (t : Tag) → Falling parents → t.0 < n → t.0 < m → up_from n parents (Some t) ≡ up_from m parents (Some t)
up_from-enough zero m parents t f h l = absurd (omega arith)
up_from-enough (suc n) zero parents t f h l = absurd (omega arith)
up_from-enough (suc n) (suc m) parents t f h l =
    ap (λ ts. t ∷ ts) (elim (parents t) as (λ o. parents t ≡ o → up_from n parents o ≡ up_from m parents o) [
      | None ↦ λ e. up_from-none n parents ∙ sym (up_from-none m parents)
      | Some p ↦ λ e. let low = f p t e in up_from-enough n m parents p f (omega (arith, low, h)) (omega (arith, low, l))
    ] refl)

pub line_of-step : (parents : Tag → Option Tag) (t p : Tag) → Falling parents → parents t ≡ Some p → line_of parents t ≡ t ∷ line_of parents p
line_of-step parents t p f e =
    let low = f p t e in
    ap (λ o. t ∷ up_from t.0 parents o) e ∙ ap (λ ts. t ∷ ts) (up_from-enough t.0 (suc p.0) parents p f low (omega arith))

up_from-below : (n b : ℕ) (parents : Tag → Option Tag) (o : Option Tag) → Falling parents → ((t : Tag) → o ≡ Some t → t.0 ≤ b) → AllByRecursion (λ (u : Tag). u.0 ≤ b) (up_from n parents o)
up_from-below zero b parents o f h = tt
up_from-below (suc n) b parents None f h = tt
up_from-below (suc n) b parents (Some t) f h =
    let top = h t refl in
    (top, up_from-below n b parents (parents t) f (λ p e. let low = f p t e in omega (arith, low, top)))

pub line_of-below : (parents : Tag → Option Tag) (t : Tag) → Falling parents → AllByRecursion (λ (u : Tag). u.0 ≤ t.0) (line_of parents t)
line_of-below parents t f = up_from-below (suc t.0) t.0 parents (Some t) f (λ u e. let same : t ≡ u = cc in let n = ap (λ (x : Tag). x.0) same in omega (arith, n))

-- ---- climbing

Climbs-push : (parents : Tag → Option Tag) (from : Tag) (up : List Tag) (a p : Tag) → Climbs parents from up a → parents a ≡ Some p → Climbs parents from (up ++ a ∷ []) p
Climbs-push parents from [] a p h e = (h, (p, (e, refl)))
Climbs-push parents from (t ∷ up) a p h e = (h.0, (h.1.0, (h.1.1.0, Climbs-push parents h.1.0 up a p h.1.1.1 e)))

Descends-push : (parents : Tag → Option Tag) (from : Tag) (down : List Tag) (p d : Tag) → Descends parents from down p → parents d ≡ Some p → Descends parents from (down ++ d ∷ []) d
Descends-push parents from [] p d h e = (e ∙ ap Some (sym h), refl)
Descends-push parents from (t ∷ down) p d h e = (h.0, Descends-push parents t down p d h.1 e)

pub Descends-back : (parents : Tag → Option Tag) (from : Tag) (up : List Tag) (to : Tag) → Climbs parents from up to → Descends parents to (reverse up) from
Descends-back parents from [] to h = sym h
Descends-back parents from (t ∷ up) to h =
    subst (λ x. Descends parents to (reverse (t ∷ up)) x) (sym h.0)
    (subst (λ l. Descends parents to l t) (sym (reverse-append (t ∷ []) up))
    (Descends-push parents to (reverse up) h.1.0 t (Descends-back parents h.1.0 up to h.1.1.1) h.1.1.0))

-- ---- what is in one line alone

any_none : (u : Tag) (ts : List Tag) → AllByRecursion (λ (t : Tag). u ≢ t) ts → list_any (same_tag u) ts ≡ false
any_none u [] h = refl
any_none u (t ∷ ts) h = ap (λ b. b || list_any (same_tag u) ts) (not_same u t h.0) ∙ any_none u ts h.1

any_there : (u : Tag) (ts : List Tag) → Contains ts u → list_any (same_tag u) ts ≡ true
any_there u [] h = absurd (not_in_nil u h)
any_there u (t ∷ ts) h =
    elim (same_tag u t) as (λ b. same_tag u t ≡ b → (b || list_any (same_tag u) ts) ≡ true) [
      | true ↦ λ e. refl
      | false ↦ λ e.
          ⊎_elim (λ (s : t ≡ u). let bad : true ≡ false = sym (same_itself u) ∙ ap (same_tag u) (sym s) ∙ e in absurd (cc))
          (λ (r : Contains ts u). any_there u ts r)
          (Contains-cases t ts u h)
    ] refl

filter_every : (p : Tag → Bool) (ts : List Tag) → AllByRecursion (λ (t : Tag). p t ≡ true) ts → filter p ts ≡ ts
filter_every p [] h = refl
filter_every p (t ∷ ts) h = ap (λ b. cond b (t ∷ filter p ts) (filter p ts)) h.0 ∙ ap (λ us. t ∷ us) (filter_every p ts h.1)

filter_no : (p : Tag → Bool) (ts : List Tag) → AllByRecursion (λ (t : Tag). p t ≡ false) ts → filter p ts ≡ []
filter_no p [] h = refl
filter_no p (t ∷ ts) h = ap (λ b. cond b (t ∷ filter p ts) (filter p ts)) h.0 ∙ filter_no p ts h.1

filter_both : (p : Tag → Bool) (ts us : List Tag) → AllByRecursion (λ (t : Tag). p t ≡ true) ts → AllByRecursion (λ (t : Tag). p t ≡ false) us → filter p (ts ++ us) ≡ ts
filter_both p [] us h k = filter_no p us k
filter_both p (t ∷ ts) us h k = ap (λ b. cond b (t ∷ filter p (ts ++ us)) (filter p (ts ++ us))) h.0 ∙ ap (λ vs. t ∷ vs) (filter_both p ts us h.1 k)

contains_behind : (xs ys : List Tag) (u : Tag) → Contains ys u → Contains (xs ++ ys) u
contains_behind [] ys u h = h
contains_behind (x ∷ xs) ys u h = Contains-later x (xs ++ ys) u (contains_behind xs ys u h)

-- Two lines that end with the same one, and have nothing else in common.
pub apart_of-is : (parents : Tag → Option Tag) (from to : Tag) (up down both : List Tag) → line_of parents from ≡ up ++ both → line_of parents to ≡ down ++ both → AllByRecursion (λ (u : Tag). AllByRecursion (λ (d : Tag). u ≢ d) (down ++ both)) up → apart_of parents from to ≡ up
apart_of-is parents from to up down both line other h =
    let test : List Tag → Tag → Bool = λ ts u. not (list_any (same_tag u) ts) in
    (λ i. filter (test (other i)) (line i))
    ∙ filter_both (test (down ++ both)) up both
    (ByRecursion-weaker (λ (u : Tag). AllByRecursion (λ (d : Tag). u ≢ d) (down ++ both)) (λ (u : Tag). test (down ++ both) u ≡ true) (λ u k. ap not (any_none u (down ++ both) k)) up h)
    (ByRecursion-contains (λ (u : Tag). test (down ++ both) u ≡ false) both (λ u k. ap not (any_there u (down ++ both) (contains_behind down both u k))))

-- ---- the walk

module _ (ks : List TreeMark) (tree : IsTree ks) where
  falling : Falling (parent_in ks)
  falling p t e = (tree.edges p t e).older

  pub walk-up : (from to a b p : Tag) (up down : List Tag) → IsWalk ks from to a b up down → b.0 < a.0 → parent_in ks a ≡ Some p → IsWalk ks from to p b (up ++ a ∷ []) down
  walk-up from to a b p up down w l e =
      let edge = tree.edges p a e in
      let low = edge.older in
      record {
        lives = edge.parent_lives;
        other_lives = w.other_lives;
        climbs = Climbs-push (parent_in ks) from up a p w.climbs e;
        other_climbs = w.other_climbs;
        line = w.line ∙ ap (λ ts. up ++ ts) (line_of-step (parent_in ks) a p falling e) ∙ sym (append_assoc up (a ∷ []) (line_of (parent_in ks) p));
        other_line = w.other_line;
        above = ByRecursion-append (λ (u : Tag). b.0 < u.0) up (a ∷ []) w.above (l, tt);
        other_above = ByRecursion-weaker (λ (d : Tag). a.0 < d.0) (λ (d : Tag). p.0 < d.0) (λ d k. omega (arith, k, low)) down w.other_above;
        apart = ByRecursion-append (λ (u : Tag). AllByRecursion (λ (d : Tag). u ≢ d) down) up (a ∷ []) w.apart
            (ByRecursion-weaker (λ (d : Tag). a.0 < d.0) (λ (d : Tag). a ≢ d) (λ d k. below_other a d k) down w.other_above, tt);
      }

  apart-more : (b : Tag) (up down : List Tag) → AllByRecursion (λ (u : Tag). b.0 < u.0) up → AllByRecursion (λ (u : Tag). AllByRecursion (λ (d : Tag). u ≢ d) down) up → AllByRecursion (λ (u : Tag). AllByRecursion (λ (d : Tag). u ≢ d) (down ++ b ∷ [])) up
  apart-more b [] down h k = tt
  apart-more b (u ∷ up) down h k = (ByRecursion-append (λ (d : Tag). u ≢ d) down (b ∷ []) k.0 (λ e. below_other b u h.0 (sym e), tt), apart-more b up down h.1 k.1)

  pub walk-down : (from to a b p : Tag) (up down : List Tag) → IsWalk ks from to a b up down → a.0 < b.0 → parent_in ks b ≡ Some p → IsWalk ks from to a p up (down ++ b ∷ [])
  walk-down from to a b p up down w l e =
      let edge = tree.edges p b e in
      let low = edge.older in
      record {
        lives = w.lives;
        other_lives = edge.parent_lives;
        climbs = w.climbs;
        other_climbs = Climbs-push (parent_in ks) to down b p w.other_climbs e;
        line = w.line;
        other_line = w.other_line ∙ ap (λ ts. down ++ ts) (line_of-step (parent_in ks) b p falling e) ∙ sym (append_assoc down (b ∷ []) (line_of (parent_in ks) p));
        above = ByRecursion-weaker (λ (u : Tag). b.0 < u.0) (λ (u : Tag). p.0 < u.0) (λ u k. omega (arith, k, low)) up w.above;
        other_above = ByRecursion-append (λ (d : Tag). a.0 < d.0) down (b ∷ []) w.other_above (l, tt);
        apart = apart-more b up down w.above w.apart;
      }

  -- ---- both ends have met

  apart_line : (a : Tag) (u : Tag) → a.0 < u.0 → AllByRecursion (λ (d : Tag). u ≢ d) (line_of (parent_in ks) a)
  apart_line a u h = ByRecursion-weaker (λ (d : Tag). d.0 ≤ a.0) (λ (d : Tag). u ≢ d) (λ d k e. let n = ap (λ (x : Tag). x.0) e in omega (arith, n, k, h)) (line_of (parent_in ks) a) (line_of-below (parent_in ks) a falling)

  apart-both : (a : Tag) (up down : List Tag) → AllByRecursion (λ (u : Tag). a.0 < u.0) up → AllByRecursion (λ (u : Tag). AllByRecursion (λ (d : Tag). u ≢ d) down) up → AllByRecursion (λ (u : Tag). AllByRecursion (λ (d : Tag). u ≢ d) (down ++ line_of (parent_in ks) a)) up
  apart-both a [] down h k = tt
  apart-both a (u ∷ up) down h k = (ByRecursion-append (λ (d : Tag). u ≢ d) down (line_of (parent_in ks) a) k.0 (apart_line a u h.0), apart-both a up down h.1 k.1)

  apart-flip_one : (d : Tag) (up down : List Tag) → AllByRecursion (λ (u : Tag). AllByRecursion (λ (e : Tag). u ≢ e) (d ∷ down)) up → AllByRecursion (λ (u : Tag). d ≢ u) up × AllByRecursion (λ (u : Tag). AllByRecursion (λ (e : Tag). u ≢ e) down) up
  apart-flip_one d [] down h = (tt, tt)
  apart-flip_one d (u ∷ up) down h = let rest = apart-flip_one d up down h.1 in ((λ e. h.0.0 (sym e), rest.0), (h.0.1, rest.1))

  apart-flip : (up down : List Tag) → AllByRecursion (λ (u : Tag). AllByRecursion (λ (d : Tag). u ≢ d) down) up → AllByRecursion (λ (d : Tag). AllByRecursion (λ (u : Tag). d ≢ u) up) down
  apart-flip up [] h = tt
  apart-flip up (d ∷ down) h = let one = apart-flip_one d up down h in (one.0, apart-flip up down one.1)

  pub met-up : (from to a : Tag) (up down : List Tag) → IsWalk ks from to a a up down → up ≡ apart_of (parent_in ks) from to
  met-up from to a up down w = sym (apart_of-is (parent_in ks) from to up down (line_of (parent_in ks) a) w.line w.other_line (apart-both a up down w.above w.apart))

  pub met-down : (from to a : Tag) (up down : List Tag) → IsWalk ks from to a a up down → down ≡ apart_of (parent_in ks) to from
  met-down from to a up down w = sym (apart_of-is (parent_in ks) to from down up (line_of (parent_in ks) a) w.other_line w.line (apart-both a down up w.other_above (apart-flip up down w.apart)))

  pub met-leads : (from to a : Tag) (up down : List Tag) → IsWalk ks from to a a up down → Leads (parent_in ks) from to up (reverse down)
  met-leads from to a up down w = record { top = a; climbs = w.climbs; descends = Descends-back (parent_in ks) to down a w.other_climbs }

  -- the newer one of two live marks has a parent
  initial_least : (a b : Tag) (k : TreeMark) → initial_of ks ≡ Some a → mark_at ks b ≡ Some k → a.0 ≤ b.0
  initial_least a b k e at = least ks a b k tree.ascend e at
    where
      least : (ks : List TreeMark) (a b : Tag) (k : TreeMark) → TagsAscend (tags_of ks) → initial_of ks ≡ Some a → mark_at ks b ≡ Some k → a.0 ≤ b.0
      least [] a b k up e at = absurd (cc)
      least (j ∷ ks) a b k up e at =
          let first : j.tag ≡ a = cc in
          let found = mark_at-found (j ∷ ks) b k at in
          let low : j.tag.0 ≤ k.tag.0 = ⊎_elim (λ (s : j ≡ k). let n = ap (λ (x : TreeMark). x.tag.0) s in omega (arith, n)) (λ (r : Contains ks k). let m = above_first j ks k up r in omega (arith, m)) (Contains-cases j ks k found.there) in
          let n = ap (λ (x : Tag). x.0) first in
          let m = ap (λ (x : Tag). x.0) found.tag in
          omega (arith, low, n, m)

  pub newer_has_parent : (a b : Tag) → is_live ks a ≡ true → is_live ks b ≡ true → b.0 < a.0 → IsSome (parent_in ks a)
  newer_has_parent a b la lb l =
      elim (parent_in ks a) as (λ o. parent_in ks a ≡ o → IsSome o) [
        | None ↦ λ e.
            let m = live_mark ks b lb in
            let low = initial_least a b m.0 (tree.root a la e) m.1 in
            absurd (omega (arith, low, l))
        | Some p ↦ λ e. refl
      ] refl

pub less_from : (a b : ℕ) → a ≤ b → a ≢ b → a < b
less_from a b l n = ⊎_elim {C = a < b} (λ (h : a < b). h) (λ (h : b ≤ a). absurd (n (omega (arith, l, h)))) (cases_lt a b)

pub walk-met : (ks : List TreeMark) (from to a b : Tag) (up down : List Tag) → a.0 ≡ b.0 → IsWalk ks from to a b up down → IsWalk ks from to a a up down
walk-met ks from to a b up down e w = subst (λ x. IsWalk ks from to a x up down) (λ i. record { 0 = sym e i }) w

pub walk-begins : (ks : List TreeMark) (from to : Tag) → is_live ks from ≡ true → is_live ks to ≡ true → IsWalk ks from to from to [] []
walk-begins ks from to l m = record { lives = l; other_lives = m; climbs = refl; other_climbs = refl; line = refl; other_line = refl; above = tt; other_above = tt; apart = tt }
