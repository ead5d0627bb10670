-- Cyclic lists that are the same, written from one tag.
use Rattle.std.proofs.Common.{◌≡◌, ◌≢◌, ◌≤◌, ◌⊎◌, inl, inr, ⊎_elim, List, [], ◌∷◌, ◌++◌, drop, append-nil, append_assoc, refl, sym, ap, subst, ◌∙◌, arith}
use Rattle.std.specs.Prelude.{Contains}
use Rattle.std.specs.List.{AllByRecursion}
use Rattle.std.proofs.lemmas.List.Elements.{Contains-append_right}
use Rattle.pk_base.specs.Blocks.{tag}
use Rattle.pk_base.specs.declared.tag.Tag.{Tag}
use Rattle.pk_model.specs.Apart.{NoRepeats}
use Rattle.solid_model.specs.Rings.{written_from, least_of, from_least}
use Rattle.list_facts.proofs.Elements.{not_in_nil, Contains-first}
use Rattle.list_facts.proofs.Each.{ByRecursion-at}
use Rattle.solid_model.proofs.lists.Cycles.{least, written-first}
use Rattle.solid_model.proofs.lists.Turned.{Turned, turned-back, turned-in, turned-once, turned-written}

-- ---- turned twice

-- two ways to part a list: the first parts differ by a list between
data Split (q p r s : List Tag) : Type 0 where
  Before : (m : List Tag) → q ≡ r ++ m → s ≡ m ++ p → Split q p r s
  Behind : (m : List Tag) → r ≡ q ++ m → p ≡ m ++ s → Split q p r s

split : (q p r s : List Tag) → q ++ p ≡ r ++ s → Split q p r s
split [] p r s e = Behind r refl e
split (x ∷ q) p [] s e = Before (x ∷ q) refl (sym e)
split (x ∷ q) p (y ∷ r) s e =
    let head : x ≡ y = cc in
    let rest : q ++ p ≡ r ++ s = cc in
    longer (split q p r s rest) head
  where
    longer : Split q p r s → x ≡ y → Split (x ∷ q) p (y ∷ r) s
    longer (Before m a b) head = Before m (λ i. head i ∷ a i) b
    longer (Behind m a b) head = Behind m (λ i. sym head i ∷ a i) b

pub turned-twice : (xs ys zs : List Tag) → Turned xs ys → Turned ys zs → Turned xs zs
turned-twice xs ys zs h k = from_split (split h.post h.pre k.pre k.post (sym h.there ∙ k.here))
  where
    from_split : Split h.post h.pre k.pre k.post → Turned xs zs
    from_split (Before m a b) = record {
      pre = h.pre ++ k.pre;
      post = m;
      here = h.here ∙ ap (λ ts. h.pre ++ ts) a ∙ sym (append_assoc h.pre k.pre m);
      there = k.there ∙ ap (λ ts. ts ++ k.pre) b ∙ append_assoc m h.pre k.pre;
    }
    from_split (Behind m a b) = record {
      pre = m;
      post = k.post ++ h.post;
      here = h.here ∙ ap (λ ts. ts ++ h.post) b ∙ append_assoc m k.post h.post;
      there = k.there ∙ ap (λ ts. k.post ++ ts) a ∙ sym (append_assoc k.post h.post m);
    }

pub turned-itself : (xs : List Tag) → Turned xs xs
turned-itself xs = record { pre = []; post = xs; here = refl; there = sym (append-nil xs) }

-- ---- written from one tag

same_start : (t : Tag) (a b pre post : List Tag) → t ∷ a ≡ pre ++ post → t ∷ b ≡ post ++ pre → NoRepeats (t ∷ a) → t ∷ b ≡ t ∷ a
same_start t a b [] post here there once = there ∙ append-nil post ∙ sym here
same_start t a b (u ∷ pre) [] here there once = there ∙ sym (append-nil (u ∷ pre)) ∙ sym here
same_start t a b (u ∷ pre) (v ∷ post) here there once =
    let start : t ≡ v = cc in
    let rest : a ≡ pre ++ v ∷ post = cc in
    absurd (ByRecursion-at (λ x. t ≢ x) a v once.0 (subst (λ ts. Contains ts v) (sym rest) (Contains-append_right pre (v ∷ post) v (Contains-first v post))) start)

pub turned-same : (t : Tag) (a b : List Tag) → Turned (t ∷ a) (t ∷ b) → NoRepeats (t ∷ a) → t ∷ b ≡ t ∷ a
turned-same t a b h once = same_start t a b h.pre h.post h.here h.there once

-- a cyclic list, written from its tag t
pub written-turned : (t : Tag) (a ys : List Tag) → Turned (t ∷ a) ys → NoRepeats (t ∷ a) → written_from t ys ≡ t ∷ a
written-turned t a ys h once =
    let first = written-first t ys (turned-in (t ∷ a) ys h t (Contains-first t a)) in
    let rest = drop 1 (written_from t ys) in
    let both : Turned (t ∷ a) (t ∷ rest) = subst (Turned (t ∷ a)) first (turned-twice (t ∷ a) ys (written_from t ys) h (turned-written t ys)) in
    first ∙ turned-same t a rest both once

nil_turned : (ys : List Tag) → Turned [] ys → ys ≡ []
nil_turned [] h = refl
nil_turned (y ∷ ys) h = absurd (not_in_nil y (turned-in (y ∷ ys) [] (turned-back [] (y ∷ ys) h) y (Contains-first y ys)))

-- a cyclic list, written from its least tag
pub least-turned : (xs ys : List Tag) → Turned xs ys → NoRepeats xs → from_least ys ≡ from_least xs
least-turned [] ys h once = ap from_least (nil_turned ys h)
least-turned (x ∷ xs) [] h once = absurd (not_in_nil x (turned-in (x ∷ xs) [] h x (Contains-first x xs)))
least-turned (x ∷ xs) (y ∷ ys) h once =
    let low = least_of x xs in
    let k = least x xs in
    let l = least y ys in
    let le : low.0 ≤ (least_of y ys).0 = ByRecursion-at (λ u. low.0 ≤ u.0) (x ∷ xs) (least_of y ys) (k.first, k.rest) (turned-in (y ∷ ys) (x ∷ xs) (turned-back (x ∷ xs) (y ∷ ys) h) (least_of y ys) l.among) in
    let ge : (least_of y ys).0 ≤ low.0 = ByRecursion-at (λ u. (least_of y ys).0 ≤ u.0) (y ∷ ys) low (l.first, l.rest) (turned-in (x ∷ xs) (y ∷ ys) h low k.among) in
    let number : (least_of y ys).0 ≡ low.0 = omega (arith, le, ge) in
    let same : least_of y ys ≡ low = ap tag number in
    let first = written-first low (x ∷ xs) k.among in
    let rest = drop 1 (written_from low (x ∷ xs)) in
    let here : Turned (x ∷ xs) (low ∷ rest) = subst (Turned (x ∷ xs)) first (turned-written low (x ∷ xs)) in
    ap (λ t. written_from t (y ∷ ys)) same
    ∙ written-turned low rest (y ∷ ys) (turned-twice (low ∷ rest) (x ∷ xs) (y ∷ ys) (turned-back (x ∷ xs) (low ∷ rest) here) h) (turned-once (x ∷ xs) (low ∷ rest) here once)
    ∙ sym first
