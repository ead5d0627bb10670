-- What stands below an entity, counted kid by kid.
use Rattle.std.proofs.Common.{◌≡◌, ◌≢◌, ℕ, suc, ◌+◌, ◌≤◌, ◌⊎◌, inl, inr, ⊎_elim, Bool, true, false, cond, List, [], ◌∷◌, ◌++◌, length, Option, Some, None, refl, sym, ap, subst, ◌∙◌, append-nil, append_assoc, length-append, arith}
use Rattle.std.specs.Prelude.{◌↔◌, IfNone, IsSome, Contains, IsPermutation, map, is_some}
use Rattle.std.specs.Option.{option_and_then}
use Rattle.std.specs.List.{AllByRecursion, cons_option}
use Rattle.std.specs.FinMap.{get, keys}
use Rattle.std.proofs.lemmas.List.Elements.{Contains-append_left, Contains-append_right, Contains-append_cases}
use Rattle.std.proofs.lemmas.List.Sorted.{IsPermutation-map}
use Rattle.pk_base.specs.Entity.{owner_of, same_optional}
use Rattle.pk_base.specs.declared.tag.Tag.{Tag}
use Rattle.pk_base.specs.declared.entity.Entity.{Entity}
use Rattle.pk_base.proofs.Same.{same_itself, same_means}
use Rattle.pk_model.specs.Apart.{NoRepeats}
use Rattle.pk_model.specs.Maps.{EntityMap}
use Rattle.pk_model.specs.Tags.{Ascends, AreInRange}
use Rattle.pk_model.proofs.Keys.{TagsAscend-keys}
use Rattle.entity_store.specs.Kids.{kid_at, kids_among, kids_of}
use Rattle.entity_store.specs.Store.{Stored, IsHosted}
use Rattle.entity_store.proofs.Ascending.{NoRepeats-IsPermutation}
use Rattle.list_facts.proofs.Each.{ByRecursion-append, ByRecursion-at, ByRecursion-contains}
use Rattle.list_facts.proofs.Elements.{not_in_nil, Contains-cases, Contains-first, Contains-later, Contains-map, Contains-only}
use Rattle.solid_model.specs.Sound.{IsSound}
use Rattle.solid_calls.proofs.Sizes.{apart-ascending, few-live}
use Rattle.euler_kill.specs.Below.{CountsBelow, IsBelow, IsOwned, OwnsNone}
use Rattle.euler_kill.proofs.KidsFound.{are-walked, walked-are}
use Rattle.euler_kill.proofs.OwnersBelow.{below-live, below-rank, one-way, owned-live, owned-lower, rank}

abbrev pub Kid : Type 0
Kid = Tag × Entity

abbrev tags_of : List Kid → List Tag
tags_of ks = map (λ (k : Kid). k.0) ks

-- ---- lists without repeats

once-append : (ts us : List Tag) → NoRepeats ts → NoRepeats us → ((t : Tag) → Contains ts t → Contains us t → ⊥) → NoRepeats (ts ++ us)
once-append [] us a b apart = b
once-append (t ∷ ts) us a b apart = (
  ByRecursion-append (λ u. t ≢ u) ts us a.0 (ByRecursion-contains (λ u. t ≢ u) us (λ u k e. apart t (Contains-first t ts) (subst (Contains us) (sym e) k))),
  once-append ts us a.1 b (λ u k l. apart u (Contains-later t ts u k) l),
)

-- what stands further on has another tag
once-apart : (ps : List Kid) (k : Kid) (rest : List Kid) → NoRepeats (tags_of (ps ++ k ∷ rest)) → (j : Kid) → Contains ps j → j.0 ≡ k.0 → ⊥
once-apart [] k rest once j c e = absurd (not_in_nil j c)
once-apart (p ∷ ps) k rest once j c e = ⊎_elim {C = ⊥}
    (λ (here : p ≡ j).
    ByRecursion-at (λ u. p.0 ≢ u) (tags_of (ps ++ k ∷ rest)) k.0 once.0
    (Contains-map (λ (x : Kid). x.0) (ps ++ k ∷ rest) k (Contains-append_right ps (k ∷ rest) k (Contains-first k rest))) (ap (λ (x : Kid). x.0) here ∙ e))
    (λ (later : Contains ps j). once-apart ps k rest once.1 j later e)
    (Contains-cases p ps j c)

-- ---- kids, each once

kid-tag : (o : Option Tag) (t : Tag) (x : Option Entity) (k : Kid) → kid_at o t x ≡ Some k → k.0 ≡ t
kid-tag o t None k h = absurd (cc)
kid-tag o t (Some e) k h = by_test (same_optional (owner_of e) o) h
  where
    by_test : (b : Bool) → cond b (Some (t, e)) None ≡ Some k → k.0 ≡ t
    by_test true i = let same : (t, e) ≡ k = cc in sym (ap (λ (x : Kid). x.0) same)
    by_test false i = absurd (cc)

later_tag : (o : Option Tag) (m : EntityMap) (u t : Tag) (ts : List Tag) → (Contains (tags_of (kids_among m o ts)) t → Contains ts t)
    → (r : Option Kid) → kid_at o u (get m u) ≡ r → Contains (tags_of (cons_option r (kids_among m o ts))) t → Contains (u ∷ ts) t
later_tag o m u t ts rest None h c = Contains-later u ts t (rest c)
later_tag o m u t ts rest (Some j) h c = ⊎_elim {C = Contains (u ∷ ts) t}
    (λ (e : j.0 ≡ t). subst (Contains (u ∷ ts)) (sym (kid-tag o u (get m u) j h) ∙ e) (Contains-first u ts))
    (λ (l : Contains (tags_of (kids_among m o ts)) t). Contains-later u ts t (rest l))
    (Contains-cases j.0 (tags_of (kids_among m o ts)) t c)

among-tags : (m : EntityMap) (o : Option Tag) (ts : List Tag) (t : Tag) → Contains (tags_of (kids_among m o ts)) t → Contains ts t
among-tags m o [] t k = absurd (not_in_nil t k)
among-tags m o (u ∷ ts) t k = later_tag o m u t ts (among-tags m o ts t) (kid_at o u (get m u)) refl k

later_once : (o : Option Tag) (m : EntityMap) (u : Tag) (ts : List Tag) → AllByRecursion (λ v. u ≢ v) ts → NoRepeats (tags_of (kids_among m o ts))
    → (r : Option Kid) → kid_at o u (get m u) ≡ r → NoRepeats (tags_of (cons_option r (kids_among m o ts)))
later_once o m u ts other rest None h = rest
later_once o m u ts other rest (Some j) h = (
  ByRecursion-contains (λ v. j.0 ≢ v) (tags_of (kids_among m o ts)) (λ v k e. ByRecursion-at (λ w. u ≢ w) ts v other (among-tags m o ts v k) (sym (kid-tag o u (get m u) j h) ∙ e)),
  rest,
)

among-once : (m : EntityMap) (o : Option Tag) (ts : List Tag) → NoRepeats ts → NoRepeats (tags_of (kids_among m o ts))
among-once m o [] once = tt
among-once m o (u ∷ ts) once = later_once o m u ts once.0 (among-once m o ts once.1) (kid_at o u (get m u)) refl

walked-once : (m : EntityMap) (o : Tag) (walk : List Kid) → IsPermutation (kids_of m (Some o)) walk → NoRepeats (tags_of walk)
walked-once m o walk moved =
    NoRepeats-IsPermutation (tags_of (kids_of m (Some o))) (tags_of walk) (IsPermutation-map (λ (k : Kid). k.0) (kids_of m (Some o)) walk moved)
    (among-once m (Some o) (keys m) (apart-ascending (keys m) (TagsAscend-keys m)))

owner-means : (a : Option Tag) (o : Tag) → same_optional a (Some o) ≡ true → a ≡ Some o
owner-means None o h = absurd (cc)
owner-means (Some a) o h = ap Some (same_means a o h)

pub walked-owned : (m : EntityMap) (o : Tag) (walk : List Kid) → IsPermutation (kids_of m (Some o)) walk → (k : Kid) → Contains walk k → IsOwned m o k.0
walked-owned m o walk moved k c =
    let is = walked-are m (Some o) walk moved k.0 k.1 c in
    ap (option_and_then owner_of) is.0 ∙ owner-means (owner_of k.1) o is.1

pub owned-walked : (m : EntityMap) (o : Tag) (walk : List Kid) → IsPermutation (kids_of m (Some o)) walk → (t : Tag) → IsOwned m o t → (e : Entity) × Contains walk (t, e)
owned-walked m o walk moved t own = by_entity (get m t) refl
  where
    by_entity : (x : Option Entity) → get m t ≡ x → (e : Entity) × Contains walk (t, e)
    by_entity None is = let both : None ≡ Some o = sym (ap (option_and_then owner_of) is) ∙ own in absurd (cc)
    by_entity (Some e) is =
        let owner : owner_of e ≡ Some o = sym (ap (option_and_then owner_of) is) ∙ own in
        (e, are-walked m (Some o) walk moved t e (is, ap (λ a. same_optional a (Some o)) owner ∙ same_itself o))

-- ---- one after another

-- the entity itself, or what stands below one of these kids
abbrev IsCounted : ℕ → EntityMap → Tag → List Kid → Tag → Type 0
IsCounted n m o passed t = (o ≡ t) ⊎ ((k : Kid) × Contains passed k × IsBelow n m k.0 t)

-- so many stand below the kids that were passed, with the entity itself
pub record CountsSome (n : ℕ) (m : EntityMap) (o : Tag) (all left : List Kid) (count : ℕ) : Type 0 where
  pub passed : List Kid
  pub split : all ≡ passed ++ left
  pub tags : List Tag
  pub once : NoRepeats tags
  pub are : (t : Tag) → Contains tags t ↔ IsCounted n m o passed t
  pub count_is : count ≡ length tags

pub counts-first : (n : ℕ) (m : EntityMap) (o : Tag) (all : List Kid) → CountsSome n m o all all 1
counts-first n m o all = record {
  passed = [];
  split = refl;
  tags = o ∷ [];
  once = (tt, tt);
  are = λ t. (
    λ k. inl (Contains-only o t k),
    λ h. ⊎_elim {C = Contains (o ∷ []) t}
        (λ (e : o ≡ t). subst (Contains (o ∷ [])) e (Contains-first o []))
        (λ (r : (k : Kid) × Contains [] k × IsBelow n m k.0 t). absurd (not_in_nil r.0 r.1)) h,
  );
  count_is = refl;
}

-- the next one is owned
pub next-owned : (m : EntityMap) (n : ℕ) (o : Tag) (all old left : List Kid) (k : Kid) (count : ℕ) → IsPermutation (kids_of m (Some o)) all → CountsSome n m o all old count → old ≡ k ∷ left → IsOwned m o k.0
next-owned m n o all old left k count moved c is =
    walked-owned m o all moved k (subst (λ ks. Contains ks k) (sym (c.split ∙ ap (λ ks. c.passed ++ ks) is)) (Contains-append_right c.passed (k ∷ left) k (Contains-first k left)))

module _ (m : EntityMap) (s : IsSound m) (n : ℕ) (o : Tag) (all : List Kid) (moved : IsPermutation (kids_of m (Some o)) all) where
  module _ (left : List Kid) (k : Kid) (old : List Kid) (count more : ℕ) (c : CountsSome n m o all old count) (is : old ≡ k ∷ left) (b : CountsBelow n m k.0 more) where
    among : Contains all k
    among = subst (λ ks. Contains ks k) (sym (c.split ∙ ap (λ ks. c.passed ++ ks) is)) (Contains-append_right c.passed (k ∷ left) k (Contains-first k left))

    own : IsOwned m o k.0
    own = walked-owned m o all moved k among

    apart : (t : Tag) → Contains c.tags t → Contains b.tags t → ⊥
    apart t x y =
        let low = (b.are t).0 y in
        ⊎_elim {C = ⊥}
        (λ (e : o ≡ t).
        let same = ap (rank m) e in
        absurd (omega (arith, same, below-rank m s n k.0 t low, owned-lower m s o k.0 own)))
        (λ (r : (j : Kid) × Contains c.passed j × IsBelow n m j.0 t).
        let there : Contains all r.0 = subst (λ ks. Contains ks r.0) (sym c.split) (Contains-append_left c.passed old r.0 r.1) in
        once-apart c.passed k left (subst (λ ks. NoRepeats (tags_of ks)) (c.split ∙ ap (λ ks. c.passed ++ ks) is) (walked-once m o all moved)) r.0 r.1
        (one-way m s n n o r.0.0 k.0 t (walked-owned m o all moved r.0 there) own r.2 low))
        ((c.are t).0 x)

    pub counts-more : CountsSome n m o all left (count + more)
    counts-more = record {
      passed = c.passed ++ k ∷ [];
      split = c.split ∙ ap (λ ks. c.passed ++ ks) is ∙ sym (append_assoc c.passed (k ∷ []) left);
      tags = c.tags ++ b.tags;
      once = once-append c.tags b.tags c.once b.once apart;
      are = λ t. (
        λ x. ⊎_elim {C = IsCounted n m o (c.passed ++ k ∷ []) t}
            (λ (l : Contains c.tags t). ⊎_elim {C = IsCounted n m o (c.passed ++ k ∷ []) t}
            (λ (e : o ≡ t). inl e)
            (λ (r : (j : Kid) × Contains c.passed j × IsBelow n m j.0 t). inr (r.0, Contains-append_left c.passed (k ∷ []) r.0 r.1, r.2))
            ((c.are t).0 l))
            (λ (r : Contains b.tags t). inr (k, Contains-append_right c.passed (k ∷ []) k (Contains-first k []), (b.are t).0 r))
            (Contains-append_cases c.tags b.tags t x),
        λ x. ⊎_elim {C = Contains (c.tags ++ b.tags) t}
            (λ (e : o ≡ t). Contains-append_left c.tags b.tags t ((c.are t).1 (inl e)))
            (λ (r : (j : Kid) × Contains (c.passed ++ k ∷ []) j × IsBelow n m j.0 t). ⊎_elim {C = Contains (c.tags ++ b.tags) t}
            (λ (l : Contains c.passed r.0). Contains-append_left c.tags b.tags t ((c.are t).1 (inr (r.0, l, r.2))))
            (λ (l : Contains (k ∷ []) r.0).
            let same : k ≡ r.0 = Contains-only k r.0 l in
            Contains-append_right c.tags b.tags t ((b.are t).1 (subst (λ (j : Kid). IsBelow n m j.0 t) (sym same) r.2)))
            (Contains-append_cases c.passed (k ∷ []) r.0 r.1)) x,
      );
      count_is = let x = c.count_is in let y = b.count_is in omega (arith, x, y, length-append c.tags b.tags);
    }

  -- all that is counted is live
  counted-live : (old : List Kid) (count : ℕ) (c : CountsSome n m o all old count) → IsSome (get m o) → (t : Tag) → Contains c.tags t → is_some (get m t) ≡ true
  counted-live old count c live t x = ⊎_elim {C = IsSome (get m t)}
      (λ (e : o ≡ t). subst (λ u. IsSome (get m u)) e live)
      (λ (r : (j : Kid) × Contains c.passed j × IsBelow n m j.0 t).
      let there : Contains all r.0 = subst (λ ks. Contains ks r.0) (sym c.split) (Contains-append_left c.passed old r.0 r.1) in
      below-live m s n r.0.0 t (owned-live m s o r.0.0 (walked-owned m o all moved r.0 there)) r.2)
      ((c.are t).0 x)

  pub counts-all : (left : List Kid) (count : ℕ) → CountsSome n m o all left count → left ≡ [] → CountsBelow (suc n) m o count
  counts-all left count c none =
      let same : all ≡ c.passed = c.split ∙ ap (λ ks. c.passed ++ ks) none ∙ append-nil c.passed in
      record {
        tags = c.tags;
        once = c.once;
        are = λ t. (
          λ x. ⊎_elim {C = IsBelow (suc n) m o t}
              (λ (e : o ≡ t). inl e)
              (λ (r : (j : Kid) × Contains c.passed j × IsBelow n m j.0 t). inr (r.0.0, walked-owned m o all moved r.0 (subst (λ ks. Contains ks r.0) (sym same) r.1), r.2))
              ((c.are t).0 x),
          λ x. ⊎_elim {C = Contains c.tags t}
              (λ (e : o ≡ t). (c.are t).1 (inl e))
              (λ (r : (k : Tag) × IsOwned m o k × IsBelow n m k t).
              let w = owned-walked m o all moved r.0 r.1 in
              (c.are t).1 (inr ((r.0, w.0), subst (λ ks. Contains ks (r.0, w.0)) same w.1, r.2))) x,
        );
        count_is = c.count_is;
      }

-- and there are few
pub counts-few : (s : Stored) → Ascends s.blocks → AreInRange s.blocks → ((t : Tag) (e : Entity) → get s.map t ≡ Some e → IsHosted s.blocks t e) → IsSound s.map
    → (n : ℕ) (o : Tag) (all : List Kid) → IsPermutation (kids_of s.map (Some o)) all → IsSome (get s.map o) → (left : List Kid) (count : ℕ) → CountsSome n s.map o all left count → count ≤ 16777152
counts-few s ascends range hosted sound n o all moved live left count c =
    let is = c.count_is in
    omega (arith, is, few-live s ascends range hosted c.tags c.once (counted-live s.map sound n o all moved left count c live))

-- ---- where nothing below is looked at

pub counts-one : (m : EntityMap) (o : Tag) (n : ℕ) → n ≡ 0 → CountsBelow n m o 1
counts-one m o n h = subst (λ k. CountsBelow k m o 1) (sym h) (record {
  tags = o ∷ [];
  once = (tt, tt);
  are = λ t. (λ k. Contains-only o t k, λ e. subst (Contains (o ∷ [])) e (Contains-first o []));
  count_is = refl;
})

-- ---- one kid

pub none-owned : (m : EntityMap) (o : Tag) (walk : List Kid) (r : Option Tag) → IsPermutation (kids_of m (Some o)) walk → walk ≡ [] → IfNone r (OwnsNone m o)
none-owned m o walk None moved none = λ t own.
    let w = owned-walked m o walk moved t own in
    not_in_nil (t, w.0) (subst (λ ks. Contains ks (t, w.0)) none w.1)
none-owned m o walk (Some k) moved none = tt
