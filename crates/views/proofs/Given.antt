-- What a walk gives of the children that it passes.
use Rattle.std.proofs.Common.{◌≡◌, ◌≢◌, ℕ, zero, suc, ⊎_elim, Bool, true, false, cond, List, [], ◌∷◌, Option, None, Some, refl, sym, ap, subst, ◌∙◌}
use Rattle.std.specs.Prelude.{Contains, IsTrue, filter, map, not, ◌&&◌, IsPermutation}
use Rattle.std.specs.List.{AllByRecursion, cons_option}
use Rattle.std.specs.FinMap.{get, keys}
use Rattle.std.proofs.lemmas.Bool.{cases_Bool, eqb-true}
use Rattle.std.proofs.lemmas.List.Sorted.{Contains-permutation, IsPermutation-map, IsPermutation-sym}
use Rattle.pk_base.specs.Entity.{class_of, owner_of, same_optional}
use Rattle.pk_base.specs.declared.tag.Tag.{Tag}
use Rattle.pk_base.specs.declared.entity.Class.{Class}
use Rattle.pk_base.specs.declared.entity.Class.TheVariants as class
use Rattle.pk_base.specs.declared.entity.Entity.{Entity}
use Rattle.solid_model.specs.Owners.{number_of_class, same_class}
use Rattle.solid_places.proofs.Kids.{same_class-itself}
use Rattle.pk_model.specs.Apart.{NoRepeats}
use Rattle.pk_model.specs.Maps.{EntityMap}
use Rattle.pk_model.proofs.Keys.{TagsAscend-keys}
use Rattle.entity_store.specs.Kids.{kid_at, kids_among, kids_of}
use Rattle.entity_store.proofs.Ascending.{NoRepeats-IsPermutation}
use Rattle.list_facts.proofs.Each.{ByRecursion-at, ByRecursion-contains}
use Rattle.list_facts.proofs.Elements.{Contains-cases, Contains-filter, Contains-first, Contains-later, Contains-map, filter_contains, map_contains, not_in_nil}
use Rattle.solid_calls.proofs.Sizes.{apart-ascending}
use Rattle.attributes.proofs.Walked.{kid-met, walked-kids}
use Rattle.views.specs.Kids.{Gives, GivesClass, KidsView, is_but, is_given}

-- ---- classes

numbered : ℕ → Class
numbered zero = class.Body
numbered (suc zero) = class.Body
numbered (suc (suc zero)) = class.Shell
numbered (suc (suc (suc zero))) = class.Face
numbered (suc (suc (suc (suc zero)))) = class.Loop
numbered (suc (suc (suc (suc (suc zero))))) = class.Fin
numbered (suc (suc (suc (suc (suc (suc zero)))))) = class.Edge
numbered (suc (suc (suc (suc (suc (suc (suc zero))))))) = class.Vertex
numbered (suc (suc (suc (suc (suc (suc (suc (suc n)))))))) = class.Attr

numbered-class : (c : Class) → numbered (number_of_class c) ≡ c
unfolding numbered
numbered-class class.Body = refl
numbered-class class.Shell = refl
numbered-class class.Face = refl
numbered-class class.Loop = refl
numbered-class class.Fin = refl
numbered-class class.Edge = refl
numbered-class class.Vertex = refl
numbered-class class.Attr = refl

other_class : (a b : Class) → a ≢ b → same_class a b ≡ false
other_class a b other = ⊎_elim
    (λ (t : same_class a b ≡ true). absurd (other (sym (numbered-class a) ∙ ap numbered (eqb-true _ _ t) ∙ numbered-class b)))
    (λ (r : same_class a b ≡ false). r)
    (cases_Bool (same_class a b))

pub not-given : (c : Class) (but : Option Tag) (t : Tag) (e : Entity) → class_of e ≢ c → false ≡ is_given c but (t, e)
not-given c but t e other = sym (ap (λ b. b && not (is_but but t)) (other_class (class_of e) c other))

pub given-unless : (c : Class) (but : Option Tag) (t : Tag) (e : Entity) → class_of e ≡ c → not (is_but but t) ≡ is_given c but (t, e)
given-unless c but t e is = sym (ap (λ b. b && not (is_but but t)) (ap (λ k. same_class k c) is ∙ same_class-itself c))

-- ---- one more child

abbrev Kid : Type 0
Kid = Tag × Entity

pub filter-takes : (p : Kid → Bool) (old new : List Kid) (k : Kid) → old ≡ k ∷ new → p k ≡ true → filter p old ≡ k ∷ filter p new
filter-takes p old new k is h = ap (filter p) is ∙ ap (λ b. cond b (k ∷ filter p new) (filter p new)) h

pub filter-passes : (p : Kid → Bool) (old new : List Kid) (k : Kid) → old ≡ k ∷ new → p k ≡ false → filter p old ≡ filter p new
filter-passes p old new k is h = ap (filter p) is ∙ ap (λ b. cond b (k ∷ filter p new) (filter p new)) h

-- ---- kids, each once

abbrev tags_of : List Kid → List Tag
tags_of ks = map (λ (k : Kid). k.0) ks

kid-tag : (o : Option Tag) (t : Tag) (x : Option Entity) (k : Kid) → kid_at o t x ≡ Some k → k.0 ≡ t
kid-tag o t None k h = absurd (cc)
kid-tag o t (Some e) k h = by_test (same_optional (owner_of e) o) h
  where
    by_test : (b : Bool) → cond b (Some (t, e)) None ≡ Some k → k.0 ≡ t
    by_test true i = let same : (t, e) ≡ k = cc in sym (ap (λ (x : Kid). x.0) same)
    by_test false i = absurd (cc)

later_tag : (o : Option Tag) (m : EntityMap) (u t : Tag) (ts : List Tag) → (Contains (tags_of (kids_among m o ts)) t → Contains ts t)
    → (r : Option Kid) → kid_at o u (get m u) ≡ r → Contains (tags_of (cons_option r (kids_among m o ts))) t → Contains (u ∷ ts) t
later_tag o m u t ts rest None h c = Contains-later u ts t (rest c)
later_tag o m u t ts rest (Some j) h c = ⊎_elim {C = Contains (u ∷ ts) t}
    (λ (e : j.0 ≡ t). subst (Contains (u ∷ ts)) (sym (kid-tag o u (get m u) j h) ∙ e) (Contains-first u ts))
    (λ (l : Contains (tags_of (kids_among m o ts)) t). Contains-later u ts t (rest l))
    (Contains-cases j.0 (tags_of (kids_among m o ts)) t c)

among-tags : (m : EntityMap) (o : Option Tag) (ts : List Tag) (t : Tag) → Contains (tags_of (kids_among m o ts)) t → Contains ts t
among-tags m o [] t k = absurd (not_in_nil t k)
among-tags m o (u ∷ ts) t k = later_tag o m u t ts (among-tags m o ts t) (kid_at o u (get m u)) refl k

later_once : (o : Option Tag) (m : EntityMap) (u : Tag) (ts : List Tag) → AllByRecursion (λ v. u ≢ v) ts → NoRepeats (tags_of (kids_among m o ts))
    → (r : Option Kid) → kid_at o u (get m u) ≡ r → NoRepeats (tags_of (cons_option r (kids_among m o ts)))
later_once o m u ts other rest None h = rest
later_once o m u ts other rest (Some j) h = (
  ByRecursion-contains (λ v. j.0 ≢ v) (tags_of (kids_among m o ts)) (λ v k e. ByRecursion-at (λ w. u ≢ w) ts v other (among-tags m o ts v k) (sym (kid-tag o u (get m u) j h) ∙ e)),
  rest,
)

among-once : (m : EntityMap) (o : Option Tag) (ts : List Tag) → NoRepeats ts → NoRepeats (tags_of (kids_among m o ts))
among-once m o [] once = tt
among-once m o (u ∷ ts) once = later_once o m u ts once.0 (among-once m o ts once.1) (kid_at o u (get m u)) refl

walked-once : (m : EntityMap) (o : Tag) (walk : List Kid) → IsPermutation (kids_of m (Some o)) walk → NoRepeats (tags_of walk)
walked-once m o walk moved =
    NoRepeats-IsPermutation (tags_of (kids_of m (Some o))) (tags_of walk) (IsPermutation-map (λ (k : Kid). k.0) (kids_of m (Some o)) walk moved)
    (among-once m (Some o) (keys m) (apart-ascending (keys m) (TagsAscend-keys m)))

-- some of them, each once
tags-left : (p : Kid → Bool) (ks : List Kid) (t : Tag) → Contains (tags_of (filter p ks)) t → Contains (tags_of ks) t
tags-left p ks t k =
    let x = map_contains (λ (y : Kid). y.0) (filter p ks) t k in
    subst (Contains (tags_of ks)) x.2 (Contains-map (λ (y : Kid). y.0) ks x.0 (filter_contains p ks x.0 x.1).0)

left-once : (p : Kid → Bool) (ks : List Kid) → NoRepeats (tags_of ks) → NoRepeats (tags_of (filter p ks))
left-once p [] once = tt
left-once p (k ∷ ks) once = elim (p k) as (λ b. NoRepeats (tags_of (cond b (k ∷ filter p ks) (filter p ks)))) [
  | true ↦ (ByRecursion-contains (λ u. k.0 ≢ u) (tags_of (filter p ks)) (λ u c. ByRecursion-at (λ u. k.0 ≢ u) (tags_of ks) u once.0 (tags-left p ks u c)), left-once p ks once.1)
  | false ↦ left-once p ks once.1
]

-- ---- what is given

pub gives : (m : EntityMap) (owner : Tag) (walk : List Kid) (c : Class) (but : Option Tag) → IsPermutation (kids_of m (Some owner)) walk → Gives m owner (record { left = walk; class = c; but = but })
gives m owner walk c but moved = record {
  once = left-once (is_given c but) walk (walked-once m owner walk moved);
  are = λ k. (
    λ x.
        let y = filter_contains (is_given c but) walk k x in
        let kid = walked-kids m owner walk moved k y.0 in
        (kid.live, kid.owned, y.1),
    λ x. Contains-filter (is_given c but) walk k (kid-met m owner walk moved k (record { live = x.0; owned = x.1 })) x.2,
  );
}

pub gives-class : (m : EntityMap) (owner : Tag) (walk : List Kid) (c : Class) (but : Option Tag) (v : KidsView) → IsPermutation (kids_of m (Some owner)) walk → v ≡ record { left = walk; class = c; but = but } → GivesClass c but m owner v
gives-class m owner walk c but v moved is = subst (GivesClass c but m owner) (sym is) (record { class = refl; but_one = refl; gives = gives m owner walk c but moved })
