-- The changes since the current mark, by the numbers of the tags: none, after one more, and in order.
use Rattle.std.proofs.Common.{◌≡◌, ◌≢◌, ℕ, zero, suc, ◌==◌, true, false, not, cond, List, [], ◌∷◌, drop, Option, None, Some, refl, sym, ap, subst, ◌∙◌}
use Rattle.std.specs.Prelude.{Contains, IsPermutation}
use Rattle.std.specs.List.{AllByRecursion, IsDistinct}
use Rattle.std.specs.List.Sorted.{IsNonDecreasingBy}
use Rattle.std.specs.Map.{keys_of, lookup, values_of}
use Rattle.std.specs.Bool.{one_answer}
use Rattle.std.specs.FinMap.{get}
use Rattle.std.proofs.lemmas.Bool.{eqb-true, eq-eqb, not-true, true≢false}
use Rattle.std.proofs.lemmas.Bool.Decides.{Decides-eqb}
use Rattle.std.proofs.lemmas.List.Elements.{All-from_recursion, recursion_from_All}
use Rattle.std.proofs.lemmas.List.Sorted.{All-permutation, IsPermutation-map, Contains-permutation}
use Rattle.pk_base.specs.Blocks.{tag}
use Rattle.pk_base.specs.declared.tag.Tag.{Tag}
use Rattle.pk_base.specs.declared.entity.Entity.{Entity}
use Rattle.pk_model.specs.Apart.{NoRepeats}
use Rattle.pk_model.specs.Tags.{TagsAscend}
use Rattle.pk_model.specs.Maps.{EntityMap, with_entity}
use Rattle.list_facts.proofs.Elements.{Contains-first, Contains-later, Contains-map, map_contains}
use Rattle.list_facts.proofs.Each.{ByRecursion-at, ByRecursion-weaker}
use Rattle.entity_store.specs.declared.changes.Change.{Change}
use Rattle.entity_store.specs.Changes.{AreChanges, change_at, net_changes, same_value}
use Rattle.entity_store.proofs.Ascending.{NoRepeats-IsPermutation, TagsAscend-sorted, tags_changed}
use Rattle.entity_store.proofs.FirstValues.{get_other, get_put}
use Rattle.entity_store.proofs.NetChanges.{change_between, differs_at, net_changes-is, same_value-itself, values_that_differ}
use Rattle.delta.specs.Deltas.{tags_in}
use Rattle.delta.proofs.Leads.{Untouched, Untouched-below, same_values}
use Rattle.partition.specs.Unsaved.{IsUnsaved, change_of, joined_to}

abbrev pub Entries : Type 0
Entries = List (ℕ × Change)

flipped : (a b : ℕ) → (a == b) ≡ (b == a)
flipped a b = one_answer (a == b) (b == a) (Decides-eqb a b) (λ h. sym (eqb-true b a h), λ e. eq-eqb b a (sym e))

-- how a tag changes from the one value to the other
abbrev between : Tag → Option Entity → Option Entity → Option Change
between t a b = cond (same_value a b) None (Some (record { tag = t; before = a; after = b }))

-- ---- none

pub none_unsaved : (m n : EntityMap) (es : Entries) → m ≡ n → es ≡ [] → IsUnsaved m n es
none_unsaved m n es same none t =
    ap (λ fs. change_of fs t) none
    ∙ sym (ap (λ (k : EntityMap). between t (get m t) (get k t)) (sym same) ∙ ap (λ b. cond b None (Some (record { tag = t; before = get m t; after = get m t }))) (same_value-itself (get m t)))

-- ---- one more

-- a change to b is joined by one from b
joined_between : (t : Tag) (a b v : Option Entity) → b ≢ v → joined_to (between t a b) (record { tag = t; before = b; after = v }) ≡ between t a v
joined_between t a b v h =
    elim (same_value a b) as (λ r. same_value a b ≡ r → joined_to (cond r None (Some (record { tag = t; before = a; after = b }))) (record { tag = t; before = b; after = v }) ≡ between t a v) [
      | true ↦ λ e.
          let same : a ≡ b = same_values a b e in
          (λ i. Some (record { tag = t; before = sym same i; after = v }))
          ∙ sym (ap (λ r. cond r None (Some (record { tag = t; before = a; after = v }))) (values_that_differ a v (λ k. h (sym same ∙ k))))
      | false ↦ λ e. refl
    ] refl

pub noted : (base now : EntityMap) (es fs : Entries) (c : Change) → c.before ≢ c.after → ((q : ℕ) → lookup (λ k. q == k) fs ≡ cond (c.tag.0 == q) (joined_to (change_of es c.tag) c) (lookup (λ k. q == k) es))
    → IsUnsaved base now es → get now c.tag ≡ c.before → IsUnsaved base (with_entity now c.tag c.after) fs
noted base now es fs c differ found net starts t =
    let new : EntityMap = with_entity now c.tag c.after in
    let here : joined_to (change_of es c.tag) c ≡ between c.tag (get base c.tag) (get new c.tag) =
    ap (λ o. joined_to o c) (net c.tag)
    ∙ ap (λ b. joined_to (between c.tag (get base c.tag) (get now c.tag)) (record { tag = c.tag; before = b; after = c.after })) (sym starts)
    ∙ joined_between c.tag (get base c.tag) (get now c.tag) c.after (λ e. differ (sym starts ∙ e))
    ∙ ap (between c.tag (get base c.tag)) (sym (get_put now c.tag c.after))
    in
    found t.0
    ∙ elim (c.tag.0 == t.0) as (λ b. (c.tag.0 == t.0) ≡ b → cond b (joined_to (change_of es c.tag) c) (change_of es t) ≡ between t (get base t) (get new t)) [
      | true ↦ λ e. subst (λ u. joined_to (change_of es c.tag) c ≡ between u (get base u) (get new u)) (ap tag (eqb-true c.tag.0 t.0 e)) here
      | false ↦ λ e.
          let other : t ≢ c.tag = λ s. true≢false (sym (eq-eqb c.tag.0 t.0 (ap (λ (u : Tag). u.0) (sym s))) ∙ e) in
          net t ∙ ap (between t (get base t)) (sym (get_other now c.tag c.after t other))
    ] refl

-- ---- in order

-- each is found by its own number
own_later : (e : ℕ × Change) (fs gs : Entries) → AllByRecursion (λ k. (e.0 == k) ≡ false) (keys_of gs) → AllByRecursion (λ g. lookup (λ k. g.0 == k) fs ≡ Some g.1) gs → AllByRecursion (λ g. lookup (λ k. g.0 == k) (e ∷ fs) ≡ Some g.1) gs
own_later e fs [] h k = tt
own_later e fs (g ∷ gs) h k = (ap (λ b. cond b (Some e.1) (lookup (λ k. g.0 == k) fs)) (flipped g.0 e.0 ∙ h.0) ∙ k.0, own_later e fs gs h.1 k.1)

own_found : (es : Entries) → IsDistinct ◌==◌ (keys_of es) → AllByRecursion (λ e. lookup (λ k. e.0 == k) es ≡ Some e.1) es
unfolding IsDistinct
own_found [] h = tt
own_found (e ∷ es) h = (ap (λ b. cond b (Some e.1) (lookup (λ k. e.0 == k) es)) (eq-eqb e.0 e.0 refl), own_later e es es h.0 (own_found es h.1))

same_some : (a b : Change) → Some a ≡ Some b → a ≡ b
same_some a b h = ap (λ (o : Option Change). elim o as (λ _. Change) [ None ↦ a | Some x ↦ x ]) h

found_among : (es : Entries) (t : Tag) (c : Change) → change_of es t ≡ Some c → Contains (values_of es) c
found_among [] t c h = cc
found_among (e ∷ es) t c h =
    elim (t.0 == e.0) as (λ b. cond b (Some e.1) (change_of es t) ≡ Some c → Contains (e.1 ∷ values_of es) c) [
      | true ↦ λ k. subst (λ (x : Change). Contains (e.1 ∷ values_of es) x) (same_some e.1 c k) (Contains-first e.1 (values_of es))
      | false ↦ λ k. Contains-later e.1 (values_of es) c (found_among es t c k)
    ] h

-- values whose tags are their keys' stand once where the keys do
apart_values : (e : ℕ × Change) (es : Entries) → e.1.tag ≡ tag e.0 → AllByRecursion (λ (g : ℕ × Change). g.1.tag ≡ tag g.0) es → AllByRecursion (λ k. (e.0 == k) ≡ false) (keys_of es) → AllByRecursion (λ u. e.1.tag ≢ u) (tags_changed (values_of es))
apart_values e [] own each h = tt
apart_values e (g ∷ gs) own each h =
    (λ s. true≢false (sym (eq-eqb e.0 g.0 (ap (λ (t : Tag). t.0) (sym own ∙ s ∙ each.0))) ∙ h.0), apart_values e gs own each.1 h.1)

once_values : (es : Entries) → AllByRecursion (λ (g : ℕ × Change). g.1.tag ≡ tag g.0) es → IsDistinct ◌==◌ (keys_of es) → NoRepeats (tags_changed (values_of es))
unfolding IsDistinct
once_values [] each h = tt
once_values (e ∷ es) each h = (apart_values e es each.0 each.1 h.0, once_values es each.1 h.1)

module _ (base now : EntityMap) (es : Entries) (net : IsUnsaved base now es) (distinct : IsDistinct ◌==◌ (keys_of es)) where
  abbrev IsOf : Change → Type 0
  IsOf c = (c ≡ change_between base now c.tag) × (differs_at base now c.tag ≡ true)

  is_of : (t : Tag) (c : Change) → change_at base now t ≡ Some c → (c.tag ≡ t) × IsOf c
  is_of t c h =
      elim (same_value (get base t) (get now t)) as (λ b. same_value (get base t) (get now t) ≡ b → cond b None (Some (change_between base now t)) ≡ Some c → (c.tag ≡ t) × IsOf c) [
        | true ↦ λ e k. cc
        | false ↦ λ e k.
            let same : change_between base now t ≡ c = same_some (change_between base now t) c k in
            let tags : t ≡ c.tag = ap (λ (x : Change). x.tag) same in
            (sym tags, (sym same ∙ ap (change_between base now) tags, subst (λ u. differs_at base now u ≡ true) tags (ap not e)))
      ] refl h

  own_tags : (fs : Entries) → AllByRecursion (λ f. lookup (λ k. f.0 == k) es ≡ Some f.1) fs → AllByRecursion (λ (g : ℕ × Change). g.1.tag ≡ tag g.0) fs
  own_tags [] h = tt
  own_tags (f ∷ fs) h = ((is_of (tag f.0) f.1 (sym (net (tag f.0)) ∙ h.0)).0, own_tags fs h.1)

  each_is : (fs : Entries) → AllByRecursion (λ f. lookup (λ k. f.0 == k) es ≡ Some f.1) fs → AllByRecursion IsOf (values_of fs)
  each_is [] h = tt
  each_is (f ∷ fs) h = ((is_of (tag f.0) f.1 (sym (net (tag f.0)) ∙ h.0)).1, each_is fs h.1)

  once : NoRepeats (tags_changed (values_of es))
  once = once_values es (own_tags es (own_found es distinct)) distinct

  there : (t : Tag) → differs_at base now t ≡ true → Contains (tags_changed (values_of es)) t
  there t h =
      let found : change_of es t ≡ Some (change_between base now t) = net t ∙ ap (λ b. cond b None (Some (change_between base now t))) (not-true _ h) in
      Contains-map (λ (c : Change). c.tag) (values_of es) (change_between base now t) (found_among es t (change_between base now t) found)

  -- ascending, they are the net change
  pub net_sorted : (cs : List Change) → IsPermutation (values_of es) cs → IsNonDecreasingBy (λ (c : Change). c.tag.0) cs → cs ≡ net_changes base now
  net_sorted cs reordered sorted =
      let tags : IsPermutation (tags_changed (values_of es)) (tags_changed cs) = IsPermutation-map (λ (c : Change). c.tag) (values_of es) cs reordered in
      let all : AllByRecursion IsOf cs = recursion_from_All IsOf cs (All-permutation IsOf (values_of es) cs reordered (All-from_recursion IsOf (values_of es) (each_is es (own_found es distinct)))) in
      net_changes-is base now cs (TagsAscend-sorted cs (NoRepeats-IsPermutation (tags_changed (values_of es)) (tags_changed cs) tags once) sorted)
      (ByRecursion-weaker IsOf (λ c. c ≡ change_between base now c.tag) (λ c h. h.0) cs all)
      (λ t h.
      let at = map_contains (λ (c : Change). c.tag) cs t h in
      subst (λ u. differs_at base now u ≡ true) at.2 (ByRecursion-at IsOf cs at.0 all at.1).1)
      (λ t h. Contains-permutation (tags_changed (values_of es)) (tags_changed cs) t tags (there t h))

-- ---- one after another

ascend_drop : (i : ℕ) (cs : List Change) → TagsAscend (tags_in cs) → TagsAscend (tags_in (drop i cs))
ascend_drop zero cs h = h
ascend_drop (suc i) [] h = tt
ascend_drop (suc i) (c ∷ cs) h = ascend_drop i cs h.1

-- the next change is of a tag of none of those behind it
pub untouched_behind : (cs : List Change) (i : ℕ) (c : Change) (rest : List Change) → AreChanges cs → drop i cs ≡ c ∷ rest → Untouched c.tag rest
untouched_behind cs i c rest are next = Untouched-below c.tag rest (subst (λ ds. TagsAscend (tags_in ds)) next (ascend_drop i cs are.ascend)).0
