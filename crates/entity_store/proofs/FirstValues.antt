-- The first values that were recorded: the map with them put back, before and after a put; and the changes from them.
use Rattle.std.proofs.Common.{◌≡◌, ◌≢◌, ◌≤◌, true, false, not, cond, List, [], ◌∷◌, ◌++◌, length, Option, None, Some, ⊎_elim, refl, sym, ap, subst, ◌∙◌, arith}
use Rattle.std.specs.Prelude.{map, filter, Contains}
use Rattle.std.specs.List.{AllByRecursion, filter_map, cons_option, list_any}
use Rattle.std.specs.List.Sorted.{IsNonDecreasingBy, IsPermutation}
use Rattle.std.specs.Ordering.{eq_by_cmp}
use Rattle.std.specs.FinMap.{get, get-insert, get-remove, same_map}
use Rattle.std.proofs.lemmas.Bool.{or_cases, true≢false}
use Rattle.std.proofs.lemmas.List.Elements.{All-from_recursion, recursion_from_All}
use Rattle.std.proofs.lemmas.List.Folds.{list_any_at}
use Rattle.indexmap.proofs.CallerLemmas.{Contains-list_any}
use Rattle.std.proofs.lemmas.List.Sorted.{All-permutation, IsPermutation-map, IsPermutation-sym, Contains-permutation, length_permutation}
use Rattle.pk_base.specs.declared.tag.Tag.{Tag}
use Rattle.pk_base.specs.declared.entity.Entity.{Entity}
use Rattle.pk_base.specs.Entity.{same_tag}
use Rattle.pk_base.proofs.Same.{same_tag-Decides}
use Rattle.pk_model.specs.Apart.{NoRepeats}
use Rattle.pk_model.specs.Maps.{EntityMap, tag_cmp, with_entity}
use Rattle.pk_model.proofs.TagLists.{tag_total, tag_antisymmetric, same_from_tie, ties_itself, ties_no_other}
use Rattle.list_facts.proofs.Elements.{Contains-first, Contains-later, Contains-filter, filter_contains}
use Rattle.list_facts.proofs.Lengths.{length-filter_map}
use Rattle.entity_store.specs.declared.changes.Change.{Change}
use Rattle.entity_store.specs.Changes.{same_value, net_changes}
use Rattle.entity_store.specs.Recording.{has_put, recorded_put, put_back, change_of}
use Rattle.entity_store.proofs.Ascending.{tags_changed, NoRepeats-IsPermutation, NoRepeats-filter, TagsAscend-sorted}
use Rattle.entity_store.proofs.NetChanges.{differs_at, change_between, values_from_differs, tags_changed-between, net_changes-is}

abbrev pub Firsts : Type 0
Firsts = List (Tag × Option Entity)

abbrev pub tags_put : Firsts → List Tag
tags_put ps = map (λ p. p.0) ps

-- ---- what a map has with a value put

pub get-with_entity : (m : EntityMap) (t : Tag) (to : Option Entity) (q : Tag) → get (with_entity m t to) q ≡ cond (eq_by_cmp tag_cmp q t) to (get m q)
get-with_entity m t None q = get-remove tag_total m t q
get-with_entity m t (Some e) q = get-insert tag_total m t e q

pub get_put : (m : EntityMap) (t : Tag) (to : Option Entity) → get (with_entity m t to) t ≡ to
get_put m t to = get-with_entity m t to t ∙ ap (λ b. cond b to (get m t)) (ties_itself t)

pub get_other : (m : EntityMap) (t : Tag) (to : Option Entity) (q : Tag) → q ≢ t → get (with_entity m t to) q ≡ get m q
get_other m t to q h = get-with_entity m t to q ∙ ap (λ b. cond b to (get m q)) (ties_no_other q t h)

-- a value that is put and then the old one
put_twice : (m : EntityMap) (t : Tag) (to : Option Entity) → with_entity (with_entity m t to) t (get m t) ≡ m
put_twice m t to =
    same_map tag_total tag_antisymmetric _ _ (λ q. get-with_entity (with_entity m t to) t (get m t) q ∙ elim (eq_by_cmp tag_cmp q t) as (λ b. eq_by_cmp tag_cmp q t ≡ b → cond b (get m t) (get (with_entity m t to) q) ≡ get m q) [
      | true ↦ λ e. ap (get m) (sym (same_from_tie q t e))
      | false ↦ λ e. get-with_entity m t to q ∙ ap (λ b. cond b to (get m q)) e
    ] refl)

-- ---- what a map has with the first values put back

put_back-push : (m : EntityMap) (ps : Firsts) (t : Tag) (before : Option Entity) → put_back m (ps ++ (t, before) ∷ []) ≡ put_back (with_entity m t before) ps
put_back-push m [] t before = refl
put_back-push m (p ∷ ps) t before = ap (λ n. with_entity n p.0 p.1) (put_back-push m ps t before)

-- at a tag that was put it does not depend on the map
put_back_put : (m n : EntityMap) (ps : Firsts) (q : Tag) → has_put ps q ≡ true → get (put_back m ps) q ≡ get (put_back n ps) q
put_back_put m n [] q h = cc
put_back_put m n (p ∷ ps) q h =
    get-with_entity (put_back m ps) p.0 p.1 q
    ∙ elim (eq_by_cmp tag_cmp q p.0) as (λ b. eq_by_cmp tag_cmp q p.0 ≡ b → cond b p.1 (get (put_back m ps) q) ≡ cond b p.1 (get (put_back n ps) q)) [
      | true ↦ λ e. refl
      | false ↦ λ e.
          ⊎_elim (λ (s : same_tag p.0 q ≡ true). absurd (true≢false (sym (ap (λ t. eq_by_cmp tag_cmp q t) ((same_tag-Decides p.0 q).0 s) ∙ ties_itself q) ∙ e)))
          (λ (r : has_put ps q ≡ true). put_back_put m n ps q r)
          (or_cases _ _ h)
    ] refl
    ∙ sym (get-with_entity (put_back n ps) p.0 p.1 q)

-- and elsewhere on the map's value alone
put_back_agrees : (m n : EntityMap) (ps : Firsts) (q : Tag) → get m q ≡ get n q → get (put_back m ps) q ≡ get (put_back n ps) q
put_back_agrees m n [] q h = h
put_back_agrees m n (p ∷ ps) q h =
    get-with_entity (put_back m ps) p.0 p.1 q ∙ ap (cond (eq_by_cmp tag_cmp q p.0) p.1) (put_back_agrees m n ps q h) ∙ sym (get-with_entity (put_back n ps) p.0 p.1 q)

-- a put whose first value is recorded leaves what is put back
put_back-put : (m : EntityMap) (ps : Firsts) (t : Tag) (to : Option Entity) → put_back (with_entity m t to) (recorded_put ps t (get m t)) ≡ put_back m ps
put_back-put m ps t to =
    elim (has_put ps t) as (λ b. has_put ps t ≡ b → put_back (with_entity m t to) (cond b ps (ps ++ (t, get m t) ∷ [])) ≡ put_back m ps) [
      | true ↦ λ e. same_map tag_total tag_antisymmetric _ _ (λ q. elim (eq_by_cmp tag_cmp q t) as (λ b. eq_by_cmp tag_cmp q t ≡ b → get (put_back (with_entity m t to) ps) q ≡ get (put_back m ps) q) [
        | true ↦ λ s. put_back_put (with_entity m t to) m ps q (ap (has_put ps) (same_from_tie q t s) ∙ e)
        | false ↦ λ s. put_back_agrees (with_entity m t to) m ps q (get-with_entity m t to q ∙ ap (λ b. cond b to (get m q)) s)
      ] refl)
      | false ↦ λ e. put_back-push (with_entity m t to) ps t (get m t) ∙ ap (λ n. put_back n ps) (put_twice m t to)
    ] refl

pub put_back-after : (m n : EntityMap) (ps qs : Firsts) (t : Tag) (to : Option Entity) → n ≡ with_entity m t to → qs ≡ recorded_put ps t (get m t) → put_back n qs ≡ put_back m ps
put_back-after m n ps qs t to e f = (λ i. put_back (e i) (f i)) ∙ put_back-put m ps t to

-- a tag of none of them has what the map has
put_back_other : (m : EntityMap) (ps : Firsts) (q : Tag) → (Contains (tags_put ps) q → ⊥) → get (put_back m ps) q ≡ get m q
put_back_other m [] q h = refl
put_back_other m (p ∷ ps) q h =
    get_other (put_back m ps) p.0 p.1 q (λ e. h (subst (Contains (tags_put (p ∷ ps))) (sym e) (Contains-first p.0 (tags_put ps))))
    ∙ put_back_other m ps q (λ k. h (Contains-later p.0 (tags_put ps) q k))

still_back : (m : EntityMap) (ps : Firsts) (p : Tag × Option Entity) (qs : Firsts) → AllByRecursion (λ u. p.0 ≢ u) (tags_put qs) → AllByRecursion (λ q. get (put_back m ps) q.0 ≡ q.1) qs → AllByRecursion (λ q. get (put_back m (p ∷ ps)) q.0 ≡ q.1) qs
still_back m ps p [] h k = tt
still_back m ps p (q ∷ qs) h k = (get_other (put_back m ps) p.0 p.1 q.0 (λ e. h.0 (sym e)) ∙ k.0, still_back m ps p qs h.1 k.1)

-- where no tag stands twice, each has its value back
put_back_each : (m : EntityMap) (ps : Firsts) → NoRepeats (tags_put ps) → AllByRecursion (λ p. get (put_back m ps) p.0 ≡ p.1) ps
put_back_each m [] h = tt
put_back_each m (p ∷ ps) h = (get_put (put_back m ps) p.0 p.1, still_back m ps p ps h.0 (put_back_each m ps h.1))

-- ---- the changes from the first values

-- those of a map that has the first values
changes_from : (old m : EntityMap) (ps : Firsts) → AllByRecursion (λ p. get old p.0 ≡ p.1) ps → filter_map (change_of m) ps ≡ map (change_between old m) (filter (differs_at old m) (tags_put ps))
changes_from old m [] h = refl
changes_from old m (p ∷ ps) h =
    let rest = changes_from old m ps h.1 in
    ap (λ o. cons_option (cond (same_value o (get m p.0)) None (Some (record { tag = p.0; before = o; after = get m p.0 }))) (filter_map (change_of m) ps)) (sym h.0)
    ∙ elim (same_value (get old p.0) (get m p.0)) as (λ b. cons_option (cond b None (Some (change_between old m p.0))) (filter_map (change_of m) ps) ≡ map (change_between old m) (cond (not b) (p.0 ∷ filter (differs_at old m) (tags_put ps)) (filter (differs_at old m) (tags_put ps)))) [
      | true ↦ rest
      | false ↦ ap (λ cs. change_between old m p.0 ∷ cs) rest
    ]

each_between : (old new : EntityMap) (ts : List Tag) → AllByRecursion (λ c. c ≡ change_between old new c.tag) (map (change_between old new) ts)
each_between old new [] = tt
each_between old new (t ∷ ts) = (refl, each_between old new ts)

-- they stand after none, and then in another order
pub IsPermutation-listed : (m : EntityMap) (ps : Firsts) (none xs cs : List Change) → none ≡ [] → xs ≡ none ++ filter_map (change_of m) ps → IsPermutation xs cs → IsPermutation (filter_map (change_of m) ps) cs
IsPermutation-listed m ps none xs cs e f h = subst (λ ys. IsPermutation ys cs) (f ∙ ap (λ ys. ys ++ filter_map (change_of m) ps) e) h

module _ (m : EntityMap) (ps : Firsts) (cs : List Change) (once : NoRepeats (tags_put ps)) (reordered : IsPermutation (filter_map (change_of m) ps) cs) where
  old : EntityMap
  old = put_back m ps

  differing : List Tag
  differing = filter (differs_at old m) (tags_put ps)

  found : filter_map (change_of m) ps ≡ map (change_between old m) differing
  unfolding old differing
  found = changes_from (put_back m ps) m ps (put_back_each m ps once)

  tags_found : tags_changed (filter_map (change_of m) ps) ≡ differing
  tags_found = ap tags_changed found ∙ tags_changed-between old m differing

  tags_reordered : IsPermutation differing (tags_changed cs)
  tags_reordered = subst (λ ts. IsPermutation ts (tags_changed cs)) tags_found (IsPermutation-map (λ (c : Change). c.tag) (filter_map (change_of m) ps) cs reordered)

  put_where_it_differs : (t : Tag) → differs_at old m t ≡ true → Contains (tags_put ps) t
  unfolding old
  put_where_it_differs t h =
      elim (list_any (eq_by_cmp tag_cmp t) (tags_put ps)) as (λ b. list_any (eq_by_cmp tag_cmp t) (tags_put ps) ≡ b → Contains (tags_put ps) t) [
        | true ↦ λ e. Contains-list_any (eq_by_cmp tag_cmp) same_from_tie (tags_put ps) t e
        | false ↦ λ e.
            let absent : Contains (tags_put ps) t → ⊥ = λ k. true≢false (sym (list_any_at (eq_by_cmp tag_cmp t) (tags_put ps) k.0 t k.1 (ap (eq_by_cmp tag_cmp t) k.2 ∙ ties_itself t)) ∙ e) in
            absurd (values_from_differs old m t h (put_back_other m ps t absent))
      ] refl

  -- the changes from the first values, once they ascend, are the net change
  pub net_changes-sorted : IsNonDecreasingBy (λ (c : Change). c.tag.0) cs → cs ≡ net_changes (put_back m ps) m
  unfolding old differing
  net_changes-sorted sorted =
      let apart = NoRepeats-IsPermutation differing (tags_changed cs) tags_reordered (NoRepeats-filter (differs_at old m) (tags_put ps) once) in
      let each = recursion_from_All _ cs (All-permutation (λ c. c ≡ change_between old m c.tag) _ cs reordered (All-from_recursion _ _ (subst (AllByRecursion (λ c. c ≡ change_between old m c.tag)) (sym found) (each_between old m differing)))) in
      net_changes-is old m cs (TagsAscend-sorted cs apart sorted) each
      (λ t h. (filter_contains (differs_at old m) (tags_put ps) t (Contains-permutation (tags_changed cs) differing t (IsPermutation-sym differing (tags_changed cs) tags_reordered) h)).1)
      (λ t h. Contains-permutation differing (tags_changed cs) t tags_reordered (Contains-filter (differs_at old m) (tags_put ps) t (put_where_it_differs t h) h))

  pub length-reordered : length cs ≤ length ps
  length-reordered = omega (arith, length_permutation (filter_map (change_of m) ps) cs reordered, length-filter_map (change_of m) ps)
