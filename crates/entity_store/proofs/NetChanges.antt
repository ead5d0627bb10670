-- The net change between two maps: which lists are it, and the three lists among it.
use Rattle.std.proofs.Common.{◌≡◌, ◌≢◌, Bool, true, false, not, cond, ◌&&◌, is_none, is_some, List, [], ◌∷◌, ◌++◌, Option, None, Some, refl, sym, ap, subst, ◌∙◌}
use Rattle.std.specs.Prelude.{map, filter, Contains}
use Rattle.std.specs.List.{AllByRecursion, filter_map, cons_option}
use Rattle.std.specs.Ordering.{eq_by_cmp}
use Rattle.std.specs.FinMap.{get, keys, entries, find, from_entries, get-entries, get-from_entries}
use Rattle.std.proofs.lemmas.Bool.{not-true}
use Rattle.pk_base.specs.declared.tag.Tag.{Tag}
use Rattle.pk_base.specs.declared.entity.Entity.{Entity}
use Rattle.pk_base.specs.Entity.{same_entity}
use Rattle.pk_base.proofs.Same.{same_entity-Decides}
use Rattle.pk_model.specs.Tags.{TagsAscend}
use Rattle.pk_model.specs.Maps.{EntityMap, tag_cmp, differ, fresh_tags, gone_tags, changed_tags, diff}
use Rattle.pk_model.proofs.TagLists.{tag_total}
use Rattle.list_facts.proofs.Elements.{not_in_nil, Contains-filter, filter_contains}
use Rattle.pk_model.proofs.Keys.{TagsAscend-filter, Contains-keys, keys_contain, TagsAscend-keys}
use Rattle.entity_store.specs.declared.changes.Change.{Change}
use Rattle.entity_store.specs.Changes.{AreChanges, same_value, tags_of_either, change_at, net_changes, lists_among}
use Rattle.entity_store.proofs.Ascending.{tags_changed, same_ascending}

-- ---- values that differ

pub same_value-itself : (o : Option Entity) → same_value o o ≡ true
same_value-itself None = refl
same_value-itself (Some e) = (same_entity-Decides e e).1 refl

pub different_values : (a b : Option Entity) → same_value a b ≡ false → a ≢ b
different_values a b h e = cc (h, same_value-itself a, ap (same_value a) e)

pub values_that_differ : (a b : Option Entity) → a ≢ b → same_value a b ≡ false
values_that_differ None None h = absurd (h refl)
values_that_differ None (Some b) h = refl
values_that_differ (Some a) None h = refl
values_that_differ (Some a) (Some b) h =
    elim (same_entity a b) as (λ r. same_entity a b ≡ r → r ≡ false) [
      | true ↦ λ e. absurd (h (ap Some ((same_entity-Decides a b).0 e)))
      | false ↦ λ e. refl
    ] refl

-- ---- the tags of a map

none_in_either : (t : Tag) (es fs : List (Tag × Entity)) → is_some (find tag_cmp t (es ++ fs)) ≡ false → (is_some (find tag_cmp t es) ≡ false) × (is_some (find tag_cmp t fs) ≡ false)
none_in_either t [] fs h = (refl, h)
none_in_either t (e ∷ es) fs h =
    elim (eq_by_cmp tag_cmp t e.0) as (λ b. is_some (cond b (Some e.1) (find tag_cmp t (es ++ fs))) ≡ false → (is_some (cond b (Some e.1) (find tag_cmp t es)) ≡ false) × (is_some (find tag_cmp t fs) ≡ false)) [
      | true ↦ λ k. cc
      | false ↦ λ k. none_in_either t es fs k
    ] h

pub none_from_not : {X : Type 0} (o : Option X) → is_some o ≡ false → o ≡ None
none_from_not None h = refl
none_from_not (Some x) h = cc

-- ---- the net change

-- whether the maps differ at a tag, and how
abbrev pub differs_at : EntityMap → EntityMap → Tag → Bool
differs_at old new t = not (same_value (get old t) (get new t))

abbrev pub change_between : EntityMap → EntityMap → Tag → Change
change_between old new t = record { tag = t; before = get old t; after = get new t }

pub differs_from_values : (old new : EntityMap) (t : Tag) → get old t ≢ get new t → differs_at old new t ≡ true
differs_from_values old new t h = ap not (values_that_differ (get old t) (get new t) h)

pub values_from_differs : (old new : EntityMap) (t : Tag) → differs_at old new t ≡ true → get old t ≢ get new t
values_from_differs old new t h = different_values (get old t) (get new t) (not-true _ h)

-- a tag at which the maps differ is a tag of one of them
pub Contains-either : (old new : EntityMap) (t : Tag) → differs_at old new t ≡ true → Contains (tags_of_either old new) t
Contains-either old new t h =
    let both : EntityMap = from_entries {R = tag_cmp} (entries old ++ entries new) in
    elim (is_some (get both t)) as (λ b. is_some (get both t) ≡ b → Contains (keys both) t) [
      | true ↦ λ e. Contains-keys both t e
      | false ↦ λ e.
          let none = none_in_either t (entries old) (entries new) (ap is_some (sym (get-from_entries tag_total (entries old ++ entries new) t)) ∙ e) in
          let a : get old t ≡ None = get-entries old t ∙ none_from_not _ none.0 in
          let b : get new t ≡ None = get-entries new t ∙ none_from_not _ none.1 in
          absurd (values_from_differs old new t h (a ∙ sym b))
    ] refl

listed : (old new : EntityMap) (ts : List Tag) → filter_map (change_at old new) ts ≡ map (change_between old new) (filter (differs_at old new) ts)
listed old new [] = refl
listed old new (t ∷ ts) =
    let rest = listed old new ts in
    elim (same_value (get old t) (get new t)) as (λ b. cons_option (cond b None (Some (change_between old new t))) (filter_map (change_at old new) ts) ≡ map (change_between old new) (cond (not b) (t ∷ filter (differs_at old new) ts) (filter (differs_at old new) ts))) [
      | true ↦ rest
      | false ↦ ap (λ cs. change_between old new t ∷ cs) rest
    ]

abbrev pub tags_that_differ : EntityMap → EntityMap → List Tag
tags_that_differ old new = filter (differs_at old new) (tags_of_either old new)

pub net_changes-listed : (old new : EntityMap) → net_changes old new ≡ map (change_between old new) (tags_that_differ old new)
unfolding net_changes
net_changes-listed old new = listed old new (tags_of_either old new)

pub tags_changed-between : (old new : EntityMap) (ts : List Tag) → tags_changed (map (change_between old new) ts) ≡ ts
tags_changed-between old new [] = refl
tags_changed-between old new (t ∷ ts) = ap (λ us. t ∷ us) (tags_changed-between old new ts)

pub TagsAscend-differ : (old new : EntityMap) → TagsAscend (tags_that_differ old new)
TagsAscend-differ old new = TagsAscend-filter (differs_at old new) (tags_of_either old new) (TagsAscend-keys (from_entries {R = tag_cmp} (entries old ++ entries new)))

changes_from_tags : (old new : EntityMap) (cs : List Change) → AllByRecursion (λ c. c ≡ change_between old new c.tag) cs → cs ≡ map (change_between old new) (tags_changed cs)
changes_from_tags old new [] h = refl
changes_from_tags old new (c ∷ cs) h = let rest = changes_from_tags old new cs h.1 in λ i. h.0 i ∷ rest i

-- Ascending changes, of which each is how the maps differ at its tag, and among which stands each tag at which they
-- differ, are the net change.
pub net_changes-is : (old new : EntityMap) (cs : List Change) → TagsAscend (tags_changed cs) → AllByRecursion (λ c. c ≡ change_between old new c.tag) cs
    → ((t : Tag) → Contains (tags_changed cs) t → differs_at old new t ≡ true) → ((t : Tag) → differs_at old new t ≡ true → Contains (tags_changed cs) t) → cs ≡ net_changes old new
net_changes-is old new cs up each true_changes all =
    let tags = same_ascending (tags_changed cs) (tags_that_differ old new) up (TagsAscend-differ old new)
    (λ t h. let d = true_changes t h in Contains-filter (differs_at old new) (tags_of_either old new) t (Contains-either old new t d) d)
    (λ t h. all t (filter_contains (differs_at old new) (tags_of_either old new) t h).1) in
    changes_from_tags old new cs each ∙ ap (map (change_between old new)) tags ∙ sym (net_changes-listed old new)

each_differs : (old new : EntityMap) (ts : List Tag) → AllByRecursion (λ (c : Change). c.before ≢ c.after) (map (change_between old new) (filter (differs_at old new) ts))
each_differs old new [] = tt
each_differs old new (t ∷ ts) =
    let rest = each_differs old new ts in
    elim (differs_at old new t) as (λ b. differs_at old new t ≡ b → AllByRecursion (λ (c : Change). c.before ≢ c.after) (map (change_between old new) (cond b (t ∷ filter (differs_at old new) ts) (filter (differs_at old new) ts)))) [
      | true ↦ λ e. (values_from_differs old new t e, rest)
      | false ↦ λ e. rest
    ] refl

pub AreChanges-net_changes : (old new : EntityMap) → AreChanges (net_changes old new)
AreChanges-net_changes old new =
    subst AreChanges (sym (net_changes-listed old new)) (record {
      ascend = subst TagsAscend (sym (tags_changed-between old new (tags_that_differ old new))) (TagsAscend-differ old new);
      differ = each_differs old new (tags_of_either old new);
    })

-- a map that is as it was has no change
pub net_changes-none : (m : EntityMap) → net_changes m m ≡ []
net_changes-none m = sym (net_changes-is m m [] tt tt (λ t h. absurd (not_in_nil t h)) (λ t h. absurd (values_from_differs m m t h refl)))

-- ---- the three lists among it

among : (old new : EntityMap) (p : Change → Bool) (ts : List Tag) → tags_changed (filter p (map (change_between old new) ts)) ≡ filter (λ t. p (change_between old new t)) ts
among old new p [] = refl
among old new p (t ∷ ts) =
    let rest = among old new p ts in
    elim (p (change_between old new t)) as (λ b. tags_changed (cond b (change_between old new t ∷ filter p (map (change_between old new) ts)) (filter p (map (change_between old new) ts))) ≡ cond b (t ∷ filter (λ u. p (change_between old new u)) ts) (filter (λ u. p (change_between old new u)) ts)) [
      | true ↦ ap (λ us. t ∷ us) rest
      | false ↦ rest
    ]

-- those of the tags that differ which pass a test are those of a map which pass another
chosen : (old new m : EntityMap) (p q : Tag → Bool) → ((t : Tag) → differs_at old new t ≡ true → p t ≡ true → (is_some (get m t) ≡ true) × (q t ≡ true))
    → ((t : Tag) → is_some (get m t) ≡ true → q t ≡ true → (differs_at old new t ≡ true) × (p t ≡ true)) → filter p (tags_that_differ old new) ≡ filter q (keys m)
chosen old new m p q there back =
    same_ascending (filter p (tags_that_differ old new)) (filter q (keys m)) (TagsAscend-filter p _ (TagsAscend-differ old new)) (TagsAscend-filter q _ (TagsAscend-keys m))
    (λ t h.
    let passes = filter_contains p (tags_that_differ old new) t h in
    let differs = filter_contains (differs_at old new) (tags_of_either old new) t passes.0 in
    let found = there t differs.1 passes.1 in
    Contains-filter q (keys m) t (Contains-keys m t found.0) found.1)
    (λ t h.
    let passes = filter_contains q (keys m) t h in
    let found = back t (keys_contain m t passes.0) passes.1 in
    Contains-filter p (tags_that_differ old new) t (Contains-filter (differs_at old new) (tags_of_either old new) t (Contains-either old new t found.0) found.0) found.1)

-- of two values, by the tests of the three lists
came : (a b : Option Entity) → not (same_value a b) ≡ true → is_none a ≡ true → (is_some b ≡ true) × (is_none a ≡ true)
came None None h k = cc
came None (Some b) h k = (refl, k)
came (Some a) b h k = cc

came_back : (a b : Option Entity) → is_some b ≡ true → is_none a ≡ true → (not (same_value a b) ≡ true) × (is_none a ≡ true)
came_back None None h k = cc
came_back None (Some b) h k = (refl, refl)
came_back (Some a) b h k = cc

went : (a b : Option Entity) → not (same_value a b) ≡ true → (is_some a && is_none b) ≡ true → (is_some a ≡ true) × (is_none b ≡ true)
went None b h k = cc
went (Some a) None h k = (refl, refl)
went (Some a) (Some b) h k = cc

went_back : (a b : Option Entity) → is_some a ≡ true → is_none b ≡ true → (not (same_value a b) ≡ true) × ((is_some a && is_none b) ≡ true)
went_back None b h k = cc
went_back (Some a) None h k = (refl, refl)
went_back (Some a) (Some b) h k = cc

stayed : (a b : Option Entity) → not (same_value a b) ≡ true → (is_some a && is_some b) ≡ true → (is_some b ≡ true) × (differ a b ≡ true)
stayed None b h k = cc
stayed (Some a) None h k = cc
stayed (Some a) (Some b) h k = (refl, h)

stayed_back : (a b : Option Entity) → is_some b ≡ true → differ a b ≡ true → (not (same_value a b) ≡ true) × ((is_some a && is_some b) ≡ true)
stayed_back None b h k = cc
stayed_back (Some a) None h k = cc
stayed_back (Some a) (Some b) h k = (k, refl)

module _ (old new : EntityMap) where
  fresh_among : (lists_among (map (change_between old new) (tags_that_differ old new))).fresh ≡ fresh_tags old new
  fresh_among =
      among old new (λ c. is_none c.before) (tags_that_differ old new)
      ∙ chosen old new new (λ t. is_none (get old t)) (λ t. is_none (get old t)) (λ t. came (get old t) (get new t)) (λ t. came_back (get old t) (get new t))

  gone_among : (lists_among (map (change_between old new) (tags_that_differ old new))).gone ≡ gone_tags old new
  gone_among =
      among old new (λ c. is_some c.before && is_none c.after) (tags_that_differ old new)
      ∙ chosen old new old (λ t. is_some (get old t) && is_none (get new t)) (λ t. is_none (get new t)) (λ t. went (get old t) (get new t)) (λ t. went_back (get old t) (get new t))

  changed_among : (lists_among (map (change_between old new) (tags_that_differ old new))).changed ≡ changed_tags old new
  changed_among =
      among old new (λ c. is_some c.before && is_some c.after) (tags_that_differ old new)
      ∙ chosen old new new (λ t. is_some (get old t) && is_some (get new t)) (λ t. differ (get old t) (get new t)) (λ t. stayed (get old t) (get new t)) (λ t. stayed_back (get old t) (get new t))

  -- the tags of the net change are the lists of the difference
  pub lists_among-net_changes : lists_among (net_changes old new) ≡ diff old new
  unfolding diff
  lists_among-net_changes =
      let lists : lists_among (map (change_between old new) (tags_that_differ old new)) ≡ diff old new = λ i. record { fresh = fresh_among i; gone = gone_among i; changed = changed_among i } in
      ap lists_among (net_changes-listed old new) ∙ lists
