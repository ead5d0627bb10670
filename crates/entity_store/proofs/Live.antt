-- The entities found at tags that ascend are sorted; those found at the tags of the blocks are those of the map.
use Rattle.std.proofs.Common.{◌≡◌, ℕ, ◌<◌, ◌&&◌, ◌==◌, ◌||◌, Bool, true, false, cond, List, [], ◌∷◌, ◌++◌, map, Option, None, Some, Contains, T, sym, ap, refl, subst, ◌∙◌}
use Rattle.std.specs.List.{AllByRecursion, cons_option, filter_map, list_any}
use Rattle.std.specs.Option.{option_eq, option_map}
use Rattle.std.specs.Ordering.{eq_by_cmp, is_eq, is_lt}
use Rattle.std.specs.declared.cmp.Ordering.{Ordering}
use Rattle.std.specs.declared.cmp.Ordering.TheVariants.{Less, Equal, Greater}
use Rattle.std.specs.FinMap.{get, entries, keys, find, is_sorted, entries_sorted, get-entries, from_sorted, entries-from_sorted, get-from_sorted, same_map}
use Rattle.std.specs.FinMap.Entries.{below_all}
use Rattle.std.proofs.lemmas.Bool.{and_parts, lt-ltb}
use Rattle.std.proofs.lemmas.List.Elements.{filter_map-append}
use Rattle.std.proofs.lemmas.List.Folds.{list_any_at}
use Rattle.pk_base.specs.Entity.{owner_of, same_optional, same_tag}
use Rattle.pk_base.specs.declared.tag.Tag.{Tag}
use Rattle.pk_base.specs.declared.entity.Entity.{Entity}
use Rattle.pk_model.specs.Tags.{Ascends, TagsAscend, owns, tags_of}
use Rattle.pk_model.specs.Maps.{EntityMap, tag_cmp}
use Rattle.pk_model.proofs.TagLists.{tag_total, tag_antisymmetric, owns-Contains, same_from_tie, ties_itself, ties_no_other, TagsAscend-tags_of}
use Rattle.list_facts.proofs.Each.{ByRecursion-weaker}
use Rattle.pk_model.proofs.Keys.{true_from_T}
use Rattle.entity_store.specs.Kids.{live_of, kid_at, kids_among, kids_of}

-- ---- in the terms of sorted lists

both_true : (a b : Bool) → a ≡ true → b ≡ true → (a && b) ≡ true
both_true a b p q = cc

pub less_tags : (t u : Tag) → t.0 < u.0 → is_lt (tag_cmp t u) ≡ true
less_tags t u h = ap (λ b. is_lt (cond b Less (cond (t.0 == u.0) Equal Greater))) (lt-ltb t.0 u.0 h)

-- what a tag adds to the entities found
abbrev pub live_first : Option Entity → Tag → List (Tag × Entity) → List (Tag × Entity)
live_first o t es = cons_option (option_map (λ e. (t, e)) o) es

below_live : (m : EntityMap) (x : Tag) (ts : List Tag) → AllByRecursion (λ u. x.0 < u.0) ts → below_all tag_cmp x (live_of m ts) ≡ true
below_live m x [] h = refl
below_live m x (t ∷ ts) h = elim (get m t) as (λ o. below_all tag_cmp x (live_first o t (live_of m ts)) ≡ true) [
  | None ↦ below_live m x ts h.1
  | Some e ↦ both_true _ _ (less_tags x t h.0) (below_live m x ts h.1)
]

pub sorted_live : (m : EntityMap) (ts : List Tag) → TagsAscend ts → is_sorted tag_cmp (live_of m ts) ≡ true
sorted_live m [] h = refl
sorted_live m (t ∷ ts) h = elim (get m t) as (λ o. is_sorted tag_cmp (live_first o t (live_of m ts)) ≡ true) [
  | None ↦ sorted_live m ts h.1
  | Some e ↦ both_true _ _ (below_live m t ts h.0) (sorted_live m ts h.1)
]

pub live_of-append : (m : EntityMap) (ts us : List Tag) → live_of m (ts ++ us) ≡ live_of m ts ++ live_of m us
live_of-append m ts us = filter_map-append _ ts us

found_or_not : (b : Bool) (o : Option Entity) → o ≡ None → None ≡ cond b o None
found_or_not true o e = sym e
found_or_not false o e = refl

-- what is found at a tag is the map's entity, where the tag is one of these
find-live_of : (m : EntityMap) (q : Tag) (ts : List Tag) → find tag_cmp q (live_of m ts) ≡ cond (list_any (eq_by_cmp tag_cmp q) ts) (get m q) None
find-live_of m q [] = refl
find-live_of m q (t ∷ ts) =
    let rest = find-live_of m q ts in
    let any = list_any (eq_by_cmp tag_cmp q) ts in
    elim (eq_by_cmp tag_cmp q t) as (λ b. eq_by_cmp tag_cmp q t ≡ b → find tag_cmp q (live_first (get m t) t (live_of m ts)) ≡ cond (b || any) (get m q) None) [
      | true ↦ λ tie.
          let same : get m q ≡ get m t = ap (get m) (same_from_tie q t tie) in
          elim (get m t) as (λ o. get m q ≡ o → find tag_cmp q (live_first o t (live_of m ts)) ≡ get m q) [
            | None ↦ λ is. rest ∙ sym (found_or_not any (get m q) is) ∙ sym is
            | Some e ↦ λ is. ap (λ b. cond b (Some e) (find tag_cmp q (live_of m ts))) tie ∙ sym is
          ] same
      | false ↦ λ tie. elim (get m t) as (λ o. find tag_cmp q (live_first o t (live_of m ts)) ≡ cond any (get m q) None) [
        | None ↦ rest
        | Some e ↦ ap (λ b. cond b (Some e) (find tag_cmp q (live_of m ts))) tie ∙ rest
      ]
    ] refl

-- a tag among others passes the test by which a map finds it
pub ties_with_one : (ts : List Tag) (q : Tag) → Contains ts q → list_any (eq_by_cmp tag_cmp q) ts ≡ true
ties_with_one ts q h = list_any_at (eq_by_cmp tag_cmp q) ts h.0 q h.1 (ap (eq_by_cmp tag_cmp q) h.2 ∙ ties_itself q)

-- where the blocks own each tag of the map, the entities at their tags are all
pub live_of_all : (blocks : List ℕ) (m : EntityMap) → Ascends blocks → ((t : Tag) (e : Entity) → get m t ≡ Some e → owns blocks t ≡ true) → live_of m (tags_of blocks) ≡ entries m
live_of_all blocks m up owned =
    let ts = tags_of blocks in
    let es = live_of m ts in
    let sorted = subst T (sym (sorted_live m ts (TagsAscend-tags_of blocks up))) tt in
    let at : (q : Tag) → cond (list_any (eq_by_cmp tag_cmp q) ts) (get m q) None ≡ get m q = λ q.
    elim (get m q) as (λ o. get m q ≡ o → cond (list_any (eq_by_cmp tag_cmp q) ts) o None ≡ o) [
      | None ↦ λ is. sym (found_or_not (list_any (eq_by_cmp tag_cmp q) ts) None refl)
      | Some e ↦ λ is. ap (λ b. cond b (Some e) None) (ties_with_one ts q (owns-Contains blocks q (owned q e is)))
    ] refl in
    let same = same_map tag_total tag_antisymmetric (from_sorted es) m (λ q. get-from_sorted tag_cmp es q sorted ∙ find-live_of m q ts ∙ at q) in
    sym (entries-from_sorted tag_cmp es sorted) ∙ ap entries same

-- ---- each is found

pub not_tied : (o : Ordering) → is_lt o ≡ true → is_eq o ≡ false
not_tied Less h = refl
not_tied Equal h = cc
not_tied Greater h = cc

later_found : (p : Tag × Entity) (ps rs : List (Tag × Entity)) → below_all tag_cmp p.0 rs ≡ true → AllByRecursion (λ r. find tag_cmp r.0 ps ≡ Some r.1) rs → AllByRecursion (λ r. find tag_cmp r.0 (p ∷ ps) ≡ Some r.1) rs
later_found p ps [] b h = tt
later_found p ps (r ∷ rs) b h =
    let parts = and_parts (is_lt (tag_cmp p.0 r.0)) (below_all tag_cmp p.0 rs) b in
    let apart : r.0 ≡ p.0 → ⊥ = λ e. cc (not_tied (tag_cmp p.0 r.0) parts.0, ap (λ t. eq_by_cmp tag_cmp p.0 t) e, ties_itself p.0) in
    (ap (λ b. cond b (Some p.1) (find tag_cmp r.0 ps)) (ties_no_other r.0 p.0 apart) ∙ h.0, later_found p ps rs parts.1 h.1)

-- each is found under its tag
pub each_found : (ps : List (Tag × Entity)) → is_sorted tag_cmp ps ≡ true → AllByRecursion (λ p. find tag_cmp p.0 ps ≡ Some p.1) ps
each_found [] s = tt
each_found (p ∷ ps) s =
    let parts = and_parts (below_all tag_cmp p.0 ps) (is_sorted tag_cmp ps) s in
    (ap (λ b. cond b (Some p.1) (find tag_cmp p.0 ps)) (ties_itself p.0), later_found p ps ps parts.0 (each_found ps parts.1))

pub all_found : (m : EntityMap) → AllByRecursion (λ p. get m p.0 ≡ Some p.1) (entries m)
all_found m =
    let sorted = true_from_T (is_sorted tag_cmp (entries m)) (entries_sorted m) in
    ByRecursion-weaker _ _ (λ p f. get-entries m p.0 ∙ f) (entries m) (each_found (entries m) sorted)

-- ---- walks

-- the entity with its tag, where it has this owner
abbrev kid : Option Tag → Tag × Entity → Option (Tag × Entity)
kid owner p = kid_at owner p.0 (Some p.1)

-- those with an owner are among those found
kids_found : (m : EntityMap) (owner : Option Tag) (ts : List Tag) → kids_among m owner ts ≡ filter_map (kid owner) (live_of m ts)
kids_found m owner [] = refl
kids_found m owner (t ∷ ts) =
    elim (get m t) as (λ o. cons_option (kid_at owner t o) (kids_among m owner ts) ≡ filter_map (kid owner) (live_first o t (live_of m ts))) [
      | None ↦ kids_found m owner ts
      | Some e ↦ ap (cons_option (kid_at owner t (Some e))) (kids_found m owner ts)
    ]

-- what is found at the keys
found_keys : (m : EntityMap) (es : List (Tag × Entity)) → AllByRecursion (λ p. get m p.0 ≡ Some p.1) es → live_of m (map (λ p. p.0) es) ≡ es
found_keys m [] h = refl
found_keys m (e ∷ es) h = ap (λ o. live_first o e.0 (live_of m (map (λ p. p.0) es))) h.0 ∙ ap (λ l. e ∷ l) (found_keys m es h.1)

-- a test of owners for equality
pub option_eq-same : (a b : Option Tag) → option_eq same_tag a b ≡ same_optional a b
option_eq-same None None = refl
option_eq-same None (Some b) = refl
option_eq-same (Some a) None = refl
option_eq-same (Some a) (Some b) = refl

-- one that has the owner comes first
pub kid_first : (m : EntityMap) (owner : Option Tag) (t : Tag) (e : Entity) (ts : List Tag) → get m t ≡ Some e → same_optional (owner_of e) owner ≡ true → kids_among m owner (t ∷ ts) ≡ (t, e) ∷ kids_among m owner ts
kid_first m owner t e ts is same =
    ap (λ o. cons_option (kid_at owner t o) (kids_among m owner ts)) is
    ∙ ap (λ b. cons_option (cond b (Some (t, e)) None) (kids_among m owner ts)) same

-- a walk over the tags of the blocks meets all that have the owner, ascending
pub kids_of_all : (blocks : List ℕ) (m : EntityMap) (owner : Option Tag) → Ascends blocks → ((t : Tag) (e : Entity) → get m t ≡ Some e → owns blocks t ≡ true) → kids_among m owner (tags_of blocks) ≡ kids_of m owner
kids_of_all blocks m owner up owned =
    kids_found m owner (tags_of blocks)
    ∙ ap (filter_map (kid owner)) (live_of_all blocks m up owned ∙ sym (found_keys m (entries m) (all_found m)))
    ∙ sym (kids_found m owner (keys m))
