-- The children of a link are the slots of the entities with its owner: a walk over them meets each once.
use Rattle.std.proofs.Common.{◌≡◌, ◌≢◌, ℕ, ◌+◌, ◌-◌, ◌*◌, ◌<◌, ◌≤◌, ⊎_elim, true, false, cond, List, [], ◌∷◌, ◌++◌, length, map, get_or, Option, None, Some, option_map, Contains, refl, sym, ap, subst, ◌∙◌, arith}
use Rattle.std.specs.Prelude.{IfSome, IsSome, IsTrue, IsPermutation}
use Rattle.std.specs.List.{AllByRecursion, cons_option, filter_map}
use Rattle.std.specs.FinMap.{get}
use Rattle.std.proofs.lemmas.Bool.{cases_lt, true≢false}
use Rattle.std.proofs.lemmas.Option.{none-some, same_Some}
use Rattle.std.proofs.lemmas.List.Elements.{Contains-append_left, Contains-append_right, Contains-append_cases, filter_map-append}
use Rattle.std.proofs.lemmas.List.Sorted.{IsPermutation-cons, IsPermutation-middle, IsPermutation-refl, IsPermutation-sym, IsPermutation-trans}
use Rattle.pk_base.specs.Entity.{owner_of, same_optional}
use Rattle.pk_base.proofs.Same.{same_optional-Decides}
use Rattle.pk_base.specs.declared.tag.Tag.{Tag}
use Rattle.pk_base.specs.declared.entity.Entity.{Entity}
use Rattle.pk_model.specs.Apart.{NoRepeats}
use Rattle.pk_model.specs.Maps.{EntityMap}
use Rattle.pk_model.specs.Tags.{Ascends, owns, tag_at, tags_of}
use Rattle.pk_model.proofs.TagLists.{NoRepeats-tags_of, owns-Contains}
use Rattle.list_facts.proofs.Each.{ByRecursion-at, ByRecursion-contains, ByRecursion-weaker}
use Rattle.list_facts.proofs.Elements.{Contains-cases, Contains-first, Contains-later, Contains-map, map_contains, not_in_nil, around}
use Rattle.owner_links.specs.Links as links
use Rattle.owner_links.specs.Links.{AreChildren, owner_at}
use Rattle.entity_store.specs.OwnerLinks.{link_to, owner_link, owners_of, place_in}
use Rattle.entity_store.specs.Kids.{IsLinkOfLive, kid_at, kids_among, kids_at, kids_of, live_of, tag_linked}
use Rattle.entity_store.specs.Store.{IsKept, map_of, stored}
use Rattle.entity_store.proofs.Live.{kid_first, kids_of_all, live_first}
use Rattle.entity_store.proofs.MapOf.{get-map_of_slot}
use Rattle.entity_store.proofs.OwnerLinks.{owner-owned, owner_of_first, owner_of_slot, owner_past, place-tag, place-within, tag-place}

-- ---- lists with the same elements

-- without the element, it has the others, each once
without_it : (pre post : List Tag) (t u : Tag) → t ≢ u → Contains (pre ++ t ∷ post) u → Contains (pre ++ post) u
without_it pre post t u other h =
    ⊎_elim (λ (l : Contains pre u). Contains-append_left pre post u l)
    (λ (r : Contains (t ∷ post) u). ⊎_elim (λ (e : t ≡ u). absurd (other e)) (λ (k : Contains post u). Contains-append_right pre post u k) (Contains-cases t post u r))
    (Contains-append_cases pre (t ∷ post) u h)

with_it : (pre post : List Tag) (t u : Tag) → Contains (pre ++ post) u → Contains (pre ++ t ∷ post) u
with_it pre post t u h =
    ⊎_elim (λ (l : Contains pre u). Contains-append_left pre (t ∷ post) u l) (λ (r : Contains post u). Contains-append_right pre (t ∷ post) u (Contains-later t post u r)) (Contains-append_cases pre post u h)

once_without : (pre post : List Tag) (t : Tag) → NoRepeats (pre ++ t ∷ post) → NoRepeats (pre ++ post) × (¬ (Contains (pre ++ post) t))
once_without [] post t once = (once.1, λ c. ByRecursion-at (λ u. t ≢ u) post t once.0 c refl)
once_without (p ∷ pre) post t once =
    let rest = once_without pre post t once.1 in (
      (ByRecursion-contains (λ u. p ≢ u) (pre ++ post) (λ u c. ByRecursion-at (λ v. p ≢ v) (pre ++ t ∷ post) u once.0 (with_it pre post t u c)), rest.0),
      λ c. ⊎_elim (λ (e : p ≡ t). ByRecursion-at (λ v. p ≢ v) (pre ++ t ∷ post) t once.0 (Contains-append_right pre (t ∷ post) t (Contains-first t post)) e) (λ (k : Contains (pre ++ post) t). rest.1 k) (Contains-cases p (pre ++ post) t c),
    )

-- each tag of the one list that gives something is in the other
abbrev Covers : {Y : Type 0} → (Tag → Option Y) → List Tag → List Tag → Type 0
Covers h xs ys = (t : Tag) → Contains xs t → IsSome (h t) → Contains ys t

none_of_all : {Y : Type 0} (h : Tag → Option Y) (ys : List Tag) → Covers h ys [] → filter_map h ys ≡ []
none_of_all h [] c = refl
none_of_all h (y ∷ ys) c = elim (h y) as (λ o. h y ≡ o → cons_option o (filter_map h ys) ≡ []) [
  | None ↦ λ is. none_of_all h ys (λ t k. c t (Contains-later y ys t k))
  | Some z ↦ λ is. absurd (not_in_nil y (c y (Contains-first y ys) (subst (λ o. IsSome o) (sym is) refl)))
] refl

-- two lists of the same tags give the same, in another order
pub same_given : {Y : Type 0} (h : Tag → Option Y) (xs ys : List Tag) → NoRepeats xs → NoRepeats ys → Covers h xs ys → Covers h ys xs → IsPermutation (filter_map h xs) (filter_map h ys)
same_given h [] ys ox oy to back = subst (λ l. IsPermutation [] l) (sym (none_of_all h ys back)) (IsPermutation-refl [])
same_given h (x ∷ xs) ys ox oy to back = elim (h x) as (λ o. h x ≡ o → IsPermutation (cons_option o (filter_map h xs)) (filter_map h ys)) [
  | None ↦ λ is.
      let narrower : Covers h ys xs = λ t k some. ⊎_elim (λ (e : x ≡ t). absurd (no_some (h x) is (subst (λ u. IsSome (h u)) (sym e) some))) (λ (c : Contains xs t). c) (Contains-cases x xs t (back t k some)) in
      same_given h xs ys ox.1 oy (λ t k. to t (Contains-later x xs t k)) narrower
  | Some z ↦ λ is.
      let s = around x ys (to x (Contains-first x xs) (subst (λ o. IsSome o) (sym is) refl)) in
      let once = once_without s.ahead s.behind x (subst NoRepeats s.is oy) in
      let there : Covers h xs (s.ahead ++ s.behind) = λ t k some. without_it s.ahead s.behind x t (ByRecursion-at (λ u. x ≢ u) xs t ox.0 k) (subst (λ l. Contains l t) s.is (to t (Contains-later x xs t k) some)) in
      let here : Covers h (s.ahead ++ s.behind) xs = λ t k some. ⊎_elim (λ (e : x ≡ t). absurd (once.1 (subst (Contains (s.ahead ++ s.behind)) (sym e) k))) (λ (c : Contains xs t). c) (Contains-cases x xs t (back t (subst (λ l. Contains l t) (sym s.is) (with_it s.ahead s.behind x t k)) some)) in
      let rest = same_given h xs (s.ahead ++ s.behind) ox.1 once.0 there here in
      let given : filter_map h ys ≡ filter_map h s.ahead ++ z ∷ filter_map h s.behind = ap (filter_map h) s.is ∙ filter_map-append h s.ahead (x ∷ s.behind) ∙ ap (λ o. filter_map h s.ahead ++ cons_option o (filter_map h s.behind)) is in
      let middle = IsPermutation-sym _ _ (IsPermutation-middle (filter_map h s.ahead) z (filter_map h s.behind)) in
      subst (IsPermutation (z ∷ filter_map h xs)) (sym given)
      (IsPermutation-trans _ (z ∷ (filter_map h s.ahead ++ filter_map h s.behind)) _
      (IsPermutation-cons z _ _ (subst (IsPermutation (filter_map h xs)) (filter_map-append h s.ahead s.behind) rest)) middle)
] refl
  where
    no_some : {Z : Type 0} (o : Option Z) → o ≡ None → IsSome o → ⊥
    no_some None e k = cc
    no_some (Some z) e k = cc

-- ---- links and owners

-- the links of different owners differ
same_link : (blocks : List ℕ) (a b : Option Tag) → Ascends blocks → IfSome a (λ o. IsTrue (owns blocks o)) → IfSome b (λ o. IsTrue (owns blocks o)) → link_to blocks a ≡ link_to blocks b → a ≡ b
same_link blocks None None up p q e = refl
same_link blocks None (Some b) up p q e = absurd (omega (arith, e))
same_link blocks (Some a) None up p q e = absurd (omega (arith, e))
same_link blocks (Some a) (Some b) up p q e =
    let place : place_in blocks a ≡ place_in blocks b = omega (arith, e) in
    ap Some (sym (place-tag blocks a up p) ∙ ap (tag_at (tags_of blocks)) place ∙ place-tag blocks b up q)

-- ---- the entities of the children

-- the entity with its tag is given where it has the owner
record HasOwner (o : Option Tag) (x : Option Entity) : Type 0 where
  entity : Entity
  is : x ≡ Some entity
  owner : owner_of entity ≡ o

kid_there : (o : Option Tag) (t : Tag) (x : Option Entity) → IsSome (kid_at o t x) → HasOwner o x
kid_there o t None h = absurd (cc)
kid_there o t (Some e) h = elim (same_optional (owner_of e) o) as (λ b. same_optional (owner_of e) o ≡ b → IsSome {T = Tag × Entity} (cond b (Some (t, e)) None) → HasOwner o (Some e)) [
  | true ↦ λ same some. record { entity = e; is = refl; owner = (same_optional-Decides (owner_of e) o).0 same }
  | false ↦ λ same some. absurd (cc)
] refl h

module _ (blocks : List ℕ) (slots : List (Option Entity)) (count : ℕ) (owners : List (Option ℕ)) (k : IsKept blocks slots count owners) where
  abbrev m : EntityMap
  m = map_of blocks slots

  abbrev slot_tag : ℕ → Tag
  slot_tag i = tag_at (tags_of blocks) i

  -- what a link tells that has an owner
  record Linked (c n : ℕ) : Type 0 where
    slot : ℕ
    is : c ≡ 64 + slot
    below : slot < 64 * length blocks
    entity : Entity
    there : get m (slot_tag slot) ≡ Some entity
    linked : owner_link blocks entity ≡ n

  linked_slot : (i n : ℕ) (x : Option Entity) → i < 64 * length blocks → get m (slot_tag i) ≡ x → option_map (owner_link blocks) x ≡ Some n → Linked (64 + i) n
  linked_slot i n None h is l = absurd (cc)
  linked_slot i n (Some e) h is l = record { slot = i; is = refl; below = h; entity = e; there = is; linked = same_Some _ _ l }

  link_read : (c n : ℕ) → owner_at owners c ≡ Some n → Linked c n
  link_read c n h =
      let is : get_or (owners_of blocks slots) c None ≡ Some n = ap (λ l. get_or l c None) (sym k.owners) ∙ h in
      ⊎_elim (λ (l : c < 64). absurd (none-some n (sym (owner_of_first blocks slots c l) ∙ is)))
      (λ (r : 64 ≤ c). ⊎_elim
      (λ (below : c < 64 + length slots).
      let i = c - 64 in
      let at : 64 + i ≡ c = omega arith in
      let here : i < 64 * length blocks = omega (arith, k.places) in
      let found = get-map_of_slot blocks slots k.ascending k.places i here in
      subst (λ x. Linked x n) at (linked_slot i n (get_or slots i None) here found (sym (owner_of_slot blocks slots i k.places (omega arith)) ∙ ap (λ x. get_or (owners_of blocks slots) x None) at ∙ is)))
      (λ (past : 64 + length slots ≤ c). absurd (none-some n (sym (owner_past blocks slots c k.places past) ∙ is)))
      (cases_lt c (64 + length slots)))
      (cases_lt c 64)

  owner_of_live : (t : Tag) (e : Entity) → get m t ≡ Some e → IfSome (owner_of e) (λ u. IsTrue (owns blocks u))
  owner_of_live t e h = owner-owned blocks t e (k.hosted t e h)

  -- an entity without the owner of any is none of a walk
  pub no-kids : (o : Tag) → owns blocks o ≡ false → kids_of m (Some o) ≡ []
  no-kids o not = sym (kids_of_all blocks m (Some o) k.ascending (λ t e h. (k.hosted t e h).owned)) ∙ none_of_all (λ t. kid_at (Some o) t (get m t)) (tags_of blocks) (λ t c some.
      let it = kid_there (Some o) t (get m t) some in
      let owned = subst (λ u. IfSome u (λ v. IsTrue (owns blocks v))) it.owner (owner_of_live t it.entity it.is) in
      absurd (true≢false (sym owned ∙ not)))

  module _ (o : Option Tag) (owned : IfSome o (λ u. IsTrue (owns blocks u))) (cs : List ℕ) (are : AreChildren owners (link_to blocks o) cs) where
    abbrev tag_of : ℕ → Tag
    tag_of c = tag_linked blocks c

    -- each child is the link of a live entity that has the owner
    record IsKid (c : ℕ) : Type 0 where
      is_live : IsLinkOfLive (stored blocks slots) c
      entity : Entity
      there : get m (tag_of c) ≡ Some entity
      owner : owner_of entity ≡ o

    kid-of : (c : ℕ) → Contains cs c → IsKid c
    kid-of c h =
        let l = link_read c (link_to blocks o) ((are.all c).0 h) in
        let at : c - 64 ≡ l.slot = let is = l.is in omega (arith, is) in
        let there : get m (tag_of c) ≡ Some l.entity = ap (λ i. get m (slot_tag i)) at ∙ l.there in
        record {
          is_live = record {
            from = let is = l.is in omega (arith, is);
            below = let is = l.is in let below = l.below in omega (arith, is, below);
            live = subst (λ x. IsSome x) (sym there) refl;
          };
          entity = l.entity;
          there = there;
          owner = same_link blocks (owner_of l.entity) o k.ascending (owner_of_live (slot_tag l.slot) l.entity l.there) owned l.linked;
        }

    all_kids : AllByRecursion IsKid cs
    all_kids = ByRecursion-contains IsKid cs kid-of

    pub all-live : AllByRecursion (IsLinkOfLive (stored blocks slots)) cs
    all-live = ByRecursion-weaker IsKid (IsLinkOfLive (stored blocks slots)) (λ c h. h.is_live) cs all_kids

    given_by : (xs : List ℕ) → AllByRecursion IsKid xs → live_of m (map tag_of xs) ≡ kids_among m o (map tag_of xs)
    given_by [] h = refl
    given_by (c ∷ xs) h =
        let e = h.0.entity in
        ap (λ x. live_first x (tag_of c) (live_of m (map tag_of xs))) h.0.there
        ∙ ap (λ l. (tag_of c, e) ∷ l) (given_by xs h.1)
        ∙ sym (kid_first m o (tag_of c) e (map tag_of xs) h.0.there (subst (λ u. same_optional (owner_of e) u ≡ true) h.0.owner ((same_optional-Decides (owner_of e) (owner_of e)).1 refl)))

    tags_once : (xs : List ℕ) → links.NoRepeats xs → AllByRecursion IsKid xs → NoRepeats (map tag_of xs)
    tags_once [] once h = tt
    tags_once (c ∷ xs) once h = (
      ByRecursion-contains (λ u. tag_of c ≢ u) (map tag_of xs) (λ u among same.
          let x = map_contains tag_of xs u among in
          let there = ByRecursion-at IsKid xs x.0 h.1 x.1 in
          let tags : tag_of c ≡ tag_of x.0 = same ∙ sym x.2 in
          let place = place_of c h.0 ∙ ap (place_in blocks) tags in
          let back = place_of x.0 there in
          let low = h.0.is_live.from in
          let low_too = there.is_live.from in
          ByRecursion-at (λ y. c ≢ y) xs x.0 once.0 x.1 (omega (arith, place, back, low, low_too))),
      tags_once xs once.1 h.1,
    )
      where
        place_of : (c : ℕ) → IsKid c → c - 64 ≡ place_in blocks (tag_of c)
        place_of c h = let low = h.is_live.from in let below = h.is_live.below in sym (tag-place blocks (c - 64) k.ascending (omega (arith, low, below)))

    pub walked : IsPermutation (kids_of m o) (kids_at (stored blocks slots) cs)
    walked =
        let given = λ (t : Tag). kid_at o t (get m t) in
        let tags : List Tag = map tag_of cs in
        let there : Covers given (tags_of blocks) tags = λ t c some.
        let it = kid_there o t (get m t) some in
        let own : owns blocks t ≡ true = (k.hosted t it.entity it.is).owned in
        let i = place_in blocks t in
        let here : i < 64 * length blocks = place-within blocks t k.ascending own in
        let tag_is : slot_tag i ≡ t = place-tag blocks t k.ascending own in
        let slot : get_or slots i None ≡ Some it.entity = sym (get-map_of_slot blocks slots k.ascending k.places i here) ∙ ap (get m) tag_is ∙ it.is in
        let owner : owner_at owners (64 + i) ≡ Some (link_to blocks o) = ap (λ l. get_or l (64 + i) None) k.owners ∙ owner_of_slot blocks slots i k.places (omega (arith, k.places, here)) ∙ ap (option_map (owner_link blocks)) slot ∙ ap (λ u. Some (link_to blocks u)) it.owner in
        let at : 64 + i - 64 ≡ i = omega arith in
        subst (Contains tags) (ap slot_tag at ∙ tag_is) (Contains-map tag_of cs (64 + i) ((are.all (64 + i)).1 owner)) in
        let back : Covers given tags (tags_of blocks) = λ t c some.
        let it = kid_there o t (get m t) some in
        owns-Contains blocks t (k.hosted t it.entity it.is).owned in
        let same = same_given given (tags_of blocks) tags (NoRepeats-tags_of blocks k.ascending) (tags_once cs are.once all_kids) there back in
        subst (λ l. IsPermutation l (kids_at (stored blocks slots) cs)) (kids_of_all blocks m o k.ascending (λ t e h. (k.hosted t e h).owned))
        (subst (IsPermutation (kids_among m o (tags_of blocks))) (sym (given_by cs all_kids)) same)
