-- The slots stay kept: at the beginning, after a write, and after a new block.
use Rattle.std.proofs.Common.{◌≡◌, ◌≢◌, ℕ, ◌+◌, ◌*◌, ◌<◌, ◌≤◌, true, false, cond, is_some, List, [], ◌∷◌, ◌++◌, length, replicate, get_or, set, Option, None, Some, option_map, refl, sym, ap, subst, ◌∙◌, arith, length-append, length-set}
use Rattle.std.specs.Prelude.{IsTrue, MatchOption, nat_lt, ⊤}
use Rattle.std.specs.List.{list_all}
use Rattle.std.specs.Ordering.{eq_by_cmp}
use Rattle.std.specs.FinMap.{get, len, len-empty, get-empty, get-insert, get-remove}
use Rattle.std.proofs.lemmas.List.{length-replicate}
use Rattle.pk_base.specs.declared.tag.Tag.{Tag}
use Rattle.pk_base.specs.declared.entity.Entity.{Entity}
use Rattle.pk_base.specs.Entity.{owner_of}
use Rattle.pk_model.specs.Tags.{tag_at, tags_of, owns}
use Rattle.pk_model.specs.Maps.{EntityMap, tag_cmp, with_entity}
use Rattle.pk_model.proofs.TagLists.{tag_total, Ascends-push, same_from_tie}
use Rattle.list_facts.proofs.Each.{ByRecursion-append}
use Rattle.pk_model.proofs.Apartness.{owns-append_left}
use Rattle.entity_store.specs.OwnerLinks.{links_missing, owner_link}
use Rattle.entity_store.specs.Store.{map_of, IsHosted, IfHosted, IsKept}
use Rattle.entity_store.proofs.MapOf.{map_of-nil, get-map_of_slot, map_of-written, map_of-block, len-map_of}
use Rattle.entity_store.proofs.OwnerLinks.{owners-block, owners-written}
use Rattle.entity_store.proofs.Places.{len-with_entity, some_counts}

nothing_there : (t : Tag) (e : Entity) → get (map_of [] []) t ≡ Some e → IsHosted [] t e
nothing_there t e h = cc (h, ap (λ m. get m t) map_of-nil, get-empty {K = Tag} {X = Entity} tag_cmp t)

pub kept_at_first : IsKept [] [] 0 []
kept_at_first = record {
  places = refl;
  ascending = tt;
  range = tt;
  count = sym (ap len map_of-nil ∙ len-empty tag_cmp Entity);
  owners = refl;
  hosted = nothing_there;
}

-- after a write of an entity that is hosted, each is hosted
hosted_after : (blocks : List ℕ) (m : EntityMap) (t : Tag) (to : Option Entity) → ((q : Tag) (e : Entity) → get m q ≡ Some e → IsHosted blocks q e) → IfHosted blocks t to → (q : Tag) (e : Entity) → get (with_entity m t to) q ≡ Some e → IsHosted blocks q e
hosted_after blocks m t None old new q e h =
    elim (eq_by_cmp tag_cmp q t) as (λ b. cond b None (get m q) ≡ Some e → IsHosted blocks q e) [
      | true ↦ λ k. cc
      | false ↦ λ k. old q e k
    ] (sym (get-remove tag_total m t q) ∙ h)
hosted_after blocks m t (Some x) old new q e h =
    elim (eq_by_cmp tag_cmp q t) as (λ b. eq_by_cmp tag_cmp q t ≡ b → cond b (Some x) (get m q) ≡ Some e → IsHosted blocks q e) [
      | true ↦ λ s k. let same : e ≡ x = cc in let place = same_from_tie q t s in subst (λ u. IsHosted blocks u e) (sym place) (subst (λ y. IsHosted blocks t y) (sym same) new)
      | false ↦ λ s k. old q e k
    ] refl (sym (get-insert tag_total m t x q) ∙ h)

pub kept_after_write : (blocks : List ℕ) (slots : List (Option Entity)) (live after i : ℕ) (t : Tag) (to : Option Entity) (owners : List (Option ℕ)) → IsKept blocks slots live owners → i < 64 * length blocks → tag_at (tags_of blocks) i ≡ t → IfHosted blocks t to → after + cond (is_some (get_or slots i None)) 1 0 ≡ live + cond (is_some to) 1 0 → IsKept blocks (set slots i to) after (set owners (64 + i) (option_map (owner_link blocks) to))
kept_after_write blocks slots live after i t to owners k h place hosted counted =
    let written : map_of blocks (set slots i to) ≡ with_entity (map_of blocks slots) t to = map_of-written blocks slots k.ascending k.places i to h ∙ ap (λ u. with_entity (map_of blocks slots) u to) place in
    let there : get (map_of blocks slots) t ≡ get_or slots i None = ap (get (map_of blocks slots)) (sym place) ∙ get-map_of_slot blocks slots k.ascending k.places i h in
    let tested = ap {B = ℕ} (λ o. cond (is_some o) 1 0) there in
    record {
      places = length-set slots i to ∙ k.places;
      ascending = k.ascending;
      range = k.range;
      count = omega (arith, len-with_entity (map_of blocks slots) t to, ap len written, tested, counted, k.count);
      owners = ap (λ l. set l (64 + i) (option_map (owner_link blocks) to)) k.owners ∙ sym (owners-written blocks slots i to h);
      hosted = λ q e g. hosted_after blocks (map_of blocks slots) t to k.hosted hosted q e (ap (λ m. get m q) (sym written) ∙ g);
    }

pub stored_after_write : (blocks : List ℕ) (slots : List (Option Entity)) (live i : ℕ) (t : Tag) (to : Option Entity) (owners : List (Option ℕ)) → IsKept blocks slots live owners → i < 64 * length blocks → tag_at (tags_of blocks) i ≡ t → map_of blocks (set slots i to) ≡ with_entity (map_of blocks slots) t to
stored_after_write blocks slots live i t to owners k h place = map_of-written blocks slots k.ascending k.places i to h ∙ ap (λ u. with_entity (map_of blocks slots) u to) place

-- what is there counts
pub counts_what_is_there : (blocks : List ℕ) (slots : List (Option Entity)) (live i : ℕ) (t : Tag) (owners : List (Option ℕ)) → IsKept blocks slots live owners → i < 64 * length blocks → tag_at (tags_of blocks) i ≡ t → cond (is_some (get_or slots i None)) 1 0 ≤ live
counts_what_is_there blocks slots live i t owners k h place =
    let there : get (map_of blocks slots) t ≡ get_or slots i None = ap (get (map_of blocks slots)) (sym place) ∙ get-map_of_slot blocks slots k.ascending k.places i h in
    omega (arith, some_counts (map_of blocks slots) t, ap {B = ℕ} (λ o. cond (is_some o) 1 0) there, k.count)

-- a write leaves no more entities than slots
pub fits_after_write : (blocks : List ℕ) (slots : List (Option Entity)) (live i : ℕ) (t : Tag) (to : Option Entity) (owners : List (Option ℕ)) → IsKept blocks slots live owners → i < 64 * length blocks → tag_at (tags_of blocks) i ≡ t → live + cond (is_some to) 1 0 ≤ length slots + cond (is_some (get_or slots i None)) 1 0
fits_after_write blocks slots live i t to owners k h place =
    let written = stored_after_write blocks slots live i t to owners k h place in
    let there : get (map_of blocks slots) t ≡ get_or slots i None = ap (get (map_of blocks slots)) (sym place) ∙ get-map_of_slot blocks slots k.ascending k.places i h in
    omega (arith, len-with_entity (map_of blocks slots) t to, ap len written, ap {B = ℕ} (λ o. cond (is_some o) 1 0) there, k.count, len-map_of blocks (set slots i to), length-set slots i to)

owner_hosted_more : (blocks more : List ℕ) (t : Tag) (o : Option Tag) → MatchOption o ⊤ (λ u. (u ≢ t) × IsTrue (owns blocks u)) → MatchOption o ⊤ (λ u. (u ≢ t) × IsTrue (owns (blocks ++ more) u))
owner_hosted_more blocks more t None h = tt
owner_hosted_more blocks more t (Some u) h = (h.0, owns-append_left blocks more u h.1)

pub hosted_more : (blocks more : List ℕ) (t : Tag) (e : Entity) → IsHosted blocks t e → IsHosted (blocks ++ more) t e
hosted_more blocks more t e h = record { owned = owns-append_left blocks more t h.owned; owner = owner_hosted_more blocks more t (owner_of e) h.owner }

pub kept_after_block : (blocks : List ℕ) (slots : List (Option Entity)) (live b : ℕ) (owners : List (Option ℕ)) → IsKept blocks slots live owners → list_all (λ o. nat_lt o b) blocks ≡ true → 1 ≤ b → b ≤ 262143 → IsKept (blocks ++ b ∷ []) (slots ++ replicate 64 None) live (owners ++ replicate (links_missing (length blocks) + 64) None)
kept_after_block blocks slots live b owners k above low high =
    let same = map_of-block blocks slots b 64 k.places in
    record {
      places = omega (arith, length-append slots (replicate 64 None), length-append blocks (b ∷ []), length-replicate {A = Option Entity} 64 None, k.places);
      ascending = Ascends-push blocks b k.ascending above;
      range = ByRecursion-append (λ c. (1 ≤ c) × (c ≤ 262143)) blocks (b ∷ []) k.range ((low, high), tt);
      count = k.count ∙ ap len (sym same);
      owners = sym (owners-block blocks slots live owners k b);
      hosted = λ t e h. hosted_more blocks (b ∷ []) t e (k.hosted t e (ap (λ m. get m t) (sym same) ∙ h));
    }
