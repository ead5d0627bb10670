-- The keys of a map: which they are, and that they ascend.
use Rattle.std.proofs.Common.{◌≡◌, ◌<◌, Bool, true, false, cond, List, [], ◌∷◌, map, T, refl, sym, ap, subst, ◌∙◌}
use Rattle.std.specs.Prelude.{filter, is_some, Contains}
use Rattle.std.specs.List.{AllByRecursion}
use Rattle.std.specs.Ordering.{eq_by_cmp, is_lt}
use Rattle.std.specs.declared.cmp.Ordering.TheVariants.{Less, Equal, Greater}
use Rattle.std.specs.Cmp.{Equal-is, ranked}
use Rattle.std.specs.FinMap.{get, keys, entries, entries_sorted, is_sorted, contains_key-keys}
use Rattle.std.specs.FinMap.Entries.{below_all}
use Rattle.std.proofs.lemmas.Bool.{true≢false, and_parts}
use Rattle.std.proofs.lemmas.List.Folds.{list_any_at, Any-from_list_any}
use Rattle.list_facts.proofs.Each.{ByRecursion-filter}
use Rattle.pk_base.specs.declared.tag.Tag.{Tag}
use Rattle.pk_base.specs.declared.entity.Entity.{Entity}
use Rattle.pk_model.specs.Maps.{EntityMap, tag_cmp}
use Rattle.pk_model.specs.Tags.{TagsAscend}
use Rattle.pk_model.proofs.TagLists.{tag_antisymmetric, ties_itself}

-- ---- which they are

pub Contains-keys : (m : EntityMap) (t : Tag) → is_some (get m t) ≡ true → Contains (keys m) t
Contains-keys m t h =
    let found = Any-from_list_any (eq_by_cmp tag_cmp t) (keys m) (sym (contains_key-keys m t) ∙ h) in
    subst (Contains (keys m)) (sym (tag_antisymmetric t found.1 ((Equal-is (tag_cmp t found.1)).0 found.4))) (found.0, found.2, found.3)

pub keys_contain : (m : EntityMap) (t : Tag) → Contains (keys m) t → is_some (get m t) ≡ true
keys_contain m t h = contains_key-keys m t ∙ list_any_at (eq_by_cmp tag_cmp t) (keys m) h.0 t h.1 (ap (eq_by_cmp tag_cmp t) h.2 ∙ ties_itself t)

-- ---- they ascend

below : (a b : Tag) → is_lt (tag_cmp a b) ≡ true → a.0 < b.0
below a b h = elim (tag_cmp a b) as (λ r. tag_cmp a b ≡ r → is_lt r ≡ true → a.0 < b.0) [
  | Less ↦ λ e _. ranked a.0 b.0 Less (sym e)
  | Equal ↦ λ e k. absurd (true≢false (sym k))
  | Greater ↦ λ e k. absurd (true≢false (sym k))
] refl h

below_later : (a : Tag) (es : List (Tag × Entity)) → below_all tag_cmp a es ≡ true → AllByRecursion (λ (b : Tag). a.0 < b.0) (map (λ e. e.0) es)
below_later a [] h = tt
below_later a (e ∷ es) h = let parts = and_parts _ _ h in (below a e.0 parts.0, below_later a es parts.1)

sorted_ascends : (es : List (Tag × Entity)) → is_sorted tag_cmp es ≡ true → TagsAscend (map (λ e. e.0) es)
sorted_ascends [] h = tt
sorted_ascends (e ∷ es) h = let parts = and_parts _ _ h in (below_later e.0 es parts.0, sorted_ascends es parts.1)

pub true_from_T : (b : Bool) → T b → b ≡ true
true_from_T true h = refl
true_from_T false h = absurd h

pub TagsAscend-keys : (m : EntityMap) → TagsAscend (keys m)
TagsAscend-keys m = sorted_ascends (entries m) (true_from_T _ (entries_sorted m))

pub TagsAscend-filter : (p : Tag → Bool) (ts : List Tag) → TagsAscend ts → TagsAscend (filter p ts)
TagsAscend-filter p [] h = tt
TagsAscend-filter p (t ∷ ts) h =
    let rest = TagsAscend-filter p ts h.1 in
    elim (p t) as (λ b. TagsAscend (cond b (t ∷ filter p ts) (filter p ts))) [ true ↦ (ByRecursion-filter _ p ts h.0, rest) | false ↦ rest ]
