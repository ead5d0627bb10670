-- Which tags the three lists of a difference have, and that each list ascends.
use Rattle.std.proofs.Common.{◌≡◌, ◌≢◌, Bool, true, List, Option, Some, None, refl, sym, ap, ◌∙◌}
use Rattle.std.specs.Prelude.{◌↔◌, filter, is_some, is_none, IsSome, IsNone, Contains}
use Rattle.std.specs.FinMap.{get, keys}
use Rattle.std.proofs.lemmas.Bool.{true≢false}
use Rattle.std.proofs.lemmas.Bool.Decides.{Decides-not}
use Rattle.pk_base.specs.declared.tag.Tag.{Tag}
use Rattle.pk_base.specs.declared.entity.Entity.{Entity}
use Rattle.pk_base.specs.Entity.{same_entity}
use Rattle.pk_base.proofs.Same.{same_entity-Decides}
use Rattle.pk_model.specs.Maps.{EntityMap, differ, fresh_tags, gone_tags, changed_tags}
use Rattle.pk_model.specs.Tags.{TagsAscend}
use Rattle.list_facts.proofs.Elements.{Contains-filter, filter_contains}
use Rattle.pk_model.proofs.Keys.{Contains-keys, keys_contain, TagsAscend-filter, TagsAscend-keys}

-- ---- the elements that pass a test

passes : {X : Type 0} (p : X → Bool) (xs : List X) (x : X) → Contains (filter p xs) x ↔ (Contains xs x × (p x ≡ true))
passes p xs x = (filter_contains p xs x, λ h. Contains-filter p xs x h.0 h.1)

-- ---- the keys of a map

-- a tag is a key exactly where the map has something at it
key_is : (m : EntityMap) (t : Tag) → Contains (keys m) t ↔ IsSome (get m t)
key_is m t = (keys_contain m t, Contains-keys m t)

-- ---- the three lists

none_by : (o : Option Entity) → (is_none o ≡ true) ↔ IsNone o
none_by None = (λ _. refl, λ _. refl)
none_by (Some e) = (λ h. cc, λ h. cc)

-- the tags of one map at which another has nothing
only_there : (m other : EntityMap) (t : Tag) → Contains (filter (λ t. is_none (get other t)) (keys m)) t ↔ (IsNone (get other t) × IsSome (get m t))
only_there m other t =
    let here = passes (λ t. is_none (get other t)) (keys m) t in
    let key = key_is m t in
    let none = none_by (get other t) in
    (λ c. let h = here.0 c in (none.0 h.1, key.0 h.0), λ h. here.1 (key.1 h.1, none.1 h.0))

pub Contains-fresh_tags : (left reached : EntityMap) (t : Tag) → Contains (fresh_tags left reached) t ↔ (IsNone (get left t) × IsSome (get reached t))
Contains-fresh_tags left reached t = only_there reached left t

pub Contains-gone_tags : (left reached : EntityMap) (t : Tag) → Contains (gone_tags left reached) t ↔ (IsSome (get left t) × IsNone (get reached t))
Contains-gone_tags left reached t = let h = only_there left reached t in (λ c. let k = h.0 c in (k.1, k.0), λ k. h.1 (k.1, k.0))

-- both are there, and they are different entities
abbrev BothDiffer : Option Entity → Option Entity → Type 0
BothDiffer o p = (a : Entity) × (b : Entity) × (o ≡ Some a) × (p ≡ Some b) × (a ≢ b)

both_differ : (o p : Option Entity) → differ o p ≡ true → BothDiffer o p
both_differ (Some a) (Some b) h = (a, b, refl, refl, (Decides-not (same_entity a b) (same_entity-Decides a b)).0 h)
both_differ None p h = absurd (true≢false (sym h))
both_differ (Some a) None h = absurd (true≢false (sym h))

differ_by : (o p : Option Entity) → BothDiffer o p → differ o p ≡ true
differ_by o p h = (λ i. differ (h.2 i) (h.3 i)) ∙ (Decides-not (same_entity h.0 h.1) (same_entity-Decides h.0 h.1)).1 h.4

pub Contains-changed_tags : (left reached : EntityMap) (t : Tag) → Contains (changed_tags left reached) t ↔ BothDiffer (get left t) (get reached t)
Contains-changed_tags left reached t =
    let here = passes (λ t. differ (get left t) (get reached t)) (keys reached) t in
    (λ c. both_differ (get left t) (get reached t) (here.0 c).1, λ h. here.1 (Contains-keys reached t (ap is_some h.3), differ_by (get left t) (get reached t) h))

pub TagsAscend-filter_keys : (p : Tag → Bool) (m : EntityMap) → TagsAscend (filter p (keys m))
TagsAscend-filter_keys p m = TagsAscend-filter p (keys m) (TagsAscend-keys m)
