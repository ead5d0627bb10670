-- Where the slot of a tag stands, and how many entities are live.
use Rattle.std.proofs.Common.{◌≡◌, ℕ, zero, suc, ◌+◌, ◌-◌, ◌*◌, ◌/◌, ◌%◌, ◌<◌, ◌≤◌, Bool, true, false, cond, is_some, ◌==◌, ⊎_elim, eq-zero-or-pos, List, [], ◌∷◌, length, get_or, Option, None, Some, Result, MatchResult, refl, ap, ◌∙◌, arith}
use Rattle.std.specs.List.Sorted.{IsBinarySearchResult}
use Rattle.std.specs.Ordering.{nat_cmp}
use Rattle.std.specs.FinMap.{get, len, insert, remove, len-insert, len-remove, empty_of_len, get-empty}
use Rattle.std.proofs.lemmas.List.Sorted.{searched}
use Rattle.std.proofs.lemmas.List.{get_or_default}
use Rattle.std.proofs.lemmas.List.Folds.{list_any_at, Any-from_list_any}
use Rattle.std.proofs.lemmas.Bool.{eq-eqb, eqb-true, cases_lt}
use Rattle.pk_base.specs.declared.tag.Tag.{Tag}
use Rattle.pk_base.specs.declared.entity.Entity.{Entity}
use Rattle.pk_base.specs.Blocks.{tag, block_of}
use Rattle.pk_model.specs.Tags.{tag_at, tags_of, owns, Ascends}
use Rattle.pk_model.specs.Maps.{EntityMap, tag_cmp, with_entity}
use Rattle.pk_model.proofs.TagLists.{tag_total, tag_at-tags_of}
use Rattle.list_facts.proofs.Each.{ByRecursion-get_or}

ascending_at : (bs : List ℕ) (i j : ℕ) → Ascends bs → i ≤ j → j < length bs → get_or bs i 0 ≤ get_or bs j 0
ascending_at [] i j a l h = absurd (omega arith)
ascending_at (b ∷ bs) zero zero a l h = omega arith
ascending_at (b ∷ bs) zero (suc j) a l h = let k : b < get_or bs j 0 = ByRecursion-get_or (λ c. b < c) bs j 0 (omega arith) a.0 in omega arith
ascending_at (b ∷ bs) (suc i) zero a l h = absurd (omega arith)
ascending_at (b ∷ bs) (suc i) (suc j) a l h = ascending_at bs i j a.1 (omega arith) (omega arith)

-- what a search for a tag's block found
pub found_block : (bs : List ℕ) (t : Tag) (r : Result ℕ ℕ) → Ascends bs → IsBinarySearchResult (λ y. nat_cmp y (block_of t)) bs r → MatchResult r (λ i. (i < length bs) × (get_or bs i 0 ≡ block_of t)) (λ i. (i ≤ length bs) × ((k : ℕ) → k < i → get_or bs k 0 < block_of t) × ((k : ℕ) → i ≤ k → k < length bs → block_of t < get_or bs k 0))
found_block bs t r a h = searched bs (block_of t) r h (λ i j l k. ascending_at bs i j a l k)

place_arith : (p r : ℕ) → r < 64 → ((64 * p + r) / 64 ≡ p) × ((64 * p + r) % 64 ≡ r)
place_arith p r h = (omega arith, omega arith)

-- the tag of the slot that is the tag's place in its block
pub tag_at_place : (bs : List ℕ) (t : Tag) (p : ℕ) → p < length bs → get_or bs p 0 ≡ block_of t → tag_at (tags_of bs) (64 * p + t.0 % 64) ≡ t
tag_at_place bs t p h e =
    let r : t.0 % 64 < 64 = omega arith in
    let place = place_arith p (t.0 % 64) r in
    let number : 64 * get_or bs ((64 * p + t.0 % 64) / 64) 0 + (64 * p + t.0 % 64) % 64 ≡ t.0 = ap (λ q. 64 * get_or bs q 0 + (64 * p + t.0 % 64) % 64) place.0 ∙ omega (arith, place.1, e) in
    tag_at-tags_of bs (64 * p + t.0 % 64) (omega arith) ∙ ap tag number

pub owned_at : (bs : List ℕ) (t : Tag) (p : ℕ) → p < length bs → get_or bs p 0 ≡ block_of t → owns bs t ≡ true
owned_at bs t p h e = list_any_at (λ b. b == block_of t) bs p 0 h (eq-eqb (get_or bs p 0) (block_of t) e)

-- a block that is below the place or above it is not there
pub not_owned : (bs : List ℕ) (t : Tag) (i : ℕ) → ((k : ℕ) → k < i → get_or bs k 0 < block_of t) → ((k : ℕ) → i ≤ k → k < length bs → block_of t < get_or bs k 0) → owns bs t ≡ true → ⊥
not_owned bs t i below above h =
    let some = Any-from_list_any (λ b. b == block_of t) bs h in
    let same : get_or bs some.0 0 ≡ block_of t = get_or_default bs some.0 0 some.1 some.2 ∙ some.3 ∙ eqb-true some.1 (block_of t) some.4 in
    ⊎_elim (λ (l : some.0 < i). let low = below some.0 l in omega arith) (λ (l : i ≤ some.0). let high = above some.0 l some.2 in omega arith) (cases_lt some.0 i)

len_after_insert : (b : Bool) (n m : ℕ) → m ≡ cond b n (n + 1) → m + cond b 1 0 ≡ n + 1
len_after_insert true n m e = omega arith
len_after_insert false n m e = omega arith

len_after_remove : (b : Bool) (n m : ℕ) → cond b 1 0 ≤ n → m ≡ cond b (n - 1) n → m + cond b 1 0 ≡ n + 0
len_after_remove true n m h e = omega arith
len_after_remove false n m h e = omega arith

-- a map with an entity is not empty
pub some_counts : (m : EntityMap) (t : Tag) → cond (is_some (get m t)) 1 0 ≤ len m
some_counts m t =
    elim (is_some (get m t)) as (λ b. is_some (get m t) ≡ b → cond b 1 0 ≤ len m) [
      | true ↦ λ e. ⊎_elim (λ (z : len m ≡ 0). absurd (none_there m t z e)) (λ (n : 0 < len m). omega arith) (eq-zero-or-pos (len m))
      | false ↦ λ e. omega arith
    ] refl
  where
    none_there : (m : EntityMap) (t : Tag) → len m ≡ 0 → is_some (get m t) ≡ true → ⊥
    none_there m t z e = let gone = empty_of_len m z in cc (e, ap (λ n. is_some (get n t)) gone, ap is_some (get-empty {K = Tag} {X = Entity} tag_cmp t))

-- how the number of entities changes at a tag
pub len-with_entity : (m : EntityMap) (t : Tag) (to : Option Entity) → len (with_entity m t to) + cond (is_some (get m t)) 1 0 ≡ len m + cond (is_some to) 1 0
len-with_entity m t None = len_after_remove (is_some (get m t)) (len m) (len (remove m t)) (some_counts m t) (len-remove tag_total m t)
len-with_entity m t (Some e) = len_after_insert (is_some (get m t)) (len m) (len (insert m t e)) (len-insert tag_total m t e)
