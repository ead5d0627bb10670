-- The tags of a walk, sorted, are those that ascend and have the same elements.
use Rattle.std.proofs.Common.{◌≡◌, ◌≢◌, ℕ, suc, ◌+◌, ◌<◌, ◌≤◌, List, [], ◌∷◌, ◌++◌, length, get_or, sym, ap, subst, ◌∙◌, append_assoc, append-nil, arith}
use Rattle.std.specs.Prelude.{map, IsPermutation}
use Rattle.std.specs.List.{AllByRecursion}
use Rattle.std.specs.List.Sorted.{IsNonDecreasingBy}
use Rattle.std.proofs.lemmas.List.Sorted.{Contains-permutation, IsPermutation-map, IsPermutation-sym, IsPermutation-trans}
use Rattle.pk_base.specs.Blocks.{tag}
use Rattle.pk_base.specs.declared.tag.Tag.{Tag}
use Rattle.pk_base.specs.declared.entity.Entity.{Entity}
use Rattle.pk_model.specs.Apart.{NoRepeats}
use Rattle.pk_model.specs.Tags.{TagsAscend}
use Rattle.entity_store.proofs.Ascending.{NoRepeats-IsPermutation, same_ascending}
use Rattle.solid_calls.proofs.Sizes.{apart-ascending}
use Rattle.queries.specs.Listing.{Lists}

abbrev pub Kid : Type 0
Kid = Tag × Entity

abbrev pub tags_of_kids : List Kid → List Tag
tags_of_kids ks = map (λ x. x.0) ks

-- ---- tags that were sorted

strictly_above : (t : Tag) (ts : List Tag) → AllByRecursion (λ u. t ≢ u) ts → ((k : ℕ) (d : Tag) → k < length ts → t.0 ≤ (get_or ts k d).0) → AllByRecursion (λ u. t.0 < u.0) ts
strictly_above t [] h l = tt
strictly_above t (u ∷ ts) h l =
    let other : t.0 ≢ u.0 = λ e. h.0 (ap tag e) in
    let low : t.0 ≤ u.0 = l 0 u (omega arith) in
    (omega arith, strictly_above t ts h.1 (λ k d b. l (suc k) d (omega arith)))

ascend-sorted : (ts : List Tag) → NoRepeats ts → IsNonDecreasingBy (λ (t : Tag). t.0) ts → TagsAscend ts
ascend-sorted [] h s = tt
ascend-sorted (t ∷ ts) h s =
    (strictly_above t ts h.0 (λ k d b. s 0 (suc k) d (omega arith) (omega arith)), ascend-sorted ts h.1 (λ i j d l b. s (suc i) (suc j) d (omega arith) (omega arith)))

pub listed : (all walk : List Kid) (tags parts : List Tag) → IsPermutation all walk → tags_of_kids all ≡ parts → TagsAscend parts → Lists walk tags → tags ≡ parts
listed all walk tags parts moved same ascend h =
    let p : IsPermutation parts tags = IsPermutation-trans parts (tags_of_kids walk) tags (subst (λ ts. IsPermutation ts (tags_of_kids walk)) same (IsPermutation-map (λ (x : Kid). x.0) all walk moved)) h.same in
    let once = NoRepeats-IsPermutation parts tags p (apart-ascending parts ascend) in
    same_ascending tags parts (ascend-sorted tags once h.ascending) ascend
    (λ t k. Contains-permutation tags parts t (IsPermutation-sym parts tags p) k) (λ t k. Contains-permutation parts tags t p k)

-- ---- a walk that is listed

-- what is listed and what is left are all, and there is room for what is left
pub record Listing (all : List Kid) (items : List Tag) (spare : ℕ) (left : List Kid) : Type 0 where
  pub whole : items ++ tags_of_kids left ≡ tags_of_kids all
  pub room : length left ≤ spare

pub listing-begins : (all : List Kid) (items : List Tag) (spare : ℕ) → items ≡ [] → length all ≤ spare → Listing all items spare all
listing-begins all items spare none room = record { whole = ap (λ ts. ts ++ tags_of_kids all) none; room = room }

pub listing-room : (all : List Kid) (items : List Tag) (spare : ℕ) (left new : List Kid) (k : Kid) → Listing all items spare left → left ≡ k ∷ new → 1 ≤ spare
listing-room all items spare left new k l is =
    let n = ap length is in
    let r = l.room in
    omega (arith, n, r)

pub listing-more : (all : List Kid) (items items' : List Tag) (spare spare' : ℕ) (left new : List Kid) (k : Kid) → Listing all items spare left → left ≡ k ∷ new → items' ≡ items ++ k.0 ∷ [] → spare' + 1 ≡ spare → Listing all items' spare' new
listing-more all items items' spare spare' left new k l is more less =
    let n = ap length is in
    let r = l.room in
    record {
      whole = ap (λ ts. ts ++ tags_of_kids new) more ∙ append_assoc items (k.0 ∷ []) (tags_of_kids new) ∙ ap (λ ks. items ++ tags_of_kids ks) (sym is) ∙ l.whole;
      room = omega (arith, n, r, less);
    }

pub listing-ends : (all : List Kid) (items sorted : List Tag) (spare : ℕ) (left : List Kid) → Listing all items spare left → left ≡ [] → IsPermutation items sorted → IsPermutation (tags_of_kids all) sorted
listing-ends all items sorted spare left l none p =
    subst (λ ts. IsPermutation ts sorted) (sym (append-nil items) ∙ ap (λ ks. items ++ tags_of_kids ks) (sym none) ∙ l.whole) p
