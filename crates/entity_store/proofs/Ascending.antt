-- Lists of tags that ascend: two that have the same tags are one. What is in a filtered list, and in one that was sorted.
use Rattle.std.proofs.Common.{◌≡◌, ◌≢◌, ℕ, suc, ◌<◌, ◌≤◌, Bool, true, false, cond, ⊎_elim, List, [], ◌∷◌, ◌++◌, length, get_or, refl, sym, ap, ◌∙◌, arith}
use Rattle.std.specs.Prelude.{map, filter, Contains}
use Rattle.std.specs.List.{AllByRecursion, IsDistinct}
use Rattle.std.specs.List.Sorted.{IsNonDecreasingBy, IsPermutation}
use Rattle.std.specs.Ordering.{eq_by_cmp}
use Rattle.std.specs.Cmp.{eq_by_cmp_equiv}
use Rattle.std.proofs.lemmas.Map.Keys.{IsDistinct-IsPermutation}
use Rattle.pk_base.specs.Blocks.{tag}
use Rattle.pk_base.specs.declared.tag.Tag.{Tag}
use Rattle.pk_model.specs.Apart.{NoRepeats}
use Rattle.pk_model.specs.Maps.{tag_cmp}
use Rattle.pk_model.specs.Tags.{TagsAscend}
use Rattle.pk_model.proofs.TagLists.{tag_total, ties_itself, ties_no_other}
use Rattle.list_facts.proofs.Elements.{not_in_nil, Contains-first, Contains-later, Contains-cases}
use Rattle.list_facts.proofs.Each.{ByRecursion-filter, ByRecursion-append, ByRecursion-weaker, ByRecursion-at}
use Rattle.entity_store.specs.declared.changes.Change.{Change}
use Rattle.entity_store.specs.Changes.{AreChanges}

-- ---- what is in a list

-- ---- those that ascend

less_apart : (t u : Tag) → t ≡ u → t.0 < u.0 → ⊥
less_apart t u e h = let n : t.0 ≡ u.0 = ap (λ (x : Tag). x.0) e in omega arith

same_first : (x y : Tag) (xs ys : List Tag) → AllByRecursion (λ u. x.0 < u.0) xs → AllByRecursion (λ u. y.0 < u.0) ys → Contains (y ∷ ys) x → Contains (x ∷ xs) y → x ≡ y
same_first x y xs ys a b h k =
    ⊎_elim (λ (e : y ≡ x). sym e)
    (λ (r : Contains ys x).
    ⊎_elim (λ (e : x ≡ y). e)
    (λ (s : Contains xs y).
    let up : x.0 < y.0 = ByRecursion-at (λ (u : Tag). x.0 < u.0) xs y a s in
    let down : y.0 < x.0 = ByRecursion-at (λ (u : Tag). y.0 < u.0) ys x b r in
    absurd (omega arith))
    (Contains-cases x xs y k))
    (Contains-cases y ys x h)

in_the_rest : (x y t : Tag) (xs ys : List Tag) → x ≡ y → AllByRecursion (λ u. x.0 < u.0) xs → Contains xs t → Contains (y ∷ ys) t → Contains ys t
in_the_rest x y t xs ys same a h k =
    ⊎_elim (λ (e : y ≡ t). absurd (less_apart x t (same ∙ e) (ByRecursion-at (λ (u : Tag). x.0 < u.0) xs t a h))) (λ (r : Contains ys t). r) (Contains-cases y ys t k)

-- two lists that ascend and have the same tags are one
pub same_ascending : (xs ys : List Tag) → TagsAscend xs → TagsAscend ys → ((t : Tag) → Contains xs t → Contains ys t) → ((t : Tag) → Contains ys t → Contains xs t) → xs ≡ ys
same_ascending [] [] a b f g = refl
same_ascending [] (y ∷ ys) a b f g = absurd (not_in_nil y (g y (Contains-first y ys)))
same_ascending (x ∷ xs) [] a b f g = absurd (not_in_nil x (f x (Contains-first x xs)))
same_ascending (x ∷ xs) (y ∷ ys) a b f g =
    let same : x ≡ y = same_first x y xs ys a.0 b.0 (f x (Contains-first x xs)) (g y (Contains-first y ys)) in
    let rest = same_ascending xs ys a.1 b.1 (λ t h. in_the_rest x y t xs ys same a.0 h (f t (Contains-later x xs t h))) (λ t h. in_the_rest y x t ys xs (sym same) b.0 h (g t (Contains-later y ys t h))) in
    λ i. same i ∷ rest i

-- ---- tags of which none stands twice, in another order

IsDistinct-NoRepeats : (ts : List Tag) → NoRepeats ts → IsDistinct (eq_by_cmp tag_cmp) ts
unfolding IsDistinct
IsDistinct-NoRepeats [] h = tt
IsDistinct-NoRepeats (t ∷ ts) h = (ByRecursion-weaker _ _ (λ u k. ties_no_other t u k) ts h.0, IsDistinct-NoRepeats ts h.1)

apart_from_tie : (t u : Tag) → eq_by_cmp tag_cmp t u ≡ false → t ≢ u
apart_from_tie t u h e = cc (h, ties_itself t, ap (eq_by_cmp tag_cmp t) e)

NoRepeats-IsDistinct : (ts : List Tag) → IsDistinct (eq_by_cmp tag_cmp) ts → NoRepeats ts
unfolding IsDistinct
NoRepeats-IsDistinct [] h = tt
NoRepeats-IsDistinct (t ∷ ts) h = (ByRecursion-weaker _ _ (λ u k. apart_from_tie t u k) ts h.0, NoRepeats-IsDistinct ts h.1)

pub NoRepeats-IsPermutation : (ts us : List Tag) → IsPermutation ts us → NoRepeats ts → NoRepeats us
NoRepeats-IsPermutation ts us h k =
    NoRepeats-IsDistinct us (IsDistinct-IsPermutation (eq_by_cmp tag_cmp) (λ x y. (eq_by_cmp_equiv tag_total).symm x y) ts us h (IsDistinct-NoRepeats ts k))

pub NoRepeats-filter : (p : Tag → Bool) (ts : List Tag) → NoRepeats ts → NoRepeats (filter p ts)
NoRepeats-filter p [] h = tt
NoRepeats-filter p (t ∷ ts) h =
    let rest = NoRepeats-filter p ts h.1 in
    elim (p t) as (λ b. NoRepeats (cond b (t ∷ filter p ts) (filter p ts))) [ true ↦ (ByRecursion-filter _ p ts h.0, rest) | false ↦ rest ]

abbrev pub tags_changed : List Change → List Tag
tags_changed cs = map (λ (c : Change). c.tag) cs

strictly_above : (t : Tag) (cs : List Change) → AllByRecursion (λ u. t ≢ u) (tags_changed cs) → ((k : ℕ) (d : Change) → k < length cs → t.0 ≤ (get_or cs k d).tag.0) → AllByRecursion (λ u. t.0 < u.0) (tags_changed cs)
strictly_above t [] h l = tt
strictly_above t (c ∷ cs) h l =
    let other : t.0 ≢ c.tag.0 = λ e. h.0 (ap tag e) in
    let low : t.0 ≤ c.tag.0 = l 0 c (omega arith) in
    (omega arith, strictly_above t cs h.1 (λ k d b. l (suc k) d (omega arith)))

-- changes that were sorted by the numbers of their tags ascend
pub TagsAscend-sorted : (cs : List Change) → NoRepeats (tags_changed cs) → IsNonDecreasingBy (λ (c : Change). c.tag.0) cs → TagsAscend (tags_changed cs)
TagsAscend-sorted [] h s = tt
TagsAscend-sorted (c ∷ cs) h s =
    (strictly_above c.tag cs h.0 (λ k d b. s 0 (suc k) d (omega arith) (omega arith)), TagsAscend-sorted cs h.1 (λ i j d l b. s (suc i) (suc j) d (omega arith) (omega arith)))

-- ---- a change whose tag is above all

below_pushed : (t : Tag) (cs : List Change) (c : Change) → AllByRecursion (λ u. t.0 < u.0) (tags_changed cs) → t.0 < c.tag.0 → AllByRecursion (λ u. t.0 < u.0) (tags_changed (cs ++ c ∷ []))
below_pushed t [] c h l = (l, tt)
below_pushed t (d ∷ ds) c h l = (h.0, below_pushed t ds c h.1 l)

ascend_pushed : (cs : List Change) (c : Change) → TagsAscend (tags_changed cs) → AllByRecursion (λ (d : Change). d.tag.0 < c.tag.0) cs → TagsAscend (tags_changed (cs ++ c ∷ []))
ascend_pushed [] c h l = (tt, tt)
ascend_pushed (d ∷ ds) c h l = (below_pushed d.tag ds c h.0 l.0, ascend_pushed ds c h.1 l.1)

pub AreChanges-push : (cs : List Change) (c : Change) → AreChanges cs → c.before ≢ c.after → AllByRecursion (λ (d : Change). d.tag.0 < c.tag.0) cs → AreChanges (cs ++ c ∷ [])
AreChanges-push cs c h differs above = record {
  ascend = ascend_pushed cs c h.ascend above;
  differ = ByRecursion-append (λ (d : Change). d.before ≢ d.after) cs (c ∷ []) h.differ (differs, tt);
}
