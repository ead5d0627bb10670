-- A tag is taken out of tags that ascend.
use Rattle.std.proofs.Common.{◌≡◌, ℕ, zero, suc, ◌+◌, ◌<◌, ◌≤◌, ⊎_elim, true, not, cond, List, [], ◌∷◌, length, get_or, Ok, Err, refl, sym, ap, subst, ◌∙◌, arith}
use Rattle.std.specs.Prelude.{filter, remove, Contains}
use Rattle.std.specs.List.{AllByRecursion}
use Rattle.std.specs.List.Sorted.{IsBinarySearchResult, IsSortedBy}
use Rattle.std.specs.Ordering.{is_lt, nat_cmp}
use Rattle.std.specs.declared.cmp.Ordering.TheVariants.{Less, Greater}
use Rattle.std.proofs.lemmas.Bool.{cases_lt}
use Rattle.std.proofs.lemmas.List.Sorted.{searchable_from_sorted}
use Rattle.pk_base.specs.Blocks.{tag}
use Rattle.pk_base.specs.Entity.{same_tag}
use Rattle.pk_base.specs.declared.tag.Tag.{Tag}
use Rattle.pk_base.proofs.Same.{same_itself, not_same}
use Rattle.pk_model.specs.Tags.{TagsAscend}
use Rattle.pk_model.specs.Maps.{tag_cmp}
use Rattle.pk_model.proofs.TagLists.{tag_total, tag_antisymmetric}
use Rattle.pmark_tree.proofs.Found.{below_other}
use Rattle.pmark_tree.proofs.Search.{not_back, less_than, apart_by}

abbrev pub without : Tag → List Tag → List Tag
without t ts = filter (λ u. not (same_tag u t)) ts

without-above : (t : Tag) (ts : List Tag) → AllByRecursion (λ (u : Tag). t.0 < u.0) ts → without t ts ≡ ts
without-above t [] h = refl
without-above t (u ∷ ts) h = ap (λ b. cond (not b) (u ∷ without t ts) (without t ts)) (not_same u t (λ e. below_other t u h.0 (sym e))) ∙ ap (λ us. u ∷ us) (without-above t ts h.1)

above_head : (u : Tag) (ts : List Tag) (i : ℕ) → AllByRecursion (λ (v : Tag). u.0 < v.0) ts → i < length ts → u.0 < (get_or ts i (tag 0)).0
above_head u [] i h l = absurd (omega arith)
above_head u (v ∷ ts) zero h l = h.0
above_head u (v ∷ ts) (suc i) h l = above_head u ts i h.1 (omega arith)

-- the tag at a place is the only one of its number
pub without-at : (ts : List Tag) (i : ℕ) (t : Tag) → TagsAscend ts → i < length ts → get_or ts i (tag 0) ≡ t → remove ts i ≡ without t ts
without-at [] i t h l e = absurd (omega arith)
without-at (u ∷ ts) zero t h l e =
    sym (ap (λ b. cond (not b) (u ∷ without t ts) (without t ts)) (subst (λ v. same_tag u v ≡ true) e (same_itself u)) ∙ without-above t ts (subst (λ v. AllByRecursion (λ (w : Tag). v.0 < w.0) ts) e h.0))
without-at (u ∷ ts) (suc i) t h l e =
    let low : u.0 < t.0 = subst (λ (v : Tag). u.0 < v.0) e (above_head u ts i h.0 (omega arith)) in
    ap (λ us. u ∷ us) (without-at ts i t h.1 (omega arith) e)
    ∙ sym (ap (λ b. cond (not b) (u ∷ without t ts) (without t ts)) (not_same u t (below_other u t low)))

tags_below : (ts : List Tag) (i j : ℕ) (d : Tag) → TagsAscend ts → i < j → j < length ts → (get_or ts i d).0 < (get_or ts j d).0
tags_below [] i j d h l m = absurd (omega arith)
tags_below (u ∷ ts) i zero d h l m = absurd (omega arith)
tags_below (u ∷ ts) zero (suc j) d h l m = first_below u ts j d h.0 (omega arith)
  where
    first_below : (u : Tag) (ts : List Tag) (j : ℕ) (d : Tag) → AllByRecursion (λ (v : Tag). u.0 < v.0) ts → j < length ts → u.0 < (get_or ts j d).0
    first_below u [] j d h l = absurd (omega arith)
    first_below u (v ∷ ts) zero d h l = h.0
    first_below u (v ∷ ts) (suc j) d h l = first_below u ts j d h.1 (omega arith)
tags_below (u ∷ ts) (suc i) (suc j) d h l m = tags_below ts i j d h.1 (omega arith) (omega arith)

in_order : (ts : List Tag) → TagsAscend ts → IsSortedBy (λ (a b : Tag). is_lt (tag_cmp a b)) ts
in_order ts up = λ k d low h.
    let below = tags_below ts k (k + 1) d up (omega arith) h in
    ap is_lt (tag_total.antisymm (get_or ts (k + 1) d) (get_or ts k d))
    ∙ not_back (tag_cmp (get_or ts k d) (get_or ts (k + 1) d)) (less_than (get_or ts k d) (get_or ts (k + 1) d) below)

pub found_place : (ts : List Tag) (t : Tag) (i : ℕ) → TagsAscend ts → i < length ts → IsBinarySearchResult (λ (u : Tag). nat_cmp u.0 t.0) ts (Ok i) → remove ts i ≡ without t ts
found_place ts t i up l h = without-at ts i t up l (tag_antisymmetric (get_or ts i (tag 0)) t (h (tag 0)))

pub not_missing : (ts : List Tag) (t : Tag) (i : ℕ) → TagsAscend ts → Contains ts t → IsBinarySearchResult (λ (u : Tag). nat_cmp u.0 t.0) ts (Err i) → ⊥
not_missing ts t i up there h =
    let parts = h (searchable_from_sorted tag_total (λ (u : Tag). u) ts t (in_order ts up)) in
    let k = there.0 in
    let within = there.1 in
    ⊎_elim (λ (low : k < i). apart_by t (get_or ts k t) Less (λ e. cc) (parts.0 k t (omega arith) low) there.2)
    (λ (high : i ≤ k). apart_by t (get_or ts k t) Greater (λ e. cc) (parts.1 k t high within) there.2)
    (cases_lt k i)
