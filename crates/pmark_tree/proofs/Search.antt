-- What a binary search finds among marks that ascend by their tags.
use Rattle.std.proofs.Common.{◌≡◌, ◌≢◌, ℕ, ◌+◌, ◌<◌, ◌≤◌, ◌==◌, true, false, cond, List, length, None, Some, Ok, Err, sym, ap, refl, ◌∙◌, ⊎_elim, arith}
use Rattle.std.specs.List.Sorted.{IsBinarySearchResult, IsSortedBy}
use Rattle.std.specs.Ordering.{is_lt, nat_cmp, ordering_reverse}
use Rattle.std.specs.declared.cmp.Ordering.{Ordering}
use Rattle.std.specs.declared.cmp.Ordering.TheVariants.{Less, Equal, Greater}
use Rattle.std.proofs.lemmas.Bool.{cases_lt, lt-ltb}
use Rattle.std.proofs.lemmas.Cmp.{tied_itself}
use Rattle.std.proofs.lemmas.List.{get_or_default}
use Rattle.std.proofs.lemmas.List.Sorted.{searchable_from_sorted}
use Rattle.pk_base.specs.Blocks.{tag}
use Rattle.pk_base.specs.declared.tag.Tag.{Tag}
use Rattle.pk_model.specs.Tags.{TagsAscend}
use Rattle.pk_model.specs.Maps.{tag_cmp}
use Rattle.pk_model.proofs.TagLists.{tag_total, tag_antisymmetric}
use Rattle.pmark_tree.specs.declared.mark.TreeMark.{TreeMark}
use Rattle.pmark_tree.specs.Marks.{mark_at, dead_mark}
use Rattle.pmark_tree.specs.Rows.{row_at}
use Rattle.pmark_tree.proofs.Found.{tags_of, mark_at-row, mark_at-nowhere}
use Rattle.pmark_tree.proofs.Linked.{row_below}

pub not_back : (o : Ordering) → is_lt o ≡ true → is_lt (ordering_reverse o) ≡ false
not_back Less h = refl
not_back Equal h = cc
not_back Greater h = cc

pub less_than : (t u : Tag) → t.0 < u.0 → is_lt (tag_cmp t u) ≡ true
less_than t u h = ap (λ b. is_lt (cond b Less (cond (t.0 == u.0) Equal Greater))) (lt-ltb t.0 u.0 h)

in_order : (ks : List TreeMark) → TagsAscend (tags_of ks) → IsSortedBy (λ (a b : TreeMark). is_lt (tag_cmp a.tag b.tag)) ks
in_order ks up = λ k d low h.
    let below = row_below ks k (k + 1) up (omega arith) h in
    let here = get_or_default ks k d (dead_mark (tag 0)) (omega arith) in
    let next = get_or_default ks (k + 1) d (dead_mark (tag 0)) h in
    (λ i. is_lt (tag_cmp (next i).tag (here i).tag))
    ∙ ap is_lt (tag_total.antisymm (row_at ks (k + 1)).tag (row_at ks k).tag)
    ∙ not_back (tag_cmp (row_at ks k).tag (row_at ks (k + 1)).tag) (less_than (row_at ks k).tag (row_at ks (k + 1)).tag below)

pub apart_by : (q t : Tag) (o : Ordering) → o ≢ Equal → tag_cmp t q ≡ o → t ≢ q
apart_by q t o other is e = other (sym is ∙ ap (λ u. tag_cmp t u) (sym e) ∙ tied_itself tag_total t)

pub found_tag : (ks : List TreeMark) (t : Tag) (i : ℕ) → IsBinarySearchResult (λ (k : TreeMark). nat_cmp k.tag.0 t.0) ks (Ok i) → (row_at ks i).tag ≡ t
found_tag ks t i h = tag_antisymmetric (row_at ks i).tag t (h (dead_mark (tag 0)))

pub found_row : (ks : List TreeMark) (t : Tag) (i : ℕ) → TagsAscend (tags_of ks) → i < length ks → IsBinarySearchResult (λ (k : TreeMark). nat_cmp k.tag.0 t.0) ks (Ok i) → mark_at ks t ≡ Some (row_at ks i)
found_row ks t i up within h = ap (mark_at ks) (sym (found_tag ks t i h)) ∙ mark_at-row ks i up within

pub found_none : (ks : List TreeMark) (t : Tag) (i : ℕ) → TagsAscend (tags_of ks) → IsBinarySearchResult (λ (k : TreeMark). nat_cmp k.tag.0 t.0) ks (Err i) → mark_at ks t ≡ None
found_none ks t i up h =
    let parts = h (searchable_from_sorted tag_total (λ (k : TreeMark). k.tag) ks t (in_order ks up)) in
    mark_at-nowhere ks t (λ k l.
    ⊎_elim (λ (low : k < i). apart_by t (row_at ks k).tag Less (λ e. cc) (parts.0 k (dead_mark (tag 0)) (omega arith) low))
    (λ (high : i ≤ k). apart_by t (row_at ks k).tag Greater (λ e. cc) (parts.1 k (dead_mark (tag 0)) high l))
    (cases_lt k i))
