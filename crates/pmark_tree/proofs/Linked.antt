-- The rows of marks, and the links between them.
use Rattle.std.proofs.Common.{◌≡◌, ◌≢◌, ℕ, zero, suc, ◌+◌, ◌-◌, ◌<◌, ◌≤◌, ⊎_elim, true, List, [], ◌∷◌, ◌++◌, length, get_or, set, Option, None, Some, ◌↔◌, refl, sym, ap, subst, ◌∙◌, arith}
use Rattle.std.specs.Prelude.{replicate}
use Rattle.std.specs.List.{AllByRecursion}
use Rattle.std.proofs.lemmas.Bool.{cases_lt, cases_eq}
use Rattle.std.proofs.lemmas.List.{get_or_append_left, get_or_push, get_or_past, get_or-set_same, get_or-set_other, length_push, get_or-append_right, get_or-replicate, length-replicate}
use Rattle.pk_base.specs.Blocks.{tag}
use Rattle.pk_base.specs.declared.tag.Tag.{Tag}
use Rattle.pk_model.specs.Tags.{TagsAscend}
use Rattle.entity_store.specs.declared.changes.Change.{Change}
use Rattle.owner_links.specs.Links.{owner_at}
use Rattle.pmark_tree.specs.declared.mark.TreeMark.{TreeMark}
use Rattle.pmark_tree.specs.Marks.{child_mark, dead_mark}
use Rattle.pmark_tree.specs.Trees.{IsTree}
use Rattle.pmark_tree.specs.Rows.{row_at, IsChildRow, AreLinked}
use Rattle.pmark_tree.proofs.Found.{tags_of, below_other, row_within, above_first, mark_at-row, parent_in-at}
use Rattle.pmark_tree.proofs.Grown.{AreBelow, Grows, grown, below_live, some_is, not_none}

-- ---- rows

pub row_past : (ks : List TreeMark) (i : ℕ) → length ks ≤ i → row_at ks i ≡ dead_mark (tag 0)
row_past ks i h = get_or_past ks i (dead_mark (tag 0)) h

pub row_below : (ks : List TreeMark) (i j : ℕ) → TagsAscend (tags_of ks) → i < j → j < length ks → (row_at ks i).tag.0 < (row_at ks j).tag.0
row_below [] i j h l m = absurd (omega arith)
row_below (k ∷ ks) i zero h l m = absurd (omega arith)
row_below (k ∷ ks) zero (suc j) h l m = above_first k ks (row_at ks j) h (row_within ks j (omega arith))
row_below (k ∷ ks) (suc i) (suc j) h l m = row_below ks i j h.1 (omega arith) (omega arith)

pub same_row : (ks : List TreeMark) (i j : ℕ) → TagsAscend (tags_of ks) → i < length ks → j < length ks → (row_at ks i).tag ≡ (row_at ks j).tag → i ≡ j
same_row ks i j h l m e =
    let same : (row_at ks i).tag.0 ≡ (row_at ks j).tag.0 = ap (λ (t : Tag). t.0) e in
    ⊎_elim (λ (below : i < j). let b = row_below ks i j h below m in absurd (omega (arith, b, same)))
    (λ (rest : j ≤ i).
    ⊎_elim (λ (above : j < i). let b = row_below ks j i h above l in absurd (omega (arith, b, same)))
    (λ (even : i ≤ j). omega arith)
    (cases_lt j i))
    (cases_lt i j)

-- a row's number is at most its tag's
pub row_number : (ks : List TreeMark) (i n : ℕ) → TagsAscend (tags_of ks) → AllByRecursion (λ (k : TreeMark). n ≤ k.tag.0) ks → i < length ks → n + i ≤ (row_at ks i).tag.0
row_number [] i n h l m = absurd (omega arith)
row_number (k ∷ ks) zero n h l m = let first = l.0 in omega (arith, first)
row_number (k ∷ ks) (suc i) n h l m =
    let rest = row_number ks i (suc n) h.1 (next_number k ks n h.0 l.0) (omega arith) in omega (arith, rest)
  where
    next_number : (k : TreeMark) (ks : List TreeMark) (n : ℕ) → AllByRecursion (λ (u : Tag). k.tag.0 < u.0) (tags_of ks) → n ≤ k.tag.0 → AllByRecursion (λ (j : TreeMark). suc n ≤ j.tag.0) ks
    next_number k [] n h l = tt
    next_number k (j ∷ ks) n h l = (let first = h.0 in omega (arith, first, l), next_number k ks n h.1 l)

each_from_zero : (ks : List TreeMark) → AllByRecursion (λ (k : TreeMark). 0 ≤ k.tag.0) ks
each_from_zero [] = tt
each_from_zero (k ∷ ks) = (omega arith, each_from_zero ks)

pub few_rows : (ks : List TreeMark) (i : ℕ) → TagsAscend (tags_of ks) → i < length ks → i ≤ (row_at ks i).tag.0
few_rows ks i h l = let b = row_number ks i 0 h (each_from_zero ks) l in omega (arith, b)

pub few_below : (ks : List TreeMark) (t : Tag) → TagsAscend (tags_of ks) → AreBelow t ks → length ks ≤ t.0
few_below [] t h l = omega arith
few_below (k ∷ ks) t h l = last_row (k ∷ ks) (length ks) t h l refl
  where
    below_row : (ks : List TreeMark) (i : ℕ) (t : Tag) → AreBelow t ks → i < length ks → (row_at ks i).tag.0 < t.0
    below_row [] i t h l = absurd (omega arith)
    below_row (k ∷ ks) zero t h l = h.0
    below_row (k ∷ ks) (suc i) t h l = below_row ks i t h.1 (omega arith)

    last_row : (ks : List TreeMark) (i : ℕ) (t : Tag) → TagsAscend (tags_of ks) → AreBelow t ks → length ks ≡ suc i → length ks ≤ t.0
    last_row ks i t h l e =
        let within : i < length ks = omega (arith, e) in
        let at = few_rows ks i h within in
        let below = below_row ks i t l within in
        omega (arith, e, at, below)

-- ---- links

-- a slot behind the rows has no owner
pub free_slot : (ks : List TreeMark) (owners : List (Option ℕ)) (c : ℕ) → AreLinked ks owners → length ks ≤ c → owner_at owners c ≡ None
free_slot ks owners c linked h =
    elim (owner_at owners c) as (λ o. owner_at owners c ≡ o → o ≡ None) [
      | None ↦ λ e. refl
      | Some q ↦ λ e.
          let child = (linked c q).0 e in
          let bad : None ≡ Some (row_at ks q).tag = ap (λ (k : TreeMark). k.parent) (sym (row_past ks c h)) ∙ child.parent in
          absurd (cc)
    ] refl

-- more slots change nothing
pub owner_at-more : (owners : List (Option ℕ)) (n c : ℕ) → owner_at (owners ++ replicate n None) c ≡ owner_at owners c
owner_at-more owners n c =
    ⊎_elim (λ (l : c < length owners). get_or_append_left owners (replicate n None) None c l)
    (λ (m : length owners ≤ c).
    get_or-append_right owners (replicate n None) (length owners) c None refl m
    ∙ ⊎_elim {C = get_or (replicate n None) (c - length owners) None ≡ None} (λ (l : c - length owners < n). get_or-replicate n (c - length owners) None None l)
    (λ (p : n ≤ c - length owners). get_or_past (replicate n None) (c - length owners) None (omega (arith, length-replicate {A = Option ℕ} n None, p)))
    (cases_lt (c - length owners) n)
    ∙ sym (get_or_past owners c None m))
    (cases_lt c (length owners))

pub linked-more : (ks : List TreeMark) (owners : List (Option ℕ)) (n : ℕ) → AreLinked ks owners → AreLinked ks (owners ++ replicate n None)
linked-more ks owners n linked c q =
    let same = owner_at-more owners n c in
    (λ e. (linked c q).0 (sym same ∙ e), λ child. same ∙ (linked c q).1 child)

-- ---- one row more

row-before : (ks : List TreeMark) (k : TreeMark) (i : ℕ) → i < length ks → row_at (ks ++ k ∷ []) i ≡ row_at ks i
row-before ks k i h = get_or_append_left ks (k ∷ []) (dead_mark (tag 0)) i h

row-new : (ks : List TreeMark) (k : TreeMark) → row_at (ks ++ k ∷ []) (length ks) ≡ k
row-new ks k = get_or_push ks k (dead_mark (tag 0)) (length ks) refl

-- the parent of a row is older
parent_row : (ks : List TreeMark) (t : Tag) (i : ℕ) (p : Tag) → IsTree ks → AreBelow t ks → i < length ks → (row_at ks i).parent ≡ Some p → p ≢ t
parent_row ks t i p tree newest l e =
    let edge = tree.edges p (row_at ks i).tag (parent_in-at ks (row_at ks i).tag (row_at ks i) (mark_at-row ks i tree.ascend l) ∙ e) in
    below_other p t (below_live ks t p newest edge.parent_lives)

-- children among the rows before, with the new row
child-before : (ks : List TreeMark) (t p : Tag) (d : List Change) (c q : ℕ) → IsTree ks → AreBelow t ks → c ≢ length ks → IsChildRow ks c q ↔ IsChildRow (grown ks t p d) c q
child-before ks t p d c q tree newest n =
    let k = child_mark t p d in
    let longer = length_push ks k in
    ⊎_elim {C = IsChildRow ks c q ↔ IsChildRow (grown ks t p d) c q} (λ (l : c < length ks).
    let same = ap (λ (j : TreeMark). j.parent) (row-before ks k c l) in (
      λ h. record { within = let w = h.within in omega (arith, w, longer); parent = same ∙ h.parent ∙ ap (λ (j : TreeMark). Some j.tag) (sym (row-before ks k q h.within)) },
      λ h.
          ⊎_elim {C = IsChildRow ks c q} (λ (m : q < length ks). record { within = m; parent = sym same ∙ h.parent ∙ ap (λ (j : TreeMark). Some j.tag) (row-before ks k q m) })
          (λ (m : length ks ≤ q).
          let w = h.within in
          let last : q ≡ length ks = omega (arith, w, longer, m) in
          let its : (row_at ks c).parent ≡ Some t = sym same ∙ h.parent ∙ ap (λ i. Some (row_at (grown ks t p d) i).tag) last ∙ ap (λ (j : TreeMark). Some j.tag) (row-new ks k) in
          absurd (parent_row ks t c t tree newest l its refl))
          (cases_lt q (length ks)),
    ))
    (λ (m : length ks ≤ c).
    let none = ap (λ (j : TreeMark). j.parent) (row_past ks c m) in
    let none_later = ap (λ (j : TreeMark). j.parent) (row_past (grown ks t p d) c (omega (arith, longer, m, n))) in
    (λ h. absurd (not_none (row_at ks c).parent (row_at ks q).tag h.parent none), λ h. absurd (not_none (row_at (grown ks t p d) c).parent (row_at (grown ks t p d) q).tag h.parent none_later)))
    (cases_lt c (length ks))

-- the new row is the child of its parent's
child-new : (ks : List TreeMark) (t p : Tag) (d : List Change) (o q : ℕ) → TagsAscend (tags_of ks) → AreBelow t ks → p ≢ t → o < length ks → (row_at ks o).tag ≡ p → (o ≡ q) ↔ IsChildRow (grown ks t p d) (length ks) q
child-new ks t p d o q up newest other l is =
    let k = child_mark t p d in
    let longer = length_push ks k in
    let its = ap (λ (j : TreeMark). j.parent) (row-new ks k) in
    let own : (row_at (grown ks t p d) o).tag ≡ p = ap (λ (j : TreeMark). j.tag) (row-before ks k o l) ∙ is in (
      λ e. subst (IsChildRow (grown ks t p d) (length ks)) e (record { within = omega (arith, longer, l); parent = its ∙ ap Some (sym own) }),
      λ h.
          let named : p ≡ (row_at (grown ks t p d) q).tag = some_is (row_at (grown ks t p d) (length ks)).parent p (row_at (grown ks t p d) q).tag its h.parent in
          ⊎_elim {C = o ≡ q} (λ (m : q < length ks). same_row ks o q up l m (is ∙ named ∙ ap (λ (j : TreeMark). j.tag) (row-before ks k q m)))
          (λ (m : length ks ≤ q).
          let w = h.within in
          let last : q ≡ length ks = omega (arith, w, longer, m) in
          absurd (other (named ∙ ap (λ i. (row_at (grown ks t p d) i).tag) last ∙ ap (λ (j : TreeMark). j.tag) (row-new ks k))))
          (cases_lt q (length ks)),
    )

pub linked-grown : (ks : List TreeMark) (owners : List (Option ℕ)) (t p : Tag) (d : List Change) (o : ℕ) → Grows ks t p d → AreLinked ks owners → length ks < length owners → o < length ks → (row_at ks o).tag ≡ p → AreLinked (grown ks t p d) (set owners (length ks) (Some o))
linked-grown ks owners t p d o h linked room l is c q =
    let other = below_other p t (below_live ks t p h.newest h.parent) in
    ⊎_elim {C = (owner_at (set owners (length ks) (Some o)) c ≡ Some q) ↔ IsChildRow (grown ks t p d) c q} (λ (e : c ≡ length ks).
    let here : owner_at (set owners (length ks) (Some o)) (length ks) ≡ Some o = get_or-set_same owners (length ks) (Some o) None room in
    let new = child-new ks t p d o q h.tree.ascend h.newest other l is in
    subst (λ i. (owner_at (set owners (length ks) (Some o)) i ≡ Some q) ↔ IsChildRow (grown ks t p d) i q) (sym e)
    (λ f. new.0 (let g : Some o ≡ Some q = sym here ∙ f in cc), λ child. here ∙ ap Some (new.1 child)))
    (λ (n : c ≢ length ks).
    let same : owner_at (set owners (length ks) (Some o)) c ≡ owner_at owners c = get_or-set_other owners (length ks) c (Some o) None n in
    let before = child-before ks t p d c q h.tree h.newest n in
    (λ f. before.0 ((linked c q).0 (sym same ∙ f)), λ child. same ∙ (linked c q).1 (before.1 child)))
    (cases_eq c (length ks))

-- ---- a single row

pub linked-first : (t : Tag) (n : ℕ) → AreLinked (record { tag = t; parent = None; live = true; delta = [] } ∷ []) (replicate n None)
linked-first t n c q = (
  λ e. let bad : None ≡ Some q = sym (owner_at-more [] n c) ∙ e in absurd (cc),
  λ h. absurd (not_none (row_at (record { tag = t; parent = None; live = true; delta = [] } ∷ []) c).parent (row_at (record { tag = t; parent = None; live = true; delta = [] } ∷ []) q).tag h.parent (no_parent c)),
)
  where
    no_parent : (c : ℕ) → (row_at (record { tag = t; parent = None; live = true; delta = [] } ∷ []) c).parent ≡ None
    no_parent zero = refl
    no_parent (suc c) = refl
