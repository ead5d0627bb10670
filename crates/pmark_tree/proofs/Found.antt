-- A mark among marks that ascend by their tags.
use Rattle.std.proofs.Common.{◌≡◌, ◌≢◌, ℕ, zero, suc, ◌<◌, ◌⊎◌, inl, inr, ⊎_elim, true, false, cond, List, [], ◌∷◌, length, Option, None, Some, refl, sym, ap, subst, ◌∙◌, arith}
use Rattle.std.specs.Prelude.{map, Contains}
use Rattle.pk_base.specs.Entity.{same_tag}
use Rattle.pk_base.specs.declared.tag.Tag.{Tag}
use Rattle.pk_base.proofs.Same.{same_itself, not_same, same_or_other}
use Rattle.pk_model.specs.Tags.{TagsAscend}
use Rattle.list_facts.proofs.Elements.{not_in_nil, Contains-first, Contains-later, Contains-cases}
use Rattle.pmark_tree.specs.declared.mark.TreeMark.{TreeMark}
use Rattle.pmark_tree.specs.Marks.{mark_at, is_live, parent_in, delta_in}
use Rattle.pmark_tree.specs.Rows.{row_at}

abbrev pub tags_of : List TreeMark → List Tag
tags_of ks = map (λ (k : TreeMark). k.tag) ks

-- ---- one mark more ahead of the others

pub mark_at-first : (k : TreeMark) (ks : List TreeMark) (t : Tag) → k.tag ≡ t → mark_at (k ∷ ks) t ≡ Some k
mark_at-first k ks t e = ap (λ b. cond b (Some k) (mark_at ks t)) (subst (λ u. same_tag k.tag u ≡ true) e (same_itself k.tag))

pub mark_at-later : (k : TreeMark) (ks : List TreeMark) (t : Tag) → k.tag ≢ t → mark_at (k ∷ ks) t ≡ mark_at ks t
mark_at-later k ks t n = ap (λ b. cond b (Some k) (mark_at ks t)) (not_same k.tag t n)

pub below_other : (t u : Tag) → t.0 < u.0 → t ≢ u
below_other t u h e = let n = ap (λ (x : Tag). x.0) e in omega (arith, n, h)

-- ---- what is found

pub record FoundAt (ks : List TreeMark) (t : Tag) (k : TreeMark) : Type 0 where
  pub there : Contains ks k
  pub tag : k.tag ≡ t

pub mark_at-found : (ks : List TreeMark) (t : Tag) (k : TreeMark) → mark_at ks t ≡ Some k → FoundAt ks t k
mark_at-found [] t k e = absurd (cc)
mark_at-found (j ∷ ks) t k e =
    ⊎_elim {C = FoundAt (j ∷ ks) t k} (λ (s : j.tag ≡ t).
    let same : Some j ≡ Some k = sym (mark_at-first j ks t s) ∙ e in
    let is : j ≡ k = cc in
    record { there = subst (Contains (j ∷ ks)) is (Contains-first j ks); tag = ap (λ (x : TreeMark). x.tag) (sym is) ∙ s })
    (λ (n : j.tag ≢ t).
    let rest = mark_at-found ks t k (sym (mark_at-later j ks t n) ∙ e) in
    record { there = Contains-later j ks k rest.there; tag = rest.tag })
    (same_or_other j.tag t)

pub above_first : (k : TreeMark) (ks : List TreeMark) (j : TreeMark) → TagsAscend (tags_of (k ∷ ks)) → Contains ks j → k.tag.0 < j.tag.0
above_first k [] j h c = absurd (not_in_nil j c)
above_first k (i ∷ ks) j h c =
    ⊎_elim (λ (e : i ≡ j). subst (λ (x : TreeMark). k.tag.0 < x.tag.0) e h.0.0)
    (λ (r : Contains ks j). above_first k ks j (h.0.1, h.1.1) r)
    (Contains-cases i ks j c)

pub mark_at-contained : (ks : List TreeMark) (k : TreeMark) → TagsAscend (tags_of ks) → Contains ks k → mark_at ks k.tag ≡ Some k
mark_at-contained [] k h c = absurd (not_in_nil k c)
mark_at-contained (j ∷ ks) k h c =
    ⊎_elim (λ (e : j ≡ k). mark_at-first j ks k.tag (ap (λ (x : TreeMark). x.tag) e) ∙ ap Some e)
    (λ (r : Contains ks k). mark_at-later j ks k.tag (below_other j.tag k.tag (above_first j ks k h r)) ∙ mark_at-contained ks k h.1 r)
    (Contains-cases j ks k c)

-- ---- rows

pub row_within : (ks : List TreeMark) (i : ℕ) → i < length ks → Contains ks (row_at ks i)
row_within [] i h = absurd (omega arith)
row_within (k ∷ ks) zero h = Contains-first k ks
row_within (k ∷ ks) (suc i) h = Contains-later k ks (row_at ks i) (row_within ks i (omega arith))

pub mark_at-row : (ks : List TreeMark) (i : ℕ) → TagsAscend (tags_of ks) → i < length ks → mark_at ks (row_at ks i).tag ≡ Some (row_at ks i)
mark_at-row ks i h l = mark_at-contained ks (row_at ks i) h (row_within ks i l)

pub mark_at-nowhere : (ks : List TreeMark) (t : Tag) → ((i : ℕ) → i < length ks → (row_at ks i).tag ≢ t) → mark_at ks t ≡ None
mark_at-nowhere [] t h = refl
mark_at-nowhere (k ∷ ks) t h = mark_at-later k ks t (h 0 (omega arith)) ∙ mark_at-nowhere ks t (λ i l. h (suc i) (omega arith))

-- ---- facts of the mark with a tag

pub is_live-at : (ks : List TreeMark) (t : Tag) (k : TreeMark) → mark_at ks t ≡ Some k → is_live ks t ≡ k.live
is_live-at ks t k e = ap (λ (o : Option TreeMark). elim o [ None ↦ false | Some j ↦ j.live ]) e

pub parent_in-at : (ks : List TreeMark) (t : Tag) (k : TreeMark) → mark_at ks t ≡ Some k → parent_in ks t ≡ k.parent
parent_in-at ks t k e = ap (λ (o : Option TreeMark). elim o [ None ↦ None | Some j ↦ j.parent ]) e

pub delta_in-at : (ks : List TreeMark) (t : Tag) (k : TreeMark) → mark_at ks t ≡ Some k → delta_in ks t ≡ k.delta
delta_in-at ks t k e = ap (λ (o : Option TreeMark). elim o [ None ↦ [] | Some j ↦ j.delta ]) e

pub is_live-absent : (ks : List TreeMark) (t : Tag) → mark_at ks t ≡ None → is_live ks t ≡ false
is_live-absent ks t e = ap (λ (o : Option TreeMark). elim o [ None ↦ false | Some j ↦ j.live ]) e

pub parent_in-absent : (ks : List TreeMark) (t : Tag) → mark_at ks t ≡ None → parent_in ks t ≡ None
parent_in-absent ks t e = ap (λ (o : Option TreeMark). elim o [ None ↦ None | Some j ↦ j.parent ]) e

pub delta_in-absent : (ks : List TreeMark) (t : Tag) → mark_at ks t ≡ None → delta_in ks t ≡ []
delta_in-absent ks t e = ap (λ (o : Option TreeMark). elim o [ None ↦ [] | Some j ↦ j.delta ]) e

-- a mark is there, or none is
pub there_or_not : (ks : List TreeMark) (t : Tag) → ((k : TreeMark) × (mark_at ks t ≡ Some k)) ⊎ (mark_at ks t ≡ None)
there_or_not ks t =
    elim (mark_at ks t) as (λ o. mark_at ks t ≡ o → ((k : TreeMark) × (mark_at ks t ≡ Some k)) ⊎ (mark_at ks t ≡ None)) [
      | None ↦ λ e. inr e
      | Some k ↦ λ e. inl (k, e)
    ] refl

-- with a parent there is a mark
pub mark_with_parent : (ks : List TreeMark) (t p : Tag) → parent_in ks t ≡ Some p → (k : TreeMark) × (mark_at ks t ≡ Some k) × (k.parent ≡ Some p)
mark_with_parent ks t p h =
    ⊎_elim {C = (k : TreeMark) × (mark_at ks t ≡ Some k) × (k.parent ≡ Some p)} (λ (f : (k : TreeMark) × (mark_at ks t ≡ Some k)). (f.0, f.1, sym (parent_in-at ks t f.0 f.1) ∙ h))
    (λ (n : mark_at ks t ≡ None). let bad : None ≡ Some p = sym (parent_in-absent ks t n) ∙ h in absurd (cc))
    (there_or_not ks t)
