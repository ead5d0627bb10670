-- Over a replay the tags of the marks ascend, and so those of the live ones, for any modeller.
use Rattle.std.proofs.Common.{◌≡◌, ℕ, zero, suc, ◌+◌, ◌-◌, ◌*◌, ◌<◌, ◌≤◌, true, false, cond, List, [], ◌∷◌, ◌++◌, length, take, Some, refl, sym, subst}
use Rattle.std.specs.Prelude.{map, filter}
use Rattle.std.specs.List.{AllByRecursion}
use Rattle.std.proofs.lemmas.List.Elements.{Contains-append_right}
use Rattle.pk_base.specs.declared.tag.Tag.{Tag}
use Rattle.pk_base.specs.declared.list.MarkRow.{MarkRow}
use Rattle.pk_base.specs.declared.act.Entry.{Entry}
use Rattle.pk_model.specs.Tags.{TagsAscend, tags_of}
use Rattle.pk_model.specs.State.{Mark, PartitionState, opening}
use Rattle.pk_model.specs.Modelling.{Modelling}
use Rattle.pk_model.specs.Step.{after_deletion, live_rows, row_of}
use Rattle.pk_model.specs.Replay.{replay}
use Rattle.pk_model.proofs.TagLists.{TagsAscend-tags_of}
use Rattle.pk_model.proofs.Transitions.{EachWay, replay_way}
use Rattle.list_facts.proofs.Elements.{Contains-first}
use Rattle.list_facts.proofs.Each.{ByRecursion-weaker, ByRecursion-at, ByRecursion-take}
use Rattle.pk_laws.proofs.FirstMarks.{MarksTaken, MarksTaken-opening, MarksTaken-way, deletion-tag, next_tag, taken_tags, taken_with_next}

-- ---- tags that ascend

TagsAscend-take : (n : ℕ) (ts : List Tag) → TagsAscend ts → TagsAscend (take n ts)
TagsAscend-take zero ts h = tt
TagsAscend-take (suc n) [] h = tt
TagsAscend-take (suc n) (t ∷ ts) h = (ByRecursion-take _ n ts h.0, TagsAscend-take n ts h.1)

-- the last of tags that ascend is above the others
below_last : (ts : List Tag) (t : Tag) → TagsAscend (ts ++ t ∷ []) → AllByRecursion (λ u. u.0 < t.0) ts
below_last [] t h = tt
below_last (u ∷ us) t h = (ByRecursion-at (λ x. u.0 < x.0) (us ++ t ∷ []) t h.0 (Contains-append_right us (t ∷ []) t (Contains-first t [])), below_last us t h.1)

-- ---- marks whose tags ascend

abbrev tags_of_marks : List Mark → List Tag
tags_of_marks marks = map (λ (k : Mark). k.tag) marks

-- a mark with a tag above all is made
made_ascends : (marks : List Mark) (k : Mark) → TagsAscend (tags_of_marks marks) → AllByRecursion (λ (x : Mark). x.tag.0 < k.tag.0) marks → TagsAscend (tags_of_marks (marks ++ k ∷ []))
made_ascends [] k h below = (tt, tt)
made_ascends (x ∷ xs) k h below = (later xs h.0, made_ascends xs k h.1 below.1)
  where
    later : (ys : List Mark) → AllByRecursion (λ u. x.tag.0 < u.0) (tags_of_marks ys) → AllByRecursion (λ u. x.tag.0 < u.0) (tags_of_marks (ys ++ k ∷ []))
    later [] g = (below.0, tt)
    later (y ∷ ys) g = (g.0, later ys g.1)

-- a deletion keeps the tags
deletion-tags : (n q : Tag) (marks : List Mark) → tags_of_marks (map (after_deletion n q) marks) ≡ tags_of_marks marks
deletion-tags n q [] = refl
deletion-tags n q (k ∷ ks) = (λ i. deletion-tag n q k i ∷ deletion-tags n q ks i)

-- the live ones among marks whose tags ascend
live_later : (t : Tag) (marks : List Mark) → AllByRecursion (λ u. t.0 < u.0) (tags_of_marks marks) → AllByRecursion (λ u. t.0 < u.0) (map (λ (r : MarkRow). r.tag) (live_rows marks))
live_later t [] h = tt
live_later t (k ∷ ks) h =
    elim k.live as (λ b. AllByRecursion (λ u. t.0 < u.0) (map (λ (r : MarkRow). r.tag) (map row_of (cond b (k ∷ filter (λ x. x.live) ks) (filter (λ x. x.live) ks))))) [
      | true ↦ (h.0, live_later t ks h.1)
      | false ↦ live_later t ks h.1
    ]

live_ascend : (marks : List Mark) → TagsAscend (tags_of_marks marks) → TagsAscend (map (λ (r : MarkRow). r.tag) (live_rows marks))
live_ascend [] h = tt
live_ascend (k ∷ ks) h =
    elim k.live as (λ b. TagsAscend (map (λ (r : MarkRow). r.tag) (map row_of (cond b (k ∷ filter (λ x. x.live) ks) (filter (λ x. x.live) ks))))) [
      | true ↦ (live_later k.tag ks h.0, live_ascend ks h.1)
      | false ↦ live_ascend ks h.1
    ]

-- ---- along a replay

-- Each mark has a tag that was taken, and the marks stand in the order of their tags.
record MarksAscend (s : PartitionState) : Type 0 where
  taken : MarksTaken s
  ascend : TagsAscend (tags_of_marks s.marks)

-- the next tag is above those of all marks
next_above : (s : PartitionState) → MarksTaken s → 1 ≤ 64 * length s.blocks - s.used → AllByRecursion (λ (x : Mark). x.tag.0 < (next_tag s).0) s.marks
next_above s k fits =
    let more : TagsAscend (taken_tags s ++ next_tag s ∷ []) = subst TagsAscend (taken_with_next s fits) (TagsAscend-take (s.used + 1) (tags_of s.blocks) (TagsAscend-tags_of s.blocks k.ascends)) in
    let below = below_last (taken_tags s) (next_tag s) more in
    ByRecursion-weaker _ _ (λ (x : Mark) h. ByRecursion-at (λ u. u.0 < (next_tag s).0) (taken_tags s) x.tag below h) s.marks k.marks

MarksAscend-way : (s : PartitionState) (e : Entry) → MarksAscend s → EachWay s e MarksAscend
MarksAscend-way s e k =
    let w = MarksTaken-way s e k.taken in
    record {
      same = λ now at holder. record { taken = w.same now at holder; ascend = k.ascend };
      draws = λ b above. record { taken = w.draws b above; ascend = k.ascend };
      takes = λ now n fits. record { taken = w.takes now n fits; ascend = k.ascend };
      marks = λ fits. record { taken = w.marks fits; ascend = made_ascends s.marks _ k.ascend (next_above s k.taken fits) };
      deletes = λ t n q x asked at below. record { taken = w.deletes t n q x asked at below; ascend = subst TagsAscend (sym (deletion-tags n q s.marks)) k.ascend };
    }

pub replay-live_ascend : (K : Modelling) (p : ℕ) (journal : List Entry) (s : PartitionState) → replay K p journal ≡ Some s → TagsAscend (map (λ (r : MarkRow). r.tag) (live_rows s.marks))
replay-live_ascend K p journal s h =
    live_ascend s.marks (replay_way K MarksAscend journal (λ r e _ k. MarksAscend-way r e k) (opening p) s (record { taken = MarksTaken-opening p; ascend = (tt, tt) }) h).ascend
