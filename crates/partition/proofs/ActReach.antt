-- What an act reaches, from what was done to the fields.
use Rattle.std.proofs.Common.{◌≡◌, ℕ, true, cond, None, ◌+◌, ◌*◌, ◌-◌, ◌≤◌, List, [], ◌∷◌, ◌++◌, map, length, Option, Some, Result, Ok, Err, sym, ap, ◌∙◌, arith}
use Rattle.pk_base.specs.Entity.{same_tag}
use Rattle.pk_base.specs.declared.tag.Tag.{Tag}
use Rattle.pk_base.specs.declared.call.Call.{Call}
use Rattle.pk_base.specs.declared.act.Act.TheVariants as act
use Rattle.pk_base.specs.declared.act.Reply.{Reply}
use Rattle.pk_base.specs.declared.act.Reply.TheVariants as reply
use Rattle.pk_base.specs.declared.refusal.Refusal.{Refusal}
use Rattle.pk_base.specs.declared.refusal.Refusal.TheVariants.{InitialMark}
use Rattle.pk_base.specs.declared.list.Lists.{Lists}
use Rattle.pk_model.specs.Tags.{spare_of, next_tags, tag_at, tags_of}
use Rattle.pk_model.specs.Maps.{EntityMap, diff}
use Rattle.pk_model.specs.State.{Mark, PartitionState}
use Rattle.pk_model.specs.Modelling.{Modelling}
use Rattle.pk_model.specs.Step.{◌>>=◌, short, Reach, reach_of, call_reaches, goto_reaches, unmark_reaches, after_deletion, mark_among, parent_of}
use Rattle.pk_model.proofs.TagLists.{tag_at-next_tags}
use Rattle.pk_model.proofs.Steps.{enough_tags, reach_of-call, reach_of-goto}
use Rattle.entity_store.specs.Store.{StoreView}
use Rattle.pmark_tree.specs.declared.mark.TreeMark.{TreeMark}
use Rattle.pmark_tree.specs.Marks.{parent_in}
use Rattle.pmark_tree.specs.Maps.{map_of, whole_marks}
use Rattle.partition.specs.Goes.{IsFound, Made, whole_of}
use Rattle.partition.specs.Contents.{state_of}

-- a call that is not short has tags enough
pub room_for_call : (K : Modelling) (s : PartitionState) (c : Call) → short K s (act.Call c) ≡ 0 → K.cost s.now c ≤ 64 * length s.blocks - s.used
room_for_call K s c h = enough_tags (K.cost s.now c) (spare_of s.blocks s.used) h

module _ (K : Modelling) (store new : StoreView) (ks : List TreeMark) (at : Tag) (used : ℕ) (holder : Option ℕ) where
  -- the state before
  abbrev before : PartitionState
  before = state_of store ks at used holder

  pub call_reached : (c : Call) (r : Reply) (taken : ℕ) → Made K store.state used c r taken new.state → reach_of K before (act.Call c) ≡ Ok (record { state = state_of new ks at (used + taken) holder; reply = r })
  call_reached c r taken made =
      let is : (call_reaches K before (K.cost store.state.map c) made.outcome).state ≡ state_of new ks at (used + taken) holder =
      λ i. record { now = (sym made.store i).map; marks = whole_marks ks; at = at; blocks = (sym made.store i).blocks; used = used + sym made.takes i; holder = holder }
      in
      let with_both : PartitionState → Reply → Result Reach Refusal = λ s a. Ok (record { state = s; reply = a }) in
      reach_of-call K before c made.outcome made.steps ∙ (λ i. with_both (is i) (sym made.replies i))

  pub goto_reached : (m : Tag) (lists : Lists) → IsFound store.state.blocks ks m → lists ≡ diff store.state.map (map_of ks m) → new.state ≡ record store.state { map = map_of ks m } → reach_of K before (act.Goto m) ≡ Ok (record { state = state_of new ks m used holder; reply = reply.Went lists })
  goto_reached m lists found differs is_new =
      let is : (goto_reaches before (whole_of ks m)).state ≡ state_of new ks m used holder =
      λ i. record { now = (sym is_new i).map; marks = whole_marks ks; at = m; blocks = (sym is_new i).blocks; used = used; holder = holder }
      in
      let with_both : PartitionState → Reply → Result Reach Refusal = λ s a. Ok (record { state = s; reply = a }) in
      reach_of-goto K before m (whole_of ks m) found.found ∙ (λ i. with_both (is i) (reply.Went (sym differs i)))

  -- a refused act leaves the state
  pub state_stays : new.state ≡ store.state → state_of new ks at used holder ≡ before
  state_stays same = λ i. record { now = (same i).map; marks = whole_marks ks; at = at; blocks = (same i).blocks; used = used; holder = holder }

  -- a mark stands for the state now, and is current
  pub mark_reached : (t : Tag) (n : EntityMap) (new_ks : List TreeMark) → t ≡ tag_at (tags_of store.state.blocks) used → n ≡ store.state.map → whole_marks new_ks ≡ whole_marks ks ++ record { tag = t; parent = Some at; map = n; live = true } ∷ []
      → reach_of K before act.Mark ≡ Ok (record { state = state_of store new_ks t (used + 1) holder; reply = reply.Made (t ∷ []) })
  mark_reached t n new_ks place stands whole =
      let next = tag_at (next_tags store.state.blocks used) 0 in
      let tag_is : next ≡ t = tag_at-next_tags store.state.blocks used 0 ∙ ap (tag_at (tags_of store.state.blocks)) (omega arith) ∙ sym place in
      let made : Tag → EntityMap → Mark = λ u m. record { tag = u; parent = Some at; map = m; live = true } in
      let marks_are : whole_marks ks ++ made next store.state.map ∷ [] ≡ whole_marks new_ks = (λ i. whole_marks ks ++ made (tag_is i) (sym stands i) ∷ []) ∙ sym whole in
      let state : List Mark → Tag → PartitionState = λ ms u. record { now = store.state.map; marks = ms; at = u; blocks = store.state.blocks; used = used + 1; holder = holder } in
      let answer : PartitionState → Tag → Result Reach Refusal = λ s u. Ok (record { state = s; reply = reply.Made (u ∷ []) }) in
      λ i. answer (state (marks_are i) (tag_is i)) (tag_is i)

  -- ---- a mark that is deleted

  pub unmark_refused : (m : Tag) (e : Refusal) → (mark_among store.state.blocks (whole_marks ks) m >>= parent_of) ≡ Err e → reach_of K before (act.Unmark m) ≡ Err e
  unmark_refused m e h =
      elim (mark_among store.state.blocks (whole_marks ks) m) as (λ r. (r >>= parent_of) ≡ Err e → (r >>= (λ k. parent_of k >>= (λ p. Ok (unmark_reaches before m p)))) ≡ Err e) [
        | Ok k ↦ λ f. ap (λ (r : Result Tag Refusal). r >>= (λ p. Ok (unmark_reaches before m p))) f
        | Err d ↦ λ f. let same : d ≡ e = cc in ap {B = Result Reach Refusal} (λ (x : Refusal). Err x) same
      ] h

  pub unmark_reached : (m p : Tag) (new_ks : List TreeMark) (new_at : Tag) → IsFound store.state.blocks ks m → parent_in ks m ≡ Some p → whole_marks new_ks ≡ map (after_deletion m p) (whole_marks ks) → new_at ≡ cond (same_tag at m) p at
      → reach_of K before (act.Unmark m) ≡ Ok (record { state = state_of store new_ks new_at used holder; reply = reply.Done })
  unmark_reached m p new_ks new_at found parent whole at_is =
      let parent_is : parent_of (whole_of ks m) ≡ Ok p = ap {B = Result Tag Refusal} (λ (o : Option Tag). elim o as (λ _. Result Tag Refusal) [ None ↦ Err InitialMark | Some q ↦ Ok q ]) parent in
      let then : Mark → Result Reach Refusal = λ k. parent_of k >>= (λ q. Ok (unmark_reaches before m q)) in
      let is : (unmark_reaches before m p).state ≡ state_of store new_ks new_at used holder =
      λ i. record { now = store.state.map; marks = sym whole i; at = sym at_is i; blocks = store.state.blocks; used = used; holder = holder }
      in
      ap (λ (r : Result Mark Refusal). r >>= then) found.found
      ∙ ap (λ (r : Result Tag Refusal). r >>= (λ q. Ok (unmark_reaches before m q))) parent_is
      ∙ ap {B = Result Reach Refusal} (λ (s : PartitionState). Ok (record { state = s; reply = reply.Done })) is

  -- ---- a difference that is asked for

  pub delta_refused : (m : Tag) (e : Refusal) → (mark_among store.state.blocks (whole_marks ks) m >>= parent_of) ≡ Err e → reach_of K before (act.Delta m) ≡ Err e
  delta_refused m e h =
      let last : Mark → Mark → Result Reach Refusal = λ k q. Ok (record { state = before; reply = reply.Delta (diff q.map k.map) }) in
      elim (mark_among store.state.blocks (whole_marks ks) m) as (λ r. (r >>= parent_of) ≡ Err e → (r >>= (λ k. parent_of k >>= (λ p. mark_among store.state.blocks (whole_marks ks) p >>= last k))) ≡ Err e) [
        | Ok k ↦ λ f. ap (λ (r : Result Tag Refusal). r >>= (λ p. mark_among store.state.blocks (whole_marks ks) p >>= last k)) f
        | Err d ↦ λ f. let same : d ≡ e = cc in ap {B = Result Reach Refusal} (λ (x : Refusal). Err x) same
      ] h

  -- so far the mark and its parent were found
  delta_found : (m p : Tag) → IsFound store.state.blocks ks m → parent_in ks m ≡ Some p → reach_of K before (act.Delta m) ≡ (mark_among store.state.blocks (whole_marks ks) p >>= (λ q. Ok (record { state = before; reply = reply.Delta (diff q.map (map_of ks m)) })))
  delta_found m p found parent =
      let last : Mark → Mark → Result Reach Refusal = λ k q. Ok (record { state = before; reply = reply.Delta (diff q.map k.map) }) in
      let parent_is : parent_of (whole_of ks m) ≡ Ok p = ap {B = Result Tag Refusal} (λ (o : Option Tag). elim o as (λ _. Result Tag Refusal) [ None ↦ Err InitialMark | Some q ↦ Ok q ]) parent in
      ap (λ (r : Result Mark Refusal). r >>= (λ k. parent_of k >>= (λ p. mark_among store.state.blocks (whole_marks ks) p >>= last k))) found.found
      ∙ ap (λ (r : Result Tag Refusal). r >>= (λ p. mark_among store.state.blocks (whole_marks ks) p >>= last (whole_of ks m))) parent_is

  pub delta_unfound : (m p : Tag) (e : Refusal) → IsFound store.state.blocks ks m → parent_in ks m ≡ Some p → mark_among store.state.blocks (whole_marks ks) p ≡ Err e → reach_of K before (act.Delta m) ≡ Err e
  delta_unfound m p e found parent none =
      delta_found m p found parent ∙ ap (λ (r : Result Mark Refusal). r >>= (λ q. Ok (record { state = before; reply = reply.Delta (diff q.map (map_of ks m)) }))) none

  pub delta_reached : (m p : Tag) (lists : Lists) → IsFound store.state.blocks ks m → parent_in ks m ≡ Some p → IsFound store.state.blocks ks p → lists ≡ diff (map_of ks p) (map_of ks m) → reach_of K before (act.Delta m) ≡ Ok (record { state = before; reply = reply.Delta lists })
  delta_reached m p lists found parent found_parent differs =
      delta_found m p found parent
      ∙ ap (λ (r : Result Mark Refusal). r >>= (λ q. Ok (record { state = before; reply = reply.Delta (diff q.map (map_of ks m)) }))) found_parent.found
      ∙ ap {B = Result Reach Refusal} (λ (l : Lists). Ok (record { state = before; reply = reply.Delta l })) (sym differs)
