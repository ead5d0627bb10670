use Rattle.std.proofs.Common.{◌≡◌, ◌<◌, List, Option, length, set, None, Some, map, not, ap, sym, subst, ◌∙◌, ℕ, arith}
use Rattle.std.specs.Prelude.{IsSome, filter}
use Rattle.pk_base.specs.Entity.{same_tag}
use Rattle.pk_model.specs.Step.{after_deletion}
use Rattle.owner_links.specs.Links.{owner_at}
use Rattle.pmark_tree.specs.declared.mark.TreeMark.{TreeMark}
use Rattle.pmark_tree.specs.Marks.{TreeView, mark_at, parent_in, dead_mark, removal_steps}
use Rattle.pmark_tree.specs.Maps.{whole_marks}
use Rattle.pmark_tree.specs.Rows.{AreKept, AreLinked, row_at}
use Rattle.pmark_tree.specs.Removal.{owned_by, rows_in}
use Rattle.pmark_tree.proofs.Grown.{some_is}
use Rattle.pmark_tree.proofs.Kept.{child_there, parent_there}
use Rattle.pmark_tree.proofs.Removed.{removal, removed-whole}
use Rattle.pmark_tree.proofs.Handed.{length-handed_over, rows-removed, may_move, still_owned}
use Rattle.pmark_tree.proofs.Ends.{all_found, room, kept-removed, tags_ascend, tags_contain}
use Rattle.pmark_tree.proofs.tree.MarkTree.remove.Goals as goal

pub parent_of-parent-requires-clause-child : goal.parent_of-parent-requires-clause-child
parent_of-parent-requires-clause-child g c =
    subst (λ l. IsSome (parent_in l c.args.t)) (sym (c.deref.ensures.value ∙ ap (λ (v : TreeView). v.marks) c.self.view_is)) c.requires

pub slot_in-row-requires-clause-there : goal.slot_in-row-requires-clause-there
slot_in-row-requires-clause-there g c =
    subst (λ l. IsSome (mark_at l c.args.t)) (sym (c.deref-2.ensures.value ∙ ap (λ (v : TreeView). v.marks) c.self.view_is)) (child_there c.args.self.now.marks c.args.t c.requires)

pub slot_in-owner-requires-clause-there : goal.slot_in-owner-requires-clause-there
slot_in-owner-requires-clause-there g c =
    let ks = c.self.inside.rows.items in
    let p = c.parent_of-parent.result in
    subst (λ l. IsSome (mark_at l p)) (sym c.deref-3.ensures.value) (parent_there ks c.args.t p c.self.invariant.tree (subst (λ l. parent_in l c.args.t ≡ Some p) c.deref.ensures.value c.parent_of-parent.ensures))

pub moved_children-requires-clause-linked : goal.moved_children-requires-clause-linked
moved_children-requires-clause-linked g c = subst (λ l. AreLinked l c.self.inside.links.owners) (sym c.deref-4.ensures.value) c.self.invariant.linked

pub moved_children-requires-clause-at : goal.moved_children-requires-clause-at
moved_children-requires-clause-at g c = subst (λ (l : List TreeMark). c.slot_in-row.result < length l) (c.deref-2.ensures.value ∙ sym c.deref-4.ensures.value) c.slot_in-row.ensures.within

pub hand_over-requires-clause-may : goal.hand_over-requires-clause-may
hand_over-requires-clause-may g c =
    let s = c.self.inside in
    let p = c.parent_of-parent.result in
    let row = c.slot_in-row.result in
    let owner = c.slot_in-owner.result in
    let moved = c.in_ok-moved.moved.items in
    let h = all_found s.rows.items c.args.t p row owner moved c.deref.result.now c.deref-2.result.now c.deref-3.result.now c.deref-4.result.now c.self.invariant.tree c.deref.ensures.value c.deref-2.ensures.value c.deref-3.ensures.value c.deref-4.ensures.value c.parent_of-parent.ensures c.slot_in-row.ensures.within c.slot_in-row.ensures.tag c.slot_in-owner.ensures.within c.slot_in-owner.ensures.tag c.in_ok-moved.ensures.moved in
    may_move s.rows.items c.args.t p row owner moved h s.links.owners c.self.invariant.linked (room s.rows.items s.live.items s.links.owners s.slots c.args.t p row owner moved c.self.invariant h)

pub end_mark-requires-clause-within : goal.end_mark-requires-clause-within
end_mark-requires-clause-within g c =
    let s = c.self.inside in
    let p = c.parent_of-parent.result in
    let row = c.slot_in-row.result in
    let owner = c.slot_in-owner.result in
    let moved = c.in_ok-moved.moved.items in
    let h = all_found s.rows.items c.args.t p row owner moved c.deref.result.now c.deref-2.result.now c.deref-3.result.now c.deref-4.result.now c.self.invariant.tree c.deref.ensures.value c.deref-2.ensures.value c.deref-3.ensures.value c.deref-4.ensures.value c.parent_of-parent.ensures c.slot_in-row.ensures.within c.slot_in-row.ensures.tag c.slot_in-owner.ensures.within c.slot_in-owner.ensures.tag c.in_ok-moved.ensures.moved in
    subst (λ n. row < n) (sym (ap length c.hand_over.ensures.rows ∙ length-handed_over p moved s.rows.items)) h.within

pub end_mark-requires-clause-owned : goal.end_mark-requires-clause-owned
end_mark-requires-clause-owned g c =
    let s = c.self.inside in
    let p = c.parent_of-parent.result in
    let row = c.slot_in-row.result in
    let owner = c.slot_in-owner.result in
    let moved = c.in_ok-moved.moved.items in
    let h = all_found s.rows.items c.args.t p row owner moved c.deref.result.now c.deref-2.result.now c.deref-3.result.now c.deref-4.result.now c.self.invariant.tree c.deref.ensures.value c.deref-2.ensures.value c.deref-3.ensures.value c.deref-4.ensures.value c.parent_of-parent.ensures c.slot_in-row.ensures.within c.slot_in-row.ensures.tag c.slot_in-owner.ensures.within c.slot_in-owner.ensures.tag c.in_ok-moved.ensures.moved in
    let full = room s.rows.items s.live.items s.links.owners s.slots c.args.t p row owner moved c.self.invariant h in
    subst (λ os. IsSome (owner_at os row)) (sym c.hand_over.ensures.owners) (still_owned s.rows.items c.args.t p row owner moved h s.links.owners c.self.invariant.linked full)

pub drop_tag-requires-clause-ascend : goal.drop_tag-requires-clause-ascend
drop_tag-requires-clause-ascend g c =
    let s = c.self.inside in
    let p = c.parent_of-parent.result in
    let row = c.slot_in-row.result in
    let owner = c.slot_in-owner.result in
    let moved = c.in_ok-moved.moved.items in
    let h = all_found s.rows.items c.args.t p row owner moved c.deref.result.now c.deref-2.result.now c.deref-3.result.now c.deref-4.result.now c.self.invariant.tree c.deref.ensures.value c.deref-2.ensures.value c.deref-3.ensures.value c.deref-4.ensures.value c.parent_of-parent.ensures c.slot_in-row.ensures.within c.slot_in-row.ensures.tag c.slot_in-owner.ensures.within c.slot_in-owner.ensures.tag c.in_ok-moved.ensures.moved in
    tags_ascend s.rows.items s.live.items s.links.owners s.slots c.args.t p row owner moved c.self.invariant h

pub drop_tag-requires-clause-there : goal.drop_tag-requires-clause-there
drop_tag-requires-clause-there g c =
    let s = c.self.inside in
    let p = c.parent_of-parent.result in
    let row = c.slot_in-row.result in
    let owner = c.slot_in-owner.result in
    let moved = c.in_ok-moved.moved.items in
    let h = all_found s.rows.items c.args.t p row owner moved c.deref.result.now c.deref-2.result.now c.deref-3.result.now c.deref-4.result.now c.self.invariant.tree c.deref.ensures.value c.deref-2.ensures.value c.deref-3.ensures.value c.deref-4.ensures.value c.parent_of-parent.ensures c.slot_in-row.ensures.within c.slot_in-row.ensures.tag c.slot_in-owner.ensures.within c.slot_in-owner.ensures.tag c.in_ok-moved.ensures.moved in
    tags_contain s.rows.items s.live.items s.links.owners s.slots c.args.t p row owner moved c.self.invariant h

pub invariant_of-self : goal.invariant_of-self
invariant_of-self g c =
    let s = c.self.inside in
    let p = c.parent_of-parent.result in
    let row = c.slot_in-row.result in
    let owner = c.slot_in-owner.result in
    let moved = c.in_ok-moved.moved.items in
    let h = all_found s.rows.items c.args.t p row owner moved c.deref.result.now c.deref-2.result.now c.deref-3.result.now c.deref-4.result.now c.self.invariant.tree c.deref.ensures.value c.deref-2.ensures.value c.deref-3.ensures.value c.deref-4.ensures.value c.parent_of-parent.ensures c.slot_in-row.ensures.within c.slot_in-row.ensures.tag c.slot_in-owner.ensures.within c.slot_in-owner.ensures.tag c.in_ok-moved.ensures.moved in
    let full = room s.rows.items s.live.items s.links.owners s.slots c.args.t p row owner moved c.self.invariant h in
    let rows : c.end_mark.new.rows.items ≡ removal s.rows.items c.args.t = c.end_mark.ensures.rows ∙ ap (λ r. set r row (dead_mark (row_at r row).tag)) c.hand_over.ensures.rows ∙ rows-removed s.rows.items c.args.t p row owner moved h in
    let owners = c.end_mark.ensures.owners ∙ ap (λ (os : List (Option ℕ)). set os row None) c.hand_over.ensures.owners in
    let left = filter (λ u. not (same_tag u c.args.t)) s.live.items in
    let kept = kept-removed s.rows.items s.live.items s.links.owners s.slots c.args.t p row owner moved c.self.invariant h in
    let linked : List (Option ℕ) = set (owned_by owner (rows_in moved) s.links.owners) row None in
    subst (λ l. AreKept c.end_mark.new.rows.items l c.end_mark.new.links.owners s.slots) (sym c.drop_tag.ensures)
    (subst (λ os. AreKept c.end_mark.new.rows.items left os s.slots) (sym owners)
    (subst (λ r. AreKept r left linked s.slots) (sym rows) kept))

pub returns-clause-marks : goal.returns-clause-marks
returns-clause-marks g c =
    let s = c.self.inside in
    let p = c.parent_of-parent.result in
    let row = c.slot_in-row.result in
    let owner = c.slot_in-owner.result in
    let moved = c.in_ok-moved.moved.items in
    let h = all_found s.rows.items c.args.t p row owner moved c.deref.result.now c.deref-2.result.now c.deref-3.result.now c.deref-4.result.now c.self.invariant.tree c.deref.ensures.value c.deref-2.ensures.value c.deref-3.ensures.value c.deref-4.ensures.value c.parent_of-parent.ensures c.slot_in-row.ensures.within c.slot_in-row.ensures.tag c.slot_in-owner.ensures.within c.slot_in-owner.ensures.tag c.in_ok-moved.ensures.moved in
    let full = room s.rows.items s.live.items s.links.owners s.slots c.args.t p row owner moved c.self.invariant h in
    let rows : c.end_mark.new.rows.items ≡ removal s.rows.items c.args.t = c.end_mark.ensures.rows ∙ ap (λ r. set r row (dead_mark (row_at r row).tag)) c.hand_over.ensures.rows ∙ rows-removed s.rows.items c.args.t p row owner moved h in
    rows ∙ ap (λ l. removal l c.args.t) (ap (λ (v : TreeView). v.marks) c.self.view_is)

pub returns-clause-whole : goal.returns-clause-whole
returns-clause-whole g c q e =
    let s = c.self.inside in
    let p = c.parent_of-parent.result in
    let row = c.slot_in-row.result in
    let owner = c.slot_in-owner.result in
    let moved = c.in_ok-moved.moved.items in
    let h = all_found s.rows.items c.args.t p row owner moved c.deref.result.now c.deref-2.result.now c.deref-3.result.now c.deref-4.result.now c.self.invariant.tree c.deref.ensures.value c.deref-2.ensures.value c.deref-3.ensures.value c.deref-4.ensures.value c.parent_of-parent.ensures c.slot_in-row.ensures.within c.slot_in-row.ensures.tag c.slot_in-owner.ensures.within c.slot_in-owner.ensures.tag c.in_ok-moved.ensures.moved in
    let full = room s.rows.items s.live.items s.links.owners s.slots c.args.t p row owner moved c.self.invariant h in
    let rows : c.end_mark.new.rows.items ≡ removal s.rows.items c.args.t = c.end_mark.ensures.rows ∙ ap (λ r. set r row (dead_mark (row_at r row).tag)) c.hand_over.ensures.rows ∙ rows-removed s.rows.items c.args.t p row owner moved h in
    let same = ap (λ (v : TreeView). v.marks) c.self.view_is in
    let is : p ≡ q = some_is (parent_in s.rows.items c.args.t) p q h.may.parent (ap (λ l. parent_in l c.args.t) same ∙ e) in
    ap whole_marks rows ∙ removed-whole s.rows.items c.args.t p h.may ∙ (λ i. map (after_deletion c.args.t (is i)) (whole_marks (same i)))

pub returns-clause-cost : goal.returns-clause-cost
returns-clause-cost g c =
    let s = c.self.inside in
    let t = c.args.t in
    let row = c.slot_in-row.result in
    let same = ap (λ (v : TreeView). v.marks) c.self.view_is in
    let rows = c.deref-2.ensures.value in
    let its : (row_at c.deref-4.result.now row).tag ≡ t = ap (λ (l : List TreeMark). (row_at l row).tag) (c.deref-4.ensures.value ∙ sym rows) ∙ c.slot_in-row.ensures.tag in
    let bound : removal_steps c.deref-4.result.now (row_at c.deref-4.result.now row).tag ≡ removal_steps c.args.self.now.marks t = ap (removal_steps c.deref-4.result.now) its ∙ ap (λ l. removal_steps l t) (c.deref-4.ensures.value ∙ same) in
    omega (arith, bound, c.moved_children.ensures.cost)

pub returns-in_err-moved-clause-cost : goal.returns-in_err-moved-clause-cost
returns-in_err-moved-clause-cost g c =
    let s = c.self.inside in
    let t = c.args.t in
    let row = c.slot_in-row.result in
    let same = ap (λ (v : TreeView). v.marks) c.self.view_is in
    let rows = c.deref-2.ensures.value in
    let its : (row_at c.deref-4.result.now row).tag ≡ t = ap (λ (l : List TreeMark). (row_at l row).tag) (c.deref-4.ensures.value ∙ sym rows) ∙ c.slot_in-row.ensures.tag in
    let bound : removal_steps c.deref-4.result.now (row_at c.deref-4.result.now row).tag ≡ removal_steps c.args.self.now.marks t = ap (removal_steps c.deref-4.result.now) its ∙ ap (λ l. removal_steps l t) (c.deref-4.ensures.value ∙ same) in
    omega (arith, bound, c.moved_children.ensures.cost)
