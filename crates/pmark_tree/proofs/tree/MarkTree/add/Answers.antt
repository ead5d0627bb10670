use Rattle.std.proofs.Common.{◌≡◌, ◌++◌, ◌∷◌, [], ◌<◌, List, Option, length, set, true, Some, ap, sym, subst, ◌∙◌, arith, ℕ}
use Rattle.std.specs.Prelude.{IsSome}
use Rattle.delta.specs.Deltas.{StartsAt, after}
use Rattle.owner_links.specs.Links.{LinksView}
use Rattle.pmark_tree.specs.declared.mark.TreeMark.{TreeMark}
use Rattle.pmark_tree.specs.Marks.{TreeView, is_live, mark_at}
use Rattle.pmark_tree.specs.Maps.{map_of, whole_marks}
use Rattle.pmark_tree.specs.Rows.{AreKept, row_at}
use Rattle.pmark_tree.proofs.Grown.{AreBelow, Grows, grown-whole}
use Rattle.pmark_tree.proofs.Linked.{few_below, free_slot}
use Rattle.pmark_tree.proofs.Kept.{live_there, kept-grown}
use Rattle.pmark_tree.proofs.tree.MarkTree.add.Goals as goal

pub slot_in-owner-requires-clause-there : goal.slot_in-owner-requires-clause-there
slot_in-owner-requires-clause-there c =
    subst (λ l. IsSome (mark_at l c.args.parent)) (sym (c.deref.ensures.value ∙ ap (λ (v : TreeView). v.marks) c.self.view_is)) (live_there c.args.self.now.marks c.args.parent c.requires.parent)

pub slot_of-child-requires : goal.slot_of-child-requires
slot_of-child-requires c =
    let ks = c.self.inside.rows.items in
    let same : ks ≡ c.args.self.now.marks = ap (λ (v : TreeView). v.marks) c.self.view_is in
    let few = few_below ks c.args.tag c.self.invariant.tree.ascend (subst (AreBelow c.args.tag) (sym same) c.requires.newest) in
    omega (arith, few, c.len.ensures, c.self.inside.rows.ok.0)

pub attach-requires-clause-free : goal.attach-requires-clause-free
attach-requires-clause-free c =
    free_slot c.self.inside.rows.items c.self.inside.links.owners c.slot_of-child.result c.self.invariant.linked (omega (arith, c.slot_of-child.ensures, c.len.ensures, c.self.inside.rows.ok.0))

pub invariant_of-self : goal.invariant_of-self
invariant_of-self c =
    let s = c.self.inside in
    let ks = s.rows.items in
    let t = c.args.tag in
    let p = c.args.parent in
    let d = c.args.delta in
    let o = c.slot_in-owner.result in
    let same : ks ≡ c.args.self.now.marks = ap (λ (v : TreeView). v.marks) c.self.view_is in
    let grows : Grows ks t p d = record {
      tree = c.self.invariant.tree;
      newest = subst (AreBelow t) (sym same) c.requires.newest;
      parent = subst (λ l. is_live l p ≡ true) (sym same) c.requires.parent;
      changes = c.len-changes.ensures.changes;
      starts = subst (λ l. StartsAt (map_of l p) d) (sym same) c.requires.starts;
    } in
    let spare = ap (λ (v : TreeView). v.spare) c.self.view_is in
    let room : length ks < s.slots = omega (arith, c.requires.room, spare, s.rows.ok.0) in
    let within : o < length ks = subst (λ (l : List TreeMark). o < length l) c.deref.ensures.value c.slot_in-owner.ensures.within in
    let is : (row_at ks o).tag ≡ p = subst (λ l. (row_at l o).tag ≡ p) c.deref.ensures.value c.slot_in-owner.ensures.tag in
    let number : c.slot_of-child.result ≡ length ks = omega (arith, c.slot_of-child.ensures, c.len.ensures, s.rows.ok.0) in
    let owners : c.attach.new.self.owners ≡ set s.links.owners (length ks) (Some o) = ap (λ (v : LinksView). v.owners) c.attach.ensures ∙ ap (λ n. set s.links.owners n (Some o)) number in
    let new : List (Option ℕ) = set s.links.owners (length ks) (Some o) in
    let kept = kept-grown ks s.live.items s.links.owners s.slots t p d o c.self.invariant grows room within is in
    subst (λ os. AreKept c.push_reserved.new.self.items c.push_reserved-2.new.self.items os s.slots) (sym owners)
    (subst (λ l. AreKept c.push_reserved.new.self.items l new s.slots) (sym c.push_reserved-2.ensures.items)
    (subst (λ l. AreKept l (s.live.items ++ t ∷ []) new s.slots) (sym c.push_reserved.ensures.items) kept))

pub returns-clause-whole : goal.returns-clause-whole
returns-clause-whole c =
    let ks = c.self.inside.rows.items in
    let t = c.args.tag in
    let p = c.args.parent in
    let d = c.args.delta in
    let same : ks ≡ c.args.self.now.marks = ap (λ (v : TreeView). v.marks) c.self.view_is in
    ap whole_marks c.push_reserved.ensures.items
    ∙ grown-whole ks t p d (subst (AreBelow t) (sym same) c.requires.newest)
    ∙ ap (λ l. whole_marks l ++ record { tag = t; parent = Some p; map = after (map_of l p) d; live = true } ∷ []) same
