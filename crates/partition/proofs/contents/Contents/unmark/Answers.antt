use Rattle.std.proofs.Common.{◌≡◌, sym, subst, ◌∙◌}
use Rattle.pk_base.proofs.Same.{same_tag-Decides}
use Rattle.pk_base.specs.declared.tag.Tag.{Tag}
use Rattle.delta.specs.Deltas.{StartsAt}
use Rattle.pmark_tree.specs.Maps.{map_of}
use Rattle.partition.specs.Contents.{AreContents}
use Rattle.partition.proofs.Keeping.{removed_current, removed_other, starts}
use Rattle.partition.proofs.Removing.{older_other}
use Rattle.partition.proofs.contents.Contents.unmark.Goals as goal

pub to_delta-requires : goal.to_delta-requires
to_delta-requires g c =
    let p = c.self.inside in
    record { base = map_of p.tree.marks p.at; now = p.store.state.map; net = c.self.invariant.net }

pub remove_current-requires-clause-starts : goal.remove_current-requires-clause-starts
remove_current-requires-clause-starts g c =
    let p = c.self.inside in
    let at_is : p.at ≡ c.args.m = (same_tag-Decides p.at c.args.m).0 (sym c.eq.ensures ∙ c.if-eq.true) in
    subst (λ (t : Tag). StartsAt (map_of p.tree.marks t) c.in_ok-unsaved.unsaved) at_is (starts p.store.state.blocks p.blocks.items p.store.state.map p.tree.marks p.unsaved.changes.entries p.at p.used c.self.invariant c.in_ok-unsaved.unsaved (c.in_ok-unsaved.ensures (map_of p.tree.marks p.at) p.store.state.map c.self.invariant.net))

pub invariant_of-self-then-eq : goal.invariant_of-self-then-eq
invariant_of-self-then-eq g c =
    let p = c.self.inside in
    let at_is : p.at ≡ c.args.m = (same_tag-Decides p.at c.args.m).0 (sym c.eq.ensures ∙ c.if-eq.true) in
    let kept : AreContents p.store.state.blocks p.blocks.items p.store.state.map p.tree.marks p.unsaved.changes.entries c.args.m p.used = subst (λ (t : Tag). AreContents p.store.state.blocks p.blocks.items p.store.state.map p.tree.marks p.unsaved.changes.entries t p.used) at_is c.self.invariant in
    let edge = c.in-Ok.ensures.edge in
    removed_current p.store.state.blocks p.blocks.items p.store.state.map p.tree.marks p.unsaved.changes.entries c.args.m p.used kept c.in-Ok.parent c.remove_current.new.tree.marks c.in_ok-self-inside.field-0.changes.entries
    (c.in_ok-self-inside.ensures.whole c.in-Ok.parent c.in-Ok.ensures.parent) edge.parent_lives (older_other p.tree.marks c.in-Ok.parent c.args.m edge) (c.in_ok-self-inside.ensures.net c.in-Ok.parent c.in-Ok.ensures.parent p.store.state.map (c.in_ok-unsaved.ensures (map_of p.tree.marks c.args.m) p.store.state.map kept.net))

pub invariant_of-self-2 : goal.invariant_of-self-2
invariant_of-self-2 g c =
    let p = c.self.inside in
    removed_other p.store.state.blocks p.blocks.items p.store.state.map p.tree.marks p.unsaved.changes.entries p.at p.used c.self.invariant c.args.m c.in-Ok.parent c.remove.new.self.marks
    (c.in_ok-remove.ensures.whole c.in-Ok.parent c.in-Ok.ensures.parent) (sym c.eq.ensures ∙ c.if-eq.false)
