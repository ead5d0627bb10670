use Rattle.std.proofs.Common.{◌≡◌, sym, subst, ◌∙◌, arith}
use Rattle.entity_store.specs.Changes.{AreChanges}
use Rattle.delta.specs.Composed.{composed}
use Rattle.delta.proofs.Merged.{AreChanges-composed, composed-net, all-taken}
use Rattle.delta.proofs.changes.Delta.compose_within.Goals as goal

pub take_next-taken-requires-clause-changes : goal.take_next-taken-requires-clause-changes
take_next-taken-requires-clause-changes g c =
    subst AreChanges (sym c.loop-taken.invariant.items) (AreChanges-composed c.args.a.now c.args.b.now c.len.ensures.changes c.len-2.ensures.changes)

pub returns-clause-net : goal.returns-clause-net
returns-clause-net g c m x y =
    let a = c.args.a.now in
    let b = c.args.b.now in
    let whole : c.loop-taken.out.items ≡ composed a b = all-taken c.loop-taken.out.items a b c.loop-taken.taken.first c.loop-taken.taken.second c.loop-taken.invariant.items (omega (arith, c.loop-taken-test.false, c.loop-taken.invariant.most)) c.loop-taken.invariant.first c.loop-taken.invariant.second in
    c.from_changes.ensures ∙ c.finish.ensures ∙ whole ∙ composed-net a b c.len.ensures.changes c.len-2.ensures.changes m x y
