use Rattle.std.proofs.Common.{length}
use Rattle.attributes.proofs.Walked.{AllNamed, AreKids}
use Rattle.attributes.proofs.reads.attribute_named.Given as goal

abbrev pub invariant-loop-tag : goal.invariant-loop-tag
invariant-loop-tag g l =
    AreKids l.store.state.map l.fn.owner l.kids × AllNamed l.store.state.map l.fn.owner l.fn.name l.kids

abbrev pub decreases-loop-tag : goal.decreases-loop-tag
decreases-loop-tag g l = length l.kids
