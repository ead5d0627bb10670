use Rattle.std.proofs.Common.{length}
use Rattle.solid_motion.proofs.Sought.{Seeks}
use Rattle.solid_motion.proofs.vertices.least_vertex.Given as goal

abbrev pub invariant-loop-tag : goal.invariant-loop-tag
invariant-loop-tag g l = Seeks l.fn.store.state.map l.fn.body l.fn.wanted l.kids l.least

abbrev pub decreases-loop-tag : goal.decreases-loop-tag
decreases-loop-tag g l = length l.kids
