use Rattle.halfedge.proofs.Walks.{Counted, to_come}
use Rattle.halfedge.proofs.read.ring_len.Given as goal

abbrev pub invariant-loop-fin : goal.invariant-loop-fin
invariant-loop-fin g l = Counted l.store.state.map l.fin l.here l.len

abbrev pub decreases-loop-fin : goal.decreases-loop-fin
decreases-loop-fin g l = to_come l.store.state.map l.fin l.here
