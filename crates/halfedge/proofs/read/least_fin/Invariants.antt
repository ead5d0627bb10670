use Rattle.halfedge.proofs.Walks.{Least, to_come}
use Rattle.halfedge.proofs.read.least_fin.Given as goal

abbrev pub invariant-loop-store : goal.invariant-loop-store
invariant-loop-store g l = Least l.store.state.map l.fin l.here l.least

abbrev pub decreases-loop-store : goal.decreases-loop-store
decreases-loop-store g l = to_come l.store.state.map l.fin l.here
