use Rattle.halfedge.proofs.Walks.{to_come}
use Rattle.queries.proofs.LoopFins.{ListedRing}
use Rattle.queries.proofs.rings.list_ring.Given as goal

abbrev pub invariant-loop-first : goal.invariant-loop-first
invariant-loop-first g l = ListedRing l.store.state.map l.first l.here l.out.items l.out.spare

abbrev pub decreases-loop-first : goal.decreases-loop-first
decreases-loop-first g l = to_come l.store.state.map l.first l.here
