use Rattle.std.proofs.Common.{◌≡◌}
use Rattle.halfedge.proofs.Labelled.{Labelled}
use Rattle.halfedge.proofs.Walks.{to_come}
use Rattle.halfedge.proofs.labels.relabel.Given as goal

abbrev pub invariant-loop-to : goal.invariant-loop-to
invariant-loop-to g l = Labelled l.fn.rec.store.now l.fin l.to l.here l.rec.store.now × (l.rec.store.ghost_name ≡ l.fn.rec.store.ghost_name)

abbrev pub decreases-loop-to : goal.decreases-loop-to
decreases-loop-to g l = to_come l.fn.rec.store.now.state.map l.fin l.here
