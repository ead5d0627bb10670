use Rattle.std.proofs.Common.{◌≡◌}
use Rattle.euler_make.proofs.EdgesDone.{EdgesDone}
use Rattle.euler_make.proofs.raise.raise_edges.Given as goal

abbrev pub invariant-loop : goal.invariant-loop
invariant-loop g l =
    EdgesDone l.initial.rec.store.now l.fn.face l.fn.by l.initial.tags l.initial.out l.counter l.fin l.rec.store.now l.tags l.out
    × (l.rec.store.ghost_name ≡ l.initial.rec.store.ghost_name)
