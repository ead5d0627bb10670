use Rattle.std.proofs.Common.{◌≡◌}
use Rattle.std.specs.FinMap.{len}
use Rattle.euler_kill.proofs.DeleteReached.{Deletes}
use Rattle.euler_kill.proofs.delete.delete_do.Given as goal

abbrev pub invariant-loop-entity : goal.invariant-loop-entity
invariant-loop-entity g l =
    Deletes l.fn.body l.initial.rec.store.now l.rec.store.now × (l.rec.store.ghost_name ≡ l.initial.rec.store.ghost_name)

abbrev pub decreases-loop-entity : goal.decreases-loop-entity
decreases-loop-entity g l = len l.rec.store.now.state.map
