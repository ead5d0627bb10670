use Rattle.std.proofs.Common.{◌≡◌}
use Rattle.solid_motion.specs.Points.{point_by}
use Rattle.solid_motion.specs.Vertices.{MovesRun}
use Rattle.solid_motion.proofs.vertices.move_run.Given as goal

abbrev pub invariant-loop-number : goal.invariant-loop-number
invariant-loop-number g l =
    MovesRun (point_by l.fn.motion) l.fn.body l.fn.first l.number l.initial.rec.store.now l.rec.store.now
    × (l.rec.store.ghost_name ≡ l.initial.rec.store.ghost_name)
