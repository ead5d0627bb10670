use Rattle.std.proofs.Common.{◌≡◌, ◌≤◌, ◌-◌, ◌^◌}
use Rattle.solid_motion.specs.Points.{point_by}
use Rattle.solid_motion.specs.Vertices.{MovesRun}
use Rattle.solid_motion.proofs.vertices.move_vertices.Given as goal

abbrev pub invariant-loop-tag : goal.invariant-loop-tag
invariant-loop-tag g l =
    MovesRun (point_by l.fn.motion) l.fn.body 0 l.from l.initial.rec.store.now l.rec.store.now
    × (l.rec.store.ghost_name ≡ l.initial.rec.store.ghost_name) × (l.from ≤ 2 ^ 32)

abbrev pub decreases-loop-tag : goal.decreases-loop-tag
decreases-loop-tag g l = 2 ^ 32 - l.from
