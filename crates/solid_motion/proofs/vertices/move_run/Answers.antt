use Rattle.std.proofs.Common.{◌∙◌, sym, arith}
use Rattle.pk_base.specs.Blocks.{tag}
use Rattle.solid_motion.specs.Points.{point_by}
use Rattle.solid_motion.proofs.Moving.{run-next, run-past, run-room}
use Rattle.solid_motion.proofs.vertices.move_run.Goals as goal

pub move_at-requires-clause-within : goal.move_at-requires-clause-within
move_at-requires-clause-within g c =
    λ p live. c.requires.within (tag c.loop-number.number) p c.loop-number.auto.number
    (sym (run-past (point_by c.args.motion) c.args.body c.args.first c.loop-number.number c.args.rec.now.store.now c.loop-number.rec.store.now (tag c.loop-number.number) c.loop-number.invariant.0 (omega arith)) ∙ live)

pub move_at-requires-clause-room : goal.move_at-requires-clause-room
move_at-requires-clause-room g c =
    run-room (point_by c.args.motion) c.args.body c.args.first c.loop-number.number c.args.rec.now.store.now c.loop-number.rec.store.now c.loop-number.invariant.0 c.requires.room

pub loop-number-preserved : goal.loop-number-preserved
loop-number-preserved g c = (
  run-next (point_by c.args.motion) c.args.body c.args.first c.loop-number.number c.args.rec.now.store.now c.loop-number.rec.store.now c.move_at.new.rec.store.now c.loop-number.auto.number c.loop-number.invariant.0 c.move_at.ensures.moves,
  c.move_at.ensures.same_store ∙ c.loop-number.invariant.1,
)
