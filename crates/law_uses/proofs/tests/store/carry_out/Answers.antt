use Rattle.std.proofs.Common.{◌≤◌, rules, subst, ◌∙◌, arith}
use Rattle.solid_model.specs.Sound.{IsSound}
use Rattle.law_uses.proofs.Ready.{may-perform, still-sound}
use Rattle.law_uses.proofs.tests.store.carry_out.Goals as goal

pub perform-requires : goal.perform-requires
perform-requires g c = may-perform c.args.store.now.state c.args.call.now c.in-Ok.need c.ready-tags.result c.ready-tags.ensures c.in-Ok.ensures.needs c.recorder_with-rec.result.store.now c.recorder_with-rec.ensures.state
    c.in_ok-out.out (c.recorder_with-rec.ensures.record ∙ c.in_ok-room.ensures) c.in_ok-out.ensures.empty (omega (arith, c.in_ok-out.ensures.room))

pub returns : goal.returns
returns g c =
    subst IsSound (search rules)
    (still-sound c.args.store.now.state c.args.call.now c.in-Ok.need c.ready-tags.result c.ready-tags.ensures c.in-Ok.ensures.needs c.recorder_with-rec.result.store.now c.recorder_with-rec.ensures.state _ _ _ c.perform.ensures.performs)
