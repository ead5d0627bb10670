use Rattle.std.proofs.Common.{◌≡◌, suc, ◌+◌, ◌-◌, sym, ap, ◌∙◌, arith}
use Rattle.serial_run.specs.Serial.{draws}
use Rattle.serial_run.proofs.Drawing.{draws-one}
use Rattle.serial_run.proofs.acts.draw.Goals as goal

pub loop-preserved : goal.loop-preserved
loop-preserved g c =
    let K = g.K.Meaning.modelling in
    let t = c.args.t in
    let p = c.args.p in
    let left : c.args.count - c.loop.counter ≡ suc (c.args.count - (c.loop.counter + 1)) = omega (arith, c.loop-test.true) in
    let one = draws-one K t p (c.args.count - (c.loop.counter + 1)) c.loop.world c.draw_one.new.world (c.in_ok-next.ensures.drew ∙ ap (λ s. record { world = c.draw_one.new.world; spent = s }) c.in_default.is) in
    (c.in_ok-next.ensures.held, (c.in_ok-next.ensures.thread, sym one ∙ ap (λ k. draws K t p k c.loop.world) (sym left) ∙ c.loop.invariant.1.1))
