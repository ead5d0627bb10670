use Rattle.std.proofs.Common.{◌≡◌, ◌+◌, ◌-◌, suc, true, sym, ap, ap₂, ◌∙◌, arith}
use Rattle.serial_run.specs.Serial.{rounds}
use Rattle.serial_run.specs.Orders.{have_ended, run_state}
use Rattle.serial_run.proofs.Idle.{idle_rounds}
use Rattle.serial_run.proofs.Ending.{have_ended-next}
use Rattle.serial_run.proofs.run.give_some_rounds.Goals as goal

pub loop-preserved : goal.loop-preserved
loop-preserved g c =
    let K = g.K.Meaning.modelling in
    let lines = c.args.script.now.threads in
    let old = run_state c.loop.world c.loop.threads.items in
    let left : c.args.count - c.loop.counter ≡ suc (c.args.count - (c.loop.counter + 1)) = omega (arith, c.loop-test.true) in (
      c.in_ok-give_round.ensures.reached,
      ap (λ r. rounds K lines r (c.args.count - (c.loop.counter + 1))) c.in_ok-give_round.ensures.turns
          ∙ ap (rounds K lines old) (sym left) ∙ c.loop.invariant.1,
    )

pub returns-then-have_ended-clause-rounds : goal.returns-then-have_ended-clause-rounds
returns-then-have_ended-clause-rounds g c =
    let K = g.K.Meaning.modelling in
    let lines = c.args.script.now.threads in
    let now = run_state c.loop.world c.loop.threads.items in
    let ended : have_ended lines c.loop.threads.items ≡ true = ap₂ (λ ls ts. have_ended ls ts) (sym c.as_slice.ensures) (sym c.deref.ensures.value) ∙ sym c.have_ended.ensures ∙ c.if-have_ended.true in
    sym (idle_rounds K lines now (c.args.count - c.loop.counter) (have_ended-next lines now ended)) ∙ c.loop.invariant.1
