use Rattle.std.proofs.Common.{◌≡◌, ◌+◌, ◌-◌, suc, length, sym, ap, ◌∙◌, arith}
use Rattle.std.specs.List.{range_with_len}
use Rattle.serial_run.specs.Serial.{turns}
use Rattle.serial_run.specs.Orders.{run_state}
use Rattle.serial_run.proofs.run.give_round.Goals as goal

pub loop-thread-preserved : goal.loop-thread-preserved
loop-thread-preserved g c =
    let K = g.K.Meaning.modelling in
    let lines = c.args.script.now.threads in
    let t = c.loop-thread.thread in
    let old = run_state c.loop-thread.world c.loop-thread.threads.items in
    let left : length lines + 1 - t ≡ suc (length lines + 1 - (t + 1)) = omega (arith, c.loop-thread-test.true, ap (λ ls. length ls) c.as_slice.ensures) in (
      c.in_ok-give_turn.ensures.reached,
      ap (λ r. turns K lines r (range_with_len (t + 1) (length lines + 1 - (t + 1)))) c.in_ok-give_turn.ensures.turn
          ∙ ap (λ k. turns K lines old (range_with_len t k)) (sym left) ∙ c.loop-thread.invariant.1,
    )
