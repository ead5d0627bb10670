use Rattle.std.proofs.Common.{◌≡◌, ◌+◌, ◌<◌, drop, get_or, length, sym, ap, ◌∙◌, arith}
use Rattle.serial_run.specs.Serial.{line_count, rounds}
use Rattle.serial_run.specs.Orders.{run_state}
use Rattle.serial_run.proofs.Rounds.{count_next, rounds_more}
use Rattle.serial_run.proofs.run.give_rounds.Goals as goal

pub loop-lines-preserved : goal.loop-lines-preserved
loop-lines-preserved g c =
    let K = g.K.Meaning.modelling in
    let lines = c.args.script.now.threads in
    let i = c.loop-lines.lines-index in
    let old = run_state c.loop-lines.world c.loop-lines.threads.items in
    let all = c.as_slice-lines-items.ensures in
    let own = c.lines-item.result in
    let less : i < length lines = omega (arith, c.loop-lines-test.true, ap (λ ls. length ls) all) in
    let next : line_count (drop i lines) ≡ length own + line_count (drop (i + 1) lines) = count_next lines i own less (c.lines-item.is ∙ ap (λ ls. get_or ls i own) all) in
    let count : length c.as_slice.result.now ≡ length own = ap (λ ls. length ls) c.as_slice.ensures in (
      c.in_ok-give_some_rounds.ensures.reached,
      ap (λ r. rounds K lines r (line_count (drop (i + 1) lines))) (c.in_ok-give_some_rounds.ensures.rounds ∙ ap (rounds K lines old) count)
          ∙ sym (rounds_more K lines old (length own) (line_count (drop (i + 1) lines)))
          ∙ ap (rounds K lines old) (sym next) ∙ c.loop-lines.invariant.1,
    )
