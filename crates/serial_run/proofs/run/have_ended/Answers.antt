use Rattle.std.proofs.Common.{◌+◌, ◌&&◌, drop, sym, ap, ◌∙◌}
use Rattle.serial_run.specs.Orders.{ended_by, have_ended}
use Rattle.serial_run.proofs.Ending.{ended_at, next_ended}
use Rattle.serial_run.proofs.run.have_ended.Goals as goal

pub returns-then-not-has_ended : goal.returns-then-not-has_ended
returns-then-not-has_ended c =
    let k = c.loop-place.place in
    let lines = c.args.lines.now in
    let threads = c.args.threads.now in
    let at = ap (λ ls. ended_by ls c.get.result) c.as_slice.ensures ∙ ended_at lines threads k c.index-lines-place.result c.get.result c.index-lines-place.is c.loop-place-test.true c.get.ensures.lookup.0 c.get.ensures.lookup.1 in
    ap (λ b. b && have_ended (drop (k + 1) lines) (drop (k + 1) threads)) (sym c.if-not-has_ended.true ∙ c.has_ended.ensures ∙ at)
    ∙ sym (next_ended lines threads k c.loop-place-test.true) ∙ c.loop-place.invariant

pub loop-place-preserved : goal.loop-place-preserved
loop-place-preserved c =
    let k = c.loop-place.place in
    let lines = c.args.lines.now in
    let threads = c.args.threads.now in
    let at = ap (λ ls. ended_by ls c.get.result) c.as_slice.ensures ∙ ended_at lines threads k c.index-lines-place.result c.get.result c.index-lines-place.is c.loop-place-test.true c.get.ensures.lookup.0 c.get.ensures.lookup.1 in
    ap (λ b. b && have_ended (drop (k + 1) lines) (drop (k + 1) threads)) (sym c.if-not-has_ended.false ∙ c.has_ended.ensures ∙ at)
    ∙ sym (next_ended lines threads k c.loop-place-test.true) ∙ c.loop-place.invariant
