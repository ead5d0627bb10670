use Rattle.std.proofs.Common.{arith, ◌≤◌}
use Rattle.world_core.proofs.Beginnings.{numbers_push, opened_push}
use Rattle.world_core.proofs.world.begin_all.Goals as goal

pub loop-p-preserved : goal.loop-p-preserved
loop-p-preserved g c =
    let views = c.loop-p.all.items in
    let p = c.loop-p.p in
    let v = c.in_ok-begin.field-0 in
    let first : 1 ≤ p = omega arith in
    record {
      numbers = rw c.in_ok-push.ensures.items (numbers_push views v p first c.in_ok-begin.ensures c.loop-p.invariant.numbers);
      opened = rw c.in_ok-push.ensures.items (opened_push views v p first c.in_ok-begin.ensures c.loop-p.invariant.opened);
    }
