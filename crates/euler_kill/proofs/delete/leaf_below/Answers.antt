use Rattle.std.proofs.Common.{suc}
use Rattle.euler_kill.proofs.OwnersBelow.{below-then, part-lower}
use Rattle.euler_kill.proofs.delete.leaf_below.Goals as goal

pub loop-kid-smaller : goal.loop-kid-smaller
loop-kid-smaller g c =
    let n = c.args.store.now.state.map in
    (part-lower c.requires.of.0 n c.requires.of.1 c.requires.of.2 c.loop-kid.here c.in-Some.kid c.loop-kid.invariant.0 c.in-Some.ensures.some).0

pub loop-kid-preserved : goal.loop-kid-preserved
loop-kid-preserved g c =
    let n = c.args.store.now.state.map in
    let below = c.loop-kid.invariant.1 in (
      (part-lower c.requires.of.0 n c.requires.of.1 c.requires.of.2 c.loop-kid.here c.in-Some.kid c.loop-kid.invariant.0 c.in-Some.ensures.some).1,
      (suc below.0, below-then n below.0 c.args.tag c.loop-kid.here c.in-Some.kid below.1 c.in-Some.ensures.some),
    )
