-- A ring has no more fins than a store has tags.
use Rattle.std.proofs.Common.{arith}
use Rattle.halfedge.specs.LinkedRings.{ring_at}
use Rattle.solid_calls.proofs.Sizes.{few-ring}
use Rattle.euler_make.proofs.mef.mef_need.Goals as goal

pub overflow_add-result : goal.overflow_add-result
overflow_add-result g c =
    let s = c.args.store.now.state in
    let few = few-ring s c.blocks-blocks.ensures.ascending c.blocks-blocks.ensures.range c.blocks-blocks.ensures.hosted (ring_at s.map c.args.from) c.in_ok-u.ensures.ring.ring in
    let is = c.ring_len.ensures in
    omega (arith, few, is)
