use Rattle.std.proofs.Common.{arith}
use Rattle.solid_calls.proofs.Sizes.{few-attributes}
use Rattle.attributes.proofs.Walked.{count-walked}
use Rattle.attributes.proofs.reads.count_attributes.Goals as goal

pub loop-entity-init : goal.loop-entity-init
loop-entity-init g c = omega (arith, count-walked c.args.store.now.state.map c.args.owner c.kids-kids.result c.kids-kids.ensures)

pub overflow_add-count : goal.overflow_add-count
overflow_add-count g c =
    let few = few-attributes c.args.store.now.state c.blocks-blocks.ensures.ascending c.blocks-blocks.ensures.range c.blocks-blocks.ensures.hosted c.args.owner in
    omega (arith, few, c.loop-entity.invariant)
