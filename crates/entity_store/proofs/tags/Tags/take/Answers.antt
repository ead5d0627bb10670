use Rattle.std.proofs.Common.{arith}
use Rattle.entity_store.proofs.FewBlocks.{few_blocks}
use Rattle.entity_store.proofs.tags.Tags.take.Goals as goal

pub overflow_add-self : goal.overflow_add-self
overflow_add-self c =
    omega (arith, few_blocks c.self.inside.blocks.now c.self.invariant.ascending c.self.invariant.range, c.self.invariant.within)
