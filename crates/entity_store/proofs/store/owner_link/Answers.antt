use Rattle.std.proofs.Common.{arith}
use Rattle.entity_store.proofs.FewBlocks.{few_blocks}
use Rattle.entity_store.proofs.store.owner_link.Goals as goal

pub slot_of-requires-clause-fits : goal.slot_of-requires-clause-fits
slot_of-requires-clause-fits c = omega (arith, few_blocks c.args.blocks.now c.requires.ascending c.requires.range)

pub link_of-requires : goal.link_of-requires
link_of-requires c =
    let within = rw c.unwrap.ensures at c.slot_of.ensures.within in
    omega (arith, few_blocks c.args.blocks.now c.requires.ascending c.requires.range, within)
