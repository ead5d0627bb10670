use Rattle.std.proofs.Common.{ap}
use Rattle.entity_store.specs.Store.{Stored}
use Rattle.entity_store.proofs.FewBlocks.{few_blocks}
use Rattle.partition.proofs.Keeping.{drawn}
use Rattle.partition.proofs.contents.Contents.take_block.Goals as goal

pub invariant_of-self : goal.invariant_of-self
invariant_of-self g c =
    let p = c.self.inside in
    drawn p.store.state.blocks p.blocks.items p.store.state.map p.tree.marks p.unsaved.changes.entries p.at p.used c.self.invariant c.add_reserved.new.self.state.blocks c.push_reserved.new.self.items c.add_reserved.new.self.state.map c.args.b
    (ap (λ (s : Stored). s.blocks) c.add_reserved.ensures.state) c.push_reserved.ensures.items (ap (λ (s : Stored). s.map) c.add_reserved.ensures.state) (few_blocks _ c.blocks-blocks.ensures.ascending c.blocks-blocks.ensures.range)
