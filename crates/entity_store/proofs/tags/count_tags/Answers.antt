use Rattle.std.proofs.Common.{◌*◌, length, Fits, w64, sym, subst, arith}
use Rattle.entity_store.proofs.FewBlocks.{few_blocks}
use Rattle.entity_store.proofs.tags.count_tags.Goals as goal

pub overflow_mul-result : goal.overflow_mul-result
overflow_mul-result c =
    let few = few_blocks c.args.blocks.now c.requires.ascending c.requires.range in
    subst (λ n. Fits w64 (n * length c.args.blocks.now)) (sym c.from.ensures) (omega (arith, few))
