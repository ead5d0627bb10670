use Rattle.std.proofs.Common.{ap, arith}
use Rattle.pk_base.specs.declared.tag.Tag.{Tag}
use Rattle.pmark_tree.proofs.Linked.{few_rows}
use Rattle.pmark_tree.proofs.find.slot_in.Goals as goal

pub slot_of-requires : goal.slot_of-requires
slot_of-requires c =
    let few = few_rows c.args.rows.now c.in-Some.row c.requires.ascend c.in-Some.ensures.within in
    let tag = ap (λ (u : Tag). u.0) c.in-Some.ensures.tag in
    omega (arith, few, tag)
