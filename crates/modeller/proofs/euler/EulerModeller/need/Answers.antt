use Rattle.std.proofs.Common.{sym, subst}
use Rattle.pk_base.specs.declared.call.Call.{Call}
use Rattle.solid_calls.specs.Pairs.{NeedsAsRow}
use Rattle.modeller.proofs.Needing.{needs-as-row}
use Rattle.modeller.proofs.euler.EulerModeller.need.Goals as goal

pub returns-in-Block-clause-needs : goal.returns-in-Block-clause-needs
returns-in-Block-clause-needs g c =
    let m = c.args.store.now.state.map in
    needs-as-row m c.args.call.now c.block_need.result
    (subst (λ (call : Call). NeedsAsRow m call c.block_need.result) (sym c.in-Block.is) c.block_need.ensures)
