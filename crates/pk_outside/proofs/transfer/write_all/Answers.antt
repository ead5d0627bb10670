use Rattle.std.proofs.Common.{◌∙◌, arith}
use Rattle.std.proofs.lemmas.List.{take_rest}
use Rattle.pk_outside.proofs.Transfers.{grows_more}
use Rattle.pk_outside.proofs.transfer.write_all.Goals as goal

pub loop-done-preserved : goal.loop-done-preserved
loop-done-preserved g c = record {
  within = omega (arith, c.in_ok-done.ensures.within);
  grown = grows_more _ _ _ c.args.bytes.now _ _ c.loop-done.invariant.grown (rw (take_rest c.args.bytes.now c.loop-done.done) at c.in_ok-done.ensures.grown);
  calls = grind (arith, c.write.ensures.called, c.in_ok-done.ensures.some, c.loop-done.invariant.calls, c.loop-done-test.true);
  unfailed = c.in_ok-done.ensures.unfailed ∙ c.loop-done.invariant.unfailed;
}
