use Rattle.std.proofs.Common.{refl, take, arith}
use Rattle.pk_model.specs.Tags.{tags_of, tags_of_block}
use Rattle.script_text.specs.declared.script.Order.TheVariants.{End}
use Rattle.serial_run.specs.Serial.{lines_at}
use Rattle.serial_uses.specs.WorkedRuns.{named_script, line}
use Rattle.serial_uses.proofs.Threads.{is_thread}
use Rattle.serial_uses.proofs.worked.worked_names.Goals as goal

pub returns-clause-well_formed : goal.returns-clause-well_formed
returns-clause-well_formed c = record {
  some_partition = omega arith;
  partitions = omega arith;
  first = omega arith;
  last = omega arith;
  some_thread = omega arith;
  threads = omega arith;
  each = (is_thread (take 9 (lines_at named_script.threads 1)) (line 12 End) refl refl, tt);
}

pub returns-clause-report : goal.returns-clause-report
unfolding tags_of tags_of_block
returns-clause-report c = refl
