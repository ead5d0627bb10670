use Rattle.script_runner.proofs.WellFormed.{well_formed}
use Rattle.script_runner.proofs.run.report_of.Goals as goal

pub run_by_turns-requires-after_bounds : goal.run_by_turns-requires-after_bounds
run_by_turns-requires-after_bounds c κs = well_formed c.args.bytes.now c.in_ok-script.script c.in_ok-script.ensures.script
