use Rattle.serial_run.specs.Serial.{run_begins, turns}
use Rattle.serial_run.proofs.Owned.{begins_running, turns_running}
use Rattle.serial_run.proofs.Ends.{some_goes_on}
use Rattle.serial_run.proofs.laws.some_thread_goes_on.Goals as goal

pub returns : goal.returns
returns g c script ts t s formed is unfinished =
    let K = g.K.Meaning.modelling in
    let r = turns K script.threads (run_begins script) ts in
    some_goes_on K script r t s (turns_running K script (run_begins script) ts c.requires formed (begins_running K script c.requires formed)) is unfinished
