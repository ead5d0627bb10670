use Rattle.std.proofs.Common.{◌∙◌, ap}
use Rattle.script_runner.specs.Statuses.{number_of_status}
use Rattle.session_script.proofs.run.Goals as goal
use Rattle.session_script.proofs.run.Goals.{in-Ok, in-Err}

pub returns-clause-run : goal.returns-clause-run
returns-clause-run g c =
    elim c.match-words.branch [
      | in-Ok w ↦
          let ran = w.run_serial.ensures in
          let number = c.exit_code.ensures ∙ ap number_of_status w.status-is in
          rw (w.in-Ok.is, w.source-is, w.sink-is) (
            w.run_serial.result,
            number,
            record {
              read = ran.read;
              report = ran.report;
              serial = ran.serial;
              written = ran.written;
              cause = rw (← w.as_slice.ensures.value) ran.cause;
            },
          )
      | in-Err w ↦ rw w.in-Err.is tt
    ]
