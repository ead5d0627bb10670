use Rattle.std.proofs.Common.{◌≡◌, drop}
use Rattle.serial_run.specs.Serial.{line_count, rounds}
use Rattle.serial_run.specs.Reached.{IsReached}
use Rattle.serial_run.specs.Orders.{run_state}
use Rattle.serial_run.proofs.run.give_rounds.Given as goal

abbrev pub invariant-loop-lines : goal.invariant-loop-lines
invariant-loop-lines g l =
    (IsReached g.K.Meaning.modelling l.script (run_state l.world l.threads.items))
    × (rounds g.K.Meaning.modelling l.script.threads (run_state l.world l.threads.items) (line_count (drop l.lines-index l.script.threads)) ≡ rounds g.K.Meaning.modelling l.script.threads (run_state l.initial.world l.initial.threads.items) (line_count l.script.threads))
