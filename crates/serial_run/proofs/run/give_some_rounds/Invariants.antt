use Rattle.std.proofs.Common.{◌≡◌, ◌-◌}
use Rattle.serial_run.specs.Serial.{rounds}
use Rattle.serial_run.specs.Reached.{IsReached}
use Rattle.serial_run.specs.Orders.{run_state}
use Rattle.serial_run.proofs.run.give_some_rounds.Given as goal

abbrev pub invariant-loop : goal.invariant-loop
invariant-loop g l =
    (IsReached g.K.Meaning.modelling l.script (run_state l.world l.threads.items))
    × (rounds g.K.Meaning.modelling l.script.threads (run_state l.world l.threads.items) (l.count - l.counter) ≡ rounds g.K.Meaning.modelling l.script.threads (run_state l.initial.world l.initial.threads.items) l.count)
