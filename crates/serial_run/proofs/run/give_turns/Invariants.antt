use Rattle.std.proofs.Common.{◌≡◌, drop}
use Rattle.serial_run.specs.Serial.{turns}
use Rattle.serial_run.specs.Reached.{IsReached}
use Rattle.serial_run.specs.Orders.{run_state}
use Rattle.serial_run.proofs.run.give_turns.Given as goal

abbrev pub invariant-loop-thread : goal.invariant-loop-thread
invariant-loop-thread g l =
    (IsReached g.K.Meaning.modelling l.script (run_state l.world l.threads.items))
    × (turns g.K.Meaning.modelling l.script.threads (run_state l.world l.threads.items) (drop l.thread-index l.script.schedule) ≡ turns g.K.Meaning.modelling l.script.threads (run_state l.initial.world l.initial.threads.items) l.script.schedule)
