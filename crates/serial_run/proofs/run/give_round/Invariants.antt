use Rattle.std.proofs.Common.{◌≡◌, ◌+◌, ◌-◌, length}
use Rattle.std.specs.List.{range_with_len}
use Rattle.serial_run.specs.Serial.{turns}
use Rattle.serial_run.specs.Reached.{IsReached}
use Rattle.serial_run.specs.Orders.{run_state}
use Rattle.serial_run.proofs.run.give_round.Given as goal

abbrev pub invariant-loop-thread : goal.invariant-loop-thread
invariant-loop-thread g l =
    (IsReached g.K.Meaning.modelling l.script (run_state l.world l.threads.items))
    × (turns g.K.Meaning.modelling l.script.threads (run_state l.world l.threads.items) (range_with_len l.thread (length l.script.threads + 1 - l.thread)) ≡ turns g.K.Meaning.modelling l.script.threads (run_state l.initial.world l.initial.threads.items) (range_with_len 1 (length l.script.threads)))
