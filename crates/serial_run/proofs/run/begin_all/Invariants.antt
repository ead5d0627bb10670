use Rattle.std.proofs.Common.{◌≡◌, replicate}
use Rattle.script_thread.specs.Thread.{fresh_thread}
use Rattle.serial_run.proofs.run.begin_all.Given as goal

abbrev pub invariant-loop : goal.invariant-loop
invariant-loop l = l.all.items ≡ replicate l.counter fresh_thread
