use Rattle.std.proofs.Common.{◌≡◌, drop}
use Rattle.serial_run.specs.Orders.{have_ended}
use Rattle.serial_run.proofs.run.have_ended.Given as goal

abbrev pub invariant-loop-place : goal.invariant-loop-place
invariant-loop-place l = have_ended (drop l.place l.lines) (drop l.place l.threads) ≡ have_ended l.lines l.threads
