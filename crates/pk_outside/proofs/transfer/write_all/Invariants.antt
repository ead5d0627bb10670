use Rattle.std.proofs.Common.{◌≡◌, ◌+◌, ◌≤◌, ◌-◌, length, take}
use Rattle.pk_outside.specs.Outside.{Grows}
use Rattle.pk_outside.proofs.transfer.write_all.Given as goal

abbrev pub invariant-loop-done : goal.invariant-loop-done
invariant-loop-done g l = record {
  within : l.done ≤ length l.bytes;
  grown : Grows (g.K.Sink.held l.initial.sink) (g.K.Sink.held l.sink) (take l.done l.bytes);
  calls : g.K.Sink.calls l.sink ≤ g.K.Sink.calls l.initial.sink + l.done;
  unfailed : g.K.Sink.faults l.sink ≡ g.K.Sink.faults l.initial.sink;
}

abbrev pub decreases-loop-done : goal.decreases-loop-done
decreases-loop-done g l = length l.bytes - l.done
