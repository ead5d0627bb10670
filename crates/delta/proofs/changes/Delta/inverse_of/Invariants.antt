use Rattle.std.proofs.Common.{◌≡◌, ◌+◌, ◌≤◌, length, take}
use Rattle.delta.specs.Deltas.{inverse}
use Rattle.delta.proofs.changes.Delta.inverse_of.Given as goal

abbrev pub invariant-loop-i : goal.invariant-loop-i
invariant-loop-i g l = record {
  items : l.out.items ≡ inverse (take l.i l.fn.a);
  room : length l.fn.a ≤ l.out.spare + l.i;
  cost : l.steps ≤ l.fn.steps + l.i;
}
