use Rattle.std.proofs.Common.{◌≡◌, ◌+◌, ◌-◌, ◌*◌, ◌≤◌, ◌++◌, drop, length}
use Rattle.delta.specs.Composed.{composed}
use Rattle.delta.proofs.changes.Delta.compose_within.Given as goal

abbrev pub invariant-loop-taken : goal.invariant-loop-taken
invariant-loop-taken g l = record {
  items : l.out.items ++ composed (drop l.taken.first l.fn.a) (drop l.taken.second l.fn.b) ≡ composed l.fn.a l.fn.b;
  most : l.most ≡ length l.fn.a + length l.fn.b;
  first : l.taken.first ≤ length l.fn.a;
  second : l.taken.second ≤ length l.fn.b;
  room : length l.fn.a + length l.fn.b ≤ l.out.spare + (l.taken.first + l.taken.second);
  cost : l.steps ≤ l.fn.steps + 2 * (l.taken.first + l.taken.second);
}

abbrev pub decreases-loop-taken : goal.decreases-loop-taken
decreases-loop-taken g l = length l.fn.a + length l.fn.b - (l.taken.first + l.taken.second)
