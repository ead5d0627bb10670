use Rattle.std.proofs.Common.{◌≡◌, ◌+◌, ◌++◌, ◌≤◌, length, vec_len, vec_capacity}
use Rattle.std.specs.Map.{values_of}
use Rattle.partition.proofs.unsaved.list.Given as goal

abbrev pub invariant-loop-change : goal.invariant-loop-change
invariant-loop-change l = record {
  can_next : (goal.iterator-loop-change).can_next l.change-iterator;
  is_finite : (goal.iterator-loop-change).is_finite l.change-iterator;
  items : l.out.items ++ l.change-iterator ≡ values_of l.fn.changes.entries;
  room : vec_len l.out + length l.change-iterator ≤ vec_capacity l.out;
}
