use Rattle.std.proofs.Common.{◌≡◌, ◌+◌, drop}
use Rattle.partition.specs.Goes.{entries_in}
use Rattle.partition.proofs.goes.add_entries.Given as goal

abbrev pub invariant-loop-mark : goal.invariant-loop-mark
invariant-loop-mark l = l.entries + entries_in l.tree.marks (drop l.mark-index l.marks) ≡ l.start + entries_in l.tree.marks l.marks
