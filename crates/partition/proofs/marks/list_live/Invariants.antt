use Rattle.std.proofs.Common.{◌≡◌, ◌≤◌, ◌+◌, ◌++◌, map, take}
use Rattle.pmark_tree.specs.Marks.{live_tags}
use Rattle.partition.proofs.Named.{row_in}
use Rattle.partition.proofs.marks.list_live.Given as goal

abbrev pub invariant-loop-i : goal.invariant-loop-i
invariant-loop-i l = record {
  items : l.rows.items ≡ l.initial.rows.items ++ map (row_in l.tree.marks) (take l.i (live_tags l.tree.marks));
  spare : l.initial.rows.spare ≤ l.rows.spare + l.i;
}
