use Rattle.std.proofs.Common.{◌+◌, ◌≤◌, ◌++◌}
use Rattle.std.specs.List.{AllByRecursion}
use Rattle.owner_links.specs.Links.{AreChildren}
use Rattle.pmark_tree.specs.Removal.{rows_in, steps_of, IsMoved}
use Rattle.pmark_tree.proofs.remove.moved_children.Given as goal

abbrev pub invariant-loop-child : goal.invariant-loop-child
invariant-loop-child g l = record {
  can_next : (goal.iterator-loop-child g).can_next l.child-iterator;
  is_finite : (goal.iterator-loop-child g).is_finite l.child-iterator;
  children : AreChildren l.links.owners l.at (rows_in l.moved.items ++ l.child-iterator);
  deltas : AllByRecursion (IsMoved l.rows l.at) l.moved.items;
  cost : l.steps ≤ l.fn.steps + steps_of l.rows l.at (rows_in l.moved.items);
}
