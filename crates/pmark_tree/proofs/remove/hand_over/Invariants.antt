use Rattle.std.proofs.Common.{◌≡◌, ◌<◌, length}
use Rattle.std.specs.List.{AllByRecursion}
use Rattle.pmark_tree.specs.Removal.{handed_over, owned_by, rows_in, MayMove}
use Rattle.pmark_tree.proofs.remove.hand_over.Given as goal

abbrev pub invariant-loop-child : goal.invariant-loop-child
invariant-loop-child l = record {
  rows : handed_over l.parent l.moved.items l.rows.items ≡ handed_over l.parent l.fn.moved.items l.fn.rows.items;
  owners : owned_by l.owner (rows_in l.moved.items) l.links.owners ≡ owned_by l.owner (rows_in l.fn.moved.items) l.fn.links.owners;
  may : AllByRecursion (MayMove (length l.rows.items) l.owner l.links.owners) (rows_in l.moved.items);
  within : l.owner < length l.links.owners;
}

abbrev pub decreases-loop-child : goal.decreases-loop-child
decreases-loop-child l = length l.moved.items
