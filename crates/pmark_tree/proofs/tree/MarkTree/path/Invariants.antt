use Rattle.std.proofs.Common.{◌+◌}
use Rattle.pmark_tree.specs.Walks.{IsWalk}
use Rattle.pmark_tree.proofs.tree.MarkTree.path.Given as goal

abbrev pub invariant-loop-walk : goal.invariant-loop-walk
invariant-loop-walk l = IsWalk l.self-inside.rows.items l.fn.from l.fn.to l.walk.from l.walk.to l.walk.up.items l.walk.down.items

abbrev pub decreases-loop-walk : goal.decreases-loop-walk
decreases-loop-walk l = l.walk.from.0 + l.walk.to.0
