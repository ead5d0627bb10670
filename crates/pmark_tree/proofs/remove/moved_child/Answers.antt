use Rattle.pmark_tree.proofs.Moves.{follows_parent}
use Rattle.pmark_tree.proofs.remove.moved_child.Goals as goal

pub compose-requires : goal.compose-requires
compose-requires g c = follows_parent c.args.rows.now c.args.at c.args.child c.index-rows-at.result c.index-rows-child.result c.requires.tree c.requires.child
