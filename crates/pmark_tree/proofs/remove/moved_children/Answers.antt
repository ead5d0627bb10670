use Rattle.std.proofs.Common.{rules}
use Rattle.pmark_tree.specs.Removal.{rows_in}
use Rattle.pmark_tree.proofs.Moves.{next_child, all_moved, next_children, next_deltas}
use Rattle.pmark_tree.proofs.Costs.{steps_of-push, done_within, next_within}
use Rattle.pmark_tree.proofs.remove.moved_children.Goals as goal

pub moved_child-requires-clause-child : goal.moved_child-requires-clause-child
moved_child-requires-clause-child g c =
    next_child c.args.rows.now c.args.links.now.owners c.args.at c.in-Some.child (rows_in c.loop-child.moved.items) c.loop-child.child-iterator c.next.new.self c.requires.linked c.loop-child.invariant.children c.in-Some.ensures.steps

pub returns-clause-moved : goal.returns-clause-moved
returns-clause-moved g c =
    all_moved c.args.rows.now c.args.links.now.owners c.args.at c.loop-child.moved.items c.loop-child.child-iterator c.requires.linked c.loop-child.invariant.children (c.in-None.ensures.steps).0 c.loop-child.invariant.deltas

pub loop-child-preserved : goal.loop-child-preserved
loop-child-preserved g c =
    let ks = c.args.rows.now in
    let at = c.args.at in
    let m = c.in_ok-moved_child.field-0 in
    let moved = c.loop-child.moved.items in
    let new = c.push.new.self.items in
    record {
      can_next = search rules;
      is_finite = search rules;
      children = next_children c.args.links.now.owners at moved new m c.in-Some.child c.loop-child.child-iterator c.next.new.self c.loop-child.invariant.children c.in-Some.ensures.steps c.in_ok-push.ensures.items c.in_ok-moved_child.ensures.row;
      deltas = next_deltas ks at moved new m c.loop-child.invariant.deltas c.in_ok-moved_child.ensures.moved c.in_ok-push.ensures.items;
      cost = steps_of-push ks at moved new m c.in-Some.child c.args.steps.now c.loop-child.steps c.moved_child.new.steps c.in_ok-push.ensures.items c.in_ok-moved_child.ensures.row c.loop-child.invariant.cost c.moved_child.ensures.cost;
    }

pub returns-clause-cost : goal.returns-clause-cost
returns-clause-cost g c =
    done_within c.args.rows.now c.args.links.now.owners c.args.at (rows_in c.loop-child.moved.items) c.loop-child.child-iterator c.args.steps.now c.loop-child.steps c.requires.tree c.requires.linked c.loop-child.invariant.children c.loop-child.invariant.cost

pub returns-in_err-moved_child-clause-cost : goal.returns-in_err-moved_child-clause-cost
returns-in_err-moved_child-clause-cost g c =
    next_within c.args.rows.now c.args.links.now.owners c.args.at c.in-Some.child (rows_in c.loop-child.moved.items) c.loop-child.child-iterator c.next.new.self c.args.steps.now c.loop-child.steps c.moved_child.new.steps c.requires.tree c.requires.linked c.loop-child.invariant.children c.in-Some.ensures.steps c.loop-child.invariant.cost c.moved_child.ensures.cost

pub returns-in_err-push-clause-cost : goal.returns-in_err-push-clause-cost
returns-in_err-push-clause-cost g c =
    next_within c.args.rows.now c.args.links.now.owners c.args.at c.in-Some.child (rows_in c.loop-child.moved.items) c.loop-child.child-iterator c.next.new.self c.args.steps.now c.loop-child.steps c.moved_child.new.steps c.requires.tree c.requires.linked c.loop-child.invariant.children c.in-Some.ensures.steps c.loop-child.invariant.cost c.moved_child.ensures.cost
