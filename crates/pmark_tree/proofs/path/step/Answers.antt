use Rattle.std.proofs.Common.{sym, subst, arith}
use Rattle.pmark_tree.specs.Walks.{IsWalk}
use Rattle.pmark_tree.proofs.Lines.{newer_has_parent, less_from, walk-up, walk-down}
use Rattle.pmark_tree.proofs.path.step.Goals as goal

pub parent_of-walk-requires-clause-child : goal.parent_of-walk-requires-clause-child
parent_of-walk-requires-clause-child c = newer_has_parent c.args.rows.now c.requires.tree c.args.walk.now.from c.args.walk.now.to c.requires.from c.requires.to c.if-walk.true

pub parent_of-walk-requires-else-walk-clause-child : goal.parent_of-walk-requires-else-walk-clause-child
parent_of-walk-requires-else-walk-clause-child c =
    newer_has_parent c.args.rows.now c.requires.tree c.args.walk.now.to c.args.walk.now.from c.requires.to c.requires.from (less_from c.args.walk.now.from.0 c.args.walk.now.to.0 c.if-walk.false c.requires.apart)

pub returns-in_ok-push-clause-walk : goal.returns-in_ok-push-clause-walk
returns-in_ok-push-clause-walk c s e w =
    let ks = c.args.rows.now in
    let walk = c.args.walk.now in
    let p = c.parent_of-walk.result in
    subst (λ l. IsWalk ks s e p walk.to l walk.down.items) (sym c.in_ok-push.ensures.items) (walk-up ks c.requires.tree s e walk.from walk.to p walk.up.items walk.down.items w c.if-walk.true c.parent_of-walk.ensures)

pub returns-in_ok-push-clause-closer : goal.returns-in_ok-push-clause-closer
returns-in_ok-push-clause-closer c =
    let older = (c.requires.tree.edges c.parent_of-walk.result c.args.walk.now.from c.parent_of-walk.ensures).older in
    omega (arith, older)

pub returns-in_ok-push-2-clause-walk : goal.returns-in_ok-push-2-clause-walk
returns-in_ok-push-2-clause-walk c s e w =
    let ks = c.args.rows.now in
    let walk = c.args.walk.now in
    let p = c.parent_of-walk-else-walk.result in
    subst (λ l. IsWalk ks s e walk.from p walk.up.items l) (sym c.in_ok-push-2.ensures.items) (walk-down ks c.requires.tree s e walk.from walk.to p walk.up.items walk.down.items w (less_from walk.from.0 walk.to.0 c.if-walk.false c.requires.apart) c.parent_of-walk-else-walk.ensures)

pub returns-in_ok-push-2-clause-closer : goal.returns-in_ok-push-2-clause-closer
returns-in_ok-push-2-clause-closer c =
    let older = (c.requires.tree.edges c.parent_of-walk-else-walk.result c.args.walk.now.to c.parent_of-walk-else-walk.ensures).older in
    omega (arith, older)
