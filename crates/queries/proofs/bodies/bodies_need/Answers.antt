use Rattle.std.proofs.Common.{None, arith}
use Rattle.queries.proofs.Owned.{few-walked}
use Rattle.queries.proofs.Told.{bodies-need}
use Rattle.queries.proofs.bodies.bodies_need.Goals as goal

pub count_all-list-requires : goal.count_all-list-requires
count_all-list-requires g c =
    let few = few-walked c.args.store.now.state c.blocks-blocks.ensures.ascending c.blocks-blocks.ensures.range c.blocks-blocks.ensures.hosted None c.roots-walk.result c.roots-walk.ensures in
    omega (arith, few)

pub returns : goal.returns
returns g c = bodies-need c.args.store.now.state.map c.requires _ _ c.roots-walk.ensures c.count_all-list.ensures
