use Rattle.queries.proofs.Told.{bodies-listed, bodies-room}
use Rattle.queries.proofs.bodies.bodies_do.Goals as goal

pub list_all-requires-clause-spare : goal.list_all-requires-clause-spare
list_all-requires-clause-spare g c = bodies-room c.args.store.now.state.map c.requires.sound _ _ c.roots-walk.ensures c.requires.spare

pub returns : goal.returns
returns g c = bodies-listed c.args.store.now.state.map c.requires.sound _ _ c.roots-walk.ensures c.list_all.ensures
