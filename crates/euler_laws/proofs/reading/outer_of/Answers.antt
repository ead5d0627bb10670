use Rattle.solid_model.specs.Shapes.{shape_of}
use Rattle.euler_laws.proofs.OneLoop.{outer-found}
use Rattle.euler_laws.proofs.reading.outer_of.Goals as goal

pub returns : goal.returns
returns g c =
    let p = c.in-Ok.placed in
    outer-found (shape_of c.args.store.now.state.map) c.args.kill (record { shell = p.shell; body = p.body; outer = p.outer }) c.in-Ok.ensures.found
