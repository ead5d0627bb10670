use Rattle.solid_model.specs.Shapes.{shape_of}
use Rattle.euler_laws.proofs.OneLoop.{face-found}
use Rattle.euler_laws.proofs.reading.face_of.Goals as goal

pub returns : goal.returns
returns g c =
    let p = c.in-Ok.placed in
    face-found (shape_of c.args.store.now.state.map) c.args.ring (record { face = p.face; outer = p.outer; shell = p.shell; body = p.body }) c.in-Ok.ensures.found
