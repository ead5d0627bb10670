use Rattle.euler_laws.proofs.Read.{mate-read}
use Rattle.euler_laws.proofs.reading.mate_of.Goals as goal

pub returns : goal.returns
returns g c = mate-read c.args.store.now.state.map c.args.fin _ _ _ _ _ _ _ c.in-Ok.ensures.found c.in-Ok.ensures.ring
