use Rattle.euler_laws.proofs.Read.{after-read, fin-linked}
use Rattle.euler_laws.proofs.reading.fin_after.Goals as goal

pub ring_next-requires : goal.ring_next-requires
ring_next-requires g c = fin-linked c.args.store.now.state.map c.args.fin _ _ _ _ _ _ _ c.in-Ok.ensures.found c.in-Ok.ensures.ring

pub returns : goal.returns
returns g c = after-read c.args.store.now.state.map c.args.fin _ _ _ _ _ _ _ c.in-Ok.ensures.found c.in-Ok.ensures.ring c.ring_next.result c.ring_next.ensures
