use Rattle.std.proofs.Common.{sym, ◌∙◌}
use Rattle.pk_base.proofs.Same.{differs_means, same_means}
use Rattle.euler_laws.proofs.Read.{between-none, between-some, fin-linked}
use Rattle.euler_laws.proofs.reading.first_between.Goals as goal

pub ring_next-next-requires : goal.ring_next-next-requires
ring_next-next-requires g c = fin-linked c.args.store.now.state.map c.args.fin _ _ _ _ _ _ _ c.in-Ok.ensures.found c.in-Ok.ensures.ring

pub returns-then-eq : goal.returns-then-eq
returns-then-eq g c = between-none c.args.store.now.state.map c.args.fin _ _ _ _ _ _ _ c.in-Ok.ensures.found c.in-Ok.ensures.ring c.requires.sound c.requires.goes
    c.ring_next-next.result c.ring_next-next.ensures (same_means c.ring_next-next.result c.in-Ok.placed.mate (sym c.eq.ensures ∙ c.if-eq.true))

pub returns-else-eq : goal.returns-else-eq
returns-else-eq g c = between-some c.args.store.now.state.map c.args.fin _ _ _ _ _ _ _ c.in-Ok.ensures.found c.in-Ok.ensures.ring c.requires.sound c.requires.goes
    c.ring_next-next.result c.ring_next-next.ensures (differs_means c.ring_next-next.result c.in-Ok.placed.mate (sym c.eq.ensures ∙ c.if-eq.false))
