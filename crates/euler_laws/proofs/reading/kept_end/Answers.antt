use Rattle.std.proofs.Common.{sym, ◌∙◌}
use Rattle.pk_base.proofs.Same.{differs_means, same_means}
use Rattle.euler_laws.proofs.Read.{kept-fin, kept-loop, mate-linked}
use Rattle.euler_laws.proofs.reading.kept_end.Goals as goal

pub ring_next-next-requires : goal.ring_next-next-requires
ring_next-next-requires g c = mate-linked c.args.store.now.state.map c.args.fin _ _ _ _ _ _ _ c.in-Ok.ensures.found c.in-Ok.ensures.ring c.requires.sound c.requires.goes

pub returns-then-eq : goal.returns-then-eq
returns-then-eq g c = sym (kept-loop c.args.store.now.state.map c.args.fin _ _ _ _ _ _ _ c.in-Ok.ensures.found c.in-Ok.ensures.ring c.requires.sound c.requires.goes
    c.ring_next-next.result c.ring_next-next.ensures (same_means c.ring_next-next.result c.args.fin (sym c.eq.ensures ∙ c.if-eq.true)))

pub returns-else-eq : goal.returns-else-eq
returns-else-eq g c = sym (kept-fin c.args.store.now.state.map c.args.fin _ _ _ _ _ _ _ c.in-Ok.ensures.found c.in-Ok.ensures.ring c.requires.sound c.requires.goes
    c.ring_next-next.result c.ring_next-next.ensures (differs_means c.ring_next-next.result c.args.fin (sym c.eq.ensures ∙ c.if-eq.false)))
