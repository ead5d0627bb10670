use Rattle.std.proofs.Common.{sym, ◌∙◌}
use Rattle.pk_base.proofs.Same.{differs_means, same_means}
use Rattle.euler_laws.proofs.KevRead.{end-fin, end-loop, mate-linked}
use Rattle.euler_laws.proofs.reading.end_left.Goals as goal

pub ring_next-next-requires : goal.ring_next-next-requires
ring_next-next-requires g c =
    let p = c.in-Ok.placed in
    mate-linked c.args.store.now.state.map c.requires.sound c.args.fin c.requires.goes p.mate p.edge p.vertex p.loop_ p.face p.shell p.body c.in-Ok.ensures.found c.in-Ok.ensures.ring

pub returns-then-eq : goal.returns-then-eq
returns-then-eq g c =
    let p = c.in-Ok.placed in
    sym (end-loop c.args.store.now.state.map c.requires.sound c.args.fin c.requires.goes p.mate p.edge p.vertex p.loop_ p.face p.shell p.body c.in-Ok.ensures.found c.in-Ok.ensures.ring
    c.ring_next-next.result c.ring_next-next.ensures (same_means c.ring_next-next.result c.args.fin (sym c.eq.ensures ∙ c.if-eq.true)))

pub returns-else-eq : goal.returns-else-eq
returns-else-eq g c =
    let p = c.in-Ok.placed in
    sym (end-fin c.args.store.now.state.map c.requires.sound c.args.fin c.requires.goes p.mate p.edge p.vertex p.loop_ p.face p.shell p.body c.in-Ok.ensures.found c.in-Ok.ensures.ring
    c.ring_next-next.result c.ring_next-next.ensures (differs_means c.ring_next-next.result c.args.fin (sym c.eq.ensures ∙ c.if-eq.false)))
