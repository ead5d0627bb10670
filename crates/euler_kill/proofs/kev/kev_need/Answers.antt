use Rattle.std.proofs.Common.{length, sym, ap, ◌∙◌}
use Rattle.halfedge.specs.LinkedRings.{ring_at}
use Rattle.euler_kill.proofs.KevFound.{has-next, kev-needs, kev-not_strut}
use Rattle.solid_edits.specs.Deaths.{with_attributes}
use Rattle.euler_kill.proofs.kev.kev_need.Goals as goal

pub ring_next-requires : goal.ring_next-requires
ring_next-requires g c =
    let m = c.args.store.now.state.map in
    let ring = c.in_ok-placed.ensures.ring in
    has-next m (ring_at m c.args.fin) c.args.fin ring.ring ring.among

pub returns-then-ne : goal.returns-then-ne
returns-then-ne g c =
    kev-not_strut c.args.store.now.state.map c.requires c.args.fin c.in_ok-placed.placed c.in_ok-mate.mate c.in_ok-placed.ensures.found c.in_ok-mate.ensures.found c.in_ok-placed.ensures.ring
    c.ring_next.result c.ring_next.ensures (sym c.ne.ensures ∙ c.if-ne.true)

pub returns : goal.returns
returns g c =
    let m = c.args.store.now.state.map in
    let is = c.as_slice.ensures ∙ c.strut_of.ensures in
    kev-needs m c.requires c.args.fin c.in_ok-placed.placed c.in_ok-mate.mate c.in_ok-placed.ensures.found c.in_ok-mate.ensures.found c.in_ok-placed.ensures.ring
    c.ring_next.result c.ring_next.ensures (sym c.ne.ensures ∙ c.if-ne.false) c.count_dead-dead.result (c.count_dead-dead.ensures.dead ∙ ap (λ ts. length (with_attributes m ts)) is)
