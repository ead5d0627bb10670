use Rattle.std.proofs.Common.{sym, ap, subst, ◌∙◌}
use Rattle.std.specs.Prelude.{IsSome}
use Rattle.entity_store.specs.Store.{StoreView}
use Rattle.halfedge.specs.LinkedRings.{next_at}
use Rattle.halfedge.proofs.RingFins.{in-ring_next, in-ring_after}
use Rattle.halfedge.proofs.links.unhook.Goals as goal

pub ring_next-next-requires : goal.ring_next-next-requires
ring_next-next-requires g c = subst (λ (s : StoreView). IsSome (next_at s.state.map c.args.f)) (sym c.view.ensures) (in-ring_next c.args.rec.now.store.now.state.map c.args.f c.requires.f)

pub splice-requires-clause-g : goal.splice-requires-clause-g
splice-requires-clause-g g c =
    in-ring_after c.args.rec.now.store.now.state.map c.args.f c.ring_next-next.result c.requires.f
    (ap (λ (s : StoreView). next_at s.state.map c.args.f) (sym c.view.ensures) ∙ c.ring_next-next.ensures)
