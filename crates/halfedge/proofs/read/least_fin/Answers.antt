use Rattle.std.proofs.Common.{sym, ap, subst, ◌∙◌}
use Rattle.entity_store.specs.Store.{StoreView}
use Rattle.solid_model.specs.Rings.{first_tag, from_least}
use Rattle.halfedge.specs.LinkedRings.{IsInRing, ring_at}
use Rattle.halfedge.proofs.RingFins.{in-ring_next}
use Rattle.halfedge.proofs.Walks.{Least, same-tags, other-tags, walk-live, walk-less, least-first, least-on, least-all, lesser-below, lesser-not_below}
use Rattle.halfedge.proofs.read.least_fin.Goals as goal
use Rattle.halfedge.proofs.read.least_fin.Goals.{then-here-least, else-here-least}

pub ring_next-here-requires : goal.ring_next-here-requires
ring_next-here-requires g c =
    let h = subst (λ (s : StoreView). IsInRing s.state.map c.args.fin) (sym c.view-store.ensures) c.requires in
    let m = c.view-store.result.now.state.map in
    in-ring_next m c.args.fin h

pub loop-store-init : goal.loop-store-init
loop-store-init g c =
    let h = subst (λ (s : StoreView). IsInRing s.state.map c.args.fin) (sym c.view-store.ensures) c.requires in
    let m = c.view-store.result.now.state.map in
    least-first m c.args.fin h c.ring_next-here.result c.ring_next-here.ensures

pub ring_next-here-requires-in-loop-store : goal.ring_next-here-requires-in-loop-store
ring_next-here-requires-in-loop-store g c =
    let h = subst (λ (s : StoreView). IsInRing s.state.map c.args.fin) (sym c.view-store.ensures) c.requires in
    let m = c.view-store.result.now.state.map in
    walk-live m c.args.fin h c.loop-store.here c.loop-store.invariant.walked

pub loop-store-smaller : goal.loop-store-smaller
loop-store-smaller g c =
    let h = subst (λ (s : StoreView). IsInRing s.state.map c.args.fin) (sym c.view-store.ensures) c.requires in
    let m = c.view-store.result.now.state.map in
    walk-less m c.args.fin h c.loop-store.here c.ring_next-here-in-loop-store.result c.loop-store.invariant.walked
    (other-tags c.loop-store.here c.args.fin c.ne.result c.ne.ensures c.loop-store-test.true) c.ring_next-here-in-loop-store.ensures

pub loop-store-preserved : goal.loop-store-preserved
loop-store-preserved g c =
    let h = subst (λ (s : StoreView). IsInRing s.state.map c.args.fin) (sym c.view-store.ensures) c.requires in
    let m = c.view-store.result.now.state.map in
    let f = c.args.fin in
    let here = c.loop-store.here in
    let next = c.ring_next-here-in-loop-store.result in
    let low = c.loop-store.least in
    let on = least-on m f h here next low c.loop-store.invariant (other-tags here f c.ne.result c.ne.ensures c.loop-store-test.true) c.ring_next-here-in-loop-store.ensures in
    elim c.if-here-least.branch [
      | then-here-least w ↦ subst (Least m f next) (lesser-below low here w.if-here-least.true ∙ sym w.least-is) on
      | else-here-least w ↦ subst (Least m f next) (lesser-not_below low here w.if-here-least.false ∙ sym w.least-is) on
    ]

pub returns : goal.returns
returns g c =
    let h = subst (λ (s : StoreView). IsInRing s.state.map c.args.fin) (sym c.view-store.ensures) c.requires in
    let m = c.view-store.result.now.state.map in
    ap (λ (s : StoreView). first_tag (from_least (ring_at s.state.map c.args.fin))) (sym c.view-store.ensures)
    ∙ least-all m c.args.fin h c.loop-store.here c.loop-store.least c.loop-store.invariant (same-tags c.loop-store.here c.args.fin c.ne.result c.ne.ensures c.loop-store-test.false)
