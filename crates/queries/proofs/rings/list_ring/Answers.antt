use Rattle.std.proofs.Common.{arith}
use Rattle.halfedge.proofs.RingFins.{in-ring_next}
use Rattle.halfedge.proofs.Walks.{other-tags, same-tags, walk-less, walk-live}
use Rattle.queries.proofs.LoopFins.{listed-all, listed-first, listed-on, ring-some}
use Rattle.queries.proofs.rings.list_ring.Goals as goal

pub push-requires : goal.push-requires
push-requires g c = let fits = c.requires.spare in omega (arith, fits, ring-some c.args.store.now.state.map c.args.first c.requires.ring)

pub ring_next-here-requires : goal.ring_next-here-requires
ring_next-here-requires g c = in-ring_next c.args.store.now.state.map c.args.first c.requires.ring

pub loop-first-init : goal.loop-first-init
loop-first-init g c =
    listed-first c.args.store.now.state.map c.args.first c.requires.ring c.ring_next-here.result _ _ _ _ c.ring_next-here.ensures c.requires.empty c.push.ensures.items c.push.ensures.spare c.requires.spare

pub ring_next-here-requires-in-loop-first : goal.ring_next-here-requires-in-loop-first
ring_next-here-requires-in-loop-first g c = walk-live c.args.store.now.state.map c.args.first c.requires.ring c.loop-first.here c.loop-first.invariant.walked

pub loop-first-smaller : goal.loop-first-smaller
loop-first-smaller g c =
    walk-less c.args.store.now.state.map c.args.first c.requires.ring c.loop-first.here c.ring_next-here-in-loop-first.result c.loop-first.invariant.walked
    (other-tags c.loop-first.here c.args.first c.ne.result c.ne.ensures c.loop-first-test.true) c.ring_next-here-in-loop-first.ensures

pub loop-first-preserved : goal.loop-first-preserved
loop-first-preserved g c =
    listed-on c.args.store.now.state.map c.args.first c.requires.ring c.loop-first.here c.ring_next-here-in-loop-first.result _ _ c.loop-first.invariant
    (other-tags c.loop-first.here c.args.first c.ne.result c.ne.ensures c.loop-first-test.true) c.ring_next-here-in-loop-first.ensures _ _ c.push-in-loop-first.ensures.items c.push-in-loop-first.ensures.spare

pub returns : goal.returns
returns g c =
    listed-all c.args.store.now.state.map c.args.first c.requires.ring c.loop-first.here _ _ c.loop-first.invariant
    (same-tags c.loop-first.here c.args.first c.ne.result c.ne.ensures c.loop-first-test.false)
