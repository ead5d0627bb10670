use Rattle.std.proofs.Common.{arith}
use Rattle.halfedge.proofs.RingFins.{in-ring_next}
use Rattle.halfedge.proofs.Walks.{same-tags, other-tags, walk-live, walk-less, counted-first, counted-on, counted-fits, counted-all}
use Rattle.halfedge.proofs.read.ring_len.Goals as goal

pub ring_next-here-requires : goal.ring_next-here-requires
ring_next-here-requires g c = in-ring_next c.args.store.now.state.map c.args.fin c.requires

pub loop-fin-init : goal.loop-fin-init
loop-fin-init g c = counted-first c.args.store.now.state.map c.args.fin c.requires c.ring_next-here.result c.ring_next-here.ensures

pub ring_next-here-requires-in-loop-fin : goal.ring_next-here-requires-in-loop-fin
ring_next-here-requires-in-loop-fin g c = walk-live c.args.store.now.state.map c.args.fin c.requires c.loop-fin.here c.loop-fin.invariant.walked

pub overflow_add-len : goal.overflow_add-len
overflow_add-len g c =
    let other = other-tags c.loop-fin.here c.args.fin c.ne.result c.ne.ensures c.loop-fin-test.true in
    let most = c.len-len.ensures in
    let less = c.len-len.type_inv in
    omega (arith, most, less, counted-fits c.args.store.now.state.map c.args.fin c.requires c.loop-fin.here c.ring_next-here-in-loop-fin.result c.loop-fin.len c.loop-fin.invariant other c.ring_next-here-in-loop-fin.ensures)

pub loop-fin-smaller : goal.loop-fin-smaller
loop-fin-smaller g c =
    walk-less c.args.store.now.state.map c.args.fin c.requires c.loop-fin.here c.ring_next-here-in-loop-fin.result c.loop-fin.invariant.walked
    (other-tags c.loop-fin.here c.args.fin c.ne.result c.ne.ensures c.loop-fin-test.true) c.ring_next-here-in-loop-fin.ensures

pub loop-fin-preserved : goal.loop-fin-preserved
loop-fin-preserved g c =
    counted-on c.args.store.now.state.map c.args.fin c.requires c.loop-fin.here c.ring_next-here-in-loop-fin.result c.loop-fin.len c.loop-fin.invariant
    (other-tags c.loop-fin.here c.args.fin c.ne.result c.ne.ensures c.loop-fin-test.true) c.ring_next-here-in-loop-fin.ensures

pub returns : goal.returns
returns g c =
    counted-all c.args.store.now.state.map c.args.fin c.requires c.loop-fin.here c.loop-fin.len c.loop-fin.invariant
    (same-tags c.loop-fin.here c.args.fin c.ne.result c.ne.ensures c.loop-fin-test.false)
