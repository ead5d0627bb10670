use Rattle.std.proofs.Common.{◌∙◌}
use Rattle.halfedge.proofs.RingFins.{in-ring_next}
use Rattle.halfedge.proofs.Walks.{same-tags, other-tags}
use Rattle.halfedge.proofs.Labelled.{room-first, labelled-first, labelled-live, labelled-owned, labelled-other, labelled-room, labelled-less, labelled-on, labelled-all}
use Rattle.halfedge.proofs.labels.relabel.Goals as goal

pub set_loop-here-requires-clause-fin : goal.set_loop-here-requires-clause-fin
set_loop-here-requires-clause-fin g c =
    let s = c.args.rec.now.store.now in
    let f = c.args.fin in
    let to = c.args.to in
    in-ring_next s.state.map f c.requires.ring

pub set_loop-here-requires-clause-room : goal.set_loop-here-requires-clause-room
set_loop-here-requires-clause-room g c =
    let s = c.args.rec.now.store.now in
    let f = c.args.fin in
    let to = c.args.to in
    room-first s f to c.requires.ring c.requires.room

pub loop-to-init : goal.loop-to-init
loop-to-init g c =
    let s = c.args.rec.now.store.now in
    let f = c.args.fin in
    let to = c.args.to in
    (labelled-first s f to c.requires.ring c.set_loop-here.new.rec.store.now c.set_loop-here.result c.set_loop-here.ensures.next c.set_loop-here.ensures.label c.set_loop-here.ensures.state c.set_loop-here.ensures.puts, c.set_loop-here.ensures.same_store)

pub set_loop-here-requires-in-loop-to-clause-fin : goal.set_loop-here-requires-in-loop-to-clause-fin
set_loop-here-requires-in-loop-to-clause-fin g c =
    let s = c.args.rec.now.store.now in
    let f = c.args.fin in
    let to = c.args.to in
    let a = c.loop-to.rec.store.now in
    let here = c.loop-to.here in
    let l = c.loop-to.invariant.0 in
    let other = other-tags here f c.ne.result c.ne.ensures c.loop-to-test.true in
    labelled-live s f to c.requires.ring a here l other

pub set_loop-here-requires-in-loop-to-clause-owned : goal.set_loop-here-requires-in-loop-to-clause-owned
set_loop-here-requires-in-loop-to-clause-owned g c =
    let s = c.args.rec.now.store.now in
    let f = c.args.fin in
    let to = c.args.to in
    let a = c.loop-to.rec.store.now in
    let here = c.loop-to.here in
    let l = c.loop-to.invariant.0 in
    labelled-owned s f to c.requires.ring a here l c.requires.owned

pub set_loop-here-requires-in-loop-to-clause-other : goal.set_loop-here-requires-in-loop-to-clause-other
set_loop-here-requires-in-loop-to-clause-other g c =
    let s = c.args.rec.now.store.now in
    let f = c.args.fin in
    let to = c.args.to in
    let a = c.loop-to.rec.store.now in
    let here = c.loop-to.here in
    let l = c.loop-to.invariant.0 in
    labelled-other s f to c.requires.ring a here l c.requires.other

pub set_loop-here-requires-in-loop-to-clause-room : goal.set_loop-here-requires-in-loop-to-clause-room
set_loop-here-requires-in-loop-to-clause-room g c =
    let s = c.args.rec.now.store.now in
    let f = c.args.fin in
    let to = c.args.to in
    let a = c.loop-to.rec.store.now in
    let here = c.loop-to.here in
    let l = c.loop-to.invariant.0 in
    labelled-room s f to c.requires.ring a here l c.requires.room

pub loop-to-smaller : goal.loop-to-smaller
loop-to-smaller g c =
    let s = c.args.rec.now.store.now in
    let f = c.args.fin in
    let to = c.args.to in
    let a = c.loop-to.rec.store.now in
    let here = c.loop-to.here in
    let l = c.loop-to.invariant.0 in
    let other = other-tags here f c.ne.result c.ne.ensures c.loop-to-test.true in
    labelled-less s f to c.requires.ring a here l c.set_loop-here-in-loop-to.result other c.set_loop-here-in-loop-to.ensures.next

pub loop-to-preserved : goal.loop-to-preserved
loop-to-preserved g c =
    let s = c.args.rec.now.store.now in
    let f = c.args.fin in
    let to = c.args.to in
    let a = c.loop-to.rec.store.now in
    let here = c.loop-to.here in
    let l = c.loop-to.invariant.0 in
    let other = other-tags here f c.ne.result c.ne.ensures c.loop-to-test.true in (
      labelled-on s f to c.requires.ring a here l c.set_loop-here-in-loop-to.result other c.set_loop-here-in-loop-to.ensures.next c.set_loop-here-in-loop-to.new.rec.store.now c.set_loop-here-in-loop-to.ensures.label c.set_loop-here-in-loop-to.ensures.state c.set_loop-here-in-loop-to.ensures.puts,
      c.set_loop-here-in-loop-to.ensures.same_store ∙ c.loop-to.invariant.1,
    )

pub returns-clause-labels : goal.returns-clause-labels
returns-clause-labels g c =
    let s = c.args.rec.now.store.now in
    let f = c.args.fin in
    let to = c.args.to in
    let a = c.loop-to.rec.store.now in
    let here = c.loop-to.here in
    let l = c.loop-to.invariant.0 in
    labelled-all s f to c.requires.ring a here l (same-tags here f c.ne.result c.ne.ensures c.loop-to-test.false)

pub returns-clause-state : goal.returns-clause-state
returns-clause-state g c = c.loop-to.invariant.0.state

pub returns-clause-puts : goal.returns-clause-puts
returns-clause-puts g c = c.loop-to.invariant.0.puts

pub returns-clause-same_store : goal.returns-clause-same_store
returns-clause-same_store g c = c.loop-to.invariant.1
