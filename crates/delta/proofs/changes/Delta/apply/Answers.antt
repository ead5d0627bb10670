use Rattle.std.proofs.Common.{ap, ◌∙◌, arith}
use Rattle.entity_store.specs.Store.{Stored}
use Rattle.entity_store.proofs.Room.{room-for_one, room-after, puts-one, puts-then}
use Rattle.delta.specs.Deltas.{tags_in}
use Rattle.delta.proofs.Places.{tag-among}
use Rattle.delta.proofs.Applied.{owned-at, hosted-at, state-put, leads-next}
use Rattle.delta.proofs.changes.Delta.apply.Goals as goal

pub put-requires-clause-owned : goal.put-requires-clause-owned
put-requires-clause-owned g c =
    owned-at c.args.rec.now.store.now.state.blocks c.loop-i.rec.store.now.state.blocks (ap (λ (s : Stored). s.blocks) c.loop-i.invariant.state) c.args.self.now c.loop-i.i c.entry-change.result.now c.entry-change.ensures.value c.requires.owned

pub put-requires-clause-hosted : goal.put-requires-clause-hosted
put-requires-clause-hosted g c =
    hosted-at c.args.rec.now.store.now.state.blocks c.loop-i.rec.store.now.state.blocks (ap (λ (s : Stored). s.blocks) c.loop-i.invariant.state) c.args.forward c.args.self.now c.loop-i.i c.entry-change.result.now c.put_for.result c.entry-change.ensures.value c.put_for.ensures c.requires.hosted

pub put-requires-clause-room : goal.put-requires-clause-room
put-requires-clause-room g c =
    let tags = tags_in c.args.self.now in
    room-for_one c.loop-i.rec.store.now.recording tags c.entry-change.result.now.tag (room-after tags tags c.args.rec.now.store.now c.loop-i.rec.store.now c.requires.room c.loop-i.invariant.puts (λ t h. h)) (tag-among c.args.self.now c.loop-i.i c.entry-change.result.now c.entry-change.ensures.value)

pub loop-i-preserved : goal.loop-i-preserved
loop-i-preserved g c =
    let tags = tags_in c.args.self.now in
    let x = c.entry-change.result.now in
    let s = c.loop-i.rec.store.now in
    let new = c.put.new.self.store.now in
    let among = tag-among c.args.self.now c.loop-i.i x c.entry-change.ensures.value in
    record {
      state = state-put c.args.rec.now.store.now.state s.state new.state _ (ap (λ (t : Stored). t.blocks) c.loop-i.invariant.state) c.put.ensures.state;
      leads = leads-next s.state.map new.state.map c.args.forward c.args.self.now c.loop-i.i x c.put_for.result c.entry-change.ensures.value c.put_for.ensures (ap (λ (t : Stored). t.map) c.put.ensures.state) ∙ c.loop-i.invariant.leads;
      puts = puts-then tags c.args.rec.now.store.now s new c.loop-i.invariant.puts (puts-one tags s new x.tag _ among c.put.ensures.began c.put.ensures.recorded);
      same_store = c.put.ensures.same_store ∙ c.loop-i.invariant.same_store;
      cost = omega (arith, c.loop-i.invariant.cost, c.entry-change.ensures.cost, c.put.ensures.cost);
    }
