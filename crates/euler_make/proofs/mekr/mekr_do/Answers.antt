use Rattle.std.proofs.Common.{sym, subst, arith}
use Rattle.entity_store.specs.NextTags.{left}
use Rattle.solid_model.specs.Shapes.{shape_of}
use Rattle.solid_calls.specs.Pairs.{Takes}
use Rattle.euler_make.proofs.MekrDone.{dead-owned, dead-room, edge-other, edge-owned, edge-room, fin-other, loop-hosted, loop-owned, loop-ring, loop-room, mate-other, mekr-done, pair-apart, pair-at, pair-edge, pair-ring, pair-room, ring-other, ring-owned, ring-room, ring-there}
use Rattle.euler_make.proofs.MekrFound.{mekr-cost, ready-viewed}
use Rattle.euler_make.proofs.mekr.mekr_do.Goals as goal

pub take_edge-new-requires : goal.take_edge-new-requires
take_edge-new-requires g c =
    let cost = mekr-cost (shape_of c.args.rec.now.store.now.state.map) c.args.keep c.args.ring c.requires.may.goes in
    let enough = c.requires.tags.enough in
    let spare = c.requires.tags.spare in
    record { enough = omega (arith, cost, enough); spare = omega (arith, cost, spare) }

pub give_ring-requires : goal.give_ring-requires
give_ring-requires g c =
    let r = ready-viewed c.in-Ok.u c.in-Ok-end_at.v c.take_edge-new.result.edge c.take_edge-new.result.fin c.take_edge-new.result.mate (left c.take_edge-new.new.tags) c.requires.may c.requires.tags c.view.ensures c.view-2.ensures c.view-3.ensures c.blocks-blocks.ensures.hosted c.in-Ok.ensures.found c.in-Ok-end_at.ensures.found c.in-Ok.ensures.ring c.in-Ok-end_at.ensures.ring c.take_edge-new.ensures.tags in
    record { ring = ring-there r; owned = ring-owned r; other = ring-other r; room = ring-room r }

pub put_edge-requires : goal.put_edge-requires
put_edge-requires g c =
    let r = ready-viewed c.in-Ok.u c.in-Ok-end_at.v c.take_edge-new.result.edge c.take_edge-new.result.fin c.take_edge-new.result.mate (left c.take_edge-new.new.tags) c.requires.may c.requires.tags c.view.ensures c.view-2.ensures c.view-3.ensures c.blocks-blocks.ensures.hosted c.in-Ok.ensures.found c.in-Ok-end_at.ensures.found c.in-Ok.ensures.ring c.in-Ok-end_at.ensures.ring c.take_edge-new.ensures.tags in
    let s1 = c.give_ring.new.rec.store.now in
    record {
      owned = edge-owned r s1 c.give_ring.ensures.labels c.give_ring.ensures.state c.give_ring.ensures.puts;
      edge = edge-other r s1 c.give_ring.ensures.labels c.give_ring.ensures.state c.give_ring.ensures.puts;
      fin = fin-other r s1 c.give_ring.ensures.labels c.give_ring.ensures.state c.give_ring.ensures.puts;
      mate = mate-other r s1 c.give_ring.ensures.labels c.give_ring.ensures.state c.give_ring.ensures.puts;
      room = edge-room r s1 c.give_ring.ensures.labels c.give_ring.ensures.state c.give_ring.ensures.puts;
    }

pub insert_pair-requires : goal.insert_pair-requires
insert_pair-requires g c =
    let r = ready-viewed c.in-Ok.u c.in-Ok-end_at.v c.take_edge-new.result.edge c.take_edge-new.result.fin c.take_edge-new.result.mate (left c.take_edge-new.new.tags) c.requires.may c.requires.tags c.view.ensures c.view-2.ensures c.view-3.ensures c.blocks-blocks.ensures.hosted c.in-Ok.ensures.found c.in-Ok-end_at.ensures.found c.in-Ok.ensures.ring c.in-Ok-end_at.ensures.ring c.take_edge-new.ensures.tags in
    let s1 = c.give_ring.new.rec.store.now in
    let s2 = c.put_edge.new.rec.store.now in
    let edge = pair-edge r s1 c.give_ring.ensures.labels c.give_ring.ensures.state c.give_ring.ensures.puts s2 c.put_edge.ensures.state c.put_edge.ensures.puts in
    record {
      at = pair-at r s1 c.give_ring.ensures.labels c.give_ring.ensures.state c.give_ring.ensures.puts s2 c.put_edge.ensures.state c.put_edge.ensures.puts;
      ring = pair-ring r s1 c.give_ring.ensures.labels c.give_ring.ensures.state c.give_ring.ensures.puts s2 c.put_edge.ensures.state c.put_edge.ensures.puts;
      out = edge.fin_ring;
      back = edge.mate_ring;
      apart = pair-apart r s1 c.give_ring.ensures.labels c.give_ring.ensures.state c.give_ring.ensures.puts s2 c.put_edge.ensures.state c.put_edge.ensures.puts;
      room = pair-room r s1 c.give_ring.ensures.labels c.give_ring.ensures.state c.give_ring.ensures.puts s2 c.put_edge.ensures.state c.put_edge.ensures.puts;
    }

pub least_fin-first-requires : goal.least_fin-first-requires
least_fin-first-requires g c =
    let r = ready-viewed c.in-Ok.u c.in-Ok-end_at.v c.take_edge-new.result.edge c.take_edge-new.result.fin c.take_edge-new.result.mate (left c.take_edge-new.new.tags) c.requires.may c.requires.tags c.view.ensures c.view-2.ensures c.view-3.ensures c.blocks-blocks.ensures.hosted c.in-Ok.ensures.found c.in-Ok-end_at.ensures.found c.in-Ok.ensures.ring c.in-Ok-end_at.ensures.ring c.take_edge-new.ensures.tags in
    let s1 = c.give_ring.new.rec.store.now in
    let s2 = c.put_edge.new.rec.store.now in
    let s3 = c.insert_pair.new.rec.store.now in
    loop-ring r s1 c.give_ring.ensures.labels c.give_ring.ensures.state c.give_ring.ensures.puts s2 c.put_edge.ensures.state c.put_edge.ensures.puts s3 c.insert_pair.ensures.links c.insert_pair.ensures.state c.insert_pair.ensures.puts

pub put-requires : goal.put-requires
put-requires g c =
    let r = ready-viewed c.in-Ok.u c.in-Ok-end_at.v c.take_edge-new.result.edge c.take_edge-new.result.fin c.take_edge-new.result.mate (left c.take_edge-new.new.tags) c.requires.may c.requires.tags c.view.ensures c.view-2.ensures c.view-3.ensures c.blocks-blocks.ensures.hosted c.in-Ok.ensures.found c.in-Ok-end_at.ensures.found c.in-Ok.ensures.ring c.in-Ok-end_at.ensures.ring c.take_edge-new.ensures.tags in
    let s1 = c.give_ring.new.rec.store.now in
    let s2 = c.put_edge.new.rec.store.now in
    let s3 = c.insert_pair.new.rec.store.now in
    record {
      owned = loop-owned r s1 c.give_ring.ensures.labels c.give_ring.ensures.state c.give_ring.ensures.puts s2 c.put_edge.ensures.state c.put_edge.ensures.puts s3 c.insert_pair.ensures.links c.insert_pair.ensures.state c.insert_pair.ensures.puts;
      hosted = loop-hosted r s1 c.give_ring.ensures.labels c.give_ring.ensures.state c.give_ring.ensures.puts s2 c.put_edge.ensures.state c.put_edge.ensures.puts s3 c.insert_pair.ensures.links c.insert_pair.ensures.state c.insert_pair.ensures.puts c.least_fin-first.result;
      room = loop-room r s1 c.give_ring.ensures.labels c.give_ring.ensures.state c.give_ring.ensures.puts s2 c.put_edge.ensures.state c.put_edge.ensures.puts s3 c.insert_pair.ensures.links c.insert_pair.ensures.state c.insert_pair.ensures.puts;
    }

pub kill-requires : goal.kill-requires
kill-requires g c =
    let r = ready-viewed c.in-Ok.u c.in-Ok-end_at.v c.take_edge-new.result.edge c.take_edge-new.result.fin c.take_edge-new.result.mate (left c.take_edge-new.new.tags) c.requires.may c.requires.tags c.view.ensures c.view-2.ensures c.view-3.ensures c.blocks-blocks.ensures.hosted c.in-Ok.ensures.found c.in-Ok-end_at.ensures.found c.in-Ok.ensures.ring c.in-Ok-end_at.ensures.ring c.take_edge-new.ensures.tags in
    let s1 = c.give_ring.new.rec.store.now in
    let s2 = c.put_edge.new.rec.store.now in
    let s3 = c.insert_pair.new.rec.store.now in
    let s4 = c.put.new.self.store.now in
    record {
      owned = dead-owned r s1 c.give_ring.ensures.labels c.give_ring.ensures.state c.give_ring.ensures.puts s2 c.put_edge.ensures.state c.put_edge.ensures.puts s3 c.insert_pair.ensures.links c.insert_pair.ensures.state c.insert_pair.ensures.puts c.least_fin-first.result c.least_fin-first.ensures s4 c.put.ensures.state c.put.ensures.began c.put.ensures.recorded;
      room = dead-room r s1 c.give_ring.ensures.labels c.give_ring.ensures.state c.give_ring.ensures.puts s2 c.put_edge.ensures.state c.put_edge.ensures.puts s3 c.insert_pair.ensures.links c.insert_pair.ensures.state c.insert_pair.ensures.puts c.least_fin-first.result c.least_fin-first.ensures s4 c.put.ensures.state c.put.ensures.began c.put.ensures.recorded;
    }

pub returns-clause-done : goal.returns-clause-done
returns-clause-done g c =
    let r = ready-viewed c.in-Ok.u c.in-Ok-end_at.v c.take_edge-new.result.edge c.take_edge-new.result.fin c.take_edge-new.result.mate (left c.take_edge-new.new.tags) c.requires.may c.requires.tags c.view.ensures c.view-2.ensures c.view-3.ensures c.blocks-blocks.ensures.hosted c.in-Ok.ensures.found c.in-Ok-end_at.ensures.found c.in-Ok.ensures.ring c.in-Ok-end_at.ensures.ring c.take_edge-new.ensures.tags in
    let s1 = c.give_ring.new.rec.store.now in
    let s2 = c.put_edge.new.rec.store.now in
    let s3 = c.insert_pair.new.rec.store.now in
    let s4 = c.put.new.self.store.now in
    mekr-done r s1 c.give_ring.ensures.labels c.give_ring.ensures.state c.give_ring.ensures.puts s2 c.put_edge.ensures.state c.put_edge.ensures.puts s3 c.insert_pair.ensures.links c.insert_pair.ensures.state c.insert_pair.ensures.puts c.least_fin-first.result c.least_fin-first.ensures s4 c.put.ensures.state c.put.ensures.began c.put.ensures.recorded c.kill.new.rec.store.now c.kill.ensures.dies c.kill.ensures.state c.kill.ensures.puts

pub returns-clause-takes : goal.returns-clause-takes
returns-clause-takes g c =
    let cost = mekr-cost (shape_of c.args.rec.now.store.now.state.map) c.args.keep c.args.ring c.requires.may.goes in
    subst (λ n. Takes n c.args.tags.now c.args.out.now c.take_edge-new.new.tags c.take_edge-new.new.out) (sym cost) c.take_edge-new.ensures.takes
