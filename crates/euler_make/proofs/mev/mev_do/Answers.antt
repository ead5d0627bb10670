use Rattle.std.proofs.Common.{sym, subst, arith}
use Rattle.entity_store.specs.NextTags.{left}
use Rattle.solid_model.specs.Shapes.{shape_of}
use Rattle.solid_calls.specs.Pairs.{Takes}
use Rattle.euler_make.proofs.MevDone.{edge-other, edge-owned, edge-room, fin-other, least-is, loop-hosted, loop-is, loop-owned, loop-room, mate-other, mev-done, pair-apart, pair-fins, pair-room, ring-put, vertex-hosted, vertex-room}
use Rattle.euler_make.proofs.MevFound.{mev-cost, ready-viewed}
use Rattle.euler_make.proofs.mev.mev_do.Goals as goal

pub take_strut-strut-requires : goal.take_strut-strut-requires
take_strut-strut-requires g c =
    let cost = mev-cost (shape_of c.args.rec.now.store.now.state.map) c.args.end c.args.at c.requires.may.goes in
    let enough = c.requires.tags.enough in
    let spare = c.requires.tags.spare in
    record { enough = omega (arith, cost, enough); spare = omega (arith, cost, spare) }

pub first_fin-first-requires : goal.first_fin-first-requires
first_fin-first-requires g c =
    let r = ready-viewed c.in-Ok.place c.take_strut-strut.result (left c.take_strut-strut.new.tags) c.requires.may c.requires.tags c.view.ensures c.view-2.ensures c.blocks-blocks.ensures.hosted c.in-Ok.ensures.found c.in-Ok.ensures.ring c.take_strut-strut.ensures.tags in
    loop-is r c.view-3.result.now c.view-3.ensures

pub put-requires : goal.put-requires
put-requires g c =
    let r = ready-viewed c.in-Ok.place c.take_strut-strut.result (left c.take_strut-strut.new.tags) c.requires.may c.requires.tags c.view.ensures c.view-2.ensures c.blocks-blocks.ensures.hosted c.in-Ok.ensures.found c.in-Ok.ensures.ring c.take_strut-strut.ensures.tags in
    let hosted = vertex-hosted r c.point_of.result in
    record { owned = hosted.owned; hosted = hosted; room = vertex-room r }

pub put_edge-requires : goal.put_edge-requires
put_edge-requires g c =
    let r = ready-viewed c.in-Ok.place c.take_strut-strut.result (left c.take_strut-strut.new.tags) c.requires.may c.requires.tags c.view.ensures c.view-2.ensures c.blocks-blocks.ensures.hosted c.in-Ok.ensures.found c.in-Ok.ensures.ring c.take_strut-strut.ensures.tags in
    record {
      owned = edge-owned r c.point_of.result c.point_of.ensures c.put.new.self.store.now c.put.ensures.state c.put.ensures.began c.put.ensures.recorded;
      edge = edge-other r;
      fin = fin-other r;
      mate = mate-other r;
      room = edge-room r c.point_of.result c.point_of.ensures c.put.new.self.store.now c.put.ensures.state c.put.ensures.began c.put.ensures.recorded;
    }

pub insert_pair-requires : goal.insert_pair-requires
insert_pair-requires g c =
    let r = ready-viewed c.in-Ok.place c.take_strut-strut.result (left c.take_strut-strut.new.tags) c.requires.may c.requires.tags c.view.ensures c.view-2.ensures c.blocks-blocks.ensures.hosted c.in-Ok.ensures.found c.in-Ok.ensures.ring c.take_strut-strut.ensures.tags in
    let alone = pair-fins r c.point_of.result c.point_of.ensures c.put.new.self.store.now c.put.ensures.state c.put.ensures.began c.put.ensures.recorded c.put_edge.new.rec.store.now c.put_edge.ensures.state c.put_edge.ensures.puts in
    record {
      at = (ring-put r c.point_of.result c.point_of.ensures c.put.new.self.store.now c.put.ensures.state c.put.ensures.began c.put.ensures.recorded c.put_edge.new.rec.store.now c.put_edge.ensures.state c.put_edge.ensures.puts).1;
      ring = tt;
      out = alone.0;
      back = alone.1;
      apart = pair-apart r c.point_of.result c.point_of.ensures c.put.new.self.store.now c.put.ensures.state c.put.ensures.began c.put.ensures.recorded c.put_edge.new.rec.store.now c.put_edge.ensures.state c.put_edge.ensures.puts;
      room = pair-room r c.point_of.result c.point_of.ensures c.put.new.self.store.now c.put.ensures.state c.put.ensures.began c.put.ensures.recorded c.put_edge.new.rec.store.now c.put_edge.ensures.state c.put_edge.ensures.puts;
    }

pub put-requires-2 : goal.put-requires-2
put-requires-2 g c =
    let r = ready-viewed c.in-Ok.place c.take_strut-strut.result (left c.take_strut-strut.new.tags) c.requires.may c.requires.tags c.view.ensures c.view-2.ensures c.blocks-blocks.ensures.hosted c.in-Ok.ensures.found c.in-Ok.ensures.ring c.take_strut-strut.ensures.tags in
    record {
      owned = loop-owned r c.point_of.result c.point_of.ensures c.put.new.self.store.now c.put.ensures.state c.put.ensures.began c.put.ensures.recorded c.put_edge.new.rec.store.now c.put_edge.ensures.state c.put_edge.ensures.puts c.insert_pair.new.rec.store.now c.insert_pair.ensures.links c.insert_pair.ensures.state c.insert_pair.ensures.puts;
      hosted = loop-hosted r c.point_of.result c.point_of.ensures c.put.new.self.store.now c.put.ensures.state c.put.ensures.began c.put.ensures.recorded c.put_edge.new.rec.store.now c.put_edge.ensures.state c.put_edge.ensures.puts c.insert_pair.new.rec.store.now c.insert_pair.ensures.links c.insert_pair.ensures.state c.insert_pair.ensures.puts c.lesser_of.result;
      room = loop-room r c.point_of.result c.point_of.ensures c.put.new.self.store.now c.put.ensures.state c.put.ensures.began c.put.ensures.recorded c.put_edge.new.rec.store.now c.put_edge.ensures.state c.put_edge.ensures.puts c.insert_pair.new.rec.store.now c.insert_pair.ensures.links c.insert_pair.ensures.state c.insert_pair.ensures.puts;
    }

pub returns-clause-done : goal.returns-clause-done
returns-clause-done g c =
    let r = ready-viewed c.in-Ok.place c.take_strut-strut.result (left c.take_strut-strut.new.tags) c.requires.may c.requires.tags c.view.ensures c.view-2.ensures c.blocks-blocks.ensures.hosted c.in-Ok.ensures.found c.in-Ok.ensures.ring c.take_strut-strut.ensures.tags in
    let low = least-is r c.view-3.result.now c.first_fin-first.result c.lesser_of.result c.view-3.ensures c.first_fin-first.ensures c.lesser_of.ensures in
    mev-done r c.point_of.result c.point_of.ensures c.put.new.self.store.now c.put.ensures.state c.put.ensures.began c.put.ensures.recorded c.put_edge.new.rec.store.now c.put_edge.ensures.state c.put_edge.ensures.puts c.insert_pair.new.rec.store.now c.insert_pair.ensures.links c.insert_pair.ensures.state c.insert_pair.ensures.puts c.lesser_of.result low c.put-2.new.self.store.now c.put-2.ensures.state c.put-2.ensures.began c.put-2.ensures.recorded

pub returns-clause-takes : goal.returns-clause-takes
returns-clause-takes g c =
    let cost = mev-cost (shape_of c.args.rec.now.store.now.state.map) c.args.end c.args.at c.requires.may.goes in
    subst (λ n. Takes n c.args.tags.now c.args.out.now c.take_strut-strut.new.tags c.take_strut-strut.new.out) (sym cost) c.take_strut-strut.ensures.takes
