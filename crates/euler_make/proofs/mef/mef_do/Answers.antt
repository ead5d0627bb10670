-- Each step asks for what the steps before it have left.
use Rattle.std.proofs.Common.{refl, sym, subst, arith}
use Rattle.entity_store.specs.NextTags.{left}
use Rattle.solid_model.specs.Shapes.{shape_of}
use Rattle.solid_calls.specs.Pairs.{Takes}
use Rattle.solid_edits.proofs.PlacedFins.{found_fin}
use Rattle.euler_make.proofs.MefFound.{mef-cost, mef-goes}
use Rattle.euler_make.proofs.MefDone.{asks-parted, edge-owned, edge-room, face-hosted, face-room, first-face_owned, first-owned, first-ring, first-room, label-other, label-owned, label-ring, label-room, mef-done, parted-room, second-face_owned, second-owned, second-ring, second-room}
use Rattle.euler_make.proofs.mef.mef_do.Goals as goal

pub take_parts-parts-requires : goal.take_parts-parts-requires
take_parts-parts-requires g' c =
    let cost = mef-cost (shape_of c.args.rec.now.store.now.state.map) c.args.from c.args.to c.requires.may.goes in
    let enough = c.requires.tags.enough in
    let spare = c.requires.tags.spare in
    record { enough = omega (arith, cost, enough); spare = omega (arith, cost, spare) }

pub put-requires : goal.put-requires
put-requires g' c =
    let a = c.view-store.result.now in
    let u = found_fin a.state.map c.args.from c.in-Ok.u in
    let w = found_fin a.state.map c.args.to c.in-Ok-fin_at.v in
    let p = c.take_parts-parts.result in
    let G = mef-goes c.args.rec.now.store.now a c.view-store.ensures c.args.from c.args.to c.args.tags.now c.args.out.now u w p.face p.loop_ p.edge p.x p.y (left c.take_parts-parts.new.tags) c.blocks-blocks.ensures.hosted c.requires.may c.requires.tags c.in-Ok.ensures.found c.in-Ok-fin_at.ensures.found refl c.in-Ok.ensures.ring c.take_parts-parts.ensures.parts in
    record { owned = G.owned.0; hosted = face-hosted G; room = face-room G }

pub put_edge-requires : goal.put_edge-requires
put_edge-requires g' c =
    let a = c.view-store.result.now in
    let u = found_fin a.state.map c.args.from c.in-Ok.u in
    let w = found_fin a.state.map c.args.to c.in-Ok-fin_at.v in
    let p = c.take_parts-parts.result in
    let G = mef-goes c.args.rec.now.store.now a c.view-store.ensures c.args.from c.args.to c.args.tags.now c.args.out.now u w p.face p.loop_ p.edge p.x p.y (left c.take_parts-parts.new.tags) c.blocks-blocks.ensures.hosted c.requires.may c.requires.tags c.in-Ok.ensures.found c.in-Ok-fin_at.ensures.found refl c.in-Ok.ensures.ring c.take_parts-parts.ensures.parts in
    record {
      owned = edge-owned G c.put.new.self.store.now c.put.ensures.state c.put.ensures.began c.put.ensures.recorded;
      edge = G.body_apart.1.1.0;
      fin = G.once.1.0.1.0;
      mate = G.loop_apart.1.1.1.1.0;
      room = edge-room G c.put.new.self.store.now c.put.ensures.state c.put.ensures.began c.put.ensures.recorded;
    }

pub split_ring-requires : goal.split_ring-requires
split_ring-requires g' c =
    let a = c.view-store.result.now in
    let u = found_fin a.state.map c.args.from c.in-Ok.u in
    let w = found_fin a.state.map c.args.to c.in-Ok-fin_at.v in
    let p = c.take_parts-parts.result in
    let G = mef-goes c.args.rec.now.store.now a c.view-store.ensures c.args.from c.args.to c.args.tags.now c.args.out.now u w p.face p.loop_ p.edge p.x p.y (left c.take_parts-parts.new.tags) c.blocks-blocks.ensures.hosted c.requires.may c.requires.tags c.in-Ok.ensures.found c.in-Ok-fin_at.ensures.found refl c.in-Ok.ensures.ring c.take_parts-parts.ensures.parts in
    let asks = asks-parted G c.put.new.self.store.now c.put.ensures.state c.put.ensures.began c.put.ensures.recorded c.put_edge.new.rec.store.now c.put_edge.ensures.state c.put_edge.ensures.puts in
    record {
      ring = asks.ring;
      among = asks.among;
      other = G.other;
      x = asks.x_ring;
      y = asks.y_ring;
      apart = asks.apart;
      room = parted-room G c.put.new.self.store.now c.put.ensures.state c.put.ensures.began c.put.ensures.recorded c.put_edge.new.rec.store.now c.put_edge.ensures.state c.put_edge.ensures.puts;
    }

pub relabel-requires : goal.relabel-requires
relabel-requires g' c =
    let a = c.view-store.result.now in
    let u = found_fin a.state.map c.args.from c.in-Ok.u in
    let w = found_fin a.state.map c.args.to c.in-Ok-fin_at.v in
    let p = c.take_parts-parts.result in
    let G = mef-goes c.args.rec.now.store.now a c.view-store.ensures c.args.from c.args.to c.args.tags.now c.args.out.now u w p.face p.loop_ p.edge p.x p.y (left c.take_parts-parts.new.tags) c.blocks-blocks.ensures.hosted c.requires.may c.requires.tags c.in-Ok.ensures.found c.in-Ok-fin_at.ensures.found refl c.in-Ok.ensures.ring c.take_parts-parts.ensures.parts in
    record {
      ring = label-ring G c.put.new.self.store.now c.put.ensures.state c.put.ensures.began c.put.ensures.recorded c.put_edge.new.rec.store.now c.put_edge.ensures.state c.put_edge.ensures.puts c.split_ring.new.rec.store.now c.split_ring.ensures.links c.split_ring.ensures.state c.split_ring.ensures.puts;
      owned = label-owned G c.put.new.self.store.now c.put.ensures.state c.put.ensures.began c.put.ensures.recorded c.put_edge.new.rec.store.now c.put_edge.ensures.state c.put_edge.ensures.puts c.split_ring.new.rec.store.now c.split_ring.ensures.links c.split_ring.ensures.state c.split_ring.ensures.puts;
      other = label-other G c.put.new.self.store.now c.put.ensures.state c.put.ensures.began c.put.ensures.recorded c.put_edge.new.rec.store.now c.put_edge.ensures.state c.put_edge.ensures.puts c.split_ring.new.rec.store.now c.split_ring.ensures.links c.split_ring.ensures.state c.split_ring.ensures.puts;
      room = label-room G c.put.new.self.store.now c.put.ensures.state c.put.ensures.began c.put.ensures.recorded c.put_edge.new.rec.store.now c.put_edge.ensures.state c.put_edge.ensures.puts c.split_ring.new.rec.store.now c.split_ring.ensures.links c.split_ring.ensures.state c.split_ring.ensures.puts;
    }

pub put_loop-requires : goal.put_loop-requires
put_loop-requires g' c =
    let a = c.view-store.result.now in
    let u = found_fin a.state.map c.args.from c.in-Ok.u in
    let w = found_fin a.state.map c.args.to c.in-Ok-fin_at.v in
    let p = c.take_parts-parts.result in
    let G = mef-goes c.args.rec.now.store.now a c.view-store.ensures c.args.from c.args.to c.args.tags.now c.args.out.now u w p.face p.loop_ p.edge p.x p.y (left c.take_parts-parts.new.tags) c.blocks-blocks.ensures.hosted c.requires.may c.requires.tags c.in-Ok.ensures.found c.in-Ok-fin_at.ensures.found refl c.in-Ok.ensures.ring c.take_parts-parts.ensures.parts in
    record {
      ring = first-ring G c.put.new.self.store.now c.put.ensures.state c.put.ensures.began c.put.ensures.recorded c.put_edge.new.rec.store.now c.put_edge.ensures.state c.put_edge.ensures.puts c.split_ring.new.rec.store.now c.split_ring.ensures.links c.split_ring.ensures.state c.split_ring.ensures.puts c.relabel.new.rec.store.now c.relabel.ensures.labels c.relabel.ensures.state c.relabel.ensures.puts;
      owned = first-owned G c.put.new.self.store.now c.put.ensures.state c.put.ensures.began c.put.ensures.recorded c.put_edge.new.rec.store.now c.put_edge.ensures.state c.put_edge.ensures.puts c.split_ring.new.rec.store.now c.split_ring.ensures.links c.split_ring.ensures.state c.split_ring.ensures.puts c.relabel.new.rec.store.now c.relabel.ensures.labels c.relabel.ensures.state c.relabel.ensures.puts;
      face_owned = first-face_owned G c.put.new.self.store.now c.put.ensures.state c.put.ensures.began c.put.ensures.recorded c.put_edge.new.rec.store.now c.put_edge.ensures.state c.put_edge.ensures.puts c.split_ring.new.rec.store.now c.split_ring.ensures.links c.split_ring.ensures.state c.split_ring.ensures.puts c.relabel.new.rec.store.now c.relabel.ensures.labels c.relabel.ensures.state c.relabel.ensures.puts;
      other = G.once.0.0;
      room = first-room G c.put.new.self.store.now c.put.ensures.state c.put.ensures.began c.put.ensures.recorded c.put_edge.new.rec.store.now c.put_edge.ensures.state c.put_edge.ensures.puts c.split_ring.new.rec.store.now c.split_ring.ensures.links c.split_ring.ensures.state c.split_ring.ensures.puts c.relabel.new.rec.store.now c.relabel.ensures.labels c.relabel.ensures.state c.relabel.ensures.puts;
    }

pub put_loop-requires-2 : goal.put_loop-requires-2
put_loop-requires-2 g' c =
    let a = c.view-store.result.now in
    let u = found_fin a.state.map c.args.from c.in-Ok.u in
    let w = found_fin a.state.map c.args.to c.in-Ok-fin_at.v in
    let p = c.take_parts-parts.result in
    let G = mef-goes c.args.rec.now.store.now a c.view-store.ensures c.args.from c.args.to c.args.tags.now c.args.out.now u w p.face p.loop_ p.edge p.x p.y (left c.take_parts-parts.new.tags) c.blocks-blocks.ensures.hosted c.requires.may c.requires.tags c.in-Ok.ensures.found c.in-Ok-fin_at.ensures.found refl c.in-Ok.ensures.ring c.take_parts-parts.ensures.parts in
    record {
      ring = second-ring G c.put.new.self.store.now c.put.ensures.state c.put.ensures.began c.put.ensures.recorded c.put_edge.new.rec.store.now c.put_edge.ensures.state c.put_edge.ensures.puts c.split_ring.new.rec.store.now c.split_ring.ensures.links c.split_ring.ensures.state c.split_ring.ensures.puts c.relabel.new.rec.store.now c.relabel.ensures.labels c.relabel.ensures.state c.relabel.ensures.puts c.put_loop.new.rec.store.now c.put_loop.ensures.state c.put_loop.ensures.puts;
      owned = second-owned G c.put.new.self.store.now c.put.ensures.state c.put.ensures.began c.put.ensures.recorded c.put_edge.new.rec.store.now c.put_edge.ensures.state c.put_edge.ensures.puts c.split_ring.new.rec.store.now c.split_ring.ensures.links c.split_ring.ensures.state c.split_ring.ensures.puts c.relabel.new.rec.store.now c.relabel.ensures.labels c.relabel.ensures.state c.relabel.ensures.puts c.put_loop.new.rec.store.now c.put_loop.ensures.state c.put_loop.ensures.puts;
      face_owned = second-face_owned G c.put.new.self.store.now c.put.ensures.state c.put.ensures.began c.put.ensures.recorded c.put_edge.new.rec.store.now c.put_edge.ensures.state c.put_edge.ensures.puts c.split_ring.new.rec.store.now c.split_ring.ensures.links c.split_ring.ensures.state c.split_ring.ensures.puts c.relabel.new.rec.store.now c.relabel.ensures.labels c.relabel.ensures.state c.relabel.ensures.puts c.put_loop.new.rec.store.now c.put_loop.ensures.state c.put_loop.ensures.puts;
      other = G.face_apart;
      room = second-room G c.put.new.self.store.now c.put.ensures.state c.put.ensures.began c.put.ensures.recorded c.put_edge.new.rec.store.now c.put_edge.ensures.state c.put_edge.ensures.puts c.split_ring.new.rec.store.now c.split_ring.ensures.links c.split_ring.ensures.state c.split_ring.ensures.puts c.relabel.new.rec.store.now c.relabel.ensures.labels c.relabel.ensures.state c.relabel.ensures.puts c.put_loop.new.rec.store.now c.put_loop.ensures.state c.put_loop.ensures.puts;
    }

pub returns-clause-done : goal.returns-clause-done
returns-clause-done g' c =
    let a = c.view-store.result.now in
    let u = found_fin a.state.map c.args.from c.in-Ok.u in
    let w = found_fin a.state.map c.args.to c.in-Ok-fin_at.v in
    let p = c.take_parts-parts.result in
    let G = mef-goes c.args.rec.now.store.now a c.view-store.ensures c.args.from c.args.to c.args.tags.now c.args.out.now u w p.face p.loop_ p.edge p.x p.y (left c.take_parts-parts.new.tags) c.blocks-blocks.ensures.hosted c.requires.may c.requires.tags c.in-Ok.ensures.found c.in-Ok-fin_at.ensures.found refl c.in-Ok.ensures.ring c.take_parts-parts.ensures.parts in
    mef-done G c.put.new.self.store.now c.put.ensures.state c.put.ensures.began c.put.ensures.recorded c.put_edge.new.rec.store.now c.put_edge.ensures.state c.put_edge.ensures.puts c.split_ring.new.rec.store.now c.split_ring.ensures.links c.split_ring.ensures.state c.split_ring.ensures.puts c.relabel.new.rec.store.now c.relabel.ensures.labels c.relabel.ensures.state c.relabel.ensures.puts c.put_loop.new.rec.store.now c.put_loop.ensures.state c.put_loop.ensures.puts c.put_loop-2.new.rec.store.now c.put_loop-2.ensures.state c.put_loop-2.ensures.puts

pub returns-clause-takes : goal.returns-clause-takes
returns-clause-takes g' c =
    let cost = mef-cost (shape_of c.args.rec.now.store.now.state.map) c.args.from c.args.to c.requires.may.goes in
    subst (λ n. Takes n c.args.tags.now c.args.out.now c.take_parts-parts.new.tags c.take_parts-parts.new.out) (sym cost) c.take_parts-parts.ensures.takes
