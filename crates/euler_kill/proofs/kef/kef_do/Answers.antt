-- Each step asks for what the steps before it have left.
use Rattle.std.proofs.Common.{◌≡◌, Some, refl, subst, sym}
use Rattle.std.specs.Prelude.{IsSome, IsTrue}
use Rattle.std.specs.List.{AllByRecursion}
use Rattle.pk_model.specs.Tags.{owns}
use Rattle.entity_store.specs.Store.{StoreView}
use Rattle.halfedge.specs.LinkedRings.{next_at}
use Rattle.entity_store.specs.Room.{HasRoomForThese, PutsAmong}
use Rattle.solid_edits.specs.Deaths.{Kills, with_attributes}
use Rattle.solid_edits.proofs.PlacedFins.{found_fin}
use Rattle.euler_kill.proofs.KefFound.{kef-goes}
use Rattle.euler_kill.proofs.KefDone.{edge-owned, edge-room, joined-room, kef-asks, kef-done, label-other, label-room, loop-face_owned, loop-owned, loop-ring, loop-room, next-some, side-owned, side-room}
use Rattle.euler_kill.proofs.kef.kef_do.Goals as goal

pub ring_next-first-requires : goal.ring_next-first-requires
ring_next-first-requires g c =
    let s = c.args.rec.now.store.now in
    let x = c.args.fin in
    let a = c.view-store.result.now in
    let viewed = c.view-store.ensures in
    let u = found_fin a.state.map x c.in-Ok.u in
    let v = found_fin a.state.map u.mate c.in-Ok-fin_at.v in
    let G = kef-goes s a viewed x u v c.blocks-blocks.ensures.hosted c.requires c.in-Ok.ensures.found c.in-Ok-fin_at.ensures.found refl c.in-Ok.ensures.ring refl c.in-Ok-fin_at.ensures.ring in
    subst (λ (z : StoreView). IsSome (next_at z.state.map x)) (sym viewed) (next-some s x u v G)

pub relabel-requires : goal.relabel-requires
relabel-requires g c =
    let s = c.args.rec.now.store.now in
    let x = c.args.fin in
    let a = c.view-store.result.now in
    let viewed = c.view-store.ensures in
    let u = found_fin a.state.map x c.in-Ok.u in
    let v = found_fin a.state.map u.mate c.in-Ok-fin_at.v in
    let G = kef-goes s a viewed x u v c.blocks-blocks.ensures.hosted c.requires c.in-Ok.ensures.found c.in-Ok-fin_at.ensures.found refl c.in-Ok.ensures.ring refl c.in-Ok-fin_at.ensures.ring in
    record {
      ring = G.fin_ring;
      owned = G.loop_owned;
      other = label-other s x u v G;
      room = label-room s x u v G;
    }

pub join_rings-requires : goal.join_rings-requires
join_rings-requires g c =
    let s = c.args.rec.now.store.now in
    let x = c.args.fin in
    let a = c.view-store.result.now in
    let viewed = c.view-store.ensures in
    let u = found_fin a.state.map x c.in-Ok.u in
    let v = found_fin a.state.map u.mate c.in-Ok-fin_at.v in
    let G = kef-goes s a viewed x u v c.blocks-blocks.ensures.hosted c.requires c.in-Ok.ensures.found c.in-Ok-fin_at.ensures.found refl c.in-Ok.ensures.ring refl c.in-Ok-fin_at.ensures.ring in
    let asks = kef-asks s x u v G c.relabel.new.rec.store.now c.relabel.ensures.labels c.relabel.ensures.state c.relabel.ensures.puts in
    record {
      x = asks.ring;
      y = asks.mate_ring;
      apart = asks.apart;
      room = joined-room s x u v G c.relabel.new.rec.store.now c.relabel.ensures.labels c.relabel.ensures.state c.relabel.ensures.puts;
    }

pub put_loop-requires : goal.put_loop-requires
put_loop-requires g c =
    let s = c.args.rec.now.store.now in
    let x = c.args.fin in
    let a = c.view-store.result.now in
    let viewed = c.view-store.ensures in
    let u = found_fin a.state.map x c.in-Ok.u in
    let v = found_fin a.state.map u.mate c.in-Ok-fin_at.v in
    let G = kef-goes s a viewed x u v c.blocks-blocks.ensures.hosted c.requires c.in-Ok.ensures.found c.in-Ok-fin_at.ensures.found refl c.in-Ok.ensures.ring refl c.in-Ok-fin_at.ensures.ring in
    let first = c.ring_next-first.result in
    let next = subst (λ (z : StoreView). next_at z.state.map x ≡ Some first) viewed c.ring_next-first.ensures in
    record {
      ring = loop-ring s x u v G c.relabel.new.rec.store.now c.relabel.ensures.labels c.relabel.ensures.state c.relabel.ensures.puts c.join_rings.new.rec.store.now c.join_rings.ensures.links c.join_rings.ensures.state c.join_rings.ensures.puts first next;
      owned = loop-owned s x u v G c.relabel.new.rec.store.now c.relabel.ensures.labels c.relabel.ensures.state c.relabel.ensures.puts c.join_rings.new.rec.store.now c.join_rings.ensures.links c.join_rings.ensures.state c.join_rings.ensures.puts first next;
      face_owned = loop-face_owned s x u v G c.relabel.new.rec.store.now c.relabel.ensures.labels c.relabel.ensures.state c.relabel.ensures.puts c.join_rings.new.rec.store.now c.join_rings.ensures.links c.join_rings.ensures.state c.join_rings.ensures.puts first next;
      other = G.face_apart;
      room = loop-room s x u v G c.relabel.new.rec.store.now c.relabel.ensures.labels c.relabel.ensures.state c.relabel.ensures.puts c.join_rings.new.rec.store.now c.join_rings.ensures.links c.join_rings.ensures.state c.join_rings.ensures.puts first next;
    }

pub kill_all-requires-clause-owned : goal.kill_all-requires-clause-owned
kill_all-requires-clause-owned g c =
    let s = c.args.rec.now.store.now in
    let x = c.args.fin in
    let a = c.view-store.result.now in
    let viewed = c.view-store.ensures in
    let u = found_fin a.state.map x c.in-Ok.u in
    let v = found_fin a.state.map u.mate c.in-Ok-fin_at.v in
    let G = kef-goes s a viewed x u v c.blocks-blocks.ensures.hosted c.requires c.in-Ok.ensures.found c.in-Ok-fin_at.ensures.found refl c.in-Ok.ensures.ring refl c.in-Ok-fin_at.ensures.ring in
    let first = c.ring_next-first.result in
    let next = subst (λ (z : StoreView). next_at z.state.map x ≡ Some first) viewed c.ring_next-first.ensures in
    let is = c.as_slice.ensures in
    let s3 = c.put_loop.new.rec.store.now in
    subst (AllByRecursion (λ t. IsTrue (owns s3.state.blocks t))) (sym is)
    (side-owned s x u v G c.relabel.new.rec.store.now c.relabel.ensures.labels c.relabel.ensures.state c.relabel.ensures.puts c.join_rings.new.rec.store.now c.join_rings.ensures.links c.join_rings.ensures.state c.join_rings.ensures.puts first next c.put_loop.new.rec.store.now c.put_loop.ensures.state c.put_loop.ensures.puts)

pub kill_all-requires-clause-room : goal.kill_all-requires-clause-room
kill_all-requires-clause-room g c =
    let s = c.args.rec.now.store.now in
    let x = c.args.fin in
    let a = c.view-store.result.now in
    let viewed = c.view-store.ensures in
    let u = found_fin a.state.map x c.in-Ok.u in
    let v = found_fin a.state.map u.mate c.in-Ok-fin_at.v in
    let G = kef-goes s a viewed x u v c.blocks-blocks.ensures.hosted c.requires c.in-Ok.ensures.found c.in-Ok-fin_at.ensures.found refl c.in-Ok.ensures.ring refl c.in-Ok-fin_at.ensures.ring in
    let first = c.ring_next-first.result in
    let next = subst (λ (z : StoreView). next_at z.state.map x ≡ Some first) viewed c.ring_next-first.ensures in
    let is = c.as_slice.ensures in
    let s3 = c.put_loop.new.rec.store.now in
    subst (λ ts. HasRoomForThese s3.recording (with_attributes s3.state.map ts)) (sym is)
    (side-room s x u v G c.relabel.new.rec.store.now c.relabel.ensures.labels c.relabel.ensures.state c.relabel.ensures.puts c.join_rings.new.rec.store.now c.join_rings.ensures.links c.join_rings.ensures.state c.join_rings.ensures.puts first next c.put_loop.new.rec.store.now c.put_loop.ensures.state c.put_loop.ensures.puts)

pub remove_edge-requires-clause-owned : goal.remove_edge-requires-clause-owned
remove_edge-requires-clause-owned g c =
    let s = c.args.rec.now.store.now in
    let x = c.args.fin in
    let a = c.view-store.result.now in
    let viewed = c.view-store.ensures in
    let u = found_fin a.state.map x c.in-Ok.u in
    let v = found_fin a.state.map u.mate c.in-Ok-fin_at.v in
    let G = kef-goes s a viewed x u v c.blocks-blocks.ensures.hosted c.requires c.in-Ok.ensures.found c.in-Ok-fin_at.ensures.found refl c.in-Ok.ensures.ring refl c.in-Ok-fin_at.ensures.ring in
    let first = c.ring_next-first.result in
    let next = subst (λ (z : StoreView). next_at z.state.map x ≡ Some first) viewed c.ring_next-first.ensures in
    let is = c.as_slice.ensures in
    let s3 = c.put_loop.new.rec.store.now in
    let s4 = c.kill_all.new.rec.store.now in
    edge-owned s x u v G c.relabel.new.rec.store.now c.relabel.ensures.labels c.relabel.ensures.state c.relabel.ensures.puts c.join_rings.new.rec.store.now c.join_rings.ensures.links c.join_rings.ensures.state c.join_rings.ensures.puts first next c.put_loop.new.rec.store.now c.put_loop.ensures.state c.put_loop.ensures.puts s4
    (subst (λ ts. Kills s3.state.map ts s4.state.map) is c.kill_all.ensures.kills) c.kill_all.ensures.state (subst (λ ts. PutsAmong (with_attributes s3.state.map ts) s3 s4) is c.kill_all.ensures.puts)

pub remove_edge-requires-clause-room : goal.remove_edge-requires-clause-room
remove_edge-requires-clause-room g c =
    let s = c.args.rec.now.store.now in
    let x = c.args.fin in
    let a = c.view-store.result.now in
    let viewed = c.view-store.ensures in
    let u = found_fin a.state.map x c.in-Ok.u in
    let v = found_fin a.state.map u.mate c.in-Ok-fin_at.v in
    let G = kef-goes s a viewed x u v c.blocks-blocks.ensures.hosted c.requires c.in-Ok.ensures.found c.in-Ok-fin_at.ensures.found refl c.in-Ok.ensures.ring refl c.in-Ok-fin_at.ensures.ring in
    let first = c.ring_next-first.result in
    let next = subst (λ (z : StoreView). next_at z.state.map x ≡ Some first) viewed c.ring_next-first.ensures in
    let is = c.as_slice.ensures in
    let s3 = c.put_loop.new.rec.store.now in
    let s4 = c.kill_all.new.rec.store.now in
    edge-room s x u v G c.relabel.new.rec.store.now c.relabel.ensures.labels c.relabel.ensures.state c.relabel.ensures.puts c.join_rings.new.rec.store.now c.join_rings.ensures.links c.join_rings.ensures.state c.join_rings.ensures.puts first next c.put_loop.new.rec.store.now c.put_loop.ensures.state c.put_loop.ensures.puts s4
    (subst (λ ts. Kills s3.state.map ts s4.state.map) is c.kill_all.ensures.kills) c.kill_all.ensures.state (subst (λ ts. PutsAmong (with_attributes s3.state.map ts) s3 s4) is c.kill_all.ensures.puts)

pub returns-clause-done : goal.returns-clause-done
returns-clause-done g c =
    let s = c.args.rec.now.store.now in
    let x = c.args.fin in
    let a = c.view-store.result.now in
    let viewed = c.view-store.ensures in
    let u = found_fin a.state.map x c.in-Ok.u in
    let v = found_fin a.state.map u.mate c.in-Ok-fin_at.v in
    let G = kef-goes s a viewed x u v c.blocks-blocks.ensures.hosted c.requires c.in-Ok.ensures.found c.in-Ok-fin_at.ensures.found refl c.in-Ok.ensures.ring refl c.in-Ok-fin_at.ensures.ring in
    let first = c.ring_next-first.result in
    let next = subst (λ (z : StoreView). next_at z.state.map x ≡ Some first) viewed c.ring_next-first.ensures in
    let is = c.as_slice.ensures in
    let s3 = c.put_loop.new.rec.store.now in
    let s4 = c.kill_all.new.rec.store.now in
    kef-done s x u v G c.relabel.new.rec.store.now c.relabel.ensures.labels c.relabel.ensures.state c.relabel.ensures.puts c.join_rings.new.rec.store.now c.join_rings.ensures.links c.join_rings.ensures.state c.join_rings.ensures.puts first next c.put_loop.new.rec.store.now c.put_loop.ensures.state c.put_loop.ensures.puts s4
    (subst (λ ts. Kills s3.state.map ts s4.state.map) is c.kill_all.ensures.kills) c.kill_all.ensures.state (subst (λ ts. PutsAmong (with_attributes s3.state.map ts) s3 s4) is c.kill_all.ensures.puts)
    c.remove_edge.new.rec.store.now c.remove_edge.ensures.kills c.remove_edge.ensures.state c.remove_edge.ensures.puts
