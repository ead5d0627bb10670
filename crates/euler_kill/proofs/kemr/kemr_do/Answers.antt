use Rattle.std.proofs.Common.{sym, subst, arith}
use Rattle.solid_calls.specs.Pairs.{Takes}
use Rattle.entity_store.specs.NextTags.{left}
use Rattle.euler_kill.proofs.KemrDone.{dead-owned, dead-room, kemr-done, loop-hosted, loop-owned, loop-room, mate-among, mate-is, mate-other, new-hosted, new-room, ring-room}
use Rattle.euler_kill.proofs.KemrFound.{kemr-cost, ready-viewed}
use Rattle.euler_kill.proofs.kemr.kemr_do.Goals as goal

pub take_tag-ring-requires-clause-enough : goal.take_tag-ring-requires-clause-enough
take_tag-ring-requires-clause-enough g c =
    let cost = kemr-cost c.args.rec.now.store.now.state.map c.args.fin c.requires.may.goes in
    let enough = c.requires.tags.enough in
    omega (arith, cost, enough)

pub take_tag-ring-requires-clause-spare : goal.take_tag-ring-requires-clause-spare
take_tag-ring-requires-clause-spare g c =
    let cost = kemr-cost c.args.rec.now.store.now.state.map c.args.fin c.requires.may.goes in
    let spare = c.requires.tags.spare in
    omega (arith, cost, spare)

pub part_ring-least-requires-clause-mate : goal.part_ring-least-requires-clause-mate
part_ring-least-requires-clause-mate g c =
    let r = ready-viewed c.in-Ok.u c.in-Ok-fin_at.w c.take_tag-ring.result (left c.take_tag-ring.new.tags) c.requires.may c.requires.tags c.view.ensures c.view-2.ensures c.view-3.ensures c.blocks-blocks.ensures.hosted c.in-Ok.ensures.found c.in-Ok-fin_at.ensures.found c.in-Ok.ensures.ring c.take_tag-ring.ensures.tag in
    mate-is r

pub part_ring-least-requires-clause-among : goal.part_ring-least-requires-clause-among
part_ring-least-requires-clause-among g c =
    let r = ready-viewed c.in-Ok.u c.in-Ok-fin_at.w c.take_tag-ring.result (left c.take_tag-ring.new.tags) c.requires.may c.requires.tags c.view.ensures c.view-2.ensures c.view-3.ensures c.blocks-blocks.ensures.hosted c.in-Ok.ensures.found c.in-Ok-fin_at.ensures.found c.in-Ok.ensures.ring c.take_tag-ring.ensures.tag in
    mate-among r

pub part_ring-least-requires-clause-other : goal.part_ring-least-requires-clause-other
part_ring-least-requires-clause-other g c =
    let r = ready-viewed c.in-Ok.u c.in-Ok-fin_at.w c.take_tag-ring.result (left c.take_tag-ring.new.tags) c.requires.may c.requires.tags c.view.ensures c.view-2.ensures c.view-3.ensures c.blocks-blocks.ensures.hosted c.in-Ok.ensures.found c.in-Ok-fin_at.ensures.found c.in-Ok.ensures.ring c.take_tag-ring.ensures.tag in
    mate-other r

pub part_ring-least-requires-clause-room : goal.part_ring-least-requires-clause-room
part_ring-least-requires-clause-room g c =
    let r = ready-viewed c.in-Ok.u c.in-Ok-fin_at.w c.take_tag-ring.result (left c.take_tag-ring.new.tags) c.requires.may c.requires.tags c.view.ensures c.view-2.ensures c.view-3.ensures c.blocks-blocks.ensures.hosted c.in-Ok.ensures.found c.in-Ok-fin_at.ensures.found c.in-Ok.ensures.ring c.take_tag-ring.ensures.tag in
    ring-room r

pub put-requires-clause-owned : goal.put-requires-clause-owned
put-requires-clause-owned g c =
    let r = ready-viewed c.in-Ok.u c.in-Ok-fin_at.w c.take_tag-ring.result (left c.take_tag-ring.new.tags) c.requires.may c.requires.tags c.view.ensures c.view-2.ensures c.view-3.ensures c.blocks-blocks.ensures.hosted c.in-Ok.ensures.found c.in-Ok-fin_at.ensures.found c.in-Ok.ensures.ring c.take_tag-ring.ensures.tag in
    let s1 = c.part_ring-least.new.rec.store.now in
    loop-owned r s1 c.part_ring-least.result.kept c.part_ring-least.result.off c.part_ring-least.ensures.parts c.part_ring-least.ensures.state c.part_ring-least.ensures.puts

pub put-requires-clause-hosted : goal.put-requires-clause-hosted
put-requires-clause-hosted g c =
    let r = ready-viewed c.in-Ok.u c.in-Ok-fin_at.w c.take_tag-ring.result (left c.take_tag-ring.new.tags) c.requires.may c.requires.tags c.view.ensures c.view-2.ensures c.view-3.ensures c.blocks-blocks.ensures.hosted c.in-Ok.ensures.found c.in-Ok-fin_at.ensures.found c.in-Ok.ensures.ring c.take_tag-ring.ensures.tag in
    let s1 = c.part_ring-least.new.rec.store.now in
    loop-hosted r s1 c.part_ring-least.result.kept c.part_ring-least.result.off c.part_ring-least.ensures.parts c.part_ring-least.ensures.state c.part_ring-least.ensures.puts c.loop_from.result c.loop_from.ensures

pub put-requires-clause-room : goal.put-requires-clause-room
put-requires-clause-room g c =
    let r = ready-viewed c.in-Ok.u c.in-Ok-fin_at.w c.take_tag-ring.result (left c.take_tag-ring.new.tags) c.requires.may c.requires.tags c.view.ensures c.view-2.ensures c.view-3.ensures c.blocks-blocks.ensures.hosted c.in-Ok.ensures.found c.in-Ok-fin_at.ensures.found c.in-Ok.ensures.ring c.take_tag-ring.ensures.tag in
    let s1 = c.part_ring-least.new.rec.store.now in
    loop-room r s1 c.part_ring-least.result.kept c.part_ring-least.result.off c.part_ring-least.ensures.parts c.part_ring-least.ensures.state c.part_ring-least.ensures.puts

pub put-requires-2-clause-hosted : goal.put-requires-2-clause-hosted
put-requires-2-clause-hosted g c =
    let r = ready-viewed c.in-Ok.u c.in-Ok-fin_at.w c.take_tag-ring.result (left c.take_tag-ring.new.tags) c.requires.may c.requires.tags c.view.ensures c.view-2.ensures c.view-3.ensures c.blocks-blocks.ensures.hosted c.in-Ok.ensures.found c.in-Ok-fin_at.ensures.found c.in-Ok.ensures.ring c.take_tag-ring.ensures.tag in
    let s1 = c.part_ring-least.new.rec.store.now in
    let s2 = c.put.new.self.store.now in
    new-hosted r s1 c.part_ring-least.result.kept c.part_ring-least.result.off c.part_ring-least.ensures.parts c.part_ring-least.ensures.state c.part_ring-least.ensures.puts c.loop_from.result c.loop_from.ensures s2 c.put.ensures.state c.put.ensures.began c.put.ensures.recorded c.loop_from-2.result c.loop_from-2.ensures

pub put-requires-2-clause-room : goal.put-requires-2-clause-room
put-requires-2-clause-room g c =
    let r = ready-viewed c.in-Ok.u c.in-Ok-fin_at.w c.take_tag-ring.result (left c.take_tag-ring.new.tags) c.requires.may c.requires.tags c.view.ensures c.view-2.ensures c.view-3.ensures c.blocks-blocks.ensures.hosted c.in-Ok.ensures.found c.in-Ok-fin_at.ensures.found c.in-Ok.ensures.ring c.take_tag-ring.ensures.tag in
    let s1 = c.part_ring-least.new.rec.store.now in
    let s2 = c.put.new.self.store.now in
    new-room r s1 c.part_ring-least.result.kept c.part_ring-least.result.off c.part_ring-least.ensures.parts c.part_ring-least.ensures.state c.part_ring-least.ensures.puts c.loop_from.result c.loop_from.ensures s2 c.put.ensures.state c.put.ensures.began c.put.ensures.recorded

pub remove_edge-requires-clause-owned : goal.remove_edge-requires-clause-owned
remove_edge-requires-clause-owned g c =
    let r = ready-viewed c.in-Ok.u c.in-Ok-fin_at.w c.take_tag-ring.result (left c.take_tag-ring.new.tags) c.requires.may c.requires.tags c.view.ensures c.view-2.ensures c.view-3.ensures c.blocks-blocks.ensures.hosted c.in-Ok.ensures.found c.in-Ok-fin_at.ensures.found c.in-Ok.ensures.ring c.take_tag-ring.ensures.tag in
    let s1 = c.part_ring-least.new.rec.store.now in
    let s2 = c.put.new.self.store.now in
    let s3 = c.put-2.new.self.store.now in
    dead-owned r s1 c.part_ring-least.result.kept c.part_ring-least.result.off c.part_ring-least.ensures.parts c.part_ring-least.ensures.state c.part_ring-least.ensures.puts c.loop_from.result c.loop_from.ensures s2 c.put.ensures.state c.put.ensures.began c.put.ensures.recorded c.loop_from-2.result c.loop_from-2.ensures s3 c.put-2.ensures.state c.put-2.ensures.began c.put-2.ensures.recorded

pub remove_edge-requires-clause-room : goal.remove_edge-requires-clause-room
remove_edge-requires-clause-room g c =
    let r = ready-viewed c.in-Ok.u c.in-Ok-fin_at.w c.take_tag-ring.result (left c.take_tag-ring.new.tags) c.requires.may c.requires.tags c.view.ensures c.view-2.ensures c.view-3.ensures c.blocks-blocks.ensures.hosted c.in-Ok.ensures.found c.in-Ok-fin_at.ensures.found c.in-Ok.ensures.ring c.take_tag-ring.ensures.tag in
    let s1 = c.part_ring-least.new.rec.store.now in
    let s2 = c.put.new.self.store.now in
    let s3 = c.put-2.new.self.store.now in
    dead-room r s1 c.part_ring-least.result.kept c.part_ring-least.result.off c.part_ring-least.ensures.parts c.part_ring-least.ensures.state c.part_ring-least.ensures.puts c.loop_from.result c.loop_from.ensures s2 c.put.ensures.state c.put.ensures.began c.put.ensures.recorded c.loop_from-2.result c.loop_from-2.ensures s3 c.put-2.ensures.state c.put-2.ensures.began c.put-2.ensures.recorded

pub returns-clause-done : goal.returns-clause-done
returns-clause-done g c =
    let r = ready-viewed c.in-Ok.u c.in-Ok-fin_at.w c.take_tag-ring.result (left c.take_tag-ring.new.tags) c.requires.may c.requires.tags c.view.ensures c.view-2.ensures c.view-3.ensures c.blocks-blocks.ensures.hosted c.in-Ok.ensures.found c.in-Ok-fin_at.ensures.found c.in-Ok.ensures.ring c.take_tag-ring.ensures.tag in
    let s1 = c.part_ring-least.new.rec.store.now in
    let s2 = c.put.new.self.store.now in
    let s3 = c.put-2.new.self.store.now in
    kemr-done r s1 c.part_ring-least.result.kept c.part_ring-least.result.off c.part_ring-least.ensures.parts c.part_ring-least.ensures.state c.part_ring-least.ensures.puts c.loop_from.result c.loop_from.ensures s2 c.put.ensures.state c.put.ensures.began c.put.ensures.recorded c.loop_from-2.result c.loop_from-2.ensures s3 c.put-2.ensures.state c.put-2.ensures.began c.put-2.ensures.recorded c.remove_edge.new.rec.store.now c.remove_edge.ensures.kills c.remove_edge.ensures.state c.remove_edge.ensures.puts

pub returns-clause-takes : goal.returns-clause-takes
returns-clause-takes g c =
    subst (λ n. Takes n c.args.tags.now c.args.out.now c.take_tag-ring.new.tags c.take_tag-ring.new.out)
    (sym (kemr-cost c.args.rec.now.store.now.state.map c.args.fin c.requires.may.goes)) c.take_tag-ring.ensures.takes
