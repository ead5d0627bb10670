use Rattle.std.proofs.Common.{sym, subst, arith}
use Rattle.entity_store.specs.NextTags.{left}
use Rattle.solid_model.specs.Shapes.{shape_of}
use Rattle.solid_calls.specs.Pairs.{Takes}
use Rattle.euler_make.proofs.MfkrhDone.{face-hosted, face-owned, face-room, loop-is, loop-other, loop-owned, loop-room, mfkrh-done, shell-is, shell-room}
use Rattle.euler_make.proofs.MfkrhFound.{mfkrh-cost, ready-viewed}
use Rattle.euler_make.proofs.mfkrh.mfkrh_do.Goals as goal

pub take_tag-face-requires : goal.take_tag-face-requires
take_tag-face-requires g c =
    let cost = mfkrh-cost (shape_of c.args.rec.now.store.now.state.map) c.args.ring c.requires.may.goes in
    let enough = c.requires.tags.enough in
    let spare = c.requires.tags.spare in
    record { enough = omega (arith, cost, enough); spare = omega (arith, cost, spare) }

pub put-requires : goal.put-requires
put-requires g c =
    let r = ready-viewed c.in-Ok.placed c.take_tag-face.result (left c.take_tag-face.new.tags) c.requires.may c.requires.tags c.view.ensures c.view-2.ensures c.blocks-blocks.ensures.ascending c.blocks-blocks.ensures.range c.blocks-blocks.ensures.hosted c.in-Ok.ensures.found c.take_tag-face.ensures.tag in
    record { owned = face-owned r; hosted = face-hosted r; room = face-room r }

pub give_loop-requires-clause-is : goal.give_loop-requires-clause-is
give_loop-requires-clause-is g c =
    let r = ready-viewed c.in-Ok.placed c.take_tag-face.result (left c.take_tag-face.new.tags) c.requires.may c.requires.tags c.view.ensures c.view-2.ensures c.blocks-blocks.ensures.ascending c.blocks-blocks.ensures.range c.blocks-blocks.ensures.hosted c.in-Ok.ensures.found c.take_tag-face.ensures.tag in
    let s1 = c.put.new.self.store.now in
    loop-is r s1 c.put.ensures.state c.put.ensures.began c.put.ensures.recorded

pub give_loop-requires-clause-owned : goal.give_loop-requires-clause-owned
give_loop-requires-clause-owned g c =
    let r = ready-viewed c.in-Ok.placed c.take_tag-face.result (left c.take_tag-face.new.tags) c.requires.may c.requires.tags c.view.ensures c.view-2.ensures c.blocks-blocks.ensures.ascending c.blocks-blocks.ensures.range c.blocks-blocks.ensures.hosted c.in-Ok.ensures.found c.take_tag-face.ensures.tag in
    let s1 = c.put.new.self.store.now in
    loop-owned r s1 c.put.ensures.state c.put.ensures.began c.put.ensures.recorded

pub give_loop-requires-clause-other : goal.give_loop-requires-clause-other
give_loop-requires-clause-other g c =
    let r = ready-viewed c.in-Ok.placed c.take_tag-face.result (left c.take_tag-face.new.tags) c.requires.may c.requires.tags c.view.ensures c.view-2.ensures c.blocks-blocks.ensures.ascending c.blocks-blocks.ensures.range c.blocks-blocks.ensures.hosted c.in-Ok.ensures.found c.take_tag-face.ensures.tag in
    let s1 = c.put.new.self.store.now in
    loop-other r s1 c.put.ensures.state c.put.ensures.began c.put.ensures.recorded

pub give_loop-requires-clause-room : goal.give_loop-requires-clause-room
give_loop-requires-clause-room g c =
    let r = ready-viewed c.in-Ok.placed c.take_tag-face.result (left c.take_tag-face.new.tags) c.requires.may c.requires.tags c.view.ensures c.view-2.ensures c.blocks-blocks.ensures.ascending c.blocks-blocks.ensures.range c.blocks-blocks.ensures.hosted c.in-Ok.ensures.found c.take_tag-face.ensures.tag in
    let s1 = c.put.new.self.store.now in
    loop-room r s1 c.put.ensures.state c.put.ensures.began c.put.ensures.recorded

pub add_q-requires-clause-is : goal.add_q-requires-clause-is
add_q-requires-clause-is g c =
    let r = ready-viewed c.in-Ok.placed c.take_tag-face.result (left c.take_tag-face.new.tags) c.requires.may c.requires.tags c.view.ensures c.view-2.ensures c.blocks-blocks.ensures.ascending c.blocks-blocks.ensures.range c.blocks-blocks.ensures.hosted c.in-Ok.ensures.found c.take_tag-face.ensures.tag in
    let s1 = c.put.new.self.store.now in
    let s2 = c.give_loop.new.rec.store.now in
    shell-is r s1 c.put.ensures.state c.put.ensures.began c.put.ensures.recorded s2 c.give_loop.ensures.state c.give_loop.ensures.puts

pub add_q-requires-clause-room : goal.add_q-requires-clause-room
add_q-requires-clause-room g c =
    let r = ready-viewed c.in-Ok.placed c.take_tag-face.result (left c.take_tag-face.new.tags) c.requires.may c.requires.tags c.view.ensures c.view-2.ensures c.blocks-blocks.ensures.ascending c.blocks-blocks.ensures.range c.blocks-blocks.ensures.hosted c.in-Ok.ensures.found c.take_tag-face.ensures.tag in
    let s1 = c.put.new.self.store.now in
    let s2 = c.give_loop.new.rec.store.now in
    shell-room r s1 c.put.ensures.state c.put.ensures.began c.put.ensures.recorded s2 c.give_loop.ensures.state c.give_loop.ensures.puts

pub returns-clause-done : goal.returns-clause-done
returns-clause-done g c =
    let r = ready-viewed c.in-Ok.placed c.take_tag-face.result (left c.take_tag-face.new.tags) c.requires.may c.requires.tags c.view.ensures c.view-2.ensures c.blocks-blocks.ensures.ascending c.blocks-blocks.ensures.range c.blocks-blocks.ensures.hosted c.in-Ok.ensures.found c.take_tag-face.ensures.tag in
    let s1 = c.put.new.self.store.now in
    let s2 = c.give_loop.new.rec.store.now in
    mfkrh-done r s1 c.put.ensures.state c.put.ensures.began c.put.ensures.recorded s2 c.give_loop.ensures.state c.give_loop.ensures.puts c.add_q.new.rec.store.now c.add_q.ensures.state c.add_q.ensures.puts

pub returns-clause-takes : goal.returns-clause-takes
returns-clause-takes g c =
    let cost = mfkrh-cost (shape_of c.args.rec.now.store.now.state.map) c.args.ring c.requires.may.goes in
    subst (λ n. Takes n c.args.tags.now c.args.out.now c.take_tag-face.new.tags c.take_tag-face.new.out) (sym cost) c.take_tag-face.ensures.takes
