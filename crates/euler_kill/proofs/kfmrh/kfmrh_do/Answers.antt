use Rattle.euler_kill.proofs.KfmrhDone.{face-other, face-owned, kfmrh-done, kill-owned, kill-room, loop-is, loop-owned, loop-room, shell-is, shell-room}
use Rattle.euler_kill.proofs.KfmrhFound.{ready-viewed}
use Rattle.euler_kill.proofs.kfmrh.kfmrh_do.Goals as goal

pub kill-requires-clause-owned : goal.kill-requires-clause-owned
kill-requires-clause-owned g c =
    let r = ready-viewed c.in-Ok.killed c.requires c.view.ensures c.view-2.ensures c.blocks-blocks.ensures.ascending c.blocks-blocks.ensures.range c.blocks-blocks.ensures.hosted c.in-Ok.ensures.found in
    kill-owned r

pub kill-requires-clause-room : goal.kill-requires-clause-room
kill-requires-clause-room g c =
    let r = ready-viewed c.in-Ok.killed c.requires c.view.ensures c.view-2.ensures c.blocks-blocks.ensures.ascending c.blocks-blocks.ensures.range c.blocks-blocks.ensures.hosted c.in-Ok.ensures.found in
    kill-room r

pub give_loop-requires-clause-is : goal.give_loop-requires-clause-is
give_loop-requires-clause-is g c =
    let r = ready-viewed c.in-Ok.killed c.requires c.view.ensures c.view-2.ensures c.blocks-blocks.ensures.ascending c.blocks-blocks.ensures.range c.blocks-blocks.ensures.hosted c.in-Ok.ensures.found in
    let s1 = c.kill.new.rec.store.now in
    loop-is r s1 c.kill.ensures.dies c.kill.ensures.state c.kill.ensures.puts

pub give_loop-requires-clause-owned : goal.give_loop-requires-clause-owned
give_loop-requires-clause-owned g c =
    let r = ready-viewed c.in-Ok.killed c.requires c.view.ensures c.view-2.ensures c.blocks-blocks.ensures.ascending c.blocks-blocks.ensures.range c.blocks-blocks.ensures.hosted c.in-Ok.ensures.found in
    let s1 = c.kill.new.rec.store.now in
    loop-owned r s1 c.kill.ensures.dies c.kill.ensures.state c.kill.ensures.puts

pub give_loop-requires-clause-face : goal.give_loop-requires-clause-face
give_loop-requires-clause-face g c =
    let r = ready-viewed c.in-Ok.killed c.requires c.view.ensures c.view-2.ensures c.blocks-blocks.ensures.ascending c.blocks-blocks.ensures.range c.blocks-blocks.ensures.hosted c.in-Ok.ensures.found in
    let s1 = c.kill.new.rec.store.now in
    face-owned r s1 c.kill.ensures.dies c.kill.ensures.state c.kill.ensures.puts

pub give_loop-requires-clause-other : goal.give_loop-requires-clause-other
give_loop-requires-clause-other g c =
    let r = ready-viewed c.in-Ok.killed c.requires c.view.ensures c.view-2.ensures c.blocks-blocks.ensures.ascending c.blocks-blocks.ensures.range c.blocks-blocks.ensures.hosted c.in-Ok.ensures.found in
    let s1 = c.kill.new.rec.store.now in
    face-other r s1 c.kill.ensures.dies c.kill.ensures.state c.kill.ensures.puts

pub give_loop-requires-clause-room : goal.give_loop-requires-clause-room
give_loop-requires-clause-room g c =
    let r = ready-viewed c.in-Ok.killed c.requires c.view.ensures c.view-2.ensures c.blocks-blocks.ensures.ascending c.blocks-blocks.ensures.range c.blocks-blocks.ensures.hosted c.in-Ok.ensures.found in
    let s1 = c.kill.new.rec.store.now in
    loop-room r s1 c.kill.ensures.dies c.kill.ensures.state c.kill.ensures.puts

pub add_q-requires-clause-is : goal.add_q-requires-clause-is
add_q-requires-clause-is g c =
    let r = ready-viewed c.in-Ok.killed c.requires c.view.ensures c.view-2.ensures c.blocks-blocks.ensures.ascending c.blocks-blocks.ensures.range c.blocks-blocks.ensures.hosted c.in-Ok.ensures.found in
    let s1 = c.kill.new.rec.store.now in
    let s2 = c.give_loop.new.rec.store.now in
    shell-is r s1 c.kill.ensures.dies c.kill.ensures.state c.kill.ensures.puts s2 c.give_loop.ensures.state c.give_loop.ensures.puts

pub add_q-requires-clause-room : goal.add_q-requires-clause-room
add_q-requires-clause-room g c =
    let r = ready-viewed c.in-Ok.killed c.requires c.view.ensures c.view-2.ensures c.blocks-blocks.ensures.ascending c.blocks-blocks.ensures.range c.blocks-blocks.ensures.hosted c.in-Ok.ensures.found in
    let s1 = c.kill.new.rec.store.now in
    let s2 = c.give_loop.new.rec.store.now in
    shell-room r s1 c.kill.ensures.dies c.kill.ensures.state c.kill.ensures.puts s2 c.give_loop.ensures.state c.give_loop.ensures.puts

pub returns-clause-done : goal.returns-clause-done
returns-clause-done g c =
    let r = ready-viewed c.in-Ok.killed c.requires c.view.ensures c.view-2.ensures c.blocks-blocks.ensures.ascending c.blocks-blocks.ensures.range c.blocks-blocks.ensures.hosted c.in-Ok.ensures.found in
    let s1 = c.kill.new.rec.store.now in
    let s2 = c.give_loop.new.rec.store.now in
    kfmrh-done r s1 c.kill.ensures.dies c.kill.ensures.state c.kill.ensures.puts s2 c.give_loop.ensures.state c.give_loop.ensures.puts c.add_q.new.rec.store.now c.add_q.ensures.state c.add_q.ensures.puts
