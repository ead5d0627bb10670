use Rattle.euler_kill.proofs.KevDone.{cut-among, cut-mate, cut-other, cut-room, edge-owned, edge-room, kev-done, left-first, put-hosted, put-owned, put-room, vertex-owned, vertex-room}
use Rattle.euler_kill.proofs.KevFound.{ready-viewed}
use Rattle.euler_kill.proofs.kev.kev_do.Goals as goal

pub cut_out-parts-requires-clause-mate : goal.cut_out-parts-requires-clause-mate
cut_out-parts-requires-clause-mate g c =
    let r = ready-viewed c.in-Ok.placed c.in-Ok-fin_at.mate c.requires c.view.ensures c.view-2.ensures c.view-3.ensures c.blocks-blocks.ensures.hosted c.in-Ok.ensures.found c.in-Ok-fin_at.ensures.found c.in-Ok.ensures.ring in
    cut-mate r

pub cut_out-parts-requires-clause-among : goal.cut_out-parts-requires-clause-among
cut_out-parts-requires-clause-among g c =
    let r = ready-viewed c.in-Ok.placed c.in-Ok-fin_at.mate c.requires c.view.ensures c.view-2.ensures c.view-3.ensures c.blocks-blocks.ensures.hosted c.in-Ok.ensures.found c.in-Ok-fin_at.ensures.found c.in-Ok.ensures.ring in
    cut-among r

pub cut_out-parts-requires-clause-other : goal.cut_out-parts-requires-clause-other
cut_out-parts-requires-clause-other g c =
    let r = ready-viewed c.in-Ok.placed c.in-Ok-fin_at.mate c.requires c.view.ensures c.view-2.ensures c.view-3.ensures c.blocks-blocks.ensures.hosted c.in-Ok.ensures.found c.in-Ok-fin_at.ensures.found c.in-Ok.ensures.ring in
    cut-other r

pub cut_out-parts-requires-clause-room : goal.cut_out-parts-requires-clause-room
cut_out-parts-requires-clause-room g c =
    let r = ready-viewed c.in-Ok.placed c.in-Ok-fin_at.mate c.requires c.view.ensures c.view-2.ensures c.view-3.ensures c.blocks-blocks.ensures.hosted c.in-Ok.ensures.found c.in-Ok-fin_at.ensures.found c.in-Ok.ensures.ring in
    cut-room r

pub least_left-first-requires-clause-first : goal.least_left-first-requires-clause-first
least_left-first-requires-clause-first g c =
    let r = ready-viewed c.in-Ok.placed c.in-Ok-fin_at.mate c.requires c.view.ensures c.view-2.ensures c.view-3.ensures c.blocks-blocks.ensures.hosted c.in-Ok.ensures.found c.in-Ok-fin_at.ensures.found c.in-Ok.ensures.ring in
    left-first r c.cut_out-parts.new.rec.store.now c.cut_out-parts.ensures.links c.cut_out-parts.ensures.state c.cut_out-parts.ensures.puts c.cut_out-parts.result.kept c.cut_out-parts.ensures.kept

pub put-requires-clause-owned : goal.put-requires-clause-owned
put-requires-clause-owned g c =
    let r = ready-viewed c.in-Ok.placed c.in-Ok-fin_at.mate c.requires c.view.ensures c.view-2.ensures c.view-3.ensures c.blocks-blocks.ensures.hosted c.in-Ok.ensures.found c.in-Ok-fin_at.ensures.found c.in-Ok.ensures.ring in
    put-owned r c.cut_out-parts.new.rec.store.now c.cut_out-parts.ensures.links c.cut_out-parts.ensures.state c.cut_out-parts.ensures.puts c.cut_out-parts.result.kept c.cut_out-parts.ensures.kept c.least_left-first.result c.least_left-first.ensures c.loop_from-rest.result c.loop_from-rest.ensures

pub put-requires-clause-hosted : goal.put-requires-clause-hosted
put-requires-clause-hosted g c =
    let r = ready-viewed c.in-Ok.placed c.in-Ok-fin_at.mate c.requires c.view.ensures c.view-2.ensures c.view-3.ensures c.blocks-blocks.ensures.hosted c.in-Ok.ensures.found c.in-Ok-fin_at.ensures.found c.in-Ok.ensures.ring in
    put-hosted r c.cut_out-parts.new.rec.store.now c.cut_out-parts.ensures.links c.cut_out-parts.ensures.state c.cut_out-parts.ensures.puts c.cut_out-parts.result.kept c.cut_out-parts.ensures.kept c.least_left-first.result c.least_left-first.ensures c.loop_from-rest.result c.loop_from-rest.ensures

pub put-requires-clause-room : goal.put-requires-clause-room
put-requires-clause-room g c =
    let r = ready-viewed c.in-Ok.placed c.in-Ok-fin_at.mate c.requires c.view.ensures c.view-2.ensures c.view-3.ensures c.blocks-blocks.ensures.hosted c.in-Ok.ensures.found c.in-Ok-fin_at.ensures.found c.in-Ok.ensures.ring in
    put-room r c.cut_out-parts.new.rec.store.now c.cut_out-parts.ensures.links c.cut_out-parts.ensures.state c.cut_out-parts.ensures.puts c.cut_out-parts.result.kept c.cut_out-parts.ensures.kept c.least_left-first.result c.least_left-first.ensures c.loop_from-rest.result c.loop_from-rest.ensures

pub remove_edge-requires-clause-owned : goal.remove_edge-requires-clause-owned
remove_edge-requires-clause-owned g c =
    let r = ready-viewed c.in-Ok.placed c.in-Ok-fin_at.mate c.requires c.view.ensures c.view-2.ensures c.view-3.ensures c.blocks-blocks.ensures.hosted c.in-Ok.ensures.found c.in-Ok-fin_at.ensures.found c.in-Ok.ensures.ring in
    edge-owned r c.cut_out-parts.new.rec.store.now c.cut_out-parts.ensures.links c.cut_out-parts.ensures.state c.cut_out-parts.ensures.puts c.cut_out-parts.result.kept c.cut_out-parts.ensures.kept c.least_left-first.result c.least_left-first.ensures c.loop_from-rest.result c.loop_from-rest.ensures c.put.new.self.store.now c.put.ensures.state c.put.ensures.began c.put.ensures.recorded

pub remove_edge-requires-clause-room : goal.remove_edge-requires-clause-room
remove_edge-requires-clause-room g c =
    let r = ready-viewed c.in-Ok.placed c.in-Ok-fin_at.mate c.requires c.view.ensures c.view-2.ensures c.view-3.ensures c.blocks-blocks.ensures.hosted c.in-Ok.ensures.found c.in-Ok-fin_at.ensures.found c.in-Ok.ensures.ring in
    edge-room r c.cut_out-parts.new.rec.store.now c.cut_out-parts.ensures.links c.cut_out-parts.ensures.state c.cut_out-parts.ensures.puts c.cut_out-parts.result.kept c.cut_out-parts.ensures.kept c.least_left-first.result c.least_left-first.ensures c.loop_from-rest.result c.loop_from-rest.ensures c.put.new.self.store.now c.put.ensures.state c.put.ensures.began c.put.ensures.recorded

pub kill-requires-clause-owned : goal.kill-requires-clause-owned
kill-requires-clause-owned g c =
    let r = ready-viewed c.in-Ok.placed c.in-Ok-fin_at.mate c.requires c.view.ensures c.view-2.ensures c.view-3.ensures c.blocks-blocks.ensures.hosted c.in-Ok.ensures.found c.in-Ok-fin_at.ensures.found c.in-Ok.ensures.ring in
    vertex-owned r c.cut_out-parts.new.rec.store.now c.cut_out-parts.ensures.links c.cut_out-parts.ensures.state c.cut_out-parts.ensures.puts c.cut_out-parts.result.kept c.cut_out-parts.ensures.kept c.least_left-first.result c.least_left-first.ensures c.loop_from-rest.result c.loop_from-rest.ensures c.put.new.self.store.now c.put.ensures.state c.put.ensures.began c.put.ensures.recorded c.remove_edge.new.rec.store.now c.remove_edge.ensures.kills c.remove_edge.ensures.state c.remove_edge.ensures.puts

pub kill-requires-clause-room : goal.kill-requires-clause-room
kill-requires-clause-room g c =
    let r = ready-viewed c.in-Ok.placed c.in-Ok-fin_at.mate c.requires c.view.ensures c.view-2.ensures c.view-3.ensures c.blocks-blocks.ensures.hosted c.in-Ok.ensures.found c.in-Ok-fin_at.ensures.found c.in-Ok.ensures.ring in
    vertex-room r c.cut_out-parts.new.rec.store.now c.cut_out-parts.ensures.links c.cut_out-parts.ensures.state c.cut_out-parts.ensures.puts c.cut_out-parts.result.kept c.cut_out-parts.ensures.kept c.least_left-first.result c.least_left-first.ensures c.loop_from-rest.result c.loop_from-rest.ensures c.put.new.self.store.now c.put.ensures.state c.put.ensures.began c.put.ensures.recorded c.remove_edge.new.rec.store.now c.remove_edge.ensures.kills c.remove_edge.ensures.state c.remove_edge.ensures.puts

pub returns-clause-done : goal.returns-clause-done
returns-clause-done g c =
    let r = ready-viewed c.in-Ok.placed c.in-Ok-fin_at.mate c.requires c.view.ensures c.view-2.ensures c.view-3.ensures c.blocks-blocks.ensures.hosted c.in-Ok.ensures.found c.in-Ok-fin_at.ensures.found c.in-Ok.ensures.ring in
    kev-done r c.cut_out-parts.new.rec.store.now c.cut_out-parts.ensures.links c.cut_out-parts.ensures.state c.cut_out-parts.ensures.puts c.cut_out-parts.result.kept c.cut_out-parts.ensures.kept c.least_left-first.result c.least_left-first.ensures c.loop_from-rest.result c.loop_from-rest.ensures c.put.new.self.store.now c.put.ensures.state c.put.ensures.began c.put.ensures.recorded c.remove_edge.new.rec.store.now c.remove_edge.ensures.kills c.remove_edge.ensures.state c.remove_edge.ensures.puts c.kill.new.rec.store.now c.kill.ensures.dies c.kill.ensures.state c.kill.ensures.puts
