use Rattle.std.proofs.Common.{[], sym, ap, subst, ◌∙◌, arith}
use Rattle.std.specs.Prelude.{IsTrue}
use Rattle.std.specs.List.{AllByRecursion}
use Rattle.pk_model.specs.Tags.{owns}
use Rattle.solid_model.specs.Deaths.{◌without◌}
use Rattle.solid_model.specs.Links.{links}
use Rattle.solid_model.specs.Owners.{all_in_body}
use Rattle.solid_model.specs.Shapes.{shape_of}
use Rattle.solid_sound.proofs.rows.KeptDeaths.{kvfs-keeps}
use Rattle.solid_sound.proofs.rows.RowKeeps.{well-shape}
use Rattle.entity_store.specs.Room.{HasRoomForThese, PutsAmong}
use Rattle.entity_store.proofs.Room.{puts-wider, room-part}
use Rattle.solid_edits.specs.BareParts.{tags_of_parts}
use Rattle.solid_edits.specs.Deaths.{Kills, with_attributes}
use Rattle.solid_edits.proofs.Going.{done}
use Rattle.solid_edits.proofs.Hosted.{hosted-seen}
use Rattle.euler_kill.proofs.KvfsReached.{KillsBody, body-killed, kills-body}
use Rattle.euler_kill.proofs.KvfsDone.{has-parts, kvfs-within, parts-seen}
use Rattle.euler_kill.proofs.KvfsFound.{IsBare}
use Rattle.euler_kill.proofs.kvfs.kvfs_do.Goals as goal

pub kill_all-requires-clause-owned : goal.kill_all-requires-clause-owned
kill_all-requires-clause-owned g c =
    let s0 = c.args.rec.now.store.now in
    let p = c.parts_of-parts.result in
    let are = parts-seen _ s0 c.view-2.ensures p c.parts_of-parts.ensures.parts in
    let parts = has-parts s0.state.map c.requires.sound p are in
    let hosted = hosted-seen _ s0 c.view.ensures c.blocks-blocks.ensures.hosted in
    subst (AllByRecursion (λ t. IsTrue (owns s0.state.blocks t))) (sym (c.as_slice.ensures ∙ c.tags_of.ensures)) (
      (hosted p.body _ parts.body_is).owned,
      (
        (hosted p.shell _ parts.shell_is.1).owned,
        ((hosted p.face _ parts.face_is).owned, ((hosted p.loop_ _ parts.loop_is).owned, ((hosted p.vertex _ parts.vertex_is.1).owned, tt))),
      ),
    )

pub kill_all-requires-clause-room : goal.kill_all-requires-clause-room
kill_all-requires-clause-room g c =
    let s0 = c.args.rec.now.store.now in
    let m = s0.state.map in
    let b = c.args.body in
    let p = c.parts_of-parts.result in
    let same = c.parts_of-parts.ensures.body in
    let are = parts-seen _ s0 c.view-2.ensures p c.parts_of-parts.ensures.parts in
    let bare = subst (IsBare (shape_of m)) (sym same) (kills-body (shape_of m) b c.requires.goes).bare in
    subst (λ ts. HasRoomForThese s0.recording (with_attributes m ts)) (sym (c.as_slice.ensures ∙ c.tags_of.ensures))
    (room-part s0.recording _ (with_attributes m (tags_of_parts p)) c.requires.room (kvfs-within m c.requires.sound p are bare b same))

pub returns-clause-done : goal.returns-clause-done
returns-clause-done g c =
    let s0 = c.args.rec.now.store.now in
    let s1 = c.kill_all.new.rec.store.now in
    let m = s0.state.map in
    let b = c.args.body in
    let p = c.parts_of-parts.result in
    let same = c.parts_of-parts.ensures.body in
    let sound = c.requires.sound in
    let are = parts-seen _ s0 c.view-2.ensures p c.parts_of-parts.ensures.parts in
    let is = c.as_slice.ensures ∙ c.tags_of.ensures in
    let kills = subst (λ ts. Kills m ts s1.state.map) is c.kill_all.ensures.kills in
    let puts = subst (λ ts. PutsAmong (with_attributes m ts) s0 s1) is c.kill_all.ensures.puts in
    let x = kills-body (shape_of m) b c.requires.goes in
    let y = subst (KillsBody (shape_of m)) (sym same) x in
    let killed = body-killed m s1.state.map sound p y are kills in
    done s0 s1 _ [] _ x.row_is sound (omega arith) (kvfs-keeps (shape_of m) [] b (well-shape m sound))
    (c.kill_all.ensures.state ∙ ap (λ k. record s0.state { map = k }) (killed ∙ ap (λ u. links (shape_of m without all_in_body (shape_of m) u)) same))
    (puts-wider (with_attributes m (tags_of_parts p)) _ s0 s1 puts (kvfs-within m sound p are y.bare b same))
