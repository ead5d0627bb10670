use Rattle.std.proofs.Common.{[], ◌∷◌, sym, ap, subst, ◌∙◌, arith}
use Rattle.solid_sound.proofs.rows.KeptRings.{ringmove-keeps}
use Rattle.solid_sound.proofs.rows.RowKeeps.{well-shape}
use Rattle.solid_model.specs.Shapes.{shape_of}
use Rattle.solid_edits.specs.Faces.{IsLoop}
use Rattle.solid_edits.proofs.Going.{done}
use Rattle.solid_edits.proofs.Hosted.{hosted-seen}
use Rattle.entity_store.proofs.Room.{puts-wider, room-for_one}
use Rattle.solid_edits.proofs.TagsPut.{within-changed}
use Rattle.list_facts.proofs.Elements.{Contains-first}
use Rattle.pk_base.specs.declared.call.Call.TheVariants.{RingMove}
use Rattle.euler_kill.proofs.RingMoveFound.{moves}
use Rattle.euler_kill.proofs.RingMoveReached.{ring-has, face-has, ring-moved}
use Rattle.euler_kill.proofs.ringmove.ringmove_do.Goals as goal

pub give_loop-requires-clause-is : goal.give_loop-requires-clause-is
give_loop-requires-clause-is g c =
    let m = c.args.rec.now.store.now.state.map in
    let x = moves (shape_of m) c.args.ring c.args.to c.requires.goes in
    subst IsLoop (sym (ring-has m c.requires.sound c.args.ring c.args.to x)) tt

pub give_loop-requires-clause-owned : goal.give_loop-requires-clause-owned
give_loop-requires-clause-owned g c =
    let m = c.args.rec.now.store.now.state.map in
    let x = moves (shape_of m) c.args.ring c.args.to c.requires.goes in
    (hosted-seen _ _ c.view.ensures c.blocks-blocks.ensures.hosted c.args.ring _ (ring-has m c.requires.sound c.args.ring c.args.to x)).owned

pub give_loop-requires-clause-face : goal.give_loop-requires-clause-face
give_loop-requires-clause-face g c =
    let m = c.args.rec.now.store.now.state.map in
    let x = moves (shape_of m) c.args.ring c.args.to c.requires.goes in
    (hosted-seen _ _ c.view.ensures c.blocks-blocks.ensures.hosted c.args.to _ (face-has m c.requires.sound c.args.ring c.args.to x)).owned

pub give_loop-requires-clause-room : goal.give_loop-requires-clause-room
give_loop-requires-clause-room g c =
    let s = c.args.rec.now.store.now in
    let ring = c.args.ring in
    let x = moves (shape_of s.state.map) ring c.args.to c.requires.goes in
    room-for_one s.recording _ ring c.requires.room (within-changed (shape_of s.state.map) (RingMove ring c.args.to) [] (ring ∷ []) x.changed ring (Contains-first ring []))

pub returns-clause-done : goal.returns-clause-done
returns-clause-done g c =
    let s0 = c.args.rec.now.store.now in
    let s1 = c.give_loop.new.rec.store.now in
    let m = s0.state.map in
    let x = moves (shape_of m) c.args.ring c.args.to c.requires.goes in
    let moved = ring-moved m c.requires.sound c.args.ring c.args.to x in
    done s0 s1 _ [] _ x.row_is c.requires.sound (omega arith) (ringmove-keeps (shape_of m) [] c.args.ring c.args.to (well-shape m c.requires.sound)) (c.give_loop.ensures.state ∙ ap (λ n. record s0.state { map = n }) moved) (puts-wider (c.args.ring ∷ []) _ s0 s1 c.give_loop.ensures.puts (within-changed (shape_of m) (RingMove c.args.ring c.args.to) [] (c.args.ring ∷ []) x.changed))
