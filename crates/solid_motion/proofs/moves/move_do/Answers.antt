use Rattle.std.proofs.Common.{[], ap, arith, ◌∙◌, refl}
use Rattle.pk_base.specs.declared.call.Call.TheVariants.{Move}
use Rattle.entity_store.proofs.Room.{puts-wider}
use Rattle.solid_edits.proofs.Going.{done}
use Rattle.solid_edits.proofs.TagsPut.{within-changed}
use Rattle.pk_plane.specs.Turns.{moved}
use Rattle.solid_model.specs.Room.{vertices_in_body}
use Rattle.solid_model.specs.Shapes.{shape_of}
use Rattle.solid_sound.proofs.rows.KeptMotions.{move-keeps}
use Rattle.solid_sound.proofs.rows.RowKeeps.{well-shape}
use Rattle.solid_motion.proofs.Reached.{map-moved, move-goes, points-within}
use Rattle.solid_motion.proofs.moves.move_do.Goals as goal

pub move_vertices-requires-clause-within : goal.move_vertices-requires-clause-within
move_vertices-requires-clause-within g c =
    let m = c.args.rec.now.store.now.state.map in
    let goes = move-goes (shape_of m) c.args.body c.args.by (well-shape m c.requires.sound) c.requires.goes in
    points-within m c.requires.sound c.args.body (moved c.args.by) goes.0.well

pub returns-clause-done : goal.returns-clause-done
returns-clause-done g c =
    let s0 = c.args.rec.now.store.now in
    let s1 = c.move_vertices.new.rec.store.now in
    let m = s0.state.map in
    let b = c.args.body in
    let by = c.args.by in
    let well = well-shape m c.requires.sound in
    let goes = move-goes (shape_of m) b by well c.requires.goes in
    let reached = map-moved m c.requires.sound b (moved by) goes.0.well s1.state.map c.move_vertices.ensures.moves in
    done s0 s1 _ [] _ goes.0.row_is c.requires.sound (omega arith) (move-keeps (shape_of m) [] b by well) (c.move_vertices.ensures.state ∙ ap (λ n. record s0.state { map = n }) reached)
    (puts-wider (vertices_in_body (shape_of m) b) _ s0 s1 c.move_vertices.ensures.puts (within-changed (shape_of m) (Move b by) [] (vertices_in_body (shape_of m) b) refl))
