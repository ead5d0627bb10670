use Rattle.std.proofs.Common.{[], ap, arith, ◌∙◌, refl, w64, sym, subst}
use Rattle.std.specs.Prelude.{ℤ, nat_abs}
use Rattle.std.proofs.lemmas.Int.{to_z-of_z}
use Rattle.pk_base.specs.declared.call.Call.TheVariants.{Turn}
use Rattle.entity_store.proofs.Room.{puts-wider}
use Rattle.solid_edits.proofs.Going.{done}
use Rattle.solid_edits.proofs.TagsPut.{within-changed}
use Rattle.pk_plane.specs.Turns.{quarters}
use Rattle.solid_model.specs.Room.{vertices_in_body}
use Rattle.solid_model.specs.Shapes.{shape_of}
use Rattle.solid_motion.specs.Vertices.{AreWithin, MovesVertices}
use Rattle.solid_sound.proofs.rows.KeptMotions.{turn-keeps}
use Rattle.solid_sound.proofs.rows.RowKeeps.{well-shape}
use Rattle.solid_motion.proofs.Reached.{map-moved, turn-goes, points-within}
use Rattle.solid_motion.proofs.turns.turn_do.Goals as goal

pub move_vertices-requires-clause-within : goal.move_vertices-requires-clause-within
move_vertices-requires-clause-within g c =
    let m = c.args.rec.now.store.now.state.map in
    let goes = turn-goes (shape_of m) c.args.body c.args.axis c.args.turns (well-shape m c.requires.sound) c.requires.goes in
    subst (λ (k : ℤ). AreWithin (quarters (nat_abs k) c.args.axis) c.args.body m) (sym (to_z-of_z w64 c.args.turns c.ranges.turns))
    (points-within m c.requires.sound c.args.body (quarters (nat_abs c.args.turns) c.args.axis) goes.0.well)

pub returns-clause-done : goal.returns-clause-done
returns-clause-done g c =
    let s0 = c.args.rec.now.store.now in
    let s1 = c.move_vertices.new.rec.store.now in
    let m = s0.state.map in
    let b = c.args.body in
    let axis = c.args.axis in
    let k = c.args.turns in
    let well = well-shape m c.requires.sound in
    let goes = turn-goes (shape_of m) b axis k well c.requires.goes in
    let moves = subst (λ (j : ℤ). MovesVertices (quarters (nat_abs j) axis) b m s1.state.map) (to_z-of_z w64 k c.ranges.turns) c.move_vertices.ensures.moves in
    let reached = map-moved m c.requires.sound b (quarters (nat_abs k) axis) goes.0.well s1.state.map moves in
    done s0 s1 _ [] _ goes.0.row_is c.requires.sound (omega arith) (turn-keeps (shape_of m) [] b axis k well) (c.move_vertices.ensures.state ∙ ap (λ n. record s0.state { map = n }) reached)
    (puts-wider (vertices_in_body (shape_of m) b) _ s0 s1 c.move_vertices.ensures.puts (within-changed (shape_of m) (Turn b axis k) [] (vertices_in_body (shape_of m) b) refl))
