use Rattle.std.proofs.Common.{◌∙◌, refl, sym, ap, Some, Ok, Err}
use Rattle.std.specs.FinMap.{entries}
use Rattle.std.proofs.lemmas.Result.{err_from_is_err_and}
use Rattle.pk_base.specs.declared.refusal.Refusal.TheVariants.{WrongClass}
use Rattle.solid_model.specs.Places.{as_loop, loop_at}
use Rattle.solid_model.specs.Shapes.{shape_of}
use Rattle.solid_sound.proofs.rows.RowKeeps.{well-shape}
use Rattle.solid_places.specs.Placed.{placed_by, as_placed_loop}
use Rattle.solid_places.proofs.Read.{found, refused, refused-class, answered, item-of}
use Rattle.solid_places.proofs.Classes.{not_loop}
use Rattle.solid_places.proofs.Told.{loop-told, if_refused-told, refused-told}
use Rattle.solid_places.proofs.loops.loop_at.Goals as goal

pub returns-in_err-entity-clause-refused : goal.returns-in_err-entity-clause-refused
returns-in_err-entity-clause-refused g c =
    let m = c.args.store.now.state.map in
    let p = err_from_is_err_and c.from_residual.result c.from_residual.ensures.1 in
    if_refused-told as_placed_loop (loop_at (shape_of c.args.store.now.state.map) c.args.loop_) c.from_residual.result (p.1 ∙ ap Err p.2 ∙ ap (placed_by as_placed_loop) (sym (refused (as_loop (shape_of m)) m c.args.loop_ c.live.result _ c.live.ensures (c.in_err-entity.was))))

pub returns-in_default-clause-refused : goal.returns-in_default-clause-refused
returns-in_default-clause-refused g c =
    let m = c.args.store.now.state.map in
    let e = c.in_ok-entity.entity in
    let h = found m c.args.loop_ c.live.result e c.live.ensures (c.in_ok-entity.was) in
    refused-told as_placed_loop (loop_at (shape_of c.args.store.now.state.map) c.args.loop_) _ (ap (λ k. Err (WrongClass c.args.loop_ k)) c.class.ensures
    ∙ ap (placed_by as_placed_loop) (sym (refused-class (as_loop (shape_of m)) m c.args.loop_ e h (not_loop (shape_of m) (entries m) e c.in_default.not-Loop))))

pub in_face-requires-clause-face : goal.in_face-requires-clause-face
in_face-requires-clause-face g c =
    let m = c.args.store.now.state.map in
    let h = found m c.args.loop_ c.live.result _ c.live.ensures (c.in_ok-entity.was) ∙ ap Some c.in-Loop.is in
    ((well-shape m c.requires).sound.names.kinds c.args.loop_ _ (item-of m c.args.loop_ _ h)).0.0

pub returns-clause-found : goal.returns-clause-found
returns-clause-found g c =
    let m = c.args.store.now.state.map in
    let h = found m c.args.loop_ c.live.result _ c.live.ensures (c.in_ok-entity.was) ∙ ap Some c.in-Loop.is in
    loop-told (loop_at (shape_of c.args.store.now.state.map) c.args.loop_) _ (ap Ok c.in_face.ensures
    ∙ ap (placed_by as_placed_loop) (sym (answered (as_loop (shape_of m)) (shape_of m) c.args.loop_ _ _ (item-of m c.args.loop_ _ h) refl)))
