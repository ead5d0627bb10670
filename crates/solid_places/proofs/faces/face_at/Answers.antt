use Rattle.std.proofs.Common.{◌∙◌, refl, sym, ap, Some, Ok, Err}
use Rattle.std.specs.FinMap.{entries}
use Rattle.std.proofs.lemmas.Result.{err_from_is_err_and}
use Rattle.pk_base.specs.declared.refusal.Refusal.TheVariants.{WrongClass}
use Rattle.solid_model.specs.Items.Item.{Face}
use Rattle.solid_model.specs.Places.{as_face, face_at}
use Rattle.solid_model.specs.Shapes.{shape_of}
use Rattle.solid_sound.proofs.rows.RowKeeps.{well-shape}
use Rattle.solid_places.specs.Placed.{placed_by, as_placed_face}
use Rattle.solid_places.proofs.Read.{found, refused, refused-class, answered, item-of}
use Rattle.solid_places.proofs.Classes.{not_face}
use Rattle.solid_places.proofs.Told.{face-told, if_refused-told, refused-told}
use Rattle.solid_places.proofs.faces.face_at.Goals as goal

pub returns-in_err-entity-clause-refused : goal.returns-in_err-entity-clause-refused
returns-in_err-entity-clause-refused g c =
    let m = c.args.store.now.state.map in
    let p = err_from_is_err_and c.from_residual.result c.from_residual.ensures.1 in
    if_refused-told as_placed_face (face_at (shape_of c.args.store.now.state.map) c.args.face) c.from_residual.result (p.1 ∙ ap Err p.2 ∙ ap (placed_by as_placed_face) (sym (refused (as_face (shape_of m)) m c.args.face c.live.result _ c.live.ensures (c.in_err-entity.was))))

pub returns-in_default-clause-refused : goal.returns-in_default-clause-refused
returns-in_default-clause-refused g c =
    let m = c.args.store.now.state.map in
    let e = c.in_ok-entity.entity in
    let h = found m c.args.face c.live.result e c.live.ensures (c.in_ok-entity.was) in
    refused-told as_placed_face (face_at (shape_of c.args.store.now.state.map) c.args.face) _ (ap (λ k. Err (WrongClass c.args.face k)) c.class.ensures
    ∙ ap (placed_by as_placed_face) (sym (refused-class (as_face (shape_of m)) m c.args.face e h (not_face (shape_of m) (entries m) e c.in_default.not-Face))))

pub body_of_shell-body-requires-clause-shell : goal.body_of_shell-body-requires-clause-shell
body_of_shell-body-requires-clause-shell g c =
    let m = c.args.store.now.state.map in
    let h = found m c.args.face c.live.result _ c.live.ensures (c.in_ok-entity.was) ∙ ap Some c.in-Face.is in
    ((well-shape m c.requires).sound.names.kinds c.args.face _ (item-of m c.args.face _ h)).0.0

pub returns-clause-found : goal.returns-clause-found
returns-clause-found g c =
    let m = c.args.store.now.state.map in
    let h = found m c.args.face c.live.result _ c.live.ensures (c.in_ok-entity.was) ∙ ap Some c.in-Face.is in
    let at = answered (as_face (shape_of m)) (shape_of m) c.args.face (Face c.in-Face.shell c.in-Face.outer) _ (item-of m c.args.face _ h) refl in
    face-told (face_at (shape_of c.args.store.now.state.map) c.args.face) _ ((λ i. Ok (record { shell = c.in-Face.shell; body = c.body_of_shell-body.ensures i; outer = c.in-Face.outer }))
    ∙ ap (placed_by as_placed_face) (sym at))
