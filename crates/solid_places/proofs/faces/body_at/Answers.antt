use Rattle.std.proofs.Common.{◌∙◌, refl, sym, ap, Some, Err}
use Rattle.std.specs.FinMap.{entries}
use Rattle.std.proofs.lemmas.Result.{err_from_is_err_and}
use Rattle.pk_base.specs.declared.refusal.Refusal.TheVariants.{WrongClass}
use Rattle.solid_model.specs.Items.Item.{Body}
use Rattle.solid_model.specs.Places.{as_body}
use Rattle.solid_model.specs.Shapes.{shape_of}
use Rattle.solid_places.proofs.Read.{found, refused, refused-class, answered, item-of}
use Rattle.solid_places.proofs.Classes.{not_body}
use Rattle.solid_places.proofs.faces.body_at.Goals as goal

pub returns-in_err-entity : goal.returns-in_err-entity
returns-in_err-entity g c =
    let m = c.args.store.now.state.map in
    let p = err_from_is_err_and c.from_residual.result c.from_residual.ensures.1 in
    p.1 ∙ ap Err p.2 ∙ sym (refused as_body m c.args.body c.live.result _ c.live.ensures (c.in_err-entity.was))

pub returns-in_default : goal.returns-in_default
returns-in_default g c =
    let m = c.args.store.now.state.map in
    let e = c.in_ok-entity.entity in
    let h = found m c.args.body c.live.result e c.live.ensures (c.in_ok-entity.was) in
    ap (λ k. Err (WrongClass c.args.body k)) c.class.ensures
    ∙ sym (refused-class as_body m c.args.body e h (not_body (entries m) e c.in_default.not-Body))

pub returns : goal.returns
returns g c =
    let m = c.args.store.now.state.map in
    let h = found m c.args.body c.live.result _ c.live.ensures (c.in_ok-entity.was) ∙ ap Some c.in-Body.is in
    sym (answered as_body (shape_of m) c.args.body (Body c.in-Body.shell) _ (item-of m c.args.body _ h) refl)
