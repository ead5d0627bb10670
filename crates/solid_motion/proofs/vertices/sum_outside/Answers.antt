use Rattle.std.proofs.Common.{◌∙◌, sym, ap}
use Rattle.std.specs.Prelude.{find, not}
use Rattle.pk_base.specs.declared.entity.Point.{Point}
use Rattle.solid_model.specs.Ranges.{coordinates_of, is_coordinate}
use Rattle.solid_motion.proofs.Sums.{first-outside, none-outside}
use Rattle.solid_motion.proofs.vertices.sum_outside.Goals as goal

pub returns-in_err-point : goal.returns-in_err-point
returns-in_err-point g c =
    c.from_residual.ensures ∙ sym (none-outside c.args.store.now.state.map c.requires.sound c.args.body c.args.by c.in_err-point.ensures)

pub returns : goal.returns
returns g c =
    c.outside.ensures ∙ ap (λ (p : Point). find (λ v. not (is_coordinate v)) (coordinates_of p)) c.moved.ensures
    ∙ first-outside c.args.store.now.state.map c.requires.sound c.args.body c.args.by c.in_ok-point.field-0-0 c.in_ok-point.point c.in_ok-point.ensures
