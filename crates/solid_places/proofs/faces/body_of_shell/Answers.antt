use Rattle.std.proofs.Common.{◌≡◌, ◌∙◌, refl, sym, ap, subst, Some, option_copied}
use Rattle.std.specs.Prelude.{IsSome}
use Rattle.std.specs.FinMap.{get}
use Rattle.std.proofs.lemmas.Option.{same_Some}
use Rattle.pk_base.specs.declared.entity.Entity.TheVariants.{Shell}
use Rattle.solid_model.specs.Items.{item_at}
use Rattle.solid_model.specs.Shapes.{shape_of}
use Rattle.solid_model.proofs.Reading.{mapped-was}
use Rattle.solid_sound.proofs.rows.KeptRings.{shell_of_class}
use Rattle.solid_places.proofs.Read.{item-of, entity-of}
use Rattle.solid_places.proofs.Around.{owner-is}
use Rattle.solid_places.proofs.faces.body_of_shell.Goals as goal

pub unwrap-entity-requires : goal.unwrap-entity-requires
unwrap-entity-requires g c =
    let m = c.args.store.now.state.map in
    let x = shell_of_class (item_at (shape_of m) c.args.shell) c.requires.shell in
    mapped-was _ c.get.result (subst IsSome (sym (c.get.ensures.value ∙ entity-of m c.requires.sound c.args.shell _ x.2)) refl)

pub unreachable-requires : goal.unreachable-requires
unreachable-requires g c =
    let m = c.args.store.now.state.map in
    let x = shell_of_class (item_at (shape_of m) c.args.shell) c.requires.shell in
    let is = ap option_copied (sym c.unwrap-entity.ensures) ∙ c.get.ensures.value ∙ entity-of m c.requires.sound c.args.shell _ x.2 in
    c.in_default.not-Shell x.0 x.1 (same_Some _ _ is)

pub returns : goal.returns
returns g c =
    let m = c.args.store.now.state.map in
    let h : get m c.args.shell ≡ Some (Shell c.in-Shell.body c.in-Shell.q) = sym c.get.ensures.value ∙ ap option_copied c.unwrap-entity.ensures ∙ ap Some c.in-Shell.is in
    sym (owner-is (shape_of m) c.args.shell c.in-Shell.body _ (item-of m c.args.shell _ h) refl)
