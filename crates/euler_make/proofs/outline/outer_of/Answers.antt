use Rattle.std.proofs.Common.{◌≡◌, ◌∙◌, refl, sym, ap, subst, Some, Option, option_copied}
use Rattle.std.specs.Prelude.{IsSome}
use Rattle.std.specs.Option.{option_map_or}
use Rattle.std.specs.FinMap.{get}
use Rattle.std.proofs.lemmas.Option.{same_Some}
use Rattle.pk_base.specs.Blocks.{tag}
use Rattle.pk_base.specs.declared.entity.Entity.TheVariants.{Face}
use Rattle.solid_model.specs.Items.{Item, item_at}
use Rattle.solid_model.specs.Shapes.{shape_of}
use Rattle.solid_model.proofs.Reading.{mapped-was}
use Rattle.solid_sound.proofs.rows.KeptRings.{face_of_class}
use Rattle.solid_places.proofs.Read.{item-of, entity-of}
use Rattle.solid_sound.proofs.rows.RowKeeps.{well-shape}
use Rattle.solid_places.proofs.Around.{outer-is}
use Rattle.euler_make.proofs.outline.outer_of.Goals as goal

pub unwrap-entity-requires : goal.unwrap-entity-requires
unwrap-entity-requires g c =
    let m = c.args.store.now.state.map in
    let x = face_of_class (item_at (shape_of m) c.args.face) c.requires.face in
    mapped-was _ c.get.result (subst IsSome (sym (c.get.ensures.value ∙ entity-of m c.requires.sound c.args.face _ x.2)) refl)

pub unreachable-requires : goal.unreachable-requires
unreachable-requires g c =
    let m = c.args.store.now.state.map in
    let x = face_of_class (item_at (shape_of m) c.args.face) c.requires.face in
    let is = ap option_copied (sym c.unwrap-entity.ensures) ∙ c.get.ensures.value ∙ entity-of m c.requires.sound c.args.face _ x.2 in
    c.in_default.not-Face x.0 x.1 (same_Some _ _ is)

pub returns-clause-outer : goal.returns-clause-outer
returns-clause-outer g c =
    let m = c.args.store.now.state.map in
    let h : get m c.args.face ≡ Some (Face c.in-Face.shell c.in-Face.outer) = sym c.get.ensures.value ∙ ap option_copied c.unwrap-entity.ensures ∙ ap Some c.in-Face.is in
    sym (outer-is (shape_of m) c.args.face c.in-Face.shell c.in-Face.outer (item-of m c.args.face _ h))

pub returns-clause-class : goal.returns-clause-class
returns-clause-class g c =
    let m = c.args.store.now.state.map in
    let h : get m c.args.face ≡ Some (Face c.in-Face.shell c.in-Face.outer) = sym c.get.ensures.value ∙ ap option_copied c.unwrap-entity.ensures ∙ ap Some c.in-Face.is in
    ((well-shape m c.requires.sound).sound.names.kinds c.args.face _ (item-of m c.args.face _ h)).1.0
