use Rattle.std.proofs.Common.{◌≡◌, ◌∙◌, refl, sym, ap, subst, Some, Option, option_copied}
use Rattle.std.specs.Prelude.{IsSome}
use Rattle.std.specs.Option.{option_map_or}
use Rattle.std.specs.FinMap.{get}
use Rattle.std.proofs.lemmas.Option.{same_Some}
use Rattle.pk_base.specs.Blocks.{tag}
use Rattle.pk_base.specs.declared.entity.Entity.TheVariants.{Fin}
use Rattle.solid_model.specs.Items.{Item, item_at}
use Rattle.solid_model.specs.Shapes.{shape_of}
use Rattle.solid_model.proofs.Reading.{mapped-was}
use Rattle.solid_sound.proofs.shapes.Reading.{fin_of_class}
use Rattle.solid_places.proofs.Read.{item-of, entity-of}
use Rattle.solid_sound.proofs.rows.RowKeeps.{well-shape}
use Rattle.solid_model.specs.Places.{vertex_of as the_vertex_of}
use Rattle.euler_make.proofs.outline.vertex_of.Goals as goal

pub unwrap-entity-requires : goal.unwrap-entity-requires
unwrap-entity-requires g c =
    let m = c.args.store.now.state.map in
    let x = fin_of_class (item_at (shape_of m) c.args.fin) c.requires.fin in
    mapped-was _ c.get.result (subst IsSome (sym (c.get.ensures.value ∙ entity-of m c.requires.sound c.args.fin _ x.3)) refl)

pub unreachable-requires : goal.unreachable-requires
unreachable-requires g c =
    let m = c.args.store.now.state.map in
    let x = fin_of_class (item_at (shape_of m) c.args.fin) c.requires.fin in
    let is = ap option_copied (sym c.unwrap-entity.ensures) ∙ c.get.ensures.value ∙ entity-of m c.requires.sound c.args.fin _ x.3 in
    c.in_default.not-Fin _ _ _ x.0 x.1 x.2 (same_Some _ _ is)

pub returns-clause-vertex : goal.returns-clause-vertex
returns-clause-vertex g c =
    let m = c.args.store.now.state.map in
    let h : get m c.args.fin ≡ Some (Fin c.in-Fin.loop_ c.in-Fin.next c.in-Fin.prev c.in-Fin.mate c.in-Fin.edge c.in-Fin.vertex) = sym c.get.ensures.value ∙ ap option_copied c.unwrap-entity.ensures ∙ ap Some c.in-Fin.is in
    sym (ap (λ (o : Option Item). option_map_or the_vertex_of o (tag 0)) (item-of m c.args.fin _ h))

pub returns-clause-class : goal.returns-clause-class
returns-clause-class g c =
    let m = c.args.store.now.state.map in
    let h : get m c.args.fin ≡ Some (Fin c.in-Fin.loop_ c.in-Fin.next c.in-Fin.prev c.in-Fin.mate c.in-Fin.edge c.in-Fin.vertex) = sym c.get.ensures.value ∙ ap option_copied c.unwrap-entity.ensures ∙ ap Some c.in-Fin.is in
    ((well-shape m c.requires.sound).sound.names.kinds c.args.fin _ (item-of m c.args.fin _ h)).2.0
