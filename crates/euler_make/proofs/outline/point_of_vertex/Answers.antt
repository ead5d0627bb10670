use Rattle.std.proofs.Common.{◌≡◌, ◌∙◌, refl, sym, ap, subst, Some, Option, option_copied}
use Rattle.std.specs.Prelude.{IsSome}
use Rattle.std.specs.Option.{option_map_or}
use Rattle.std.specs.FinMap.{get}
use Rattle.std.proofs.lemmas.Option.{same_Some}
use Rattle.pk_base.specs.Blocks.{tag}
use Rattle.pk_base.specs.declared.entity.Entity.TheVariants.{Vertex}
use Rattle.solid_model.specs.Items.{Item, item_at}
use Rattle.solid_model.specs.Shapes.{shape_of}
use Rattle.solid_model.proofs.Reading.{mapped-was}
use Rattle.solid_sound.proofs.shapes.Reading.{vertex_of_class}
use Rattle.solid_places.proofs.Read.{item-of, entity-of}
use Rattle.solid_model.specs.Places.{point_of_vertex as the_point_of_vertex, the_origin}
use Rattle.euler_make.proofs.outline.point_of_vertex.Goals as goal

pub unwrap-entity-requires : goal.unwrap-entity-requires
unwrap-entity-requires g c =
    let m = c.args.store.now.state.map in
    let x = vertex_of_class (item_at (shape_of m) c.args.vertex) c.requires.vertex in
    mapped-was _ c.get.result (subst IsSome (sym (c.get.ensures.value ∙ entity-of m c.requires.sound c.args.vertex _ x.2)) refl)

pub unreachable-requires : goal.unreachable-requires
unreachable-requires g c =
    let m = c.args.store.now.state.map in
    let x = vertex_of_class (item_at (shape_of m) c.args.vertex) c.requires.vertex in
    let is = ap option_copied (sym c.unwrap-entity.ensures) ∙ c.get.ensures.value ∙ entity-of m c.requires.sound c.args.vertex _ x.2 in
    c.in_default.not-Vertex x.0 x.1 (same_Some _ _ is)

pub returns : goal.returns
returns g c =
    let m = c.args.store.now.state.map in
    let h : get m c.args.vertex ≡ Some (Vertex c.in-Vertex.body c.in-Vertex.point) = sym c.get.ensures.value ∙ ap option_copied c.unwrap-entity.ensures ∙ ap Some c.in-Vertex.is in
    sym (ap (λ (o : Option Item). option_map_or the_point_of_vertex o the_origin) (item-of m c.args.vertex _ h))
