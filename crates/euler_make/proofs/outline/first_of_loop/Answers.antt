use Rattle.std.proofs.Common.{◌≡◌, ◌∙◌, refl, sym, ap, subst, Some, Option, option_copied}
use Rattle.std.specs.Prelude.{IsSome}
use Rattle.std.specs.Option.{option_map_or}
use Rattle.std.specs.FinMap.{get}
use Rattle.std.proofs.lemmas.Option.{same_Some}
use Rattle.pk_base.specs.Blocks.{tag}
use Rattle.pk_base.specs.declared.entity.Entity.TheVariants.{Loop}
use Rattle.solid_model.specs.Items.{Item, item_at}
use Rattle.solid_model.specs.Shapes.{shape_of}
use Rattle.solid_model.proofs.Reading.{mapped-was}
use Rattle.solid_places.proofs.Around.{loop_item}
use Rattle.solid_places.proofs.Read.{item-of, entity-of}
use Rattle.solid_model.specs.Rings.{first_tag}
use Rattle.euler_make.proofs.LoopRead.{loop-read}
use Rattle.euler_make.proofs.outline.first_of_loop.Goals as goal

pub unwrap-entity-requires : goal.unwrap-entity-requires
unwrap-entity-requires g c =
    let m = c.args.store.now.state.map in
    let x = loop_item (item_at (shape_of m) c.args.loop_) c.requires.loop_ in
    mapped-was _ c.get.result (subst IsSome (sym (c.get.ensures.value ∙ entity-of m c.requires.sound c.args.loop_ _ x.3)) refl)

pub unreachable-requires : goal.unreachable-requires
unreachable-requires g c =
    let m = c.args.store.now.state.map in
    let x = loop_item (item_at (shape_of m) c.args.loop_) c.requires.loop_ in
    let is = ap option_copied (sym c.unwrap-entity.ensures) ∙ c.get.ensures.value ∙ entity-of m c.requires.sound c.args.loop_ _ x.3 in
    c.in_default.not-Loop x.0 (first_tag x.1) x.2 (same_Some _ _ is)

pub returns-clause-first : goal.returns-clause-first
returns-clause-first g c =
    let m = c.args.store.now.state.map in
    let x = loop_item (item_at (shape_of m) c.args.loop_) c.requires.loop_ in
    let h : get m c.args.loop_ ≡ Some (Loop c.in-Loop.face c.in-Loop.first c.in-Loop.lone) = sym c.get.ensures.value ∙ ap option_copied c.unwrap-entity.ensures ∙ ap Some c.in-Loop.is in
    (loop-read m c.requires.sound c.args.loop_ x.0 x.1 x.2 x.3 c.in-Loop.face c.in-Loop.first c.in-Loop.lone h).0

pub returns-clause-ring : goal.returns-clause-ring
returns-clause-ring g c =
    let m = c.args.store.now.state.map in
    let x = loop_item (item_at (shape_of m) c.args.loop_) c.requires.loop_ in
    let h : get m c.args.loop_ ≡ Some (Loop c.in-Loop.face c.in-Loop.first c.in-Loop.lone) = sym c.get.ensures.value ∙ ap option_copied c.unwrap-entity.ensures ∙ ap Some c.in-Loop.is in
    (loop-read m c.requires.sound c.args.loop_ x.0 x.1 x.2 x.3 c.in-Loop.face c.in-Loop.first c.in-Loop.lone h).1

pub returns-clause-fins : goal.returns-clause-fins
returns-clause-fins g c =
    let m = c.args.store.now.state.map in
    let x = loop_item (item_at (shape_of m) c.args.loop_) c.requires.loop_ in
    let h : get m c.args.loop_ ≡ Some (Loop c.in-Loop.face c.in-Loop.first c.in-Loop.lone) = sym c.get.ensures.value ∙ ap option_copied c.unwrap-entity.ensures ∙ ap Some c.in-Loop.is in
    (loop-read m c.requires.sound c.args.loop_ x.0 x.1 x.2 x.3 c.in-Loop.face c.in-Loop.first c.in-Loop.lone h).2
