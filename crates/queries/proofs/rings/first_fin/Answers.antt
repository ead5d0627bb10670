use Rattle.std.proofs.Common.{option_copied, Some, refl, sym, ap, subst, ◌∙◌}
use Rattle.std.specs.Prelude.{IsSome}
use Rattle.solid_model.proofs.Reading.{mapped-was}
use Rattle.queries.proofs.LoopFins.{loop-fins, loop-live, loop-ring, no_loop}
use Rattle.queries.proofs.rings.first_fin.Goals as goal

pub unwrap-entity-requires : goal.unwrap-entity-requires
unwrap-entity-requires g c =
    let m = c.args.store.now.state.map in
    mapped-was _ c.get.result (subst IsSome (sym (c.get.ensures.value ∙ (loop-live m c.args.ring c.requires.ring).1)) refl)

pub unreachable-requires : goal.unreachable-requires
unreachable-requires g c =
    no_loop c.args.store.now.state.map c.args.ring _ c.requires.ring (sym c.get.ensures.value ∙ ap option_copied c.unwrap-entity.ensures) c.in_default.not-Loop

pub returns-clause-fins : goal.returns-clause-fins
returns-clause-fins g c =
    loop-fins c.args.store.now.state.map c.requires.sound c.args.ring c.in-Loop.face c.in-Loop.first c.in-Loop.lone (sym c.get.ensures.value ∙ ap option_copied c.unwrap-entity.ensures ∙ ap Some c.in-Loop.is)

pub returns-clause-ring : goal.returns-clause-ring
returns-clause-ring g c =
    loop-ring c.args.store.now.state.map c.requires.sound c.args.ring c.in-Loop.face c.in-Loop.first c.in-Loop.lone (sym c.get.ensures.value ∙ ap option_copied c.unwrap-entity.ensures ∙ ap Some c.in-Loop.is)
