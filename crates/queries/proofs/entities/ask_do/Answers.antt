use Rattle.std.proofs.Common.{option_copied, refl, sym, ap, subst, ◌∙◌}
use Rattle.std.specs.Prelude.{IsSome}
use Rattle.solid_model.proofs.Reading.{mapped-was}
use Rattle.queries.proofs.Told.{ask-is, ask-live}
use Rattle.queries.proofs.entities.ask_do.Goals as goal

pub unwrap-entity-requires : goal.unwrap-entity-requires
unwrap-entity-requires g c =
    let m = c.args.store.now.state.map in
    mapped-was _ c.get.result (subst IsSome (sym (c.get.ensures.value ∙ (ask-live m c.args.tag c.requires.goes).1)) refl)

pub returns : goal.returns
returns g c = ask-is c.args.store.now.state.map c.requires.sound c.args.tag _ (sym c.get.ensures.value ∙ ap option_copied c.unwrap-entity.ensures)
