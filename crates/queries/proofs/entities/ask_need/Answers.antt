use Rattle.std.proofs.Common.{option_copied, refl, sym, ap, ◌∙◌}
use Rattle.pk_base.specs.declared.call.Call.TheVariants.{Ask}
use Rattle.queries.proofs.Told.{ask-none, ask-told, needs}
use Rattle.queries.proofs.entities.ask_need.Goals as goal

pub returns-in_default : goal.returns-in_default
returns-in_default g c = ask-none c.args.store.now.state.map c.args.tag (sym c.get.ensures.value ∙ ap option_copied c.in_default.is)

pub returns : goal.returns
returns g c =
    let m = c.args.store.now.state.map in
    needs m (Ask c.args.tag) _ 0 (ask-told m c.args.tag _ (sym c.get.ensures.value ∙ ap option_copied c.in-Some.is)) refl refl
