use Rattle.std.proofs.Common.{◌≡◌, true, false, option_copied, sym, ap, ◌∙◌}
use Rattle.std.specs.FinMap.{get}
use Rattle.std.proofs.lemmas.Bool.{false_from_ne_true}
use Rattle.pk_model.specs.Tags.{owns}
use Rattle.entity_store.specs.Store.{StoreView}
use Rattle.entity_store.proofs.MapOf.{get-map_of_other}
use Rattle.entity_store.proofs.store.Store.get.Goals as goal

pub returns-in_err-slot_of-clause-value : goal.returns-in_err-slot_of-clause-value
returns-in_err-slot_of-clause-value g c =
    let other = false_from_ne_true (owns c.deref.result.now c.args.tag) (λ h. let no : false ≡ true = c.in_err-slot_of.ensures.variant.1 h in cc) in
    let absent = get-map_of_other c.self.inside.blocks.items c.self.inside.slots.items c.self.invariant.ascending c.self.invariant.places c.args.tag (ap (λ b. owns b c.args.tag) (sym c.deref.ensures.value) ∙ other) in
    ap option_copied c.from_residual.ensures ∙ sym (ap (λ (s : StoreView). get s.state.map c.args.tag) (sym c.self.view_is) ∙ absent)
