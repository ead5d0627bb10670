use Rattle.std.proofs.Common.{None, sym, ap, subst, ◌*◌, ◌<◌, length, ◌∙◌, arith}
use Rattle.std.specs.FinMap.{get}
use Rattle.std.proofs.lemmas.List.{get_or_read}
use Rattle.pk_model.specs.Tags.{tag_at, tags_of}
use Rattle.entity_store.specs.Store.{StoreView}
use Rattle.entity_store.proofs.MapOf.{get-map_of_slot}
use Rattle.entity_store.proofs.store.Store.entity_in.Goals as goal

pub returns : goal.returns
returns c =
    let blocks = c.self.inside.blocks.items in
    let slots = c.self.inside.slots.items in
    let within : c.args.slot < 64 * length blocks = subst (λ (s : StoreView). c.args.slot < 64 * length s.state.blocks) (sym c.self.view_is) c.requires in
    c.as_ref.ensures.value ∙ get_or_read slots c.args.slot c.index.result.now (omega (arith, within, c.self.invariant.places)) c.index.ensures None
    ∙ sym (get-map_of_slot blocks slots c.self.invariant.ascending c.self.invariant.places c.args.slot within)
    ∙ ap (λ (s : StoreView). get s.state.map (tag_at (tags_of s.state.blocks) c.args.slot)) c.self.view_is
