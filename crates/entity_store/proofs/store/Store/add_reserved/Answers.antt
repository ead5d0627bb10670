use Rattle.std.specs.List.{list_all}
use Rattle.std.proofs.Common.{◌≡◌, ◌+◌, None, replicate, true, nat_lt, [], ◌∷◌, ◌++◌, sym, ap, subst, ◌∙◌}
use Rattle.pk_model.specs.Maps.{EntityMap}
use Rattle.entity_store.specs.OwnerLinks.{links_missing}
use Rattle.entity_store.specs.Store.{IsKept, Stored, StoreView, stored}
use Rattle.entity_store.proofs.KeptSlots.{kept_after_block}
use Rattle.entity_store.proofs.MapOf.{map_of-block}
use Rattle.entity_store.proofs.store.Store.add_reserved.Goals as goal

pub invariant_of-self : goal.invariant_of-self
invariant_of-self c =
    let blocks = c.self.inside.blocks.items in
    let slots = c.self.inside.slots.items in
    let above = subst (λ (s : StoreView). list_all (λ o. nat_lt o c.args.b) s.state.blocks ≡ true) (sym c.self.view_is) c.requires.above in
    rw (c.push_reserved.ensures.items, c.add_slots.ensures.items, c.add_links.ensures.owners, c.len.ensures)
    (subst (λ n. IsKept (blocks ++ c.args.b ∷ []) (slots ++ replicate 64 None) c.self.inside.live (c.self.inside.links.owners ++ replicate (links_missing n + 64) None)) (sym c.self.inside.blocks.ok.0)
    (kept_after_block c.self.inside.blocks.items c.self.inside.slots.items c.self.inside.live c.args.b c.self.inside.links.owners c.self.invariant above c.requires.first c.requires.last))

pub returns-clause-state : goal.returns-clause-state
returns-clause-state c =
    let blocks = c.self.inside.blocks.items in
    let slots = c.self.inside.slots.items in
    let longer = c.push_reserved.ensures.items in
    let wider = c.add_slots.ensures.items in
    let with_map : EntityMap → Stored = λ m. record { blocks = blocks ++ c.args.b ∷ []; map = m } in
    let with_block : Stored → Stored = λ s. record { blocks = s.blocks ++ c.args.b ∷ []; map = s.map } in
    ap (λ bs. stored bs c.add_slots.new.slots.items) longer ∙ ap (stored (blocks ++ c.args.b ∷ [])) wider
    ∙ ap with_map (map_of-block blocks slots c.args.b 64 c.self.invariant.places) ∙ ap (λ (v : StoreView). with_block v.state) c.self.view_is
