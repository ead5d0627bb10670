use Rattle.std.proofs.Common.{◌≡◌, ◌+◌, set, option_map, is_some, None, sym, ap, subst, ◌∙◌, arith}
use Rattle.std.proofs.lemmas.List.{get_or_read}
use Rattle.pk_model.specs.Maps.{EntityMap, with_entity}
use Rattle.owner_links.specs.Links.{LinksView}
use Rattle.entity_store.specs.OwnerLinks.{owner_link}
use Rattle.entity_store.specs.Store.{Stored, StoreView, IfHosted, IsKept}
use Rattle.entity_store.proofs.KeptSlots.{counts_what_is_there, fits_after_write, kept_after_write, stored_after_write}
use Rattle.entity_store.proofs.FewBlocks.{few_blocks}
use Rattle.entity_store.proofs.OwnerLinks.{owner-fits}
use Rattle.entity_store.proofs.store.Store.put.Goals as goal

pub link_of-requires : goal.link_of-requires
link_of-requires g c =
    let within = rw (c.unwrap-slot.ensures, c.deref.ensures.value) at c.slot_of.ensures.within in
    omega (arith, few_blocks c.self.inside.blocks.items c.self.invariant.ascending c.self.invariant.range, within)

pub relink-requires-clause-owner : goal.relink-requires-clause-owner
relink-requires-clause-owner g c =
    let blocks = c.self.inside.blocks.items in
    let within = rw (c.unwrap-slot.ensures, c.deref.ensures.value) at c.slot_of.ensures.within in
    let place = rw (c.unwrap-slot.ensures, c.deref.ensures.value) at c.slot_of.ensures.place in
    let hosted = subst (λ (s : StoreView). IfHosted s.state.blocks c.args.tag c.args.to) (sym c.self.view_is) c.requires.hosted in
    let fits = owner-fits blocks c.self.inside.slots.items c.self.inside.live c.self.inside.links.owners c.self.invariant c.unwrap-slot.result c.args.tag within place c.args.to hosted in
    rw (c.owner_link-owner.ensures, c.deref-2.ensures.value, c.link_of.ensures) fits

pub recount-self-inside-requires-clause-had : goal.recount-self-inside-requires-clause-had
recount-self-inside-requires-clause-had g c =
    let slots = c.self.inside.slots.items in
    let slot = c.unwrap-slot.result in
    let within = rw (c.unwrap-slot.ensures, c.deref.ensures.value) at c.slot_of.ensures.within in
    let place = rw (c.unwrap-slot.ensures, c.deref.ensures.value) at c.slot_of.ensures.place in
    let there = c.is_some.ensures ∙ ap is_some (get_or_read slots slot c.index.result.now (omega (arith, c.self.invariant.places)) c.index.ensures None) in
    rw there (counts_what_is_there c.self.inside.blocks.items slots c.self.inside.live slot c.args.tag c.self.inside.links.owners c.self.invariant within place)

pub recount-self-inside-requires-clause-fits : goal.recount-self-inside-requires-clause-fits
recount-self-inside-requires-clause-fits g c =
    let slots = c.self.inside.slots.items in
    let slot = c.unwrap-slot.result in
    let within = rw (c.unwrap-slot.ensures, c.deref.ensures.value) at c.slot_of.ensures.within in
    let place = rw (c.unwrap-slot.ensures, c.deref.ensures.value) at c.slot_of.ensures.place in
    let there = c.is_some.ensures ∙ ap is_some (get_or_read slots slot c.index.result.now (omega (arith, c.self.invariant.places)) c.index.ensures None) in
    let fits = fits_after_write c.self.inside.blocks.items slots c.self.inside.live slot c.args.tag c.args.to c.self.inside.links.owners c.self.invariant within place in
    rw (there, c.is_some-2.ensures) (omega (arith, fits))

pub invariant_of-self : goal.invariant_of-self
invariant_of-self g c =
    let slots = c.self.inside.slots.items in
    let slot = c.unwrap-slot.result in
    let within = rw (c.unwrap-slot.ensures, c.deref.ensures.value) at c.slot_of.ensures.within in
    let place = rw (c.unwrap-slot.ensures, c.deref.ensures.value) at c.slot_of.ensures.place in
    let there = c.is_some.ensures ∙ ap is_some (get_or_read slots slot c.index.result.now (omega (arith, c.self.invariant.places)) c.index.ensures None) in
    let hosted = subst (λ (s : StoreView). IfHosted s.state.blocks c.args.tag c.args.to) (sym c.self.view_is) c.requires.hosted in
    let links : c.relink.new.links.owners ≡ set c.self.inside.links.owners (64 + slot) (option_map (owner_link c.self.inside.blocks.items) c.args.to) =
    ap (λ (l : LinksView). l.owners) c.relink.ensures ∙ ap (λ n. set c.self.inside.links.owners n c.owner_link-owner.result) c.link_of.ensures ∙ ap (set c.self.inside.links.owners (64 + slot)) (rw c.deref-2.ensures.value at c.owner_link-owner.ensures) in
    subst (IsKept c.self.inside.blocks.items (set slots slot c.args.to) c.recount-self-inside.result) (sym links) (kept_after_write c.self.inside.blocks.items slots c.self.inside.live c.recount-self-inside.result slot c.args.tag c.args.to c.self.inside.links.owners c.self.invariant within place hosted
    (rw (there, c.is_some-2.ensures) at c.recount-self-inside.ensures))

pub returns-clause-state : goal.returns-clause-state
returns-clause-state g c =
    let blocks = c.self.inside.blocks.items in
    let within = rw (c.unwrap-slot.ensures, c.deref.ensures.value) at c.slot_of.ensures.within in
    let place = rw (c.unwrap-slot.ensures, c.deref.ensures.value) at c.slot_of.ensures.place in
    let with_map : EntityMap → Stored = λ m. record { blocks = blocks; map = m } in
    let written : Stored → Stored = λ s. record { blocks = s.blocks; map = with_entity s.map c.args.tag c.args.to } in
    ap with_map (stored_after_write blocks c.self.inside.slots.items c.self.inside.live c.unwrap-slot.result c.args.tag c.args.to c.self.inside.links.owners c.self.invariant within place)
    ∙ ap (λ (v : StoreView). written v.state) c.self.view_is
