use Rattle.std.proofs.Common.{List, sym, ap, subst, ◌∙◌}
use Rattle.owner_links.specs.declared.slot.Slot.{Slot}
use Rattle.owner_links.specs.Links.{AreChildren, LinksView}
use Rattle.owner_links.specs.Slots.{slot_at, owners_of, linked_from}
use Rattle.owner_links.proofs.Walks.{ends_from_first, children_from_first}
use Rattle.owner_links.proofs.links.Links.children.Goals as goal

pub from-requires : goal.from-requires
from-requires c = rw (c.deref.ensures.value, c.first_child.ensures, c.deref-2.ensures.value) (ends_from_first c.self.inside.slots.items c.self.invariant c.args.owner)

pub returns : goal.returns
returns c =
    let slots = c.self.inside.slots.items in
    let first = c.first_child.ensures ∙ ap (λ (s : List Slot). (slot_at s c.args.owner).first) c.deref-2.ensures.value in
    let value = c.from.ensures ∙ ap (λ (s : List Slot). linked_from s c.first_child.result) c.deref.ensures.value ∙ ap (linked_from slots) first in
    let are = subst (AreChildren (owners_of slots) c.args.owner) (sym value) (children_from_first slots c.self.invariant c.args.owner) in
    subst (λ (v : LinksView). AreChildren v.owners c.args.owner c.from.result) c.self.view_is are
