use Rattle.owner_links.proofs.Walks.{kept_with_more}
use Rattle.owner_links.proofs.links.Links.add_reserved.Goals as goal

pub invariant_of-self : goal.invariant_of-self
invariant_of-self c = rw c.add_slots.ensures.items (kept_with_more c.self.inside.slots.items 64 c.self.invariant)
