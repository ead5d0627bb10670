use Rattle.entity_store.proofs.KeptSlots.{kept_at_first}
use Rattle.entity_store.proofs.MapOf.{map_of-nil}
use Rattle.entity_store.proofs.store.Store.new.Goals as goal

pub invariant_of-result : goal.invariant_of-result
invariant_of-result c = rw (c.new.ensures.items, c.new-2.ensures.items, c.new-3.ensures) kept_at_first

pub returns-clause-map : goal.returns-clause-map
returns-clause-map c = rw (c.new.ensures.items, c.new-2.ensures.items) map_of-nil
