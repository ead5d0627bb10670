use Rattle.std.proofs.Common.{length, Some}
use Rattle.entity_store.specs.Kids.{kids_of}
use Rattle.solid_places.proofs.Kids.{Walk}
use Rattle.queries.proofs.counts.count_parts.Given as goal

abbrev pub invariant-loop-kid : goal.invariant-loop-kid
invariant-loop-kid g l = Walk l.fn.class (kids_of l.fn.store.state.map (Some l.fn.owner)) l.count l.kids

abbrev pub decreases-loop-kid : goal.decreases-loop-kid
decreases-loop-kid g l = length l.kids
