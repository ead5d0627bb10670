use Rattle.std.proofs.Common.{◌≡◌, ◌+◌, length}
use Rattle.std.specs.List.{count_by}
use Rattle.solid_calls.specs.Attributes.{attributes_on}
use Rattle.attributes.proofs.Walked.{is_attribute_kid}
use Rattle.attributes.proofs.reads.count_attributes.Given as goal

abbrev pub invariant-loop-entity : goal.invariant-loop-entity
invariant-loop-entity g l = l.count + count_by is_attribute_kid l.kids ≡ length (attributes_on l.store.state.map l.fn.owner)

abbrev pub decreases-loop-entity : goal.decreases-loop-entity
decreases-loop-entity g l = length l.kids
