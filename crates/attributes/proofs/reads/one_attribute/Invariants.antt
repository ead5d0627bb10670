use Rattle.std.proofs.Common.{◌≡◌, length}
use Rattle.std.specs.List.{count_by}
use Rattle.solid_calls.specs.Attributes.{attributes_on}
use Rattle.attributes.proofs.Walked.{AreKids, is_attribute_kid}
use Rattle.attributes.proofs.reads.one_attribute.Given as goal

abbrev pub invariant-loop-tag : goal.invariant-loop-tag
invariant-loop-tag g l =
    AreKids l.store.state.map l.fn.owner l.kids
    × (count_by is_attribute_kid l.kids ≡ length (attributes_on l.store.state.map l.fn.owner))

abbrev pub decreases-loop-tag : goal.decreases-loop-tag
decreases-loop-tag g l = length l.kids
