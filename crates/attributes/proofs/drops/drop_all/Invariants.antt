use Rattle.std.proofs.Common.{◌≡◌, length}
use Rattle.solid_calls.specs.Attributes.{attributes_on}
use Rattle.attributes.proofs.Dropping.{IsDropping}
use Rattle.attributes.proofs.drops.drop_all.Given as goal

abbrev pub invariant-loop-tag : goal.invariant-loop-tag
invariant-loop-tag g l =
    IsDropping l.fn.owner l.initial.rec.store.now l.rec.store.now × (l.rec.store.ghost_name ≡ l.initial.rec.store.ghost_name)

abbrev pub decreases-loop-tag : goal.decreases-loop-tag
decreases-loop-tag g l = length (attributes_on l.rec.store.now.state.map l.fn.owner)
