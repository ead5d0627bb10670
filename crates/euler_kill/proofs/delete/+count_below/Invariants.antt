use Rattle.std.proofs.Common.{◌-◌, length}
use Rattle.euler_kill.proofs.BelowCounted.{CountsSome}
use Rattle.euler_kill.proofs.delete.+count_below.Given as goal

abbrev pub invariant-loop-kid : goal.invariant-loop-kid
invariant-loop-kid g l = CountsSome (l.fn.levels - 1) l.store.state.map l.fn.tag l.initial.kids l.kids l.count

abbrev pub decreases-loop-kid : goal.decreases-loop-kid
decreases-loop-kid g l = length l.kids

abbrev pub decreases-count_below : goal.decreases-count_below
decreases-count_below g f = f.levels
