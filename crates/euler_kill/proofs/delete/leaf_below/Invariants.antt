use Rattle.std.proofs.Common.{◌-◌}
use Rattle.std.specs.Prelude.{IsSome}
use Rattle.std.specs.FinMap.{get}
use Rattle.euler_kill.specs.Below.{IsBelowAny}
use Rattle.euler_kill.proofs.OwnersBelow.{rank}
use Rattle.euler_kill.proofs.delete.leaf_below.Given as goal

-- what was come to is live, and stands below the first one
abbrev pub invariant-loop-kid : goal.invariant-loop-kid
invariant-loop-kid g l = IsSome (get l.store.state.map l.here) × IsBelowAny l.store.state.map l.fn.tag l.here

abbrev pub decreases-loop-kid : goal.decreases-loop-kid
decreases-loop-kid g l = 5 - rank l.store.state.map l.here
