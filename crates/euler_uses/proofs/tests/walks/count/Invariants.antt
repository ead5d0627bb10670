use Rattle.std.proofs.Common.{◌≡◌, ◌+◌}
use Rattle.euler_uses.proofs.tests.walks.count.Given as goal

-- a step was added for each that was given
abbrev pub invariant-loop-count : goal.invariant-loop-count
invariant-loop-count g l = l.steps ≡ l.initial.steps + l.count
