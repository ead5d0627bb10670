use Rattle.std.proofs.Common.{◌≡◌}
use Rattle.session_uses.proofs.tests.crowd.inspect_all.Given as goal

abbrev pub invariant-loop-p : goal.invariant-loop-p
invariant-loop-p g l = l.root.session ≡ l.session
