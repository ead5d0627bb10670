use Rattle.std.proofs.Common.{◌≡◌}
use Rattle.session_uses.proofs.tests.crowd.visit_many.Given as goal

abbrev pub invariant-loop-turn : goal.invariant-loop-turn
invariant-loop-turn g l = l.seat.session ≡ l.session
