use Rattle.std.proofs.Common.{◌≡◌, ◌-◌, true, drop, length}
use Rattle.std.specs.Prelude.{◌==◌}
use Rattle.std.specs.List.{list_any}
use Rattle.session_table.proofs.holding.place_of.Given as goal

abbrev pub invariant-loop-i : goal.invariant-loop-i
invariant-loop-i l = list_any (λ q. q == l.p) (drop l.i l.held) ≡ true

abbrev pub decreases-loop-i : goal.decreases-loop-i
decreases-loop-i l = length l.held - l.i
