use Rattle.std.proofs.Common.{◌≡◌, ◌++◌, nat_le, take, drop}
use Rattle.std.specs.List.{take_while}
use Rattle.views.proofs.bodies.without_padding.Given as goal

abbrev pub invariant-loop-i : goal.invariant-loop-i
invariant-loop-i l = record {
  ahead : take_while (λ b. nat_le 1 b) l.bytes ≡ take l.i l.bytes ++ take_while (λ b. nat_le 1 b) (drop l.i l.bytes);
}
