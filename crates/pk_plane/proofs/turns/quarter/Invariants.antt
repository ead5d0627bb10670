use Rattle.std.proofs.Common.{◌≡◌}
use Rattle.pk_plane.specs.Sizes.{IsPointWithin, reach}
use Rattle.pk_plane.specs.Turns.{quarters}
use Rattle.pk_plane.proofs.turns.quarter.Given as goal

abbrev pub invariant-loop : goal.invariant-loop
invariant-loop l = record {
  value : l.at ≡ quarters l.counter l.axis l.fn.p;
  placed : IsPointWithin reach l.at;
}
