use Rattle.std.proofs.Common.{◌≡◌, drop}
use Rattle.solid_model.specs.Lamina.{refuse_corners}
use Rattle.solid_make.proofs.checks.check_corners.Given as goal

-- those that are left decide
abbrev pub invariant-loop-corner : goal.invariant-loop-corner
invariant-loop-corner l = refuse_corners (drop l.corner-index l.corners) ≡ refuse_corners l.corners
