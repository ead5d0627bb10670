use Rattle.pk_plane.specs.Polygons.{offends}
use Rattle.pk_plane.proofs.Searches.{AllFail}
use Rattle.pk_plane.proofs.polygon.first_offending.Given as goal

abbrev pub invariant-loop-i : goal.invariant-loop-i
invariant-loop-i l = AllFail (offends l.corners) l.i
