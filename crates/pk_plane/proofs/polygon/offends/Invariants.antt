use Rattle.pk_plane.specs.Polygons.{has_more_in_common}
use Rattle.pk_plane.proofs.Searches.{AllFail}
use Rattle.pk_plane.proofs.polygon.offends.Given as goal

abbrev pub invariant-loop-j : goal.invariant-loop-j
invariant-loop-j l = AllFail (has_more_in_common l.corners l.i) l.j
