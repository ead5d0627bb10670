use Rattle.std.proofs.Common.{◌≡◌, ◌*◌, ◌^◌}
use Rattle.pk_plane.specs.Sizes.{IsWithin}
use Rattle.pk_plane.proofs.Areas.{area_of}
use Rattle.pk_plane.proofs.polygon.twice_area.Given as goal

abbrev pub invariant-loop-i : goal.invariant-loop-i
invariant-loop-i l = record {
  value : l.area ≡ area_of l.corners l.i;
  size : IsWithin (2 ^ 43 * l.i) l.area;
}
