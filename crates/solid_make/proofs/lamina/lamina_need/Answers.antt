use Rattle.solid_make.proofs.Refusals.{are-corners}
use Rattle.solid_make.proofs.lamina.lamina_need.Goals as goal

pub check_polygon-requires : goal.check_polygon-requires
check_polygon-requires g c = are-corners c.args.corners.now c.in_ok-check_count.ensures c.in_ok-check_corners.ensures
