use Rattle.solid_laws.proofs.Computed.{triangle_answered}
use Rattle.solid_laws.proofs.worked.worked_triangle.Goals as goal

pub returns : goal.returns
returns c = triangle_answered
