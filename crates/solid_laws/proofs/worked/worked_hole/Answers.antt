use Rattle.solid_laws.proofs.Computed.{hole_answered}
use Rattle.solid_laws.proofs.worked.worked_hole.Goals as goal

pub returns : goal.returns
returns c = hole_answered
