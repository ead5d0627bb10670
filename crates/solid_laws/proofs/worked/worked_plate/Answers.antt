use Rattle.solid_laws.proofs.Computed.{plate_answered}
use Rattle.solid_laws.proofs.worked.worked_plate.Goals as goal

pub returns : goal.returns
returns c = plate_answered
