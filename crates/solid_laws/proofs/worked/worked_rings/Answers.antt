use Rattle.solid_laws.proofs.Computed.{rings_answered}
use Rattle.solid_laws.proofs.worked.worked_rings.Goals as goal

pub returns : goal.returns
returns c = rings_answered
