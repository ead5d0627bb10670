use Rattle.solid_laws.proofs.Computed.{largest_answered}
use Rattle.solid_laws.proofs.worked.worked_largest_prism.Goals as goal

pub returns : goal.returns
returns c = largest_answered
