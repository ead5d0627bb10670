use Rattle.solid_laws.proofs.Computed.{limits_answered}
use Rattle.solid_laws.proofs.worked.worked_limits.Goals as goal

pub returns : goal.returns
returns c = limits_answered
