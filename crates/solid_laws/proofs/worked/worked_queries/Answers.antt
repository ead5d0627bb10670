use Rattle.solid_laws.proofs.Computed.{queries_answered}
use Rattle.solid_laws.proofs.worked.worked_queries.Goals as goal

pub returns : goal.returns
returns c = queries_answered
