use Rattle.pk_laws.proofs.WorkedJournals.{two_branches_answered, two_branches_used}
use Rattle.pk_laws.proofs.partitions.worked_two_branches.Goals as goal

pub returns-clause-answers : goal.returns-clause-answers
returns-clause-answers c = two_branches_answered

pub returns-clause-used : goal.returns-clause-used
returns-clause-used c = two_branches_used
