use Rattle.pk_laws.proofs.WorkedJournals.{there_and_back_answered, there_and_back_used}
use Rattle.pk_laws.proofs.partitions.worked_there_and_back.Goals as goal

pub returns-clause-answers : goal.returns-clause-answers
returns-clause-answers c = there_and_back_answered

pub returns-clause-used : goal.returns-clause-used
returns-clause-used c = there_and_back_used
