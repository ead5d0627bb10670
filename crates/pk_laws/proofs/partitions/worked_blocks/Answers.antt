use Rattle.pk_laws.proofs.WorkedJournals.{drew_answered, spent_answered}
use Rattle.pk_laws.proofs.partitions.worked_blocks.Goals as goal

pub returns-clause-drew : goal.returns-clause-drew
returns-clause-drew c = drew_answered

pub returns-clause-spent : goal.returns-clause-spent
returns-clause-spent c = spent_answered
