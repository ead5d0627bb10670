use Rattle.pk_laws.proofs.WorkedJournals.{below_a_deleted_mark_answered}
use Rattle.pk_laws.proofs.partitions.worked_deleted_mark.Goals as goal

pub returns : goal.returns
returns c = below_a_deleted_mark_answered
