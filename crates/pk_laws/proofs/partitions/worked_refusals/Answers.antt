use Rattle.pk_laws.proofs.WorkedJournals.{no_marks_answered, outside_answered}
use Rattle.pk_laws.proofs.partitions.worked_refusals.Goals as goal

pub returns-clause-marks : goal.returns-clause-marks
returns-clause-marks c = no_marks_answered

pub returns-clause-points : goal.returns-clause-points
returns-clause-points c = outside_answered
