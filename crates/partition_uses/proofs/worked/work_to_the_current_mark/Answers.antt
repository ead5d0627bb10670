use Rattle.partition_uses.proofs.WorkedWork.{work-here}
use Rattle.partition_uses.proofs.worked.work_to_the_current_mark.Goals as goal

pub returns : goal.returns
returns c = work-here
