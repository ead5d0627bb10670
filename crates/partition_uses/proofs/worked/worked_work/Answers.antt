use Rattle.partition_uses.proofs.WorkedWork.{work_nothing, work_unsaved, work_up, work_down, work_across}
use Rattle.partition_uses.proofs.worked.worked_work.Goals as goal

pub returns-clause-nothing : goal.returns-clause-nothing
returns-clause-nothing c = work_nothing

pub returns-clause-unsaved : goal.returns-clause-unsaved
returns-clause-unsaved c = work_unsaved

pub returns-clause-up : goal.returns-clause-up
returns-clause-up c = work_up

pub returns-clause-down : goal.returns-clause-down
returns-clause-down c = work_down

pub returns-clause-across : goal.returns-clause-across
returns-clause-across c = work_across
