use Rattle.std.proofs.Common.{refl}
use Rattle.partition_uses.proofs.WorkedWork.{load_one, load_three, load_marked, load_behind, load_refused, load_gone, load_deleted}
use Rattle.partition_uses.proofs.worked.worked_load.Goals as goal

pub returns-clause-beginning : goal.returns-clause-beginning
returns-clause-beginning c = refl

pub returns-clause-one_pair : goal.returns-clause-one_pair
returns-clause-one_pair c = load_one

pub returns-clause-three_pairs : goal.returns-clause-three_pairs
returns-clause-three_pairs c = load_three

pub returns-clause-marked : goal.returns-clause-marked
returns-clause-marked c = load_marked

pub returns-clause-behind : goal.returns-clause-behind
returns-clause-behind c = load_behind

pub returns-clause-refused : goal.returns-clause-refused
returns-clause-refused c = load_refused

pub returns-clause-gone : goal.returns-clause-gone
returns-clause-gone c = load_gone

pub returns-clause-deleted : goal.returns-clause-deleted
returns-clause-deleted c = load_deleted
