use Rattle.pk_laws.proofs.WorkedJournals.{repeated, untidy_found, untidy_is_no_modeller}
use Rattle.pk_laws.proofs.partitions.what_is_not_apart.Goals as goal

pub returns-clause-repeat : goal.returns-clause-repeat
returns-clause-repeat c = repeated

pub returns-clause-found : goal.returns-clause-found
returns-clause-found c = untidy_found

pub returns-clause-untidy : goal.returns-clause-untidy
returns-clause-untidy c = untidy_is_no_modeller
