use Rattle.pk_laws.proofs.WorkedReports.{shared_is_legal}
use Rattle.pk_laws.proofs.reports.what_two_threads_report.Goals as goal

pub returns : goal.returns
returns c = shared_is_legal
