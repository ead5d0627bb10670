use Rattle.pk_laws.proofs.WorkedReports.{mark_is_legal, no_other_answer, none_left_over, none_held}
use Rattle.pk_laws.proofs.reports.what_is_a_legal_report.Goals as goal

pub returns-clause-legal : goal.returns-clause-legal
returns-clause-legal c = mark_is_legal

pub returns-clause-other_answer : goal.returns-clause-other_answer
returns-clause-other_answer c = no_other_answer

pub returns-clause-left_over : goal.returns-clause-left_over
returns-clause-left_over c = none_left_over

pub returns-clause-held : goal.returns-clause-held
returns-clause-held c = none_held
