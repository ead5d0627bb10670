use Rattle.pk_laws.proofs.WorkedReports.{in_order_is_legal, out_of_order_journals, out_of_order_is_not_legal}
use Rattle.pk_laws.proofs.reports.what_is_out_of_order.Goals as goal

pub returns-clause-in_order : goal.returns-clause-in_order
returns-clause-in_order c = in_order_is_legal

pub returns-clause-journals : goal.returns-clause-journals
returns-clause-journals c = out_of_order_journals

pub returns-clause-out_of_order : goal.returns-clause-out_of_order
returns-clause-out_of_order c = out_of_order_is_not_legal
