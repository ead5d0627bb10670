use Rattle.script_text.proofs.ReportLines.{one_report}
use Rattle.script_text.proofs.laws.a_text_is_of_one_report.Goals as goal

pub returns : goal.returns
returns c = one_report
