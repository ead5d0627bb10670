use Rattle.std.proofs.Common.{codes}
use Rattle.std.proofs.lemmas.Str.Pattern.{contains_text}
use Rattle.session_cases.proofs.expected.says_refused.Goals as goal

pub returns : goal.returns
returns c = contains_text c.contains.result (codes " refused ") c.args.report.now c.contains.ensures.cases
