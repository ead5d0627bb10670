use Rattle.std.proofs.Common.{ap, ◌∙◌, rules, tests}
use Rattle.std.specs.List.{list_any}
use Rattle.std.proofs.lemmas.Iterator.{YieldsList-from_slice}
use Rattle.std.proofs.lemmas.Iterator.Search.{any_from_yields_List}
use Rattle.script_runner.specs.Statuses.{is_refused}
use Rattle.script_text.specs.declared.report.Line.{Line}
use Rattle.script_runner.proofs.run.has_refused.Goals as goal

pub returns : goal.returns
returns c =
    let lines = c.as_slice.result.now in
    let test = λ (l : Line). is_refused l.said in
    any_from_yields_List test _ _ _ c.any.ensures.ran (YieldsList-from_slice lines cc) (λ x b q k. search (rules, tests))
    ∙ ap (list_any test) c.as_slice.ensures
