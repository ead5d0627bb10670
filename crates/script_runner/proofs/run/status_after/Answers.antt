use Rattle.std.proofs.Common.{List, Bool, true, false, sym, ap, ◌∙◌, rules, tests}
use Rattle.std.specs.List.{list_any}
use Rattle.std.proofs.lemmas.Iterator.{YieldsList-from_slice}
use Rattle.std.proofs.lemmas.Iterator.Search.{any_from_yields_List}
use Rattle.script_runner.specs.Statuses.{is_refused}
use Rattle.script_text.specs.declared.report.Line.{Line}
use Rattle.script_runner.specs.declared.run.Status.{Status}
use Rattle.script_runner.specs.declared.run.Status.TheVariants as status
use Rattle.script_runner.proofs.run.status_after.Goals as goal

pub returns-else-any : goal.returns-else-any
returns-else-any c =
    let threads = c.as_slice.result.now in
    let test = λ (said : List Line). list_any (λ (l : Line). is_refused l.said) said in
    let ended : Bool → Status = λ some. elim some [ true ↦ status.SomeRefused | false ↦ status.Done ] in
    let is = any_from_yields_List test _ _ c.any.result c.any.ensures.ran (YieldsList-from_slice threads cc) (λ x b q k. search (rules, tests)) in
    ap ended (sym c.if-any.false ∙ is ∙ ap (list_any test) c.as_slice.ensures)
