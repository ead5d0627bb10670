use Rattle.std.proofs.Common.{◌≡◌, sym, ap, subst, ◌∙◌}
use Rattle.std.specs.Prelude.{IfOk}
use Rattle.script_text.specs.LegalReport.{LegalReport}
use Rattle.serial_run.specs.Serial.{line_count, rounds, run_begins, run_of, serial, turns}
use Rattle.serial_run.specs.Serial.{report_of as the_report_of}
use Rattle.serial_run.specs.Reached.{IsReached}
use Rattle.serial_run.specs.Orders.{run_state}
use Rattle.serial_run.proofs.Turning.{begins_reached}
use Rattle.serial_run.proofs.Legal.{serial_legal}
use Rattle.serial_run.proofs.Rounds.{begun, ok_is}
use Rattle.serial_run.proofs.run.run_with.Goals as goal

pub give_turns-requires-clause-reached : goal.give_turns-requires-clause-reached
give_turns-requires-clause-reached g c κs within =
    let K = g.K.Meaning.modelling in
    let script = c.args.script.now in
    let w = c.in_ok-world.world in
    let threads = c.in_ok-threads.threads.items in
    let begins : run_state w threads ≡ run_begins script = begun script w threads c.as_slice.result.now c.as_slice.ensures c.in_ok-world.ensures c.in_ok-threads.ensures in
    subst (IsReached K script) (sym begins) (begins_reached K script (g.met.K.Modeller g.world.𝓛 g.world.𝓜 g.world.𝓡 ((λ s x. x), (λ x. x), (λ x. x), λ x. x)).lawful c.requires.form)

pub give_rounds-requires-clause-reached : goal.give_rounds-requires-clause-reached
give_rounds-requires-clause-reached g c κs within = c.in_ok-give_turns.ensures.reached

pub returns-clause-serial : goal.returns-clause-serial
returns-clause-serial g c =
    let K = g.K.Meaning.modelling in
    let script = c.args.script.now in
    let w = c.in_ok-world.world in
    let threads = c.in_ok-threads.threads.items in
    let begins : run_state w threads ≡ run_begins script = begun script w threads c.as_slice.result.now c.as_slice.ensures c.in_ok-world.ensures c.in_ok-threads.ensures in
    let run : run_state c.give_rounds.new.world c.give_rounds.new.threads.items ≡ run_of K script = c.in_ok-give_rounds.ensures.rounds ∙ ap (λ r. rounds K script.threads r (line_count script.threads)) (c.in_ok-give_turns.ensures.turns ∙ ap (λ r. turns K script.threads r script.schedule) begins) in
    let is = subst (λ x. IfOk c.report_of.result (λ r. r ≡ the_report_of script.n script.last x)) run c.report_of.ensures.report in
    is

pub returns-clause-legal : goal.returns-clause-legal
returns-clause-legal g c =
    let K = g.K.Meaning.modelling in
    let script = c.args.script.now in
    let w = c.in_ok-world.world in
    let threads = c.in_ok-threads.threads.items in
    let begins : run_state w threads ≡ run_begins script = begun script w threads c.as_slice.result.now c.as_slice.ensures c.in_ok-world.ensures c.in_ok-threads.ensures in
    let run : run_state c.give_rounds.new.world c.give_rounds.new.threads.items ≡ run_of K script = c.in_ok-give_rounds.ensures.rounds ∙ ap (λ r. rounds K script.threads r (line_count script.threads)) (c.in_ok-give_turns.ensures.turns ∙ ap (λ r. turns K script.threads r script.schedule) begins) in
    let is = subst (λ x. IfOk c.report_of.result (λ r. r ≡ the_report_of script.n script.last x)) run c.report_of.ensures.report in
    ok_is (LegalReport K script) (serial K script) c.report_of.result is (serial_legal K (g.met.K.Modeller g.world.𝓛 g.world.𝓜 g.world.𝓡 ((λ s x. x), (λ x. x), (λ x. x), λ x. x)).lawful script c.requires.form)
