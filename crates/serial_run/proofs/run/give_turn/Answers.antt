use Rattle.std.proofs.Common.{◌≡◌, ◌-◌, ◌<◌, ◌≤◌, [], length, ap, ◌∙◌, arith}
use Rattle.std.proofs.lemmas.List.{get_or_default}
use Rattle.serial_run.specs.Serial.{lines_at}
use Rattle.serial_run.specs.Orders.{run_state}
use Rattle.serial_run.proofs.Rounds.{found_thread, made_reached, turn_made}
use Rattle.serial_run.proofs.run.give_turn.Goals as goal

pub carry_out-requires-clause-held : goal.carry_out-requires-clause-held
carry_out-requires-clause-held g c κs within =
    let threads = c.args.threads.now.items in
    let t = c.args.thread in
    let same = c.requires.reached.count in
    let last : t ≤ length threads = omega (arith, same, ap (λ ls. length ls) c.as_slice-all.ensures, c.if-thread-all.false) in
    c.requires.reached.held t c.index_mut.result.now (found_thread threads t c.index_mut.result.now c.if-thread-lt1.false last c.index_mut.ensures.value)

pub returns-clause-turn : goal.returns-clause-turn
returns-clause-turn g c =
    let threads = c.args.threads.now.items in
    let t = c.args.thread in
    let all = c.as_slice-all.ensures in
    let same = c.requires.reached.count in
    let last : t ≤ length threads = omega (arith, same, ap (λ ls. length ls) all, c.if-thread-all.false) in
    let place : t - 1 < length c.as_slice-all.result.now = omega (arith, c.if-thread-lt1.false, c.if-thread-all.false) in
    let own : c.as_slice.result.now ≡ lines_at c.args.script.now.threads t = c.as_slice.ensures ∙ c.index-all-place.is ∙ get_or_default c.as_slice-all.result.now (t - 1) c.index-all-place.result [] place ∙ ap (λ ls. lines_at ls t) all in
    let made = turn_made g.K.Meaning.modelling c.args.script.now.threads c.as_slice.result.now c.args.world.now c.carry_out.new.world threads t c.index_mut.result.now c.carry_out.new.thread c.carry_out.result c.if-thread-lt1.false last c.index_mut.ensures.value own c.carry_out.ensures in
    made

pub returns-clause-reached : goal.returns-clause-reached
returns-clause-reached g c =
    let threads = c.args.threads.now.items in
    let t = c.args.thread in
    let all = c.as_slice-all.ensures in
    let same = c.requires.reached.count in
    let last : t ≤ length threads = omega (arith, same, ap (λ ls. length ls) all, c.if-thread-all.false) in
    let place : t - 1 < length c.as_slice-all.result.now = omega (arith, c.if-thread-lt1.false, c.if-thread-all.false) in
    let own : c.as_slice.result.now ≡ lines_at c.args.script.now.threads t = c.as_slice.ensures ∙ c.index-all-place.is ∙ get_or_default c.as_slice-all.result.now (t - 1) c.index-all-place.result [] place ∙ ap (λ ls. lines_at ls t) all in
    let made = turn_made g.K.Meaning.modelling c.args.script.now.threads c.as_slice.result.now c.args.world.now c.carry_out.new.world threads t c.index_mut.result.now c.carry_out.new.thread c.carry_out.result c.if-thread-lt1.false last c.index_mut.ensures.value own c.carry_out.ensures in
    made_reached g.K.Meaning.modelling (g.met.K.Modeller g.world.𝓛 g.world.𝓜 g.world.𝓡 ((λ s x. x), (λ x. x), (λ x. x), λ x. x)).lawful c.args.script.now c.requires.form (run_state c.args.world.now threads) _ t c.carry_out.result c.requires.reached made
