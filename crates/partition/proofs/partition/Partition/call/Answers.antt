use Rattle.std.proofs.Common.{vec_capacity, vec_len, ◌+◌, ◌-◌, ◌≡◌, ◌≤◌, Some, [], ◌∷◌, ◌++◌, ap, refl, sym, subst, ◌∙◌, arith}
use Rattle.pk_base.specs.declared.act.Act.TheVariants as act
use Rattle.pk_base.specs.declared.act.Entry.TheVariants.{Did}
use Rattle.pk_model.specs.Step.{short}
use Rattle.pk_model.proofs.TagsTaken.{replay-asked}
use Rattle.partition.specs.Partition.{Answers, PartitionView}
use Rattle.partition.specs.Work.{load}
use Rattle.partition.proofs.ActReach.{room_for_call}
use Rattle.partition.proofs.Loads.{load-called}
use Rattle.partition.proofs.Valid.{did_answers, did_leads, valid_after, view}
use Rattle.partition.proofs.partition.Partition.call.Goals as goal

pub call-requires-after_bounds : goal.call-requires-after_bounds
call-requires-after_bounds g c κs within =
    let K = g.K.Meaning.modelling in
    let p = c.self.inside in
    let s = p.contents.state in
    let enough : short K s (act.Call c.args.call) ≡ 0 = ap (λ (v : PartitionView). short K v.state (act.Call c.args.call)) c.self.view_is ∙ c.requires.enough in
    replay-asked K (g.met.K.Modeller g.world.𝓛 g.world.𝓜 g.world.𝓡 ((λ s x. x), (λ x. x), (λ x. x), λ x. x)).lawful p.number p.journal.items s c.args.call c.self.invariant.replays (room_for_call K s c.args.call enough)

pub invariant_of-self-2 : goal.invariant_of-self-2
invariant_of-self-2 g c =
    let K = g.K.Meaning.modelling in
    let p = c.self.inside in
    let s = p.contents.state in
    let t = c.unwrap-thread.result in
    let a = act.Call c.args.call in
    let holds : s.holder ≡ Some t = sym c.holder.ensures ∙ c.unwrap-thread.ensures in
    let enough : short K s a ≡ 0 = ap (λ (v : PartitionView). short K v.state a) c.self.view_is ∙ c.requires.enough in
    let grown = c.end_act.ensures.entry ∙ ap (λ j. j ++ Did t a ∷ []) c.in_ok-reserve.ensures.items in
    valid_after K p.number s p.journal.items _ c.self.invariant (Did t a) (Some c.in_ok-done.done) c.call.new.self.state _ _
    (did_leads K s c.call.new.self.state t a c.in_ok-done.done holds enough c.in_ok-done.ensures.does) grown
    (λ h. omega (arith, c.in_ok-reserve.ensures.ok, c.in_ok-reserve.ensures.len, c.end_act.ensures.room, p.journal.ok.0, c.reserve.new.self.ok.0))

pub returns-clause-answers : goal.returns-clause-answers
returns-clause-answers g c =
    let K = g.K.Meaning.modelling in
    let p = c.self.inside in
    let s = p.contents.state in
    let t = c.unwrap-thread.result in
    let a = act.Call c.args.call in
    let holds : s.holder ≡ Some t = sym c.holder.ensures ∙ c.unwrap-thread.ensures in
    let enough : short K s a ≡ 0 = ap (λ (v : PartitionView). short K v.state a) c.self.view_is ∙ c.requires.enough in
    let grown = c.end_act.ensures.entry ∙ ap (λ j. j ++ Did t a ∷ []) c.in_ok-reserve.ensures.items in
    let old = view p.number p.contents p.journal.items (vec_capacity p.journal - vec_len p.journal) in
    let new = view p.number c.call.new.self c.end_act.new.journal.items (vec_capacity c.end_act.new.journal - vec_len c.end_act.new.journal) in
    subst (λ (v : PartitionView). Answers K v a c.end_act.result new) c.self.view_is
    (subst (λ r. Answers K old a r new) (sym c.end_act.ensures.answer)
    (did_answers K old new t a c.in_ok-done.done holds enough c.in_ok-done.ensures.does refl grown))

pub returns-clause-load : goal.returns-clause-load
returns-clause-load g c =
    let K = g.K.Meaning.modelling in
    let p = c.self.inside in
    let s = p.contents.state in
    let t = c.unwrap-thread.result in
    let a = act.Call c.args.call in
    let holds : s.holder ≡ Some t = sym c.holder.ensures ∙ c.unwrap-thread.ensures in
    let enough : short K s a ≡ 0 = ap (λ (v : PartitionView). short K v.state a) c.self.view_is ∙ c.requires.enough in
    let grown = c.end_act.ensures.entry ∙ ap (λ j. j ++ Did t a ∷ []) c.in_ok-reserve.ensures.items in
    let more = load-called K p.number p.journal.items s c.call.new.self.state t c.args.call (Some c.in_ok-done.done) (K.changes s.now c.args.call) c.self.invariant.replays
    (did_leads K s c.call.new.self.state t a c.in_ok-done.done holds enough c.in_ok-done.ensures.does) c.in_ok-done.ensures.few in
    subst (λ (v : PartitionView). load K p.number c.end_act.new.journal.items ≤ load K v.number v.journal + K.changes v.state.now c.args.call) c.self.view_is
    (subst (λ j. load K p.number j ≤ load K p.number p.journal.items + K.changes s.now c.args.call) (sym grown) more)
