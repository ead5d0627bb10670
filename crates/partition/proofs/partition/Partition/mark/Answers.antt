use Rattle.std.proofs.Common.{Result, vec_capacity, vec_len, ◌-◌, ◌≡◌, Some, [], ◌∷◌, ◌++◌, ap, refl, sym, subst, ◌∙◌, arith}
use Rattle.pk_base.specs.declared.act.Act.TheVariants as act
use Rattle.pk_base.specs.declared.act.Entry.TheVariants.{Did}
use Rattle.pk_model.specs.Tags.{spare_of}
use Rattle.pk_model.specs.Step.{short}
use Rattle.pk_model.proofs.Steps.{not_short}
use Rattle.std.specs.Prelude.{IfOk}
use Rattle.pk_base.specs.declared.act.Reply.{Reply}
use Rattle.pk_base.specs.declared.refusal.Fault.{Fault}
use Rattle.partition.specs.Partition.{Answers, PartitionView, answer_of}
use Rattle.partition.specs.Work.{load}
use Rattle.partition.proofs.Loads.{marked-anew}
use Rattle.partition.proofs.Valid.{did_answers, did_leads, valid_after, view}
use Rattle.partition.proofs.partition.Partition.mark.Goals as goal

pub invariant_of-self-2 : goal.invariant_of-self-2
invariant_of-self-2 g c =
    let K = g.K.Meaning.modelling in
    let p = c.self.inside in
    let s = p.contents.state in
    let t = c.unwrap-thread.result in
    let a = act.Mark in
    let holds : s.holder ≡ Some t = sym c.holder.ensures ∙ c.unwrap-thread.ensures in
    let spare = ap (λ (v : PartitionView). spare_of v.state.blocks v.state.used) c.self.view_is in
    let enough : short K s a ≡ 0 = not_short 1 (spare_of s.blocks s.used) (omega (arith, c.requires.enough, spare)) in
    let grown = c.end_act.ensures.entry ∙ ap (λ j. j ++ Did t a ∷ []) c.in_ok-reserve.ensures.items in
    valid_after K p.number s p.journal.items _ c.self.invariant (Did t a) (Some c.in_ok-done.done) c.mark.new.self.state _ _
    (did_leads K s c.mark.new.self.state t a c.in_ok-done.done holds enough c.in_ok-done.ensures) grown
    (λ h. omega (arith, c.in_ok-reserve.ensures.ok, c.in_ok-reserve.ensures.len, c.end_act.ensures.room, p.journal.ok.0, c.reserve.new.self.ok.0))

pub returns-clause-answers : goal.returns-clause-answers
returns-clause-answers g c =
    let K = g.K.Meaning.modelling in
    let p = c.self.inside in
    let s = p.contents.state in
    let t = c.unwrap-thread.result in
    let a = act.Mark in
    let holds : s.holder ≡ Some t = sym c.holder.ensures ∙ c.unwrap-thread.ensures in
    let spare = ap (λ (v : PartitionView). spare_of v.state.blocks v.state.used) c.self.view_is in
    let enough : short K s a ≡ 0 = not_short 1 (spare_of s.blocks s.used) (omega (arith, c.requires.enough, spare)) in
    let grown = c.end_act.ensures.entry ∙ ap (λ j. j ++ Did t a ∷ []) c.in_ok-reserve.ensures.items in
    let old = view p.number p.contents p.journal.items (vec_capacity p.journal - vec_len p.journal) in
    let new = view p.number c.mark.new.self c.end_act.new.journal.items (vec_capacity c.end_act.new.journal - vec_len c.end_act.new.journal) in
    subst (λ (v : PartitionView). Answers K v a c.end_act.result new) c.self.view_is
    (subst (λ r. Answers K old a r new) (sym c.end_act.ensures.answer)
    (did_answers K old new t a c.in_ok-done.done holds enough c.in_ok-done.ensures refl grown))

pub returns-clause-anew : goal.returns-clause-anew
returns-clause-anew g c =
    let K = g.K.Meaning.modelling in
    let p = c.self.inside in
    let s = p.contents.state in
    let t = c.unwrap-thread.result in
    let a = act.Mark in
    let holds : s.holder ≡ Some t = sym c.holder.ensures ∙ c.unwrap-thread.ensures in
    let spare = ap (λ (v : PartitionView). spare_of v.state.blocks v.state.used) c.self.view_is in
    let enough : short K s a ≡ 0 = not_short 1 (spare_of s.blocks s.used) (omega (arith, c.requires.enough, spare)) in
    let grown = c.end_act.ensures.entry ∙ ap (λ j. j ++ Did t a ∷ []) c.in_ok-reserve.ensures.items in
    subst (λ (r : Result Reply Fault). IfOk r (λ _. load K p.number c.end_act.new.journal.items ≡ 0)) (sym c.end_act.ensures.answer)
    (subst (λ j. IfOk (answer_of c.in_ok-done.done) (λ _. load K p.number j ≡ 0)) (sym grown)
    (marked-anew K p.number p.journal.items s c.mark.new.self.state t c.in_ok-done.done c.self.invariant.replays
    (did_leads K s c.mark.new.self.state t a c.in_ok-done.done holds enough c.in_ok-done.ensures)))
