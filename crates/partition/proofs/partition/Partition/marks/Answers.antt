use Rattle.std.proofs.Common.{◌≡◌, Ok, Some, [], ◌∷◌, ◌++◌, ap, sym, ◌∙◌, arith}
use Rattle.pk_base.specs.declared.act.Act.TheVariants as act
use Rattle.pk_base.specs.declared.act.Entry.TheVariants.{Did}
use Rattle.pk_model.specs.Tags.{spare_of}
use Rattle.pk_model.specs.Step.{short}
use Rattle.pk_model.proofs.Steps.{not_short}
use Rattle.pk_base.specs.declared.act.Reply.{Reply}
use Rattle.partition.specs.Contents.{Does}
use Rattle.partition.proofs.Valid.{did_leads, valid_after}
use Rattle.partition.proofs.partition.Partition.marks.Goals as goal

pub invariant_of-self-2 : goal.invariant_of-self-2
invariant_of-self-2 g c =
    let K = g.K.Meaning.modelling in
    let p = c.self.inside in
    let s = p.contents.state in
    let t = c.unwrap-thread.result in
    let a = act.Marks in
    let holds : s.holder ≡ Some t = sym c.holder.ensures ∙ c.unwrap-thread.ensures in
    let enough : short K s a ≡ 0 = not_short 0 (spare_of s.blocks s.used) (omega arith) in
    let does : Does K s a (Ok (Ok c.in_ok-reply.reply)) s = ap (λ (r : Reply). Ok (record { state = s; reply = r })) (sym c.in_ok-reply.ensures) in
    let grown = c.end_act.ensures.entry ∙ ap (λ j. j ++ Did t a ∷ []) c.in_ok-reserve.ensures.items in
    valid_after K p.number s p.journal.items _ c.self.invariant (Did t a) (Some (Ok c.in_ok-reply.reply)) p.contents.state _ _
    (did_leads K s p.contents.state t a (Ok c.in_ok-reply.reply) holds enough does) grown
    (λ h. omega (arith, c.in_ok-reserve.ensures.ok, c.in_ok-reserve.ensures.len, c.end_act.ensures.room, p.journal.ok.0, c.reserve.new.self.ok.0))
