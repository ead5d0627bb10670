use Rattle.std.proofs.Common.{◌≡◌, ◌<◌, Some, Err, [], ◌∷◌, ◌++◌, ap, sym, subst, ◌∙◌, arith}
use Rattle.pk_base.specs.declared.act.Entry.TheVariants.{Spent}
use Rattle.pk_base.specs.declared.refusal.Refusal.TheVariants as refusal
use Rattle.pk_model.specs.Step.{short}
use Rattle.partition.specs.Partition.{PartitionView}
use Rattle.partition.proofs.Draws.{step-spent}
use Rattle.partition.proofs.Valid.{valid_after}
use Rattle.partition.proofs.partition.Partition.spent.Goals as goal

pub invariant_of-self-2 : goal.invariant_of-self-2
invariant_of-self-2 g c =
    let K = g.K.Meaning.modelling in
    let p = c.self.inside in
    let s = p.contents.state in
    let t = c.unwrap-thread.result in
    let holds : s.holder ≡ Some t = sym c.holder.ensures ∙ c.unwrap-thread.ensures in
    let missing : 0 < short K s c.args.act = subst (λ (v : PartitionView). 0 < short K v.state c.args.act) (sym c.self.view_is) c.requires.short in
    let e = Spent t c.args.next c.args.act in
    let grown = c.push_reserved.ensures.items ∙ ap (λ j. j ++ e ∷ []) c.in_ok-reserve.ensures.items in
    valid_after K p.number s p.journal.items _ c.self.invariant e (Some (Err (refusal.TagsSpent c.args.next))) s _ _
    (step-spent K s t c.args.next c.args.act holds missing) grown
    (λ h. omega (arith, c.in_ok-reserve.ensures.ok, c.in_ok-reserve.ensures.len, c.push_reserved.ensures.capacity, p.journal.ok.0, c.reserve.new.self.ok.0))
