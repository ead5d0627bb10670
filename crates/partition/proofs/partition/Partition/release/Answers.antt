use Rattle.std.proofs.Common.{◌≡◌, None, Some, IsSome, ap, sym, subst, ◌∙◌}
use Rattle.pk_base.specs.declared.act.Entry.TheVariants.{Released}
use Rattle.pk_model.specs.State.{PartitionState}
use Rattle.pk_model.specs.Step.{step}
use Rattle.pk_model.proofs.Steps.{step-released}
use Rattle.partition.proofs.Valid.{valid_after}
use Rattle.partition.proofs.partition.Partition.release.Goals as goal

pub invariant_of-self : goal.invariant_of-self
invariant_of-self g c =
    let K = g.K.Meaning.modelling in
    let p = c.self.inside in
    let s = p.contents.state in
    let t = c.unwrap-thread.result in
    let holds : s.holder ≡ Some t = sym c.holder.ensures ∙ c.unwrap-thread.ensures in
    let leads = subst (λ (n : PartitionState). step K s (Released t) ≡ Some (record { state = n; answer = None })) (sym c.set_holder.ensures.state) (step-released K s t holds) in
    valid_after K p.number s p.journal.items _ c.self.invariant (Released t) None c.set_holder.new.self.state _ _ leads c.push_reserved.ensures.items
    (λ h. let none = ap (λ (n : PartitionState). n.holder) c.set_holder.ensures.state in absurd (subst (λ o. IsSome o → ⊥) (sym none) (λ k. cc) h))
