use Rattle.std.proofs.Common.{◌≡◌, None, Some, [], ◌∷◌, ◌++◌, ap, sym, subst, ◌∙◌, arith}
use Rattle.pk_base.specs.declared.act.Entry.TheVariants.{Claimed}
use Rattle.pk_model.specs.State.{PartitionState}
use Rattle.pk_model.specs.Step.{step}
use Rattle.pk_model.proofs.Steps.{step-claimed}
use Rattle.partition.specs.Partition.{PartitionView}
use Rattle.partition.proofs.Valid.{valid_after}
use Rattle.partition.proofs.partition.Partition.claim.Goals as goal

pub invariant_of-self-2 : goal.invariant_of-self-2
invariant_of-self-2 g c =
    let K = g.K.Meaning.modelling in
    let p = c.self.inside in
    let s = p.contents.state in
    let free : s.holder ≡ None = ap (λ (v : PartitionView). v.state.holder) c.self.view_is ∙ c.requires in
    let grown = c.push_reserved.ensures.items ∙ ap (λ j. j ++ Claimed c.args.thread ∷ []) c.in_ok-reserve.ensures.items in
    let leads = subst (λ (n : PartitionState). step K s (Claimed c.args.thread) ≡ Some (record { state = n; answer = None })) (sym c.set_holder.ensures.state) (step-claimed K s c.args.thread free) in
    valid_after K p.number s p.journal.items _ c.self.invariant (Claimed c.args.thread) None c.set_holder.new.self.state _ _ leads grown
    (λ h. omega (arith, c.in_ok-reserve.ensures.ok, c.in_ok-reserve.ensures.len, c.push_reserved.ensures.capacity, p.journal.ok.0, c.reserve.new.self.ok.0))
