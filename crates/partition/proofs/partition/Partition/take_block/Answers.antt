use Rattle.std.proofs.Common.{◌≡◌, None, Some, true, nat_lt, ap, sym, subst, ◌∙◌, arith}
use Rattle.std.specs.List.{list_all}
use Rattle.pk_base.specs.declared.act.Entry.TheVariants.{Drew}
use Rattle.pk_model.specs.State.{PartitionState}
use Rattle.pk_model.specs.Step.{step}
use Rattle.partition.specs.Partition.{PartitionView}
use Rattle.partition.proofs.Draws.{drawn_from_1, step-drew}
use Rattle.partition.proofs.Valid.{valid_after}
use Rattle.partition.proofs.partition.Partition.take_block.Goals as goal

pub take_block-requires-clause-first : goal.take_block-requires-clause-first
take_block-requires-clause-first g c κs within =
    let K = g.K.Meaning.modelling in
    let p = c.self.inside in
    let above = subst (λ (v : PartitionView). list_all (λ o. nat_lt o c.args.b) v.state.blocks ≡ true) (sym c.self.view_is) c.requires.above in
    drawn_from_1 K (g.met.K.Modeller g.world.𝓛 g.world.𝓜 g.world.𝓡 ((λ s x. x), (λ x. x), (λ x. x), λ x. x)).lawful p.number c.args.b p.journal.items p.contents.state c.self.invariant.replays above

pub invariant_of-self : goal.invariant_of-self
invariant_of-self g c =
    let K = g.K.Meaning.modelling in
    let p = c.self.inside in
    let s = p.contents.state in
    let t = c.unwrap-thread.result in
    let holds : s.holder ≡ Some t = sym c.holder.ensures ∙ c.unwrap-thread.ensures in
    let above = subst (λ (v : PartitionView). list_all (λ o. nat_lt o c.args.b) v.state.blocks ≡ true) (sym c.self.view_is) c.requires.above in
    let e = Drew t c.args.b in
    let leads = subst (λ (n : PartitionState). step K s e ≡ Some (record { state = n; answer = None })) (sym c.take_block.ensures.state) (step-drew K s t c.args.b holds above) in
    let reserved = ap (λ (v : PartitionView). v.reserved) c.self.view_is in
    valid_after K p.number s p.journal.items _ c.self.invariant e None c.take_block.new.self.state _ _ leads c.push_reserved.ensures.items
    (λ h. omega (arith, c.requires.room, reserved, c.push_reserved.ensures.capacity, p.journal.ok.0))
