use Rattle.std.proofs.Common.{◌≡◌, ℕ, ◌+◌, ◌*◌, ◌≤◌, length, Result, Ok, Err, ap, sym, subst, arith}
use Rattle.pk_base.specs.declared.act.Act.TheVariants as act
use Rattle.pk_base.specs.declared.act.Reply.{Reply}
use Rattle.pk_base.specs.declared.refusal.Refusal.{Refusal}
use Rattle.pk_model.specs.Maps.{diff}
use Rattle.pk_model.specs.Tags.{next_tags}
use Rattle.pk_model.specs.State.{PartitionState}
use Rattle.pk_model.specs.Step.{reach_of}
use Rattle.pk_model.proofs.Steps.{reach_of-call_refused}
use Rattle.pk_model.proofs.TagLists.{length-next_tags}
use Rattle.entity_store.specs.Store.{Stored}
use Rattle.pmark_tree.specs.Maps.{map_of}
use Rattle.partition.specs.Contents.{ContentsView, state_of}
use Rattle.partition.specs.Goes.{Made, Performs}
use Rattle.partition.specs.Work.{size}
use Rattle.partition.proofs.ActReach.{call_reached, state_stays}
use Rattle.partition.proofs.Keeping.{called}
use Rattle.partition.proofs.contents.Contents.call.Goals as goal

pub overflow_add-self : goal.overflow_add-self
overflow_add-self g c =
    let K = g.K.Meaning.modelling in
    let p = c.self.inside in
    let call = c.args.call.now in
    let performed = λ (r : Result (Reply × ℕ) Refusal). Performs K p.store.state p.used call (Ok r) c.perform.new.store.state in
    let made : Made K p.store.state p.used call c.in-Ok.reply c.in-Ok.taken c.perform.new.store.state = subst performed c.in-Ok.is c.in_ok-reply.ensures.performs in
    let enough = subst (λ (s : PartitionState). K.cost s.now call ≤ length (next_tags s.blocks s.used)) (sym (ap (λ (v : ContentsView). v.state) c.self.view_is)) c.requires.enough in
    omega (arith, enough, length-next_tags p.store.state.blocks p.used, made.takes, c.self.invariant.within, c.self.invariant.few)

pub invariant_of-self-in-Ok : goal.invariant_of-self-in-Ok
invariant_of-self-in-Ok g c =
    let K = g.K.Meaning.modelling in
    let p = c.self.inside in
    let call = c.args.call.now in
    let performed = λ (r : Result (Reply × ℕ) Refusal). Performs K p.store.state p.used call (Ok r) c.perform.new.store.state in
    let made : Made K p.store.state p.used call c.in-Ok.reply c.in-Ok.taken c.perform.new.store.state = subst performed c.in-Ok.is c.in_ok-reply.ensures.performs in
    let enough = subst (λ (s : PartitionState). K.cost s.now call ≤ length (next_tags s.blocks s.used)) (sym (ap (λ (v : ContentsView). v.state) c.self.view_is)) c.requires.enough in
    let within : p.used + c.in-Ok.taken ≤ 64 * length p.store.state.blocks = omega (arith, enough, length-next_tags p.store.state.blocks p.used, made.takes, c.self.invariant.within) in
    called p.store.state.blocks p.blocks.items p.store.state.map p.tree.marks p.unsaved.changes.entries p.at p.used c.self.invariant c.perform.new.store.state.blocks c.perform.new.store.state.map c.perform.new.unsaved.changes.entries c.in-Ok.taken
    (ap (λ (s : Stored). s.blocks) made.store) (c.in_ok-reply.ensures.unsaved (map_of p.tree.marks p.at) c.self.invariant.net) within

pub returns-in-Ok-clause-does : goal.returns-in-Ok-clause-does
returns-in-Ok-clause-does g c =
    let K = g.K.Meaning.modelling in
    let p = c.self.inside in
    let call = c.args.call.now in
    let performed = λ (r : Result (Reply × ℕ) Refusal). Performs K p.store.state p.used call (Ok r) c.perform.new.store.state in
    let made : Made K p.store.state p.used call c.in-Ok.reply c.in-Ok.taken c.perform.new.store.state = subst performed c.in-Ok.is c.in_ok-reply.ensures.performs in
    subst (λ (s : PartitionState). reach_of K s (act.Call call) ≡ Ok (record { state = state_of c.perform.new.store p.tree.marks p.at (p.used + c.in-Ok.taken) p.holder; reply = c.in-Ok.reply })) (ap (λ (v : ContentsView). v.state) c.self.view_is)
    (call_reached K p.store c.perform.new.store p.tree.marks p.at p.used p.holder call c.in-Ok.reply c.in-Ok.taken made)

pub returns-in-Err-clause-does : goal.returns-in-Err-clause-does
returns-in-Err-clause-does g c =
    let K = g.K.Meaning.modelling in
    let p = c.self.inside in
    let new = c.perform.new.store in
    let call = c.args.call.now in
    let e = c.in-Err.refusal in
    let old = state_of p.store p.tree.marks p.at p.used p.holder in
    let performed = λ (r : Result (Reply × ℕ) Refusal). Performs K p.store.state p.used call (Ok r) new.state in
    let refused = subst performed c.in-Err.is c.in_ok-reply.ensures.performs in
    let stays = state_stays K p.store new p.tree.marks p.at p.used p.holder refused.1 in
    subst (λ (s : PartitionState). (reach_of K s (act.Call call) ≡ Err e) × (state_of new p.tree.marks p.at p.used p.holder ≡ s)) (ap (λ (v : ContentsView). v.state) c.self.view_is)
    (reach_of-call_refused K old call e refused.0, stays)

pub returns-in-Ok-clause-few : goal.returns-in-Ok-clause-few
returns-in-Ok-clause-few g c =
    let K = g.K.Meaning.modelling in
    let p = c.self.inside in
    subst (λ (s : PartitionState). size (diff s.now c.perform.new.store.state.map) ≤ K.changes s.now c.args.call.now) (ap (λ (v : ContentsView). v.state) c.self.view_is)
    (c.in_ok-reply.ensures.few)

pub returns-in-Err-clause-few : goal.returns-in-Err-clause-few
returns-in-Err-clause-few g c =
    let K = g.K.Meaning.modelling in
    subst (λ (s : PartitionState). size (diff s.now c.perform.new.store.state.map) ≤ K.changes s.now c.args.call.now) (ap (λ (v : ContentsView). v.state) c.self.view_is)
    (c.in_ok-reply.ensures.few)
