use Rattle.std.proofs.Common.{◌≡◌, ◌≤◌, sym, subst, ◌∙◌}
use Rattle.std.specs.Prelude.{IsOk}
use Rattle.entity_store.specs.Store.{StoreView}
use Rattle.solid_model.specs.Euler.{list_of}
use Rattle.solid_model.specs.Rows.{tells}
use Rattle.solid_model.specs.Shapes.{shape_of}
use Rattle.solid_model.specs.Sound.{IsSound}
use Rattle.solid_calls.specs.Pairs.{row_on}
use Rattle.modeller.proofs.Performing.{has-room, has-tags, may-do, performs, performs-told}
use Rattle.modeller.proofs.PlainCalls.{plain}
use Rattle.modeller.proofs.StepLimits.{told-unbound}
use Rattle.modeller.proofs.euler.EulerModeller.perform.Goals as goal

pub carry_out-requires-clause-may : goal.carry_out-requires-clause-may
carry_out-requires-clause-may g c = may-do c.args.rec.now.store.now c.args.call.now c.args.tags.now c.args.out c.requires

pub carry_out-requires-clause-tags : goal.carry_out-requires-clause-tags
carry_out-requires-clause-tags g c = has-tags c.args.rec.now.store.now c.args.call.now c.args.tags.now c.args.out c.requires

pub returns-clause-performs : goal.returns-clause-performs
returns-clause-performs g c =
    let s = c.args.rec.now.store.now in
    let call = c.args.call.now in
    performs s c.carry_out.new.rec.store.now call c.args.tags.now c.carry_out.new.tags c.args.out c.carry_out.new.out c.reply_of.result c.requires
    (plain (shape_of s.state.map) call (sym c.is_told.ensures ∙ c.if-is_told.false)) c.carry_out.ensures.done c.carry_out.ensures.takes c.reply_of.ensures

pub carry_out-requires-clause-acts : goal.carry_out-requires-clause-acts
carry_out-requires-clause-acts g c = sym c.is_told.ensures ∙ c.if-is_told.false

pub tell-requires-clause-sound : goal.tell-requires-clause-sound
tell-requires-clause-sound g c =
    let s = c.args.rec.now.store.now in
    subst (λ (v : StoreView). IsSound v.state.map) (sym c.view.ensures) (may-do s c.args.call.now c.args.tags.now c.args.out c.requires).sound

pub tell-requires-clause-goes : goal.tell-requires-clause-goes
tell-requires-clause-goes g c =
    let s = c.args.rec.now.store.now in
    subst (λ (v : StoreView). IsOk (row_on v.state.map c.args.call.now)) (sym c.view.ensures) (may-do s c.args.call.now c.args.tags.now c.args.out c.requires).goes

pub tell-requires-clause-empty : goal.tell-requires-clause-empty
tell-requires-clause-empty g c = c.requires.empty

pub tell-requires-clause-spare : goal.tell-requires-clause-spare
tell-requires-clause-spare g c =
    let s = c.args.rec.now.store.now in
    subst (λ (v : StoreView). list_of (row_on v.state.map c.args.call.now) ≤ c.args.out.spare) (sym c.view.ensures) (has-room s c.args.call.now c.args.tags.now c.args.out c.requires)

pub returns-then-is_told-clause-performs : goal.returns-then-is_told-clause-performs
returns-then-is_told-clause-performs g c =
    let s = c.args.rec.now.store.now in
    performs-told s c.args.call.now c.args.tags.now c.args.out c.requires c.tell.result (subst (λ (v : StoreView). row_on v.state.map c.args.call.now ≡ tells c.tell.result) c.view.ensures c.tell.ensures)

pub returns-then-is_told-clause-cost : goal.returns-then-is_told-clause-cost
returns-then-is_told-clause-cost g c = told-unbound c.args.call.now (sym c.is_told.ensures ∙ c.if-is_told.true) _ _
