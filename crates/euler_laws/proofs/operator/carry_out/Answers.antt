use Rattle.std.proofs.Common.{◌≡◌, List, rules, ap, subst, ◌∙◌, take}
use Rattle.entity_store.specs.NextTags.{left}
use Rattle.entity_store.specs.Store.{Stored}
use Rattle.euler_laws.specs.Both.{cost_on, map_after}
use Rattle.euler_laws.specs.Operators.{call_of}
use Rattle.euler_laws.proofs.Performing.{done-state, has-tags, may-do, taken-list, taken-tags}
use Rattle.euler_laws.proofs.operator.carry_out.Goals as goal

pub perform-requires-clause-may : goal.perform-requires-clause-may
perform-requires-clause-may g c = may-do c.recorder_with-rec.result.store.now c.args.store.now.state (call_of c.args.operator) c.in-Ok.need c.args.tags.now c.recorder_with-rec.ensures.state c.requires c.in-Ok.ensures
    (c.recorder_with-rec.ensures.record ∙ c.in_ok-room.ensures)

pub perform-requires-clause-tags : goal.perform-requires-clause-tags
perform-requires-clause-tags g c = has-tags c.recorder_with-rec.result.store.now c.args.store.now.state (call_of c.args.operator) c.in-Ok.need c.args.tags.now c.recorder_with-rec.ensures.state c.requires c.in-Ok.ensures
    c.in_ok-out.out c.in_ok-out.ensures.room

pub returns-clause-state : goal.returns-clause-state
returns-clause-state g c =
    let old = c.args.store.now.state in
    let call = call_of c.args.operator in
    subst (λ (s : Stored). s ≡ record old { map = map_after old.map call (left c.args.tags.now) }) (search rules)
    (done-state c.recorder_with-rec.result.store.now c.perform.new.rec.store.now old call c.args.tags.now c.recorder_with-rec.ensures.state c.perform.ensures.done)

pub returns-clause-tags : goal.returns-clause-tags
returns-clause-tags g c = taken-tags c.recorder_with-rec.result.store.now c.perform.new.rec.store.now c.args.store.now.state (call_of c.args.operator) c.args.tags.now c.recorder_with-rec.ensures.state
    c.perform.new.tags c.in_ok-out.out c.perform.new.out c.perform.ensures.takes

pub returns-clause-made : goal.returns-clause-made
returns-clause-made g c = c.finish.ensures ∙ taken-list c.recorder_with-rec.result.store.now c.perform.new.rec.store.now c.args.store.now.state (call_of c.args.operator) c.args.tags.now c.recorder_with-rec.ensures.state
    c.perform.new.tags c.in_ok-out.out c.perform.new.out c.perform.ensures.takes c.in_ok-out.ensures.empty
