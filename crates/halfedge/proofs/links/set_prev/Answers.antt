use Rattle.std.proofs.Common.{◌≡◌, Some, sym, ap, ◌∙◌}
use Rattle.std.specs.Prelude.{◌∷◌, []}
use Rattle.std.specs.FinMap.{get}
use Rattle.pk_base.specs.declared.entity.Entity.TheVariants as entity
use Rattle.list_facts.proofs.Elements.{Contains-first}
use Rattle.entity_store.proofs.Room.{room-for_one, puts-one}
use Rattle.halfedge.proofs.FinLinks.{hosts-viewed, hosted-links, sets-prev}
use Rattle.halfedge.proofs.links.set_prev.Goals as goal

pub put-requires-clause-owned : goal.put-requires-clause-owned
put-requires-clause-owned g c =
    let s = c.args.rec.now.store.now in
    let is : get s.state.map c.args.fin ≡ Some (entity.Fin c.in-Some-Fin.loop_ c.in-Some-Fin.next c.in-Some-Fin.field-0-2 c.in-Some-Fin.mate c.in-Some-Fin.edge c.in-Some-Fin.vertex) = sym c.get.ensures.value ∙ sym c.copied.ensures ∙ c.in-Some-Fin.is ∙ ap Some c.in-Some-Fin.field-0-is in
    (hosts-viewed c.view.result.now s c.view.ensures c.blocks-blocks.ensures.hosted c.args.fin _ is).owned

pub put-requires-clause-hosted : goal.put-requires-clause-hosted
put-requires-clause-hosted g c =
    let s = c.args.rec.now.store.now in
    let is : get s.state.map c.args.fin ≡ Some (entity.Fin c.in-Some-Fin.loop_ c.in-Some-Fin.next c.in-Some-Fin.field-0-2 c.in-Some-Fin.mate c.in-Some-Fin.edge c.in-Some-Fin.vertex) = sym c.get.ensures.value ∙ sym c.copied.ensures ∙ c.in-Some-Fin.is ∙ ap Some c.in-Some-Fin.field-0-is in
    hosted-links s.state c.args.fin c.in-Some-Fin.loop_ c.in-Some-Fin.next c.in-Some-Fin.field-0-2 c.in-Some-Fin.mate c.in-Some-Fin.edge c.in-Some-Fin.vertex c.in-Some-Fin.next c.args.to (hosts-viewed c.view.result.now s c.view.ensures c.blocks-blocks.ensures.hosted) is

pub put-requires-clause-room : goal.put-requires-clause-room
put-requires-clause-room g c = room-for_one c.args.rec.now.store.now.recording (c.args.fin ∷ []) c.args.fin c.requires.room (Contains-first c.args.fin [])

pub returns-clause-links : goal.returns-clause-links
returns-clause-links g c =
    let m = c.args.rec.now.store.now.state.map in
    let is : get m c.args.fin ≡ Some (entity.Fin c.in-Some-Fin.loop_ c.in-Some-Fin.next c.in-Some-Fin.field-0-2 c.in-Some-Fin.mate c.in-Some-Fin.edge c.in-Some-Fin.vertex) = sym c.get.ensures.value ∙ sym c.copied.ensures ∙ c.in-Some-Fin.is ∙ ap Some c.in-Some-Fin.field-0-is in
    sets-prev m c.put.new.self.store.now.state.map c.args.fin c.in-Some-Fin.loop_ c.in-Some-Fin.next c.in-Some-Fin.field-0-2 c.in-Some-Fin.mate c.in-Some-Fin.edge c.in-Some-Fin.vertex is c.args.to (ap (λ s. s.map) c.put.ensures.state)

pub returns-clause-puts : goal.returns-clause-puts
returns-clause-puts g c = puts-one (c.args.fin ∷ []) c.args.rec.now.store.now c.put.new.self.store.now c.args.fin _ (Contains-first c.args.fin []) c.put.ensures.began c.put.ensures.recorded
