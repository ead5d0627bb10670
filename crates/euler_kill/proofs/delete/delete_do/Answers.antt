use Rattle.std.proofs.Common.{◌∙◌, [], option_copied, refl, sym, ap, subst, arith}
use Rattle.std.specs.Prelude.{IsSome}
use Rattle.std.specs.FinMap.{get}
use Rattle.pk_base.specs.declared.call.Call.TheVariants.{Delete}
use Rattle.entity_store.specs.Store.{StoreView}
use Rattle.entity_store.proofs.Room.{puts-wider, room-part}
use Rattle.solid_edits.proofs.Going.{done}
use Rattle.solid_edits.proofs.Hosted.{hosted-seen}
use Rattle.solid_edits.proofs.TagsPut.{within-changed}
use Rattle.solid_model.specs.Owners.{all_in_body}
use Rattle.solid_model.specs.Shapes.{shape_of}
use Rattle.solid_sound.proofs.rows.KeptDeaths.{delete-keeps}
use Rattle.solid_sound.proofs.rows.RowKeeps.{well-shape}
use Rattle.euler_kill.specs.Below.{IsPartOf}
use Rattle.euler_kill.proofs.DeleteReached.{IsLeaf, body-deleted, delete-goes, deletes-more, deletes-none, fewer-left, leaf-room, left-part, live-owned}
use Rattle.euler_kill.proofs.delete.delete_do.Goals as goal

pub loop-entity-init : goal.loop-entity-init
loop-entity-init g c = (deletes-none c.args.body c.args.rec.now.store.now c.requires.sound, refl)

pub leaf_below-leaf-requires-clause-of : goal.leaf_below-leaf-requires-clause-of
leaf_below-leaf-requires-clause-of g c =
    let old = c.args.rec.now.store.now in
    let now = c.loop-entity.rec.store.now in
    (old.state.map, c.requires.sound, subst (λ (v : StoreView). IsPartOf old.state.map v.state.map) (sym c.view.ensures) (left-part c.args.body old now c.requires.sound c.loop-entity.invariant.0))

pub leaf_below-leaf-requires-clause-live : goal.leaf_below-leaf-requires-clause-live
leaf_below-leaf-requires-clause-live g c =
    subst (λ (v : StoreView). IsSome (get v.state.map c.args.body)) (sym c.view.ensures) (subst IsSome (sym (sym c.get.ensures.value ∙ ap option_copied c.in-Some.is)) refl)

pub put-requires-clause-owned : goal.put-requires-clause-owned
put-requires-clause-owned g c =
    let now = c.loop-entity.rec.store.now in
    let leaf = subst (λ (v : StoreView). IsLeaf v.state.map c.args.body c.leaf_below-leaf.result) c.view.ensures (record { live = c.leaf_below-leaf.ensures.live; below = c.leaf_below-leaf.ensures.below; none = c.leaf_below-leaf.ensures.leaf }) in
    live-owned now.state c.leaf_below-leaf.result (hosted-seen _ now c.view-in-Some.ensures c.blocks-blocks.ensures.hosted) leaf.live

pub put-requires-clause-room : goal.put-requires-clause-room
put-requires-clause-room g c =
    let old = c.args.rec.now.store.now in
    let now = c.loop-entity.rec.store.now in
    let S = shape_of old.state.map in
    let b = c.args.body in
    let goes = delete-goes S b c.requires.goes in
    let leaf = subst (λ (v : StoreView). IsLeaf v.state.map b c.leaf_below-leaf.result) c.view.ensures (record { live = c.leaf_below-leaf.ensures.live; below = c.leaf_below-leaf.ensures.below; none = c.leaf_below-leaf.ensures.leaf }) in
    leaf-room b old now c.requires.sound c.loop-entity.invariant.0 goes.shell goes.body_is c.leaf_below-leaf.result leaf.live leaf.below
    (room-part old.recording _ (all_in_body S b) c.requires.room (within-changed S (Delete b) [] (all_in_body S b) refl))

pub loop-entity-smaller : goal.loop-entity-smaller
loop-entity-smaller g c =
    let old = c.args.rec.now.store.now in
    let now = c.loop-entity.rec.store.now in
    let b = c.args.body in
    let goes = delete-goes (shape_of old.state.map) b c.requires.goes in
    let leaf = subst (λ (v : StoreView). IsLeaf v.state.map b c.leaf_below-leaf.result) c.view.ensures (record { live = c.leaf_below-leaf.ensures.live; below = c.leaf_below-leaf.ensures.below; none = c.leaf_below-leaf.ensures.leaf }) in
    fewer-left b old now c.requires.sound c.loop-entity.invariant.0 goes.shell goes.body_is c.leaf_below-leaf.result leaf.live leaf.below c.put.new.self.store.now c.put.ensures.state

pub loop-entity-preserved : goal.loop-entity-preserved
loop-entity-preserved g c =
    let old = c.args.rec.now.store.now in
    let now = c.loop-entity.rec.store.now in
    let b = c.args.body in
    let goes = delete-goes (shape_of old.state.map) b c.requires.goes in
    let leaf = subst (λ (v : StoreView). IsLeaf v.state.map b c.leaf_below-leaf.result) c.view.ensures (record { live = c.leaf_below-leaf.ensures.live; below = c.leaf_below-leaf.ensures.below; none = c.leaf_below-leaf.ensures.leaf }) in (
      deletes-more b old now c.requires.sound c.loop-entity.invariant.0 goes.shell goes.body_is c.leaf_below-leaf.result leaf.live leaf.below leaf.none c.put.new.self.store.now c.put.ensures.state c.put.ensures.began c.put.ensures.recorded,
      c.put.ensures.same_store ∙ c.loop-entity.invariant.1,
    )

pub returns-clause-done : goal.returns-clause-done
returns-clause-done g c =
    let old = c.args.rec.now.store.now in
    let now = c.loop-entity.rec.store.now in
    let S = shape_of old.state.map in
    let b = c.args.body in
    let d = c.loop-entity.invariant.0 in
    let goes = delete-goes S b c.requires.goes in
    let gone = sym c.get.ensures.value ∙ ap option_copied c.in_default.is in
    done old now (Delete b) [] _ goes.row_is c.requires.sound (omega arith) (delete-keeps S [] b (well-shape old.state.map c.requires.sound))
    (d.state ∙ ap (λ k. record old.state { map = k }) (body-deleted b old now c.requires.sound d gone))
    (puts-wider (all_in_body S b) _ old now d.puts (within-changed S (Delete b) [] (all_in_body S b) refl))
