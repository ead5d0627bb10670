use Rattle.std.proofs.Common.{Some, subst}
use Rattle.pk_base.specs.declared.entity.Point.{Point}
use Rattle.pk_base.specs.declared.entity.Entity.TheVariants.{Vertex}
use Rattle.attributes.proofs.Carried.{IsPut, hosted-viewed}
use Rattle.entity_store.proofs.Room.{room-for_one}
use Rattle.solid_motion.specs.Points.{point_by}
use Rattle.solid_motion.specs.Vertices.{vertices_on}
use Rattle.solid_motion.proofs.Moving.{one-moved, point-viewed, vertex-on}
use Rattle.solid_motion.proofs.vertices.move_at.Goals as goal

pub put-requires-clause-owned : goal.put-requires-clause-owned
put-requires-clause-owned g c =
    let now = c.args.rec.now.store.now in
    let live = point-viewed _ now c.args.body c.args.tag c.in-Some.point c.view.ensures c.in-Some.ensures.some in
    (hosted-viewed _ now c.view-in-Some.ensures c.blocks-blocks.ensures.hosted c.args.tag _ live).owned

pub put-requires-clause-hosted : goal.put-requires-clause-hosted
put-requires-clause-hosted g c =
    let now = c.args.rec.now.store.now in
    let live = point-viewed _ now c.args.body c.args.tag c.in-Some.point c.view.ensures c.in-Some.ensures.some in
    let hosted = hosted-viewed _ now c.view-in-Some.ensures c.blocks-blocks.ensures.hosted c.args.tag _ live in
    record { owned = hosted.owned; owner = hosted.owner }

pub put-requires-clause-room : goal.put-requires-clause-room
put-requires-clause-room g c =
    let now = c.args.rec.now.store.now in
    let live = point-viewed _ now c.args.body c.args.tag c.in-Some.point c.view.ensures c.in-Some.ensures.some in
    room-for_one now.recording (vertices_on now.state.map c.args.body) c.args.tag c.requires.room (vertex-on now.state.map c.args.body c.args.tag c.in-Some.point live)

pub returns-in-Some-clause-moves : goal.returns-in-Some-clause-moves
returns-in-Some-clause-moves g c =
    let now = c.args.rec.now.store.now in
    let new = c.put.new.self.store.now in
    let live = point-viewed _ now c.args.body c.args.tag c.in-Some.point c.view.ensures c.in-Some.ensures.some in
    one-moved (point_by c.args.motion) c.args.body c.args.tag c.in-Some.point now new live
    (subst (λ (q : Point). IsPut now new c.args.tag (Some (Vertex c.args.body q))) c.point_after-point.ensures
    (record { state = c.put.ensures.state; recorded = c.put.ensures.recorded; began = c.put.ensures.began }))
