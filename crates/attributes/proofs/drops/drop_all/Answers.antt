use Rattle.std.proofs.Common.{◌∙◌}
use Rattle.attributes.proofs.Carried.{hosted-viewed}
use Rattle.attributes.proofs.Dropping.{all-dropped, among-viewed, dropping-more, fewer-left, map-put, none-viewed, one-owned, room-for_next}
use Rattle.attributes.proofs.drops.drop_all.Goals as goal

pub put-requires-clause-owned : goal.put-requires-clause-owned
put-requires-clause-owned g c =
    let now = c.loop-tag.rec.store.now in
    one-owned now.state c.args.owner c.in-Some.tag (hosted-viewed _ now c.view-in-Some.ensures c.blocks-blocks.ensures.hosted) (among-viewed _ now c.args.owner c.in-Some.tag c.view.ensures c.in-Some.ensures.some)

pub put-requires-clause-room : goal.put-requires-clause-room
put-requires-clause-room g c =
    let now = c.loop-tag.rec.store.now in
    room-for_next c.args.owner c.args.rec.now.store.now now c.in-Some.tag c.requires c.loop-tag.invariant.0 (among-viewed _ now c.args.owner c.in-Some.tag c.view.ensures c.in-Some.ensures.some)

pub loop-tag-smaller : goal.loop-tag-smaller
loop-tag-smaller g c =
    let now = c.loop-tag.rec.store.now in
    fewer-left c.args.owner c.in-Some.tag now.state.map c.put.new.self.store.now.state.map (among-viewed _ now c.args.owner c.in-Some.tag c.view.ensures c.in-Some.ensures.some) (map-put now c.put.new.self.store.now c.in-Some.tag c.put.ensures.state)

pub loop-tag-preserved : goal.loop-tag-preserved
loop-tag-preserved g c =
    let now = c.loop-tag.rec.store.now in (
      dropping-more c.args.owner c.args.rec.now.store.now now _ c.in-Some.tag c.loop-tag.invariant.0 (among-viewed _ now c.args.owner c.in-Some.tag c.view.ensures c.in-Some.ensures.some)
          (record { state = c.put.ensures.state; recorded = c.put.ensures.recorded; began = c.put.ensures.began }),
      c.put.ensures.same_store ∙ c.loop-tag.invariant.1,
    )

pub returns-clause-drops : goal.returns-clause-drops
returns-clause-drops g c =
    let now = c.loop-tag.rec.store.now in
    all-dropped c.args.owner c.args.rec.now.store.now now c.loop-tag.invariant.0 (none-viewed _ now c.args.owner c.view.ensures c.in_default.ensures.none)
