use Rattle.std.proofs.Common.{◌∙◌}
use Rattle.attributes.proofs.Carried.{drop-done, drop-room, hosted-viewed, named-owned, named-viewed}
use Rattle.attributes.proofs.calls.drop_do.Goals as goal

pub put-requires-clause-owned : goal.put-requires-clause-owned
put-requires-clause-owned g c =
    let old = c.args.rec.now.store.now in
    let named = named-viewed _ old c.args.owner c.args.name _ c.view-2.ensures c.attribute_named.ensures in
    named-owned old.state c.args.owner c.args.name c.unwrap-tag.result (hosted-viewed _ old c.view.ensures c.blocks-blocks.ensures.hosted) c.requires.sound (named ∙ c.unwrap-tag.ensures)

pub put-requires-clause-room : goal.put-requires-clause-room
put-requires-clause-room g c =
    let old = c.args.rec.now.store.now in
    let named = named-viewed _ old c.args.owner c.args.name _ c.view-2.ensures c.attribute_named.ensures in
    drop-room old c.args.owner c.args.name c.unwrap-tag.result c.requires (named ∙ c.unwrap-tag.ensures)

pub returns-clause-done : goal.returns-clause-done
returns-clause-done g c =
    let old = c.args.rec.now.store.now in
    let named = named-viewed _ old c.args.owner c.args.name _ c.view-2.ensures c.attribute_named.ensures in
    drop-done old c.put.new.self.store.now c.args.owner c.args.name c.unwrap-tag.result c.requires (named ∙ c.unwrap-tag.ensures)
    (record { state = c.put.ensures.state; recorded = c.put.ensures.recorded; began = c.put.ensures.began })
