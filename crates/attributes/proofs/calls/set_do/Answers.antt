use Rattle.std.proofs.Common.{ap, w64, ◌∙◌}
use Rattle.std.specs.Prelude.{ℤ}
use Rattle.std.proofs.lemmas.Int.{to_z-of_z}
use Rattle.entity_store.specs.NextTags.{left}
use Rattle.attributes.proofs.Carried.{IsChosen, put_state, chosen-named, chosen-next, hosted-viewed, named-viewed, set-done, set-hosted, set-owned, set-room}
use Rattle.attributes.proofs.calls.set_do.Goals as goal
use Rattle.attributes.proofs.calls.set_do.Goals.{in-None, in-Some}

pub put-requires-clause-owned : goal.put-requires-clause-owned
put-requires-clause-owned g c =
    let old = c.args.rec.now.store.now in
    let tag = c.match-attribute_named.tag in
    let named = named-viewed _ old c.args.owner c.args.name _ c.view-2.ensures c.attribute_named.ensures in
    let chosen : IsChosen old.state.map c.args.owner c.args.name (left c.args.tags.now) tag = elim c.match-attribute_named.branch [
      | in-Some w ↦ chosen-named old.state.map c.args.owner c.args.name (left c.args.tags.now) tag _ (named ∙ w.in-Some.is) w.tag-is
      | in-None w ↦ chosen-next old.state.map c.args.owner c.args.name (left c.args.tags.now) _ tag _ (named ∙ w.in-None.is) w.tag-is w.take_tag-tag.ensures.tag c.requires.tags.free
    ] in
    set-owned old.state c.args.owner c.args.name c.args.value (left c.args.tags.now) tag (hosted-viewed _ old c.view.ensures c.blocks-blocks.ensures.hosted) c.requires.may.sound c.requires.may.goes chosen c.requires.tags.owned

pub put-requires-clause-room : goal.put-requires-clause-room
put-requires-clause-room g c =
    let old = c.args.rec.now.store.now in
    let tag = c.match-attribute_named.tag in
    let named = named-viewed _ old c.args.owner c.args.name _ c.view-2.ensures c.attribute_named.ensures in
    let chosen : IsChosen old.state.map c.args.owner c.args.name (left c.args.tags.now) tag = elim c.match-attribute_named.branch [
      | in-Some w ↦ chosen-named old.state.map c.args.owner c.args.name (left c.args.tags.now) tag _ (named ∙ w.in-Some.is) w.tag-is
      | in-None w ↦ chosen-next old.state.map c.args.owner c.args.name (left c.args.tags.now) _ tag _ (named ∙ w.in-None.is) w.tag-is w.take_tag-tag.ensures.tag c.requires.tags.free
    ] in
    set-room old c.args.owner c.args.name c.args.value (left c.args.tags.now) tag c.requires.may chosen

pub put-requires-clause-hosted : goal.put-requires-clause-hosted
put-requires-clause-hosted g c =
    let old = c.args.rec.now.store.now in
    let tag = c.match-attribute_named.tag in
    let named = named-viewed _ old c.args.owner c.args.name _ c.view-2.ensures c.attribute_named.ensures in
    let chosen : IsChosen old.state.map c.args.owner c.args.name (left c.args.tags.now) tag = elim c.match-attribute_named.branch [
      | in-Some w ↦ chosen-named old.state.map c.args.owner c.args.name (left c.args.tags.now) tag _ (named ∙ w.in-Some.is) w.tag-is
      | in-None w ↦ chosen-next old.state.map c.args.owner c.args.name (left c.args.tags.now) _ tag _ (named ∙ w.in-None.is) w.tag-is w.take_tag-tag.ensures.tag c.requires.tags.free
    ] in
    set-hosted old.state c.args.owner c.args.name c.args.value _ (left c.args.tags.now) tag (hosted-viewed _ old c.view.ensures c.blocks-blocks.ensures.hosted) c.requires.may.sound c.requires.may.goes chosen (put-requires-clause-owned g c)

pub returns-clause-done : goal.returns-clause-done
returns-clause-done g c =
    let old = c.args.rec.now.store.now in
    let tag = c.match-attribute_named.tag in
    let named = named-viewed _ old c.args.owner c.args.name _ c.view-2.ensures c.attribute_named.ensures in
    let chosen : IsChosen old.state.map c.args.owner c.args.name (left c.args.tags.now) tag = elim c.match-attribute_named.branch [
      | in-Some w ↦ chosen-named old.state.map c.args.owner c.args.name (left c.args.tags.now) tag _ (named ∙ w.in-Some.is) w.tag-is
      | in-None w ↦ chosen-next old.state.map c.args.owner c.args.name (left c.args.tags.now) _ tag _ (named ∙ w.in-None.is) w.tag-is w.take_tag-tag.ensures.tag c.requires.tags.free
    ] in
    let same_value = ap (λ (z : ℤ). put_state old.state tag c.args.owner c.args.name z) (to_z-of_z w64 c.args.value c.ranges.value) in
    set-done old c.put.new.self.store.now c.args.owner c.args.name c.args.value (left c.args.tags.now) tag c.requires.may c.requires.tags.enough c.requires.tags.free chosen
    (record { state = c.put.ensures.state ∙ same_value; recorded = c.put.ensures.recorded; began = c.put.ensures.began })
