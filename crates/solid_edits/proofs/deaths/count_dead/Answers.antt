use Rattle.std.proofs.Common.{◌≤◌, length, arith}
use Rattle.solid_calls.specs.Attributes.{attributes_on}
use Rattle.solid_calls.proofs.Sizes.{few-attributes}
use Rattle.solid_edits.proofs.ManyDeaths.{first-all, first-more, tag_of}
use Rattle.solid_edits.proofs.deaths.count_dead.Goals as goal

pub overflow_add-count : goal.overflow_add-count
overflow_add-count g c =
    let m = c.args.store.now.state.map in
    let t = tag_of c.args.tags.now c.loop-tag.tag-index in
    let few : length (attributes_on m t) ≤ 16777152 = few-attributes c.args.store.now.state c.blocks-blocks.ensures.ascending c.blocks-blocks.ensures.range c.blocks-blocks.ensures.hosted t in
    omega (arith, few, c.count_attributes-count.ensures, c.loop-tag.invariant.count, c.loop-tag.invariant.few, c.requires)

pub loop-tag-preserved : goal.loop-tag-preserved
loop-tag-preserved g c =
    let m = c.args.store.now.state.map in
    let t = tag_of c.args.tags.now c.loop-tag.tag-index in
    let few : length (attributes_on m t) ≤ 16777152 = few-attributes c.args.store.now.state c.blocks-blocks.ensures.ascending c.blocks-blocks.ensures.range c.blocks-blocks.ensures.hosted t in
    let more = first-more m c.args.tags.now c.loop-tag.tag-index (omega arith) in
    record {
      count = omega (arith, more, c.count_attributes-count.ensures, c.loop-tag.invariant.count);
      few = omega (arith, more, few, c.loop-tag.invariant.few);
    }

pub returns-clause-dead : goal.returns-clause-dead
returns-clause-dead g c =
    let m = c.args.store.now.state.map in
    let all = first-all m c.args.tags.now c.loop-tag.tag-index (omega arith) in
    omega (arith, all, c.loop-tag.invariant.count)

pub returns-clause-few : goal.returns-clause-few
returns-clause-few g c = omega (arith, c.loop-tag.invariant.count, c.loop-tag.invariant.few, c.requires)
