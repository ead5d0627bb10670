use Rattle.std.proofs.Common.{rules, arith}
use Rattle.solid_model.specs.Items.{item_at}
use Rattle.solid_model.specs.Shapes.{shape_of}
use Rattle.solid_sound.proofs.rows.KeptRings.{asked_face}
use Rattle.euler_kill.proofs.KfmrhFound.{kfmrh-counts}
use Rattle.solid_calls.proofs.Sizes.{few-attributes}
use Rattle.euler_kill.proofs.kfmrh.kfmrh_need.Goals as goal

pub overflow_add-result : goal.overflow_add-result
overflow_add-result g c =
    let few = few-attributes c.args.store.now.state c.blocks-blocks.ensures.ascending c.blocks-blocks.ensures.range c.blocks-blocks.ensures.hosted c.args.kill in
    omega (arith, few, c.count_attributes-attributes.ensures)

pub returns : goal.returns
returns g c =
    let S = shape_of c.args.store.now.state.map in
    let face = asked_face S c.args.kill (item_at S c.args.kill) _ c.in_ok-killed.ensures.found in
    let counts = kfmrh-counts c.args.store.now.state.map c.args.keep c.args.kill c.in_ok-killed.killed c.in_ok-killed.ensures.found face.0 face.1 face.2 c.requires in
    record {
      goes = search rules;
      tags = search rules;
      changes = omega (arith, counts, c.count_attributes-attributes.ensures);
      list = search rules;
    }
