use Rattle.std.proofs.Common.{arith}
use Rattle.solid_model.specs.Shapes.{shape_of}
use Rattle.euler_make.proofs.LoopWalk.{few-fins}
use Rattle.euler_make.proofs.RaiseDone.{face-class}
use Rattle.euler_make.proofs.sweep.sweep_need.Goals as goal

pub overflow_mul-tags : goal.overflow_mul-tags
overflow_mul-tags g c =
    let st = c.args.store.now.state in
    let few = few-fins st c.blocks-blocks.ensures.ascending c.blocks-blocks.ensures.range c.blocks-blocks.ensures.hosted c.requires c.args.face (face-class (shape_of st.map) c.args.face _ c.in_ok-face_at.ensures.found) in
    let is = c.count_fins-fins.ensures in
    omega (arith, few, is)

pub overflow_add-result : goal.overflow_add-result
overflow_add-result g c =
    let st = c.args.store.now.state in
    let few = few-fins st c.blocks-blocks.ensures.ascending c.blocks-blocks.ensures.range c.blocks-blocks.ensures.hosted c.requires c.args.face (face-class (shape_of st.map) c.args.face _ c.in_ok-face_at.ensures.found) in
    let is = c.count_fins-fins.ensures in
    omega (arith, few, is)

pub overflow_add-result-2 : goal.overflow_add-result-2
overflow_add-result-2 g c =
    let st = c.args.store.now.state in
    let few = few-fins st c.blocks-blocks.ensures.ascending c.blocks-blocks.ensures.range c.blocks-blocks.ensures.hosted c.requires c.args.face (face-class (shape_of st.map) c.args.face _ c.in_ok-face_at.ensures.found) in
    let is = c.count_fins-fins.ensures in
    omega (arith, few, is)
