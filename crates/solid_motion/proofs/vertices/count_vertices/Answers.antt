use Rattle.std.proofs.Common.{subst, Some, List, arith}
use Rattle.pk_base.specs.declared.tag.Tag.{Tag}
use Rattle.pk_base.specs.declared.entity.Class.TheVariants as class
use Rattle.pk_base.specs.declared.entity.Entity.{Entity}
use Rattle.entity_store.specs.Kids.{kids_of}
use Rattle.solid_calls.proofs.Sizes.{few-items}
use Rattle.solid_model.specs.Shapes.{shape_of}
use Rattle.solid_places.proofs.Kids.{Walk}
use Rattle.solid_motion.proofs.Counted.{counted-all, counted-left, vertices-few}
use Rattle.solid_motion.proofs.vertices.count_vertices.Goals as goal

pub overflow_add-count : goal.overflow_add-count
overflow_add-count g c =
    let s = c.args.store.now.state in
    let few = few-items s c.blocks-blocks.ensures.ascending c.blocks-blocks.ensures.range c.blocks-blocks.ensures.hosted c.requires in
    let part = vertices-few (shape_of s.map) c.args.body in
    let counted = counted-left s.map c.requires c.args.body c.loop-kid.count c.loop-kid.kids c.loop-kid.invariant in
    omega (arith, few, part, counted)

pub returns : goal.returns
returns g c =
    let m = c.args.store.now.state.map in
    counted-all m c.requires c.args.body c.loop-kid.count (subst (λ (ks : List (Tag × Entity)). Walk class.Vertex (kids_of m (Some c.args.body)) c.loop-kid.count ks) c.in_default.ensures.none c.loop-kid.invariant)
