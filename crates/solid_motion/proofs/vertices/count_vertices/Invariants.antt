use Rattle.std.proofs.Common.{length, Some}
use Rattle.pk_base.specs.declared.entity.Class.TheVariants as class
use Rattle.entity_store.specs.Kids.{kids_of}
use Rattle.solid_places.proofs.Kids.{Walk}
use Rattle.solid_motion.proofs.vertices.count_vertices.Given as goal

abbrev pub invariant-loop-kid : goal.invariant-loop-kid
invariant-loop-kid g l = Walk class.Vertex (kids_of l.fn.store.state.map (Some l.fn.body)) l.count l.kids

abbrev pub decreases-loop-kid : goal.decreases-loop-kid
decreases-loop-kid g l = length l.kids
