use Rattle.std.proofs.Common.{Some, length}
use Rattle.std.specs.Prelude.{Contains}
use Rattle.pk_base.specs.declared.tag.Tag.{Tag}
use Rattle.pk_base.specs.declared.entity.Entity.{Entity}
use Rattle.pk_base.specs.declared.entity.Entity.TheVariants as entity
use Rattle.pk_base.specs.declared.entity.Point.{Point}
use Rattle.euler_kill.proofs.KidsFound.{IsKid}
use Rattle.euler_laws.proofs.reading.vertex_of.Given as goal

-- what is left are kids of the body, and one of them is a vertex
abbrev pub invariant-loop-tag : goal.invariant-loop-tag
invariant-loop-tag g l = record {
  kids : (t : Tag) (e : Entity) → Contains l.walk (t, e) → IsKid l.store.state.map (Some l.fn.body) t e;
  vertex : (t : Tag) × (point : Point) × Contains l.walk (t, entity.Vertex l.fn.body point);
}

abbrev pub decreases-loop-tag : goal.decreases-loop-tag
decreases-loop-tag g l = length l.walk
