use Rattle.std.proofs.Common.{Some, length}
use Rattle.std.specs.Prelude.{Contains}
use Rattle.pk_base.specs.declared.tag.Tag.{Tag}
use Rattle.pk_base.specs.declared.entity.Entity.{Entity}
use Rattle.pk_base.specs.declared.entity.Entity.TheVariants as entity
use Rattle.euler_kill.proofs.KidsFound.{IsKid}
use Rattle.euler_kill.proofs.kvfs.face_of.Given as goal

-- what is left are kids of the shell, and one of them is a face
abbrev pub invariant-loop-tag : goal.invariant-loop-tag
invariant-loop-tag g l = record {
  kids : (t : Tag) (e : Entity) → Contains l.walk (t, e) → IsKid l.store.state.map (Some l.fn.shell) t e;
  face : (t : Tag) × (outer : Tag) × Contains l.walk (t, entity.Face l.fn.shell outer);
}

abbrev pub decreases-loop-tag : goal.decreases-loop-tag
decreases-loop-tag g l = length l.walk
