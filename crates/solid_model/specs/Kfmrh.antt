-- kfmrh kills a face b without rings, whose loop becomes a ring of another face a of the body, and
-- so makes a hole (Mäntylä 1988: kill face, make ring, hole).
--
--     before:  l is the one loop of b      after:  l is a ring of a, and the q of the shell is one
--                                                  less
--
-- mfkrh undoes it.
use Rattle.std.specs.Prelude.{pos, ◌-ℤ◌, not, [], ◌∷◌}
use Rattle.pk_base.specs.Entity.{same_tag}
use Rattle.pk_base.specs.declared.tag.Tag.{Tag}
use Rattle.pk_base.specs.declared.refusal.Refusal.TheVariants.{SameFace, NotOneBody, HasRings}
use Rattle.pk_model.specs.Step.{◌>>=◌}
use Rattle.solid_model.specs.Items.{Shape, ◌with◌}
use Rattle.solid_model.specs.Items.Item.{Shell}
use Rattle.solid_model.specs.Owners.{has_rings}
use Rattle.solid_model.specs.Deaths.{◌without◌}
use Rattle.solid_model.specs.Rows.{Row, changes, refuse_where, ◌>>◌}
use Rattle.solid_model.specs.Places.{face_at, in_face, q_at}

abbrev pub kfmrh : Shape → Tag → Tag → Row
kfmrh S a b = do
  keep ← face_at S a
  kill ← face_at S b
  refuse_where (same_tag a b) (SameFace a)
  refuse_where (not (same_tag keep.body kill.body)) (NotOneBody keep.body kill.body)
  refuse_where (has_rings S b) (HasRings b)
  changes (S with
      (kill.outer, in_face S kill.outer a) ∷
      (kill.shell, Shell kill.body (q_at S kill.shell -ℤ pos 1)) ∷ []
      without b ∷ [])
