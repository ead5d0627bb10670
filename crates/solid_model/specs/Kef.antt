-- kef kills an edge between two faces, and the face of its fin x, which has no rings; y is the mate
-- of x (Mäntylä 1988: kill edge, face).
--
--     before:  P x                 after:  the face of x and its loop are gone
--              Q y                         P Q, in the loop of y
--
-- mef undoes it.
use Rattle.std.specs.Prelude.{[], ◌∷◌, ◌++◌, drop}
use Rattle.pk_base.specs.Entity.{same_tag}
use Rattle.pk_base.specs.declared.tag.Tag.{Tag}
use Rattle.pk_base.specs.declared.refusal.Refusal.TheVariants.{OneLoop, HasRings}
use Rattle.pk_model.specs.Step.{◌>>=◌}
use Rattle.solid_model.specs.Items.{Shape, ◌with◌}
use Rattle.solid_model.specs.Rings.{ring_of}
use Rattle.solid_model.specs.Owners.{has_rings}
use Rattle.solid_model.specs.Deaths.{◌without◌}
use Rattle.solid_model.specs.Rows.{Row, changes, refuse_where, ◌>>◌}
use Rattle.solid_model.specs.Places.{fin_at}

abbrev pub kef : Shape → Tag → Row
kef S x = do
  u ← fin_at S x
  v ← fin_at S u.mate
  refuse_where (same_tag u.loop_ v.loop_) (OneLoop u.loop_)
  refuse_where (has_rings S u.face) (HasRings u.face)
  changes (S with (v.loop_, ring_of v.face (drop 1 u.fins ++ drop 1 v.fins)) ∷ []
      without u.loop_ ∷ u.face ∷ x ∷ u.mate ∷ u.edge ∷ [])
