-- ringmove moves a ring l to another face a of its body (Mäntylä 1988: move ring).
--
--     before:  l is a ring of another face         after:  l is a ring of a
use Rattle.std.specs.Prelude.{not, [], ◌∷◌}
use Rattle.pk_base.specs.Entity.{same_tag}
use Rattle.pk_base.specs.declared.tag.Tag.{Tag}
use Rattle.pk_base.specs.declared.refusal.Refusal.TheVariants.{IsOuter, NotOneBody, SameFace}
use Rattle.pk_model.specs.Step.{◌>>=◌}
use Rattle.solid_model.specs.Items.{Shape, ◌with◌}
use Rattle.solid_model.specs.Rows.{Row, changes, refuse_where, ◌>>◌}
use Rattle.solid_model.specs.Places.{loop_at, face_at, in_face}

abbrev pub ringmove : Shape → Tag → Tag → Row
ringmove S l a = do
  r ← loop_at S l
  to ← face_at S a
  refuse_where (same_tag l r.outer) (IsOuter l)
  refuse_where (not (same_tag r.body to.body)) (NotOneBody r.body to.body)
  refuse_where (same_tag r.face a) (SameFace a)
  changes (S with (l, in_face S l a) ∷ [])
