-- mfkrh makes a face whose outer loop is a ring l of another face, and so fills a hole (Mäntylä
-- 1988: make face, kill ring, hole).
--
--     before:  l is a ring         after:  l is the outer loop of a new face in the same shell,
--                                          whose q is one more
--
-- kfmrh undoes it.
use Rattle.std.specs.Prelude.{pos, ◌+ℤ◌, [], ◌∷◌}
use Rattle.pk_base.specs.Entity.{same_tag}
use Rattle.pk_base.specs.declared.tag.Tag.{Tag}
use Rattle.pk_base.specs.declared.refusal.Refusal.TheVariants.{IsOuter}
use Rattle.pk_model.specs.Step.{◌>>=◌}
use Rattle.solid_model.specs.Items.{Shape, ◌with◌}
use Rattle.solid_model.specs.Items.Item.{Shell, Face}
use Rattle.solid_model.specs.Rows.{Row, makes_one, refuse_where, ◌>>◌}
use Rattle.solid_model.specs.Places.{loop_at, in_face, q_at}

abbrev pub mfkrh : Shape → Tag → Row
mfkrh S l = do
  r ← loop_at S l
  refuse_where (same_tag l r.outer) (IsOuter l)
  makes_one (λ face. S with
      (face, Face r.shell l) ∷
      (l, in_face S l face) ∷
      (r.shell, Shell r.body (q_at S r.shell +ℤ pos 1)) ∷ [])
