-- mekr makes an edge between two loops of one face, and kills the one that is a ring (Mäntylä
-- 1988: make edge, kill ring). Its ends are k, which is kept, and r, in the ring: each a fin, or a
-- loop with a lone vertex. The loop of k is written B from k, that of r is written A from r; where
-- an end is a lone vertex, its list is empty.
--
--     before:  B                   after:  f A m B
--              A, a ring                   the ring is gone
--
-- f starts at the vertex of k, m at that of r. kemr undoes it.
use Rattle.std.specs.Prelude.{not, [], ◌∷◌, ◌++◌}
use Rattle.pk_base.specs.Entity.{same_tag}
use Rattle.pk_base.specs.declared.tag.Tag.{Tag}
use Rattle.pk_base.specs.declared.refusal.Refusal.TheVariants.{NotOneFace, OneLoop, IsOuter, SameVertex}
use Rattle.pk_model.specs.Step.{◌>>=◌}
use Rattle.solid_model.specs.Items.{Shape, ◌with◌}
use Rattle.solid_model.specs.Items.Item.{Fin, Edge}
use Rattle.solid_model.specs.Rings.{ring_of}
use Rattle.solid_model.specs.Deaths.{◌without◌}
use Rattle.solid_model.specs.Rows.{Row, makes_three, refuse_where, ◌>>◌}
use Rattle.solid_model.specs.Places.{end_at, outer_at}

abbrev pub mekr : Shape → Tag → Tag → Row
mekr S k r = do
  u ← end_at S k
  v ← end_at S r
  refuse_where (not (same_tag u.face v.face)) (NotOneFace u.face v.face)
  refuse_where (same_tag u.loop_ v.loop_) (OneLoop u.loop_)
  refuse_where (same_tag v.loop_ (outer_at S v.face)) (IsOuter v.loop_)
  refuse_where (same_tag u.vertex v.vertex) (SameVertex u.vertex)
  makes_three (λ edge f m. S with
      (edge, Edge u.body) ∷
      (f, Fin m edge u.vertex) ∷
      (m, Fin f edge v.vertex) ∷
      (u.loop_, ring_of u.face (f ∷ v.fins ++ m ∷ u.fins)) ∷ []
      without v.loop_ ∷ [])
