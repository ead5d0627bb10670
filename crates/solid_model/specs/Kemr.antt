-- kemr kills an edge that has one loop on both sides, and so cuts a ring off: the edge of a fin f
-- and its mate m (Mäntylä 1988: kill edge, make ring).
--
--     before:  f A m B             after:  B     in the loop that was; where it is empty, the
--                                                vertex where f starts, alone
--                                          A     in a new loop of the same face; where it is
--                                                empty, the vertex where m starts, alone
--
-- mekr undoes it.
use Rattle.std.specs.Prelude.{not, [], ◌∷◌, drop}
use Rattle.pk_base.specs.Entity.{same_tag}
use Rattle.pk_base.specs.declared.tag.Tag.{Tag}
use Rattle.pk_base.specs.declared.refusal.Refusal.TheVariants.{TwoLoops}
use Rattle.pk_model.specs.Step.{◌>>=◌}
use Rattle.solid_model.specs.Items.{Shape, ◌with◌}
use Rattle.solid_model.specs.Rings.{before, from, ring_or_lone}
use Rattle.solid_model.specs.Deaths.{◌without◌}
use Rattle.solid_model.specs.Rows.{Row, makes_one, refuse_where, ◌>>◌}
use Rattle.solid_model.specs.Places.{fin_at}

abbrev pub kemr : Shape → Tag → Row
kemr S f = do
  u ← fin_at S f
  w ← fin_at S u.mate
  refuse_where (not (same_tag u.loop_ w.loop_)) (TwoLoops u.loop_ w.loop_)
  makes_one (λ ring. S with
      (u.loop_, ring_or_lone u.face (drop 1 (from u.mate u.fins)) u.vertex) ∷
      (ring, ring_or_lone u.face (drop 1 (before u.mate u.fins)) w.vertex) ∷ []
      without f ∷ u.mate ∷ u.edge ∷ [])
