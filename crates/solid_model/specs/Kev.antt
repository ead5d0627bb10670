-- kev kills an edge that ends at a vertex with no other edge, and that vertex: the edge of a fin f
-- after which its mate m comes at once (Mäntylä 1988: kill edge, vertex).
--
--     before:  f m A               after:  A
--              f m                         the vertex where f starts, alone
--
-- mev undoes it.
use Rattle.std.specs.Prelude.{not, [], ◌∷◌, drop}
use Rattle.pk_base.specs.Entity.{same_tag}
use Rattle.pk_base.specs.declared.tag.Tag.{Tag}
use Rattle.pk_base.specs.declared.refusal.Refusal.TheVariants.{NotStrut}
use Rattle.pk_model.specs.Step.{◌>>=◌}
use Rattle.solid_model.specs.Items.{Shape, ◌with◌}
use Rattle.solid_model.specs.Rings.{next_in, ring_or_lone}
use Rattle.solid_model.specs.Deaths.{◌without◌}
use Rattle.solid_model.specs.Rows.{Row, changes, refuse_where, ◌>>◌}
use Rattle.solid_model.specs.Places.{fin_at}

abbrev pub kev : Shape → Tag → Row
kev S f = do
  u ← fin_at S f
  w ← fin_at S u.mate
  refuse_where (not (same_tag (next_in u.fins f) u.mate)) (NotStrut f)
  changes (S with (u.loop_, ring_or_lone u.face (drop 2 u.fins) u.vertex) ∷ []
      without f ∷ u.mate ∷ u.edge ∷ w.vertex ∷ [])
