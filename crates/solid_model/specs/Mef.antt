-- mef makes an edge between the starts u and v of two fins f and g of one loop, and so cuts a new
-- face off (Mäntylä 1988: make edge, face).
--
--     before:  f A g B             after:  f A x           in the new loop of the new face
--                                          g B y           in the loop that was
--
-- f and y start at u, g and x at v. kef undoes it.
use Rattle.std.specs.Prelude.{not, [], ◌∷◌, ◌++◌}
use Rattle.pk_base.specs.Entity.{same_tag}
use Rattle.pk_base.specs.declared.tag.Tag.{Tag}
use Rattle.pk_base.specs.declared.refusal.Refusal.TheVariants.{NotOneLoop, SameVertex}
use Rattle.pk_model.specs.Step.{◌>>=◌}
use Rattle.solid_model.specs.Items.{Shape, ◌with◌}
use Rattle.solid_model.specs.Items.Item.{Face, Fin, Edge}
use Rattle.solid_model.specs.Rings.{before, from, ring_of}
use Rattle.solid_model.specs.Rows.{Row, makes_five, refuse_where, ◌>>◌}
use Rattle.solid_model.specs.Places.{fin_at}

abbrev pub mef : Shape → Tag → Tag → Row
mef S f g = do
  u ← fin_at S f
  v ← fin_at S g
  refuse_where (not (same_tag u.loop_ v.loop_)) (NotOneLoop u.loop_ v.loop_)
  refuse_where (same_tag u.vertex v.vertex) (SameVertex u.vertex)
  makes_five (λ face loop_ edge x y. S with
      (face, Face u.shell loop_) ∷
      (loop_, ring_of face (before g u.fins ++ x ∷ [])) ∷
      (edge, Edge u.body) ∷
      (x, Fin y edge v.vertex) ∷
      (y, Fin x edge u.vertex) ∷
      (u.loop_, ring_of u.face (from g u.fins ++ y ∷ [])) ∷ [])
