-- What mvfs, mev and mef write where they are not refused.
use Rattle.std.proofs.Common.{◌≡◌, true, false, not, List, [], ◌∷◌, ◌++◌, Some, None, Ok, sym, ap, subst, ◌∙◌}
use Rattle.std.specs.Prelude.{pos, IsOk}
use Rattle.pk_base.specs.Entity.{same_tag}
use Rattle.pk_base.specs.declared.tag.Tag.{Tag}
use Rattle.pk_base.specs.declared.entity.Triple.{Triple}
use Rattle.pk_base.specs.declared.refusal.Refusal.TheVariants.{NotOneLoop, SameVertex}
use Rattle.pk_model.specs.Tags.{tag_at}
use Rattle.pk_model.specs.Step.{◌>>=◌}
use Rattle.solid_model.specs.Items.{Shape, ◌with◌}
use Rattle.solid_model.specs.Items.Item.{Body, Shell, Face, Loop, Fin, Edge, Vertex}
use Rattle.solid_model.specs.Rings.{before, from, ring_of}
use Rattle.solid_model.specs.Rows.{Row, refuse_where, ◌>>◌}
use Rattle.solid_model.specs.Rows.Effect.{Makes}
use Rattle.solid_model.specs.Places.{End, end_at, PlacedFin, fin_at}
use Rattle.solid_model.specs.Ranges.{is_coordinate, numbers_of, point_of, refuse_outside}
use Rattle.solid_model.specs.Mvfs.{mvfs}
use Rattle.solid_model.specs.Mev.{mev}
use Rattle.solid_model.specs.Mef.{mef}
use Rattle.solid_sound.proofs.shapes.Lookups.{Items}

-- ---- a new body

abbrev pub body_items : Triple → List Tag → Items
body_items at ts =
    (tag_at ts 0, Body (tag_at ts 1)) ∷
    (tag_at ts 1, Shell (tag_at ts 0) (pos 1)) ∷
    (tag_at ts 2, Face (tag_at ts 1) (tag_at ts 3)) ∷
    (tag_at ts 3, Loop (tag_at ts 2) [] (Some (tag_at ts 4))) ∷
    (tag_at ts 4, Vertex (tag_at ts 0) (point_of at)) ∷ []

pub mvfs-is : (S : Shape) (at : Triple) → refuse_outside is_coordinate (numbers_of at) ≡ None → mvfs S at ≡ Ok (Makes 5 (λ ts. S with body_items at ts))
mvfs-is S at none = ap (λ o. o >> Ok (Makes 5 (λ ts. S with body_items at ts))) none

-- ---- a new edge to a new vertex

abbrev pub edge_items : End → Triple → List Tag → Items
edge_items u at ts =
    (tag_at ts 0, Vertex u.body (point_of at)) ∷
    (tag_at ts 1, Edge u.body) ∷
    (tag_at ts 2, Fin (tag_at ts 3) (tag_at ts 1) u.vertex) ∷
    (tag_at ts 3, Fin (tag_at ts 2) (tag_at ts 1) (tag_at ts 0)) ∷
    (u.loop_, ring_of u.face (tag_at ts 2 ∷ tag_at ts 3 ∷ u.fins)) ∷ []

abbrev edge_row : Shape → Triple → End → Row
edge_row S at u = refuse_outside is_coordinate (numbers_of at) >> Ok (Makes 4 (λ ts. S with edge_items u at ts))

pub mev-is : (S : Shape) (t : Tag) (at : Triple) (u : End) → end_at S t ≡ Ok u → refuse_outside is_coordinate (numbers_of at) ≡ None → mev S t at ≡ Ok (Makes 4 (λ ts. S with edge_items u at ts))
mev-is S t at u e none = ap (λ r. r >>= edge_row S at) e ∙ ap (λ o. o >> Ok (Makes 4 (λ ts. S with edge_items u at ts))) none

-- ---- an edge between two fins of one loop

abbrev pub cut_items : Tag → PlacedFin → PlacedFin → List Tag → Items
cut_items g u v ts =
    (tag_at ts 0, Face u.shell (tag_at ts 1)) ∷
    (tag_at ts 1, ring_of (tag_at ts 0) (before g u.fins ++ tag_at ts 3 ∷ [])) ∷
    (tag_at ts 2, Edge u.body) ∷
    (tag_at ts 3, Fin (tag_at ts 4) (tag_at ts 2) v.vertex) ∷
    (tag_at ts 4, Fin (tag_at ts 3) (tag_at ts 2) u.vertex) ∷
    (u.loop_, ring_of u.face (from g u.fins ++ tag_at ts 4 ∷ [])) ∷ []

abbrev cut_row : Shape → Tag → PlacedFin → PlacedFin → Row
cut_row S g u v =
    refuse_where (not (same_tag u.loop_ v.loop_)) (NotOneLoop u.loop_ v.loop_)
    >> refuse_where (same_tag u.vertex v.vertex) (SameVertex u.vertex)
    >> Ok (Makes 5 (λ ts. S with cut_items g u v ts))

pub mef-is : (S : Shape) (f g : Tag) (u v : PlacedFin) → fin_at S f ≡ Ok u → fin_at S g ≡ Ok v → same_tag u.loop_ v.loop_ ≡ true → same_tag u.vertex v.vertex ≡ false → mef S f g ≡ Ok (Makes 5 (λ ts. S with cut_items g u v ts))
mef-is S f g u v e k one two =
    ap (λ r. r >>= λ x. fin_at S g >>= cut_row S g x) e
    ∙ ap (λ r. r >>= cut_row S g u) k
    ∙ ap (λ b. refuse_where (not b) (NotOneLoop u.loop_ v.loop_) >> refuse_where (same_tag u.vertex v.vertex) (SameVertex u.vertex) >> Ok (Makes 5 (λ ts. S with cut_items g u v ts))) one
    ∙ ap (λ b. refuse_where b (SameVertex u.vertex) >> Ok (Makes 5 (λ ts. S with cut_items g u v ts))) two

pub goes-as : (row made : Row) → row ≡ made → IsOk made → IsOk row
goes-as row made is goes = subst (λ (r : Row). IsOk r) (sym is) goes
