-- kemr: what it finds before it changes anything, and its row.
use Rattle.std.proofs.Common.{◌≡◌, Bool, true, false, not, List, [], ◌∷◌, drop, Some, Ok, refl, sym, ap, subst, ◌∙◌}
use Rattle.std.specs.Prelude.{IsOk}
use Rattle.std.specs.FinMap.{get}
use Rattle.std.proofs.lemmas.Bool.{not-false}
use Rattle.pk_base.specs.Entity.{same_tag}
use Rattle.pk_base.specs.declared.tag.Tag.{Tag}
use Rattle.pk_base.specs.declared.entity.Entity.{Entity}
use Rattle.pk_base.specs.declared.refusal.Refusal.TheVariants.{TwoLoops}
use Rattle.pk_model.specs.Maps.{EntityMap}
use Rattle.pk_model.specs.Step.{◌>>=◌}
use Rattle.pk_base.specs.declared.call.Call.TheVariants.{Kemr}
use Rattle.entity_store.specs.Store.{IsHosted, StoreView}
use Rattle.solid_model.specs.Items.{Shape, ◌with◌}
use Rattle.solid_model.specs.Rings.{before, from, ring_or_lone}
use Rattle.solid_model.specs.Deaths.{◌without◌}
use Rattle.solid_model.specs.Rows.{Row, makes_one, refuse_where, ◌>>◌}
use Rattle.solid_model.specs.Places.{PlacedFin, fin_at}
use Rattle.solid_model.specs.Kemr.{kemr}
use Rattle.solid_model.specs.Shapes.{shape_of}
use Rattle.solid_model.specs.Sound.{IsSound}
use Rattle.pk_base.proofs.Same.{same_itself, same_means}
use Rattle.halfedge.specs.LinkedRings.{IsInRing, ring_at}
use Rattle.solid_places.specs.declared.fins.PlacedFin.{PlacedFin as FoundFin}
use Rattle.pk_base.specs.Building.{Building}
use Rattle.entity_store.specs.NextTags.{TagsView, left}
use Rattle.solid_calls.specs.Pairs.{HasTags, MayDo, row_on}
use Rattle.solid_model.specs.Rows.{cost_of}
use Rattle.solid_calls.proofs.RowKinds.{cost-making, kemr-makes}

-- ---- the row

-- what the row says once both fins were found
abbrev pub cut_row : Shape → Tag → PlacedFin → PlacedFin → Row
cut_row S f u w = makes_one (λ ring. S with
    (u.loop_, ring_or_lone u.face (drop 1 (from u.mate u.fins)) u.vertex) ∷
    (ring, ring_or_lone u.face (drop 1 (before u.mate u.fins)) w.vertex) ∷ []
    without f ∷ u.mate ∷ u.edge ∷ [])

abbrev tested_row : Shape → Tag → PlacedFin → PlacedFin → Bool → Row
tested_row S f u w b = refuse_where b (TwoLoops u.loop_ w.loop_) >> cut_row S f u w

pub kemr-found : (S : Shape) (f : Tag) (u w : PlacedFin) → fin_at S f ≡ Ok u → fin_at S u.mate ≡ Ok w → kemr S f ≡ tested_row S f u w (not (same_tag u.loop_ w.loop_))
kemr-found S f u w found other =
    ap (λ o. o >>= (λ p. fin_at S p.mate >>= (λ q. tested_row S f p q (not (same_tag p.loop_ q.loop_))))) found
    ∙ ap (λ o. o >>= (λ q. tested_row S f u q (not (same_tag u.loop_ q.loop_)))) other

refused_not : (S : Shape) (f : Tag) (u w : PlacedFin) (b : Bool) → IsOk (tested_row S f u w b) → b ≡ false
refused_not S f u w true h = absurd (cc)
refused_not S f u w false h = refl

-- where it is not refused, both fins have one loop
pub kemr-goes : (S : Shape) (f : Tag) (u w : PlacedFin) → fin_at S f ≡ Ok u → fin_at S u.mate ≡ Ok w → IsOk (kemr S f) → u.loop_ ≡ w.loop_
kemr-goes S f u w found other goes =
    same_means u.loop_ w.loop_ (not-false (same_tag u.loop_ w.loop_) (refused_not S f u w (not (same_tag u.loop_ w.loop_)) (subst (λ (o : Row). IsOk o) (kemr-found S f u w found other) goes)))

pub kemr-is : (S : Shape) (f : Tag) (u w : PlacedFin) → fin_at S f ≡ Ok u → fin_at S u.mate ≡ Ok w → u.loop_ ≡ w.loop_ → kemr S f ≡ cut_row S f u w
kemr-is S f u w found other one =
    kemr-found S f u w found other ∙ ap (λ b. tested_row S f u w (not b)) (ap (same_tag u.loop_) (sym one) ∙ same_itself u.loop_)

-- ---- the fins

-- the fin f and its mate were found, and have one loop
pub record IsOnBothSides (m : EntityMap) (f : Tag) (u w : PlacedFin) : Type 0 where
  pub sound : IsSound m
  pub found : fin_at (shape_of m) f ≡ Ok u
  pub other : fin_at (shape_of m) u.mate ≡ Ok w
  pub one : u.loop_ ≡ w.loop_
  pub ring : u.fins ≡ ring_at m f
  pub in_ring : IsInRing m f

-- a fin that was found, with the fins of its loop
abbrev pub placed_with : FoundFin → List Tag → PlacedFin
placed_with x fins = record {
  mate = x.mate;
  edge = x.edge;
  vertex = x.vertex;
  loop_ = x.loop_;
  face = x.face;
  shell = x.shell;
  body = x.body;
  fins = fins;
}

pub both-found : (s v v' : StoreView) (f : Tag) (x y : FoundFin) → v ≡ s → v' ≡ s → IsSound s.state.map → IsOk (kemr (shape_of s.state.map) f)
    → fin_at (shape_of v.state.map) f ≡ Ok (placed_with x (ring_at v.state.map f)) → fin_at (shape_of v'.state.map) x.mate ≡ Ok (placed_with y (ring_at v'.state.map x.mate)) → IsInRing v.state.map f
    → IsOnBothSides s.state.map f (placed_with x (ring_at s.state.map f)) (placed_with y (ring_at s.state.map x.mate))
both-found s v v' f x y e e' sound goes found other in_ring =
    let u = placed_with x (ring_at s.state.map f) in
    let w = placed_with y (ring_at s.state.map x.mate) in
    let here : fin_at (shape_of s.state.map) f ≡ Ok u = subst (λ (z : StoreView). fin_at (shape_of z.state.map) f ≡ Ok (placed_with x (ring_at z.state.map f))) e found in
    let there : fin_at (shape_of s.state.map) x.mate ≡ Ok w = subst (λ (z : StoreView). fin_at (shape_of z.state.map) x.mate ≡ Ok (placed_with y (ring_at z.state.map x.mate))) e' other in
    record {
      sound = sound;
      found = here;
      other = there;
      one = kemr-goes (shape_of s.state.map) f u w here there goes;
      ring = refl;
      in_ring = subst (λ (z : StoreView). IsInRing z.state.map f) e in_ring;
    }

-- ---- what is found

pub kemr-cost : (m : EntityMap) (f : Tag) → IsOk (kemr (shape_of m) f) → cost_of (row_on m (Kemr f)) ≡ 1
kemr-cost m f goes = cost-making 1 (row_on m (Kemr f)) (kemr-makes (shape_of m) f) goes

-- a fin, with the fins of its loop in this map
abbrev pub fin_read : EntityMap → Tag → FoundFin → PlacedFin
fin_read m f x = placed_with x (ring_at m f)

-- both fins were found, and the tag of the new loop was taken
pub record IsReady (old : StoreView) (f : Tag) (x y : FoundFin) (tags : TagsView) (out : Building Tag) (j : Tag) : Type 0 where
  pub may : MayDo old (Kemr f) (left tags)
  pub has : HasTags old 1 tags out
  pub cost : cost_of (row_on old.state.map (Kemr f)) ≡ 1
  pub hosted : (t : Tag) (i : Entity) → get old.state.map t ≡ Some i → IsHosted old.state.blocks t i
  pub at : IsOnBothSides old.state.map f (fin_read old.state.map f x) (fin_read old.state.map x.mate y)
  pub rest : List Tag
  pub taken : left tags ≡ j ∷ rest

-- what views of the store say is said of the store
pub ready-viewed : {old v w z : StoreView} {f : Tag} {tags : TagsView} {out : Building Tag} (x y : FoundFin) (j : Tag) (rest : List Tag) → MayDo old (Kemr f) (left tags) → HasTags old (cost_of (row_on old.state.map (Kemr f))) tags out
    → v ≡ old → w ≡ old → z ≡ old → ((t : Tag) (i : Entity) → get v.state.map t ≡ Some i → IsHosted v.state.blocks t i)
    → fin_at (shape_of w.state.map) f ≡ Ok (placed_with x (ring_at w.state.map f)) → fin_at (shape_of z.state.map) x.mate ≡ Ok (placed_with y (ring_at z.state.map x.mate))
    → IsInRing w.state.map f → left tags ≡ j ∷ rest → IsReady old f x y tags out j
ready-viewed {old = old} {w = w} {z = z} {f = f} {tags = tags} {out = out} x y j rest may has same is_w is_z hosted found other ring taken = record {
  may = may;
  has = subst (λ n. HasTags old n tags out) (kemr-cost old.state.map f may.goes) has;
  cost = kemr-cost old.state.map f may.goes;
  hosted = subst (λ (v : StoreView). (t : Tag) (i : Entity) → get v.state.map t ≡ Some i → IsHosted v.state.blocks t i) same hosted;
  at = both-found old w z f x y is_w is_z may.sound may.goes found other ring;
  rest = rest;
  taken = taken;
}
