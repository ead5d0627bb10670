-- mekr: what it finds before it changes anything, its row, and the tags that it takes.
use Rattle.std.proofs.Common.{◌≡◌, ◌<◌, Bool, true, false, not, List, [], ◌∷◌, ◌++◌, Option, Some, None, Ok, refl, ap, subst, ◌∙◌, take}
use Rattle.std.specs.Prelude.{IfSome, IsOk, IsTrue}
use Rattle.std.specs.List.{AllByRecursion}
use Rattle.std.specs.FinMap.{get}
use Rattle.std.proofs.lemmas.Bool.{not-false}
use Rattle.pk_base.specs.Entity.{same_tag}
use Rattle.pk_base.specs.declared.tag.Tag.{Tag}
use Rattle.pk_base.specs.declared.entity.Entity.{Entity}
use Rattle.pk_base.specs.declared.refusal.Refusal.TheVariants.{NotOneFace, OneLoop, IsOuter, SameVertex}
use Rattle.pk_base.specs.declared.call.Call.TheVariants.{Mekr}
use Rattle.pk_model.specs.Apart.{NoRepeats}
use Rattle.pk_model.specs.Maps.{EntityMap}
use Rattle.pk_model.specs.Step.{◌>>=◌}
use Rattle.pk_model.specs.Tags.{TagsAscend, owns}
use Rattle.entity_store.specs.Store.{IsHosted, StoreView}
use Rattle.solid_model.specs.Items.{Shape, ◌with◌}
use Rattle.solid_model.specs.Items.Item.{Fin, Edge}
use Rattle.solid_model.specs.Rings.{ring_of}
use Rattle.solid_model.specs.Deaths.{◌without◌}
use Rattle.solid_model.specs.Rows.{Row, cost_of, makes_three, refuse_where, ◌>>◌}
use Rattle.solid_model.specs.Places.{End, end_at, outer_at}
use Rattle.solid_model.specs.Mekr.{mekr}
use Rattle.solid_model.specs.Shapes.{shape_of}
use Rattle.solid_model.specs.Sound.{IsSound}
use Rattle.halfedge.specs.LinkedRings.{IsInRing, ring_of_any}
use Rattle.solid_edits.specs.declared.new_edges.NewEdge.{NewEdge}
use Rattle.solid_places.specs.declared.ends.End.{End as FoundEnd}
use Rattle.pk_base.specs.Building.{Building}
use Rattle.entity_store.specs.NextTags.{TagsView, left}
use Rattle.solid_calls.specs.Pairs.{HasTags, MayDo, row_on}
use Rattle.solid_calls.proofs.RowKinds.{cost-making, mekr-makes}
use Rattle.solid_calls.proofs.Sizes.{apart-ascending, ascend-left}
use Rattle.list_facts.proofs.Each.{ByRecursion-left}

-- ---- the row

-- what the row says where nothing refuses it
abbrev pub joined_row : Shape → End → End → Row
joined_row S u v = makes_three (λ edge f m. S with
    (edge, Edge u.body) ∷
    (f, Fin m edge u.vertex) ∷
    (m, Fin f edge v.vertex) ∷
    (u.loop_, ring_of u.face (f ∷ v.fins ++ m ∷ u.fins)) ∷ []
    without v.loop_ ∷ [])

-- and by its tests, in their order
abbrev pub tested_row : Shape → End → End → Bool → Bool → Bool → Bool → Row
tested_row S u v a b c d =
    refuse_where a (NotOneFace u.face v.face) >> refuse_where b (OneLoop u.loop_) >> refuse_where c (IsOuter v.loop_) >> refuse_where d (SameVertex u.vertex) >> joined_row S u v

abbrev pub by_tests : Shape → End → End → Row
by_tests S u v = tested_row S u v (not (same_tag u.face v.face)) (same_tag u.loop_ v.loop_) (same_tag v.loop_ (outer_at S v.face)) (same_tag u.vertex v.vertex)

pub mekr-found : (S : Shape) (k r : Tag) (u v : End) → end_at S k ≡ Ok u → end_at S r ≡ Ok v → mekr S k r ≡ by_tests S u v
mekr-found S k r u v found other = ap (λ o. o >>= (λ p. end_at S r >>= (λ q. by_tests S p q))) found ∙ ap (λ o. o >>= (λ q. by_tests S u q)) other

-- no test refuses
pub record AreApart (S : Shape) (u v : End) : Type 0 where
  pub face : same_tag u.face v.face ≡ true
  pub loops : same_tag u.loop_ v.loop_ ≡ false
  pub outer : same_tag v.loop_ (outer_at S v.face) ≡ false
  pub ends : same_tag u.vertex v.vertex ≡ false

tests_pass : (S : Shape) (u v : End) (a b c d : Bool) → IsOk (tested_row S u v a b c d) → (a ≡ false) × (b ≡ false) × (c ≡ false) × (d ≡ false)
tests_pass S u v true b c d h = absurd (cc)
tests_pass S u v false true c d h = absurd (cc)
tests_pass S u v false false true d h = absurd (cc)
tests_pass S u v false false false true h = absurd (cc)
tests_pass S u v false false false false h = (refl, refl, refl, refl)

pub mekr-goes : (S : Shape) (k r : Tag) (u v : End) → end_at S k ≡ Ok u → end_at S r ≡ Ok v → IsOk (mekr S k r) → AreApart S u v
mekr-goes S k r u v found other goes =
    let h = tests_pass S u v (not (same_tag u.face v.face)) (same_tag u.loop_ v.loop_) (same_tag v.loop_ (outer_at S v.face)) (same_tag u.vertex v.vertex)
    (subst (λ (o : Row). IsOk o) (mekr-found S k r u v found other) goes) in
    record { face = not-false (same_tag u.face v.face) h.0; loops = h.1; outer = h.2; ends = h.3 }

pub mekr-is : (S : Shape) (k r : Tag) (u v : End) → end_at S k ≡ Ok u → end_at S r ≡ Ok v → AreApart S u v → mekr S k r ≡ joined_row S u v
mekr-is S k r u v found other apart = mekr-found S k r u v found other ∙ (λ i. tested_row S u v (not (apart.face i)) (apart.loops i) (apart.outer i) (apart.ends i))

-- ---- the ends

-- both ends were found, each with a fin of its loop's ring, where there is one, and no test refuses
pub record AreEnds (m : EntityMap) (k r : Tag) (u v : End) (at_k at_r : Option Tag) : Type 0 where
  pub sound : IsSound m
  pub found : end_at (shape_of m) k ≡ Ok u
  pub other : end_at (shape_of m) r ≡ Ok v
  pub apart : AreApart (shape_of m) u v
  pub kept : u.fins ≡ ring_of_any m at_k
  pub joined : v.fins ≡ ring_of_any m at_r
  pub kept_ring : IfSome at_k (IsInRing m)
  pub joined_ring : IfSome at_r (IsInRing m)

-- an end that was found, with the fins of its loop
abbrev pub end_with : FoundEnd → List Tag → End
end_with x fins = record { vertex = x.vertex; loop_ = x.loop_; face = x.face; body = x.body; fins = fins }

pub ends-found : (s a b : StoreView) (k r : Tag) (x y : FoundEnd) → a ≡ s → b ≡ s → IsSound s.state.map → IsOk (mekr (shape_of s.state.map) k r)
    → end_at (shape_of a.state.map) k ≡ Ok (end_with x (ring_of_any a.state.map x.first)) → end_at (shape_of b.state.map) r ≡ Ok (end_with y (ring_of_any b.state.map y.first))
    → IfSome x.first (IsInRing a.state.map) → IfSome y.first (IsInRing b.state.map)
    → AreEnds s.state.map k r (end_with x (ring_of_any s.state.map x.first)) (end_with y (ring_of_any s.state.map y.first)) x.first y.first
ends-found s a b k r x y is_a is_b sound goes found other ring_k ring_r =
    let u = end_with x (ring_of_any s.state.map x.first) in
    let v = end_with y (ring_of_any s.state.map y.first) in
    let here : end_at (shape_of s.state.map) k ≡ Ok u = subst (λ (z : StoreView). end_at (shape_of z.state.map) k ≡ Ok (end_with x (ring_of_any z.state.map x.first))) is_a found in
    let there : end_at (shape_of s.state.map) r ≡ Ok v = subst (λ (z : StoreView). end_at (shape_of z.state.map) r ≡ Ok (end_with y (ring_of_any z.state.map y.first))) is_b other in
    record {
      sound = sound;
      found = here;
      other = there;
      apart = mekr-goes (shape_of s.state.map) k r u v here there goes;
      kept = refl;
      joined = refl;
      kept_ring = subst (λ (z : StoreView). IfSome x.first (IsInRing z.state.map)) is_a ring_k;
      joined_ring = subst (λ (z : StoreView). IfSome y.first (IsInRing z.state.map)) is_b ring_r;
    }

-- ---- the tags that are taken

-- they are different, not live and owned, and the fin's is less than its mate's
pub record AreNew (s : StoreView) (e f g : Tag) : Type 0 where
  pub once : NoRepeats (e ∷ f ∷ g ∷ [])
  pub less : f.0 < g.0
  pub free : AllByRecursion (λ t. get s.state.map t ≡ None) (e ∷ f ∷ g ∷ [])
  pub owned : AllByRecursion (λ t. IsTrue (owns s.state.blocks t)) (e ∷ f ∷ g ∷ [])

pub are-new : (s : StoreView) (tags : List Tag) (e f g : Tag) (more : List Tag) → tags ≡ e ∷ f ∷ g ∷ more → TagsAscend tags
    → AllByRecursion (λ t. get s.state.map t ≡ None) tags → AllByRecursion (λ t. IsTrue (owns s.state.blocks t)) (take 3 tags) → AreNew s e f g
are-new s tags e f g more is ascend free owned =
    let up = subst TagsAscend is ascend in
    let none = subst (AllByRecursion (λ t. get s.state.map t ≡ None)) is free in
    record {
      once = apart-ascending (e ∷ f ∷ g ∷ []) (ascend-left (e ∷ f ∷ g ∷ []) more up);
      less = up.1.0.0;
      free = ByRecursion-left (λ t. get s.state.map t ≡ None) (e ∷ f ∷ g ∷ []) more none;
      owned = subst (λ (ts : List Tag). AllByRecursion (λ t. IsTrue (owns s.state.blocks t)) (take 3 ts)) is owned;
    }

-- ---- what is found

-- an end, with the fins of its loop in this map
abbrev pub end_in : EntityMap → FoundEnd → End
end_in m x = end_with x (ring_of_any m x.first)

-- it takes three tags
pub mekr-cost : (S : Shape) (k r : Tag) → IsOk (mekr S k r) → cost_of (mekr S k r) ≡ 3
mekr-cost S k r goes = cost-making 3 (mekr S k r) (mekr-makes S k r) goes

-- the edge that is made, of these tags, between two ends
abbrev pub edge_between : End → End → (e f g : Tag) → NewEdge
edge_between u v e f g = record {
  tag = e;
  body = u.body;
  fin = record { tag = f; loop_ = u.loop_; vertex = u.vertex };
  mate = record { tag = g; loop_ = u.loop_; vertex = v.vertex };
}

-- both ends were found, and the tags of the edge were taken
pub record IsReady (old : StoreView) (k r : Tag) (x y : FoundEnd) (tags : TagsView) (out : Building Tag) (e f h : Tag) : Type 0 where
  pub may : MayDo old (Mekr k r) (left tags)
  pub has : HasTags old 3 tags out
  pub hosted : (t : Tag) (i : Entity) → get old.state.map t ≡ Some i → IsHosted old.state.blocks t i
  pub at : AreEnds old.state.map k r (end_in old.state.map x) (end_in old.state.map y) x.first y.first
  pub rest : List Tag
  pub taken : left tags ≡ e ∷ f ∷ h ∷ rest

-- what views of the store say is said of the store
pub ready-viewed : {old v w z : StoreView} {k r : Tag} {tags : TagsView} {out : Building Tag} (x y : FoundEnd) (e f h : Tag) (rest : List Tag)
    → MayDo old (Mekr k r) (left tags) → HasTags old (cost_of (row_on old.state.map (Mekr k r))) tags out → v ≡ old → w ≡ old → z ≡ old
    → ((t : Tag) (i : Entity) → get v.state.map t ≡ Some i → IsHosted v.state.blocks t i)
    → end_at (shape_of w.state.map) k ≡ Ok (end_with x (ring_of_any w.state.map x.first)) → end_at (shape_of z.state.map) r ≡ Ok (end_with y (ring_of_any z.state.map y.first))
    → IfSome x.first (IsInRing w.state.map) → IfSome y.first (IsInRing z.state.map) → left tags ≡ e ∷ f ∷ h ∷ rest → IsReady old k r x y tags out e f h
ready-viewed {old = old} {w = w} {z = z} {k = k} {r = r} {tags = tags} {out = out} x y e f h rest may has same is_w is_z hosted found other ring_k ring_r taken = record {
  may = may;
  has = subst (λ n. HasTags old n tags out) (mekr-cost (shape_of old.state.map) k r may.goes) has;
  hosted = subst (λ (v : StoreView). (t : Tag) (i : Entity) → get v.state.map t ≡ Some i → IsHosted v.state.blocks t i) same hosted;
  at = ends-found old w z k r x y is_w is_z may.sound may.goes found other ring_k ring_r;
  rest = rest;
  taken = taken;
}
