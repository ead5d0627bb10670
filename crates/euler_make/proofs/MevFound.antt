-- mev: what it finds before it changes anything, its row, and the tags that it takes.
use Rattle.std.proofs.Common.{◌≡◌, List, [], ◌∷◌, ◌++◌, take, Some, Ok, ap, subst, ◌∙◌}
use Rattle.std.specs.Prelude.{IfSome, IsOk}
use Rattle.std.specs.FinMap.{get}
use Rattle.pk_base.specs.Building.{Building}
use Rattle.pk_base.specs.declared.tag.Tag.{Tag}
use Rattle.pk_base.specs.declared.call.Call.TheVariants as call
use Rattle.pk_base.specs.declared.entity.Entity.{Entity}
use Rattle.pk_base.specs.declared.entity.Triple.{Triple}
use Rattle.pk_model.specs.Maps.{EntityMap}
use Rattle.pk_model.specs.Tags.{tag_at}
use Rattle.entity_store.specs.NextTags.{TagsView, left}
use Rattle.entity_store.specs.Store.{IsHosted, StoreView}
use Rattle.solid_model.specs.Items.{Item, Shape, ◌with◌}
use Rattle.solid_model.specs.Items.Item.{Fin, Edge, Vertex}
use Rattle.solid_model.specs.Rings.{ends_of, ring_of}
use Rattle.solid_model.specs.Room.{changed_by_mev, if_found, tags_put}
use Rattle.pk_model.specs.Step.{◌>>=◌}
use Rattle.solid_model.specs.Rows.{Row, cost_of, makes_four, ◌>>◌}
use Rattle.solid_model.specs.Places.{End, end_at}
use Rattle.solid_model.specs.Ranges.{is_coordinate, numbers_of, point_of, refuse_outside}
use Rattle.solid_model.specs.Shapes.{shape_of}
use Rattle.solid_model.specs.Mev.{mev}
use Rattle.halfedge.specs.LinkedRings.{IsInRing, ring_of_any}
use Rattle.solid_calls.specs.Pairs.{HasTags, MayDo, reached, row_on}
use Rattle.solid_calls.proofs.RowKinds.{cost-making, mev-makes}
use Rattle.euler_make.specs.declared.mev.Strut.{Strut}
use Rattle.solid_places.specs.declared.ends.End.{End as PlacedEnd}
use Rattle.solid_edits.specs.declared.new_edges.NewEdge.{NewEdge}
use Rattle.solid_edits.proofs.Going.{goes-past}

-- ---- the row

-- what the row does at an end that was found
abbrev pub strut_items : End → Triple → Tag → Tag → Tag → Tag → List (Tag × Item)
strut_items u at w e n m = (w, Vertex u.body (point_of at)) ∷ (e, Edge u.body) ∷ (n, Fin m e u.vertex) ∷ (m, Fin n e w) ∷ (u.loop_, ring_of u.face (n ∷ m ∷ u.fins)) ∷ []

abbrev pub mev_makes : Shape → Triple → End → Row
mev_makes S at u = makes_four (λ w e n m. S with strut_items u at w e n m)

abbrev pub mev_from : Shape → Triple → End → Row
mev_from S at u = refuse_outside is_coordinate (numbers_of at) >> mev_makes S at u

pub mev-row : (S : Shape) (t : Tag) (at : Triple) (u : End) → end_at S t ≡ Ok u → IsOk (mev S t at) → mev S t at ≡ mev_makes S at u
mev-row S t at u found goes =
    let here : mev S t at ≡ mev_from S at u = ap (λ r. r >>= mev_from S at) found in
    here ∙ (goes-past (refuse_outside is_coordinate (numbers_of at)) (mev_makes S at u) (subst IsOk here goes)).same

pub mev-reaches : (S : Shape) (t : Tag) (at : Triple) (u : End) (tags : List Tag) (w e n m : Tag) (rest : List Tag) → end_at S t ≡ Ok u → IsOk (mev S t at) → tags ≡ w ∷ e ∷ n ∷ m ∷ rest
    → reached S tags (mev S t at) ≡ S with strut_items u at w e n m
mev-reaches S t at u tags w e n m rest found goes first =
    ap (reached S tags) (mev-row S t at u found goes) ∙ ap (λ ts. S with strut_items u at (tag_at ts 0) (tag_at ts 1) (tag_at ts 2) (tag_at ts 3)) first

-- ---- what is found

-- the edge that is made, of these tags, to the new vertex w
abbrev pub strut_edge : End → (w e n m : Tag) → NewEdge
strut_edge u w e n m = record {
  tag = e;
  body = u.body;
  fin = record { tag = n; loop_ = u.loop_; vertex = u.vertex };
  mate = record { tag = m; loop_ = u.loop_; vertex = w };
}

-- it takes four tags
pub mev-cost : (S : Shape) (t : Tag) (at : Triple) → IsOk (mev S t at) → cost_of (mev S t at) ≡ 4
mev-cost S t at goes = cost-making 4 (mev S t at) (mev-makes S t at) goes

-- the end was found, and the tags of the strut were taken
pub record IsReady (old : StoreView) (end : Tag) (at : Triple) (place : PlacedEnd) (tags : TagsView) (out : Building Tag) (s : Strut) : Type 0 where
  pub may : MayDo old (call.Mev end at) (left tags)
  pub has : HasTags old 4 tags out
  pub hosted : (t : Tag) (x : Entity) → get old.state.map t ≡ Some x → IsHosted old.state.blocks t x
  pub found : end_at (shape_of old.state.map) end ≡ Ok (record {
    vertex = place.vertex;
    loop_ = place.loop_;
    face = place.face;
    body = place.body;
    fins = ring_of_any old.state.map place.first;
  })
  pub ring : IfSome place.first (IsInRing old.state.map)
  pub rest : List Tag
  pub taken : left tags ≡ s.vertex ∷ s.edge ∷ s.out ∷ s.back ∷ rest
  pub puts : tags_put (shape_of old.state.map) (call.Mev end at) (left tags) ≡ s.vertex ∷ s.edge ∷ s.out ∷ s.back ∷ place.loop_ ∷ ends_of (ring_of_any old.state.map place.first)

-- what a view of the store says is said of the store
pub ready-viewed : {old v w : StoreView} {end : Tag} {at : Triple} {tags : TagsView} {out : Building Tag} (place : PlacedEnd) (s : Strut) (rest : List Tag)
    → MayDo old (call.Mev end at) (left tags) → HasTags old (cost_of (row_on old.state.map (call.Mev end at))) tags out → v ≡ old → w ≡ old
    → ((t : Tag) (x : Entity) → get v.state.map t ≡ Some x → IsHosted v.state.blocks t x)
    → end_at (shape_of w.state.map) end ≡ Ok (record {
      vertex = place.vertex;
      loop_ = place.loop_;
      face = place.face;
      body = place.body;
      fins = ring_of_any w.state.map place.first;
    })
    → IfSome place.first (IsInRing w.state.map) → left tags ≡ s.vertex ∷ s.edge ∷ s.out ∷ s.back ∷ rest → IsReady old end at place tags out s
ready-viewed {old = old} {end = end} {at = at} {tags = tags} {out = out} place s rest may has same also hosted found ring taken =
    let placed : EntityMap → End = λ m. record {
      vertex = place.vertex;
      loop_ = place.loop_;
      face = place.face;
      body = place.body;
      fins = ring_of_any m place.first;
    } in
    let here = subst (λ (w : StoreView). end_at (shape_of w.state.map) end ≡ Ok (placed w.state.map)) also found in
    let cost = mev-cost (shape_of old.state.map) end at may.goes in
    record {
      may = may;
      has = subst (λ n. HasTags old n tags out) cost has;
      hosted = subst (λ (v : StoreView). (t : Tag) (x : Entity) → get v.state.map t ≡ Some x → IsHosted v.state.blocks t x) same hosted;
      found = here;
      ring = subst (λ (w : StoreView). IfSome place.first (IsInRing w.state.map)) also ring;
      rest = rest;
      taken = taken;
      puts = λ i. take (cost i) (taken i) ++ if_found changed_by_mev (here i);
    }
