-- mef: what it finds before it changes anything, its row, its room, and the tags that it takes.
use Rattle.std.proofs.Common.{◌≡◌, ◌≢◌, ◌<◌, List, [], ◌∷◌, ◌++◌, Some, None, refl, sym, ap, subst, ◌∙◌, arith, not, take, Ok}
use Rattle.std.specs.Prelude.{Contains, IsOk, IsTrue}
use Rattle.std.specs.List.{AllByRecursion}
use Rattle.std.specs.FinMap.{get}
use Rattle.pk_base.specs.declared.tag.Tag.{Tag}
use Rattle.pk_model.specs.Apart.{NoRepeats}
use Rattle.solid_model.specs.Items.{Item, Shape, item_at, ◌with◌}
use Rattle.solid_model.specs.Items.Item.{Face, Fin, Edge}
use Rattle.solid_model.specs.Rings.{before, from, ring_of}
use Rattle.solid_model.specs.Places.{PlacedFin, fin_at}
use Rattle.halfedge.specs.LinkedRings.{IsRing, IsInRing, ring_at}
use Rattle.solid_sound.proofs.shapes.Lookups.{Items}
use Rattle.solid_sound.proofs.edges.Ends.{FinIn, fin-well}
use Rattle.solid_sound.proofs.rows.RowKeeps.{IsWell, Keeps, well-shape}
use Rattle.solid_calls.proofs.RowKinds.{cost-making, mef-makes}
use Rattle.solid_calls.proofs.Represented.{Represents, represents-sound}
use Rattle.solid_edits.proofs.PlacedFins.{same-loop_lists}
use Rattle.std.proofs.lemmas.Bool.{not-false}
use Rattle.pk_base.specs.Building.{Building}
use Rattle.pk_base.specs.Entity.{same_tag}
use Rattle.pk_base.specs.declared.entity.Entity.{Entity}
use Rattle.pk_base.specs.declared.call.Call.TheVariants.{Mef}
use Rattle.pk_base.specs.declared.refusal.Refusal.TheVariants.{NotOneLoop, SameVertex}
use Rattle.pk_model.specs.Step.{◌>>=◌}
use Rattle.pk_model.specs.Tags.{TagsAscend, owns}
use Rattle.list_facts.proofs.Each.{ByRecursion-weaker, ByRecursion-left}
use Rattle.entity_store.specs.NextTags.{TagsView, left}
use Rattle.entity_store.specs.Store.{StoreView, IsHosted}
use Rattle.solid_model.specs.Mef.{mef}
use Rattle.solid_model.specs.Room.{changed_by_mef, if_found, tags_put}
use Rattle.solid_model.specs.Rows.{Row, cost_of, makes_five, refuse_where, ◌>>◌}
use Rattle.solid_model.specs.Shapes.{shape_of}
use Rattle.solid_calls.specs.Pairs.{HasTags, MayDo, reached, row_on}
use Rattle.entity_store.specs.Room.{HasRoomForThese}
use Rattle.solid_sound.proofs.rows.Asked.{free_item}
use Rattle.solid_sound.proofs.rows.KeptMef.{mef-keeps}
use Rattle.solid_sound.proofs.rows.KeptRings.{face_in, face_of_class}
use Rattle.pk_model.proofs.TagLists.{NoneOf}
use Rattle.pk_base.proofs.Same.{differs_means, same_means}
use Rattle.solid_edits.specs.declared.new_edges.NewEdge.{NewEdge}
use Rattle.solid_edits.proofs.EditedMaps.{shown-live}
use Rattle.solid_sound.proofs.shapes.Edits.{live-none_of}
use Rattle.solid_edits.proofs.Going.{not_refused_twice}
use Rattle.solid_calls.proofs.Sizes.{apart-ascending, ascend-left}

-- ---- the row

-- what is written by mef, at the fins g and u of one loop, where the new fin x starts at the vertex v
abbrev pub mef_items : PlacedFin → Tag → Tag → Tag → Tag → Tag → Tag → Tag → Items
mef_items u g v face l edge x y =
    (face, Face u.shell l) ∷
    (l, ring_of face (before g u.fins ++ x ∷ [])) ∷
    (edge, Edge u.body) ∷
    (x, Fin y edge v) ∷
    (y, Fin x edge u.vertex) ∷
    (u.loop_, ring_of u.face (from g u.fins ++ y ∷ [])) ∷ []

abbrev pub mef_makes : Shape → Tag → PlacedFin → PlacedFin → Row
mef_makes S g u v = makes_five (λ face l edge x y. S with mef_items u g v.vertex face l edge x y)

abbrev pub mef_after : Shape → Tag → PlacedFin → PlacedFin → Row
mef_after S g u v =
    refuse_where (not (same_tag u.loop_ v.loop_)) (NotOneLoop u.loop_ v.loop_) >> (refuse_where (same_tag u.vertex v.vertex) (SameVertex u.vertex) >> mef_makes S g u v)

-- the row, once both fins are found
pub mef-asked : (S : Shape) (f g : Tag) (u v : PlacedFin) → fin_at S f ≡ Ok u → fin_at S g ≡ Ok v → mef S f g ≡ mef_after S g u v
mef-asked S f g u v h k = ap (λ r. r >>= (λ a. fin_at S g >>= (λ b. mef_after S g a b))) h ∙ ap (λ r. r >>= (λ b. mef_after S g u b)) k

-- where it is not refused, the fins are of one loop and start at different vertices
pub mef-not_refused : (S : Shape) (f g : Tag) (u v : PlacedFin) → fin_at S f ≡ Ok u → fin_at S g ≡ Ok v → IsOk (mef S f g) → (u.loop_ ≡ v.loop_) × (u.vertex ≢ v.vertex) × (mef S f g ≡ mef_makes S g u v)
mef-not_refused S f g u v h k goes =
    let asked = mef-asked S f g u v h k in
    let twice = not_refused_twice (not (same_tag u.loop_ v.loop_)) (same_tag u.vertex v.vertex) (NotOneLoop u.loop_ v.loop_) (SameVertex u.vertex) (mef_makes S g u v) (subst (λ (r : Row). IsOk r) asked goes) in
    (same_means u.loop_ v.loop_ (not-false (same_tag u.loop_ v.loop_) twice.0), differs_means u.vertex v.vertex twice.1, asked ∙ twice.2)

-- the edge that is made, of these tags: x starts at the vertex v, in the new loop l
abbrev pub mef_edge : PlacedFin → (v l edge x y : Tag) → NewEdge
mef_edge u v l edge x y = record {
  tag = edge;
  body = u.body;
  fin = record { tag = x; loop_ = l; vertex = v };
  mate = record { tag = y; loop_ = u.loop_; vertex = u.vertex };
}

-- ---- all that is known when it goes on

-- it takes five tags
pub mef-cost : (S : Shape) (f g : Tag) → IsOk (mef S f g) → cost_of (mef S f g) ≡ 5
mef-cost S f g goes = cost-making 5 (mef S f g) (mef-makes S f g) goes

-- the tags that may be put
abbrev pub mef_puts : PlacedFin → Tag → Tag → Tag → Tag → Tag → List Tag
mef_puts u face l edge x y = face ∷ l ∷ edge ∷ x ∷ y ∷ u.loop_ ∷ u.fins

pub record MefGoes (s : StoreView) (f g : Tag) (u : PlacedFin) (v : Tag) (tags : List Tag) (face l edge x y : Tag) : Type 0 where
  pub well : IsWell (shape_of s.state.map)
  pub rep : Represents (shape_of s.state.map) s.state.map
  pub fin : FinIn (shape_of s.state.map) f u
  pub once : NoRepeats (face ∷ l ∷ edge ∷ x ∷ y ∷ [])
  pub free : AllByRecursion (λ t. item_at (shape_of s.state.map) t ≡ None) (face ∷ l ∷ edge ∷ x ∷ y ∷ [])
  pub less : x.0 < y.0
  pub other : f ≢ g
  pub g_in : Contains u.fins g
  pub ring : IsRing s.state.map u.fins
  pub is : reached (shape_of s.state.map) tags (row_on s.state.map (Mef f g)) ≡ shape_of s.state.map with mef_items u g v face l edge x y
  pub reached_well : IsWell (shape_of s.state.map with mef_items u g v face l edge x y)
  pub room : HasRoomForThese s.recording (mef_puts u face l edge x y)
  pub puts : tags_put (shape_of s.state.map) (Mef f g) tags ≡ mef_puts u face l edge x y
  pub owned : AllByRecursion (λ t. IsTrue (owns s.state.blocks t)) (face ∷ l ∷ edge ∷ x ∷ y ∷ [])
  pub known : AllByRecursion (λ t. IsTrue (owns s.state.blocks t)) (u.shell ∷ u.body ∷ u.loop_ ∷ u.face ∷ [])
  pub shell_apart : NoneOf u.shell (face ∷ l ∷ edge ∷ x ∷ y ∷ [])
  pub body_apart : NoneOf u.body (face ∷ l ∷ edge ∷ x ∷ y ∷ [])
  pub loop_apart : NoneOf u.loop_ (face ∷ l ∷ edge ∷ x ∷ y ∷ [])
  pub face_apart : u.face ≢ u.loop_

pub mef-goes : (s a : StoreView) → a ≡ s → (f g : Tag) (tags : TagsView) (out : Building Tag) (u v : PlacedFin) (face l edge x y : Tag) (rest : List Tag)
    → ((t : Tag) (e : Entity) → get a.state.map t ≡ Some e → IsHosted a.state.blocks t e) → MayDo s (Mef f g) (left tags) → HasTags s (cost_of (row_on s.state.map (Mef f g))) tags out
    → fin_at (shape_of a.state.map) f ≡ Ok u → fin_at (shape_of a.state.map) g ≡ Ok v → u.fins ≡ ring_at a.state.map f → IsInRing a.state.map f
    → left tags ≡ face ∷ l ∷ edge ∷ x ∷ y ∷ rest → MefGoes s f g u v.vertex (left tags) face l edge x y
mef-goes s a viewed f g tags out u v face l edge x y rest hosted_then may has found found_too fins_then in_ring_then parts =
    let m = s.state.map in
    let S = shape_of m in
    let hosted = subst (λ (z : StoreView). (t : Tag) (e : Entity) → get z.state.map t ≡ Some e → IsHosted z.state.blocks t e) viewed hosted_then in
    let h = subst (λ (z : StoreView). fin_at (shape_of z.state.map) f ≡ Ok u) viewed found in
    let k = subst (λ (z : StoreView). fin_at (shape_of z.state.map) g ≡ Ok v) viewed found_too in
    let fins_are = subst (λ (z : StoreView). u.fins ≡ ring_at z.state.map f) viewed fins_then in
    let in_ring = subst (λ (z : StoreView). IsInRing z.state.map f) viewed in_ring_then in
    let well = well-shape m may.sound in
    let rep = represents-sound m may.sound in
    let U = fin-well S well f (item_at S f) refl u h in
    let V = fin-well S well g (item_at S g) refl v k in
    let row = mef-not_refused S f g u v h k may.goes in
    let cost = mef-cost S f g may.goes in
    let ts : List Tag = face ∷ l ∷ edge ∷ x ∷ y ∷ rest in
    let new : List Tag = face ∷ l ∷ edge ∷ x ∷ y ∷ [] in
    let ascend : TagsAscend ts = subst TagsAscend parts has.ascend in
    let all_free : AllByRecursion (λ t. item_at S t ≡ None) ts =
    ByRecursion-weaker (λ t. get m t ≡ None) (λ t. item_at S t ≡ None) (λ t e. free_item m may.sound t e) ts (subst (AllByRecursion (λ t. get m t ≡ None)) parts has.free) in
    let free : AllByRecursion (λ t. item_at S t ≡ None) new = ByRecursion-left (λ t. item_at S t ≡ None) new rest all_free in
    let keeps : Keeps ts (mef_makes S g u v) = subst (Keeps ts) row.2 (mef-keeps S ts f g well ascend all_free) in
    let owned : AllByRecursion (λ t. IsTrue (owns s.state.blocks t)) new = subst (λ l. AllByRecursion (λ t. IsTrue (owns s.state.blocks t)) (take 5 l)) parts (subst (λ n. HasTags s n tags out) cost has).owned in
    let face_is = face_of_class (item_at S u.face) (well.sound.names.kinds u.loop_ _ U.end.loop_is).0.0 in
    let F = face_in S well u.face face_is.0 face_is.1 face_is.2 in
    let shell_same : face_is.0 ≡ u.shell = sym F.shell_of ∙ U.shell_is in
    let shell_is = ap (item_at S) (sym shell_same) ∙ F.shell_is in
    let live_owned = λ (t : Tag) (i : Item) (e : item_at S t ≡ Some i). let shown = shown-live S m t i (rep.items t i e) in (hosted t shown.0 shown.1).owned in
    let puts : tags_put S (Mef f g) (left tags) ≡ mef_puts u face l edge x y = λ i. take (cost i) (parts i) ++ if_found changed_by_mef (h i) in
    record {
      well = well;
      rep = rep;
      fin = U;
      once = apart-ascending new (ascend-left new rest ascend);
      free = free;
      less = ascend.1.1.1.0.0;
      other = λ e. let both : Some (Fin u.mate u.edge u.vertex) ≡ Some (Fin v.mate v.edge v.vertex) = sym U.fin_is ∙ ap (item_at S) e ∙ V.fin_is in row.1 (cc);
      g_in = same-loop_lists S f g u v U V row.0;
      ring = subst (IsRing m) (sym fins_are) in_ring.ring;
      is = ap (λ l. reached S l (mef S f g)) parts ∙ ap (reached S ts) row.2;
      reached_well = keeps (omega arith);
      room = subst (HasRoomForThese s.recording) puts may.room;
      puts = puts;
      owned = owned;
      known = (live_owned u.shell _ shell_is, (live_owned u.body _ U.end.body_is, (live_owned u.loop_ _ U.end.loop_is, (live_owned u.face _ face_is.2, tt))));
      shell_apart = live-none_of S new u.shell _ free shell_is;
      body_apart = live-none_of S new u.body _ free U.end.body_is;
      loop_apart = live-none_of S new u.loop_ _ free U.end.loop_is;
      face_apart = λ e. let both : Some (Face face_is.0 face_is.1) ≡ Some _ = sym face_is.2 ∙ ap (item_at S) e ∙ U.end.loop_is in absurd (cc);
    }
