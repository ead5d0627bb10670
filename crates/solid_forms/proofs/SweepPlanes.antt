-- After a sweep the side faces are plane, the swept face is where it was, and the other faces have their points.
use Rattle.std.proofs.Common.{◌≡◌, ◌≢◌, ℕ, suc, ◌+◌, ◌*◌, ◌<◌, ◌≤◌, ◌⊎◌, ⊎_elim, false, List, [], ◌∷◌, ◌++◌, length, take, Option, Some, None, Ok, refl, sym, ap, subst, ◌∙◌, append-nil, arith}
use Rattle.std.specs.Prelude.{◌+ℤ◌, nat_lt, ◌&&◌, map, filter, is_some, option_map, IsSome, Contains}
use Rattle.std.specs.List.{AllByRecursion, range_with_len}
use Rattle.std.proofs.lemmas.Bool.{true≢false}
use Rattle.std.proofs.lemmas.Bool.Decides.{nat_tests}
use Rattle.pk_base.specs.Blocks.{tag}
use Rattle.pk_base.specs.Entity.{same_optional}
use Rattle.pk_base.specs.declared.tag.Tag.{Tag}
use Rattle.pk_base.specs.declared.entity.Point.{Point}
use Rattle.pk_base.specs.declared.entity.Triple.{Triple}
use Rattle.pk_base.specs.declared.entity.Class.TheVariants as class
use Rattle.pk_base.specs.declared.call.Call.TheVariants.{Sweep}
use Rattle.pk_model.specs.Tags.{tag_at}
use Rattle.pk_plane.specs.Vectors.{dot}
use Rattle.pk_plane.specs.Turns.{moved}
use Rattle.solid_model.specs.Items.{Item, Shape, item_at, class_of_item}
use Rattle.solid_model.specs.Items.Item.{Face, Loop, Fin}
use Rattle.solid_model.specs.Rings.{ring_of}
use Rattle.solid_model.specs.Owners.{has_rings, owner_of_item, parts_of_class, same_class}
use Rattle.solid_model.specs.Places.{PlacedFace, face_at, fins_at, outer_at, start_at, point_at}
use Rattle.solid_model.specs.Newell.{newell}
use Rattle.solid_model.specs.Sound.{class_at, AreOf, optional}
use Rattle.solid_model.specs.Sweep.{triple_of}
use Rattle.list_facts.proofs.Elements.{not_in_nil, Contains-cases, Contains-filter, Contains-map}
use Rattle.list_facts.proofs.Each.{ByRecursion-get_or, ByRecursion-map, ByRecursion-weaker}
use Rattle.pk_base.proofs.Same.{same_itself, same_or_other}
use Rattle.solid_sound.proofs.shapes.Found.{none_or_some, item-among}
use Rattle.solid_sound.proofs.shapes.Reading.{fin_of_class, vertex_of_class}
use Rattle.solid_sound.proofs.rows.RowKeeps.{IsWell}
use Rattle.solid_sound.proofs.rows.Asked.{apart_at, free_at}
use Rattle.solid_sound.proofs.rows.KeptRings.{apart}
use Rattle.solid_forms.specs.Reached.{Reaches}
use Rattle.solid_forms.specs.SweepForm.{next_round, new_vertex, out_at, back_at, x_at, y_at, ys_of}
use Rattle.solid_forms.specs.Planes.{IsPlane, NewFacesArePlane, HasItsPoints}
use Rattle.solid_forms.proofs.Laminas.{reached-well}
use Rattle.solid_forms.proofs.Newells.{newell_of}
use Rattle.solid_forms.proofs.Levels.{newell-moved, dot-moved}
use Rattle.solid_forms.proofs.Raised.{face-not_loop}
use Rattle.solid_forms.proofs.Sweeps.{SweepReached}
use Rattle.solid_forms.proofs.Prisms.{starts-at, stands-at}
use Rattle.solid_forms.proofs.NewPlaces.{Bone, taken-place}
use Rattle.solid_forms.proofs.PlaneFaces.{start_point, OnlyLoop, plane-of_ring, side-plane}
use Rattle.solid_forms.proofs.NewLoops.{SideLoop, side-loop, side-face, face-new}
use Rattle.solid_forms.proofs.SolidPlanes.{outer-of, next-below}
use Rattle.solid_forms.proofs.InOrder.{less_or_more}

-- ---- lists

one_only : (xs : List Tag) (a b : Tag) → length xs ≤ 1 → Contains xs a → Contains xs b → a ≡ b
one_only [] a b h k l = absurd (not_in_nil a k)
one_only (x ∷ []) a b h k l = sym (only x a k) ∙ only x b l
  where
    only : (x a : Tag) → Contains (x ∷ []) a → x ≡ a
    only x a k = ⊎_elim (λ (e : x ≡ a). e) (λ (r : Contains [] a). absurd (not_in_nil a r)) (Contains-cases x [] a k)
one_only (x ∷ y ∷ xs) a b h k l = absurd (omega (arith, h))

map-same : {A B : Type 0} (F G : A → B) (xs : List A) → AllByRecursion (λ x. F x ≡ G x) xs → map F xs ≡ map G xs
map-same F G [] h = refl
map-same F G (x ∷ xs) h = λ i. h.0 i ∷ map-same F G xs h.1 i

-- two lists that agree at every place
map-places : (st : Tag → Point) (y : ℕ → Tag) (m : Point → Point) (g : Tag → Point) (xs : List Tag) (a : ℕ) → ((i : ℕ) → i < length xs → st (y (a + i)) ≡ m (g (tag_at xs i)))
    → map st (map y (range_with_len a (length xs))) ≡ map m (map g xs)
map-places st y m g [] a h = refl
map-places st y m g (x ∷ xs) a h =
    let first : st (y a) ≡ m (g x) = ap (λ j. st (y j)) (let e : a ≡ a + 0 = omega arith in e) ∙ h 0 (omega arith) in
    let rest = map-places st y m g xs (a + 1) (λ i less. ap (λ j. st (y j)) (let e : a + 1 + i ≡ a + suc i = omega arith in e) ∙ h (suc i) (omega (arith, less))) in
    λ i. first i ∷ rest i

-- ---- a face without rings

not_more : (n : ℕ) → nat_lt 1 n ≡ false → n ≤ 1
not_more n h = grind (arith, nat_tests)

loop_part : (S : Shape) (q f : Tag) (fins : List Tag) (vertex : Option Tag) → item_at S q ≡ Some (Loop f fins vertex) → Contains (parts_of_class class.Loop S f) q
loop_part S q f fins vertex is =
    let test = λ (x : Tag × Item). (same_class (class_of_item x.1) class.Loop && same_optional (owner_of_item S x.0 x.1) (Some f)) in
    Contains-map (λ (x : Tag × Item). x.0) (filter test S) (q, Loop f fins vertex) (Contains-filter test S (q, Loop f fins vertex) (item-among S q (Loop f fins vertex) is) (same_itself f))

pub only-loop : (S : Shape) (f q l : Tag) (fins list : List Tag) (vertex own : Option Tag) → has_rings S f ≡ false → item_at S q ≡ Some (Loop f fins vertex) → item_at S l ≡ Some (Loop f list own) → q ≡ l
only-loop S f q l fins list vertex own none q_is l_is =
    one_only (parts_of_class class.Loop S f) q l (not_more (length (parts_of_class class.Loop S f)) none) (loop_part S q f fins vertex q_is) (loop_part S l f list own l_is)

-- ---- after a sweep

-- where a loop was before
pub data SweepLoop (S : Shape) (tags : List Tag) (n : ℕ) (l q g : Tag) (list : List Tag) (vertex : Option Tag) : Type 0 where
  WasThere : item_at S q ≡ Some (Loop g list vertex) → q ≢ l → SweepLoop S tags n l q g list vertex
  IsSwept : q ≡ l → SweepLoop S tags n l q g list vertex
  IsAside : SideLoop tags n q g → SweepLoop S tags n l q g list vertex

module _ (S R : Shape) (tags : List Tag) (f : Tag) (by : Triple) (face : PlacedFace) (is_face : face_at S f ≡ Ok face) (r : Reaches S (Sweep f by) tags R) (w : SweepReached S R tags f by face r.takes) where
  abbrev l : Tag
  l = face.outer

  abbrev fins : List Tag
  fins = fins_at S face.outer

  abbrev n : ℕ
  n = length fins

  abbrev T : ℕ → Tag
  T i = tag_at tags i

  well : IsWell S
  well = reached-well S (Sweep f by) tags R r

  loop_was : item_at S l ≡ Some (Loop f fins None)
  loop_was = w.swept.loop_is

  not_live : (i : ℕ) → i < 9 * n → item_at S (T i) ≡ None
  not_live i h = free_at S tags i r.free (let e = w.enough in omega (arith, h, e))

  differ : (i j : ℕ) → i < j → j < 9 * n → T i ≢ T j
  differ i j h k = apart_at tags i j r.ascend h (let e = w.enough in omega (arith, k, e))

  new_bones : (i : ℕ) → i < n → Bone R (new_vertex tags i)
  new_bones i less = record { item = _; is = w.stands.points i less; bone = refl }

  swept_face : (g : Tag) (list : List Tag) (vertex : Option Tag) → item_at R l ≡ Some (Loop g list vertex) → g ≡ f
  swept_face g list vertex is = let both : Some (ring_of f (ys_of tags n n)) ≡ Some (Loop g list vertex) = sym w.stands.list ∙ is in cc

  -- ---- loops

  was_there : (q g : Tag) (list : List Tag) (vertex : Option Tag) (x : Item) → item_at R q ≡ Some (Loop g list vertex) → item_at S q ≡ Some x → q ≢ l → item_at S q ≡ Some (Loop g list vertex)
  was_there q g list vertex x is was other = was ∙ sym (w.stands.stays q x was other) ∙ is

  loop_from : (q g : Tag) (list : List Tag) (vertex : Option Tag) → item_at R q ≡ Some (Loop g list vertex) → SweepLoop S tags n l q g list vertex
  loop_from q g list vertex is =
      ⊎_elim {C = SweepLoop S tags n l q g list vertex}
      (λ (e : q ≡ l). IsSwept e)
      (λ (other : q ≢ l). ⊎_elim {C = SweepLoop S tags n l q g list vertex}
      (λ (live : IsSome (item_at S q)). ⊎_elim {C = SweepLoop S tags n l q g list vertex}
      (λ (none : item_at S q ≡ None). absurd (true≢false (sym live ∙ ap is_some none)))
      (λ (x : (y : Item) × (item_at S q ≡ Some y)). WasThere (was_there q g list vertex x.0 is x.1 other) other)
      (none_or_some (item_at S q)))
      (λ (new : Contains (take (9 * n) tags) q).
      let k = taken-place (9 * n) tags q new in
      IsAside (side-loop S R tags face.body face.shell fins w.stands.parts new_bones w.stands.sides k.0 q g list vertex k.1 k.2 is))
      (w.all q (ap is_some is)))
      (same_or_other q l)

  -- a loop of a face that does not stand in S
  face_lives : (q g : Tag) (list : List Tag) (vertex : Option Tag) → item_at S q ≡ Some (Loop g list vertex) → item_at S g ≡ None → ⊥
  face_lives q g list vertex is none =
      let live : class_at S g ≡ Some class.Face = (well.sound.names.kinds q (Loop g list vertex) is).0.0 in
      let dead : class_at S g ≡ None = ap (option_map class_of_item) none in
      let both : Some class.Face ≡ None = sym live ∙ dead in
      absurd {A = ⊥} (cc)

  f_lives : (i : ℕ) → i < 9 * n → T i ≢ f
  f_lives i h e = let both : Some (Face face.shell l) ≡ None = sym w.swept.face_is ∙ ap (item_at S) (sym e) ∙ not_live i h in absurd {A = ⊥} (cc)

  aside_of : (j : ℕ) → j < n → (q : Tag) (list : List Tag) (vertex : Option Tag) → item_at R q ≡ Some (Loop (T (4 * n + 5 * j)) list vertex) → SweepLoop S tags n l q (T (4 * n + 5 * j)) list vertex → q ≡ T (4 * n + 5 * j + 1)
  aside_of j less q list vertex is (WasThere was other) = absurd (face_lives q (T (4 * n + 5 * j)) list vertex was (not_live (4 * n + 5 * j) (omega (arith, less))))
  aside_of j less q list vertex is (IsSwept e) = absurd (f_lives (4 * n + 5 * j) (omega (arith, less)) (swept_face (T (4 * n + 5 * j)) list vertex (ap (item_at R) (sym e) ∙ is)))
  aside_of j less q list vertex is (IsAside s) =
      let few = s.less in
      ⊎_elim {C = q ≡ T (4 * n + 5 * j + 1)}
      (λ (a : j < s.side). absurd (differ (4 * n + 5 * j) (4 * n + 5 * s.side) (omega (arith, a)) (omega (arith, few)) s.face_is))
      (λ (b : (s.side < j) ⊎ (j ≡ s.side)). ⊎_elim {C = q ≡ T (4 * n + 5 * j + 1)}
      (λ (a : s.side < j). absurd (differ (4 * n + 5 * s.side) (4 * n + 5 * j) (omega (arith, a)) (omega (arith, less)) (sym s.face_is)))
      (λ (e : j ≡ s.side). s.loop_is ∙ ap (λ k. T (4 * n + 5 * k + 1)) (sym e)) b)
      (less_or_more j s.side)

  only_aside : (j : ℕ) → j < n → OnlyLoop R (T (4 * n + 5 * j)) (T (4 * n + 5 * j + 1))
  only_aside j less q list vertex is = aside_of j less q list vertex is (loop_from q (T (4 * n + 5 * j)) list vertex is)

  -- ---- points

  point_kept : (v : Tag) → class_at S v ≡ Some class.Vertex → point_at R v ≡ point_at S v
  point_kept v c =
      let x = vertex_of_class (item_at S v) c in
      let stays = w.stands.stays v _ x.2 (apart S v l _ (Loop f fins None) x.2 loop_was (λ e. cc)) in
      stands-at R v x.0 x.1 stays ∙ sym (stands-at S v x.0 x.1 x.2)

  start_kept : (g : Tag) → class_at S g ≡ Some class.Fin → start_point R g ≡ start_point S g
  start_kept g c =
      let x = fin_of_class (item_at S g) c in
      let stays = w.stands.stays g _ x.3 (apart S g l _ (Loop f fins None) x.3 loop_was (λ e. cc)) in
      let v = x.2 in
      ap (point_at R) (starts-at R g x.0 x.1 v stays)
      ∙ point_kept v (well.sound.names.kinds g (Fin x.0 x.1 v) x.3).2.0
      ∙ ap (point_at S) (sym (starts-at S g x.0 x.1 v x.3))

  are_fins : AreOf S class.Fin fins
  are_fins = (well.sound.names.kinds l (Loop f fins None) loop_was).1

  fin_kept : (i : ℕ) → i < n → start_point R (tag_at fins i) ≡ start_point S (tag_at fins i)
  fin_kept i less = start_kept (tag_at fins i) (ByRecursion-get_or (λ t. class_at S t ≡ Some class.Fin) fins i (tag 0) less are_fins)

  moved_at : (g mate edge : Tag) (i : ℕ) → i < n → item_at R g ≡ Some (Fin mate edge (new_vertex tags i)) → start_point R g ≡ moved by (start_point S (tag_at fins i))
  moved_at g mate edge i less is = ap (point_at R) (starts-at R g mate edge (new_vertex tags i) is) ∙ stands-at R (new_vertex tags i) face.body _ (w.stands.points i less)

  -- ---- the sides

  plane_aside : (j : ℕ) → j < n → IsPlane R (T (4 * n + 5 * j))
  plane_aside j less =
      let p = w.stands.parts in
      let s = w.stands.sides in
      let next = next_round n j in
      let next_less : next < n = next-below n j less in
      let u = λ (i : ℕ). start_point S (tag_at fins i) in
      let o_at : start_point R (out_at tags next) ≡ u next = ap (point_at R) (starts-at R _ _ _ _ (p.outs next next_less) ∙ sym (start_same next next_less)) ∙ fin_kept next next_less in
      side-plane R by (u j) (u next) (T (4 * n + 5 * j)) (T (4 * n + 5 * j + 1)) (back_at tags j) (tag_at fins j) (out_at tags next) (x_at tags n j)
      (s.lists j less) (outer-of R _ _ _ (s.faces j less)) (only_aside j less) (moved_at _ _ _ j less (p.backs j less)) (fin_kept j less) o_at (moved_at _ _ _ next next_less (p.xs j less))
    where
      start_same : (i : ℕ) → i < n → start_at R (tag_at fins i) ≡ start_at S (tag_at fins i)
      start_same i less =
          let x = fin_of_class (item_at S (tag_at fins i)) (ByRecursion-get_or (λ t. class_at S t ≡ Some class.Fin) fins i (tag 0) less are_fins) in
          let stays = w.stands.stays (tag_at fins i) _ x.3 (apart S (tag_at fins i) l _ (Loop f fins None) x.3 loop_was (λ e. cc)) in
          starts-at R (tag_at fins i) x.0 x.1 x.2 stays ∙ sym (starts-at S (tag_at fins i) x.0 x.1 x.2 x.3)

  pub sides-plane : NewFacesArePlane S R
  sides-plane g shell outer none is =
      let k = taken-place (9 * n) tags g (face-new S R tags (9 * n) w.all g shell outer none is) in
      let s = side-face S R tags face.body face.shell fins w.stands.parts new_bones w.stands.sides k.0 g shell outer k.1 k.2 is in
      subst (IsPlane R) (sym s.face_is) (plane_aside s.side s.less)

  -- ---- the swept face

  swept_of : (q : Tag) (list : List Tag) (vertex : Option Tag) → SweepLoop S tags n l q f list vertex → q ≡ l
  swept_of q list vertex (WasThere was other) = only-loop S f q l list fins vertex None w.no_rings was loop_was
  swept_of q list vertex (IsSwept e) = e
  swept_of q list vertex (IsAside s) = absurd (let few = s.less in f_lives (4 * n + 5 * s.side) (omega (arith, few)) (sym s.face_is))

  only_swept : OnlyLoop R f l
  only_swept q list vertex is = swept_of q list vertex (loop_from q f list vertex is)

  face_stays : item_at R f ≡ Some (Face face.shell l)
  face_stays = w.stands.stays f _ w.swept.face_is (face-not_loop S f face.shell face.body l fins w.swept)

  pub swept-plane : IsPlane S f → IsPlane R f
  swept-plane plane =
      let us = map (start_point S) fins in
      let ps = map (moved by) us in
      let N = newell_of us in
      let vector : newell S (outer_at S f) ≡ N = ap (newell S) (outer-of S f face.shell l w.swept.face_is) in
      let was : AllByRecursion (λ p. dot (triple_of p) (newell S (outer_at S f)) ≡ plane.level) us =
      subst (AllByRecursion (λ p. dot (triple_of p) (newell S (outer_at S f)) ≡ plane.level)) (append-nil us) (plane.points l fins None loop_was) in
      let here : AllByRecursion (λ p. dot (triple_of p) N ≡ plane.level) us = subst (λ (v : Triple). AllByRecursion (λ p. dot (triple_of p) v ≡ plane.level) us) vector was in
      let e = plane.level +ℤ dot by N in
      let there : AllByRecursion (λ p. dot (triple_of p) (newell_of ps) ≡ e) ps =
      ByRecursion-map (λ p. dot (triple_of p) N ≡ plane.level) (λ p. dot (triple_of p) (newell_of ps) ≡ e) (moved by)
      (λ p h. ap (dot (triple_of (moved by p))) (newell-moved by us) ∙ dot-moved by N p ∙ ap (λ x. x +ℤ dot by N) h) us here in
      let points : map (start_point R) (ys_of tags n n) ≡ ps = map-places (start_point R) (y_at tags n) (moved by) (start_point S) fins 0
      (λ i less. ap (λ j. start_point R (y_at tags n j)) (let z : 0 + i ≡ i = omega arith in z) ∙ moved_at _ _ _ i less (w.stands.parts.ys i less)) in
      plane-of_ring R f l (ys_of tags n n) e ps w.stands.list (outer-of R f face.shell l face_stays) only_swept points there

  -- ---- the others

  loop_stays : (g q : Tag) (list : List Tag) (vertex : Option Tag) → g ≢ f → item_at S q ≡ Some (Loop g list vertex) → item_at R q ≡ Some (Loop g list vertex)
  loop_stays g q list vertex other is = w.stands.stays q _ is (λ e. other (same_face q list vertex g is e))
    where
      same_face : (q : Tag) (list : List Tag) (vertex : Option Tag) (g : Tag) → item_at S q ≡ Some (Loop g list vertex) → q ≡ l → g ≡ f
      same_face q list vertex g is e = let both : Some (Loop g list vertex) ≡ Some (Loop f fins None) = sym is ∙ ap (item_at S) e ∙ loop_was in cc

  other_of : (g shell outer q : Tag) (list : List Tag) (vertex : Option Tag) → item_at S g ≡ Some (Face shell outer) → g ≢ f → item_at R q ≡ Some (Loop g list vertex) → SweepLoop S tags n l q g list vertex → item_at S q ≡ Some (Loop g list vertex)
  other_of g shell outer q list vertex live other is (WasThere was apart) = was
  other_of g shell outer q list vertex live other is (IsSwept e) = absurd (other (swept_face g list vertex (ap (item_at R) (sym e) ∙ is)))
  other_of g shell outer q list vertex live other is (IsAside s) =
      let few = s.less in
      let none = not_live (4 * n + 5 * s.side) (omega (arith, few)) in
      let both : Some (Face shell outer) ≡ None = sym live ∙ ap (item_at S) s.face_is ∙ none in
      absurd (cc)

  lone_kept : (vertex : Option Tag) → AreOf S class.Vertex (optional vertex) → map (point_at R) (optional vertex) ≡ map (point_at S) (optional vertex)
  lone_kept vertex kinds = map-same (point_at R) (point_at S) (optional vertex) (ByRecursion-weaker (λ t. class_at S t ≡ Some class.Vertex) (λ t. point_at R t ≡ point_at S t) point_kept (optional vertex) kinds)

  pub others-stay : (g shell outer : Tag) → item_at S g ≡ Some (Face shell outer) → g ≢ f → HasItsPoints S R g
  others-stay g shell outer live other = record {
    loops = λ q list vertex. (loop_stays g q list vertex other, λ is. other_of g shell outer q list vertex live other is (loop_from q g list vertex is));
    points = λ q list vertex is.
        (let kinds = well.sound.names.kinds q (Loop g list vertex) is in
        let starts = map-same (start_point R) (start_point S) list (ByRecursion-weaker (λ t. class_at S t ≡ Some class.Fin) (λ t. start_point R t ≡ start_point S t) start_kept list kinds.1) in
        λ i. starts i ++ lone_kept vertex kinds.2 i);
  }
