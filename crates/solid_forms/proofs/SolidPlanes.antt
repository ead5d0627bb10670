-- Every new face of a lamina, of a prism and of a block is plane.
use Rattle.std.proofs.Common.{◌≡◌, ℕ, zero, suc, ◌+◌, ◌-◌, ◌*◌, ◌<◌, ◌≤◌, ⊎_elim, List, [], ◌∷◌, ◌++◌, length, Option, Some, refl, sym, ap, subst, ◌∙◌, arith}
use Rattle.std.specs.Prelude.{ℤ, ◌+ℤ◌}
use Rattle.std.specs.Option.{option_map_or}
use Rattle.std.specs.List.{AllByRecursion}
use Rattle.std.proofs.lemmas.List.{get_or-drop}
use Rattle.std.proofs.lemmas.List.FromFn.{length-map-range_with_len, get_or-map-range_with_len}
use Rattle.pk_base.specs.Blocks.{tag}
use Rattle.pk_base.specs.declared.tag.Tag.{Tag}
use Rattle.pk_base.specs.declared.entity.Pair.{Pair}
use Rattle.pk_base.specs.declared.entity.Point.{Point}
use Rattle.pk_base.specs.declared.entity.Triple.{Triple}
use Rattle.pk_base.specs.declared.call.Call.{Call}
use Rattle.pk_base.specs.declared.call.Call.TheVariants.{Lamina, Prism, Block}
use Rattle.pk_model.specs.Tags.{tag_at}
use Rattle.pk_plane.specs.Polygons.{corner}
use Rattle.solid_model.specs.Items.{Item, Shape, item_at}
use Rattle.solid_model.specs.Items.Item.{Face, Vertex}
use Rattle.solid_model.specs.Places.{outer_at, outer_of, start_at, point_at}
use Rattle.solid_model.specs.Ranges.{point_of}
use Rattle.solid_model.specs.Lamina.{at_height}
use Rattle.solid_model.specs.Prism.{upwards}
use Rattle.list_facts.proofs.Each.{ByRecursion-append}
use Rattle.solid_forms.specs.Reached.{Reaches}
use Rattle.solid_forms.specs.LaminaForm.{corner_place, backs_of, LaminaParts}
use Rattle.solid_forms.specs.SweepForm.{next_round, new_vertex, out_at, back_at, x_at, y_at, ys_of, side_face}
use Rattle.solid_forms.specs.PrismForm.{upper_fins, sweep_tags}
use Rattle.solid_forms.specs.Planes.{IsPlane, NewFacesArePlane}
use Rattle.solid_forms.proofs.Laminas.{lamina-reached}
use Rattle.solid_forms.proofs.Sides.{next-within, next-last}
use Rattle.solid_forms.proofs.Prisms.{upper-length, upper-starts, starts-at, stands-at, raised_point}
use Rattle.solid_forms.proofs.PrismRows.{PrismReached, prism-reached, block-reached, base}
use Rattle.solid_forms.proofs.NewPlaces.{Bone, taken-place}
use Rattle.solid_forms.proofs.PlaneFaces.{start_point, OnlyLoop, side-plane, flat-plane}
use Rattle.solid_forms.proofs.NewLoops.{NewLoop, NewFace, Lids, lid-loop, lid-face, loop-new, face-new, SideLoop, SideFace, side-loop, side-face, LoopsAreNew, only-below, only-above, only-aside}
use Rattle.solid_forms.proofs.NewLoops.NewLoop.{LoopAside}
use Rattle.solid_forms.proofs.NewLoops.NewFace.{FaceBelow, FaceAbove, FaceAside}
use Rattle.solid_forms.proofs.InOrder.{each_place, or_more, within_or_last}

pub outer-of : (R : Shape) (f shell outer : Tag) → item_at R f ≡ Some (Face shell outer) → outer_at R f ≡ outer
outer-of R f shell outer is = ap (λ (o : Option Item). option_map_or outer_of o (tag 0)) is

-- ---- the lower and the upper face of a lamina

-- the vertices at the corners have one height
module _ (R : Shape) (tags : List Tag) (n : ℕ) (z : ℤ) (parts : LaminaParts R tags n) (high : (i : ℕ) → i < n → (point_at R (tag_at tags (corner_place i))).z ≡ z) (some : 1 ≤ n) where
  abbrev at_z : Tag → Type 0
  at_z g = (start_point R g).z ≡ z

  backs_high : (k : ℕ) → k < n → AllByRecursion at_z (backs_of tags k)
  backs_high zero h = tt
  backs_high (suc k) h =
      (ap (λ v. (point_at R v).z) (starts-at R _ _ _ _ (parts.backs k (omega (arith, h)))) ∙ high (suc k) h, backs_high k (omega (arith, h)))

  pub lower-high : AllByRecursion at_z (backs_of tags (n - 1) ++ tag_at tags (4 * n + 5) ∷ [])
  lower-high = ByRecursion-append at_z (backs_of tags (n - 1)) (tag_at tags (4 * n + 5) ∷ []) (backs_high (n - 1) (omega (arith, some)))
      (ap (λ v. (point_at R v).z) (starts-at R _ _ _ _ parts.y) ∙ high 0 (omega (arith, some)), tt)

  pub upper-high : AllByRecursion at_z (upper_fins tags n)
  upper-high = each_place at_z (upper_fins tags n) (λ i less.
      let long = upper-length tags n some in
      let below : i < n = omega (arith, less, long) in
      ap (λ v. (point_at R v).z) (upper-starts R tags n parts i below) ∙ high i below)

stands_high : (R : Shape) (v b : Tag) (z : ℤ) (c : Pair) → item_at R v ≡ Some (Vertex b (point_of (at_height z c))) → (point_at R v).z ≡ z
stands_high R v b z c is = ap (λ (p : Point). p.z) (stands-at R v b (point_of (at_height z c)) is)

bone_vertex : (R : Shape) (v b : Tag) (p : Point) → item_at R v ≡ Some (Vertex b p) → Bone R v
bone_vertex R v b p is = record { item = Vertex b p; is = is; bone = refl }

-- ---- a lamina

pub lamina-planes : (S R : Shape) (tags : List Tag) (z : ℤ) (corners : List Pair) → Reaches S (Lamina z corners) tags R → NewFacesArePlane S R
lamina-planes S R tags z corners r f shell outer none is =
    let l = lamina-reached S R tags z corners r in
    let n = length corners in
    let s = l.stands in
    let few = l.few in
    let A = backs_of tags (n - 1) ++ tag_at tags (4 * n + 5) ∷ [] in
    let B = upper_fins tags n in
    let lids : Lids R tags n A B = record {
      parts = s.parts;
      vertices = λ i less. bone_vertex R _ _ _ (s.points i less);
      lower = s.lists.lower;
      lower_list = s.lists.lower_list;
      upper = s.lists.upper;
      upper_list = s.lists.upper_list;
    } in
    let room : 4 * n + 6 + 9 * 0 ≤ length tags = enough_tags S R tags z corners r in
    let loops : LoopsAreNew S R tags n 0 = λ q g fins vertex free is.
    (let k = taken-place (4 * n + 6) tags q (loop-new S R tags (4 * n + 6) r.sound s.stays l.all q g fins vertex free is) in
    lid-loop R tags n A B lids 0 k.0 q g fins vertex (omega (arith, few)) k.1 k.2 is) in
    let high = λ (i : ℕ) (less : i < n). stands_high R _ _ z (corner corners i) (s.points i less) in
    let some : 1 ≤ n = omega (arith, few) in
    let below = flat-plane R z (tag_at tags 2) (tag_at tags 3) A s.lists.lower_list (outer-of R _ _ _ s.lists.lower) (only-below S R tags n 0 r.ascend r.free room some loops) (lower-high R tags n z s.parts high some) in
    let above = flat-plane R z (tag_at tags (4 * n + 1)) (tag_at tags (4 * n + 2)) B s.lists.upper_list (outer-of R _ _ _ s.lists.upper) (only-above S R tags n 0 r.ascend r.free room some loops) (upper-high R tags n z s.parts high some) in
    let k = taken-place (4 * n + 6) tags f (face-new S R tags (4 * n + 6) l.all f shell outer none is) in
    plane_by R tags n f below above (lid-face R tags n A B lids 0 k.0 f shell outer some k.1 k.2 is)
  where
    plane_by : (R : Shape) (tags : List Tag) (n : ℕ) (f : Tag) → IsPlane R (tag_at tags 2) → IsPlane R (tag_at tags (4 * n + 1)) → NewFace tags n 0 f → IsPlane R f
    plane_by R tags n f below above (FaceBelow e) = subst (IsPlane R) (sym e) below
    plane_by R tags n f below above (FaceAbove e) = subst (IsPlane R) (sym e) above
    plane_by R tags n f below above (FaceAside j less e) = absurd (omega (arith, less))

    enough_tags : (S R : Shape) (tags : List Tag) (z : ℤ) (corners : List Pair) → Reaches S (Lamina z corners) tags R → 4 * length corners + 6 + 9 * 0 ≤ length tags
    enough_tags S R tags z corners r = let e = (lamina-reached S R tags z corners r).enough in omega (arith, e)

-- ---- a prism

pub next-below : (n i : ℕ) → i < n → next_round n i < n
next-below n i less = ⊎_elim {C = next_round n i < n}
    (λ (l : i + 1 < n). subst (λ k. k < n) (sym (next-within n i l)) l)
    (λ (r : i + 1 ≡ n). subst (λ k. k < n) (sym (next-last n i r)) (omega (arith, less)))
    (within_or_last i n less)

module _ (S R : Shape) (c : Call) (tags : List Tag) (z h : ℤ) (corners : List Pair) (r : Reaches S c tags R) (p : PrismReached S tags z h corners R r.takes) where
  abbrev n : ℕ
  n = length corners

  abbrev T : ℕ → Tag
  T i = tag_at tags i

  abbrev U : List Tag
  U = sweep_tags tags n

  abbrev fins : List Tag
  fins = upper_fins tags n

  some : 1 ≤ n
  some = let few = p.few in omega (arith, few)

  long : length fins ≡ n
  long = upper-length tags n some

  U_at : (i : ℕ) → tag_at U i ≡ T (4 * n + 6 + i)
  U_at i = get_or-drop (4 * n + 6) tags i (tag 0)

  room : 4 * n + 6 + 9 * n ≤ length tags
  room = let e = p.enough in omega (arith, e)

  -- the new vertices above
  above_at : (i : ℕ) → i < n → item_at R (new_vertex U i) ≡ Some (Vertex (T 0) (point_of (at_height (z +ℤ h) (corner corners i))))
  above_at i less = ap (item_at R) (U_at (4 * i)) ∙ p.stands.upper_points i less

  abbrev list_below : List Tag
  list_below = backs_of tags (n - 1) ++ tag_at tags (4 * n + 5) ∷ []

  abbrev list_above : List Tag
  list_above = ys_of U n n

  lids : Lids R tags n list_below list_above
  lids =
      let s = p.stands in
      record {
        parts = s.parts;
        vertices = λ i less. bone_vertex R _ _ _ (s.points i less);
        lower = s.faces.lower;
        lower_list = s.faces.lower_list;
        upper = s.faces.upper;
        upper_list = s.faces.upper_list;
      }

  new_bones : (i : ℕ) → i < length fins → Bone R (new_vertex U i)
  new_bones i less = bone_vertex R _ _ _ (above_at i (omega (arith, less, long)))

  -- a place after those of the lamina
  later_place : (k : ℕ) (q : Tag) → 4 * n + 6 ≤ k → T k ≡ q → tag_at U (k - (4 * n + 6)) ≡ q
  later_place k q more e = U_at (k - (4 * n + 6)) ∙ ap T (let s : 4 * n + 6 + (k - (4 * n + 6)) ≡ k = omega (arith, more) in s) ∙ e

  loop_aside : (q g : Tag) → SideLoop U (length fins) q g → NewLoop tags n n q g
  loop_aside q g s =
      let t = subst (λ k. SideLoop U k q g) long s in
      LoopAside t.side t.less (t.loop_is ∙ U_at (4 * n + 5 * t.side + 1)) (t.face_is ∙ U_at (4 * n + 5 * t.side))

  face_aside : (f : Tag) → SideFace U (length fins) f → NewFace tags n n f
  face_aside f s =
      let t = subst (λ k. SideFace U k f) long s in
      FaceAside t.side t.less (t.face_is ∙ U_at (4 * n + 5 * t.side))

  loops : LoopsAreNew S R tags n n
  loops q g list vertex free is =
      let s = p.stands in
      let k = taken-place (13 * n + 6) tags q (loop-new S R tags (13 * n + 6) r.sound s.stays p.all q g list vertex free is) in
      let below = k.1 in
      ⊎_elim {C = NewLoop tags n n q g}
      (λ (l : k.0 < 4 * n + 6). lid-loop R tags n list_below list_above lids n k.0 q g list vertex some l k.2 is)
      (λ (m : 4 * n + 6 ≤ k.0). loop_aside q g (side-loop R R U (T 0) (T 1) fins s.upper_parts new_bones s.faces.sides (k.0 - (4 * n + 6)) q g list vertex (omega (arith, below, m, long)) (later_place k.0 q m k.2) is))
      (or_more k.0 (4 * n + 6))

  below_high : (i : ℕ) → i < n → (point_at R (T (corner_place i))).z ≡ z
  below_high i less = stands_high R _ _ z (corner corners i) (p.stands.points i less)

  plane_below : IsPlane R (T 2)
  plane_below =
      let s = p.stands in
      flat-plane R z (T 2) (T 3) list_below s.faces.lower_list (outer-of R _ _ _ s.faces.lower) (only-below S R tags n n r.ascend r.free room some loops) (lower-high R tags n z s.parts below_high some)

  above_high : AllByRecursion (λ g. (start_point R g).z ≡ z +ℤ h) list_above
  above_high = each_place (λ g. (start_point R g).z ≡ z +ℤ h) list_above (λ i less.
      let count : length list_above ≡ n = length-map-range_with_len (y_at U n) 0 n in
      let below : i < n = omega (arith, less, count) in
      let y = p.stands.upper_parts.ys i (omega (arith, below, long)) in
      ap (λ g. (start_point R g).z) (get_or-map-range_with_len (y_at U n) 0 n i i (tag 0) below (omega arith) ∙ ap (λ k. y_at U k i) (sym long))
      ∙ ap (λ v. (point_at R v).z) (starts-at R _ _ _ _ y)
      ∙ stands_high R _ _ (z +ℤ h) (corner corners i) (above_at i below))

  plane_above : IsPlane R (T (4 * n + 1))
  plane_above =
      let s = p.stands in
      flat-plane R (z +ℤ h) (T (4 * n + 1)) (T (4 * n + 2)) list_above s.faces.upper_list (outer-of R _ _ _ s.faces.upper) (only-above S R tags n n r.ascend r.free room some loops) above_high

  -- where a fin starts that starts at a vertex
  at_vertex : (g mate edge v b : Tag) (q : Point) → start_at R g ≡ v → item_at R v ≡ Some (Vertex b q) → start_point R g ≡ q
  at_vertex g mate edge v b q starts is = ap (point_at R) starts ∙ stands-at R v b q is

  plane_aside : (j : ℕ) → j < n → IsPlane R (T (4 * n + 6 + (4 * n + 5 * j)))
  plane_aside j less =
      let s = p.stands in
      let m = length fins in
      let up = s.upper_parts in
      let inside : j < m = omega (arith, less, long) in
      let next = next_round m j in
      let next_inside : next < m = next-below m j inside in
      let next_less : next < n = omega (arith, next_inside, long) in
      let face_is : side_face U m j ≡ T (4 * n + 6 + (4 * n + 5 * j)) = U_at (4 * m + 5 * j) ∙ ap (λ k. T (4 * n + 6 + (4 * k + 5 * j))) long in
      let loop_is : tag_at U (4 * m + 5 * j + 1) ≡ T (4 * n + 6 + (4 * n + 5 * j + 1)) = U_at (4 * m + 5 * j + 1) ∙ ap (λ k. T (4 * n + 6 + (4 * k + 5 * j + 1))) long in
      let only = subst (λ f. OnlyLoop R f (tag_at U (4 * m + 5 * j + 1))) (sym face_is)
      (subst (λ l. OnlyLoop R (T (4 * n + 6 + (4 * n + 5 * j))) l) (sym loop_is) (only-aside S R tags n n r.ascend r.free room some loops j less)) in
      let low = λ (i : ℕ). point_of (at_height z (corner corners i)) in
      let b_at = at_vertex (back_at U j) (T 0) (T 0) _ _ _ (starts-at R _ _ _ _ (up.backs j inside)) (above_at j less) ∙ sym (raised_point z h (corner corners j)) in
      let f_at = at_vertex (tag_at fins j) (T 0) (T 0) _ _ _ (upper-starts R tags n s.parts j less) (s.points j less) in
      let o_at = at_vertex (out_at U next) (T 0) (T 0) _ _ _ (starts-at R _ _ _ _ (up.outs next next_inside) ∙ upper-starts R tags n s.parts next next_less) (s.points next next_less) in
      let x_at_ = at_vertex (x_at U m j) (T 0) (T 0) _ _ _ (starts-at R _ _ _ _ (up.xs j inside)) (above_at next next_less) ∙ sym (raised_point z h (corner corners next)) in
      subst (IsPlane R) face_is
      (side-plane R (upwards h) (low j) (low next) (side_face U m j) (tag_at U (4 * m + 5 * j + 1)) (back_at U j) (tag_at fins j) (out_at U next) (x_at U m j)
      (s.faces.sides.lists j inside) (outer-of R _ _ _ (s.faces.sides.faces j inside)) only b_at f_at o_at x_at_)

  plane_by : (f : Tag) → NewFace tags n n f → IsPlane R f
  plane_by f (FaceBelow e) = subst (IsPlane R) (sym e) plane_below
  plane_by f (FaceAbove e) = subst (IsPlane R) (sym e) plane_above
  plane_by f (FaceAside j less e) = subst (IsPlane R) (sym e) (plane_aside j less)

  pub prism-faces_plane : NewFacesArePlane S R
  prism-faces_plane f shell outer none is =
      let s = p.stands in
      let k = taken-place (13 * n + 6) tags f (face-new S R tags (13 * n + 6) p.all f shell outer none is) in
      let below = k.1 in
      plane_by f (⊎_elim {C = NewFace tags n n f}
      (λ (l : k.0 < 4 * n + 6). lid-face R tags n list_below list_above lids n k.0 f shell outer some l k.2 is)
      (λ (m : 4 * n + 6 ≤ k.0). face_aside f (side-face R R U (T 0) (T 1) fins s.upper_parts new_bones s.faces.sides (k.0 - (4 * n + 6)) f shell outer (omega (arith, below, m, long)) (later_place k.0 f m k.2) is))
      (or_more k.0 (4 * n + 6)))

pub prism-planes : (S R : Shape) (tags : List Tag) (z h : ℤ) (corners : List Pair) → Reaches S (Prism z h corners) tags R → NewFacesArePlane S R
prism-planes S R tags z h corners r = prism-faces_plane S R (Prism z h corners) tags z h corners r (prism-reached S R tags z h corners r)

pub block-planes : (S R : Shape) (tags : List Tag) (at size : Triple) → Reaches S (Block at size) tags R → NewFacesArePlane S R
block-planes S R tags at size r = prism-faces_plane S R (Block at size) tags at.z size.z (base at size) r (block-reached S R tags at size r)
