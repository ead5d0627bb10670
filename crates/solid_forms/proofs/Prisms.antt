-- A prism: the sweep of a lamina's upper face makes its closed form.
use Rattle.std.proofs.Common.{◌≡◌, ◌≢◌, ℕ, zero, suc, ◌+◌, ◌-◌, ◌*◌, ◌<◌, ◌≤◌, ⊎_elim, List, [], ◌∷◌, ◌++◌, length, Option, Some, None, sym, ap, subst, ◌∙◌, arith}
use Rattle.std.specs.Prelude.{ℤ, pos, ◌+ℤ◌, map}
use Rattle.std.specs.Option.{option_map_or}
use Rattle.std.specs.List.{AllByRecursion, range_with_len}
use Rattle.std.proofs.Math.IntN.{+ℤ_idr}
use Rattle.std.proofs.lemmas.List.{get_or-drop, get_or_append_left, length-drop}
use Rattle.std.proofs.lemmas.List.FromFn.{length-map-range_with_len, get_or-map-range_with_len}
use Rattle.pk_base.specs.Blocks.{tag}
use Rattle.pk_base.specs.declared.tag.Tag.{Tag}
use Rattle.pk_base.specs.declared.entity.Pair.{Pair}
use Rattle.pk_base.specs.declared.entity.Point.{Point}
use Rattle.pk_model.specs.Tags.{TagsAscend, tag_at}
use Rattle.pk_model.proofs.VertexModeller.{TagsAscend-at}
use Rattle.pk_plane.specs.Polygons.{origin, corner}
use Rattle.pk_plane.specs.Turns.{moved}
use Rattle.solid_model.specs.Items.{Item, Shape, item_at}
use Rattle.solid_model.specs.Items.Item.{Loop, Fin, Vertex}
use Rattle.solid_model.specs.Rings.{from_least, ring_of}
use Rattle.solid_model.specs.Places.{start_at, point_at, vertex_of, point_of_vertex, the_origin}
use Rattle.solid_model.specs.Ranges.{is_coordinate, numbers_of, point_of, refuse_outside}
use Rattle.solid_model.specs.Folds.{Progress}
use Rattle.solid_model.specs.Lamina.{at_height, after_lamina}
use Rattle.solid_model.specs.Sweep.{triple_of, after_sweep}
use Rattle.solid_model.specs.Prism.{upwards, after_prism}
use Rattle.list_facts.proofs.Each.{ByRecursion-append, ByRecursion-get_or}
use Rattle.solid_sound.proofs.rows.RowKeeps.{IsWell}
use Rattle.solid_sound.proofs.rows.Asked.{free_at, apart_at}
use Rattle.solid_sound.proofs.rows.KeptRings.{apart, free_apart}
use Rattle.solid_sound.proofs.rows.KeptFolds.{lamina-began}
use Rattle.solid_sound.proofs.rows.Progress.{start, Began, left-ascend, left-free}
use Rattle.solid_forms.specs.Reached.{AllStays}
use Rattle.solid_forms.specs.LaminaForm.{corner_place, outs_of, LaminaParts}
use Rattle.solid_forms.specs.SweepForm.{SweepParts, back_at, ys_of}
use Rattle.solid_forms.specs.PrismForm.{upper_fins, sweep_tags, PrismFaces}
use Rattle.solid_forms.proofs.Turnings.{from_least-itself}
use Rattle.solid_forms.proofs.Rows.{NotRefused}
use Rattle.solid_forms.proofs.Paths.{LaminaStands, LaminaMade, lamina-made}
use Rattle.solid_forms.proofs.Raised.{Swept, LeadsWithin, tag-next}
use Rattle.solid_forms.proofs.Sides.{SweepStands, sweep-stands}
use Rattle.solid_forms.proofs.InOrder.{each_place, length-last, within_or_last}

-- ---- the fins of the upper face

pub upper-length : (tags : List Tag) (n : ℕ) → 1 ≤ n → length (upper_fins tags n) ≡ n
upper-length tags n some =
    let one = length-last (outs_of tags (n - 1)) (tag_at tags (4 * n + 4)) in
    let two : length (outs_of tags (n - 1)) ≡ n - 1 = length-map-range_with_len (λ i. tag_at tags (4 * i + 7)) 0 (n - 1) in
    omega (arith, one, two, some)

-- fin i of the upper face, but the last one
pub upper-fin : (tags : List Tag) (n i : ℕ) → i + 1 < n → tag_at (upper_fins tags n) i ≡ tag_at tags (4 * i + 7)
upper-fin tags n i less =
    let long : length (outs_of tags (n - 1)) ≡ n - 1 = length-map-range_with_len (λ i. tag_at tags (4 * i + 7)) 0 (n - 1) in
    get_or_append_left (outs_of tags (n - 1)) (tag_at tags (4 * n + 4) ∷ []) (tag 0) i (omega (arith, long, less))
    ∙ get_or-map-range_with_len (λ i. tag_at tags (4 * i + 7)) 0 (n - 1) i i (tag 0) (omega (arith, less)) (omega arith)

pub upper-last : (tags : List Tag) (n i : ℕ) → i + 1 ≡ n → tag_at (upper_fins tags n) i ≡ tag_at tags (4 * n + 4)
upper-last tags n i end =
    let long : length (outs_of tags (n - 1)) ≡ n - 1 = length-map-range_with_len (λ i. tag_at tags (4 * i + 7)) 0 (n - 1) in
    let place : i ≡ length (outs_of tags (n - 1)) = omega (arith, long, end) in
    ap (tag_at (upper_fins tags n)) place ∙ tag-next (outs_of tags (n - 1)) [] (tag_at tags (4 * n + 4))

-- they ascend
outs-above : (tags : List Tag) (a k : ℕ) → TagsAscend tags → 1 ≤ a → 4 * (a + k) + 7 ≤ length tags → AllByRecursion (λ u. (tag_at tags 7).0 ≤ u.0) (map (λ i. tag_at tags (4 * i + 7)) (range_with_len a k))
outs-above tags a zero ascend some enough = tt
outs-above tags a (suc k) ascend some enough =
    let less = TagsAscend-at tags 7 (4 * a + 7) ascend (omega (arith, some)) (omega (arith, enough)) in
    (omega (arith, less), outs-above tags (a + 1) k ascend (omega arith) (omega (arith, enough)))

upper-least : (tags : List Tag) (m : ℕ) → TagsAscend tags → 4 * (m + 2) + 6 ≤ length tags → from_least (outs_of tags (suc m) ++ tag_at tags (4 * (m + 2) + 4) ∷ []) ≡ outs_of tags (suc m) ++ tag_at tags (4 * (m + 2) + 4) ∷ []
upper-least tags m ascend enough =
    let last = TagsAscend-at tags 7 (4 * (m + 2) + 4) ascend (omega arith) (omega (arith, enough)) in
    from_least-itself (tag_at tags 7) (map (λ i. tag_at tags (4 * i + 7)) (range_with_len 1 m) ++ tag_at tags (4 * (m + 2) + 4) ∷ [])
    (ByRecursion-append (λ u. (tag_at tags 7).0 ≤ u.0) (map (λ i. tag_at tags (4 * i + 7)) (range_with_len 1 m)) (tag_at tags (4 * (m + 2) + 4) ∷ [])
    (outs-above tags 1 m ascend (omega arith) (omega (arith, enough))) (omega (arith, last), tt))

pub upper-written : (tags : List Tag) (n : ℕ) → 2 ≤ n → TagsAscend tags → 4 * n + 6 ≤ length tags → from_least (upper_fins tags n) ≡ upper_fins tags n
upper-written tags n two ascend enough =
    let m = n - 2 in
    let count : m + 2 ≡ n = omega (arith, two) in
    let one : suc m ≡ n - 1 = omega (arith, two) in
    let fins : outs_of tags (suc m) ++ tag_at tags (4 * (m + 2) + 4) ∷ [] ≡ upper_fins tags n = λ i. outs_of tags (one i) ++ tag_at tags (4 * count i + 4) ∷ [] in
    subst (λ fs. from_least fs ≡ fs) fins (upper-least tags m ascend (omega (arith, count, enough)))

-- ---- what stands after a lamina and its sweep

pub record PrismStands (R : Shape) (S : Shape) (tags : List Tag) (z h : ℤ) (corners : List Pair) (n : ℕ) : Type 0 where
  pub faces : PrismFaces R tags n
  pub parts : LaminaParts R tags n
  pub upper_parts : SweepParts R R (sweep_tags tags n) (tag_at tags 0) (upper_fins tags n)
  pub points : (i : ℕ) → i < n → item_at R (tag_at tags (corner_place i)) ≡ Some (Vertex (tag_at tags 0) (point_of (at_height z (corner corners i))))
  pub upper_points : (i : ℕ) → i < n → item_at R (tag_at tags (4 * n + 6 + 4 * i)) ≡ Some (Vertex (tag_at tags 0) (point_of (at_height (z +ℤ h) (corner corners i))))
  pub stays : AllStays S R

pub raised_point : (z h : ℤ) (c : Pair) → moved (upwards h) (point_of (at_height z c)) ≡ point_of (at_height (z +ℤ h) c)
raised_point z h c = λ i. record { x = +ℤ_idr c.x i; y = +ℤ_idr c.y i; z = z +ℤ h }

pub starts-at : (R : Shape) (g mate edge v : Tag) → item_at R g ≡ Some (Fin mate edge v) → start_at R g ≡ v
starts-at R g mate edge v is = ap (λ (o : Option Item). option_map_or vertex_of o (tag 0)) is

pub stands-at : (R : Shape) (v b : Tag) (p : Point) → item_at R v ≡ Some (Vertex b p) → point_at R v ≡ p
stands-at R v b p is = ap (λ (o : Option Item). option_map_or point_of_vertex o the_origin) is

-- where fin i of the upper face starts
pub upper-starts : (R : Shape) (tags : List Tag) (n : ℕ) → LaminaParts R tags n → (i : ℕ) → i < n → start_at R (tag_at (upper_fins tags n) i) ≡ tag_at tags (corner_place i)
upper-starts R tags n parts i less = ⊎_elim
    (λ (l : i + 1 < n). ap (start_at R) (upper-fin tags n i l) ∙ starts-at R _ _ _ _ (parts.outs i l))
    (λ (r : i + 1 ≡ n). (let one : n - 1 ≡ i = omega (arith, r) in ap (start_at R) (upper-last tags n i r) ∙ starts-at R _ _ _ _ parts.x ∙ ap (λ j. tag_at tags (corner_place j)) one))
    (within_or_last i n less)

-- S is the shape at the beginning, and these are the tags that there were.
module _ (S : Shape) (tags : List Tag) (well : IsWell S) (ascend : TagsAscend tags) (free : AllByRecursion (λ t. item_at S t ≡ None) tags)
    (z h : ℤ) (corners : List Pair) (n : ℕ) (count : length corners ≡ n) (two : 2 ≤ n) (enough : 13 * n + 6 ≤ length tags)
    (within : AllByRecursion (NotRefused z) corners) (within_top : AllByRecursion (NotRefused (z +ℤ h)) corners) where
  abbrev T : ℕ → Tag
  T i = tag_at tags i

  abbrev L : Progress
  L = after_lamina z corners (start S tags)

  made : LaminaMade S tags z corners n L
  made = subst (λ k. LaminaMade S tags z corners k L) count (lamina-made S tags well ascend free z corners (omega (arith, count, two)) (omega (arith, count, enough)) within)

  began : Began S tags (4 * length corners + 6) L
  began = lamina-began S tags well ascend free z corners (omega (arith, count, enough))

  abbrev U : List Tag
  U = sweep_tags tags n

  abbrev fins : List Tag
  fins = upper_fins tags n

  long : length fins ≡ n
  long = upper-length tags n (omega (arith, two))

  lamina : LaminaStands S tags z corners n L.shape
  lamina = made.stands

  swept : Swept L.shape (T (4 * n + 1)) (T 1) (T 0) (T (4 * n + 2)) fins
  swept =
      let s = lamina in
      record {
        home = record { outer = T (4 * n + 2); q = pos 1; face_is = s.lists.upper; shell_is = s.parts.shell; body_is = s.parts.body };
        face_is = s.lists.upper;
        loop_is = s.lists.upper_list ∙ ap (λ fs. Some (Loop (T (4 * n + 1)) fs None)) (upper-written tags n two ascend (omega (arith, enough)));
      }

  -- where fin i starts, and the point there
  start_point : (i : ℕ) → i < n → point_at L.shape (start_at L.shape (tag_at fins i)) ≡ point_of (at_height z (corner corners i))
  start_point i less =
      let s = lamina in
      ap (point_at L.shape) (upper-starts L.shape tags n s.parts i less) ∙ stands-at L.shape _ _ _ (s.points i less)

  raised_by : (i : ℕ) → i < n → moved (upwards h) (point_at L.shape (start_at L.shape (tag_at fins i))) ≡ point_of (at_height (z +ℤ h) (corner corners i))
  raised_by i less = ap (moved (upwards h)) (start_point i less) ∙ raised_point z h (corner corners i)

  all_within : AllByRecursion (LeadsWithin L.shape (upwards h)) fins
  all_within = each_place (LeadsWithin L.shape (upwards h)) fins (λ i less.
      let below : i < n = omega (arith, less, long) in
      ap (λ p. refuse_outside is_coordinate (numbers_of (triple_of p))) (raised_by i below)
      ∙ ByRecursion-get_or (NotRefused (z +ℤ h)) corners i origin (omega (arith, below, count)) within_top)

  abbrev R : Shape
  R = (after_prism z h corners (start S tags)).shape

  L_tags : L.tags ≡ U
  L_tags = made.tags_are

  swept_up : SweepStands L.shape R U (upwards h) (T (4 * n + 1)) (T 1) (T 0) (T (4 * n + 2)) fins
  swept_up =
      let m = 4 * length corners + 6 in
      let n_long = length-drop (4 * n + 6) tags in
      let room : 9 * length fins ≤ length U = omega (arith, n_long, long, enough) in
      let stands = sweep-stands L.shape U began.well (subst TagsAscend L_tags (left-ascend S tags ascend free m L began)) (subst (λ ts. AllByRecursion (λ t. item_at L.shape t ≡ None) ts) L_tags (left-free S tags ascend free m L began))
      (upwards h) (T (4 * n + 1)) (T 1) (T 0) (T (4 * n + 2)) fins swept room (omega (arith, long, two)) all_within in
      let same : R ≡ (after_sweep (T (4 * n + 1)) (upwards h) (start L.shape U)).shape =
      (λ i. (after_sweep (T (4 * count i + 1)) (upwards h) (start L.shape (L_tags i))).shape) in
      subst (λ X. SweepStands L.shape X U (upwards h) (T (4 * n + 1)) (T 1) (T 0) (T (4 * n + 2)) fins) (sym same) stands

  -- what stood in the lamina stays, but for the upper loop
  keep : (t : Tag) (x : Item) → item_at L.shape t ≡ Some x → x ≢ Loop (T (4 * n + 1)) fins None → item_at R t ≡ Some x
  keep t x is other = swept_up.stays t x is (apart L.shape t (T (4 * n + 2)) x (Loop (T (4 * n + 1)) fins None) is swept.loop_is other)

  parts_stay : LaminaParts R tags n
  parts_stay =
      let p = lamina.parts in
      record {
        body = keep (T 0) _ p.body (λ e. cc);
        shell = keep (T 1) _ p.shell (λ e. cc);
        edges = λ i less. keep (T (4 * i + 6)) _ (p.edges i less) (λ e. cc);
        outs = λ i less. keep (T (4 * i + 7)) _ (p.outs i less) (λ e. cc);
        backs = λ i less. keep (T (4 * i + 8)) _ (p.backs i less) (λ e. cc);
        last_edge = keep (T (4 * n + 3)) _ p.last_edge (λ e. cc);
        x = keep (T (4 * n + 4)) _ p.x (λ e. cc);
        y = keep (T (4 * n + 5)) _ p.y (λ e. cc);
      }

  start_same : (i : ℕ) → i < n → start_at L.shape (tag_at fins i) ≡ start_at R (tag_at fins i)
  start_same i less = upper-starts L.shape tags n lamina.parts i less ∙ sym (upper-starts R tags n parts_stay i less)

  pub prism-stands : PrismStands R S tags z h corners n
  prism-stands =
      let s = lamina in
      let w = swept_up in
      let p = w.parts in
      record {
        faces = record {
          lower = keep (T 2) _ s.lists.lower (λ e. cc);
          lower_list = w.stays (T 3) _ s.lists.lower_list (apart_at tags 3 (4 * n + 2) ascend (omega (arith, two)) (omega (arith, enough)));
          upper = keep (T (4 * n + 1)) _ s.lists.upper (λ e. cc);
          upper_list = w.list ∙ ap (λ k. Some (ring_of (T (4 * n + 1)) (ys_of U k k))) long;
          sides = w.sides;
        };
        parts = parts_stay;
        upper_parts = record {
          edges = p.edges;
          outs = λ i less. p.outs i less ∙ ap (λ v. Some (Fin (back_at U i) (tag_at U (4 * i + 1)) v)) (start_same i (omega (arith, less, long)));
          backs = p.backs;
          upper = p.upper;
          xs = p.xs;
          ys = p.ys;
        };
        points = λ i less. keep (T (corner_place i)) _ (s.points i less) (λ e. cc);
        upper_points = λ i less.
            ap (item_at R) (sym (get_or-drop (4 * n + 6) tags (4 * i) (tag 0))) ∙ w.points i (omega (arith, less, long)) ∙ ap (λ q. Some (Vertex (T 0) q)) (raised_by i less);
        stays = λ t x is. w.stays t x (s.stays t x is) (free_apart S t (T (4 * n + 2)) x (free_at S tags (4 * n + 2) free (omega (arith, enough))) is);
      }
