-- A lamina: the path along its corners, one edge after another, and the cut that ends it.
use Rattle.std.proofs.Common.{◌≡◌, ◌≢◌, ℕ, suc, ◌+◌, ◌-◌, ◌*◌, ◌<◌, ◌≤◌, List, [], ◌∷◌, ◌++◌, length, drop, get_or, Some, None, Ok, refl, sym, ap, subst, ◌∙◌, append_assoc, append-nil, arith}
use Rattle.std.specs.Prelude.{ℤ, pos, map, Contains}
use Rattle.std.specs.List.{AllByRecursion, range_with_len}
use Rattle.std.proofs.lemmas.List.{drop-drop, length-map}
use Rattle.std.proofs.lemmas.List.Elements.{Contains-append_left, Contains-append_right}
use Rattle.std.proofs.lemmas.List.FromFn.{map-range_with_len_more}
use Rattle.pk_base.specs.declared.tag.Tag.{Tag}
use Rattle.pk_base.specs.declared.entity.Pair.{Pair}
use Rattle.pk_base.specs.declared.entity.Triple.{Triple}
use Rattle.pk_model.specs.Apart.{NoRepeats}
use Rattle.pk_model.specs.Tags.{TagsAscend, tag_at}
use Rattle.pk_plane.specs.Polygons.{origin, corner}
use Rattle.solid_model.specs.Items.{Item, Shape, item_at, ◌with◌}
use Rattle.solid_model.specs.Items.Item.{Body, Shell, Face, Loop, Fin, Edge, Vertex}
use Rattle.solid_model.specs.Rings.{written_from, from_least, ring_of}
use Rattle.solid_model.specs.Rows.{◌>>◌}
use Rattle.solid_model.specs.Rows.Effect.{Makes}
use Rattle.solid_model.specs.Ranges.{is_coordinate, numbers_of, point_of, refuse_outside}
use Rattle.solid_model.specs.Folds.{Progress, after_row, after_path}
use Rattle.solid_model.specs.Mvfs.{mvfs}
use Rattle.solid_model.specs.Mev.{mev}
use Rattle.solid_model.specs.Mef.{mef}
use Rattle.solid_model.specs.Lamina.{at_height, after_lamina}
use Rattle.list_facts.proofs.Elements.{Contains-first}
use Rattle.solid_model.proofs.lists.Turned.{turned-back, turned-in, turned-once, turned-least}
use Rattle.solid_sound.proofs.shapes.Lookups.{Items, with-other}
use Rattle.solid_sound.proofs.shapes.Reading.{fins-once}
use Rattle.solid_sound.proofs.rows.RowKeeps.{IsWell}
use Rattle.solid_sound.proofs.rows.Asked.{free_at, apart_at}
use Rattle.solid_sound.proofs.rows.KeptRings.{apart, free_apart}
use Rattle.solid_sound.proofs.rows.Progress.{start, Began, began-start, began-mvfs, began-mev, began-path, left-ascend, left-free, left-enough}
use Rattle.solid_forms.specs.Reached.{AllStays}
use Rattle.solid_forms.specs.LaminaForm.{corner_place, outs_of, backs_of, LaminaLists, LaminaParts}
use Rattle.solid_forms.proofs.Turnings.{written-least, from_least-swapped}
use Rattle.solid_forms.proofs.Rows.{NotRefused}
use Rattle.solid_forms.proofs.Steps.{Stand, stand-written, at-left, Home, edge_items, cut_items, four_of, five_of, edge-lone, edge-fin, cut-fins, edge-stands, edge-stays, cut-stands, cut-stays}
use Rattle.solid_forms.proofs.InOrder.{all_below, length-last}

-- ---- places

pub corner-next : (seen rest : List Pair) (c : Pair) → get_or (seen ++ c ∷ rest) (length seen) origin ≡ c
corner-next [] rest c = refl
corner-next (x ∷ xs) rest c = corner-next xs rest c

pub outs-more : (tags : List Tag) (m : ℕ) → outs_of tags (suc m) ≡ outs_of tags m ++ tag_at tags (4 * m + 7) ∷ []
outs-more tags m =
    let one : suc m ≡ m + 1 = omega arith in
    ap (outs_of tags) one ∙ map-range_with_len_more (λ i. tag_at tags (4 * i + 7)) 0 m m (omega arith)

-- ---- a path

-- Along the first k + 1 edges of a lamina of these corners.
pub record Path (S : Shape) (tags : List Tag) (z : ℤ) (corners : List Pair) (k : ℕ) (p : Progress) : Type 0 where
  pub body : item_at p.shape (tag_at tags 0) ≡ Some (Body (tag_at tags 1))
  pub shell : item_at p.shape (tag_at tags 1) ≡ Some (Shell (tag_at tags 0) (pos 1))
  pub face : item_at p.shape (tag_at tags 2) ≡ Some (Face (tag_at tags 1) (tag_at tags 3))
  pub loop_is : item_at p.shape (tag_at tags 3) ≡ Some (ring_of (tag_at tags 2) (outs_of tags (suc k) ++ backs_of tags (suc k)))
  pub points : (i : ℕ) → i < suc (suc k) → item_at p.shape (tag_at tags (corner_place i)) ≡ Some (Vertex (tag_at tags 0) (point_of (at_height z (corner corners i))))
  pub edges : (i : ℕ) → i < suc k → item_at p.shape (tag_at tags (4 * i + 6)) ≡ Some (Edge (tag_at tags 0))
  pub outs : (i : ℕ) → i < suc k → item_at p.shape (tag_at tags (4 * i + 7)) ≡ Some (Fin (tag_at tags (4 * i + 8)) (tag_at tags (4 * i + 6)) (tag_at tags (corner_place i)))
  pub backs : (i : ℕ) → i < suc k → item_at p.shape (tag_at tags (4 * i + 8)) ≡ Some (Fin (tag_at tags (4 * i + 7)) (tag_at tags (4 * i + 6)) (tag_at tags (4 * i + 5)))
  pub stays : AllStays S p.shape
  pub tags_are : p.tags ≡ drop (4 * k + 9) tags

-- What stands in a lamina of n corners.
pub record LaminaStands (S : Shape) (tags : List Tag) (z : ℤ) (corners : List Pair) (n : ℕ) (R : Shape) : Type 0 where
  pub lists : LaminaLists R tags n
  pub parts : LaminaParts R tags n
  pub points : (i : ℕ) → i < n → item_at R (tag_at tags (corner_place i)) ≡ Some (Vertex (tag_at tags 0) (point_of (at_height z (corner corners i))))
  pub stays : AllStays S R

-- And the tags that are left.
pub record LaminaMade (S : Shape) (tags : List Tag) (z : ℤ) (corners : List Pair) (n : ℕ) (p : Progress) : Type 0 where
  pub stands : LaminaStands S tags z corners n p.shape
  pub tags_are : p.tags ≡ drop (4 * n + 6) tags

-- S is the shape at the beginning, and these are the tags that there were.
module _ (S : Shape) (tags : List Tag) (well : IsWell S) (ascend : TagsAscend tags) (free : AllByRecursion (λ t. item_at S t ≡ None) tags) (z : ℤ) (corners : List Pair) where
  abbrev T : ℕ → Tag
  T i = tag_at tags i

  was_free : (i : ℕ) → i < length tags → item_at S (T i) ≡ None
  was_free i h = free_at S tags i free h

  -- one edge more
  path-next : (k n : ℕ) (p : Progress) (c : Pair) → corner corners (suc (suc k)) ≡ c → Began S tags n p → n + 4 ≤ length tags → 4 ≤ length tags → NotRefused z c → Path S tags z corners k p
      → Path S tags z corners (suc k) (after_row (mev p.shape (T (4 * k + 8)) (at_height z c)) p)
  path-next k n p c corner_is began enough some none h =
      let P = p.shape in
      let ts = p.tags in
      let p_ascend = left-ascend S tags ascend free n p began in
      let p_free = left-free S tags ascend free n p began in
      let fits : 4 ≤ length ts = left-enough S tags ascend free n 4 p began enough in
      let at = at_height z c in
      let t = T (4 * k + 8) in
      let v = T (4 * k + 5) in
      let outs = outs_of tags (suc k) in
      let backs = backs_of tags (suc k) in
      let list = from_least (outs ++ backs) in
      let old = ring_of (T 2) (outs ++ backs) in
      let once : NoRepeats list = fins-once P began.well.written began.well.sound (T 3) (T 2) list None h.loop_is in
      let among : Contains list t = turned-in (outs ++ backs) list (turned-least (outs ++ backs)) t (Contains-append_right outs backs t (Contains-first t (backs_of tags k))) in
      let written : written_from t list ≡ backs ++ outs = written-least t outs (backs_of tags k) once in
      let home : Home P (T 2) (T 1) (T 0) = record { outer = T 3; q = pos 1; face_is = h.face; shell_is = h.shell; body_is = h.body } in
      let row = edge-fin P began.well ts t (T (4 * k + 7)) (T (4 * k + 6)) v (T 3) (T 2) (T 1) (T 0) list None at (h.backs k (omega arith)) h.loop_is among home none in
      let xs = edge_items (T 0) (T 2) (T 3) v at (written_from t list) in
      let R = P with xs (four_of ts) in
      let stand = edge-stands P ts p_ascend p_free (T 3) old h.loop_is (T 0) (T 2) v at (written_from t list) fits in
      let left = λ (r j : ℕ) (e : 4 * k + 9 + r ≡ j). at-left tags ts (4 * k + 9) r j h.tags_are e in
      let w_is : tag_at ts 0 ≡ T (4 * suc k + 5) = left 0 (4 * suc k + 5) (omega arith) in
      let e_is : tag_at ts 1 ≡ T (4 * suc k + 6) = left 1 (4 * suc k + 6) (omega arith) in
      let n_is : tag_at ts 2 ≡ T (4 * suc k + 7) = left 2 (4 * suc k + 7) (omega arith) in
      let m_is : tag_at ts 3 ≡ T (4 * suc k + 8) = left 3 (4 * suc k + 8) (omega arith) in
      let named : Stand R (xs (T (4 * suc k + 5), T (4 * suc k + 6), T (4 * suc k + 7), T (4 * suc k + 8))) = subst (Stand R) (λ i. xs (w_is i, e_is i, n_is i, m_is i)) stand in
      let keep = λ (q : Tag) (y : Item) (is : item_at P q ≡ Some y) (other : y ≢ old).
      edge-stays P ts p_ascend p_free (T 3) old h.loop_is (T 0) (T 2) v at (written_from t list) fits q y is (apart P q (T 3) y old is h.loop_is other) in
      let n_tag = T (4 * suc k + 7) in
      let m_tag = T (4 * suc k + 8) in
      let next : Began S tags (n + 4) (record { shape = R; tags = drop 4 ts }) = subst (Began S tags (n + 4)) row (began-mev S tags ascend free n p t at began enough) in
      let ring : item_at R (T 3) ≡ Some (ring_of (T 2) ((n_tag ∷ m_tag ∷ backs) ++ outs)) = named.1.1.1.1.0 ∙ ap (λ fs. Some (ring_of (T 2) (n_tag ∷ m_tag ∷ fs))) written in
      let new_once = fins-once R next.well.written next.well.sound (T 3) (T 2) (from_least ((n_tag ∷ m_tag ∷ backs) ++ outs)) None ring in
      let turned : from_least ((n_tag ∷ m_tag ∷ backs) ++ outs) ≡ from_least (outs_of tags (suc (suc k)) ++ backs_of tags (suc (suc k))) =
      from_least-swapped (n_tag ∷ m_tag ∷ backs) outs new_once
      ∙ ap from_least (sym (append_assoc outs (n_tag ∷ []) (m_tag ∷ backs)) ∙ ap (λ fs. fs ++ m_tag ∷ backs) (sym (outs-more tags (suc k)))) in
      let long : drop 4 ts ≡ drop (4 * suc k + 9) tags = ap (drop 4) h.tags_are ∙ drop-drop 4 (4 * k + 9) tags ∙ ap (λ j. drop j tags) (let e : 4 * k + 9 + 4 ≡ 4 * suc k + 9 = omega arith in e) in
      let path : Path S tags z corners (suc k) (record { shape = R; tags = drop 4 ts }) = record {
        body = keep (T 0) _ h.body (λ e. cc);
        shell = keep (T 1) _ h.shell (λ e. cc);
        face = keep (T 2) _ h.face (λ e. cc);
        loop_is = ring ∙ ap (λ fs. Some (Loop (T 2) fs None)) turned;
        points = all_below (λ i. item_at R (T (corner_place i)) ≡ Some (Vertex (T 0) (point_of (at_height z (corner corners i))))) (suc (suc k))
            (λ i less. keep (T (corner_place i)) _ (h.points i less) (λ e. cc)) (named.0 ∙ ap (λ d. Some (Vertex (T 0) (point_of (at_height z d)))) (sym corner_is));
        edges = all_below (λ i. item_at R (T (4 * i + 6)) ≡ Some (Edge (T 0))) (suc k) (λ i less. keep (T (4 * i + 6)) _ (h.edges i less) (λ e. cc)) named.1.0;
        outs = all_below (λ i. item_at R (T (4 * i + 7)) ≡ Some (Fin (T (4 * i + 8)) (T (4 * i + 6)) (T (corner_place i)))) (suc k) (λ i less. keep (T (4 * i + 7)) _ (h.outs i less) (λ e. cc)) named.1.1.0;
        backs = all_below (λ i. item_at R (T (4 * i + 8)) ≡ Some (Fin (T (4 * i + 7)) (T (4 * i + 6)) (T (4 * i + 5)))) (suc k) (λ i less. keep (T (4 * i + 8)) _ (h.backs i less) (λ e. cc)) named.1.1.1.0;
        stays = λ q y is. edge-stays P ts p_ascend p_free (T 3) old h.loop_is (T 0) (T 2) v at (written_from t list) fits q y (h.stays q y is) (free_apart S q (T 3) y (was_free 3 (omega (arith, some))) is);
        tags_are = long;
      } in
      subst (Path S tags z corners (suc k)) (sym row) path

  -- all the others
  path-all : (rest seen : List Pair) (k n : ℕ) (p : Progress) → corners ≡ seen ++ rest → length seen ≡ suc (suc k) → Began S tags n p → n + 4 * length rest ≤ length tags → 4 ≤ length tags
      → AllByRecursion (NotRefused z) rest → Path S tags z corners k p → Path S tags z corners (k + length rest) (after_path (T (4 * k + 8)) (map (at_height z) rest) p)
  path-all [] seen k n p all long began enough some none h = subst (λ j. Path S tags z corners j p) (let e : k ≡ k + length {A = Pair} [] = omega arith in e) h
  path-all (c ∷ cs) seen k n p all long began enough some none h =
      let corner_is : corner corners (suc (suc k)) ≡ c = (λ i. get_or (all i) (sym long i) origin) ∙ corner-next seen cs c in
      let q = after_row (mev p.shape (T (4 * k + 8)) (at_height z c)) p in
      let next = path-next k n p c corner_is began (omega (arith, enough)) some none.0 h in
      let more : corners ≡ (seen ++ c ∷ []) ++ cs = all ∙ sym (append_assoc seen (c ∷ []) cs) in
      let longer : length (seen ++ c ∷ []) ≡ suc (suc (suc k)) = length-last seen c ∙ ap suc long in
      let q_began = began-mev S tags ascend free n p (T (4 * k + 8)) (at_height z c) began (omega (arith, enough)) in
      let rest = path-all cs (seen ++ c ∷ []) (suc k) (n + 4) q more longer q_began (omega (arith, enough)) some none.1 next in
      let t_is : tag_at p.tags 3 ≡ T (4 * suc k + 8) = at-left tags p.tags (4 * k + 9) 3 (4 * suc k + 8) h.tags_are (omega arith) in
      let count : suc k + length cs ≡ k + length (c ∷ cs) = omega arith in
      subst (λ j. Path S tags z corners j (after_path (T (4 * k + 8)) (map (at_height z) (c ∷ cs)) p)) count
      (subst (λ t. Path S tags z corners (suc k + length cs) (after_path t (map (at_height z) cs) q)) (sym t_is) rest)

  -- ---- the first vertex, and the first edge

  abbrev body_items : Triple → Items
  body_items at =
      (T 0, Body (T 1)) ∷
      (T 1, Shell (T 0) (pos 1)) ∷
      (T 2, Face (T 1) (T 3)) ∷
      (T 3, Loop (T 2) [] (Some (T 4))) ∷
      (T 4, Vertex (T 0) (point_of at)) ∷ []

  abbrev begun : Triple → Progress
  begun at = record { shape = S with body_items at; tags = drop 5 tags }

  begun-is : (at : Triple) → refuse_outside is_coordinate (numbers_of at) ≡ None → after_row (mvfs S at) (start S tags) ≡ begun at
  begun-is at none = ap (λ o. after_row (o >> Ok (Makes 5 (λ ts. S with
      (tag_at ts 0, Body (tag_at ts 1)) ∷
      (tag_at ts 1, Shell (tag_at ts 0) (pos 1)) ∷
      (tag_at ts 2, Face (tag_at ts 1) (tag_at ts 3)) ∷
      (tag_at ts 3, Loop (tag_at ts 2) [] (Some (tag_at ts 4))) ∷
      (tag_at ts 4, Vertex (tag_at ts 0) (point_of at)) ∷ []))) (start S tags)) none

  body-stands : (at : Triple) → 5 ≤ length tags → Stand (S with body_items at) (body_items at)
  body-stands at enough =
      let apart = λ (i j : ℕ) (h : i < j) (k : j < 5). apart_at tags i j ascend h (omega (arith, k, enough)) in
      stand-written S (body_items at) (
        (apart 0 1 (omega arith) (omega arith), (apart 0 2 (omega arith) (omega arith), (apart 0 3 (omega arith) (omega arith), (apart 0 4 (omega arith) (omega arith), tt)))),
        (
          (apart 1 2 (omega arith) (omega arith), (apart 1 3 (omega arith) (omega arith), (apart 1 4 (omega arith) (omega arith), tt))),
          ((apart 2 3 (omega arith) (omega arith), (apart 2 4 (omega arith) (omega arith), tt)), ((apart 3 4 (omega arith) (omega arith), tt), (tt, tt))),
        ),
      )

  body-stays : (at : Triple) → 5 ≤ length tags → AllStays S (S with body_items at)
  body-stays at enough q y is =
      let other = λ (i : ℕ) (h : i < 5). free_apart S q (T i) y (was_free i (omega (arith, h, enough))) is in
      with-other S (body_items at) q (other 0 (omega arith), (other 1 (omega arith), (other 2 (omega arith), (other 3 (omega arith), (other 4 (omega arith), tt))))) ∙ is

  path-first : (c d : Pair) → corner corners 0 ≡ c → corner corners 1 ≡ d → 9 ≤ length tags → NotRefused z c → NotRefused z d
      → Path S tags z corners 0 (after_row (mev (begun (at_height z c)).shape (T 3) (at_height z d)) (begun (at_height z c)))
  path-first c d c_is d_is enough one two =
      let p = begun (at_height z c) in
      let P = p.shape in
      let ts = p.tags in
      let began : Began S tags (0 + 5) p = subst (Began S tags (0 + 5)) (begun-is (at_height z c) one) (began-mvfs S tags ascend free 0 (start S tags) (at_height z c) (began-start S tags well) (omega (arith, enough))) in
      let p_ascend = left-ascend S tags ascend free (0 + 5) p began in
      let p_free = left-free S tags ascend free (0 + 5) p began in
      let fits : 4 ≤ length ts = left-enough S tags ascend free (0 + 5) 4 p began (omega (arith, enough)) in
      let at = at_height z d in
      let b = body-stands (at_height z c) (omega (arith, enough)) in
      let old = Loop (T 2) [] (Some (T 4)) in
      let loop_is : item_at P (T 3) ≡ Some old = b.1.1.1.0 in
      let home : Home P (T 2) (T 1) (T 0) = record { outer = T 3; q = pos 1; face_is = b.1.1.0; shell_is = b.1.0; body_is = b.0 } in
      let row = edge-lone P began.well ts (T 3) (T 2) (T 1) (T 0) (T 4) at loop_is home two in
      let xs = edge_items (T 0) (T 2) (T 3) (T 4) at [] in
      let R = P with xs (four_of ts) in
      let stand = edge-stands P ts p_ascend p_free (T 3) old loop_is (T 0) (T 2) (T 4) at [] fits in
      let w_is : tag_at ts 0 ≡ T 5 = at-left tags ts 5 0 5 refl refl in
      let e_is : tag_at ts 1 ≡ T 6 = at-left tags ts 5 1 6 refl refl in
      let n_is : tag_at ts 2 ≡ T 7 = at-left tags ts 5 2 7 refl refl in
      let m_is : tag_at ts 3 ≡ T 8 = at-left tags ts 5 3 8 refl refl in
      let named : Stand R (xs (T 5, T 6, T 7, T 8)) = subst (Stand R) (λ i. xs (w_is i, e_is i, n_is i, m_is i)) stand in
      let keep = λ (q : Tag) (y : Item) (is : item_at P q ≡ Some y) (other : y ≢ old).
      edge-stays P ts p_ascend p_free (T 3) old loop_is (T 0) (T 2) (T 4) at [] fits q y is (apart P q (T 3) y old is loop_is other) in
      let path : Path S tags z corners 0 (record { shape = R; tags = drop 4 ts }) = record {
        body = keep (T 0) _ b.0 (λ e. cc);
        shell = keep (T 1) _ b.1.0 (λ e. cc);
        face = keep (T 2) _ b.1.1.0 (λ e. cc);
        loop_is = named.1.1.1.1.0;
        points = all_below (λ i. item_at R (T (corner_place i)) ≡ Some (Vertex (T 0) (point_of (at_height z (corner corners i))))) 1
            (all_below (λ i. item_at R (T (corner_place i)) ≡ Some (Vertex (T 0) (point_of (at_height z (corner corners i))))) 0 (λ i less. absurd (omega (arith, less)))
            (keep (T 4) _ b.1.1.1.1.0 (λ e. cc) ∙ ap (λ x. Some (Vertex (T 0) (point_of (at_height z x)))) (sym c_is)))
            (named.0 ∙ ap (λ x. Some (Vertex (T 0) (point_of (at_height z x)))) (sym d_is));
        edges = all_below (λ i. item_at R (T (4 * i + 6)) ≡ Some (Edge (T 0))) 0 (λ i less. absurd (omega (arith, less))) named.1.0;
        outs = all_below (λ i. item_at R (T (4 * i + 7)) ≡ Some (Fin (T (4 * i + 8)) (T (4 * i + 6)) (T (corner_place i)))) 0 (λ i less. absurd (omega (arith, less))) named.1.1.0;
        backs = all_below (λ i. item_at R (T (4 * i + 8)) ≡ Some (Fin (T (4 * i + 7)) (T (4 * i + 6)) (T (4 * i + 5)))) 0 (λ i less. absurd (omega (arith, less))) named.1.1.1.0;
        stays = λ q y is. edge-stays P ts p_ascend p_free (T 3) old loop_is (T 0) (T 2) (T 4) at [] fits q y (body-stays (at_height z c) (omega (arith, enough)) q y is)
            (free_apart S q (T 3) y (was_free 3 (omega (arith, enough))) is);
        tags_are = drop-drop 4 5 tags;
      } in
      subst (Path S tags z corners 0) (sym row) path

  -- ---- the cut from the first fin out to the last fin back

  path-cut : (k n m : ℕ) (p : Progress) → n ≡ suc (suc k) → Began S tags m p → m + 5 ≤ length tags → 4 * k + 9 ≤ length tags → Path S tags z corners k p
      → LaminaMade S tags z corners n (after_row (mef p.shape (T 7) (T (4 * n))) p)
  path-cut k n m p n_is began enough some h =
      let P = p.shape in
      let ts = p.tags in
      let p_ascend = left-ascend S tags ascend free m p began in
      let p_free = left-free S tags ascend free m p began in
      let fits : 5 ≤ length ts = left-enough S tags ascend free m 5 p began enough in
      let first = T 7 in
      let last = T (4 * k + 8) in
      let rest = map (λ i. T (4 * i + 7)) (range_with_len 1 k) in
      let outs = outs_of tags (suc k) in
      let backs = backs_of tags (suc k) in
      let list = from_least (outs ++ backs) in
      let old = ring_of (T 2) (outs ++ backs) in
      let once : NoRepeats list = fins-once P began.well.written began.well.sound (T 3) (T 2) list None h.loop_is in
      let turned = turned-least (outs ++ backs) in
      let all_once : NoRepeats (outs ++ backs) = turned-once list (outs ++ backs) (turned-back (outs ++ backs) list turned) once in
      let last_in : Contains list last = turned-in (outs ++ backs) list turned last (Contains-append_right outs backs last (Contains-first last (backs_of tags k))) in
      let first_in : Contains list first = turned-in (outs ++ backs) list turned first (Contains-append_left outs backs first (Contains-first first rest)) in
      let whole : written_from first list ≡ outs ++ backs = written-least first [] (rest ++ backs) once ∙ whole_is (first ∷ rest ++ backs) in
      let home : Home P (T 2) (T 1) (T 0) = record { outer = T 3; q = pos 1; face_is = h.face; shell_is = h.shell; body_is = h.body } in
      let u = T 4 in
      let v = T (4 * k + 5) in
      let ends : u ≢ v = apart_at tags 4 (4 * k + 5) ascend (omega arith) (omega (arith, some)) in
      let row = cut-fins P began.well ts (T 3) (T 2) (T 1) (T 0) list None h.loop_is home first (T 8) (T 6) u last (T (4 * k + 7)) (T (4 * k + 6)) v rest (backs_of tags k)
      (h.outs 0 (omega arith)) (h.backs k (omega arith)) first_in last_in ends whole all_once in
      let xs = cut_items (T 0) (T 1) (T 2) (T 3) u v outs backs in
      let R = P with xs (five_of ts) in
      let stand = cut-stands P ts p_ascend p_free (T 3) old h.loop_is (T 0) (T 1) (T 2) u v outs backs fits in
      let left = λ (r j : ℕ) (e : 4 * k + 9 + r ≡ j). at-left tags ts (4 * k + 9) r j h.tags_are e in
      let f_is : tag_at ts 0 ≡ T (4 * n + 1) = left 0 (4 * n + 1) (omega (arith, n_is)) in
      let l_is : tag_at ts 1 ≡ T (4 * n + 2) = left 1 (4 * n + 2) (omega (arith, n_is)) in
      let e_is : tag_at ts 2 ≡ T (4 * n + 3) = left 2 (4 * n + 3) (omega (arith, n_is)) in
      let x_is : tag_at ts 3 ≡ T (4 * n + 4) = left 3 (4 * n + 4) (omega (arith, n_is)) in
      let y_is : tag_at ts 4 ≡ T (4 * n + 5) = left 4 (4 * n + 5) (omega (arith, n_is)) in
      let named : Stand R (xs (T (4 * n + 1), T (4 * n + 2), T (4 * n + 3), T (4 * n + 4), T (4 * n + 5))) = subst (Stand R) (λ i. xs (f_is i, l_is i, e_is i, x_is i, y_is i)) stand in
      let keep = λ (q : Tag) (y : Item) (is : item_at P q ≡ Some y) (other : y ≢ old).
      cut-stays P ts p_ascend p_free (T 3) old h.loop_is (T 0) (T 1) (T 2) u v outs backs fits q y is (apart P q (T 3) y old is h.loop_is other) in
      let count : suc k ≡ n - 1 = omega (arith, n_is) in
      let x_item = λ (j : ℕ). Some (Fin (T (4 * n + 5)) (T (4 * n + 3)) (T (corner_place j))) in
      let made : LaminaStands S tags z corners n R = record {
        lists = record {
          lower = keep (T 2) _ h.face (λ e. cc);
          lower_list = named.1.1.1.1.1.0 ∙ ap (λ j. Some (ring_of (T 2) (backs_of tags j ++ T (4 * n + 5) ∷ []))) count;
          upper = named.0;
          upper_list = named.1.0 ∙ ap (λ j. Some (ring_of (T (4 * n + 1)) (outs_of tags j ++ T (4 * n + 4) ∷ []))) count;
        };
        parts = record {
          body = keep (T 0) _ h.body (λ e. cc);
          shell = keep (T 1) _ h.shell (λ e. cc);
          edges = λ i less. keep (T (4 * i + 6)) _ (h.edges i (omega (arith, less, n_is))) (λ e. cc);
          outs = λ i less. keep (T (4 * i + 7)) _ (h.outs i (omega (arith, less, n_is))) (λ e. cc);
          backs = λ i less. keep (T (4 * i + 8)) _ (h.backs i (omega (arith, less, n_is))) (λ e. cc);
          last_edge = named.1.1.0;
          x = named.1.1.1.0 ∙ ap x_item count;
          y = named.1.1.1.1.0;
        };
        points = λ i less. keep (T (corner_place i)) _ (h.points i (subst (λ j. i < j) n_is less)) (λ e. cc);
        stays = λ q y is. cut-stays P ts p_ascend p_free (T 3) old h.loop_is (T 0) (T 1) (T 2) u v outs backs fits q y (h.stays q y is) (free_apart S q (T 3) y (was_free 3 (omega (arith, some))) is);
      } in
      let place : 4 * n ≡ 4 * k + 8 = omega (arith, n_is) in
      let spent : 4 * k + 9 + 5 ≡ 4 * n + 6 = omega (arith, n_is) in
      let whole_made : LaminaMade S tags z corners n (record { shape = R; tags = drop 5 ts }) = record { stands = made; tags_are = ap (drop 5) h.tags_are ∙ drop-drop 5 (4 * k + 9) tags ∙ ap (λ j. drop j tags) spent } in
      subst (LaminaMade S tags z corners n) (sym (ap (λ j. after_row (mef P first (T j)) p) place ∙ row)) whole_made
    where
      whole_is : (fs : List Tag) → fs ++ [] ≡ fs
      whole_is fs = append-nil fs

-- What stands in a lamina that is made, where no corner is refused.
pub lamina-made : (S : Shape) (tags : List Tag) → IsWell S → TagsAscend tags → AllByRecursion (λ t. item_at S t ≡ None) tags → (z : ℤ) (corners : List Pair) → 2 ≤ length corners
    → 4 * length corners + 6 ≤ length tags → AllByRecursion (NotRefused z) corners → LaminaMade S tags z corners (length corners) (after_lamina z corners (start S tags))
lamina-made S tags well ascend free z [] two enough none = absurd (omega (arith, two))
lamina-made S tags well ascend free z (c ∷ []) two enough none = absurd (omega (arith, two))
lamina-made S tags well ascend free z (c ∷ d ∷ cs) two enough none =
    let corners = c ∷ d ∷ cs in
    let V = begun S tags well ascend free z corners (at_height z c) in
    let vertex_is = begun-is S tags well ascend free z corners (at_height z c) none.0 in
    let five : Began S tags (0 + 5) V = subst (Began S tags (0 + 5)) vertex_is (began-mvfs S tags ascend free 0 (start S tags) (at_height z c) (began-start S tags well) (omega (arith, enough))) in
    let first = path-first S tags well ascend free z corners c d refl refl (omega (arith, enough)) none.0 none.1.0 in
    let E = after_row (mev V.shape (tag_at tags 3) (at_height z d)) V in
    let nine : Began S tags (0 + 5 + 4) E = began-mev S tags ascend free (0 + 5) V (tag_at tags 3) (at_height z d) five (omega (arith, enough)) in
    let path = path-all S tags well ascend free z corners cs (c ∷ d ∷ []) 0 (0 + 5 + 4) E refl refl nine (omega (arith, enough)) (omega (arith, enough)) none.1.1 first in
    let points = map (at_height z) cs in
    let long : length points ≡ length cs = length-map cs (at_height z) in
    let P = after_path (tag_at tags 8) points E in
    let began : Began S tags (0 + 5 + 4 + 4 * length points) P = began-path S tags ascend free (0 + 5 + 4) (tag_at tags 8) points E nine (omega (arith, enough, long)) in
    let m = 0 + 5 + 4 + 4 * length points in
    let cut = path-cut S tags well ascend free z corners (0 + length cs) (length corners) m P (omega arith) began (omega (arith, enough, long)) (omega (arith, enough)) path in
    let t_is : tag_at V.tags 3 ≡ tag_at tags 8 = at-left tags V.tags 5 3 8 refl refl in
    let n = length corners in
    let finish = λ (p : Progress) (t : Tag). (let q = after_path t points (after_row (mev p.shape (tag_at tags 3) (at_height z d)) p) in after_row (mef q.shape (tag_at tags 7) (tag_at tags (4 * n))) q) in
    subst (LaminaMade S tags z corners n) (sym (ap (λ p. finish p (tag_at p.tags 3)) vertex_is ∙ ap (finish V) t_is)) cut
