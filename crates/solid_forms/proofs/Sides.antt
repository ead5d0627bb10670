-- A sweep, second part: a side face is cut off between each edge and the next one.
use Rattle.std.proofs.Common.{◌≡◌, ◌≢◌, ℕ, zero, suc, ◌+◌, ◌-◌, ◌*◌, ◌<◌, ◌≤◌, ⊎_elim, true, false, cond, List, [], ◌∷◌, ◌++◌, length, drop, Option, Some, None, refl, sym, ap, subst, ◌∙◌, append_assoc, append-nil, arith}
use Rattle.std.specs.Prelude.{◌==◌, map, Contains}
use Rattle.std.specs.Option.{option_map_or}
use Rattle.std.specs.List.{AllByRecursion, range_with_len}
use Rattle.std.proofs.lemmas.Bool.{cases_Bool, eq-eqb, eqb-true}
use Rattle.std.proofs.lemmas.List.{drop-drop, length-map}
use Rattle.std.proofs.lemmas.List.Elements.{Contains-append_right}
use Rattle.std.proofs.lemmas.List.FromFn.{map-range_with_len_more}
use Rattle.pk_base.specs.Blocks.{tag}
use Rattle.pk_base.specs.declared.tag.Tag.{Tag}
use Rattle.pk_base.specs.declared.entity.Triple.{Triple}
use Rattle.pk_model.specs.Apart.{NoRepeats}
use Rattle.pk_model.specs.Tags.{TagsAscend, tag_at}
use Rattle.solid_model.specs.Items.{Item, Shape, item_at, ◌with◌}
use Rattle.solid_model.specs.Items.Item.{Face, Loop, Fin, Edge}
use Rattle.solid_model.specs.Rings.{written_from, from_least, ring_of}
use Rattle.solid_model.specs.Owners.{fins_of}
use Rattle.solid_model.specs.Places.{start_at, fins_at, outer_at, outer_of}
use Rattle.solid_model.specs.Folds.{Progress, after_row, after_edges, after_cuts}
use Rattle.solid_model.specs.Mef.{mef}
use Rattle.solid_model.specs.Sweep.{along, after_sweep}
use Rattle.list_facts.proofs.Elements.{Contains-first}
use Rattle.solid_model.proofs.lists.Turned.{turned-back, turned-in, turned-once, turned-least}
use Rattle.solid_sound.proofs.shapes.Reading.{fins-once}
use Rattle.solid_sound.proofs.rows.RowKeeps.{IsWell}
use Rattle.solid_sound.proofs.rows.Asked.{apart_at}
use Rattle.solid_sound.proofs.rows.Progress.{start, Began, began-start, began-edges, began-mef, left-ascend, left-free, left-enough}
use Rattle.solid_forms.specs.SweepForm.{next_round, new_vertex, out_at, back_at, side_face, x_at, y_at, ys_of, SweepSides, SweepParts, SweepPoints, StaysBut}
use Rattle.solid_forms.proofs.Turnings.{written-least, from_least-swapped}
use Rattle.solid_forms.proofs.Steps.{Stand, at-left, cut_items, five_of, cut-fins, cut-stands, cut-stays}
use Rattle.solid_forms.proofs.Raised.{Swept, LeadsWithin, raised, new_not_loop, home_at, edges-raised}
use Rattle.solid_forms.proofs.InOrder.{all_below_more, head_is, tail_is}

-- ---- round a circle

pub next-within : (n i : ℕ) → i + 1 < n → next_round n i ≡ i + 1
next-within n i less = ap (λ b. cond b 0 (i + 1)) (⊎_elim
    (λ (t : ((i + 1) == n) ≡ true). absurd (let same = eqb-true (i + 1) n t in omega (arith, less, same)))
    (λ (f : ((i + 1) == n) ≡ false). f)
    (cases_Bool ((i + 1) == n)))

pub next-last : (n i : ℕ) → i + 1 ≡ n → next_round n i ≡ 0
next-last n i same = ap (λ b. cond b 0 (i + 1)) (eq-eqb (i + 1) n same)

-- ---- the loop's list

-- The loop from the fin back at fin j on, once the sides before were cut off: there are k more fins.
abbrev pub after : List Tag → List Tag → ℕ → ℕ → List Tag
after tags fins j zero = tag_at fins j ∷ out_at tags 0 ∷ []
after tags fins j (suc k) = tag_at fins j ∷ out_at tags (j + 1) ∷ back_at tags (j + 1) ∷ after tags fins (j + 1) k

abbrev pub belt : List Tag → List Tag → ℕ → ℕ → List Tag
belt tags fins j k = back_at tags j ∷ after tags fins j k

raised-belt : (tags fins : List Tag) (k j : ℕ) → raised tags fins j ++ out_at tags j ∷ belt tags fins j k ≡ raised tags fins (suc (j + k)) ++ out_at tags 0 ∷ []
raised-belt tags fins zero j =
    let same : j ≡ j + 0 = omega arith in
    sym (append_assoc (raised tags fins j) (out_at tags j ∷ back_at tags j ∷ tag_at fins j ∷ []) (out_at tags 0 ∷ []))
    ∙ ap (λ i. raised tags fins (suc i) ++ out_at tags 0 ∷ []) same
raised-belt tags fins (suc k) j =
    let one : suc j ≡ j + 1 = omega arith in
    let same : j + 1 + k ≡ j + suc k = omega arith in
    sym (append_assoc (raised tags fins j) (out_at tags j ∷ back_at tags j ∷ tag_at fins j ∷ []) (out_at tags (j + 1) ∷ belt tags fins (j + 1) k))
    ∙ ap (λ i. raised tags fins i ++ out_at tags (j + 1) ∷ belt tags fins (j + 1) k) one
    ∙ raised-belt tags fins k (j + 1)
    ∙ ap (λ i. raised tags fins (suc i) ++ out_at tags 0 ∷ []) same

-- the first tag goes to the end
turn-one : (o : Tag) (A B : List Tag) → A ++ o ∷ [] ≡ o ∷ B → NoRepeats (from_least A) → from_least A ≡ from_least B
turn-one o [] B h once = ap from_least (tail_is o o [] B h)
turn-one o (a ∷ A) B h once =
    from_least-swapped (a ∷ []) A once
    ∙ ap from_least (ap (λ t. A ++ t ∷ []) (head_is a o (A ++ o ∷ []) B h) ∙ tail_is a o (A ++ o ∷ []) B h)

ys-more : (tags : List Tag) (n j : ℕ) → ys_of tags n (j + 1) ≡ ys_of tags n j ++ y_at tags n j ∷ []
ys-more tags n j = map-range_with_len_more (y_at tags n) 0 j j (omega arith)

-- ---- what stands there

-- The first j sides are cut off, and all edges were made.
pub record Sided (S R : Shape) (tags : List Tag) (by : Triple) (shell b l : Tag) (fins : List Tag) (j : ℕ) : Type 0 where
  pub points : SweepPoints S R tags by b fins
  pub edges : (i : ℕ) → i < length fins → item_at R (tag_at tags (4 * i + 1)) ≡ Some (Edge b)
  pub outs : (i : ℕ) → i < length fins → item_at R (tag_at tags (4 * i + 2)) ≡ Some (Fin (tag_at tags (4 * i + 3)) (tag_at tags (4 * i + 1)) (start_at S (tag_at fins i)))
  pub backs : (i : ℕ) → i < length fins → item_at R (tag_at tags (4 * i + 3)) ≡ Some (Fin (tag_at tags (4 * i + 2)) (tag_at tags (4 * i + 1)) (tag_at tags (4 * i)))
  pub faces : (i : ℕ) → i < j → item_at R (side_face tags (length fins) i) ≡ Some (Face shell (tag_at tags (4 * length fins + 5 * i + 1)))
  pub lists : (i : ℕ) → i < j → item_at R (tag_at tags (4 * length fins + 5 * i + 1)) ≡ Some (ring_of (side_face tags (length fins) i)
      (back_at tags i ∷ tag_at fins i ∷ out_at tags (next_round (length fins) i) ∷ x_at tags (length fins) i ∷ []))
  pub upper : (i : ℕ) → i < j → item_at R (tag_at tags (4 * length fins + 5 * i + 2)) ≡ Some (Edge b)
  pub xs : (i : ℕ) → i < j → item_at R (x_at tags (length fins) i)
      ≡ Some (Fin (y_at tags (length fins) i) (tag_at tags (4 * length fins + 5 * i + 2)) (new_vertex tags (next_round (length fins) i)))
  pub ys : (i : ℕ) → i < j → item_at R (y_at tags (length fins) i)
      ≡ Some (Fin (x_at tags (length fins) i) (tag_at tags (4 * length fins + 5 * i + 2)) (new_vertex tags i))
  pub stays : StaysBut l S R

-- so far, and the loop's list
pub record Cuts (S : Shape) (tags : List Tag) (by : Triple) (f shell b l : Tag) (fins : List Tag) (j : ℕ) (list : List Tag) (p : Progress) : Type 0 where
  pub loop_is : item_at p.shape l ≡ Some (Loop f (from_least list) None)
  pub sided : Sided S p.shape tags by shell b l fins j
  pub tags_are : p.tags ≡ drop (4 * length fins + 5 * j) tags

-- All that stands after a sweep.
pub record SweepStands (S R : Shape) (tags : List Tag) (by : Triple) (f shell b l : Tag) (fins : List Tag) : Type 0 where
  pub sides : SweepSides R tags shell fins
  pub parts : SweepParts S R tags b fins
  pub points : SweepPoints S R tags by b fins
  pub list : item_at R l ≡ Some (ring_of f (ys_of tags (length fins) (length fins)))
  pub stays : StaysBut l S R

-- S is the shape at the beginning, and these are the tags that there were.
module _ (S : Shape) (tags : List Tag) (well : IsWell S) (ascend : TagsAscend tags) (free : AllByRecursion (λ t. item_at S t ≡ None) tags)
    (by : Triple) (f shell b l : Tag) (fins : List Tag) (w : Swept S f shell b l fins) (some : 9 * length fins ≤ length tags) where
  abbrev T : ℕ → Tag
  T i = tag_at tags i

  abbrev n : ℕ
  n = length fins

  abbrev cuts : ℕ → List Tag → Progress → Type 0
  cuts j list p = Cuts S tags by f shell b l fins j list p

  -- one side more: the fin h starts at the new vertex of the number `to`, the next one round
  one-cut : (j to c : ℕ) (p : Progress) (h h_mate h_edge : Tag) (rest : List Tag) → j < n → next_round n j ≡ to → Began S tags c p → c + 5 ≤ length tags
      → item_at p.shape h ≡ Some (Fin h_mate h_edge (new_vertex tags to)) → new_vertex tags j ≢ new_vertex tags to → cuts j ((back_at tags j ∷ tag_at fins j ∷ out_at tags to ∷ []) ++ h ∷ rest) p
      → cuts (j + 1) ((h ∷ rest) ++ y_at tags n j ∷ []) (after_row (mef p.shape (back_at tags j) h) p)
  one-cut j to c p h h_mate h_edge rest less to_is began enough h_is ends before =
      let s = before.sided in
      let P = p.shape in
      let ts = p.tags in
      let p_ascend = left-ascend S tags ascend free c p began in
      let p_free = left-free S tags ascend free c p began in
      let fits : 5 ≤ length ts = left-enough S tags ascend free c 5 p began enough in
      let k = back_at tags j in
      let A = tag_at fins j ∷ out_at tags to ∷ [] in
      let full = (k ∷ A) ++ h ∷ rest in
      let list = from_least full in
      let old = Loop f list None in
      let once : NoRepeats list = fins-once P began.well.written began.well.sound l f list None before.loop_is in
      let turned = turned-least full in
      let full_once : NoRepeats full = turned-once list full (turned-back full list turned) once in
      let k_in : Contains list k = turned-in full list turned k (Contains-first k (A ++ h ∷ rest)) in
      let h_in : Contains list h = turned-in full list turned h (Contains-append_right (k ∷ A) (h ∷ rest) h (Contains-first h rest)) in
      let whole : written_from k list ≡ full = written-least k [] (A ++ h ∷ rest) once ∙ append-nil full in
      let u = new_vertex tags j in
      let v = new_vertex tags to in
      let row = cut-fins P began.well ts l f shell b list None before.loop_is (home_at S tags well ascend free by f shell b l fins w P s.stays) k (out_at tags j) (T (4 * j + 1)) u h h_mate h_edge v A rest
      (s.backs j less) h_is k_in h_in ends whole full_once in
      let items = cut_items b shell f l u v (k ∷ A) (h ∷ rest) in
      let R = P with items (five_of ts) in
      let stand = cut-stands P ts p_ascend p_free l old before.loop_is b shell f u v (k ∷ A) (h ∷ rest) fits in
      let left = λ (r i : ℕ) (e : 4 * n + 5 * j + r ≡ i). at-left tags ts (4 * n + 5 * j) r i before.tags_are e in
      let f_is : tag_at ts 0 ≡ T (4 * n + 5 * j) = left 0 (4 * n + 5 * j) (omega arith) in
      let l_is : tag_at ts 1 ≡ T (4 * n + 5 * j + 1) = left 1 (4 * n + 5 * j + 1) refl in
      let e_is : tag_at ts 2 ≡ T (4 * n + 5 * j + 2) = left 2 (4 * n + 5 * j + 2) refl in
      let x_is : tag_at ts 3 ≡ T (4 * n + 5 * j + 3) = left 3 (4 * n + 5 * j + 3) refl in
      let y_is : tag_at ts 4 ≡ T (4 * n + 5 * j + 4) = left 4 (4 * n + 5 * j + 4) refl in
      let named : Stand R (items (side_face tags n j, T (4 * n + 5 * j + 1), T (4 * n + 5 * j + 2), x_at tags n j, y_at tags n j)) = subst (Stand R) (λ i. items (f_is i, l_is i, e_is i, x_is i, y_is i)) stand in
      let keep = λ (i : ℕ) (x : Item) (is : item_at P (T i) ≡ Some x) (below : i < length tags).
      cut-stays P ts p_ascend p_free l old before.loop_is b shell f u v (k ∷ A) (h ∷ rest) fits (T i) x is (new_not_loop S tags well ascend free by f shell b l fins w i below) in
      let long : drop 5 ts ≡ drop (4 * n + 5 * (j + 1)) tags = ap (drop 5) before.tags_are ∙ drop-drop 5 (4 * n + 5 * j) tags
      ∙ ap (λ i. drop i tags) (let e : 4 * n + 5 * j + 5 ≡ 4 * n + 5 * (j + 1) = omega arith in e) in
      let made : cuts (j + 1) ((h ∷ rest) ++ y_at tags n j ∷ []) (record { shape = R; tags = drop 5 ts }) = record {
        loop_is = named.1.1.1.1.1.0;
        sided = record {
          points = λ i h. keep (4 * i) _ (s.points i h) (omega (arith, h, some));
          edges = λ i h. keep (4 * i + 1) _ (s.edges i h) (omega (arith, h, some));
          outs = λ i h. keep (4 * i + 2) _ (s.outs i h) (omega (arith, h, some));
          backs = λ i h. keep (4 * i + 3) _ (s.backs i h) (omega (arith, h, some));
          faces = all_below_more (λ i. item_at R (side_face tags n i) ≡ Some (Face shell (T (4 * n + 5 * i + 1)))) j (λ i h. keep (4 * n + 5 * i) _ (s.faces i h) (omega (arith, h, less, some))) named.0;
          lists = all_below_more (λ i. item_at R (T (4 * n + 5 * i + 1)) ≡ Some (ring_of (side_face tags n i) (back_at tags i ∷ tag_at fins i ∷ out_at tags (next_round n i) ∷ x_at tags n i ∷ []))) j
              (λ i h. keep (4 * n + 5 * i + 1) _ (s.lists i h) (omega (arith, h, less, some)))
              (named.1.0 ∙ ap (λ i. Some (ring_of (side_face tags n j) (k ∷ tag_at fins j ∷ out_at tags i ∷ x_at tags n j ∷ []))) (sym to_is));
          upper = all_below_more (λ i. item_at R (T (4 * n + 5 * i + 2)) ≡ Some (Edge b)) j (λ i h. keep (4 * n + 5 * i + 2) _ (s.upper i h) (omega (arith, h, less, some))) named.1.1.0;
          xs = all_below_more (λ i. item_at R (x_at tags n i) ≡ Some (Fin (y_at tags n i) (T (4 * n + 5 * i + 2)) (new_vertex tags (next_round n i)))) j
              (λ i h. keep (4 * n + 5 * i + 3) _ (s.xs i h) (omega (arith, h, less, some)))
              (named.1.1.1.0 ∙ ap (λ i. Some (Fin (y_at tags n j) (T (4 * n + 5 * j + 2)) (new_vertex tags i))) (sym to_is));
          ys = all_below_more (λ i. item_at R (y_at tags n i) ≡ Some (Fin (x_at tags n i) (T (4 * n + 5 * i + 2)) (new_vertex tags i))) j
              (λ i h. keep (4 * n + 5 * i + 4) _ (s.ys i h) (omega (arith, h, less, some))) named.1.1.1.1.0;
          stays = λ q y is other. cut-stays P ts p_ascend p_free l old before.loop_is b shell f u v (k ∷ A) (h ∷ rest) fits q y (s.stays q y is other) other;
        };
        tags_are = long;
      } in
      subst (cuts (j + 1) ((h ∷ rest) ++ y_at tags n j ∷ [])) (sym row) made

  -- the places of two new vertices are apart
  vertices_apart : (i j : ℕ) → i < j → j < n → new_vertex tags i ≢ new_vertex tags j
  vertices_apart i j h k = apart_at tags (4 * i) (4 * j) ascend (omega (arith, h)) (omega (arith, k, some))

  abbrev so_far : ℕ → ℕ → Progress → Type 0
  so_far j k p = cuts j (belt tags fins j k ++ ys_of tags n j) p

  -- from one fin back to the next one
  cut-next : (j k c : ℕ) (p : Progress) → j + 1 < n → Began S tags c p → c + 5 ≤ length tags → so_far j (suc k) p → so_far (j + 1) k (after_row (mef p.shape (back_at tags j) (back_at tags (j + 1))) p)
  cut-next j k c p less began enough h =
      let tail = after tags fins (j + 1) k in
      let made = one-cut j (j + 1) c p (back_at tags (j + 1)) (out_at tags (j + 1)) (T (4 * (j + 1) + 1)) (tail ++ ys_of tags n j) (omega (arith, less)) (next-within n j less) began enough
      (h.sided.backs (j + 1) less) (vertices_apart j (j + 1) (omega arith) less) h in
      subst (λ list. cuts (j + 1) list (after_row (mef p.shape (back_at tags j) (back_at tags (j + 1))) p))
      (ap (λ zs. back_at tags (j + 1) ∷ zs) (append_assoc tail (ys_of tags n j) (y_at tags n j ∷ []) ∙ ap (λ zs. tail ++ zs) (sym (ys-more tags n j)))) made

  -- from the last fin back to y0
  cut-last : (m c : ℕ) (p : Progress) → suc m + 1 ≡ n → Began S tags c p → c + 5 ≤ length tags → so_far (suc m) 0 p → SweepStands S (after_row (mef p.shape (back_at tags (suc m)) (y_at tags n 0)) p).shape tags by f shell b l fins
  cut-last m c p end began enough h =
      let first = y_at tags n 0 in
      let rest = map (y_at tags n) (range_with_len 1 m) in
      let made = one-cut (suc m) 0 c p first (x_at tags n 0) (T (4 * n + 5 * 0 + 2)) rest (omega (arith, end)) (next-last n (suc m) end) began enough
      (h.sided.ys 0 (omega arith)) (λ e. vertices_apart 0 (suc m) (omega arith) (omega (arith, end)) (sym e)) h in
      let s = made.sided in
      let all = λ (i : ℕ) (less : i < n). (let e : i < suc m + 1 = omega (arith, less, end) in e) in
      record {
        sides = record { faces = λ i less. s.faces i (all i less); lists = λ i less. s.lists i (all i less) };
        parts = record {
          edges = s.edges;
          outs = s.outs;
          backs = s.backs;
          upper = λ i less. s.upper i (all i less);
          xs = λ i less. s.xs i (all i less);
          ys = λ i less. s.ys i (all i less);
        };
        points = s.points;
        list = made.loop_is ∙ ap (λ ts. Some (ring_of f ts)) (sym (ys-more tags n (suc m)) ∙ ap (ys_of tags n) end);
        stays = s.stays;
      }

  -- all cuts, where so many come before the last one
  abbrev backs_from : ℕ → ℕ → List Tag
  backs_from j k = map (back_at tags) (range_with_len j k)

  cuts-all : (k j m c : ℕ) (p : Progress) → j + k ≡ suc m → suc m + 1 ≡ n → Began S tags c p → c + 5 * suc k ≤ length tags → so_far j k p
      → SweepStands S (after_cuts (back_at tags j ∷ backs_from (j + 1) k ++ y_at tags n 0 ∷ []) p).shape tags by f shell b l fins
  cuts-all zero j m c p count end began enough h =
      let last : j ≡ suc m = omega (arith, count) in
      subst (λ i. SweepStands S (after_row (mef p.shape (back_at tags i) (y_at tags n 0)) p).shape tags by f shell b l fins) (sym last)
      (cut-last m c p end began (omega (arith, enough)) (subst (λ i. so_far i 0 p) last h))
  cuts-all (suc k) j m c p count end began enough h =
      let q = after_row (mef p.shape (back_at tags j) (back_at tags (j + 1))) p in
      cuts-all k (j + 1) m (c + 5) q (omega (arith, count)) end (began-mef S tags ascend free c p (back_at tags j) (back_at tags (j + 1)) began (omega (arith, enough))) (omega (arith, enough))
      (cut-next j k c p (omega (arith, count, end)) began (omega (arith, enough)) h)

  -- ---- all

  -- the fins that the row cuts from, one after another
  first_cuts : (m : ℕ) → suc m + 1 ≡ n → backs_from 0 n ++ tag_at tags (4 * n + 4) ∷ [] ≡ back_at tags 0 ∷ backs_from (0 + 1) (suc m) ++ y_at tags n 0 ∷ []
  first_cuts m end =
      let count : n ≡ suc (suc m) = omega (arith, end) in
      let place : 4 * n + 4 ≡ 4 * n + 5 * 0 + 4 = omega arith in
      (λ i. backs_from 0 (count i) ++ tag_at tags (place i) ∷ [])

  pub sweep-stands : 2 ≤ n → AllByRecursion (LeadsWithin S by) fins → SweepStands S (after_sweep f by (start S tags)).shape tags by f shell b l fins
  sweep-stands two within =
      let begin = start S tags in
      let ends = map (along S by) fins in
      let long : length ends ≡ n = length-map fins (along S by) in
      let began0 = began-start S tags well in
      let E = after_edges ends begin in
      let made = edges-raised S tags well ascend free by f shell b l fins w 0 began0 (omega (arith, some)) within in
      let began : Began S tags (0 + 4 * length ends) E = began-edges S tags ascend free 0 ends begin began0 (omega (arith, some, long)) in
      let m = n - 2 in
      let end : suc m + 1 ≡ n = omega (arith, two) in
      let none = λ (i : ℕ) (less : i < 0). absurd {A = ⊥} (omega (arith, less)) in
      let all : suc (0 + suc m) ≡ n = omega (arith, end) in
      let once = fins-once E.shape began.well.written began.well.sound l f (from_least (raised tags fins n ++ [])) None made.loop_is in
      let ring : from_least (raised tags fins n) ≡ from_least (belt tags fins 0 (suc m)) =
      turn-one (out_at tags 0) (raised tags fins n) (belt tags fins 0 (suc m))
      (ap (λ i. raised tags fins i ++ out_at tags 0 ∷ []) (sym all) ∙ sym (raised-belt tags fins (suc m) 0))
      (subst (λ ts. NoRepeats (from_least ts)) (append-nil (raised tags fins n)) once) in
      let before : so_far 0 (suc m) E = record {
        loop_is = made.loop_is ∙ ap (λ ts. Some (ring_of f ts)) (append-nil (raised tags fins n)) ∙ ap (λ ts. Some (Loop f ts None)) (ring ∙ ap from_least (sym (append-nil (belt tags fins 0 (suc m)))));
        sided = record {
          points = made.points;
          edges = made.edges;
          outs = made.outs;
          backs = made.backs;
          faces = λ i less. absurd (none i less);
          lists = λ i less. absurd (none i less);
          upper = λ i less. absurd (none i less);
          xs = λ i less. absurd (none i less);
          ys = λ i less. absurd (none i less);
          stays = made.stays;
        };
        tags_are = made.tags_are ∙ ap (λ i. drop i tags) (let e : 4 * n ≡ 4 * n + 5 * 0 = omega arith in e);
      } in
      let done = cuts-all (suc m) 0 m (0 + 4 * length ends) E (omega arith) end began (omega (arith, some, long, end)) before in
      let outer : outer_at S f ≡ l = ap (λ (o : Option Item). option_map_or outer_of o (tag 0)) w.face_is in
      let list : fins_at S (outer_at S f) ≡ fins = ap (fins_at S) outer ∙ ap (λ (o : Option Item). option_map_or fins_of o []) w.loop_is in
      let by_fins = λ (fs : List Tag). (after_cuts (backs_from 0 (length fs) ++ tag_at tags (4 * length fs + 4) ∷ []) (after_edges (map (along S by) fs) begin)).shape in
      subst (λ R. SweepStands S R tags by f shell b l fins) (sym (ap by_fins list ∙ ap (λ fs. (after_cuts fs E).shape) (first_cuts m end))) done
