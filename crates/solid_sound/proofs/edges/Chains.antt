-- A chain of edges, each from the end of the one before, in one loop: the loop's list is the fins out from
-- the first one on, and then the fins back from the last one on. And how many fins a cut off part of it has.
use Rattle.std.proofs.Common.{◌≡◌, ◌≢◌, ℕ, zero, suc, ◌+◌, ◌*◌, ◌<◌, ◌≤◌, ⊎_elim, true, false, not, List, [], ◌∷◌, ◌++◌, length, drop, Option, Some, None, Ok, refl, sym, ap, subst, ◌∙◌, append_assoc, arith}
use Rattle.std.specs.Prelude.{Contains}
use Rattle.std.specs.Option.{option_map_or}
use Rattle.std.specs.List.{AllByRecursion}
use Rattle.std.proofs.lemmas.List.{drop-drop, get_or-drop, length-append}
use Rattle.std.proofs.lemmas.List.Elements.{Contains-append_left, Contains-append_right}
use Rattle.pk_base.specs.Blocks.{tag}
use Rattle.pk_base.specs.Entity.{same_tag}
use Rattle.pk_base.specs.declared.tag.Tag.{Tag}
use Rattle.pk_base.specs.declared.entity.Triple.{Triple}
use Rattle.pk_base.specs.declared.refusal.Refusal.TheVariants.{NotOneLoop, SameVertex}
use Rattle.pk_model.specs.Apart.{NoRepeats}
use Rattle.pk_model.specs.Tags.{TagsAscend, tag_at}
use Rattle.pk_model.specs.Step.{◌>>=◌}
use Rattle.solid_model.specs.Items.{Item, Shape, item_at, ◌with◌}
use Rattle.solid_model.specs.Items.Item.{Face, Loop, Fin, Edge, Vertex}
use Rattle.solid_model.specs.Rings.{before, from, written_from, least_of, from_least, ring_of}
use Rattle.solid_model.specs.Owners.{fins_of, owner_in}
use Rattle.solid_model.specs.Rows.{Row, refuse_where, ◌>>◌}
use Rattle.solid_model.specs.Rows.Effect.{Makes}
use Rattle.solid_model.specs.Places.{End, end_in, end_of_item, end_at, PlacedFin, placed_fin, as_fin, fin_at, fins_at, outer_of, outer_at, asked}
use Rattle.solid_model.specs.Ranges.{is_coordinate, numbers_of, point_of, refuse_outside}
use Rattle.solid_model.specs.Folds.{Progress, after_row, after_path}
use Rattle.solid_model.specs.Mev.{mev}
use Rattle.solid_model.specs.Mef.{mef}
use Rattle.list_facts.proofs.Elements.{Contains-first, Contains-cases}
use Rattle.list_facts.proofs.Each.{ByRecursion-append, ByRecursion-contains, ByRecursion-get_or, ByRecursion-at}
use Rattle.pk_model.proofs.VertexModeller.{TagsAscend-at}
use Rattle.pk_base.proofs.Same.{same_itself, not_same}
use Rattle.solid_model.proofs.lists.Neighbours.{parts_at}
use Rattle.solid_model.proofs.lists.Turned.{turned-least}
use Rattle.solid_model.proofs.lists.Cycles.{least, least-first, written-itself}
use Rattle.solid_sound.proofs.shapes.Lookups.{Items, with-other, with-written}
use Rattle.solid_model.proofs.Reading.{not_before}
use Rattle.solid_sound.proofs.shapes.Reading.{vertex_of_class, fins-once, loop-of_fin}
use Rattle.solid_sound.proofs.rows.RowKeeps.{IsWell}
use Rattle.solid_sound.proofs.rows.Asked.{free_at, apart_at}
use Rattle.solid_sound.proofs.rows.Progress.{in_drop, start, Began, left-ascend, left-free, left-enough, began-mev}

-- ---- lists

least_is : (f x : Tag) (xs : List Tag) → Contains (x ∷ xs) f → AllByRecursion (λ u. f.0 ≤ u.0) (x ∷ xs) → least_of x xs ≡ f
least_is f x xs k all =
    let l = least x xs in
    let below : (least_of x xs).0 ≤ f.0 = ByRecursion-at (λ u. (least_of x xs).0 ≤ u.0) (x ∷ xs) f (l.first, l.rest) k in
    let above : f.0 ≤ (least_of x xs).0 = ByRecursion-at (λ u. f.0 ≤ u.0) (x ∷ xs) (least_of x xs) all l.among in
    let same : (least_of x xs).0 ≡ f.0 = omega (arith, below, above) in
    ap tag same

written_at : (f : Tag) (pre post : List Tag) → ¬ (Contains pre f) → written_from f (pre ++ f ∷ post) ≡ (f ∷ post) ++ pre
written_at f pre post h = let p = parts_at f pre post h in λ i. p.1 i ++ p.0 i

least_at : (f x : Tag) (xs post : List Tag) → ¬ (Contains (x ∷ xs) f) → AllByRecursion (λ u. f.0 ≤ u.0) ((x ∷ xs) ++ f ∷ post) → from_least ((x ∷ xs) ++ f ∷ post) ≡ (f ∷ post) ++ x ∷ xs
least_at f x xs post h all =
    ap (λ t. written_from t ((x ∷ xs) ++ f ∷ post)) (least_is f x (xs ++ f ∷ post) (Contains-append_right (x ∷ xs) (f ∷ post) f (Contains-first f post)) all)
    ∙ written_at f (x ∷ xs) post h

length-least : (ts : List Tag) → length (from_least ts) ≡ length ts
length-least ts =
    let t = turned-least ts in
    let one = ap length t.here ∙ length-append t.pre t.post in
    let other = ap length t.there ∙ length-append t.post t.pre in
    omega (arith, one, other)

below_rest : (ts : List Tag) (i j : ℕ) → TagsAscend ts → i < j → i < length ts → AllByRecursion (λ u. (tag_at ts i).0 < u.0) (drop j ts)
below_rest [] i j a h k = absurd (omega arith)
below_rest (t ∷ ts) i zero a h k = absurd (omega arith)
below_rest (t ∷ ts) zero (suc j) a h k = all_dropped (λ u. t.0 < u.0) j ts a.0
  where
    all_dropped : (P : Tag → Type 0) (j : ℕ) (ts : List Tag) → AllByRecursion P ts → AllByRecursion P (drop j ts)
    all_dropped P j ts all = ByRecursion-contains P (drop j ts) (λ u k. ByRecursion-at P ts u all (in_drop j ts u k))
below_rest (t ∷ ts) (suc i) (suc j) a h k = below_rest ts i j a.1 (omega arith) (omega arith)

-- ---- a new edge to a new vertex

abbrev edge_items : End → Triple → List Tag → Items
edge_items u at ts =
    (tag_at ts 0, Vertex u.body (point_of at)) ∷
    (tag_at ts 1, Edge u.body) ∷
    (tag_at ts 2, Fin (tag_at ts 3) (tag_at ts 1) u.vertex) ∷
    (tag_at ts 3, Fin (tag_at ts 2) (tag_at ts 1) (tag_at ts 0)) ∷
    (u.loop_, ring_of u.face (tag_at ts 2 ∷ tag_at ts 3 ∷ u.fins)) ∷ []

abbrev edge_row : Shape → Triple → End → Row
edge_row S at u = refuse_outside is_coordinate (numbers_of at) >> Ok (Makes 4 (λ ts. S with edge_items u at ts))

mev-is : (S : Shape) (t : Tag) (at : Triple) (u : End) → end_at S t ≡ Ok u → refuse_outside is_coordinate (numbers_of at) ≡ None → mev S t at ≡ Ok (Makes 4 (λ ts. S with edge_items u at ts))
mev-is S t at u e none = ap (λ r. r >>= edge_row S at) e ∙ ap (λ o. o >> Ok (Makes 4 (λ ts. S with edge_items u at ts))) none

-- ---- an edge between two fins of one loop

abbrev cut_items : Tag → PlacedFin → PlacedFin → List Tag → Items
cut_items g u v ts =
    (tag_at ts 0, Face u.shell (tag_at ts 1)) ∷
    (tag_at ts 1, ring_of (tag_at ts 0) (before g u.fins ++ tag_at ts 3 ∷ [])) ∷
    (tag_at ts 2, Edge u.body) ∷
    (tag_at ts 3, Fin (tag_at ts 4) (tag_at ts 2) v.vertex) ∷
    (tag_at ts 4, Fin (tag_at ts 3) (tag_at ts 2) u.vertex) ∷
    (u.loop_, ring_of u.face (from g u.fins ++ tag_at ts 4 ∷ [])) ∷ []

abbrev cut_row : Shape → Tag → PlacedFin → PlacedFin → Row
cut_row S g u v =
    refuse_where (not (same_tag u.loop_ v.loop_)) (NotOneLoop u.loop_ v.loop_)
    >> refuse_where (same_tag u.vertex v.vertex) (SameVertex u.vertex)
    >> Ok (Makes 5 (λ ts. S with cut_items g u v ts))

mef-is : (S : Shape) (f g : Tag) (u v : PlacedFin) → fin_at S f ≡ Ok u → fin_at S g ≡ Ok v → same_tag u.loop_ v.loop_ ≡ true → same_tag u.vertex v.vertex ≡ false → mef S f g ≡ Ok (Makes 5 (λ ts. S with cut_items g u v ts))
mef-is S f g u v e k one two =
    ap (λ r. r >>= λ x. fin_at S g >>= cut_row S g x) e
    ∙ ap (λ r. r >>= cut_row S g u) k
    ∙ ap (λ b. refuse_where (not b) (NotOneLoop u.loop_ v.loop_) >> refuse_where (same_tag u.vertex v.vertex) (SameVertex u.vertex) >> Ok (Makes 5 (λ ts. S with cut_items g u v ts))) one
    ∙ ap (λ b. refuse_where b (SameVertex u.vertex) >> Ok (Makes 5 (λ ts. S with cut_items g u v ts))) two

-- ---- what stands there with a new edge

-- The edge leads from the end u in the shape S to a new vertex at the point, with the first of the tags ts; x is the
-- item of the loop.
module _ (S : Shape) (u : End) (at : Triple) (ts : List Tag) (ascend : TagsAscend ts) (free : AllByRecursion (λ t. item_at S t ≡ None) ts) (enough : 4 ≤ length ts) (x : Item) (loop_is : item_at S u.loop_ ≡ Some x) where
  new_other : (i : ℕ) (q : Tag) (y : Item) → i < 4 → item_at S q ≡ Some y → q ≢ tag_at ts i
  new_other i q y h is e = let both : Some y ≡ None = sym is ∙ ap (item_at S) e ∙ free_at S ts i free (omega (arith, h, enough)) in cc

  apart : (i j : ℕ) → i < j → j < 4 → tag_at ts i ≢ tag_at ts j
  apart i j h k = apart_at ts i j ascend h (omega (arith, k, enough))

  edge_once : NoRepeats (tag_at ts 0 ∷ tag_at ts 1 ∷ tag_at ts 2 ∷ tag_at ts 3 ∷ u.loop_ ∷ [])
  edge_once =
      let other = λ (i : ℕ) (h : i < 4) (e : tag_at ts i ≡ u.loop_). new_other i u.loop_ x h loop_is (sym e) in (
        (apart 0 1 (omega arith) (omega arith), (apart 0 2 (omega arith) (omega arith), (apart 0 3 (omega arith) (omega arith), (other 0 (omega arith), tt)))),
        (
          (apart 1 2 (omega arith) (omega arith), (apart 1 3 (omega arith) (omega arith), (other 1 (omega arith), tt))),
          ((apart 2 3 (omega arith) (omega arith), (other 2 (omega arith), tt)), ((other 3 (omega arith), tt), (tt, tt))),
        ),
      )

  out_is : item_at (S with edge_items u at ts) (tag_at ts 2) ≡ Some (Fin (tag_at ts 3) (tag_at ts 1) u.vertex)
  out_is = with-written S (edge_items u at ts) _ _ edge_once (2, omega arith, refl)

  back_is : item_at (S with edge_items u at ts) (tag_at ts 3) ≡ Some (Fin (tag_at ts 2) (tag_at ts 1) (tag_at ts 0))
  back_is = with-written S (edge_items u at ts) _ _ edge_once (3, omega arith, refl)

  ring_is : item_at (S with edge_items u at ts) u.loop_ ≡ Some (ring_of u.face (tag_at ts 2 ∷ tag_at ts 3 ∷ u.fins))
  ring_is = with-written S (edge_items u at ts) _ _ edge_once (4, omega arith, refl)

  old_is : (q : Tag) (y : Item) → item_at S q ≡ Some y → q ≢ u.loop_ → item_at (S with edge_items u at ts) q ≡ Some y
  old_is q y is other = with-other S (edge_items u at ts) q
      (new_other 0 q y (omega arith) is, (new_other 1 q y (omega arith) is, (new_other 2 q y (omega arith) is, (new_other 3 q y (omega arith) is, (other, tt))))) ∙ is

-- ---- a chain

-- In the loop l, from the fin `first` out, which starts at the vertex v, to the fin t back, with i edges more
-- than one, and these tags left.
pub record Chain (l first v : Tag) (i : ℕ) (t : Tag) (left : List Tag) (p : Progress) : Type 0 where
  pub face : Tag
  pub outs : List Tag
  pub backs : List Tag
  pub loop_is : item_at p.shape l ≡ Some (Loop face ((first ∷ outs) ++ t ∷ backs) None)
  pub long : length outs ≡ i
  pub least : AllByRecursion (λ u. first.0 ≤ u.0) ((first ∷ outs) ++ t ∷ backs)
  pub lower : AllByRecursion (λ u. first.0 < u.0) p.tags
  pub mate : Tag
  pub edge : Tag
  pub first_is : item_at p.shape first ≡ Some (Fin mate edge v)
  pub last_mate : Tag
  pub last_edge : Tag
  pub last : Tag
  pub last_is : item_at p.shape t ≡ Some (Fin last_mate last_edge last)
  pub apart : last ≢ v
  pub tags_are : p.tags ≡ left

-- S is the shape so far, and ts are the tags that are left.
module _ (S : Shape) (ts : List Tag) (well : IsWell S) (ascend : TagsAscend ts) (free : AllByRecursion (λ t. item_at S t ≡ None) ts) where
  new_vertex : (v : Tag) (x : Item) → 1 ≤ length ts → item_at S v ≡ Some x → tag_at ts 0 ≢ v
  new_vertex v x h is e = let both : Some x ≡ None = sym is ∙ ap (item_at S) (sym e) ∙ free_at S ts 0 free h in cc

  -- the first edge, from a lone vertex
  pub chain-first : (l face v : Tag) (at : Triple) → item_at S l ≡ Some (Loop face [] (Some v)) → 4 ≤ length ts → refuse_outside is_coordinate (numbers_of at) ≡ None
      → Chain l (tag_at ts 2) v 0 (tag_at ts 3) (drop 4 ts) (after_row (mev S l at) (start S ts))
  chain-first l face v at is enough none =
      let u = end_in S v l [] in
      let row = mev-is S l at u (ap (end_of_item S l) is) none in
      let n = tag_at ts 2 in
      let m = tag_at ts 3 in
      let less : n.0 < m.0 = TagsAscend-at ts 2 3 ascend (omega arith) (omega (arith, enough)) in
      let list : from_least (n ∷ m ∷ []) ≡ n ∷ m ∷ [] = ap (λ t. written_from t (n ∷ m ∷ [])) (least-first n (m ∷ []) (omega (arith, less), tt)) ∙ written-itself n (m ∷ []) in
      let vertex = vertex_of_class (item_at S v) (well.sound.names.kinds l (Loop face [] (Some v)) is).2.0 in
      subst (λ r. Chain l n v 0 m (drop 4 ts) (after_row r (start S ts))) (sym row) (record {
        face = u.face;
        outs = [];
        backs = [];
        loop_is = ring_is S u at ts ascend free enough _ is ∙ ap (λ fs. Some (Loop u.face fs None)) list;
        long = refl;
        least = (omega arith, (omega (arith, less), tt));
        lower = below_rest ts 2 4 ascend (omega arith) (omega (arith, enough));
        mate = m;
        edge = tag_at ts 1;
        first_is = out_is S u at ts ascend free enough _ is;
        last_mate = n;
        last_edge = tag_at ts 1;
        last = tag_at ts 0;
        last_is = back_is S u at ts ascend free enough _ is;
        apart = new_vertex v _ (omega (arith, enough)) vertex.2;
        tags_are = refl;
      })

  module _ (l first v : Tag) (i : ℕ) (t : Tag) (left : List Tag) (c : Chain l first v i t left (start S ts)) where
    abbrev list : List Tag
    list = (first ∷ c.outs) ++ t ∷ c.backs

    list_once : NoRepeats list
    list_once = fins-once S well.written well.sound l c.face list None c.loop_is

    t_in : Contains list t
    t_in = Contains-append_right (first ∷ c.outs) (t ∷ c.backs) t (Contains-first t c.backs)

    owner_of : (f : Tag) → Contains list f → owner_in S f ≡ l
    owner_of f k = loop-of_fin S well.written well.sound l c.face list None c.loop_is f k

    fins_are : fins_at S l ≡ list
    fins_are = ap (λ (o : Option Item). option_map_or fins_of o []) c.loop_is

    not_in_outs : ¬ (Contains (first ∷ c.outs) t)
    not_in_outs = not_before t (first ∷ c.outs) c.backs list_once

    fin_no_loop : (f mate edge w : Tag) → item_at S f ≡ Some (Fin mate edge w) → f ≢ l
    fin_no_loop f mate edge w is e = let both : Some (Fin mate edge w) ≡ Some (Loop c.face list None) = sym is ∙ ap (item_at S) e ∙ c.loop_is in cc

    -- one edge more
    pub chain-next : (at : Triple) → 4 ≤ length ts → refuse_outside is_coordinate (numbers_of at) ≡ None → Chain l first v (i + 1) (tag_at ts 3) (drop 4 ts) (after_row (mev S t at) (start S ts))
    chain-next at enough none =
        let u = end_in S c.last l ((t ∷ c.backs) ++ first ∷ c.outs) in
        let owner = owner_of t t_in in
        let end_is : end_at S t ≡ Ok u = ap (end_of_item S t) c.last_is ∙ (λ j. Ok (end_in S c.last (owner j) (written_from t (fins_at S (owner j)))))
        ∙ ap (λ fs. Ok (end_in S c.last l fs)) (ap (written_from t) fins_are ∙ written_at t (first ∷ c.outs) c.backs not_in_outs) in
        let row = mev-is S t at u end_is none in
        let n = tag_at ts 2 in
        let m = tag_at ts 3 in
        let n_above : first.0 < n.0 = ByRecursion-get_or (λ u. first.0 < u.0) ts 2 (tag 0) (omega (arith, enough)) c.lower in
        let m_above : first.0 < m.0 = ByRecursion-get_or (λ u. first.0 < u.0) ts 3 (tag 0) (omega (arith, enough)) c.lower in
        let not_n : first ≢ n = λ e. (let same : first.0 ≡ n.0 = ap (λ (u : Tag). u.0) e in omega (arith, same, n_above)) in
        let not_m : first ≢ m = λ e. (let same : first.0 ≡ m.0 = ap (λ (u : Tag). u.0) e in omega (arith, same, m_above)) in
        let not_back : ¬ (Contains (t ∷ c.backs) first) = λ k. ByRecursion-at (λ u. first ≢ u) (c.outs ++ t ∷ c.backs) first list_once.0 (Contains-append_right c.outs (t ∷ c.backs) first k) refl in
        let outside : ¬ (Contains (n ∷ m ∷ t ∷ c.backs) first) = λ k. ⊎_elim (λ (e : n ≡ first). not_n (sym e)) (λ (r : Contains (m ∷ t ∷ c.backs) first).
        ⊎_elim (λ (e : m ≡ first). not_m (sym e)) (λ (q : Contains (t ∷ c.backs) first). not_back q) (Contains-cases m (t ∷ c.backs) first r)) (Contains-cases n (m ∷ t ∷ c.backs) first k) in
        let outs_above : AllByRecursion (λ u. first.0 ≤ u.0) (first ∷ c.outs) = ByRecursion-contains (λ u. first.0 ≤ u.0) (first ∷ c.outs) (λ u k. ByRecursion-at (λ u. first.0 ≤ u.0) list u c.least (Contains-append_left (first ∷ c.outs) (t ∷ c.backs) u k)) in
        let backs_above : AllByRecursion (λ u. first.0 ≤ u.0) (t ∷ c.backs) = ByRecursion-contains (λ u. first.0 ≤ u.0) (t ∷ c.backs) (λ u k. ByRecursion-at (λ u. first.0 ≤ u.0) list u c.least (Contains-append_right (first ∷ c.outs) (t ∷ c.backs) u k)) in
        let news_above : AllByRecursion (λ u. first.0 ≤ u.0) (n ∷ m ∷ t ∷ c.backs) = (omega (arith, n_above), (omega (arith, m_above), backs_above)) in
        let ring : from_least ((n ∷ m ∷ t ∷ c.backs) ++ first ∷ c.outs) ≡ (first ∷ c.outs) ++ n ∷ m ∷ t ∷ c.backs =
        least_at first n (m ∷ t ∷ c.backs) c.outs outside (ByRecursion-append (λ u. first.0 ≤ u.0) (n ∷ m ∷ t ∷ c.backs) (first ∷ c.outs) news_above outs_above) in
        let written : (first ∷ c.outs) ++ n ∷ m ∷ t ∷ c.backs ≡ (first ∷ c.outs ++ n ∷ []) ++ m ∷ t ∷ c.backs = sym (append_assoc (first ∷ c.outs) (n ∷ []) (m ∷ t ∷ c.backs)) in
        let vertex = vertex_of_class (item_at S v) (well.sound.names.kinds first (Fin c.mate c.edge v) c.first_is).2.0 in
        let long = length-append c.outs (n ∷ []) in
        let was = c.long in
        subst (λ r. Chain l first v (i + 1) m (drop 4 ts) (after_row r (start S ts))) (sym row) (record {
          face = u.face;
          outs = c.outs ++ n ∷ [];
          backs = t ∷ c.backs;
          loop_is = ring_is S u at ts ascend free enough _ c.loop_is ∙ ap (λ fs. Some (Loop u.face fs None)) (ring ∙ written);
          long = omega (arith, long, was);
          least = subst (AllByRecursion (λ u. first.0 ≤ u.0)) written (ByRecursion-append (λ u. first.0 ≤ u.0) (first ∷ c.outs) (n ∷ m ∷ t ∷ c.backs) outs_above news_above);
          lower = ByRecursion-contains (λ u. first.0 < u.0) (drop 4 ts) (λ u k. ByRecursion-at (λ u. first.0 < u.0) ts u c.lower (in_drop 4 ts u k));
          mate = c.mate;
          edge = c.edge;
          first_is = old_is S u at ts ascend free enough _ c.loop_is first _ c.first_is (fin_no_loop first c.mate c.edge v c.first_is);
          last_mate = n;
          last_edge = tag_at ts 1;
          last = tag_at ts 0;
          last_is = back_is S u at ts ascend free enough _ c.loop_is;
          apart = new_vertex v _ (omega (arith, enough)) vertex.2;
          tags_are = refl;
        })

    -- ---- the new face of a cut from the first fin out to the last fin back

    -- it has the fins out, and one of the new edge
    pub face-fins : 5 ≤ length ts → length (fins_at (after_row (mef S first t) (start S ts)).shape (outer_at (after_row (mef S first t) (start S ts)).shape (tag_at ts 0))) ≡ i + 2
    face-fins enough =
        let u = placed_fin S first c.mate c.edge v l in
        let w = placed_fin S t c.last_mate c.last_edge c.last l in
        let first_in : Contains list first = Contains-first first (c.outs ++ t ∷ c.backs) in
        let u_is : fin_at S first ≡ Ok u = ap (asked (as_fin S first) first) c.first_is ∙ (λ j. Ok (placed_fin S first c.mate c.edge v (owner_of first first_in j))) in
        let w_is : fin_at S t ≡ Ok w = ap (asked (as_fin S t) t) c.last_is ∙ (λ j. Ok (placed_fin S t c.last_mate c.last_edge c.last (owner_of t t_in j))) in
        let row = mef-is S first t u w u_is w_is (same_itself l) (not_same v c.last (λ e. c.apart (sym e))) in
        let xs = cut_items t u w ts in
        let apart = λ (a b : ℕ) (h : a < b) (k : b < 5). apart_at ts a b ascend h (omega (arith, k, enough)) in
        let other = λ (a : ℕ) (h : a < 5) (e : tag_at ts a ≡ l).
        (let both : Some (Loop c.face list None) ≡ None = sym c.loop_is ∙ ap (item_at S) (sym e) ∙ free_at S ts a free (omega (arith, h, enough)) in absurd {A = ⊥} (cc)) in
        let once : NoRepeats (tag_at ts 0 ∷ tag_at ts 1 ∷ tag_at ts 2 ∷ tag_at ts 3 ∷ tag_at ts 4 ∷ l ∷ []) = (
          (apart 0 1 (omega arith) (omega arith), (apart 0 2 (omega arith) (omega arith), (apart 0 3 (omega arith) (omega arith), (apart 0 4 (omega arith) (omega arith), (other 0 (omega arith), tt))))),
          (
            (apart 1 2 (omega arith) (omega arith), (apart 1 3 (omega arith) (omega arith), (apart 1 4 (omega arith) (omega arith), (other 1 (omega arith), tt)))),
            (
              (apart 2 3 (omega arith) (omega arith), (apart 2 4 (omega arith) (omega arith), (other 2 (omega arith), tt))),
              ((apart 3 4 (omega arith) (omega arith), (other 3 (omega arith), tt)), ((other 4 (omega arith), tt), (tt, tt))),
            ),
          ),
        ) in
        let face_is : item_at (S with xs) (tag_at ts 0) ≡ Some (Face u.shell (tag_at ts 1)) = with-written S xs _ _ once (0, omega arith, refl) in
        let ring_is : item_at (S with xs) (tag_at ts 1) ≡ Some (ring_of (tag_at ts 0) (before t u.fins ++ tag_at ts 3 ∷ [])) = with-written S xs _ _ once (1, omega arith, refl) in
        let outer : outer_at (S with xs) (tag_at ts 0) ≡ tag_at ts 1 = ap (λ (o : Option Item). option_map_or outer_of o (tag 0)) face_is in
        let fins : fins_at (S with xs) (tag_at ts 1) ≡ from_least (before t u.fins ++ tag_at ts 3 ∷ []) = ap (λ (o : Option Item). option_map_or fins_of o []) ring_is in
        let all : u.fins ≡ list = ap (written_from first) fins_are ∙ written-itself first (c.outs ++ t ∷ c.backs) in
        let part : before t u.fins ≡ first ∷ c.outs = ap (before t) all ∙ (parts_at t (first ∷ c.outs) c.backs not_in_outs).0 in
        let few = ap length part in
        let more = length-append (before t u.fins) (tag_at ts 3 ∷ []) in
        let least = length-least (before t u.fins ++ tag_at ts 3 ∷ []) in
        let was = c.long in
        let long : length (from_least (before t u.fins ++ tag_at ts 3 ∷ [])) ≡ i + 2 = omega (arith, few, more, least, was) in
        subst (λ r. length (fins_at (after_row r (start S ts)).shape (outer_at (after_row r (start S ts)).shape (tag_at ts 0))) ≡ i + 2) (sym row)
        (ap (λ k. length (fins_at (S with xs) k)) outer ∙ ap length fins ∙ long)

-- ---- a path

chain-as : (l first v : Tag) (i k : ℕ) (t u : Tag) (r s : List Tag) (p : Progress) → i ≡ k → t ≡ u → r ≡ s → Chain l first v i t r p → Chain l first v k u s p
chain-as l first v i k t u r s p a b c h = subst (λ j. Chain l first v j u s p) a (subst (λ w. Chain l first v i w s p) b (subst (λ x. Chain l first v i t x p) c h))

-- S is the shape at the beginning, and these are the tags that there were.
module _ (S : Shape) (tags : List Tag) (ascend : TagsAscend tags) (free : AllByRecursion (λ t. item_at S t ≡ None) tags) where
  -- the tag after the last fin back is the next one
  pub chain-path : (n : ℕ) (cs : List Triple) (j i : ℕ) (l first v t : Tag) (p : Progress) → Began S tags n p → n + 4 * length cs ≤ length tags
      → AllByRecursion (λ c. refuse_outside is_coordinate (numbers_of c) ≡ None) cs → t ≡ tag_at tags j → Chain l first v i t (drop (j + 1) tags) p
      → Chain l first v (i + length cs) (tag_at tags (j + 4 * length cs)) (drop (j + 4 * length cs + 1) tags) (after_path t cs p)
  chain-path n [] j i l first v t p b enough within here c =
      let same : j ≡ j + 4 * length {A = Triple} [] = omega arith in
      chain-as l first v i (i + length {A = Triple} []) t (tag_at tags (j + 4 * length {A = Triple} [])) (drop (j + 1) tags) (drop (j + 4 * length {A = Triple} [] + 1) tags) p
      (omega arith) (here ∙ ap (tag_at tags) same) (ap (λ k. drop (k + 1) tags) same) c
  chain-path n (a ∷ cs) j i l first v t p b enough within here c =
      let q = after_row (mev p.shape t a) p in
      let fits : 4 ≤ length p.tags = left-enough S tags ascend free n 4 p b (omega (arith, enough)) in
      let next = chain-next p.shape p.tags b.well (left-ascend S tags ascend free n p b) (left-free S tags ascend free n p b) l first v i t (drop (j + 1) tags) c a fits within.0 in
      let place : j + 1 + 3 ≡ j + 4 = omega arith in
      let count : j + 1 + 4 ≡ j + 4 + 1 = omega arith in
      let t_is : tag_at p.tags 3 ≡ tag_at tags (j + 4) = ap (λ ts. tag_at ts 3) c.tags_are ∙ get_or-drop (j + 1) tags 3 (tag 0) ∙ ap (tag_at tags) place in
      let left_is : drop 4 p.tags ≡ drop (j + 4 + 1) tags = ap (drop 4) c.tags_are ∙ drop-drop 4 (j + 1) tags ∙ ap (λ k. drop k tags) count in
      let rest = chain-path (n + 4) cs (j + 4) (i + 1) l first v (tag_at p.tags 3) q (began-mev S tags ascend free n p t a b (omega (arith, enough))) (omega (arith, enough)) within.1 t_is
      (chain-as l first v (i + 1) (i + 1) (tag_at p.tags 3) (tag_at p.tags 3) (drop 4 p.tags) (drop (j + 4 + 1) tags) q refl refl left_is next) in
      let same : j + 4 + 4 * length cs ≡ j + 4 * length (a ∷ cs) = omega arith in
      chain-as l first v (i + 1 + length cs) (i + length (a ∷ cs)) (tag_at tags (j + 4 + 4 * length cs)) (tag_at tags (j + 4 * length (a ∷ cs)))
      (drop (j + 4 + 4 * length cs + 1) tags) (drop (j + 4 * length (a ∷ cs) + 1) tags) (after_path t (a ∷ cs) p)
      (omega arith) (ap (tag_at tags) same) (ap (λ k. drop (k + 1) tags) same) rest
