-- The edges of a face that is raised, one after another: what stands there once the first i of them are made.
use Rattle.std.proofs.Common.{◌≡◌, ◌≢◌, ℕ, zero, suc, ◌+◌, ◌*◌, ◌-◌, ◌<◌, ◌≤◌, ◌⊎◌, inl, inr, ⊎_elim, List, [], ◌∷◌, ◌++◌, length, take, drop, get_or, Option, Some, None, Ok, refl, sym, ap, subst, ◌∙◌, append_assoc, append-nil, arith}
use Rattle.std.specs.Prelude.{ℤ, Bool, true, false, not, map, find, cond, option_map, is_some, Contains, IsOk, IsTrue}
use Rattle.std.specs.Option.{option_map_or}
use Rattle.std.specs.List.{AllByRecursion, range_with_len}
use Rattle.std.proofs.Math.Seq.{take-add}
use Rattle.std.proofs.lemmas.Bool.{cases_lt}
use Rattle.std.proofs.lemmas.List.{drop-drop, drop_more, get_or-drop, get_or-take, length-take-le}
use Rattle.std.proofs.lemmas.List.FromFn.{map-range_with_len_more}
use Rattle.std.proofs.lemmas.List.Elements.{Contains-append_left, Contains-append_right, Contains-get_or}
use Rattle.pk_base.specs.Blocks.{tag}
use Rattle.pk_base.specs.declared.tag.Tag.{Tag}
use Rattle.pk_base.specs.declared.entity.Point.{Point}
use Rattle.pk_base.specs.declared.entity.Triple.{Triple}
use Rattle.pk_base.specs.declared.refusal.Refusal.TheVariants.{OutOfRange}
use Rattle.pk_base.specs.declared.call.Call.TheVariants.{Mev}
use Rattle.pk_model.specs.Apart.{NoRepeats}
use Rattle.pk_model.specs.Tags.{TagsAscend, tag_at}
use Rattle.pk_plane.specs.Turns.{moved}
use Rattle.list_facts.proofs.Elements.{Contains-first, Contains-later, Contains-cases, Contains-only}
use Rattle.list_facts.proofs.Each.{ByRecursion-at}
use Rattle.solid_model.specs.Items.{Item, Shape, item_at}
use Rattle.solid_model.specs.Items.Item.{Loop, Face, Fin, Vertex}
use Rattle.solid_model.specs.Rings.{first_tag, written_from}
use Rattle.solid_model.specs.Owners.{fins_of}
use Rattle.solid_model.specs.Places.{PlacedFace, face_at, fins_at, outer_at, outer_of, start_at, vertex_of, point_at, point_of_vertex}
use Rattle.solid_model.specs.Ranges.{is_coordinate, numbers_of, coordinates_of, refuse_outside}
use Rattle.solid_model.specs.Sound.{is_empty}
use Rattle.solid_model.specs.Folds.{Progress, after_row, after_edges}
use Rattle.solid_model.specs.Mev.{mev}
use Rattle.solid_model.specs.Sweep.{triple_of, along}
use Rattle.solid_model.specs.Room.{tags_put}
use Rattle.solid_model.proofs.lists.Neighbours.{head_or}
use Rattle.solid_model.proofs.lists.Cycles.{written-itself}
use Rattle.solid_places.specs.Points.{AreCoordinates}
use Rattle.solid_sound.proofs.shapes.Reading.{fin_in}
use Rattle.solid_sound.proofs.rows.RowKeeps.{IsWell}
use Rattle.solid_sound.proofs.rows.KeptRings.{asked_face}
use Rattle.solid_sound.proofs.rows.Progress.{start, Began, began-start, began-mev, left-ascend, left-free, left-enough}
use Rattle.euler_make.specs.Cutting.{Stand}
use Rattle.euler_make.specs.Raising.{outer_fins, tags_raised}
use Rattle.euler_make.proofs.EdgeRaised.{RoundFrom, EdgeRaised, edge-raised}
use Rattle.euler_make.proofs.TurnedLists.{stand-both, stand-one}

-- ---- points within the limit

within_all : (test : ℤ → Bool) (vs : List ℤ) → AllByRecursion (λ v. IsTrue (test v)) vs → find (λ v. not (test v)) vs ≡ None
within_all test [] h = refl
within_all test (v ∷ vs) h = ap (λ b. cond (not b) (Some v) (find (λ w. not (test w)) vs)) h.0 ∙ within_all test vs h.1

-- mev does not refuse such a point
pub goes-within : (p : Point) → AreCoordinates p → refuse_outside is_coordinate (numbers_of (triple_of p)) ≡ None
goes-within p h = ap (option_map OutOfRange) (within_all is_coordinate (coordinates_of p) h)

-- ---- tags that were taken

pub taken-within : (i j k : ℕ) (ts : List Tag) (t : Tag) → i + j ≤ k → Contains (take j (drop i ts)) t → Contains (take k ts) t
taken-within i j k ts t h c =
    let first : Contains (take (i + j) ts) t = subst (λ us. Contains us t) (sym (take-add i j ts)) (Contains-append_right (take i ts) (take j (drop i ts)) t c) in
    let e : (i + j) + (k - (i + j)) ≡ k = omega (arith, h) in
    subst (λ n. Contains (take n ts) t) e (subst (λ us. Contains us t) (sym (take-add (i + j) (k - (i + j)) ts)) (Contains-append_left (take (i + j) ts) (take (k - (i + j)) (drop (i + j) ts)) t first))

pub in_either : {C : Type 0} (xs ys : List Tag) (t : Tag) → Contains (xs ++ ys) t → (Contains xs t → C) → (Contains ys t → C) → C
in_either [] ys t k a b = b k
in_either (x ∷ xs) ys t k a b = ⊎_elim
    (λ (e : x ≡ t). a (subst (Contains (x ∷ xs)) e (Contains-first x xs)))
    (λ (r : Contains (xs ++ ys) t). in_either xs ys t r (λ c. a (Contains-later x xs t c)) b)
    (Contains-cases x (xs ++ ys) t k)

-- ---- the outer loop of a face

pub outer-loop : (S : Shape) → IsWell S → (f : Tag) (face : PlacedFace) → face_at S f ≡ Ok face → (list : List Tag) × (lone : Option Tag) × (item_at S (outer_at S f) ≡ Some (Loop f list lone))
outer-loop S well f face found =
    let x = asked_face S f (item_at S f) face found in
    let outer : outer_at S f ≡ x.1 = ap (λ (o : Option Item). option_map_or outer_of o (tag 0)) x.2 in
    let l = well.sound.outer f x.0 x.1 x.2 in
    (l.0, l.1, ap (item_at S) outer ∙ l.2)

pub outer-fin : (S : Shape) → IsWell S → (f : Tag) (face : PlacedFace) → face_at S f ≡ Ok face → (t : Tag) → Contains (outer_fins S f) t
    → (mate : Tag) × (edge : Tag) × (vertex : Tag) × (item_at S t ≡ Some (Fin mate edge vertex))
outer-fin S well f face found t k =
    let l = outer-loop S well f face found in
    let fins : outer_fins S f ≡ l.0 = ap (λ (o : Option Item). option_map_or fins_of o []) l.2 in
    fin_in S well.written well.sound (outer_at S f) f l.0 l.1 l.2 t (subst (λ us. Contains us t) fins k)

-- the outer loop of a face, which has this first fin
pub record FaceRound (S : Shape) (f fin : Tag) (fins : List Tag) : Type 0 where
  pub rest : List Tag
  pub fins_are : fins ≡ fin ∷ rest
  pub round : RoundFrom S (outer_at S f) fin rest

pub face-round : (S : Shape) → IsWell S → (f fin : Tag) (face : PlacedFace) → face_at S f ≡ Ok face → first_tag (outer_fins S f) ≡ Some fin → FaceRound S f fin (outer_fins S f)
face-round S well f fin face found first =
    let l = outer-loop S well f face found in
    let fins : outer_fins S f ≡ l.0 = ap (λ (o : Option Item). option_map_or fins_of o []) l.2 in
    by_list (outer_fins S f) l.0 l.1 fins l.2 (well.sound.lone (outer_at S f) f l.0 l.1 l.2) first
  where
    by_list : (fs list : List Tag) (alone : Option Tag) → fs ≡ list → item_at S (outer_at S f) ≡ Some (Loop f list alone) → is_some alone ≡ is_empty list → first_tag fs ≡ Some fin → FaceRound S f fin fs
    by_list fs [] o e loop_is alone first = let both : None ≡ Some fin = sym (ap first_tag e) ∙ first in absurd (cc)
    by_list fs (t ∷ ts) (Some x) e loop_is alone first = absurd (cc)
    by_list fs (t ∷ ts) None e loop_is alone first =
        let both : Some t ≡ Some fin = sym (ap first_tag e) ∙ first in
        let same : t ≡ fin = cc in
        record {
          rest = ts;
          fins_are = e ∙ ap (λ u. u ∷ ts) same;
          round = record { face = f; list = t ∷ ts; loop_is = loop_is; round = ap (λ u. written_from u (t ∷ ts)) (sym same) ∙ written-itself t ts ∙ ap (λ u. u ∷ ts) same };
        }

-- ---- the first i edges

abbrev pub back_at : List Tag → ℕ → Tag
back_at tags i = tag_at tags (4 * i + 3)

-- The first i edges were made. `fin` is the next one from which there is one: after the last edge it is any.
pub record Raising (S : Shape) (f : Tag) (by : Triple) (tags : List Tag) (i : ℕ) (fin : Tag) (p : Progress) : Type 0 where
  pub began : Began S tags (4 * i) p
  pub tags_are : p.tags ≡ drop (4 * i) tags
  pub tail : List Tag
  pub round : RoundFrom p.shape (outer_at S f) fin tail
  pub more : List Tag
  pub order : drop i (outer_fins S f) ++ more ≡ fin ∷ tail
  pub stand : Stand (map (back_at tags) (range_with_len 0 i)) more
  pub backs : (j : ℕ) → j < i → item_at p.shape (back_at tags j) ≡ Some (Fin (tag_at tags (4 * j + 2)) (tag_at tags (4 * j + 1)) (tag_at tags (4 * j)))
  pub olds : (t : Tag) (x : Item) → item_at S t ≡ Some x → t ≢ outer_at S f → item_at p.shape t ≡ Some x
  pub fins : (t : Tag) → Contains (fins_at p.shape (outer_at S f)) t → Contains (outer_fins S f) t ⊎ Contains (take (4 * i) tags) t
  pub total : after_edges (map (along S by) (drop i (outer_fins S f))) p ≡ after_edges (map (along S by) (outer_fins S f)) (start S tags)

-- where the edge from a fin leads
abbrev pub raised_from : Shape → Triple → Tag → Triple
raised_from S by fin = triple_of (moved by (point_at S (start_at S fin)))

-- a list with more behind it is not empty
split : (xs : List Tag) (a : Tag) (ys : List Tag) → xs ++ a ∷ ys ≡ head_or a (xs ++ a ∷ ys) ∷ drop 1 (xs ++ a ∷ ys)
split [] a ys = refl
split (x ∷ xs) a ys = refl

module _ (S : Shape) (f : Tag) (by : Triple) (tags : List Tag) where
  pub raising-start : IsWell S → (fin : Tag) → FaceRound S f fin (outer_fins S f) → Raising S f by tags 0 fin (start S tags)
  raising-start well fin r = record {
    began = began-start S tags well;
    tags_are = refl;
    tail = r.rest;
    round = r.round;
    more = [];
    order = append-nil (outer_fins S f) ∙ r.fins_are;
    stand = tt;
    backs = λ j h. absurd (omega (arith, h));
    olds = λ t x is other. is;
    fins = λ t k. inl k;
    total = refl;
  }

  module _ (well : IsWell S) (ascend : TagsAscend tags) (free : AllByRecursion (λ t. item_at S t ≡ None) tags) (i : ℕ) (fin : Tag) (p : Progress) (r : Raising S f by tags i fin p)
      (less : i < length (outer_fins S f)) (enough : 4 * (i + 1) ≤ length tags) (at : Triple) (at_is : at ≡ raised_from S by fin) (within : AreCoordinates (moved by (point_at S (start_at S fin)))) where
    left_is : drop i (outer_fins S f) ≡ get_or (outer_fins S f) i (tag 0) ∷ drop (i + 1) (outer_fins S f)
    left_is = drop_more (outer_fins S f) i (tag 0) less

    both_first : fin ∷ r.tail ≡ get_or (outer_fins S f) i (tag 0) ∷ (drop (i + 1) (outer_fins S f) ++ r.more)
    both_first = sym r.order ∙ ap (λ us. us ++ r.more) left_is

    fin_is : fin ≡ get_or (outer_fins S f) i (tag 0)
    fin_is = ap (head_or (tag 0)) both_first

    tail_is : r.tail ≡ drop (i + 1) (outer_fins S f) ++ r.more
    tail_is = ap (drop 1) both_first

    abbrev ends : List Tag
    ends = tag_at p.tags 2 ∷ tag_at p.tags 3 ∷ fin ∷ []

    abbrev pub next_fin : Tag
    next_fin = head_or (tag_at p.tags 2) (r.tail ++ ends)

    abbrev pub next_tail : List Tag
    next_tail = drop 1 (r.tail ++ ends)

    fits : 4 ≤ length p.tags
    fits = left-enough S tags ascend free (4 * i) 4 p r.began (omega (arith, enough))

    pub edge : EdgeRaised p.shape p.tags (outer_at S f) fin r.tail at next_fin next_tail
    edge = edge-raised p.shape p.tags r.began.well (left-ascend S tags ascend free (4 * i) p r.began) (left-free S tags ascend free (4 * i) p r.began) fits
        (outer_at S f) fin r.tail r.round at (ap (λ a. refuse_outside is_coordinate (numbers_of a)) at_is ∙ goes-within (moved by (point_at S (start_at S fin))) within)
        next_fin next_tail (split r.tail (tag_at p.tags 2) (tag_at p.tags 3 ∷ fin ∷ []))

    -- the shape and the tags that the edge leaves
    abbrev pub now : Progress
    now = record { shape = edge.shape; tags = drop 4 p.tags }

    now_is : after_row (mev p.shape fin at) p ≡ now
    now_is = edge.after

    tag_is : (k : ℕ) → tag_at p.tags k ≡ tag_at tags (4 * i + k)
    tag_is k = ap (λ ts. tag_at ts k) r.tags_are ∙ get_or-drop (4 * i) tags k (tag 0)

    four_more : 4 * i + 4 ≡ 4 * (i + 1)
    four_more = omega arith

    pub raising-next : Raising S f by tags (i + 1) next_fin now
    raising-next =
        let began : Began S tags (4 * i + 4) now = subst (Began S tags (4 * i + 4)) now_is (began-mev S tags ascend free (4 * i) p fin at r.began (omega (arith, enough))) in
        let back_new : item_at edge.shape (back_at tags i) ≡ Some (Fin (tag_at tags (4 * i + 2)) (tag_at tags (4 * i + 1)) (tag_at tags (4 * i + 0))) =
        ap (item_at edge.shape) (sym (tag_is 3)) ∙ edge.back ∙ (λ j. Some (Fin (tag_is 2 j) (tag_is 1 j) (tag_is 0 j))) in
        record {
          began = subst (λ n. Began S tags n now) four_more began;
          tags_are = ap (drop 4) r.tags_are ∙ drop-drop 4 (4 * i) tags ∙ ap (λ n. drop n tags) four_more;
          tail = next_tail;
          round = edge.round;
          more = r.more ++ ends;
          order = sym (append_assoc (drop (i + 1) (outer_fins S f)) r.more ends) ∙ ap (λ us. us ++ ends) (sym tail_is) ∙ split r.tail (tag_at p.tags 2) (tag_at p.tags 3 ∷ fin ∷ []);
          stand = subst (λ us. Stand us (r.more ++ ends)) (sym (map-range_with_len_more (back_at tags) 0 i i (omega arith)))
              (stand-both (map (back_at tags) (range_with_len 0 i)) (back_at tags i ∷ []) r.more ends r.stand
              (subst (λ t. Stand (t ∷ []) ends) (tag_is 3) (stand-one (tag_at p.tags 3) (tag_at p.tags 2 ∷ []) (fin ∷ []))));
          backs = λ j h. ⊎_elim {C = item_at edge.shape (back_at tags j) ≡ Some (Fin (tag_at tags (4 * j + 2)) (tag_at tags (4 * j + 1)) (tag_at tags (4 * j)))}
              (λ (below : j < i). edge.olds (back_at tags j) _ (r.backs j below) (no_loop (back_at tags j) _ _ _ (r.backs j below)))
              (λ (same : j ≡ i). subst (λ k. item_at edge.shape (back_at tags k) ≡ Some (Fin (tag_at tags (4 * k + 2)) (tag_at tags (4 * k + 1)) (tag_at tags (4 * k)))) (sym same)
              (back_new ∙ ap (λ k. Some (Fin (tag_at tags (4 * i + 2)) (tag_at tags (4 * i + 1)) (tag_at tags k))) zero_more))
              (below_or_same j h);
          olds = λ t x is other. edge.olds t x (r.olds t x is other) other;
          fins = λ t k. ⊎_elim {C = Contains (outer_fins S f) t ⊎ Contains (take (4 * (i + 1)) tags) t}
              (λ (was : Contains (fins_at p.shape (outer_at S f)) t). ⊎_elim {C = Contains (outer_fins S f) t ⊎ Contains (take (4 * (i + 1)) tags) t}
              (λ (old : Contains (outer_fins S f) t). inl old)
              (λ (taken : Contains (take (4 * i) tags) t). inr (taken-within 0 (4 * i) (4 * (i + 1)) tags t (omega arith) taken))
              (r.fins t was))
              (λ (new : Contains (tag_at p.tags 2 ∷ tag_at p.tags 3 ∷ []) t). inr (taken-within (4 * i) 4 (4 * (i + 1)) tags t (omega arith) (subst (λ ts. Contains (take 4 ts) t) r.tags_are (pair_taken t new))))
              (edge.fins t k);
          total =
              let here : after_edges (map (along S by) (drop i (outer_fins S f))) p ≡ after_edges (map (along S by) (fin ∷ drop (i + 1) (outer_fins S f))) p =
              ap (λ us. after_edges (map (along S by) us) p) (left_is ∙ ap (λ u. u ∷ drop (i + 1) (outer_fins S f)) (sym fin_is)) in
              let there : after_edges (map (along S by) (fin ∷ drop (i + 1) (outer_fins S f))) p ≡ after_edges (map (along S by) (drop (i + 1) (outer_fins S f))) now =
              ap (after_edges (map (along S by) (drop (i + 1) (outer_fins S f)))) (ap (λ a. after_row (mev p.shape fin a) p) (sym at_is) ∙ now_is) in
              sym there ∙ sym here ∙ r.total;
        }
      where
        zero_more : 4 * i + 0 ≡ 4 * i
        zero_more = omega arith

        below_or_same : (j : ℕ) → j < i + 1 → (j < i) ⊎ (j ≡ i)
        below_or_same j h = ⊎_elim {C = (j < i) ⊎ (j ≡ i)} (λ (b : j < i). inl b) (λ (b : i ≤ j). inr (omega (arith, b, h))) (cases_lt j i)

        no_loop : (t mate edge vertex : Tag) → item_at p.shape t ≡ Some (Fin mate edge vertex) → t ≢ outer_at S f
        no_loop t mate edge vertex is e = let both : Some (Fin mate edge vertex) ≡ Some (Loop r.round.face r.round.list None) = sym is ∙ ap (item_at p.shape) e ∙ r.round.loop_is in cc

        among : (ts : List Tag) (k : ℕ) → k < 4 → 4 ≤ length ts → Contains (take 4 ts) (tag_at ts k)
        among ts k h e = subst (Contains (take 4 ts)) (get_or-take 4 ts k (tag 0) h) (Contains-get_or (take 4 ts) k (tag 0) (omega (arith, h, length-take-le 4 ts e)))

        pair_taken : (t : Tag) → Contains (tag_at p.tags 2 ∷ tag_at p.tags 3 ∷ []) t → Contains (take 4 p.tags) t
        pair_taken t k = ⊎_elim {C = Contains (take 4 p.tags) t}
            (λ (e : tag_at p.tags 2 ≡ t). subst (Contains (take 4 p.tags)) e (among p.tags 2 (omega arith) fits))
            (λ (q : Contains (tag_at p.tags 3 ∷ []) t). subst (Contains (take 4 p.tags)) (Contains-only (tag_at p.tags 3) t q) (among p.tags 3 (omega arith) fits))
            (Contains-cases (tag_at p.tags 2) (tag_at p.tags 3 ∷ []) t k)

    -- the tags that the edge puts
    pub edge-puts : 4 * (i + 1) ≤ 9 * length (outer_fins S f) → (t : Tag) → Contains (tags_put p.shape (Mev fin at) p.tags) t → Contains (tags_raised S f tags) t
    edge-puts few t k = in_either (take 4 p.tags) (outer_at S f ∷ fins_at p.shape (outer_at S f)) t (edge.puts t k)
        (λ (c : Contains (take 4 p.tags) t). Contains-append_left (take (9 * length (outer_fins S f)) tags) (outer_at S f ∷ outer_fins S f) t
        (taken-within (4 * i) 4 (9 * length (outer_fins S f)) tags t (omega (arith, few)) (subst (λ ts. Contains (take 4 ts) t) r.tags_are c)))
        (λ (c : Contains (outer_at S f ∷ fins_at p.shape (outer_at S f)) t). ⊎_elim {C = Contains (tags_raised S f tags) t}
        (λ (e : outer_at S f ≡ t). Contains-append_right (take (9 * length (outer_fins S f)) tags) (outer_at S f ∷ outer_fins S f) t
        (subst (Contains (outer_at S f ∷ outer_fins S f)) e (Contains-first (outer_at S f) (outer_fins S f))))
        (λ (q : Contains (fins_at p.shape (outer_at S f)) t). ⊎_elim {C = Contains (tags_raised S f tags) t}
        (λ (old : Contains (outer_fins S f) t). Contains-append_right (take (9 * length (outer_fins S f)) tags) (outer_at S f ∷ outer_fins S f) t (Contains-later (outer_at S f) (outer_fins S f) t old))
        (λ (taken : Contains (take (4 * i) tags) t). Contains-append_left (take (9 * length (outer_fins S f)) tags) (outer_at S f ∷ outer_fins S f) t
        (taken-within 0 (4 * i) (9 * length (outer_fins S f)) tags t (omega (arith, few)) taken))
        (r.fins t q))
        (Contains-cases (outer_at S f) (fins_at p.shape (outer_at S f)) t c))
