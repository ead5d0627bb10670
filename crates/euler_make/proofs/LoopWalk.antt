-- A walk over the outer loop of a face, from its first fin.
use Rattle.std.proofs.Common.{◌≡◌, ℕ, zero, suc, ◌+◌, ◌-◌, ◌<◌, ◌≤◌, List, [], ◌∷◌, ◌++◌, length, take, drop, get_or, Option, Some, None, refl, sym, ap, subst, ◌∙◌, append-nil, arith}
use Rattle.std.specs.Prelude.{ℤ, Bool, true, false, is_some, find, map, option_map, unwrap_or, Contains}
use Rattle.std.specs.Option.{option_and_then, option_map_or, option_or}
use Rattle.std.specs.List.{flat_map}
use Rattle.std.proofs.Math.Seq.{take-add, take-length}
use Rattle.std.proofs.lemmas.List.Folds.{find-append}
use Rattle.std.proofs.lemmas.Grind.{flat_map-append}
use Rattle.pk_base.specs.declared.entity.Point.{Point}
use Rattle.pk_base.specs.declared.entity.Triple.{Triple}
use Rattle.pk_plane.specs.Turns.{moved}
use Rattle.solid_model.specs.Ranges.{coordinates_of}
use Rattle.std.specs.FinMap.{get}
use Rattle.std.proofs.lemmas.List.{drop_more, map-append, take-append-drop}
use Rattle.std.proofs.lemmas.List.Elements.{Contains-get_or}
use Rattle.pk_base.specs.Blocks.{tag}
use Rattle.pk_base.specs.declared.tag.Tag.{Tag}
use Rattle.pk_base.specs.declared.entity.Entity.{Entity}
use Rattle.pk_base.specs.declared.entity.Class.TheVariants as class
use Rattle.pk_model.specs.Apart.{NoRepeats}
use Rattle.pk_model.specs.Maps.{EntityMap}
use Rattle.solid_model.specs.Items.{Item, Shape, item_at, class_of_item}
use Rattle.solid_model.specs.Items.Item.{Loop, Fin}
use Rattle.solid_model.specs.Links.{entity_of}
use Rattle.solid_model.specs.Rings.{first_tag, next_in, written_from}
use Rattle.solid_model.specs.Owners.{fins_of, owner_in}
use Rattle.solid_model.specs.Places.{fins_at, outer_at, point_at, point_of_vertex, start_at, the_origin, vertex_of}
use Rattle.solid_model.specs.Shapes.{shape_of}
use Rattle.solid_model.specs.Sound.{IsSound, class_at}
use Rattle.solid_model.proofs.lists.Neighbours.{head_or}
use Rattle.pk_model.specs.Tags.{Ascends, AreInRange}
use Rattle.entity_store.specs.Store.{IsHosted, Stored}
use Rattle.list_facts.proofs.Elements.{Contains-first}
use Rattle.solid_model.proofs.lists.Cycles.{written-itself}
use Rattle.solid_calls.proofs.Sizes.{few-ring}
use Rattle.solid_places.proofs.RingPlaces.{fin-ring}
use Rattle.halfedge.specs.LinkedRings.{as_fin, next_at, ring_at}
use Rattle.solid_places.proofs.Around.{outer-is}
use Rattle.solid_places.proofs.Read.{entity-of}
use Rattle.std.proofs.Common.{⊎_elim}
use Rattle.std.proofs.Math.ListN.{drop_of_length-le}
use Rattle.std.proofs.lemmas.Bool.{cases_lt}
use Rattle.solid_places.specs.Points.{AreCoordinates}
use Rattle.solid_sound.proofs.shapes.Reading.{fin_in, fin_of_class, vertex_of_class, fins-once, loop-of_fin}
use Rattle.solid_sound.proofs.rows.KeptRings.{face_of_class}
use Rattle.solid_sound.proofs.rows.RowKeeps.{IsWell, well-shape}
use Rattle.euler_make.specs.Raising.{outer_fins}
use Rattle.euler_make.proofs.TurnedLists.{written-at}

-- the fin after the one at a place: the first one after the last
abbrev pub next_place : List Tag → ℕ → Tag
next_place fins i = head_or (get_or fins 0 (tag 0)) (drop (i + 1) fins)

head_of_more : (t : Tag) (xs ys : List Tag) → head_or t (xs ++ ys) ≡ head_or (head_or t ys) xs
head_of_more t [] ys = refl
head_of_more t (x ∷ xs) ys = refl

first_again : (fins : List Tag) (i : ℕ) → i < length fins → head_or (get_or fins i (tag 0)) (take i fins) ≡ get_or fins 0 (tag 0)
first_again [] i h = absurd (omega (arith, h))
first_again (x ∷ xs) zero h = refl
first_again (x ∷ xs) (suc i) h = refl

pub next-in_place : (fins : List Tag) (i : ℕ) → i < length fins → NoRepeats fins → next_in fins (get_or fins i (tag 0)) ≡ next_place fins i
next-in_place fins i less once =
    let f = get_or fins i (tag 0) in
    let is : fins ≡ take i fins ++ f ∷ drop (i + 1) fins = sym (take-append-drop i fins) ∙ ap (λ us. take i fins ++ us) (drop_more fins i (tag 0) less) in
    let round : written_from f fins ≡ (f ∷ drop (i + 1) fins) ++ take i fins = ap (written_from f) is ∙ written-at f (take i fins) (drop (i + 1) fins) (subst NoRepeats is once) in
    ap (λ us. unwrap_or (first_tag (drop 1 us)) f) round ∙ head_of_more f (drop (i + 1) fins) (take i fins) ∙ ap (λ t. head_or t (drop (i + 1) fins)) (first_again fins i less)

module _ (m : EntityMap) (s : IsSound m) (f : Tag) (face : class_at (shape_of m) f ≡ Some class.Face) where
  abbrev S : Shape
  S = shape_of m

  well : IsWell S
  well = well-shape m s

  the_loop : (list : List Tag) × (lone : Option Tag) × (item_at S (outer_at S f) ≡ Some (Loop f list lone))
  the_loop =
      let x = face_of_class (item_at S f) face in
      let l = well.sound.outer f x.0 x.1 x.2 in
      (l.0, l.1, ap (item_at S) (outer-is S f x.0 x.1 x.2) ∙ l.2)

  fins_are : outer_fins S f ≡ the_loop.0
  fins_are = ap (λ (o : Option Item). option_map_or fins_of o []) the_loop.2

  module _ (i : ℕ) (less : i < length (outer_fins S f)) where
    abbrev at : Tag
    at = get_or (outer_fins S f) i (tag 0)

    at_in : Contains the_loop.0 at
    at_in = subst (λ us. Contains us at) fins_are (Contains-get_or (outer_fins S f) i (tag 0) less)

    fin_is : (mate : Tag) × (edge : Tag) × (vertex : Tag) × (item_at S at ≡ Some (Fin mate edge vertex))
    fin_is = fin_in S well.written well.sound (outer_at S f) f the_loop.0 the_loop.1 the_loop.2 at at_in

    pub walk-fin : class_at S at ≡ Some class.Fin
    walk-fin = ap (option_map class_of_item) fin_is.3

    pub walk-next : next_at m at ≡ Some (next_place (outer_fins S f) i)
    walk-next =
        let owner = loop-of_fin S well.written well.sound (outer_at S f) f the_loop.0 the_loop.1 the_loop.2 at at_in in
        let once : NoRepeats (outer_fins S f) = subst NoRepeats (sym fins_are) (fins-once S well.written well.sound (outer_at S f) f the_loop.0 the_loop.1 the_loop.2) in
        ap (λ (o : Option Entity). option_map (λ x. x.next) (option_and_then as_fin o)) (entity-of m s at _ fin_is.3)
        ∙ ap Some (ap (λ k. next_in (fins_at S k) at) owner ∙ next-in_place (outer_fins S f) i less once)

    -- the fin after it is one too
    pub walk-next_fin : class_at S (next_place (outer_fins S f) i) ≡ Some class.Fin
    walk-next_fin = ⊎_elim {C = class_at S (next_place (outer_fins S f) i) ≡ Some class.Fin}
        (λ (h : i + 1 < length (outer_fins S f)). ap (λ us. class_at S (head_or (get_or (outer_fins S f) 0 (tag 0)) us)) (drop_more (outer_fins S f) (i + 1) (tag 0) h) ∙ fin_at_place (i + 1) h)
        (λ (h : length (outer_fins S f) ≤ i + 1). ap (λ us. class_at S (head_or (get_or (outer_fins S f) 0 (tag 0)) us)) (drop_of_length-le (outer_fins S f) h) ∙ fin_at_place 0 (omega (arith, less)))
        (cases_lt (i + 1) (length (outer_fins S f)))
      where
        fin_at_place : (j : ℕ) → j < length (outer_fins S f) → class_at S (get_or (outer_fins S f) j (tag 0)) ≡ Some class.Fin
        fin_at_place j h = ap (option_map class_of_item) (fin_in S well.written well.sound (outer_at S f) f the_loop.0 the_loop.1 the_loop.2 (get_or (outer_fins S f) j (tag 0))
            (subst (λ us. Contains us (get_or (outer_fins S f) j (tag 0))) fins_are (Contains-get_or (outer_fins S f) j (tag 0) h))).3

-- where a fin starts is in range
pub fin-point : (m : EntityMap) → IsSound m → (t : Tag) → class_at (shape_of m) t ≡ Some class.Fin → AreCoordinates (point_at (shape_of m) (start_at (shape_of m) t))
fin-point m s t h =
    let S = shape_of m in
    let well = well-shape m s in
    let x = fin_of_class (item_at S t) h in
    let v = vertex_of_class (item_at S x.2) (well.sound.names.kinds t _ x.3).2.0 in
    let start : start_at S t ≡ x.2 = ap (λ (o : Option Item). option_map_or vertex_of o (tag 0)) x.3 in
    let point : point_at S (start_at S t) ≡ v.1 = ap (point_at S) start ∙ ap (λ (o : Option Item). option_map_or point_of_vertex o the_origin) v.2 in
    subst AreCoordinates (sym point) (well.sound.measure.points x.2 v.0 v.1 v.2)

-- ---- where a walk stands

-- the fin is that at the place, where there is one
abbrev pub IsAt : List Tag → ℕ → Tag → Type 0
IsAt fins i fin = i < length fins → fin ≡ get_or fins i (tag 0)

pub at-first : (fins : List Tag) (fin : Tag) → first_tag fins ≡ Some fin → IsAt fins 0 fin
at-first [] fin is h = absurd (omega (arith, h))
at-first (x ∷ xs) fin is h = let same : x ≡ fin = cc in sym same

pub at-next : (fins : List Tag) (i : ℕ) (fin : Tag) → fin ≡ next_place fins i → IsAt fins (i + 1) fin
at-next fins i fin is h = is ∙ ap (head_or (get_or fins 0 (tag 0))) (drop_more fins (i + 1) (tag 0) h)

-- the points where these fins start
abbrev pub starts : Shape → List Tag → List Point
starts S fins = map (λ f. point_at S (start_at S f)) fins

-- ---- the first sum that is out of range

abbrev pub sums : Triple → List Point → List ℤ
sums by ps = flat_map (λ p. coordinates_of (moved by p)) ps

take_more : (fins : List Tag) (i : ℕ) → i < length fins → take (i + 1) fins ≡ take i fins ++ get_or fins i (tag 0) ∷ []
take_more fins i h = take-add i 1 fins ∙ ap (λ us. take i fins ++ take 1 us) (drop_more fins i (tag 0) h)

module _ (S : Shape) (by : Triple) (fins : List Tag) (test : ℤ → Bool) where
  -- the sums of the first places, where none of those before passes the test
  passed : (i : ℕ) (rest : List Tag) → find test (sums by (starts S (take i fins))) ≡ None → find test (sums by (starts S (take i fins ++ rest))) ≡ find test (sums by (starts S rest))
  passed i rest none =
      ap (λ ps. find test (sums by ps)) (map-append (λ f. point_at S (start_at S f)) (take i fins) rest)
      ∙ ap (find test) (flat_map-append (λ p. coordinates_of (moved by p)) (starts S (take i fins)) (starts S rest))
      ∙ find-append test (sums by (starts S (take i fins))) (sums by (starts S rest)) ∙ ap (λ o. option_or o (find test (sums by (starts S rest)))) none

  one_or_more : (fin : Tag) (rest : List Tag) (v : ℤ) → find test (coordinates_of (moved by (point_at S (start_at S fin)))) ≡ Some v → find test (sums by (starts S (fin ∷ rest))) ≡ Some v
  one_or_more fin rest v is =
      find-append test (coordinates_of (moved by (point_at S (start_at S fin)))) (sums by (starts S rest)) ∙ ap (λ o. option_or o (find test (sums by (starts S rest)))) is

  pub none-more : (i : ℕ) (fin : Tag) → i < length fins → fin ≡ get_or fins i (tag 0) → find test (sums by (starts S (take i fins))) ≡ None → find test (coordinates_of (moved by (point_at S (start_at S fin)))) ≡ None
      → find test (sums by (starts S (take (i + 1) fins))) ≡ None
  none-more i fin less is before none =
      ap (λ us. find test (sums by (starts S us))) (take_more fins i less ∙ ap (λ t. take i fins ++ t ∷ []) (sym is)) ∙ passed i (fin ∷ []) before
      ∙ find-append test (coordinates_of (moved by (point_at S (start_at S fin)))) [] ∙ ap (λ o. option_or o None) none

  pub one-found : (i : ℕ) (fin : Tag) (v : ℤ) → i < length fins → fin ≡ get_or fins i (tag 0) → find test (sums by (starts S (take i fins))) ≡ None → find test (coordinates_of (moved by (point_at S (start_at S fin)))) ≡ Some v
      → find test (sums by (starts S fins)) ≡ Some v
  one-found i fin v less is before here =
      let whole : fins ≡ take i fins ++ fin ∷ drop (i + 1) fins = sym (take-append-drop i fins) ∙ ap (λ us. take i fins ++ us) (drop_more fins i (tag 0) less) ∙ ap (λ t. take i fins ++ t ∷ drop (i + 1) fins) (sym is) in
      ap (λ us. find test (sums by (starts S us))) whole ∙ passed i (fin ∷ drop (i + 1) fins) before ∙ one_or_more fin (drop (i + 1) fins) v here

  pub none-at_all : (i : ℕ) → i ≡ length fins → find test (sums by (starts S (take i fins))) ≡ None → find test (sums by (starts S fins)) ≡ None
  none-at_all i is none = ap (λ us. find test (sums by (starts S us))) (sym (take-length fins) ∙ ap (λ n. take n fins) (sym is)) ∙ none

pub none-by : (o : Option ℤ) → is_some o ≡ false → o ≡ None
none-by None h = refl
none-by (Some v) h = absurd (cc)

pub some-by : (o : Option ℤ) → is_some o ≡ true → (v : ℤ) × (o ≡ Some v)
some-by None h = absurd (cc)
some-by (Some v) h = (v, refl)

-- ---- how many fins there are

-- no loop has more fins than a store has tags
pub few-fins : (st : Stored) → Ascends st.blocks → AreInRange st.blocks → ((t : Tag) (e : Entity) → get st.map t ≡ Some e → IsHosted st.blocks t e) → (s : IsSound st.map) (f : Tag) → class_at (shape_of st.map) f ≡ Some class.Face
    → length (outer_fins (shape_of st.map) f) ≤ 16777152
few-fins st ascending range hosted s f face =
    let loop_is = the_loop st.map s f face in
    let same = ap length (fins_are st.map s f face) in
    let few = few_list loop_is.0 loop_is.1 loop_is.2 in
    omega (arith, same, few)
  where
    few_list : (fins : List Tag) (single : Option Tag) → item_at (shape_of st.map) (outer_at (shape_of st.map) f) ≡ Some (Loop f fins single) → length fins ≤ 16777152
    few_list [] o is = omega arith
    few_list (x ∷ xs) o is =
        let well = well-shape st.map s in
        let l = outer_at (shape_of st.map) f in
        let among = Contains-first x xs in
        let fin = fin_in (shape_of st.map) well.written well.sound l f (x ∷ xs) o is x among in
        let ring = fin-ring st.map s x fin.0 fin.1 fin.2 fin.3 in
        let owner = loop-of_fin (shape_of st.map) well.written well.sound l f (x ∷ xs) o is x among in
        let all : ring_at st.map x ≡ x ∷ xs = ring.0 ∙ ap (λ k. written_from x (fins_at (shape_of st.map) k)) owner ∙ ap (λ (o : Option Item). written_from x (option_map_or fins_of o [])) is ∙ written-itself x xs in
        let few = few-ring st ascending range hosted (ring_at st.map x) ring.1.ring in
        let long = ap length all in
        omega (arith, few, long)
