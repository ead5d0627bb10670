-- A loop's list is read again from its entities.
use Rattle.std.proofs.Common.{◌≡◌, ◌≢◌, ℕ, ◌+◌, ◌≤◌, ⊎_elim, true, false, cond, List, [], ◌∷◌, length, Option, Some, None, refl, sym, ap, subst, ◌∙◌, arith}
use Rattle.std.specs.Prelude.{T, map, find, is_some, IsSome, unwrap_or, option_map, Contains}
use Rattle.std.specs.Option.{option_and_then, option_map_or}
use Rattle.std.specs.List.{AllByRecursion, sum_by}
use Rattle.std.specs.Ordering.{eq_by_cmp, is_lt}
use Rattle.std.specs.declared.cmp.Ordering.{Ordering}
use Rattle.std.specs.FinMap.{is_sorted}
use Rattle.std.specs.FinMap.Entries.{where_key, below_all, length_without, find-where_key, is_sorted-where_key}
use Rattle.std.specs.FinMap.Entries as entries
use Rattle.std.proofs.lemmas.Bool.{cases_Bool}
use Rattle.std.proofs.lemmas.Cmp.{tied_itself}
use Rattle.std.proofs.lemmas.List.{length-map}
use Rattle.std.proofs.lemmas.Option.{same_Some}
use Rattle.std.proofs.lemmas.List.Sums.{sum_by-cons}
use Rattle.pk_base.specs.Blocks.{tag}
use Rattle.pk_base.specs.declared.tag.Tag.{Tag}
use Rattle.pk_base.specs.declared.entity.Entity.{Entity}
use Rattle.pk_base.specs.declared.entity.Point.{Point}
use Rattle.pk_base.specs.declared.entity.Class.TheVariants as class
use Rattle.pk_model.specs.Apart.{NoRepeats}
use Rattle.pk_model.specs.Maps.{tag_cmp}
use Rattle.pk_model.proofs.TagLists.{tag_total, ties_itself, ties_no_other, same_from_tie}
use Rattle.solid_model.specs.Items.{Item, Shape, item_at, class_of_item}
use Rattle.solid_model.specs.Items.Item.{Body, Shell, Face, Loop, Fin, Edge, Vertex, Attr}
use Rattle.solid_model.specs.Rings.{is_among, first_tag, next_in}
use Rattle.solid_model.specs.Owners.{fins_of, loop_with, owner_of_item, owner_in}
use Rattle.solid_model.specs.Places.{fins_at}
use Rattle.solid_model.specs.Links.{entities_of, entity_of, links}
use Rattle.solid_model.specs.Shapes.{next_of, next_among, fins_read, item_of, shape_of}
use Rattle.solid_model.specs.Sound.{IsWritten, IsSoundShape, times_in_loops, class_at}
use Rattle.solid_model.proofs.Written.{shape_of-links}
use Rattle.solid_model.proofs.Reading.{find-map, list-read, no_more_than_items}
use Rattle.list_facts.proofs.Each.{ByRecursion-contains, ByRecursion-at}
use Rattle.solid_model.proofs.lists.Neighbours.{both_parts, is_among-in, not_among, times, times-in, once-times}

-- ---- what is found

pub entity-found : (S : Shape) (t : Tag) → entries.find tag_cmp t (entities_of S) ≡ option_map (entity_of S t) (item_at S t)
entity-found S t = find-map (entity_of S) t S

pub found-le : (h : Item → ℕ) (S : Shape) (t : Tag) (x : Item) → item_at S t ≡ Some x → h x ≤ sum_by (λ y. h y.1) S
found-le h [] t x e = absurd (cc)
found-le h (y ∷ S) t x e =
    let sum : sum_by (λ (z : Tag × Item). h z.1) (y ∷ S) ≡ h y.1 + sum_by (λ (z : Tag × Item). h z.1) S = sum_by-cons (λ (z : Tag × Item). h z.1) y S in
    ⊎_elim (λ (l : eq_by_cmp tag_cmp t y.0 ≡ true).
    let here : h y.1 ≡ h x = ap h (same_Some y.1 x (sym (ap (λ b. cond b (Some y.1) (item_at S t)) l) ∙ e)) in
    omega arith)
    (λ (r : eq_by_cmp tag_cmp t y.0 ≡ false).
    let there : h x ≤ sum_by (λ (z : Tag × Item). h z.1) S = found-le h S t x (sym (ap (λ b. cond b (Some y.1) (item_at S t)) r) ∙ e) in
    omega arith)
    (cases_Bool (eq_by_cmp tag_cmp t y.0))

-- a fin that stands in the loops once stands in the loop that is found
pub loop_with-is : (S : Shape) (f l : Tag) (x : Item) → item_at S l ≡ Some x → Contains (fins_of x) f → times_in_loops S f ≡ 1 → loop_with S f ≡ Some l
loop_with-is [] f l x e k once = absurd (cc)
loop_with-is (y ∷ S) f l x e k once =
    let sum : times_in_loops (y ∷ S) f ≡ times f (fins_of y.1) + times_in_loops S f = sum_by-cons (λ (z : Tag × Item). times f (fins_of z.1)) y S in
    ⊎_elim (λ (t : eq_by_cmp tag_cmp l y.0 ≡ true).
    let here : y.1 ≡ x = same_Some y.1 x (sym (ap (λ b. cond b (Some y.1) (item_at S l)) t) ∙ e) in
    let among : is_among f (fins_of y.1) ≡ true = is_among-in f (fins_of y.1) (subst (λ (i : Item). Contains (fins_of i) f) (sym here) k) in
    ap (λ b. option_map (λ (z : Tag × Item). z.0) (cond b (Some y) (find (λ (z : Tag × Item). is_among f (fins_of z.1)) S))) among
    ∙ ap Some (sym (same_from_tie l y.0 t)))
    (λ (r : eq_by_cmp tag_cmp l y.0 ≡ false).
    let there : item_at S l ≡ Some x = sym (ap (λ b. cond b (Some y.1) (item_at S l)) r) ∙ e in
    let more : times f (fins_of x) ≤ times_in_loops S f = found-le (λ (i : Item). times f (fins_of i)) S l x there in
    let some : 1 ≤ times f (fins_of x) = times-in f (fins_of x) k in
    let none : is_among f (fins_of y.1) ≡ false = not_among f (fins_of y.1) (λ c. let one = times-in f (fins_of y.1) c in omega arith) in
    ap (λ b. option_map (λ (z : Tag × Item). z.0) (cond b (Some y) (find (λ (z : Tag × Item). is_among f (fins_of z.1)) S))) none
    ∙ loop_with-is S f l x there k (omega arith))
    (cases_Bool (eq_by_cmp tag_cmp l y.0))

-- ---- each item is found under its tag

pub below_all-differs : (t : Tag) (S : Shape) → T (below_all tag_cmp t S) → AllByRecursion (λ (x : Tag × Item). t ≢ x.0) S
below_all-differs t [] h = tt
below_all-differs t (x ∷ S) h =
    let both = both_parts (is_lt (tag_cmp t x.0)) (below_all tag_cmp t S) h in
    (λ e. subst (λ (o : Ordering). T (is_lt o)) (ap (tag_cmp t) (sym e) ∙ tied_itself tag_total t) both.0, below_all-differs t S both.1)

pub each-found : (S : Shape) → T (is_sorted tag_cmp S) → AllByRecursion (λ (x : Tag × Item). item_at S x.0 ≡ Some x.1) S
each-found [] h = tt
each-found (y ∷ S) h =
    let both = both_parts (below_all tag_cmp y.0 S) (is_sorted tag_cmp S) h in (
      ap (λ b. cond b (Some y.1) (item_at S y.0)) (ties_itself y.0),
      found_later y S S (below_all-differs y.0 S both.0) (each-found S both.1),
    )
  where
    found_later : (y : Tag × Item) (S xs : Shape) → AllByRecursion (λ (x : Tag × Item). y.0 ≢ x.0) xs → AllByRecursion (λ (x : Tag × Item). item_at S x.0 ≡ Some x.1) xs
        → AllByRecursion (λ (x : Tag × Item). item_at (y ∷ S) x.0 ≡ Some x.1) xs
    found_later y S [] d f = tt
    found_later y S (x ∷ xs) d f = (ap (λ b. cond b (Some y.1) (item_at S x.0)) (ties_no_other x.0 y.0 (λ e. d.0 (sym e))) ∙ f.0, found_later y S xs d.1 f.1)

-- ---- the shape of a sound map

pub fin_of_class : (o : Option Item) → option_map class_of_item o ≡ Some class.Fin → (mate : Tag) × (edge : Tag) × (vertex : Tag) × (o ≡ Some (Fin mate edge vertex))
fin_of_class None h = absurd (cc)
fin_of_class (Some (Fin mate edge vertex)) h = (mate, edge, vertex, refl)
fin_of_class (Some (Body shell)) h = absurd (cc)
fin_of_class (Some (Shell body q)) h = absurd (cc)
fin_of_class (Some (Face shell outer)) h = absurd (cc)
fin_of_class (Some (Loop face fins vertex)) h = absurd (cc)
fin_of_class (Some (Edge body)) h = absurd (cc)
fin_of_class (Some (Vertex body point)) h = absurd (cc)
fin_of_class (Some (Attr owner name value)) h = absurd (cc)

pub vertex_of_class : (o : Option Item) → option_map class_of_item o ≡ Some class.Vertex → (body : Tag) × (point : Point) × (o ≡ Some (Vertex body point))
vertex_of_class None h = absurd (cc)
vertex_of_class (Some (Vertex body point)) h = (body, point, refl)
vertex_of_class (Some (Body shell)) h = absurd (cc)
vertex_of_class (Some (Shell body q)) h = absurd (cc)
vertex_of_class (Some (Face shell outer)) h = absurd (cc)
vertex_of_class (Some (Loop face fins vertex)) h = absurd (cc)
vertex_of_class (Some (Fin mate edge vertex)) h = absurd (cc)
vertex_of_class (Some (Edge body)) h = absurd (cc)
vertex_of_class (Some (Attr owner name value)) h = absurd (cc)

module _ (S : Shape) (written : IsWritten S) (sound : IsSoundShape S) where
  module _ (l face : Tag) (fins : List Tag) (vertex : Option Tag) (is : item_at S l ≡ Some (Loop face fins vertex)) where
    -- each fin of a loop is a fin
    pub fin_in : (f : Tag) → Contains fins f → (mate : Tag) × (edge : Tag) × (start : Tag) × (item_at S f ≡ Some (Fin mate edge start))
    fin_in f k = fin_of_class (item_at S f) (ByRecursion-at (λ t. class_at S t ≡ Some class.Fin) fins f (sound.names.kinds l (Loop face fins vertex) is).1 k)

    fin_once : (f : Tag) → Contains fins f → times_in_loops S f ≡ 1
    fin_once f k = let x = fin_in f k in sound.placed f x.0 x.1 x.2 x.3

    pub fins-once : NoRepeats fins
    fins-once = once-times fins (λ f k.
        let one : times_in_loops S f ≡ 1 = fin_once f k in
        let le : times f fins ≤ times_in_loops S f = found-le (λ (i : Item). times f (fins_of i)) S l (Loop face fins vertex) is in
        omega arith)

    pub loop-of_fin : (f : Tag) → Contains fins f → owner_in S f ≡ l
    loop-of_fin f k =
        let x = fin_in f k in
        ap (λ (o : Option Item). unwrap_or (option_and_then (owner_of_item S f) o) (tag 0)) x.3
        ∙ ap (λ (o : Option Tag). unwrap_or o (tag 0)) (loop_with-is S f l (Loop face fins vertex) is k (fin_once f k))

    next_read : (f : Tag) → Contains fins f → next_among (entities_of S) f ≡ next_in fins f
    next_read f k =
        let x = fin_in f k in
        ap (λ (o : Option Entity). option_map_or next_of o (tag 0)) (entity-found S f ∙ ap (option_map (entity_of S f)) x.3)
        ∙ ap (λ (t : Tag). next_in (fins_at S t) f) (loop-of_fin f k)
        ∙ ap (λ (o : Option Item). next_in (option_map_or fins_of o []) f) is

    live_fins : AllByRecursion (λ t. IsSome (item_at S t)) fins
    live_fins = ByRecursion-contains _ fins (λ f k. ap is_some (fin_in f k).3)

    pub loop_read : fins_read (entities_of S) (first_tag fins) ≡ fins
    loop_read = list-read (length (entities_of S)) (entities_of S) fins refl fins-once
        (let n : length (entities_of S) ≡ length S = length-map S _ in omega (arith, no_more_than_items fins S written.ascends fins-once live_fins))
        next_read

  item_read : (t : Tag) (x : Item) → item_at S t ≡ Some x → item_of (entities_of S) (entity_of S t x) ≡ x
  item_read t (Body shell) e = refl
  item_read t (Shell body q) e = refl
  item_read t (Face shell outer) e = refl
  item_read t (Loop face fins vertex) e = ap (λ (fs : List Tag). Loop face fs vertex) (loop_read t face fins vertex e)
  item_read t (Fin mate edge vertex) e = refl
  item_read t (Edge body) e = refl
  item_read t (Vertex body point) e = refl
  item_read t (Attr owner name value) e = refl

  items_read : (xs : Shape) → AllByRecursion (λ (x : Tag × Item). item_at S x.0 ≡ Some x.1) xs
      → map (λ (x : Tag × Entity). (x.0, item_of (entities_of S) x.1)) (map (λ (x : Tag × Item). (x.0, entity_of S x.0 x.1)) xs) ≡ xs
  items_read [] h = refl
  items_read (x ∷ xs) h = λ i. (x.0, item_read x.0 x.1 h.0 i) ∷ items_read xs h.1 i

  -- the shape is read again from the map that it stands for
  pub shape_read : shape_of (links S) ≡ S
  shape_read = shape_of-links S written.ascends ∙ items_read S (each-found S written.ascends)
