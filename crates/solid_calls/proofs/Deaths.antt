-- What dies with those that are killed: they themselves, and their attributes.
use Rattle.std.proofs.Common.{◌≡◌, ◌≢◌, ◌+◌, ⊎_elim, Bool, true, false, cond, ◌||◌, List, [], ◌∷◌, length, Option, Some, refl, sym, ap, subst, ◌∙◌, length-append, arith}
use Rattle.std.specs.Prelude.{T, ℤ, filter, map, option_map, Contains}
use Rattle.std.specs.Option.{option_map_or}
use Rattle.std.specs.List.{AllByRecursion, count_by, flat_map, sum_by}
use Rattle.std.specs.FinMap.{entries, get, get-entries, is_sorted, keys}
use Rattle.std.proofs.lemmas.Bool.{cases_Bool, true≢false, or_left, or_right}
use Rattle.std.proofs.lemmas.List.{length-map}
use Rattle.std.proofs.lemmas.List.Sums.{length-filter, sum_by-cons}
use Rattle.std.proofs.lemmas.Option.{same_Some}
use Rattle.pk_base.specs.Entity.{same_tag}
use Rattle.pk_base.specs.declared.tag.Tag.{Tag}
use Rattle.pk_base.specs.declared.entity.Entity.{Entity}
use Rattle.pk_base.specs.declared.entity.Entity.TheVariants as entity
use Rattle.pk_base.specs.declared.entity.Name.{Name}
use Rattle.pk_base.specs.declared.entity.Class.{Class}
use Rattle.pk_base.specs.declared.entity.Class.TheVariants as class
use Rattle.pk_model.specs.Apart.{NoRepeats}
use Rattle.pk_model.specs.Maps.{EntityMap, tag_cmp}
use Rattle.list_facts.proofs.Each.{ByRecursion-at}
use Rattle.entity_store.proofs.Live.{all_found}
use Rattle.solid_model.specs.Items.{Item, Shape, item_at, class_of_item}
use Rattle.solid_model.specs.Items.Item.{Body, Shell, Face, Loop, Fin, Edge, Vertex, Attr}
use Rattle.solid_model.specs.Deaths.{dies_with, is_attribute_of}
use Rattle.solid_model.specs.Rings.{is_among}
use Rattle.solid_model.specs.Room.{dying}
use Rattle.solid_model.specs.Shapes.{item_of, shape_of}
use Rattle.solid_model.specs.Sound.{IsSound, class_at}
use Rattle.solid_sound.proofs.shapes.Attributes.{no_attribute_of}
use Rattle.solid_sound.proofs.shapes.Bodies.{item_of_class}
use Rattle.solid_sound.proofs.shapes.Names.{NotAttr}
use Rattle.pk_base.proofs.Same.{differs_means, not_same, same_itself, same_means}
use Rattle.solid_model.proofs.lists.Neighbours.{is_among-in, not_among, one_if}
use Rattle.solid_model.proofs.Reading.{find-map}
use Rattle.solid_sound.proofs.rows.RowKeeps.{well-shape}
use Rattle.solid_sound.proofs.shapes.Sums.{Weight, weight_at, sum-alike, sum-but, sum-nothing}
use Rattle.list_facts.proofs.Elements.{Contains-filter, Contains-first, Contains-map}
use Rattle.solid_sound.proofs.shapes.Found.{item-among}
use Rattle.solid_calls.specs.Attributes.{attributes_on, is_attribute_on}

-- all of the owners' attributes
abbrev pub all_attributes : EntityMap → List Tag → List Tag
all_attributes m ts = flat_map (attributes_on m) ts

-- what the shape of a map has under a tag
pub item-mapped : (m : EntityMap) (t : Tag) → item_at (shape_of m) t ≡ option_map (item_of (entries m)) (get m t)
item-mapped m t = find-map (λ u e. item_of (entries m) e) t (entries m) ∙ ap (option_map (item_of (entries m))) (sym (get-entries m t))

-- ---- the attributes of one owner

-- whether it is an attribute of this owner
abbrev pub is_on : Tag → Item → Bool
is_on o (Attr owner name value) = same_tag owner o
is_on o (Body shell) = false
is_on o (Shell body q) = false
is_on o (Face shell outer) = false
is_on o (Loop face fins vertex) = false
is_on o (Fin mate edge vertex) = false
is_on o (Edge body) = false
is_on o (Vertex body point) = false

-- an entity is one where its item is
is_on-item : (o : Tag) (fs : List (Tag × Entity)) (e : Entity) → is_on o (item_of fs e) ≡ is_attribute_on o e
is_on-item o fs (entity.Attr owner name value) = refl
is_on-item o fs (entity.Body shell) = refl
is_on-item o fs (entity.Shell body q) = refl
is_on-item o fs (entity.Face shell outer) = refl
is_on-item o fs (entity.Loop face first vertex) = refl
is_on-item o fs (entity.Fin l next prev mate edge vertex) = refl
is_on-item o fs (entity.Edge body fin) = refl
is_on-item o fs (entity.Vertex body point) = refl

-- as the map has them, and as its shape has them
attributes_counted : (m : EntityMap) (o : Tag) (fs es : List (Tag × Entity)) → AllByRecursion (λ e. get m e.0 ≡ Some e.1) es
    → count_by (λ t. option_map_or (is_attribute_on o) (get m t) false) (map (λ e. e.0) es) ≡ sum_by (λ (x : Tag × Item). one_if (is_on o x.1)) (map (λ e. (e.0, item_of fs e.1)) es)
attributes_counted m o fs [] h = refl
attributes_counted m o fs (e ∷ es) h =
    let test : Tag → Bool = λ t. option_map_or (is_attribute_on o) (get m t) false in
    let here : one_if (test e.0) ≡ one_if (is_on o (item_of fs e.1)) = ap (λ (f : Option Entity). one_if (option_map_or (is_attribute_on o) f false)) h.0 ∙ ap one_if (sym (is_on-item o fs e.1)) in
    let rest = attributes_counted m o fs es h.1 in
    omega (
      arith,
      rest,
      sum_by-cons (λ t. one_if (test t)) e.0 (map (λ f. f.0) es),
      sum_by-cons (λ (x : Tag × Item). one_if (is_on o x.1)) (e.0, item_of fs e.1) (map (λ f. (f.0, item_of fs f.1)) es),
    )

length-attributes : (m : EntityMap) (o : Tag) → length (attributes_on m o) ≡ sum_by (λ (x : Tag × Item). one_if (is_on o x.1)) (shape_of m)
length-attributes m o = length-filter (λ t. option_map_or (is_attribute_on o) (get m t) false) (keys m) ∙ attributes_counted m o (entries m) (entries m) (all_found m)

-- ---- each item dies once

either : (a b : Bool) → (a ≡ true → b ≡ false) → one_if (a || b) ≡ one_if a + one_if b
either true b h = let e : one_if b ≡ 0 = ap one_if (h refl) in omega arith
either false b h = omega arith

or_nothing : (a b : Bool) → b ≡ false → (a || b) ≡ a
or_nothing true b h = refl
or_nothing false b h = h

same_turned : (t u : Tag) → same_tag t u ≡ same_tag u t
same_turned t u = ⊎_elim (λ (e : same_tag t u ≡ true). e ∙ sym (ap (λ v. same_tag u v) (same_means t u e) ∙ same_itself u))
    (λ (n : same_tag t u ≡ false). n ∙ sym (not_same u t (λ e. differs_means t u n (sym e))))
    (cases_Bool (same_tag t u))

-- a tag is the first of different ones, or one of the rest
among_once : (v t : Tag) (ts : List Tag) → NoRepeats (t ∷ ts) → one_if (is_among v (t ∷ ts)) ≡ one_if (same_tag v t) + one_if (is_among v ts)
among_once v t ts once =
    either (same_tag t v) (is_among v ts) (λ e. not_among v ts (λ k. ByRecursion-at (λ u. t ≢ u) ts v once.0 k (same_means t v e)))
    ∙ ap (λ b. one_if b + one_if (is_among v ts)) (same_turned t v)

-- each of these is live and no attribute
abbrev MayOwn : Shape → List Tag → Type 0
MayOwn S ts = AllByRecursion (λ t. (c : Class) × (class_at S t ≡ Some c) × (c ≢ class.Attr)) ts

no_attribute : (S : Shape) (ts : List Tag) (u owner : Tag) (name : Name) (value : ℤ) → MayOwn S ts → item_at S u ≡ Some (Attr owner name value) → is_among u ts ≡ false
no_attribute S ts u owner name value may is = not_among u ts (λ k.
    let c = ByRecursion-at (λ t. (c : Class) × (class_at S t ≡ Some c) × (c ≢ class.Attr)) ts u may k in
    c.2 (same_Some c.0 class.Attr (sym c.1 ∙ ap (option_map class_of_item) is)))

module _ (S : Shape) (t : Tag) (ts : List Tag) (once : NoRepeats (t ∷ ts)) (may : MayOwn S (t ∷ ts)) where
  abbrev DiesOnce : Tag → Item → Type 0
  DiesOnce u x = one_if (dies_with (t ∷ ts) (u, x)) ≡ one_if (same_tag u t) + one_if (is_on t x) + one_if (dies_with ts (u, x))

  plain : (u : Tag) (x : Item) → NotAttr (class_of_item x) → is_on t x ≡ false → DiesOnce u x
  plain u x other off =
      let now : one_if (dies_with (t ∷ ts) (u, x)) ≡ one_if (is_among u (t ∷ ts)) = ap one_if (or_nothing (is_among u (t ∷ ts)) (is_attribute_of (t ∷ ts) x) (no_attribute_of (t ∷ ts) x other)) in
      let rest : one_if (dies_with ts (u, x)) ≡ one_if (is_among u ts) = ap one_if (or_nothing (is_among u ts) (is_attribute_of ts x) (no_attribute_of ts x other)) in
      let none : one_if (is_on t x) ≡ 0 = ap one_if off in
      omega (arith, now, rest, none, among_once u t ts once)

  dies_once : (u : Tag) (x : Item) → item_at S u ≡ Some x → DiesOnce u x
  dies_once u (Attr owner name value) is =
      let now : one_if (dies_with (t ∷ ts) (u, Attr owner name value)) ≡ one_if (is_among owner (t ∷ ts)) = ap (λ b. one_if (b || is_among owner (t ∷ ts))) (no_attribute S (t ∷ ts) u owner name value may is) in
      let rest : one_if (dies_with ts (u, Attr owner name value)) ≡ one_if (is_among owner ts) = ap (λ b. one_if (b || is_among owner ts)) (no_attribute S ts u owner name value may.1 is) in
      let none : one_if (same_tag u t) ≡ 0 = ap one_if (not_same u t (λ e. true≢false (sym (is-among_first e) ∙ no_attribute S (t ∷ ts) u owner name value may is))) in
      omega (arith, now, rest, none, among_once owner t ts once)
    where
      is-among_first : u ≡ t → is_among u (t ∷ ts) ≡ true
      is-among_first e = is_among-in u (t ∷ ts) (subst (Contains (t ∷ ts)) (sym e) (Contains-first t ts))
  dies_once u (Body shell) is = plain u (Body shell) (λ e. cc) refl
  dies_once u (Shell body q) is = plain u (Shell body q) (λ e. cc) refl
  dies_once u (Face shell outer) is = plain u (Face shell outer) (λ e. cc) refl
  dies_once u (Loop face fins vertex) is = plain u (Loop face fins vertex) (λ e. cc) refl
  dies_once u (Fin mate edge vertex) is = plain u (Fin mate edge vertex) (λ e. cc) refl
  dies_once u (Edge body) is = plain u (Edge body) (λ e. cc) refl
  dies_once u (Vertex body point) is = plain u (Vertex body point) (λ e. cc) refl

-- ---- all that die

three_sums : (f g h : Weight) (S : Shape) → sum_by (λ x. f x + g x + h x) S ≡ sum_by f S + sum_by g S + sum_by h S
three_sums f g h [] = refl
three_sums f g h (x ∷ S) =
    omega (arith, three_sums f g h S, sum_by-cons (λ y. f y + g y + h y) x S, sum_by-cons f x S, sum_by-cons g x S, sum_by-cons h x S)

one_there : (S : Shape) (t : Tag) (c : Class) → T (is_sorted tag_cmp S) → class_at S t ≡ Some c → sum_by (λ (x : Tag × Item). one_if (same_tag x.0 t)) S ≡ 1
one_there S t c sorted is =
    let w : Weight = λ x. one_if (same_tag x.0 t) in
    let x = item_of_class (item_at S t) c is in
    let here : weight_at w S t ≡ 1 = ap (λ (o : Option Item). option_map_or (λ z. w (t, z)) o 0) x.1 ∙ ap one_if (same_itself t) in
    let others : sum_by (λ y. cond (same_tag y.0 t) 0 (w y)) S ≡ 0 = sum-nothing (λ y. cond (same_tag y.0 t) 0 (w y)) S sorted (λ u z e. elim (same_tag u t) as (λ b. cond b 0 (one_if b) ≡ 0) [ true ↦ refl | false ↦ refl ]) in
    omega (arith, here, others, sum-but w S t sorted)

none_dies : (x : Tag × Item) → one_if (dies_with [] x) ≡ 0
none_dies (t, Attr owner name value) = refl
none_dies (t, Body shell) = refl
none_dies (t, Shell body q) = refl
none_dies (t, Face shell outer) = refl
none_dies (t, Loop face fins vertex) = refl
none_dies (t, Fin mate edge vertex) = refl
none_dies (t, Edge body) = refl
none_dies (t, Vertex body point) = refl

pub length-dying : (m : EntityMap) (ts : List Tag) → IsSound m → NoRepeats ts → AllByRecursion (λ t. (c : Class) × (class_at (shape_of m) t ≡ Some c) × (c ≢ class.Attr)) ts → length (dying (shape_of m) ts) ≡ length ts + length (all_attributes m ts)
length-dying m [] sound once may =
    length-map {B = Tag} (filter (dies_with []) (shape_of m)) (λ x. x.0) ∙ length-filter (dies_with []) (shape_of m) ∙ sum-nothing (λ x. one_if (dies_with [] x)) (shape_of m) (well-shape m sound).written.ascends (λ t x e. none_dies (t, x))
length-dying m (t ∷ ts) sound once may =
    let S : Shape = shape_of m in
    let sorted = (well-shape m sound).written.ascends in
    let split : sum_by (λ x. one_if (dies_with (t ∷ ts) x)) S ≡ sum_by (λ (x : Tag × Item). one_if (same_tag x.0 t)) S + sum_by (λ (x : Tag × Item). one_if (is_on t x.1)) S + sum_by (λ x. one_if (dies_with ts x)) S =
    sum-alike (λ x. one_if (dies_with (t ∷ ts) x)) (λ x. one_if (same_tag x.0 t) + one_if (is_on t x.1) + one_if (dies_with ts x)) S sorted (λ u x e. dies_once S t ts once may u x e)
    ∙ three_sums (λ x. one_if (same_tag x.0 t)) (λ x. one_if (is_on t x.1)) (λ x. one_if (dies_with ts x)) S in
    let rest : length (dying S ts) ≡ length ts + length (all_attributes m ts) = length-dying m ts sound once.1 may.1 in
    omega (
      arith,
      split,
      rest,
      one_there S t may.0.0 sorted may.0.1,
      length-attributes m t,
      length-map {B = Tag} (filter (dies_with (t ∷ ts)) S) (λ x. x.0),
      length-filter (dies_with (t ∷ ts)) S,
      length-map {B = Tag} (filter (dies_with ts) S) (λ x. x.0),
      length-filter (dies_with ts) S,
      length-append (attributes_on m t) (all_attributes m ts),
    )

-- ---- what is among those that die

-- what is killed
pub dying-itself : (S : Shape) (ts : List Tag) (t : Tag) (x : Item) → item_at S t ≡ Some x → Contains ts t → Contains (dying S ts) t
dying-itself S ts t x is k =
    Contains-map (λ (y : Tag × Item). y.0) (filter (dies_with ts) S) (t, x)
    (Contains-filter (dies_with ts) S (t, x) (item-among S t x is) (or_left (is_among t ts) (is_attribute_of ts x) (is_among-in t ts k)))

-- an attribute of that
pub dying-attribute : (m : EntityMap) (ts : List Tag) (o t : Tag) (name : Name) (value : ℤ) → Contains ts o → get m t ≡ Some (entity.Attr o name value) → Contains (dying (shape_of m) ts) t
dying-attribute m ts o t name value k is =
    let S : Shape = shape_of m in
    let x : Item = Attr o name value in
    let there : item_at S t ≡ Some x = item-mapped m t ∙ ap (option_map (item_of (entries m))) is in
    Contains-map (λ (y : Tag × Item). y.0) (filter (dies_with ts) S) (t, x)
    (Contains-filter (dies_with ts) S (t, x) (item-among S t x there) (or_right (is_among t ts) (is_among o ts) (is_among-in o ts k)))
