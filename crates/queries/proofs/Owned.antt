-- What an entity owns, and what has no owner: in a sound map, and in its shape.
use Rattle.std.proofs.Common.{◌≡◌, ◌<◌, ◌≤◌, Bool, true, false, cond, List, [], ◌∷◌, length, Option, Some, None, refl, sym, ap, ◌∙◌, arith}
use Rattle.std.specs.Prelude.{T, map, filter, unwrap_or, IsPermutation}
use Rattle.std.specs.Option.{option_and_then}
use Rattle.std.specs.List.{AllByRecursion, cons_option, filter_map}
use Rattle.std.specs.FinMap.{get, entries, keys, is_sorted}
use Rattle.std.specs.FinMap.Entries.{below_all}
use Rattle.std.proofs.lemmas.List.Sorted.{length_permutation}
use Rattle.pk_base.specs.Blocks.{tag}
use Rattle.pk_base.specs.Entity.{owner_of, same_optional}
use Rattle.pk_base.specs.declared.tag.Tag.{Tag}
use Rattle.pk_base.specs.declared.entity.Class.TheVariants as class
use Rattle.pk_base.specs.declared.entity.Entity.{Entity}
use Rattle.pk_model.specs.Maps.{EntityMap, tag_cmp}
use Rattle.pk_model.specs.Tags.{Ascends, AreInRange, TagsAscend}
use Rattle.entity_store.specs.Kids.{kid_at, kids_of}
use Rattle.entity_store.specs.Store.{Stored, IsHosted}
use Rattle.list_facts.proofs.Each.{ByRecursion-filter, ByRecursion-map, ByRecursion-weaker}
use Rattle.list_facts.proofs.Lengths.{length-filter_map}
use Rattle.solid_model.specs.Items.{Item, Shape, item_at, class_of_item}
use Rattle.solid_model.specs.Items.Item.{Body, Shell, Face, Loop, Fin, Edge, Vertex, Attr}
use Rattle.solid_model.specs.Owners.{owner_of_item, same_class}
use Rattle.solid_model.specs.Links.{entity_of}
use Rattle.solid_model.specs.Shapes.{item_of, shape_of}
use Rattle.solid_model.specs.Sound.{IsSound}
use Rattle.solid_model.proofs.lists.Neighbours.{both_parts}
use Rattle.solid_sound.proofs.shapes.Bodies.{loop_with-some}
use Rattle.solid_sound.proofs.shapes.Reading.{each-found}
use Rattle.solid_sound.proofs.rows.RowKeeps.{IsWell, well-shape}
use Rattle.solid_calls.proofs.Represented.{below_all-less}
use Rattle.solid_calls.proofs.Sizes.{apart-ascending, few-live}
use Rattle.pk_model.proofs.Keys.{TagsAscend-keys, keys_contain}
use Rattle.solid_places.proofs.Read.{entity-of}
use Rattle.queries.proofs.Listed.{Kid, tags_of_kids}

-- ---- owners

owner-kept : (S : Shape) → IsWell S → (t : Tag) (x : Item) → item_at S t ≡ Some x → owner_of (entity_of S t x) ≡ owner_of_item S t x
owner-kept S well t (Body shell) h = refl
owner-kept S well t (Shell body q) h = refl
owner-kept S well t (Face shell outer) h = refl
owner-kept S well t (Loop face fins vertex) h = refl
owner-kept S well t (Edge body) h = refl
owner-kept S well t (Vertex body point) h = refl
owner-kept S well t (Attr owner name value) h = refl
owner-kept S well t (Fin mate edge vertex) h =
    let one = well.sound.placed t mate edge vertex h in
    let l = loop_with-some S t (omega arith) in
    ap Some (ap (λ (o : Option Item). unwrap_or (option_and_then (owner_of_item S t) o) (tag 0)) h ∙ ap (λ (o : Option Tag). unwrap_or o (tag 0)) l.1) ∙ sym l.1

abbrev has_owner : Shape → Option Tag → Tag × Item → Bool
has_owner S o x = same_optional (owner_of_item S x.0 x.1) o

-- what has this owner, or none
abbrev pub owned_by_any : Shape → Option Tag → List Tag
owned_by_any S o = map (λ x. x.0) (filter (has_owner S o) S)

kept_if : (b : Bool) (t : Tag) (e : Entity) (ks : List Kid) → tags_of_kids (cons_option (cond b (Some (t, e)) None) ks) ≡ cond b (t ∷ tags_of_kids ks) (tags_of_kids ks)
kept_if true t e ks = refl
kept_if false t e ks = refl

tags_if : (b : Bool) (x : Tag × Item) (xs : List (Tag × Item)) → map (λ (y : Tag × Item). y.0) (cond b (x ∷ xs) xs) ≡ cond b (x.0 ∷ map (λ (y : Tag × Item). y.0) xs) (map (λ (y : Tag × Item). y.0) xs)
tags_if true x xs = refl
tags_if false x xs = refl

kids-tags : (m : EntityMap) (s : IsSound m) (o : Option Tag) (xs : Shape) → AllByRecursion (λ (x : Tag × Item). item_at (shape_of m) x.0 ≡ Some x.1) xs
    → tags_of_kids (filter_map (λ t. kid_at o t (get m t)) (map (λ (x : Tag × Item). x.0) xs)) ≡ map (λ (x : Tag × Item). x.0) (filter (has_owner (shape_of m) o) xs)
kids-tags m s o [] all = refl
kids-tags m s o (x ∷ xs) all =
    let S = shape_of m in
    let e = entity_of S x.0 x.1 in
    let ks = filter_map (λ t. kid_at o t (get m t)) (map (λ (y : Tag × Item). y.0) xs) in
    ap (λ k. tags_of_kids (cons_option (kid_at o x.0 k) ks)) (entity-of m s x.0 x.1 all.0)
    ∙ kept_if (same_optional (owner_of e) o) x.0 e ks
    ∙ (λ i. cond (same_optional (owner-kept S (well-shape m s) x.0 x.1 all.0 i) o) (x.0 ∷ kids-tags m s o xs all.1 i) (kids-tags m s o xs all.1 i))
    ∙ sym (tags_if (has_owner S o x) x (filter (has_owner S o) xs))

same_tags : (es xs : List Kid) → map (λ (x : Kid). x.0) xs ≡ map (λ (x : Tag × Item). x.0) (map (λ (x : Kid). (x.0, item_of es x.1)) xs)
same_tags es [] = refl
same_tags es (x ∷ xs) = ap (λ ts. x.0 ∷ ts) (same_tags es xs)

pub kids-are : (m : EntityMap) → IsSound m → (o : Option Tag) → tags_of_kids (kids_of m o) ≡ owned_by_any (shape_of m) o
kids-are m s o =
    ap (λ ts. tags_of_kids (filter_map (λ t. kid_at o t (get m t)) ts)) (same_tags (entries m) (entries m))
    ∙ kids-tags m s o (shape_of m) (each-found (shape_of m) (well-shape m s).written.ascends)

-- ---- bodies have no owner

filter_same : {A : Type 0} (p q : A → Bool) (xs : List A) → AllByRecursion (λ x. p x ≡ q x) xs → filter p xs ≡ filter q xs
filter_same p q [] h = refl
filter_same p q (x ∷ xs) h = λ i. cond (h.0 i) (x ∷ filter_same p q xs h.1 i) (filter_same p q xs h.1 i)

abbrev is_body : Tag × Item → Bool
is_body x = same_class (class_of_item x.1) class.Body

body-alone : (S : Shape) → IsWell S → (t : Tag) (x : Item) → item_at S t ≡ Some x → has_owner S None (t, x) ≡ is_body (t, x)
body-alone S well t (Body shell) h = refl
body-alone S well t (Shell body q) h = refl
body-alone S well t (Face shell outer) h = refl
body-alone S well t (Loop face fins vertex) h = refl
body-alone S well t (Edge body) h = refl
body-alone S well t (Vertex body point) h = refl
body-alone S well t (Attr owner name value) h = refl
body-alone S well t (Fin mate edge vertex) h =
    let one = well.sound.placed t mate edge vertex h in
    let l = loop_with-some S t (omega arith) in
    ap (λ o. same_optional o None) l.1

pub bodies-are : (m : EntityMap) → IsSound m → tags_of_kids (kids_of m None) ≡ map (λ x. x.0) (filter (λ x. same_class (class_of_item x.1) class.Body) (shape_of m))
bodies-are m s =
    let S = shape_of m in
    let well = well-shape m s in
    kids-are m s None
    ∙ ap (map (λ (x : Tag × Item). x.0)) (filter_same (has_owner S None) is_body S
    (ByRecursion-weaker (λ (x : Tag × Item). item_at S x.0 ≡ Some x.1) (λ x. has_owner S None x ≡ is_body x) (λ x e. body-alone S well x.0 x.1 e) S (each-found S well.written.ascends)))

-- ---- they ascend

above_all : (t : Tag) (p : Tag × Item → Bool) (S : Shape) → AllByRecursion (λ (x : Tag × Item). t.0 < x.0.0) S → AllByRecursion (λ (u : Tag). t.0 < u.0) (map (λ (x : Tag × Item). x.0) (filter p S))
above_all t p S h =
    ByRecursion-map (λ (x : Tag × Item). t.0 < x.0.0) (λ (u : Tag). t.0 < u.0) (λ (x : Tag × Item). x.0) (λ x k. k) (filter p S) (ByRecursion-filter (λ (x : Tag × Item). t.0 < x.0.0) p S h)

pub filtered-ascend : (p : Tag × Item → Bool) (S : Shape) → T (is_sorted tag_cmp S) → TagsAscend (map (λ (x : Tag × Item). x.0) (filter p S))
filtered-ascend p [] h = tt
filtered-ascend p (x ∷ S) h =
    let both = both_parts (below_all tag_cmp x.0 S) (is_sorted tag_cmp S) h in
    elim (p x) as (λ b. TagsAscend (map (λ (y : Tag × Item). y.0) (cond b (x ∷ filter p S) (filter p S)))) [
      | true ↦ (above_all x.0 p S (below_all-less x.0 S both.0), filtered-ascend p S both.1)
      | false ↦ filtered-ascend p S both.1
    ]

-- ---- and are few

pub few-walked : (s : Stored) → Ascends s.blocks → AreInRange s.blocks → ((t : Tag) (e : Entity) → get s.map t ≡ Some e → IsHosted s.blocks t e) → (o : Option Tag) (walk : List Kid) → IsPermutation (kids_of s.map o) walk → length walk ≤ 16777152
few-walked s ascends range hosted o walk moved =
    omega (arith, length_permutation (kids_of s.map o) walk moved, length-filter_map (λ t. kid_at o t (get s.map t)) (keys s.map), few-live s ascends range hosted (keys s.map) (apart-ascending (keys s.map) (TagsAscend-keys s.map)) (λ t h. keys_contain s.map t h))
