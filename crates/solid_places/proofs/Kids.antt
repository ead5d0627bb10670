-- The kids of an entity in a sound map, and the parts that the shape has of it.
use Rattle.std.proofs.Common.{◌≡◌, ◌≢◌, ℕ, zero, suc, ◌+◌, ◌≤◌, zero-add, ⊎_elim, Bool, true, false, cond, List, [], ◌∷◌, length, Option, Some, None, refl, sym, ap, ◌∙◌, arith}
use Rattle.std.specs.Prelude.{nat_lt, ◌&&◌, map, filter, unwrap_or, if◌then◌else◌, IsPermutation}
use Rattle.std.specs.Option.{option_and_then}
use Rattle.std.specs.List.{AllByRecursion, count_by, cons_option, filter_map}
use Rattle.std.specs.FinMap.{get, entries}
use Rattle.std.proofs.lemmas.Bool.{cases_Bool, eqb-true, le-ltb, lt-ltb}
use Rattle.std.proofs.lemmas.List.Sorted.{sum_by-IsPermutation}
use Rattle.std.proofs.lemmas.List.Sums.{length-filter, sum_by-cons}
use Rattle.pk_base.specs.Blocks.{tag}
use Rattle.pk_base.specs.Entity.{class_of, owner_of, same_optional}
use Rattle.pk_base.specs.declared.tag.Tag.{Tag}
use Rattle.pk_base.specs.declared.entity.Class.{Class}
use Rattle.pk_base.specs.declared.entity.Class.TheVariants as class
use Rattle.pk_base.specs.declared.entity.Entity.{Entity}
use Rattle.pk_model.specs.Maps.{EntityMap}
use Rattle.entity_store.specs.Kids.{kid_at, kids_of}
use Rattle.solid_model.specs.Items.{Item, Shape, item_at, class_of_item}
use Rattle.solid_model.specs.Items.Item.{Body, Shell, Face, Loop, Fin, Edge, Vertex, Attr}
use Rattle.solid_model.specs.Owners.{owner_of_item, number_of_class, same_class, parts_of_class}
use Rattle.solid_model.specs.Links.{entity_of}
use Rattle.solid_model.specs.Shapes.{item_of, shape_of}
use Rattle.solid_model.specs.Sound.{IsSound}
use Rattle.solid_sound.proofs.shapes.Bodies.{loop_with-some}
use Rattle.solid_sound.proofs.shapes.Reading.{each-found}
use Rattle.solid_sound.proofs.rows.RowKeeps.{IsWell, well-shape}
use Rattle.solid_places.proofs.Read.{entity-of}

-- ---- one of them

class-kept : (S : Shape) (t : Tag) (x : Item) → class_of (entity_of S t x) ≡ class_of_item x
class-kept S t (Body shell) = refl
class-kept S t (Shell body q) = refl
class-kept S t (Face shell outer) = refl
class-kept S t (Loop face fins vertex) = refl
class-kept S t (Fin mate edge vertex) = refl
class-kept S t (Edge body) = refl
class-kept S t (Vertex body point) = refl
class-kept S t (Attr owner name value) = refl

owner-kept : (S : Shape) → IsWell S → (t : Tag) (x : Item) → item_at S t ≡ Some x → owner_of (entity_of S t x) ≡ owner_of_item S t x
owner-kept S well t (Body shell) h = refl
owner-kept S well t (Shell body q) h = refl
owner-kept S well t (Face shell outer) h = refl
owner-kept S well t (Loop face fins vertex) h = refl
owner-kept S well t (Edge body) h = refl
owner-kept S well t (Vertex body point) h = refl
owner-kept S well t (Attr owner name value) h = refl
owner-kept S well t (Fin mate edge vertex) h =
    let one = well.sound.placed t mate edge vertex h in
    let l = loop_with-some S t (omega arith) in
    ap Some (ap (λ (o : Option Item). unwrap_or (option_and_then (owner_of_item S t) o) (tag 0)) h ∙ ap (λ (o : Option Tag). unwrap_or o (tag 0)) l.1) ∙ sym l.1

-- ---- classes

pub same_class-itself : (c : Class) → same_class c c ≡ true
same_class-itself class.Body = refl
same_class-itself class.Shell = refl
same_class-itself class.Face = refl
same_class-itself class.Loop = refl
same_class-itself class.Fin = refl
same_class-itself class.Edge = refl
same_class-itself class.Vertex = refl
same_class-itself class.Attr = refl

-- the class of the number
numbered : ℕ → Class
numbered zero = class.Body
numbered (suc zero) = class.Body
numbered (suc (suc zero)) = class.Shell
numbered (suc (suc (suc zero))) = class.Face
numbered (suc (suc (suc (suc zero)))) = class.Loop
numbered (suc (suc (suc (suc (suc zero))))) = class.Fin
numbered (suc (suc (suc (suc (suc (suc zero)))))) = class.Edge
numbered (suc (suc (suc (suc (suc (suc (suc zero))))))) = class.Vertex
numbered (suc (suc (suc (suc (suc (suc (suc (suc n)))))))) = class.Attr

numbered-class : (c : Class) → numbered (number_of_class c) ≡ c
unfolding numbered
numbered-class class.Body = refl
numbered-class class.Shell = refl
numbered-class class.Face = refl
numbered-class class.Loop = refl
numbered-class class.Fin = refl
numbered-class class.Edge = refl
numbered-class class.Vertex = refl
numbered-class class.Attr = refl

other_class : (a b : Class) → a ≢ b → same_class a b ≡ false
other_class a b other = ⊎_elim
    (λ (t : same_class a b ≡ true). absurd (other (sym (numbered-class a) ∙ ap numbered (eqb-true _ _ t) ∙ numbered-class b)))
    (λ (r : same_class a b ≡ false). r)
    (cases_Bool (same_class a b))

-- ---- all of them

-- whether the kid is of the class
abbrev is_of_class : Class → Tag × Entity → Bool
is_of_class c k = same_class (class_of k.1) c

-- whether the item is of the class and has this owner
abbrev is_part_of : Shape → Class → Tag → Tag × Item → Bool
is_part_of S c o x = same_class (class_of_item x.1) c && same_optional (owner_of_item S x.0 x.1) (Some o)

counted_if : (p : Tag × Entity → Bool) (b : Bool) (k : Tag × Entity) (ks : List (Tag × Entity)) → count_by p (cons_option (if b then Some k else None) ks) ≡ cond (p k && b) 1 0 + count_by p ks
counted_if p true k ks = sum_by-cons (λ j. cond (p j) 1 0) k ks ∙ ap (λ a. cond a 1 0 + count_by p ks) (both_true (p k))
  where
    both_true : (a : Bool) → a ≡ a && true
    both_true true = refl
    both_true false = refl
counted_if p false k ks = sym (zero-add (count_by p ks)) ∙ ap (λ a. cond a 1 0 + count_by p ks) (both_false (p k))
  where
    both_false : (a : Bool) → false ≡ a && false
    both_false true = refl
    both_false false = refl

kids-among : (m : EntityMap) (s : IsSound m) (c : Class) (o : Tag) (xs : Shape) → AllByRecursion (λ (x : Tag × Item). item_at (shape_of m) x.0 ≡ Some x.1) xs
    → count_by (is_of_class c) (filter_map (λ t. kid_at (Some o) t (get m t)) (map (λ x. x.0) xs)) ≡ count_by (is_part_of (shape_of m) c o) xs
kids-among m s c o [] all = refl
kids-among m s c o (x ∷ xs) all =
    let S = shape_of m in
    let e = entity_of S x.0 x.1 in
    let ks = filter_map (λ t. kid_at (Some o) t (get m t)) (map (λ (y : Tag × Item). y.0) xs) in
    ap (λ k. count_by (is_of_class c) (cons_option (kid_at (Some o) x.0 k) ks)) (entity-of m s x.0 x.1 all.0)
    ∙ counted_if (is_of_class c) (same_optional (owner_of e) (Some o)) (x.0, e) ks
    ∙ (λ i. cond (same_class (class-kept S x.0 x.1 i) c && same_optional (owner-kept S (well-shape m s) x.0 x.1 all.0 i) (Some o)) 1 0 + kids-among m s c o xs all.1 i)
    ∙ sym (sum_by-cons (λ y. cond (is_part_of S c o y) 1 0) x xs)

same_tags : (es : List (Tag × Entity)) (xs : List (Tag × Entity)) → map (λ (x : Tag × Entity). x.0) xs ≡ map (λ (x : Tag × Item). x.0) (map (λ (x : Tag × Entity). (x.0, item_of es x.1)) xs)
same_tags es [] = refl
same_tags es (x ∷ xs) = ap (λ ts. x.0 ∷ ts) (same_tags es xs)

-- the kids of a class are as many as the parts of that class
pub kids-counted : (m : EntityMap) → IsSound m → (c : Class) (o : Tag) → count_by (λ (k : Tag × Entity). same_class (class_of k.1) c) (kids_of m (Some o)) ≡ length (parts_of_class c (shape_of m) o)
kids-counted m s c o =
    ap (λ ts. count_by (is_of_class c) (filter_map (λ t. kid_at (Some o) t (get m t)) ts)) (same_tags (entries m) (entries m))
    ∙ kids-among m s c o (shape_of m) (each-found (shape_of m) (well-shape m s).written.ascends)
    ∙ sym (length-filter (is_part_of (shape_of m) c o) (shape_of m))
    ∙ sym (length-tags (filter (is_part_of (shape_of m) c o) (shape_of m)))
  where
    length-tags : (xs : Shape) → length (map (λ (x : Tag × Item). x.0) xs) ≡ length xs
    length-tags [] = refl
    length-tags (x ∷ xs) = ap (λ n. suc n) (length-tags xs)

-- ---- a walk that counts

-- the kids of the class that were counted and those that are left are all
pub record Walk (c : Class) (all : List (Tag × Entity)) (count : ℕ) (left : List (Tag × Entity)) : Type 0 where
  pub sum : count + count_by (λ (k : Tag × Entity). same_class (class_of k.1) c) left ≡ count_by (λ (k : Tag × Entity). same_class (class_of k.1) c) all

pub walk-begins : (c : Class) (all left : List (Tag × Entity)) → IsPermutation all left → Walk c all 0 left
walk-begins c all left h =
    record { sum = zero-add (count_by (λ (k : Tag × Entity). same_class (class_of k.1) c) left) ∙ sum_by-IsPermutation (λ (k : Tag × Entity). cond (same_class (class_of k.1) c) 1 0) all left h }

pub walk-counts : (c : Class) (all left : List (Tag × Entity)) (k : Tag × Entity) (count : ℕ) → Walk c all count (k ∷ left) → class_of k.1 ≡ c → Walk c all (count + 1) left
walk-counts c all left k count w is =
    let one : ◌≡◌ {A = ℕ} (cond (same_class (class_of k.1) c) 1 0) 1 = ap (λ b. cond (same_class b c) 1 0) is ∙ ap (λ b. cond b 1 0) (same_class-itself c) in
    let step = sum_by-cons (λ (j : Tag × Entity). cond (same_class (class_of j.1) c) 1 0) k left in
    let sum = w.sum in
    record { sum = omega (arith, one, step, sum) }

pub walk-passes : (c : Class) (all left : List (Tag × Entity)) (k : Tag × Entity) (count : ℕ) → Walk c all count (k ∷ left) → class_of k.1 ≢ c → Walk c all count left
walk-passes c all left k count w other =
    let none : ◌≡◌ {A = ℕ} (cond (same_class (class_of k.1) c) 1 0) 0 = ap (λ b. cond b 1 0) (other_class (class_of k.1) c other) in
    let step = sum_by-cons (λ (j : Tag × Entity). cond (same_class (class_of j.1) c) 1 0) k left in
    let sum = w.sum in
    record { sum = omega (arith, none, step, sum) }

-- ---- a walk that ends at the first that is one too many

-- the one that is met is one more than those that were counted
pub walk-more : (m : EntityMap) → IsSound m → (c : Class) (o : Tag) (left : List (Tag × Entity)) (k : Tag × Entity) (count : ℕ) → Walk c (kids_of m (Some o)) count (k ∷ left) → class_of k.1 ≡ c
    → nat_lt count (length (parts_of_class c (shape_of m) o)) ≡ true
walk-more m s c o left k count w is =
    let sum = (walk-counts c (kids_of m (Some o)) left k count w is).sum in
    lt-ltb count (length (parts_of_class c (shape_of m) o)) (omega (arith, sum, kids-counted m s c o))

-- where none is left, no more were counted than there may be
pub walk-ends : (m : EntityMap) → IsSound m → (c : Class) (o : Tag) (count than : ℕ) → Walk c (kids_of m (Some o)) count [] → count ≤ than
    → nat_lt than (length (parts_of_class c (shape_of m) o)) ≡ false
walk-ends m s c o count than w most =
    let sum = w.sum in
    le-ltb than (length (parts_of_class c (shape_of m) o)) (omega (arith, sum, most, kids-counted m s c o))
