-- A shape in which items were written and items were killed: what stands there, and sums over it.
use Rattle.std.proofs.Common.{◌≡◌, ◌≢◌, ℕ, ◌+◌, ◌⊎◌, inl, inr, ⊎_elim, Bool, true, false, not, ◌||◌, cond, List, [], ◌∷◌, ◌++◌, Option, Some, None, refl, sym, ap, subst, ◌∙◌, arith}
use Rattle.std.specs.Prelude.{T, ℤ, map, option_map, Contains}
use Rattle.std.specs.Option.{option_map_or}
use Rattle.std.specs.List.{AllByRecursion, sum_by}
use Rattle.std.specs.FinMap.{is_sorted, put}
use Rattle.std.specs.FinMap.Entries.{is_sorted-put}
use Rattle.std.proofs.lemmas.Bool.{true≢false, cases_Bool}
use Rattle.std.proofs.lemmas.List.Sums.{sum_by-cons, sum_by-append}
use Rattle.std.proofs.lemmas.Option.{same_Some}
use Rattle.pk_base.specs.Entity.{same_tag}
use Rattle.pk_base.specs.declared.tag.Tag.{Tag}
use Rattle.pk_base.specs.declared.entity.Name.{Name}
use Rattle.pk_base.specs.declared.entity.Class.{Class}
use Rattle.pk_base.specs.declared.entity.Class.TheVariants as class
use Rattle.pk_model.specs.Apart.{NoRepeats}
use Rattle.pk_model.specs.Maps.{tag_cmp}
use Rattle.pk_model.proofs.TagLists.{tag_total, NoneOf}
use Rattle.solid_model.specs.Items.{Item, Shape, item_at, class_of_item, ◌with◌}
use Rattle.solid_model.specs.Items.Item.{Attr}
use Rattle.solid_model.specs.Rings.{is_among}
use Rattle.solid_model.specs.Owners.{same_class, body_of, number_in_body}
use Rattle.solid_model.specs.Sound.{HasAttributes, class_at}
use Rattle.solid_model.specs.Deaths.{is_attribute_of, dies_with, ◌without◌}
use Rattle.list_facts.proofs.Elements.{Contains-map}
use Rattle.list_facts.proofs.Each.{ByRecursion-left, ByRecursion-right, ByRecursion-weaker, ByRecursion-contains, ByRecursion-at}
use Rattle.pk_base.proofs.Same.{same_itself, same_means, not_same}
use Rattle.solid_model.proofs.lists.Neighbours.{none-is, is-none, none-not, not_among, neither_parts, neither_from}
use Rattle.solid_sound.proofs.shapes.Lookups.{Items, tags_in, put-other, with-sorted, with-other, with-written, is_written, filter-was, filter-kept, filter-sorted}
use Rattle.solid_sound.proofs.shapes.Names.{NotAttr}
use Rattle.solid_sound.proofs.shapes.Bodies.{item_of_class}
use Rattle.solid_sound.proofs.shapes.Numbers.{counts_in}
use Rattle.solid_sound.proofs.shapes.Attributes.{CountsNoAttribute, attribute_of-class, no_attribute_of, numbers-no_attribute}
use Rattle.solid_sound.proofs.shapes.Sums.{Weight, weight_at, sum-alike, sum-put, sum-filter, sum-but}

-- R is S with these items, and then without what stands under the killed tags and the attributes of
-- that
pub record Edits (S R : Shape) (written : Items) (killed : List Tag) : Type 0 where
  pub ascends : T (is_sorted tag_cmp R)
  pub news : (t : Tag) (x : Item) → Contains written (t, x) → item_at R t ≡ Some x
  pub stays : (t : Tag) (x : Item) → item_at S t ≡ Some x → NotAttr (class_of_item x) → NoneOf t (tags_in written) → NoneOf t killed → item_at R t ≡ Some x
  pub was : (t : Tag) (x : Item) → item_at R t ≡ Some x → Contains written (t, x) ⊎ ((item_at S t ≡ Some x) × NoneOf t (tags_in written))
  pub alive : (t : Tag) (x : Item) → item_at R t ≡ Some x → NoneOf t killed
  pub owner : (a o : Tag) (name : Name) (value : ℤ) → item_at R a ≡ Some (Attr o name value) → NoneOf o killed
  pub sums : (w : Weight) → CountsNoAttribute w
      → sum_by w R + (sum_by (weight_at w S) killed + sum_by (weight_at w S) (tags_in written)) ≡ sum_by w written + sum_by w S

-- ---- sums

weight-other : (w : Weight) (S : Shape) (t : Tag) (x : Item) (ts : List Tag) → NoneOf t ts → sum_by (weight_at w (put tag_cmp t x S)) ts ≡ sum_by (weight_at w S) ts
weight-other w S t x [] h = refl
weight-other w S t x (u ∷ us) h =
    let here : weight_at w (put tag_cmp t x S) u ≡ weight_at w S u = ap (λ (o : Option Item). option_map_or (λ z. w (u, z)) o 0) (put-other S t u x (λ e. h.0 (sym e))) in
    let rest : sum_by (weight_at w (put tag_cmp t x S)) us ≡ sum_by (weight_at w S) us = weight-other w S t x us h.1 in
    sum_by-cons (weight_at w (put tag_cmp t x S)) u us ∙ (λ i. here i + rest i) ∙ sym (sum_by-cons (weight_at w S) u us)

-- items that are written, some of them in place of others
pub sum-with : (w : Weight) (S : Shape) (xs : Items) → T (is_sorted tag_cmp S) → NoRepeats (tags_in xs) → sum_by w (S with xs) + sum_by (weight_at w S) (tags_in xs) ≡ sum_by w xs + sum_by w S
sum-with w S [] sorted once = omega arith
sum-with w S (x ∷ xs) sorted once =
    let one = sum-put w S x.0 x.1 sorted in
    let rest = sum-with w (put tag_cmp x.0 x.1 S) xs (is_sorted-put tag_cmp tag_total x.0 x.1 S sorted) once.1 in
    let other = weight-other w S x.0 x.1 (tags_in xs) once.0 in
    omega (arith, one, rest, other, sum_by-cons w x xs, sum_by-cons (weight_at w S) x.0 (tags_in xs))

weights-alike : (w v : Weight) (S : Shape) (ts : List Tag) → AllByRecursion (λ t. (x : Item) → w (t, x) ≡ v (t, x)) ts → sum_by (weight_at w S) ts ≡ sum_by (weight_at v S) ts
weights-alike w v S [] h = refl
weights-alike w v S (t ∷ ts) h =
    let here : weight_at w S t ≡ weight_at v S t = alike (item_at S t) h.0 in
    let rest : sum_by (weight_at w S) ts ≡ sum_by (weight_at v S) ts = weights-alike w v S ts h.1 in
    sum_by-cons (weight_at w S) t ts ∙ (λ i. here i + rest i) ∙ sym (sum_by-cons (weight_at v S) t ts)
  where
    alike : {t : Tag} (o : Option Item) → ((x : Item) → w (t, x) ≡ v (t, x)) → option_map_or (λ x. w (t, x)) o 0 ≡ option_map_or (λ x. v (t, x)) o 0
    alike None k = refl
    alike (Some x) k = k x

-- what some tags count, and what all others do
pub sum-but_all : (w : Weight) (S : Shape) (ts : List Tag) → T (is_sorted tag_cmp S) → NoRepeats ts → sum_by w S ≡ sum_by (weight_at w S) ts + sum_by (λ x. cond (is_among x.0 ts) 0 (w x)) S
sum-but_all w S [] sorted once = let all : sum_by (λ x. cond (is_among x.0 []) 0 (w x)) S ≡ sum_by w S = refl in omega (arith, all)
sum-but_all w S (t ∷ ts) sorted once =
    let v = λ (x : Tag × Item). cond (same_tag x.0 t) 0 (w x) in
    let one : sum_by w S ≡ weight_at w S t + sum_by v S = sum-but w S t sorted in
    let rest : sum_by v S ≡ sum_by (weight_at v S) ts + sum_by (λ x. cond (is_among x.0 ts) 0 (v x)) S = sum-but_all v S ts sorted once.1 in
    let same : sum_by (weight_at v S) ts ≡ sum_by (weight_at w S) ts = weights-alike v w S ts (ByRecursion-contains _ ts (λ u k x. ap (λ c. cond c 0 (w (u, x))) (not_same u t (λ e. ByRecursion-at (λ z. t ≢ z) ts u once.0 k (sym e))))) in
    let left : sum_by (λ x. cond (is_among x.0 ts) 0 (v x)) S ≡ sum_by (λ x. cond (is_among x.0 (t ∷ ts)) 0 (w x)) S = sum-alike (λ x. cond (is_among x.0 ts) 0 (v x)) (λ x. cond (is_among x.0 (t ∷ ts)) 0 (w x)) S sorted (λ u x e. both u (w (u, x))) in
    omega (arith, one, rest, same, left, sum_by-cons (weight_at w S) t ts)
  where
    twice : (a b : Bool) (n : ℕ) → cond a 0 (cond b 0 n) ≡ cond (b || a) 0 n
    twice true true n = refl
    twice true false n = refl
    twice false true n = refl
    twice false false n = refl

    turned : (u v : Tag) → same_tag u v ≡ same_tag v u
    turned u v = ⊎_elim {C = same_tag u v ≡ same_tag v u}
        (λ (l : same_tag u v ≡ true). let e : u ≡ v = same_means u v l in l ∙ sym (ap (λ z. same_tag v z) e ∙ same_itself v))
        (λ (r : same_tag u v ≡ false). r ∙ sym (not_same v u (λ e. true≢false (sym (ap (λ z. same_tag u z) e ∙ same_itself u) ∙ r))))
        (cases_Bool (same_tag u v))

    both : (u : Tag) (n : ℕ) → cond (is_among u ts) 0 (cond (same_tag u t) 0 n) ≡ cond (is_among u (t ∷ ts)) 0 n
    both u n = twice (is_among u ts) (same_tag u t) n ∙ ap (λ c. cond (c || is_among u ts) 0 n) (turned u t)

pub sum-without : (w : Weight) (S : Shape) (killed : List Tag) → T (is_sorted tag_cmp S) → NoRepeats killed → CountsNoAttribute w
    → sum_by w (S without killed) + sum_by (weight_at w S) killed ≡ sum_by w S
sum-without w S killed sorted once zero =
    let left : sum_by w (S without killed) ≡ sum_by (λ x. cond (is_among x.0 killed) 0 (w x)) S =
    sum-filter w (λ x. not (dies_with killed x)) S ∙ sum-alike (λ x. cond (not (dies_with killed x)) (w x) 0) (λ x. cond (is_among x.0 killed) 0 (w x)) S sorted (λ t x e.
    by_attribute (is_among t killed) (is_attribute_of killed x) (w (t, x)) (λ a. zero t x (attribute_of-class killed x a))) in
    let all = sum-but_all w S killed sorted once in
    omega (arith, left, all)
  where
    by_attribute : (a b : Bool) (n : ℕ) → (b ≡ true → n ≡ 0) → cond (not (a || b)) n 0 ≡ cond a 0 n
    by_attribute true b n h = refl
    by_attribute false true n h = sym (h refl)
    by_attribute false false n h = refl

weight-stays : (w : Weight) (S : Shape) (xs : Items) (ts : List Tag) → AllByRecursion (λ t. NoneOf t (tags_in xs)) ts → sum_by (weight_at w (S with xs)) ts ≡ sum_by (weight_at w S) ts
weight-stays w S xs [] h = refl
weight-stays w S xs (t ∷ ts) h =
    let here : weight_at w (S with xs) t ≡ weight_at w S t = ap (λ (o : Option Item). option_map_or (λ z. w (t, z)) o 0) (with-other S xs t h.0) in
    let rest : sum_by (weight_at w (S with xs)) ts ≡ sum_by (weight_at w S) ts = weight-stays w S xs ts h.1 in
    sum_by-cons (weight_at w (S with xs)) t ts ∙ (λ i. here i + rest i) ∙ sym (sum_by-cons (weight_at w S) t ts)

-- ---- items that are written, and items that are killed

pub written : (S : Shape) (xs : Items) → T (is_sorted tag_cmp S) → NoRepeats (tags_in xs) → Edits S (S with xs) xs []
written S xs sorted once = record {
  ascends = with-sorted S xs sorted;
  news = λ t x k. with-written S xs t x once k;
  stays = λ t x e na old live. with-other S xs t old ∙ e;
  was = λ t x e. ⊎_elim {C = Contains xs (t, x) ⊎ ((item_at S t ≡ Some x) × NoneOf t (tags_in xs))}
      (λ (l : (y : Item) × Contains xs (t, y)). inl (subst (λ y. Contains xs (t, y)) (same_Some l.0 x (sym (with-written S xs t l.0 once l.1) ∙ e)) l.1))
      (λ (r : NoneOf t (tags_in xs)). inr (sym (with-other S xs t r) ∙ e, r))
      (is_written t xs);
  alive = λ t x e. tt;
  owner = λ a o name value e. tt;
  sums = λ w zero. let more = sum-with w S xs sorted once in omega (arith, more);
}

pub edits : (S : Shape) (xs : Items) (killed : List Tag) → T (is_sorted tag_cmp S) → NoRepeats (tags_in xs) → NoRepeats killed
    → AllByRecursion (λ t. NoneOf t (tags_in xs)) killed → AllByRecursion (λ x. NotAttr (class_of_item x.1)) xs → Edits S (S with xs without killed) xs killed
edits S xs killed sorted once_new once apart plain =
    let lives = λ (x : Tag × Item). not (dies_with killed x) in
    let A = S with xs in
    let change = written S xs sorted once_new in
    record {
      ascends = filter-sorted lives A change.ascends;
      news = λ t x k. filter-kept lives A t x (change.news t x k)
          (neither_from (is_among t killed) (is_attribute_of killed x)
          (not_among t killed (λ m. none-not t (tags_in xs) (ByRecursion-at (λ z. NoneOf z (tags_in xs)) killed t apart m) (Contains-map (λ (z : Tag × Item). z.0) xs (t, x) k)))
          (no_attribute_of killed x (ByRecursion-at (λ (z : Tag × Item). NotAttr (class_of_item z.1)) xs (t, x) plain k)));
      stays = λ t x e na old live. filter-kept lives A t x (with-other S xs t old ∙ e) (neither_from (is_among t killed) (is_attribute_of killed x) (is-none t killed live) (no_attribute_of killed x na));
      was = λ t x e. change.was t x (filter-was lives A change.ascends t x e).0;
      alive = λ t x e. none-is t killed (neither_parts (is_among t killed) (is_attribute_of killed x) (filter-was lives A change.ascends t x e).1).0;
      owner = λ a o n v e. none-is o killed (neither_parts (is_among a killed) (is_among o killed) (filter-was lives A change.ascends a (Attr o n v) e).1).1;
      sums = λ w zero.
          let more = sum-with w S xs sorted once_new in
          let less = sum-without w A killed change.ascends once zero in
          let same = weight-stays w S xs killed apart in
          omega (arith, more, less, same);
    }

-- ---- what stays

pub class_apart : (S : Shape) (t u : Tag) (c d : Class) → option_map class_of_item (item_at S t) ≡ Some c → option_map class_of_item (item_at S u) ≡ Some d → c ≢ d → t ≢ u
class_apart S t u c d ht hu h e = h (same_Some c d (sym ht ∙ ap (λ z. option_map class_of_item (item_at S z)) e ∙ hu))

-- what is live is none of the tags that are free
pub live-none_of : (S : Shape) (ts : List Tag) (t : Tag) (x : Item) → AllByRecursion (λ u. item_at S u ≡ None) ts → item_at S t ≡ Some x → NoneOf t ts
live-none_of S ts t x free is = ByRecursion-weaker _ _ (λ u none e. let both : None ≡ Some x = sym none ∙ ap (item_at S) (sym e) ∙ is in absurd (cc)) ts free

-- a written item has the class of what it replaces
abbrev pub KeepsClasses : Shape → Items → Type 0
KeepsClasses S xs = AllByRecursion (λ (x : Tag × Item). (c : Class) → class_at S x.0 ≡ Some c → class_of_item x.1 ≡ c) xs

-- or replaces nothing
pub keeps-new : (S : Shape) (t : Tag) (d : Class) → item_at S t ≡ None → (c : Class) → class_at S t ≡ Some c → d ≡ c
keeps-new S t d free c is = let both : None ≡ Some c = sym (ap (option_map class_of_item) free) ∙ is in absurd (cc)

module _ {S R : Shape} {xs : Items} {killed : List Tag} (ed : Edits S R xs killed) where
  -- what holds of the written items and of those that were holds of all
  pub edits-each : (P : Tag → Item → Type 0) → AllByRecursion (λ (y : Tag × Item). P y.0 y.1) xs → ((t : Tag) (x : Item) → item_at S t ≡ Some x → NoneOf t (tags_in xs) → P t x)
      → (t : Tag) (x : Item) → item_at R t ≡ Some x → P t x
  edits-each P new old t x e = ⊎_elim
      (λ (k : Contains xs (t, x)). ByRecursion-at (λ (y : Tag × Item). P y.0 y.1) xs (t, x) new k)
      (λ (k : (item_at S t ≡ Some x) × NoneOf t (tags_in xs)). old t x k.0 k.1)
      (ed.was t x e)

  pub edits-class : KeepsClasses S xs → (t : Tag) (c : Class) → NotAttr c → NoneOf t killed → class_at S t ≡ Some c → class_at R t ≡ Some c
  edits-class keeps t c na live h = ⊎_elim {C = class_at R t ≡ Some c}
      (λ (l : (x : Item) × Contains xs (t, x)).
      ap (option_map class_of_item) (ed.news t l.0 l.1) ∙ ap Some (ByRecursion-at (λ (x : Tag × Item). (d : Class) → class_at S x.0 ≡ Some d → class_of_item x.1 ≡ d) xs (t, l.0) keeps l.1 c h))
      (λ (r : NoneOf t (tags_in xs)).
      let x = item_of_class (item_at S t) c h in
      ap (option_map class_of_item) (ed.stays t x.0 x.1 (subst NotAttr (sym x.2) na) r live) ∙ ap Some x.2)
      (is_written t xs)

  -- what is of no class of a written item was there
  pub edits-was : (c : Class) → AllByRecursion (λ (x : Tag × Item). class_of_item x.1 ≡ c) xs → (t : Tag) (x : Item) → item_at R t ≡ Some x → class_of_item x ≢ c → item_at S t ≡ Some x
  edits-was c all = edits-each (λ t x. class_of_item x ≢ c → item_at S t ≡ Some x)
      (ByRecursion-weaker (λ (y : Tag × Item). class_of_item y.1 ≡ c) (λ (y : Tag × Item). class_of_item y.1 ≢ c → item_at S y.0 ≡ Some y.1) (λ y h other. absurd (other h)) xs all)
      (λ t x is none other. is)

  pub edits-attributes : HasAttributes S → KeepsClasses S xs → ((a o : Tag) (n : Name) (v : ℤ) → item_at R a ≡ Some (Attr o n v) → item_at S a ≡ Some (Attr o n v)) → HasAttributes R
  edits-attributes was keeps attribute_was = record {
    owned = λ a o n v h.
        let k = was.owned a o n v (attribute_was a o n v h) in
        (k.0, edits-class keeps o k.0 k.2 (ed.owner a o n v h) k.1, k.2);
    one = λ a b o n v w h k. was.one a b o n v w (attribute_was a o n v h) (attribute_was b o n w k);
  }

-- ---- where it is known what stood under the tags that were written or killed

-- these tags, with what stood there
abbrev pub Before : Type 0
Before = List (Tag × Option Item)

abbrev pub StoodIn : Shape → Before → Type 0
StoodIn S ys = AllByRecursion (λ (y : Tag × Option Item). item_at S y.0 ≡ y.1) ys

-- what it counted
abbrev pub counted : Weight → Tag × Option Item → ℕ
counted w y = option_map_or (λ x. w (y.0, x)) y.1 0

-- the tags of those that were live
abbrev pub lost : Before → List Tag
lost [] = []
lost (y ∷ ys) = option_map_or (λ x. y.0 ∷ lost ys) y.1 (lost ys)

weights-before : (w : Weight) (S : Shape) (ys : Before) → StoodIn S ys → sum_by (weight_at w S) (map (λ y. y.0) ys) ≡ sum_by (counted w) ys
weights-before w S [] h = refl
weights-before w S (y ∷ ys) h =
    let here : weight_at w S y.0 ≡ counted w y = ap (λ (o : Option Item). option_map_or (λ x. w (y.0, x)) o 0) h.0 in
    let rest : sum_by (weight_at w S) (map (λ y. y.0) ys) ≡ sum_by (counted w) ys = weights-before w S ys h.1 in
    sum_by-cons (weight_at w S) y.0 (map (λ y. y.0) ys) ∙ (λ i. here i + rest i) ∙ sym (sum_by-cons (counted w) y ys)

none-before : (S : Shape) (ys : Before) → StoodIn S ys → (t : Tag) (x : Item) → item_at S t ≡ Some x → NoneOf t (lost ys) → NoneOf t (map (λ y. y.0) ys)
none-before S [] h t x is none = tt
none-before S ((u, None) ∷ ys) h t x is none = ((live-none_of S (u ∷ []) t x (h.0, tt) is).0, none-before S ys h.1 t x is none)
none-before S ((u, Some y) ∷ ys) h t x is none = (none.0, none-before S ys h.1 t x is none.1)

-- how many items of the class stand in the body, where g leads to it
abbrev pub counts_by : Class → Tag → (Tag → Tag) → Weight
counts_by c d g x = counts_in c d (g x.0) x.1

module _ {S R : Shape} {xs : Items} {killed : List Tag} (ed : Edits S R xs killed) (before : Before) (stood : StoodIn S before) (all : map (λ y. y.0) before ≡ tags_in xs ++ killed) where
  pub edits-stay : (t : Tag) (x : Item) → item_at S t ≡ Some x → NotAttr (class_of_item x) → NoneOf t (lost before) → item_at R t ≡ Some x
  edits-stay t x is na none =
      let other = subst (NoneOf t) all (none-before S before stood t x is none) in
      ed.stays t x is na (ByRecursion-left (λ u. t ≢ u) (tags_in xs) killed other) (ByRecursion-right (λ u. t ≢ u) (tags_in xs) killed other)

  pub edits-sums : (w : Weight) → CountsNoAttribute w → sum_by w R + sum_by (counted w) before ≡ sum_by w xs + sum_by w S
  edits-sums w zero =
      let sum = ed.sums w zero in
      let known = weights-before w S before stood in
      let same : sum_by (weight_at w S) (map (λ y. y.0) before) ≡ sum_by (weight_at w S) (tags_in xs ++ killed) = ap (sum_by (weight_at w S)) all in
      let both = sum_by-append (weight_at w S) (tags_in xs) killed in
      omega (arith, sum, known, same, both)

  pub edits-numbers : T (is_sorted tag_cmp S) → (g : Tag → Tag) → ((t : Tag) (x : Item) → item_at S t ≡ Some x → g t ≡ body_of S t) → (c : Class) → same_class class.Attr c ≡ false → (d : Tag)
      → sum_by (counts_by c d g) R + sum_by (counted (counts_by c d g)) before ≡ sum_by (counts_by c d g) xs + number_in_body c S d
  edits-numbers sorted g agree c na d =
      edits-sums (counts_by c d g) (numbers-no_attribute c na d g)
      ∙ ap (λ n. sum_by (counts_by c d g) xs + n) (sum-alike (counts_by c d g) (λ x. counts_in c d (body_of S x.0) x.1) S sorted (λ t x e. ap (λ u. counts_in c d u x) (agree t x e)))

-- ---- new items

-- R is S with these items, each under a free tag
pub record Adds (S R : Shape) (xs : Items) : Type 0 where
  pub ascends : T (is_sorted tag_cmp R)
  pub stays : (t : Tag) (x : Item) → item_at S t ≡ Some x → item_at R t ≡ Some x
  pub news : (t : Tag) (x : Item) → Contains xs (t, x) → item_at R t ≡ Some x
  pub was : (t : Tag) (x : Item) → item_at R t ≡ Some x → Contains xs (t, x) ⊎ (item_at S t ≡ Some x)
  pub sums : (w : Weight) → sum_by w R ≡ sum_by w xs + sum_by w S

pub adds : (S : Shape) (xs : Items) → T (is_sorted tag_cmp S) → NoRepeats (tags_in xs) → AllByRecursion (λ t. item_at S t ≡ None) (tags_in xs) → Adds S (S with xs) xs
adds S xs sorted once free =
    let change = written S xs sorted once in
    record {
      ascends = change.ascends;
      stays = λ t x e. with-other S xs t (live-none_of S (tags_in xs) t x free e) ∙ e;
      news = change.news;
      was = λ t x e. ⊎_elim {C = Contains xs (t, x) ⊎ (item_at S t ≡ Some x)} inl (λ (r : (item_at S t ≡ Some x) × NoneOf t (tags_in xs)). inr r.0) (change.was t x e);
      sums = λ w. let sum = sum-with w S xs sorted once in let none = nothing w (tags_in xs) free in omega (arith, sum, none);
    }
  where
    nothing : (w : Weight) (ts : List Tag) → AllByRecursion (λ t. item_at S t ≡ None) ts → sum_by (weight_at w S) ts ≡ 0
    nothing w [] h = refl
    nothing w (t ∷ ts) h =
        let here : weight_at w S t ≡ 0 = ap (λ (o : Option Item). option_map_or (λ x. w (t, x)) o 0) h.0 in
        omega (arith, here, nothing w ts h.1, sum_by-cons (weight_at w S) t ts)
