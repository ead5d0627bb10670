-- What is the same but for names: as a relation, and from what two shapes have under each tag.
use Rattle.std.proofs.Common.{◌≡◌, ◌≢◌, ◌⊎◌, inl, inr, ⊎_elim, Bool, true, false, if◌then◌else◌, List, [], ◌∷◌, ◌++◌, Option, Some, None, refl, sym, ap, subst, ◌∙◌, append-nil}
use Rattle.std.specs.Prelude.{T, ℤ, map, option_map, IsSome, is_some, Contains}
use Rattle.std.specs.List.{AllByRecursion}
use Rattle.std.proofs.lemmas.Bool.{cases_Bool, true≢false}
use Rattle.std.proofs.lemmas.List.Elements.{Contains-append_cases, Contains-append_left, Contains-append_right}
use Rattle.pk_base.specs.declared.tag.Tag.{Tag}
use Rattle.pk_base.specs.declared.entity.Name.{Name}
use Rattle.pk_base.specs.declared.entity.Class.{Class}
use Rattle.solid_model.specs.Items.{Item, Shape, item_at}
use Rattle.solid_model.specs.Items.Item.{Body, Shell, Face, Loop, Fin, Edge, Vertex, Attr}
use Rattle.solid_model.specs.Rings.{is_among}
use Rattle.solid_model.specs.Deaths.{is_attribute_of}
use Rattle.solid_model.specs.Sound.{optional}
use Rattle.solid_model.proofs.lists.Neighbours.{in-is_among, is_among-in, not_among}
use Rattle.solid_model.proofs.lists.Turned.{Turned, turned-back}
use Rattle.solid_model.specs.SameButNames.{IsRenaming, IsTurned, SameButNames, SameIfAny, SameItem, but_attributes}
use Rattle.euler_laws.proofs.Renamings.{renames-within}
use Rattle.euler_laws.proofs.TurnedLists.{turned-itself, turned-twice}

-- ---- cyclic lists

pub as-turned : {xs ys : List Tag} → Turned xs ys → IsTurned xs ys
as-turned h = record { pre = h.pre; post = h.post; here = h.here; there = h.there }

pub from-turned : {xs ys : List Tag} → IsTurned xs ys → Turned xs ys
from-turned h = record { pre = h.pre; post = h.post; here = h.here; there = h.there }

pub map-append : (r : Tag → Tag) (xs ys : List Tag) → map r (xs ++ ys) ≡ map r xs ++ map r ys
map-append r [] ys = refl
map-append r (x ∷ xs) ys = ap (λ ts. r x ∷ ts) (map-append r xs ys)

map-twice : (r q : Tag → Tag) (xs : List Tag) → map q (map r xs) ≡ map (λ t. q (r t)) xs
map-twice r q [] = refl
map-twice r q (x ∷ xs) = ap (λ ts. q (r x) ∷ ts) (map-twice r q xs)

pub map-fixed : (r : Tag → Tag) (xs : List Tag) → AllByRecursion (λ t. r t ≡ t) xs → map r xs ≡ xs
map-fixed r [] h = refl
map-fixed r (x ∷ xs) h = λ i. h.0 i ∷ map-fixed r xs h.1 i

map-same : (r q : Tag → Tag) (xs : List Tag) → ((t : Tag) → r t ≡ q t) → map r xs ≡ map q xs
map-same r q [] h = refl
map-same r q (x ∷ xs) h = λ i. h x i ∷ map-same r q xs h i

option-twice : (r q : Tag → Tag) (o : Option Tag) → option_map q (option_map r o) ≡ option_map (λ t. q (r t)) o
option-twice r q None = refl
option-twice r q (Some t) = refl

pub option-fixed : (r : Tag → Tag) (o : Option Tag) → AllByRecursion (λ t. r t ≡ t) (optional o) → option_map r o ≡ o
option-fixed r None h = refl
option-fixed r (Some t) h = ap Some h.0

option-same : (r q : Tag → Tag) (o : Option Tag) → ((t : Tag) → r t ≡ q t) → option_map r o ≡ option_map q o
option-same r q None h = refl
option-same r q (Some t) h = ap Some (h t)

pub turned-map : (r : Tag → Tag) (xs ys : List Tag) → IsTurned xs ys → IsTurned (map r xs) (map r ys)
turned-map r xs ys h = record {
  pre = map r h.pre;
  post = map r h.post;
  here = ap (map r) h.here ∙ map-append r h.pre h.post;
  there = ap (map r) h.there ∙ map-append r h.post h.pre;
}

turned-again : (xs ys zs : List Tag) → IsTurned xs ys → IsTurned ys zs → IsTurned xs zs
turned-again xs ys zs h k = as-turned (turned-twice xs ys zs (from-turned h) (from-turned k))

-- ---- one item

-- this holds of each tag that the item names
abbrev pub EachTag : (Tag → Type 0) → Item → Type 0
EachTag P (Body shell) = P shell
EachTag P (Shell body q) = P body
EachTag P (Face shell outer) = P shell × P outer
EachTag P (Loop face fins vertex) = P face × AllByRecursion P fins × AllByRecursion P (optional vertex)
EachTag P (Fin mate edge vertex) = P mate × P edge × P vertex
EachTag P (Edge body) = P body
EachTag P (Vertex body point) = P body
EachTag P (Attr owner name value) = P owner

-- an item whose tags are not renamed
pub item-fixed : (r : Tag → Tag) (x : Item) → EachTag (λ t. r t ≡ t) x → SameItem r x x
item-fixed r (Body shell) h = ap Body (sym h)
item-fixed r (Shell body q) h = ap (λ t. Shell t q) (sym h)
item-fixed r (Face shell outer) h = λ i. Face (sym h.0 i) (sym h.1 i)
item-fixed r (Loop face fins vertex) h = (
  fins,
  subst (λ ts. IsTurned ts fins) (sym (map-fixed r fins h.1)) (as-turned (turned-itself fins)),
  (λ i. Loop (sym h.0 i) fins (sym (option-fixed r vertex h.2) i)),
)
item-fixed r (Fin mate edge vertex) h = λ i. Fin (sym h.0 i) (sym h.1 i) (sym h.2 i)
item-fixed r (Edge body) h = ap Edge (sym h)
item-fixed r (Vertex body point) h = ap (λ t. Vertex t point) (sym h)
item-fixed r (Attr owner name value) h = ap (λ t. Attr t name value) (sym h)

item-back : (r q : Tag → Tag) → ((t : Tag) → q (r t) ≡ t) → (x y : Item) → SameItem r x y → SameItem q y x
item-back r q h (Body shell) y e = subst (λ z. SameItem q z (Body shell)) (sym e) (ap Body (sym (h shell)))
item-back r q h (Shell body n) y e = subst (λ z. SameItem q z (Shell body n)) (sym e) (ap (λ t. Shell t n) (sym (h body)))
item-back r q h (Face shell outer) y e = subst (λ z. SameItem q z (Face shell outer)) (sym e) (λ i. Face (sym (h shell) i) (sym (h outer) i))
item-back r q h (Loop face fins vertex) y e = subst (λ z. SameItem q z (Loop face fins vertex)) (sym e.2) (
  fins,
  subst (λ ts. IsTurned (map q e.0) ts) (map-twice r q fins ∙ map-same (λ t. q (r t)) (λ t. t) fins h ∙ map-fixed (λ t. t) fins (all-refl fins))
      (turned-map q e.0 (map r fins) (as-turned (turned-back (map r fins) e.0 (from-turned e.1)))),
  (λ i. Loop (sym (h face) i) fins (sym (option-twice r q vertex ∙ option-same (λ t. q (r t)) (λ t. t) vertex h ∙ option-fixed (λ t. t) vertex (all-refl (optional vertex))) i)),
)
  where
    all-refl : (ts : List Tag) → AllByRecursion (λ t. t ≡ t) ts
    all-refl [] = tt
    all-refl (t ∷ ts) = (refl, all-refl ts)
item-back r q h (Fin mate edge vertex) y e = subst (λ z. SameItem q z (Fin mate edge vertex)) (sym e) (λ i. Fin (sym (h mate) i) (sym (h edge) i) (sym (h vertex) i))
item-back r q h (Edge body) y e = subst (λ z. SameItem q z (Edge body)) (sym e) (ap Edge (sym (h body)))
item-back r q h (Vertex body point) y e = subst (λ z. SameItem q z (Vertex body point)) (sym e) (ap (λ t. Vertex t point) (sym (h body)))
item-back r q h (Attr owner name value) y e = subst (λ z. SameItem q z (Attr owner name value)) (sym e) (ap (λ t. Attr t name value) (sym (h owner)))

item-on : (r q : Tag → Tag) (x y z : Item) → SameItem r x y → SameItem q y z → SameItem (λ t. q (r t)) x z
item-on r q (Body shell) y z e k = subst (λ w. SameItem q w z) e k
item-on r q (Shell body n) y z e k = subst (λ w. SameItem q w z) e k
item-on r q (Face shell outer) y z e k = subst (λ w. SameItem q w z) e k
item-on r q (Loop face fins vertex) y z e k =
    let there : SameItem q (Loop (r face) e.0 (option_map r vertex)) z = subst (λ w. SameItem q w z) e.2 k in (
      there.0,
      turned-again (map (λ t. q (r t)) fins) (map q e.0) there.0 (subst (λ ts. IsTurned ts (map q e.0)) (map-twice r q fins) (turned-map q (map r fins) e.0 e.1)) there.1,
      there.2 ∙ ap (λ o. Loop (q (r face)) there.0 o) (option-twice r q vertex),
    )
item-on r q (Fin mate edge vertex) y z e k = subst (λ w. SameItem q w z) e k
item-on r q (Edge body) y z e k = subst (λ w. SameItem q w z) e k
item-on r q (Vertex body point) y z e k = subst (λ w. SameItem q w z) e k
item-on r q (Attr owner name value) y z e k = subst (λ w. SameItem q w z) e k

-- ---- what may be nothing

any-back : (r q : Tag → Tag) → ((t : Tag) → q (r t) ≡ t) → (a b : Option Item) → SameIfAny r a b → SameIfAny q b a
any-back r q h None None e = tt
any-back r q h None (Some y) e = absurd e
any-back r q h (Some x) None e = absurd e
any-back r q h (Some x) (Some y) e = item-back r q h x y e

any-on : (r q : Tag → Tag) (a b c : Option Item) → SameIfAny r a b → SameIfAny q b c → SameIfAny (λ t. q (r t)) a c
any-on r q None None None e k = tt
any-on r q None None (Some z) e k = absurd k
any-on r q None (Some y) c e k = absurd e
any-on r q (Some x) None c e k = absurd e
any-on r q (Some x) (Some y) None e k = absurd k
any-on r q (Some x) (Some y) (Some z) e k = item-on r q x y z e k

-- ---- attributes that are left out

-- an item is an attribute of these just where it is so under a renaming within them
attribute-alike : (ts : List Tag) (r : Tag → Tag) → ((t : Tag) → is_among (r t) ts ≡ is_among t ts) → (x y : Item) → SameItem r x y → is_attribute_of ts y ≡ is_attribute_of ts x
attribute-alike ts r h (Body shell) y e = ap (is_attribute_of ts) e
attribute-alike ts r h (Shell body q) y e = ap (is_attribute_of ts) e
attribute-alike ts r h (Face shell outer) y e = ap (is_attribute_of ts) e
attribute-alike ts r h (Loop face fins vertex) y e = ap (is_attribute_of ts) e.2
attribute-alike ts r h (Fin mate edge vertex) y e = ap (is_attribute_of ts) e
attribute-alike ts r h (Edge body) y e = ap (is_attribute_of ts) e
attribute-alike ts r h (Vertex body point) y e = ap (is_attribute_of ts) e
attribute-alike ts r h (Attr owner name value) y e = ap (is_attribute_of ts) e ∙ h owner

abbrev unless : Bool → Item → Option Item
unless b x = if b then None else Some x

-- attributes are left out on both sides
pub but-both : (ts : List Tag) (r : Tag → Tag) → ((t : Tag) → is_among (r t) ts ≡ is_among t ts) → (a b : Option Item) → SameIfAny r a b → SameIfAny r (but_attributes ts a) (but_attributes ts b)
but-both ts r h None None e = tt
but-both ts r h None (Some y) e = absurd e
but-both ts r h (Some x) None e = absurd e
but-both ts r h (Some x) (Some y) e = subst (λ c. SameIfAny r (unless (is_attribute_of ts x) x) (unless c y)) (sym (attribute-alike ts r h x y e)) (by_attribute (is_attribute_of ts x))
  where
    by_attribute : (c : Bool) → SameIfAny r (unless c x) (unless c y)
    by_attribute true = tt
    by_attribute false = e

-- all of us is among ts
abbrev pub AreWithin : List Tag → List Tag → Type 0
AreWithin us ts = (t : Tag) → is_among t us ≡ true → is_among t ts ≡ true

-- what is left out of fewer is left out of more
pub but-more : (us ts : List Tag) → AreWithin us ts → (a : Option Item) → but_attributes ts (but_attributes us a) ≡ but_attributes ts a
but-more us ts h None = refl
but-more us ts h (Some x) = by_attribute (is_attribute_of us x) refl
  where
    wider : (x : Item) → is_attribute_of us x ≡ true → is_attribute_of ts x ≡ true
    wider (Attr owner name value) e = h owner e
    wider (Body shell) e = absurd (cc)
    wider (Shell body q) e = absurd (cc)
    wider (Face shell outer) e = absurd (cc)
    wider (Loop face fins vertex) e = absurd (cc)
    wider (Fin mate edge vertex) e = absurd (cc)
    wider (Edge body) e = absurd (cc)
    wider (Vertex body point) e = absurd (cc)

    by_attribute : (b : Bool) → is_attribute_of us x ≡ b → but_attributes ts (unless b x) ≡ but_attributes ts (Some x)
    by_attribute true e = ap (λ b. unless b x) (sym (wider x e))
    by_attribute false e = refl

-- so shapes that are the same where fewer are left out, are the same where more are
pub any-more : (us ts : List Tag) (r : Tag → Tag) → AreWithin us ts → ((t : Tag) → is_among (r t) ts ≡ is_among t ts) → (a b : Option Item)
    → SameIfAny r (but_attributes us a) (but_attributes us b) → SameIfAny r (but_attributes ts a) (but_attributes ts b)
any-more us ts r h k a b e =
    let here = but-both ts r k (but_attributes us a) (but_attributes us b) e in
    subst (λ (p : Option Item × Option Item). SameIfAny r p.0 p.1) (λ i. (but-more us ts h a i, but-more us ts h b i)) here

-- ---- the relation

pub is_among-by : (xs ys : List Tag) → ((t : Tag) → Contains xs t → Contains ys t) → AreWithin xs ys
is_among-by xs ys h t e = is_among-in t ys (h t (in-is_among t xs e))

same_among : (t : Tag) (xs ys : List Tag) → AreWithin xs ys → AreWithin ys xs → is_among t xs ≡ is_among t ys
same_among t xs ys h k = by_both (is_among t xs) (is_among t ys) refl refl
  where
    by_both : (a b : Bool) → is_among t xs ≡ a → is_among t ys ≡ b → is_among t xs ≡ is_among t ys
    by_both true b e f = e ∙ sym (h t e)
    by_both false true e f = k t f ∙ sym f
    by_both false false e f = e ∙ sym f

renaming-wider : (xs ys : List Tag) (there back : Tag → Tag) → AreWithin xs ys → IsRenaming xs there back → IsRenaming ys there back
renaming-wider xs ys there back h r = record {
  undone = r.undone;
  redone = r.redone;
  leaves = λ t out. r.leaves t (none_there t out);
}
  where
    none_there : (t : Tag) → is_among t ys ≡ false → is_among t xs ≡ false
    none_there t out = ⊎_elim {C = is_among t xs ≡ false} (λ (l : is_among t xs ≡ true). absurd (true≢false (sym (h t l) ∙ out))) (λ (r : is_among t xs ≡ false). r) (cases_Bool (is_among t xs))

pub same-itself : (killed made : List Tag) (S : Shape) → SameButNames killed made S S
same-itself killed made S = record {
  there = λ t. t;
  back = λ t. t;
  renaming = record { undone = λ t. refl; redone = λ t. refl; leaves = λ t out. refl };
  same = λ t. any-itself (but_attributes (killed ++ made) (item_at S t));
}
  where
    all-refl : (ts : List Tag) → AllByRecursion (λ t. t ≡ t) ts
    all-refl [] = tt
    all-refl (t ∷ ts) = (refl, all-refl ts)

    each-refl : (x : Item) → EachTag (λ t. t ≡ t) x
    each-refl (Body shell) = refl
    each-refl (Shell body q) = refl
    each-refl (Face shell outer) = (refl, refl)
    each-refl (Loop face fins vertex) = (refl, all-refl fins, all-refl (optional vertex))
    each-refl (Fin mate edge vertex) = (refl, refl, refl)
    each-refl (Edge body) = refl
    each-refl (Vertex body point) = refl
    each-refl (Attr owner name value) = refl

    any-itself : (a : Option Item) → SameIfAny (λ t. t) a a
    any-itself None = tt
    any-itself (Some x) = item-fixed (λ t. t) x (each-refl x)

-- the other way, what was made anew was killed
pub same-back : (killed made : List Tag) (S R : Shape) → SameButNames killed made S R → SameButNames made killed R S
same-back killed made S R h = record {
  there = h.back;
  back = h.there;
  renaming = renaming-wider (killed ++ made) (made ++ killed) h.back h.there within
      (record { undone = h.renaming.redone; redone = h.renaming.undone; leaves = λ t out. ap h.back (sym (h.renaming.leaves t out)) ∙ h.renaming.undone t });
  same = λ t. any-more (killed ++ made) (made ++ killed) h.back within keeps (item_at R t) (item_at S (h.back t))
      (subst (λ u. SameIfAny h.back (but_attributes (killed ++ made) (item_at R u)) (but_attributes (killed ++ made) (item_at S (h.back t)))) (h.renaming.redone t)
      (any-back h.there h.back h.renaming.undone _ _ (h.same (h.back t))));
}
  where
    within : AreWithin (killed ++ made) (made ++ killed)
    within = is_among-by (killed ++ made) (made ++ killed) (λ t k. ⊎_elim {C = Contains (made ++ killed) t} (λ (l : Contains killed t). Contains-append_right made killed t l) (λ (r : Contains made t). Contains-append_left made killed t r) (Contains-append_cases killed made t k))

    other : AreWithin (made ++ killed) (killed ++ made)
    other = is_among-by (made ++ killed) (killed ++ made) (λ t k. ⊎_elim {C = Contains (killed ++ made) t} (λ (l : Contains made t). Contains-append_right killed made t l) (λ (r : Contains killed t). Contains-append_left killed made t r) (Contains-append_cases made killed t k))

    keeps : (t : Tag) → is_among (h.back t) (made ++ killed) ≡ is_among t (made ++ killed)
    keeps t =
        same_among (h.back t) (made ++ killed) (killed ++ made) other within
        ∙ sym (renames-within (killed ++ made) h.there h.back h.renaming (h.back t)) ∙ ap (λ u. is_among u (killed ++ made)) (h.renaming.redone t)
        ∙ same_among t (killed ++ made) (made ++ killed) within other

-- one after the other, what was killed and what was made anew add up
pub same-on : (killed made killed' made' : List Tag) (S R Q : Shape) → SameButNames killed made S R → SameButNames killed' made' R Q → SameButNames (killed ++ killed') (made ++ made') S Q
same-on killed made killed' made' S R Q h k = record {
  there = λ t. k.there (h.there t);
  back = λ t. h.back (k.back t);
  renaming = record {
    undone = λ t. ap h.back (k.renaming.undone (h.there t)) ∙ h.renaming.undone t;
    redone = λ t. ap k.there (h.renaming.redone (k.back t)) ∙ k.renaming.redone t;
    leaves = λ t out. ap k.there (first.leaves t out) ∙ second.leaves t out;
  };
  same = λ t. any-on h.there k.there _ _ _
      (any-more (killed ++ made) all h.there first_in (renames-within all h.there h.back first) (item_at S t) (item_at R (h.there t)) (h.same t))
      (any-more (killed' ++ made') all k.there second_in (renames-within all k.there k.back second) (item_at R (h.there t)) (item_at Q (k.there (h.there t))) (k.same (h.there t)));
}
  where
    all : List Tag
    all = (killed ++ killed') ++ (made ++ made')

    first_in : AreWithin (killed ++ made) all
    first_in = is_among-by (killed ++ made) all (λ t m. ⊎_elim {C = Contains all t}
        (λ (l : Contains killed t). Contains-append_left (killed ++ killed') (made ++ made') t (Contains-append_left killed killed' t l))
        (λ (r : Contains made t). Contains-append_right (killed ++ killed') (made ++ made') t (Contains-append_left made made' t r))
        (Contains-append_cases killed made t m))

    second_in : AreWithin (killed' ++ made') all
    second_in = is_among-by (killed' ++ made') all (λ t m. ⊎_elim {C = Contains all t}
        (λ (l : Contains killed' t). Contains-append_left (killed ++ killed') (made ++ made') t (Contains-append_right killed killed' t l))
        (λ (r : Contains made' t). Contains-append_right (killed ++ killed') (made ++ made') t (Contains-append_right made made' t r))
        (Contains-append_cases killed' made' t m))

    first : IsRenaming all h.there h.back
    first = renaming-wider (killed ++ made) all h.there h.back first_in h.renaming

    second : IsRenaming all k.there k.back
    second = renaming-wider (killed' ++ made') all k.there k.back second_in k.renaming

-- the same holds of lists that have all of these
pub same-wider : (killed made killed' made' : List Tag) (S R : Shape) → AreWithin (killed ++ made) (killed' ++ made') → SameButNames killed made S R → SameButNames killed' made' S R
same-wider killed made killed' made' S R h k =
    let wider = renaming-wider (killed ++ made) (killed' ++ made') k.there k.back h k.renaming in
    record {
      there = k.there;
      back = k.back;
      renaming = wider;
      same = λ t. any-more (killed ++ made) (killed' ++ made') k.there h (renames-within (killed' ++ made') k.there k.back wider) (item_at S t) (item_at R (k.there t)) (k.same t);
    }
