-- What a walk over an entity's kids tells of its attributes.
use Rattle.std.proofs.Common.{◌≡◌, ◌+◌, ⊎_elim, Bool, true, false, cond, List, [], ◌∷◌, length, Option, Some, None, refl, sym, ap, subst, ◌∙◌, arith}
use Rattle.std.specs.Prelude.{ℤ, filter, is_some, Contains}
use Rattle.std.specs.Option.{option_map_or}
use Rattle.std.specs.List.{count_by, cons_option}
use Rattle.std.specs.List.Sorted.{IsPermutation}
use Rattle.std.specs.FinMap.{get, keys}
use Rattle.std.proofs.lemmas.Bool.{true≢false}
use Rattle.std.proofs.lemmas.List.Sums.{sum_by-cons}
use Rattle.std.proofs.lemmas.List.Sorted.{Contains-permutation, IsPermutation-sym, sum_by-IsPermutation}
use Rattle.std.proofs.lemmas.Option.{same_Some}
use Rattle.pk_base.proofs.Same.{same_name-Decides, same_itself, same_means}
use Rattle.pk_base.specs.Entity.{owner_of, same_optional, same_tag}
use Rattle.pk_base.specs.declared.tag.Tag.{Tag}
use Rattle.pk_base.specs.declared.entity.Name.{Name}
use Rattle.pk_base.specs.declared.entity.Entity.{Entity}
use Rattle.pk_base.specs.declared.entity.Entity.TheVariants.{Body, Shell, Face, Loop, Fin, Edge, Vertex, Attr}
use Rattle.pk_model.specs.Maps.{EntityMap}
use Rattle.entity_store.specs.Kids.{kid_at, kids_among, kids_of}
use Rattle.pk_model.proofs.Keys.{Contains-keys}
use Rattle.solid_model.proofs.lists.Neighbours.{one_if}
use Rattle.solid_calls.specs.Attributes.{attributes_on, is_attribute_on}
use Rattle.list_facts.proofs.Elements.{not_in_nil, Contains-filter, Contains-first, Contains-later, Contains-cases}
use Rattle.attributes.specs.Entities.{is_attribute, is_named}

abbrev pub Kid : Type 0
Kid = Tag × Entity

-- a kid that is an attribute
abbrev pub is_attribute_kid : Kid → Bool
is_attribute_kid k = is_attribute k.1

-- ---- how many attributes are among the kids

counted : (k : Kid) (ks : List Kid) → count_by is_attribute_kid (k ∷ ks) ≡ one_if (is_attribute k.1) + count_by is_attribute_kid ks
counted k ks = sum_by-cons (λ x. one_if (is_attribute_kid x)) k ks

no_attribute : (o t : Tag) (e : Entity) (ks : List Kid) → is_attribute e ≡ false → count_by is_attribute_kid (cons_option (kid_at (Some o) t (Some e)) ks) ≡ count_by is_attribute_kid ks
no_attribute o t e ks h =
    let none : one_if (is_attribute e) ≡ 0 = ap one_if h in
    elim (same_optional (owner_of e) (Some o)) as (λ b. count_by is_attribute_kid (cons_option (cond b (Some (t, e)) None) ks) ≡ count_by is_attribute_kid ks) [
      | true ↦ omega (arith, none, counted (t, e) ks)
      | false ↦ refl
    ]

kid_counted : (o t : Tag) (e : Entity) (ks : List Kid) → count_by is_attribute_kid (cons_option (kid_at (Some o) t (Some e)) ks) ≡ one_if (is_attribute_on o e) + count_by is_attribute_kid ks
kid_counted o t (Attr owner name value) ks = elim (same_tag owner o) as (λ b. count_by is_attribute_kid (cons_option (cond b (Some (t, Attr owner name value)) None) ks) ≡ one_if b + count_by is_attribute_kid ks) [
  | true ↦ counted (t, Attr owner name value) ks
  | false ↦ omega arith
]
kid_counted o t (Body shell) ks = omega (arith, no_attribute o t (Body shell) ks refl)
kid_counted o t (Shell body q) ks = omega (arith, no_attribute o t (Shell body q) ks refl)
kid_counted o t (Face shell outer) ks = omega (arith, no_attribute o t (Face shell outer) ks refl)
kid_counted o t (Loop face first vertex) ks = omega (arith, no_attribute o t (Loop face first vertex) ks refl)
kid_counted o t (Fin l next prev mate edge vertex) ks = omega (arith, no_attribute o t (Fin l next prev mate edge vertex) ks refl)
kid_counted o t (Edge body fin) ks = omega (arith, no_attribute o t (Edge body fin) ks refl)
kid_counted o t (Vertex body point) ks = omega (arith, no_attribute o t (Vertex body point) ks refl)

-- whether an attribute of the owner stands under the tag
abbrev pub is_on_at : EntityMap → Tag → Tag → Bool
is_on_at m o t = option_map_or (is_attribute_on o) (get m t) false

kids_counted : (m : EntityMap) (o : Tag) (ts : List Tag) → count_by is_attribute_kid (kids_among m (Some o) ts) ≡ length (filter (is_on_at m o) ts)
kids_counted m o [] = refl
kids_counted m o (t ∷ ts) =
    let rest = kids_counted m o ts in
    elim (get m t) as (λ f. count_by is_attribute_kid (cons_option (kid_at (Some o) t f) (kids_among m (Some o) ts)) ≡ length (cond (option_map_or (is_attribute_on o) f false) (t ∷ filter (is_on_at m o) ts) (filter (is_on_at m o) ts))) [
      | None ↦ rest
      | Some e ↦ kid_counted o t e (kids_among m (Some o) ts) ∙ one_more (is_attribute_on o e) rest
    ]
  where
    one_more : (b : Bool) → count_by is_attribute_kid (kids_among m (Some o) ts) ≡ length (filter (is_on_at m o) ts)
        → one_if b + count_by is_attribute_kid (kids_among m (Some o) ts) ≡ length (cond b (t ∷ filter (is_on_at m o) ts) (filter (is_on_at m o) ts))
    one_more true rest = omega arith
    one_more false rest = omega arith

-- before the walk
pub count-walked : (m : EntityMap) (o : Tag) (ks : List Kid) → IsPermutation (kids_of m (Some o)) ks → count_by is_attribute_kid ks ≡ length (attributes_on m o)
count-walked m o ks walked = sum_by-IsPermutation (λ k. one_if (is_attribute_kid k)) (kids_of m (Some o)) ks walked ∙ kids_counted m o (keys m)

-- at each step of it
pub count-more : (old new : List Kid) (k : Kid) → old ≡ k ∷ new → count_by is_attribute_kid old ≡ one_if (is_attribute k.1) + count_by is_attribute_kid new
count-more old new k is = ap (count_by is_attribute_kid) is ∙ counted k new

pub none_more : (old new : List Kid) (k : Kid) → old ≡ k ∷ new → is_attribute k.1 ≡ false → count_by is_attribute_kid new ≡ count_by is_attribute_kid old
none_more old new k is none =
    let zero : one_if (is_attribute k.1) ≡ 0 = ap one_if none in
    omega (arith, zero, count-more old new k is)

-- ---- which they are

-- it is live, and the owner is its owner
pub record IsKidOf (m : EntityMap) (o : Tag) (k : Kid) : Type 0 where
  pub live : get m k.0 ≡ Some k.1
  pub owned : owner_of k.1 ≡ Some o

abbrev pub AreKids : EntityMap → Tag → List Kid → Type 0
AreKids m o ks = (k : Kid) → Contains ks k → IsKidOf m o k

same_owner : (a : Option Tag) (o : Tag) → same_optional a (Some o) ≡ true → a ≡ Some o
same_owner None o h = absurd (cc)
same_owner (Some a) o h = ap Some (same_means a o h)

kids-among : (m : EntityMap) (o : Tag) (ts : List Tag) → AreKids m o (kids_among m (Some o) ts)
kids-among m o [] k h = absurd (not_in_nil k h)
kids-among m o (t ∷ ts) k h =
    elim (get m t) as (λ f. get m t ≡ f → Contains (cons_option (kid_at (Some o) t f) (kids_among m (Some o) ts)) k → IsKidOf m o k) [
      | None ↦ λ is among. kids-among m o ts k among
      | Some e ↦ λ is among. elim (same_optional (owner_of e) (Some o)) as (λ b. same_optional (owner_of e) (Some o) ≡ b → Contains (cons_option (cond b (Some (t, e)) None) (kids_among m (Some o) ts)) k → IsKidOf m o k) [
        | true ↦ λ same there.
            ⊎_elim (λ (first : (t, e) ≡ k). subst (IsKidOf m o) first (record { live = is; owned = same_owner (owner_of e) o same }))
            (λ (later : Contains (kids_among m (Some o) ts) k). kids-among m o ts k later)
            (Contains-cases (t, e) (kids_among m (Some o) ts) k there)
        | false ↦ λ same there. kids-among m o ts k there
      ] refl among
    ] refl h

pub walked-kids : (m : EntityMap) (o : Tag) (ks : List Kid) → IsPermutation (kids_of m (Some o)) ks → AreKids m o ks
walked-kids m o ks walked = λ k h. kids-among m o (keys m) k (Contains-permutation ks (kids_of m (Some o)) k (IsPermutation-sym (kids_of m (Some o)) ks walked) h)

pub kids-later : (m : EntityMap) (o : Tag) (old new : List Kid) (k : Kid) → old ≡ k ∷ new → AreKids m o old → AreKids m o new
kids-later m o old new k is h = λ x among. h x (subst (λ ks. Contains ks x) (sym is) (Contains-later k new x among))

pub first-kid : (m : EntityMap) (o : Tag) (old new : List Kid) (k : Kid) → old ≡ k ∷ new → AreKids m o old → IsKidOf m o k
first-kid m o old new k is h = h k (subst (λ ks. Contains ks k) (sym is) (Contains-first k new))

-- a kid is met
pub kid-met : (m : EntityMap) (o : Tag) (ks : List Kid) → IsPermutation (kids_of m (Some o)) ks → (k : Kid) → IsKidOf m o k → Contains ks k
kid-met m o ks walked k h = Contains-permutation (kids_of m (Some o)) ks k walked (among (keys m) (Contains-keys m k.0 (ap is_some h.live)))
  where
    here : (t : Tag) (ts : List Tag) → t ≡ k.0 → kids_among m (Some o) (t ∷ ts) ≡ k ∷ kids_among m (Some o) ts
    here t ts is =
        ap (λ f. cons_option (kid_at (Some o) t f) (kids_among m (Some o) ts)) (ap (get m) is ∙ h.live)
        ∙ ap (λ b. cons_option (cond b (Some (t, k.1)) None) (kids_among m (Some o) ts)) (ap (λ a. same_optional a (Some o)) h.owned ∙ same_itself o)
        ∙ ap (λ u. (u, k.1) ∷ kids_among m (Some o) ts) is

    among : (ts : List Tag) → Contains ts k.0 → Contains (kids_among m (Some o) ts) k
    among [] there = absurd (not_in_nil k.0 there)
    among (t ∷ ts) there =
        ⊎_elim (λ (is : t ≡ k.0). subst (λ ks. Contains ks k) (sym (here t ts is)) (Contains-first k (kids_among m (Some o) ts)))
        (λ (later : Contains ts k.0).
        let rest = among ts later in
        elim (kid_at (Some o) t (get m t)) as (λ f. Contains (cons_option f (kids_among m (Some o) ts)) k) [
          | None ↦ rest
          | Some x ↦ Contains-later x (kids_among m (Some o) ts) k rest
        ])
        (Contains-cases t ts k.0 there)

-- ---- those that are attributes

is_on : (o : Tag) (e : Entity) → is_attribute e ≡ true → owner_of e ≡ Some o → is_attribute_on o e ≡ true
is_on o (Attr owner name value) h owned = ap (λ a. same_optional a (Some o)) owned ∙ same_itself o
is_on o (Body shell) h owned = absurd (cc)
is_on o (Shell body q) h owned = absurd (cc)
is_on o (Face shell outer) h owned = absurd (cc)
is_on o (Loop face first vertex) h owned = absurd (cc)
is_on o (Fin l next prev mate edge vertex) h owned = absurd (cc)
is_on o (Edge body fin) h owned = absurd (cc)
is_on o (Vertex body point) h owned = absurd (cc)

pub attribute-among : (m : EntityMap) (o : Tag) (k : Kid) → IsKidOf m o k → is_attribute k.1 ≡ true → Contains (attributes_on m o) k.0
attribute-among m o k h is =
    Contains-filter (is_on_at m o) (keys m) k.0 (Contains-keys m k.0 (ap is_some h.live)) (ap (λ f. option_map_or (is_attribute_on o) f false) h.live ∙ is_on o k.1 is h.owned)

-- and those of the name
pub named-among : (o : Tag) (name : Name) (e : Entity) → is_named name e ≡ true → owner_of e ≡ Some o → (v : ℤ) × (e ≡ Attr o name v)
named-among o name (Attr owner other value) h owned = (value, λ i. Attr (same_Some owner o owned i) ((same_name-Decides other name).0 h i) value)
named-among o name (Body shell) h owned = absurd (cc)
named-among o name (Shell body q) h owned = absurd (cc)
named-among o name (Face shell outer) h owned = absurd (cc)
named-among o name (Loop face first vertex) h owned = absurd (cc)
named-among o name (Fin l next prev mate edge vertex) h owned = absurd (cc)
named-among o name (Edge body fin) h owned = absurd (cc)
named-among o name (Vertex body point) h owned = absurd (cc)

-- each attribute of the owner and this name is still to come
abbrev pub AllNamed : EntityMap → Tag → Name → List Kid → Type 0
AllNamed m o name ks = (t : Tag) (v : ℤ) → IsKidOf m o (t, Attr o name v) → Contains ks (t, Attr o name v)

pub named-later : (m : EntityMap) (o : Tag) (name : Name) (old new : List Kid) (k : Kid) → old ≡ k ∷ new → is_named name k.1 ≡ false → AllNamed m o name old → AllNamed m o name new
named-later m o name old new k is other all = λ t v h.
    ⊎_elim (λ (e : k ≡ (t, Attr o name v)). absurd (true≢false (sym (ap (λ (x : Kid). is_named name x.1) e ∙ (same_name-Decides name name).1 refl) ∙ other)))
    (λ (later : Contains new (t, Attr o name v)). later)
    (Contains-cases k new (t, Attr o name v) (subst (λ ks. Contains ks (t, Attr o name v)) is (all t v h)))
