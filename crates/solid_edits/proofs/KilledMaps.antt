-- Maps in which entities have died with their attributes.
use Rattle.std.proofs.Common.{◌≡◌, ◌≢◌, ⊎_elim, Bool, true, false, cond, List, [], ◌∷◌, ◌++◌, Option, Some, None, refl, sym, ap, subst, ◌∙◌}
use Rattle.std.specs.Prelude.{ℤ, Contains, is_some}
use Rattle.std.specs.Option.{option_and_then, option_map_or}
use Rattle.std.specs.List.{flat_map}
use Rattle.std.specs.FinMap.{get, keys}
use Rattle.std.proofs.lemmas.Bool.{cases_Bool, true≢false}
use Rattle.std.proofs.lemmas.List.Elements.{Contains-append_left, Contains-append_right, Contains-append_cases}
use Rattle.pk_base.specs.Entity.{same_tag}
use Rattle.pk_base.specs.declared.tag.Tag.{Tag}
use Rattle.pk_base.specs.declared.entity.Name.{Name}
use Rattle.pk_base.specs.declared.entity.Entity.{Entity}
use Rattle.pk_base.specs.declared.entity.Entity.TheVariants as entity
use Rattle.pk_model.specs.Maps.{EntityMap, with_entity}
use Rattle.entity_store.proofs.FirstValues.{get_other, get_put}
use Rattle.pk_model.proofs.Keys.{Contains-keys}
use Rattle.solid_model.specs.Items.{Item, Shape}
use Rattle.solid_model.specs.Items.Item.{Body, Shell, Face, Loop, Fin, Edge, Vertex, Attr}
use Rattle.solid_model.specs.Deaths.{is_attribute_of}
use Rattle.solid_model.specs.Rings.{first_tag}
use Rattle.solid_model.proofs.lists.Neighbours.{in-is_among, among_or_none}
use Rattle.pk_base.proofs.Same.{not_same, same_itself, same_means}
use Rattle.pk_model.proofs.TagLists.{NoneOf}
use Rattle.solid_calls.specs.Attributes.{DropsAttributes, attributes_on, is_attribute_on, unless_on}
use Rattle.halfedge.specs.LinkedRings.{as_fin}
use Rattle.solid_calls.proofs.Represented.{Shows}
use Rattle.list_facts.proofs.Elements.{not_in_nil, Contains-filter, filter_contains, Contains-first, Contains-later, Contains-cases, Contains-flat_map}
use Rattle.list_facts.proofs.Each.{ByRecursion-append, ByRecursion-weaker, ByRecursion-at, ByRecursion-left, ByRecursion-right}
use Rattle.solid_edits.specs.Deaths.{Dies, Kills, unless_on_any, with_attributes}

-- ---- the attributes of an owner

-- what stands under the tag is an attribute of this owner
abbrev pub IsAttributeIn : EntityMap → Tag → Tag → Type 0
IsAttributeIn m o t = (name : Name) × (value : ℤ) × (get m t ≡ Some (entity.Attr o name value))

is_on : (o : Tag) (e : Option Entity) → option_map_or (is_attribute_on o) e false ≡ true → (name : Name) × (value : ℤ) × (e ≡ Some (entity.Attr o name value))
is_on o None h = absurd (cc)
is_on o (Some (entity.Attr owner name value)) h = (name, value, ap (λ t. Some (entity.Attr t name value)) (same_means owner o h))
is_on o (Some (entity.Body shell)) h = absurd (cc)
is_on o (Some (entity.Shell body q)) h = absurd (cc)
is_on o (Some (entity.Face shell outer)) h = absurd (cc)
is_on o (Some (entity.Loop face first vertex)) h = absurd (cc)
is_on o (Some (entity.Fin l next prev mate edge vertex)) h = absurd (cc)
is_on o (Some (entity.Edge body fin)) h = absurd (cc)
is_on o (Some (entity.Vertex body point)) h = absurd (cc)

pub attribute-in : (m : EntityMap) (o t : Tag) → Contains (attributes_on m o) t → IsAttributeIn m o t
attribute-in m o t k = is_on o (get m t) (filter_contains (λ u. option_map_or (is_attribute_on o) (get m u) false) (keys m) t k).1

pub in-attributes : (m : EntityMap) (o t : Tag) → IsAttributeIn m o t → Contains (attributes_on m o) t
in-attributes m o t (name, value, is) =
    Contains-filter (λ u. option_map_or (is_attribute_on o) (get m u) false) (keys m) t (Contains-keys m t (ap is_some is))
    (ap (λ e. option_map_or (is_attribute_on o) e false) is ∙ same_itself o)

-- ---- these tags with those of their attributes

pub with_attributes-cases : (m : EntityMap) (ts : List Tag) (t : Tag) → Contains (with_attributes m ts) t → (P : Type 0) → (Contains ts t → P) → ((o : Tag) → Contains ts o → IsAttributeIn m o t → P) → P
with_attributes-cases m ts t k P own on =
    ⊎_elim own (λ (r : Contains (flat_map (attributes_on m) ts) t). one_of ts r on) (Contains-append_cases ts (flat_map (attributes_on m) ts) t k)
  where
    one_of : (us : List Tag) → Contains (flat_map (attributes_on m) us) t → ((o : Tag) → Contains us o → IsAttributeIn m o t → P) → P
    one_of [] r h = absurd (not_in_nil t r)
    one_of (u ∷ us) r h =
        ⊎_elim (λ (a : Contains (attributes_on m u) t). h u (Contains-first u us) (attribute-in m u t a))
        (λ (b : Contains (flat_map (attributes_on m) us) t). one_of us b (λ o c. h o (Contains-later u us o c)))
        (Contains-append_cases (attributes_on m u) (flat_map (attributes_on m) us) t r)

pub with_attributes-own : (m : EntityMap) (ts : List Tag) (t : Tag) → Contains ts t → Contains (with_attributes m ts) t
with_attributes-own m ts t k = Contains-append_left ts (flat_map (attributes_on m) ts) t k

pub with_attributes-on : (m : EntityMap) (ts : List Tag) (o t : Tag) → Contains ts o → IsAttributeIn m o t → Contains (with_attributes m ts) t
with_attributes-on m ts o t k is = Contains-append_right ts (flat_map (attributes_on m) ts) t (Contains-flat_map (attributes_on m) ts o t k (in-attributes m o t is))

-- no attribute has come
abbrev pub GainsNoAttribute : EntityMap → EntityMap → Type 0
GainsNoAttribute m n = (o t : Tag) → IsAttributeIn n o t → IsAttributeIn m o t

-- these are among those, where their attributes were so before
pub with_attributes-within : (m n : EntityMap) (ts us : List Tag) → ((t : Tag) → Contains us t → Contains ts t)
    → ((o t : Tag) → Contains us o → IsAttributeIn n o t → IsAttributeIn m o t) → (t : Tag) → Contains (with_attributes n us) t → Contains (with_attributes m ts) t
with_attributes-within m n ts us within were t k =
    with_attributes-cases n us t k (Contains (with_attributes m ts) t) (λ own. with_attributes-own m ts t (within t own)) (λ o c is. with_attributes-on m ts o t (within o c) (were o t c is))

-- what dies with one of these is among what dies with all of them
pub death-among : (m n : EntityMap) (ts : List Tag) (k : Tag) → GainsNoAttribute m n → Contains ts k → (t : Tag) → Contains (k ∷ attributes_on n k) t → Contains (with_attributes m ts) t
death-among m n ts k were among t h = ⊎_elim {C = Contains (with_attributes m ts) t}
    (λ (e : k ≡ t). with_attributes-own m ts t (subst (Contains ts) e among))
    (λ (r : Contains (attributes_on n k) t). with_attributes-on m ts k t among (were k t (attribute-in n k t r)))
    (Contains-cases k (attributes_on n k) t h)

-- ---- what stays

-- an entity that is no attribute
abbrev pub IsPlain : Entity → Type 0
IsPlain e = (o : Tag) → is_attribute_on o e ≡ false

pub unless-none : (ts : List Tag) → unless_on_any ts None ≡ None
unless-none [] = refl
unless-none (t ∷ ts) = unless-none ts

pub unless-plain : (ts : List Tag) (e : Entity) → IsPlain e → unless_on_any ts (Some e) ≡ Some e
unless-plain [] e h = refl
unless-plain (t ∷ ts) e h = ap (λ b. unless_on_any ts (cond b None (Some e))) (h t) ∙ unless-plain ts e h

pub unless-other : (ts : List Tag) (o : Tag) (name : Name) (value : ℤ) → NoneOf o ts → unless_on_any ts (Some (entity.Attr o name value)) ≡ Some (entity.Attr o name value)
unless-other [] o name value h = refl
unless-other (t ∷ ts) o name value h =
    ap (λ b. unless_on_any ts (cond b None (Some (entity.Attr o name value)))) (not_same o t h.0) ∙ unless-other ts o name value h.1

pub unless-owned : (ts : List Tag) (o : Tag) (name : Name) (value : ℤ) → Contains ts o → unless_on_any ts (Some (entity.Attr o name value)) ≡ None
unless-owned [] o name value k = absurd (not_in_nil o k)
unless-owned (t ∷ ts) o name value k =
    ⊎_elim (λ (same : same_tag o t ≡ true). ap (λ b. unless_on_any ts (cond b None (Some (entity.Attr o name value)))) same ∙ unless-none ts)
    (λ (other : same_tag o t ≡ false). ap (λ b. unless_on_any ts (cond b None (Some (entity.Attr o name value)))) other
    ∙ unless-owned ts o name value (⊎_elim (λ (e : t ≡ o). absurd (true≢false (sym (ap (same_tag o) e ∙ same_itself o) ∙ other))) (λ (r : Contains ts o). r) (Contains-cases t ts o k)))
    (cases_Bool (same_tag o t))

-- what is no attribute of these stays
pub unless-spared : (ts : List Tag) (e : Option Entity) → ((owner : Tag) (name : Name) (value : ℤ) → e ≡ Some (entity.Attr owner name value) → NoneOf owner ts) → unless_on_any ts e ≡ e
unless-spared ts None h = unless-none ts
unless-spared ts (Some (entity.Attr owner name value)) h = unless-other ts owner name value (h owner name value refl)
unless-spared ts (Some (entity.Body shell)) h = unless-plain ts (entity.Body shell) (λ o. refl)
unless-spared ts (Some (entity.Shell body q)) h = unless-plain ts (entity.Shell body q) (λ o. refl)
unless-spared ts (Some (entity.Face shell outer)) h = unless-plain ts (entity.Face shell outer) (λ o. refl)
unless-spared ts (Some (entity.Loop face first vertex)) h = unless-plain ts (entity.Loop face first vertex) (λ o. refl)
unless-spared ts (Some (entity.Fin l next prev mate edge vertex)) h = unless-plain ts (entity.Fin l next prev mate edge vertex) (λ o. refl)
unless-spared ts (Some (entity.Edge body fin)) h = unless-plain ts (entity.Edge body fin) (λ o. refl)
unless-spared ts (Some (entity.Vertex body point)) h = unless-plain ts (entity.Vertex body point) (λ o. refl)

unless-one : (t : Tag) (e : Option Entity) (x : Entity) → unless_on t e ≡ Some x → e ≡ Some x
unless-one t None x h = absurd (cc)
unless-one t (Some e) x h = by_test (is_attribute_on t e) h
  where
    by_test : (b : Bool) → cond b None (Some e) ≡ Some x → Some e ≡ Some x
    by_test true i = absurd (cc)
    by_test false i = i

-- what is left was there
pub unless-was : (ts : List Tag) (e : Option Entity) (x : Entity) → unless_on_any ts e ≡ Some x → e ≡ Some x
unless-was [] e x h = h
unless-was (t ∷ ts) e x h = unless-one t e x (unless-was ts (unless_on t e) x h)

-- fins stay as they are
pub unless-fin : (ts : List Tag) (e : Option Entity) → option_and_then as_fin (unless_on_any ts e) ≡ option_and_then as_fin e
unless-fin [] e = refl
unless-fin (t ∷ ts) e = unless-fin ts (unless_on t e) ∙ one e
  where
    one : (o : Option Entity) → option_and_then as_fin (unless_on t o) ≡ option_and_then as_fin o
    one None = refl
    one (Some (entity.Attr owner name value)) = elim (same_tag owner t) as (λ b. option_and_then as_fin (cond b None (Some (entity.Attr owner name value))) ≡ None) [ true ↦ refl | false ↦ refl ]
    one (Some (entity.Body shell)) = refl
    one (Some (entity.Shell body q)) = refl
    one (Some (entity.Face shell outer)) = refl
    one (Some (entity.Loop face first vertex)) = refl
    one (Some (entity.Fin l next prev mate edge vertex)) = refl
    one (Some (entity.Edge body fin)) = refl
    one (Some (entity.Vertex body point)) = refl

-- ---- maps

-- what is left was there
pub kills-was : (m n : EntityMap) (ts : List Tag) → Kills m ts n → (t : Tag) (x : Entity) → get n t ≡ Some x → get m t ≡ Some x
kills-was m n ts h t x is = ⊎_elim
    (λ (k : Contains ts t). let both : None ≡ Some x = sym (ByRecursion-at (λ u. get n u ≡ None) ts t h.dead k) ∙ is in absurd (cc))
    (λ (r : NoneOf t ts). unless-was ts (get m t) x (sym (h.others t r) ∙ is))
    (among_or_none t ts)

pub kills-attribute : (m n : EntityMap) (ts : List Tag) → Kills m ts n → GainsNoAttribute m n
kills-attribute m n ts h o t (name, value, is) = (name, value, kills-was m n ts h t (entity.Attr o name value) is)

-- what died stays dead
pub kills-none : (m n : EntityMap) (ts : List Tag) → Kills m ts n → (t : Tag) → get m t ≡ None → get n t ≡ None
kills-none m n ts h t is = ⊎_elim (λ (k : Contains ts t). ByRecursion-at (λ u. get n u ≡ None) ts t h.dead k)
    (λ (r : NoneOf t ts). h.others t r ∙ ap (unless_on_any ts) is ∙ unless-none ts)
    (among_or_none t ts)

unless-append : (ts us : List Tag) (e : Option Entity) → unless_on_any (ts ++ us) e ≡ unless_on_any us (unless_on_any ts e)
unless-append [] us e = refl
unless-append (t ∷ ts) us e = unless-append ts us (unless_on t e)

pub kills-then : (a b c : EntityMap) (ts us : List Tag) → Kills a ts b → Kills b us c → Kills a (ts ++ us) c
kills-then a b c ts us h k = record {
  dead = ByRecursion-append (λ t. get c t ≡ None) ts us (ByRecursion-weaker (λ t. get b t ≡ None) (λ t. get c t ≡ None) (λ t is. kills-none b c us k t is) ts h.dead) k.dead;
  others = λ t none. k.others t (ByRecursion-right (λ u. t ≢ u) ts us none) ∙ ap (unless_on_any us) (h.others t (ByRecursion-left (λ u. t ≢ u) ts us none)) ∙ sym (unless-append ts us (get a t));
}

-- ---- one death, and then the others

-- the owner's attributes are dropped, and then it dies
pub dies-put : (a b c : EntityMap) (t : Tag) → DropsAttributes a t b → c ≡ with_entity b t None → Dies a t c
dies-put a b c t drops dies = record {
  gone = ap (λ m. get m t) dies ∙ get_put b t None;
  others = λ u other. ap (λ m. get m u) dies ∙ get_other b t None u other ∙ drops u;
}

pub kills-one : (m n : EntityMap) (t : Tag) → Dies m t n → Kills m (t ∷ []) n
kills-one m n t h = record { dead = (h.gone, tt); others = λ u none. h.others u none.0 }

-- ---- what the dead were, and who lives on

-- where the map has an attribute at the tag, its owner is none of these
abbrev pub LivesOn : EntityMap → List Tag → Tag → Type 0
LivesOn m ts t = (owner : Tag) (name : Name) (value : ℤ) → get m t ≡ Some (entity.Attr owner name value) → NoneOf owner ts

module _ (m n : EntityMap) (ts : List Tag) (h : Kills m ts n) where
  pub kills-dead : (t : Tag) → Contains ts t → get n t ≡ None
  kills-dead t k = ByRecursion-at (λ u. get n u ≡ None) ts t h.dead k

  pub kills-stays : (t : Tag) → NoneOf t ts → LivesOn m ts t → get n t ≡ get m t
  kills-stays t none lives = h.others t none ∙ unless-spared ts (get m t) lives

  pub kills-owned : (t owner : Tag) (name : Name) (value : ℤ) → get m t ≡ Some (entity.Attr owner name value) → Contains ts owner → get n t ≡ None
  kills-owned t owner name value is k = ⊎_elim {C = get n t ≡ None}
      (λ (c : Contains ts t). kills-dead t c)
      (λ (none : NoneOf t ts). h.others t none ∙ ap (unless_on_any ts) is ∙ unless-owned ts owner name value k)
      (among_or_none t ts)

-- ---- attributes of a shape

-- an item that is shown as an attribute is one
pub shown-attribute : (S : Shape) (m : EntityMap) (t : Tag) (x : Item) (o : Tag) (name : Name) (value : ℤ) → Shows S m t x → get m t ≡ Some (entity.Attr o name value) → x ≡ Attr o name value
shown-attribute S m t (Attr owner n v) o name value h is =
    let both : Some (entity.Attr owner n v) ≡ Some (entity.Attr o name value) = sym h ∙ is in
    let owner_is : owner ≡ o = cc in
    let name_is : n ≡ name = cc in
    let value_is : v ≡ value = cc in
    λ i. Attr (owner_is i) (name_is i) (value_is i)
shown-attribute S m t (Body shell) o name value h is = let both : Some (entity.Body shell) ≡ Some (entity.Attr o name value) = sym h ∙ is in absurd (cc)
shown-attribute S m t (Shell body q) o name value h is = let both : Some (entity.Shell body q) ≡ Some (entity.Attr o name value) = sym h ∙ is in absurd (cc)
shown-attribute S m t (Face shell outer) o name value h is = let both : Some (entity.Face shell outer) ≡ Some (entity.Attr o name value) = sym h ∙ is in absurd (cc)
shown-attribute S m t (Loop face fins vertex) o name value h is = let both : Some (entity.Loop face (first_tag fins) vertex) ≡ Some (entity.Attr o name value) = sym h.0 ∙ is in absurd (cc)
shown-attribute S m t (Fin mate edge vertex) o name value h is = let both : Some (entity.Fin h.0 h.1 h.2 mate edge vertex) ≡ Some (entity.Attr o name value) = sym h.3 ∙ is in absurd (cc)
shown-attribute S m t (Edge body) o name value h is = let both : Some (entity.Edge body h.0) ≡ Some (entity.Attr o name value) = sym h.1 ∙ is in absurd (cc)
shown-attribute S m t (Vertex body point) o name value h is = let both : Some (entity.Vertex body point) ≡ Some (entity.Attr o name value) = sym h ∙ is in absurd (cc)

-- an item that dies as an attribute of these is one, of one of them
pub attribute-of : (ks : List Tag) (x : Item) → is_attribute_of ks x ≡ true → (o : Tag) × (name : Name) × (value : ℤ) × (x ≡ Attr o name value) × Contains ks o
attribute-of ks (Attr owner name value) h = (owner, name, value, refl, in-is_among owner ks h)
attribute-of ks (Body shell) h = absurd (cc)
attribute-of ks (Shell body q) h = absurd (cc)
attribute-of ks (Face shell outer) h = absurd (cc)
attribute-of ks (Loop face fins vertex) h = absurd (cc)
attribute-of ks (Fin mate edge vertex) h = absurd (cc)
attribute-of ks (Edge body) h = absurd (cc)
attribute-of ks (Vertex body point) h = absurd (cc)
