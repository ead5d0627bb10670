-- The rows set and drop keep soundness.
use Rattle.std.proofs.Common.{◌≡◌, ◌≢◌, ℕ, ◌≤◌, ◌⊎◌, inl, inr, ⊎_elim, Bool, true, false, not, List, [], ◌∷◌, Option, Some, None, Ok, refl, sym, ap, ◌∙◌, arith}
use Rattle.std.specs.Prelude.{T, ℤ, ◌&&◌, find, filter, length, option_map, Contains, IsTrue}
use Rattle.std.specs.Option.{option_map_or}
use Rattle.std.specs.List.{AllByRecursion}
use Rattle.std.specs.FinMap.{is_sorted, put}
use Rattle.std.specs.FinMap.Entries.{is_sorted-put}
use Rattle.std.proofs.lemmas.Bool.{true≢false, cases_Bool, and_parts, or_cases, not-false}
use Rattle.std.proofs.lemmas.Option.{same_Some}
use Rattle.pk_base.specs.Entity.{same_tag, same_name}
use Rattle.pk_base.proofs.Same.{same_name-Decides, same_means, same_itself, same_or_other}
use Rattle.pk_base.specs.declared.tag.Tag.{Tag}
use Rattle.pk_base.specs.declared.entity.Name.{Name}
use Rattle.pk_base.specs.declared.entity.Class.{Class}
use Rattle.pk_base.specs.declared.entity.Class.TheVariants as class
use Rattle.pk_model.specs.Maps.{tag_cmp}
use Rattle.pk_model.specs.Tags.{tag_at}
use Rattle.pk_model.proofs.TagLists.{tag_total}
use Rattle.solid_model.specs.Items.{Item, Shape, item_at, class_of_item}
use Rattle.solid_model.specs.Items.Item.{Body, Shell, Face, Loop, Fin, Edge, Vertex, Attr}
use Rattle.solid_model.specs.Rings.{is_among}
use Rattle.solid_model.specs.Deaths.{is_attribute_of, dies_with}
use Rattle.solid_model.specs.Places.{asked}
use Rattle.solid_model.specs.Ranges.{is_coordinate, coordinates_of}
use Rattle.solid_model.specs.Attributes.{as_owner, is_attribute_named, attribute_named, owner_of_attributes_at}
use Rattle.solid_model.specs.SetAttr.{set_in, set_attribute}
use Rattle.solid_model.specs.DropAttr.{dropped, drop_attribute}
use Rattle.solid_model.specs.Sound.{HasAttributes, class_at}
use Rattle.list_facts.proofs.Elements.{not_in_nil, Contains-cases}
use Rattle.list_facts.proofs.Each.{ByRecursion-at}
use Rattle.solid_model.proofs.lists.Neighbours.{in-is_among}
use Rattle.solid_sound.proofs.shapes.Lookups.{put-same, put-other, filter-was, filter-kept, filter-sorted}
use Rattle.solid_sound.proofs.shapes.Found.{none_or_some, find-some, find-none, among-item, item-among, filter-none, filter-lost}
use Rattle.solid_sound.proofs.shapes.Sums.{sum-put, sum-left}
use Rattle.solid_sound.proofs.shapes.Bones.{bone, bone_of, SameBones, class_forth, bones-sound, bones-written}
use Rattle.solid_sound.proofs.rows.RowKeeps.{IsWell, Keeps, keeps-bind}

-- ---- the attribute of a name

attribute_by : (owner : Tag) (name : Name) (x : Item) → is_attribute_named owner name x ≡ true → (v : ℤ) × (x ≡ Attr owner name v)
attribute_by owner name (Attr o n v) h =
    let both = and_parts (same_tag o owner) (same_name n name) h in
    (v, λ i. Attr (same_means o owner both.0 i) ((same_name-Decides n name).0 both.1 i) v)
attribute_by owner name (Body shell) h = absurd (cc)
attribute_by owner name (Shell body q) h = absurd (cc)
attribute_by owner name (Face shell outer) h = absurd (cc)
attribute_by owner name (Loop face fins vertex) h = absurd (cc)
attribute_by owner name (Fin mate edge vertex) h = absurd (cc)
attribute_by owner name (Edge body) h = absurd (cc)
attribute_by owner name (Vertex body point) h = absurd (cc)

both_true : (a b : Bool) → a ≡ true → b ≡ true → a && b ≡ true
both_true a b h k = λ i. h i && k i

is_named : (owner : Tag) (name : Name) (v : ℤ) → is_attribute_named owner name (Attr owner name v) ≡ true
is_named owner name v = both_true (same_tag owner owner) (same_name name name) (same_itself owner) ((same_name-Decides name name).1 refl)

named_by_found : (S : Shape) → T (is_sorted tag_cmp S) → (owner : Tag) (name : Name) (t : Tag) (o : Option (Tag × Item)) → find (λ (x : Tag × Item). is_attribute_named owner name x.1) S ≡ o
    → option_map (λ (x : Tag × Item). x.0) o ≡ Some t → (v : ℤ) × (item_at S t ≡ Some (Attr owner name v))
named_by_found S sorted owner name t None is h = absurd (cc)
named_by_found S sorted owner name t (Some x) is h =
    let found = find-some (λ (y : Tag × Item). is_attribute_named owner name y.1) S x is in
    let a = attribute_by owner name x.1 found.0 in
    let here : x.0 ≡ t = same_Some x.0 t h in
    (a.0, ap (item_at S) (sym here) ∙ among-item S sorted x.0 x.1 found.1 ∙ ap Some a.1)

pub attribute_named-some : (S : Shape) → T (is_sorted tag_cmp S) → (owner : Tag) (name : Name) (t : Tag) → attribute_named S owner name ≡ Some t → (v : ℤ) × (item_at S t ≡ Some (Attr owner name v))
attribute_named-some S sorted owner name t h = named_by_found S sorted owner name t _ refl h

none_by_found : (S : Shape) (owner : Tag) (name : Name) (o : Option (Tag × Item)) → find (λ (x : Tag × Item). is_attribute_named owner name x.1) S ≡ o
    → option_map (λ (x : Tag × Item). x.0) o ≡ None → (t : Tag) (v : ℤ) → item_at S t ≢ Some (Attr owner name v)
none_by_found S owner name (Some x) is h t v e = absurd (cc)
none_by_found S owner name None is h t v e =
    true≢false (sym (is_named owner name v) ∙ ByRecursion-at (λ (x : Tag × Item). is_attribute_named owner name x.1 ≡ false) S (t, Attr owner name v)
    (find-none (λ (x : Tag × Item). is_attribute_named owner name x.1) S is) (item-among S t (Attr owner name v) e))

pub attribute_named-none : (S : Shape) (owner : Tag) (name : Name) → attribute_named S owner name ≡ None → (t : Tag) (v : ℤ) → item_at S t ≢ Some (Attr owner name v)
attribute_named-none S owner name h = none_by_found S owner name _ refl h

-- ---- set

owner_by : (t : Tag) (o : Option Item) (x : Item) → asked as_owner t o ≡ Ok x → (c : Class) × (option_map class_of_item o ≡ Some c) × (c ≢ class.Attr)
owner_by t None x h = absurd (cc)
owner_by t (Some (Body shell)) x h = (class.Body, refl, λ e. cc)
owner_by t (Some (Shell body q)) x h = (class.Shell, refl, λ e. cc)
owner_by t (Some (Face shell outer)) x h = (class.Face, refl, λ e. cc)
owner_by t (Some (Loop face fins vertex)) x h = (class.Loop, refl, λ e. cc)
owner_by t (Some (Fin mate edge vertex)) x h = (class.Fin, refl, λ e. cc)
owner_by t (Some (Edge body)) x h = (class.Edge, refl, λ e. cc)
owner_by t (Some (Vertex body point)) x h = (class.Vertex, refl, λ e. cc)
owner_by t (Some (Attr owner name value)) x h = absurd (cc)

counts_by_bone : (h : Item → ℕ) (o : Option Item) → option_map_or (λ x. option_map_or h (bone x) 0) o 0 ≡ option_map_or h (bone_of o) 0
counts_by_bone h None = refl
counts_by_bone h (Some x) = refl

-- an attribute that is written where none but this one stands
module _ (S : Shape) (well : IsWell S) (t owner : Tag) (name : Name) (value : ℤ)
    (owned : (c : Class) × (class_at S owner ≡ Some c) × (c ≢ class.Attr))
    (bare : bone_of (item_at S t) ≡ None)
    (only : (b : Tag) (w : ℤ) → item_at S b ≡ Some (Attr owner name w) → b ≡ t) where
  same_bones : SameBones S (put tag_cmp t (Attr owner name value) S)
  same_bones = record {
    ascends = is_sorted-put tag_cmp tag_total t (Attr owner name value) S well.written.ascends;
    at = λ q. ⊎_elim
        (λ (e : q ≡ t). ap (λ u. bone_of (item_at (put tag_cmp t (Attr owner name value) S) u)) e ∙ ap bone_of (put-same S t (Attr owner name value)) ∙ sym bare ∙ ap (λ u. bone_of (item_at S u)) (sym e))
        (λ (n : q ≢ t). ap bone_of (put-other S t q (Attr owner name value) n))
        (same_or_other q t);
    sums = λ w.
        let sum = sum-put (λ x. option_map_or (w x.0) (bone x.1) 0) S t (Attr owner name value) well.written.ascends in
        let none : option_map_or (λ x. option_map_or (w t) (bone x) 0) (item_at S t) 0 ≡ 0 = counts_by_bone (w t) (item_at S t) ∙ ap (λ o. option_map_or (w t) o 0) bare in
        omega (arith, sum, none);
  }

  -- the attribute itself, or one that was
  attribute_was : (b o : Tag) (n : Name) (w : ℤ) → item_at (put tag_cmp t (Attr owner name value) S) b ≡ Some (Attr o n w)
      → ((b ≡ t) × (owner ≡ o) × (name ≡ n)) ⊎ (item_at S b ≡ Some (Attr o n w))
  attribute_was b o n w e = ⊎_elim {C = ((b ≡ t) × (owner ≡ o) × (name ≡ n)) ⊎ (item_at S b ≡ Some (Attr o n w))}
      (λ (l : b ≡ t).
      let found : Some (Attr owner name value) ≡ Some (Attr o n w) = sym (put-same S t (Attr owner name value)) ∙ ap (item_at (put tag_cmp t (Attr owner name value) S)) (sym l) ∙ e in
      let o_is : owner ≡ o = cc in
      let n_is : name ≡ n = cc in
      inl (l, o_is, n_is))
      (λ (r : b ≢ t). inr (sym (put-other S t b (Attr owner name value) r) ∙ e))
      (same_or_other b t)

  attributes : HasAttributes (put tag_cmp t (Attr owner name value) S)
  attributes = record {
    owned = λ b o n w e. ⊎_elim {C = (c : Class) × (class_at (put tag_cmp t (Attr owner name value) S) o ≡ Some c) × (c ≢ class.Attr)}
        (λ (l : (b ≡ t) × (owner ≡ o) × (name ≡ n)). (owned.0, ap (class_at (put tag_cmp t (Attr owner name value) S)) (sym l.1) ∙ class_forth S _ well.written well.sound same_bones owner owned.0 owned.2 owned.1, owned.2))
        (λ (r : item_at S b ≡ Some (Attr o n w)). let was = well.sound.attributes.owned b o n w r in (was.0, class_forth S _ well.written well.sound same_bones o was.0 was.2 was.1, was.2))
        (attribute_was b o n w e);
    one = λ b d o n v w e f. ⊎_elim {C = b ≡ d}
        (λ (l : (b ≡ t) × (owner ≡ o) × (name ≡ n)). ⊎_elim {C = b ≡ d}
        (λ (m : (d ≡ t) × (owner ≡ o) × (name ≡ n)). l.0 ∙ sym m.0)
        (λ (r : item_at S d ≡ Some (Attr o n w)). l.0 ∙ sym (only d w (r ∙ λ i. Some (Attr (sym l.1 i) (sym l.2 i) w))))
        (attribute_was d o n w f))
        (λ (r : item_at S b ≡ Some (Attr o n v)). ⊎_elim {C = b ≡ d}
        (λ (m : (d ≡ t) × (owner ≡ o) × (name ≡ n)). only b v (r ∙ λ i. Some (Attr (sym m.1 i) (sym m.2 i) v)) ∙ sym m.0)
        (λ (k : item_at S d ≡ Some (Attr o n w)). well.sound.attributes.one b d o n v w r k)
        (attribute_was d o n w f))
        (attribute_was b o n v e);
  }

  pub attribute_written : IsWell (put tag_cmp t (Attr owner name value) S)
  attribute_written = record {
    written = bones-written S _ well.written well.sound same_bones;
    sound = bones-sound S _ well.written well.sound same_bones attributes (λ v body point e. ⊎_elim {C = AllByRecursion (λ c. IsTrue (is_coordinate c)) (coordinates_of point)}
        (λ (l : v ≡ t).
        let found : Some (Attr owner name value) ≡ Some (Vertex body point) = sym (put-same S t (Attr owner name value)) ∙ ap (item_at (put tag_cmp t (Attr owner name value) S)) (sym l) ∙ e in
        absurd (cc))
        (λ (r : v ≢ t). well.sound.measure.points v body point (sym (put-other S t v (Attr owner name value) r) ∙ e))
        (same_or_other v t));
  }

set_keeps_by : (S : Shape) (tags : List Tag) (owner : Tag) (name : Name) (value : ℤ) (o : Option Tag) → IsWell S → (1 ≤ length tags → item_at S (tag_at tags 0) ≡ None)
    → (c : Class) × (class_at S owner ≡ Some c) × (c ≢ class.Attr) → attribute_named S owner name ≡ o → Keeps tags (set_in S (Attr owner name value) o)
set_keeps_by S tags owner name value (Some t) well free owned is =
    let found = attribute_named-some S well.written.ascends owner name t is in
    attribute_written S well t owner name value owned (ap bone_of found.1) (λ b w e. well.sound.attributes.one b t owner name w found.0 e found.1)
set_keeps_by S tags owner name value None well free owned is = λ enough.
    attribute_written S well (tag_at tags 0) owner name value owned (ap bone_of (free enough)) (λ b w e. absurd (attribute_named-none S owner name is b w e))

pub set-keeps : (S : Shape) (tags : List Tag) (owner : Tag) (name : Name) (value : ℤ) → IsWell S → (1 ≤ length tags → item_at S (tag_at tags 0) ≡ None) → Keeps tags (set_attribute S owner name value)
set-keeps S tags owner name value well free = keeps-bind tags (owner_of_attributes_at S owner) (λ x. set_in S (Attr owner name value) (attribute_named S owner name))
    (λ x e. set_keeps_by S tags owner name value (attribute_named S owner name) well free (owner_by owner (item_at S owner) x e) refl)

-- ---- drop

-- only an attribute is killed
module _ (S : Shape) (well : IsWell S) (p : Tag × Item → Bool) (only : (t : Tag) (x : Item) → item_at S t ≡ Some x → p (t, x) ≡ false → bone x ≡ None) where
  left_bones : SameBones S (filter p S)
  left_bones = record {
    ascends = filter-sorted p S well.written.ascends;
    at = λ q. ⊎_elim {C = bone_of (item_at (filter p S) q) ≡ bone_of (item_at S q)}
        (λ (l : item_at S q ≡ None). ap bone_of (filter-none p S well.written.ascends q l ∙ sym l))
        (λ (r : (x : Item) × (item_at S q ≡ Some x)). ⊎_elim {C = bone_of (item_at (filter p S) q) ≡ bone_of (item_at S q)}
        (λ (k : p (q, r.0) ≡ true). ap bone_of (filter-kept p S q r.0 r.1 k ∙ sym r.1))
        (λ (d : p (q, r.0) ≡ false). ap bone_of (filter-lost p S well.written.ascends q r.0 r.1 d) ∙ sym (ap bone_of r.1 ∙ only q r.0 r.1 d))
        (cases_Bool (p (q, r.0))))
        (none_or_some (item_at S q));
    sums = λ w. sum-left (λ x. option_map_or (w x.0) (bone x.1) 0) p S well.written.ascends (λ t x e d. ap (λ o. option_map_or (w t) o 0) (only t x e d));
  }

  pub attributes_left : IsWell (filter p S)
  attributes_left = record {
    written = bones-written S _ well.written well.sound left_bones;
    sound = bones-sound S _ well.written well.sound left_bones
        (record {
          owned = λ b o n w e.
              let was = well.sound.attributes.owned b o n w (filter-was p S well.written.ascends b _ e).0 in
              (was.0, class_forth S _ well.written well.sound left_bones o was.0 was.2 was.1, was.2);
          one = λ b d o n v w e f. well.sound.attributes.one b d o n v w (filter-was p S well.written.ascends b _ e).0 (filter-was p S well.written.ascends d _ f).0;
        })
        (λ v body point e. well.sound.measure.points v body point (filter-was p S well.written.ascends v _ e).0);
  }

attribute-no_bone : (killed : List Tag) (x : Item) → is_attribute_of killed x ≡ true → bone x ≡ None
attribute-no_bone killed (Attr owner name value) h = refl
attribute-no_bone killed (Body shell) h = absurd (cc)
attribute-no_bone killed (Shell body q) h = absurd (cc)
attribute-no_bone killed (Face shell outer) h = absurd (cc)
attribute-no_bone killed (Loop face fins vertex) h = absurd (cc)
attribute-no_bone killed (Fin mate edge vertex) h = absurd (cc)
attribute-no_bone killed (Edge body) h = absurd (cc)
attribute-no_bone killed (Vertex body point) h = absurd (cc)

among_one : (q t : Tag) → is_among q (t ∷ []) ≡ true → t ≡ q
among_one q t h = ⊎_elim (λ (l : t ≡ q). l) (λ (r : Contains [] q). absurd (not_in_nil q r)) (Contains-cases t [] q (in-is_among q (t ∷ []) h))

drop_keeps_by : (S : Shape) (tags : List Tag) (owner : Tag) (name : Name) (o : Option Tag) → IsWell S → attribute_named S owner name ≡ o → Keeps tags (dropped S owner o)
drop_keeps_by S tags owner name None well is = tt
drop_keeps_by S tags owner name (Some t) well is =
    let found = attribute_named-some S well.written.ascends owner name t is in
    attributes_left S well (λ x. not (dies_with (t ∷ []) x)) (λ q x e d. ⊎_elim {C = bone x ≡ None}
    (λ (l : is_among q (t ∷ []) ≡ true).
    let same : x ≡ Attr owner name found.0 = same_Some x _ (sym e ∙ ap (item_at S) (sym (among_one q t l)) ∙ found.1) in
    ap bone same)
    (λ (r : is_attribute_of (t ∷ []) x ≡ true). attribute-no_bone (t ∷ []) x r)
    (or_cases (is_among q (t ∷ [])) (is_attribute_of (t ∷ []) x) (not-false (dies_with (t ∷ []) (q, x)) d)))

pub drop-keeps : (S : Shape) (tags : List Tag) (owner : Tag) (name : Name) → IsWell S → Keeps tags (drop_attribute S owner name)
drop-keeps S tags owner name well = keeps-bind tags (owner_of_attributes_at S owner) (λ x. dropped S owner (attribute_named S owner name))
    (λ x e. drop_keeps_by S tags owner name (attribute_named S owner name) well refl)
