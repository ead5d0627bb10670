-- An entity that may have attributes, and the attribute that it has of a name: on the map and on its shape.
use Rattle.std.proofs.Common.{◌≡◌, ⊎_elim, true, false, List, [], Option, Some, None, Err, refl, sym, ap, subst, ◌∙◌}
use Rattle.std.specs.Prelude.{ℤ, option_map, Contains, IsOk}
use Rattle.std.specs.FinMap.{entries, get}
use Rattle.pk_base.specs.declared.tag.Tag.{Tag}
use Rattle.pk_base.specs.declared.refusal.Refusal.TheVariants.{NoSuchTag, WrongClass}
use Rattle.pk_base.specs.declared.entity.Name.{Name}
use Rattle.pk_base.specs.declared.entity.Class.TheVariants as class
use Rattle.pk_base.specs.declared.entity.Entity.{Entity}
use Rattle.pk_base.specs.declared.entity.Entity.TheVariants as entity
use Rattle.pk_model.specs.Maps.{EntityMap}
use Rattle.solid_model.specs.Items.{Item, item_at}
use Rattle.solid_model.specs.Items.Item.{Attr}
use Rattle.solid_model.specs.Attributes.{as_owner, attribute_named, owner_of_attributes_at}
use Rattle.solid_model.specs.Places.{asked}
use Rattle.solid_model.specs.Shapes.{item_of, shape_of}
use Rattle.solid_model.specs.Sound.{IsSound}
use Rattle.solid_sound.proofs.rows.KeptAttributes.{attribute_named-none, attribute_named-some}
use Rattle.solid_sound.proofs.shapes.Found.{none_or_some, none_where}
use Rattle.list_facts.proofs.Elements.{not_in_nil}
use Rattle.solid_sound.proofs.rows.RowKeeps.{well-shape}
use Rattle.solid_calls.proofs.Deaths.{item-mapped}
use Rattle.attributes.specs.Entities.{is_attribute, is_named}
use Rattle.attributes.proofs.Walked.{AllNamed, IsKidOf, Kid, named-among}

-- ---- owners

pub item-here : (m : EntityMap) (t : Tag) (o : Option Entity) → get m t ≡ o → item_at (shape_of m) t ≡ option_map (item_of (entries m)) o
item-here m t o is = item-mapped m t ∙ ap (option_map (item_of (entries m))) is

pub not_live : (m : EntityMap) (t : Tag) → get m t ≡ None → owner_of_attributes_at (shape_of m) t ≡ Err (NoSuchTag t)
not_live m t is = ap (asked as_owner t) (item-here m t None is)

pub an_attribute : (m : EntityMap) (t : Tag) (e : Entity) → get m t ≡ Some e → is_attribute e ≡ true → owner_of_attributes_at (shape_of m) t ≡ Err (WrongClass t class.Attr)
an_attribute m t (entity.Attr owner name value) is h = ap (asked as_owner t) (item-here m t (Some (entity.Attr owner name value)) is)
an_attribute m t (entity.Body shell) is h = absurd (cc)
an_attribute m t (entity.Shell body q) is h = absurd (cc)
an_attribute m t (entity.Face shell outer) is h = absurd (cc)
an_attribute m t (entity.Loop face first vertex) is h = absurd (cc)
an_attribute m t (entity.Fin l next prev mate edge vertex) is h = absurd (cc)
an_attribute m t (entity.Edge body fin) is h = absurd (cc)
an_attribute m t (entity.Vertex body point) is h = absurd (cc)

asked_ok : (m : EntityMap) (t : Tag) (e : Entity) → is_attribute e ≡ false → IsOk (asked as_owner t (Some (item_of (entries m) e)))
asked_ok m t (entity.Attr owner name value) h = absurd (cc)
asked_ok m t (entity.Body shell) h = refl
asked_ok m t (entity.Shell body q) h = refl
asked_ok m t (entity.Face shell outer) h = refl
asked_ok m t (entity.Loop face first vertex) h = refl
asked_ok m t (entity.Fin l next prev mate edge vertex) h = refl
asked_ok m t (entity.Edge body fin) h = refl
asked_ok m t (entity.Vertex body point) h = refl

pub an_owner : (m : EntityMap) (t : Tag) (e : Entity) → get m t ≡ Some e → is_attribute e ≡ false → IsOk (owner_of_attributes_at (shape_of m) t)
an_owner m t e is h = subst (λ (o : Option Item). IsOk (asked as_owner t o)) (sym (item-here m t (Some e) is)) (asked_ok m t e h)

-- ---- the attribute of a name

pub live-item : (m : EntityMap) (t owner : Tag) (name : Name) (value : ℤ) → get m t ≡ Some (entity.Attr owner name value) → item_at (shape_of m) t ≡ Some (Attr owner name value)
live-item m t owner name value is = item-here m t (Some (entity.Attr owner name value)) is

entity_by : (fs : List (Tag × Entity)) (o : Option Entity) (owner : Tag) (name : Name) (value : ℤ) → option_map (item_of fs) o ≡ Some (Attr owner name value) → o ≡ Some (entity.Attr owner name value)
entity_by fs None owner name value h = absurd (cc)
entity_by fs (Some (entity.Attr o n v)) owner name value h = cc
entity_by fs (Some (entity.Body shell)) owner name value h = absurd (cc)
entity_by fs (Some (entity.Shell body q)) owner name value h = absurd (cc)
entity_by fs (Some (entity.Face shell outer)) owner name value h = absurd (cc)
entity_by fs (Some (entity.Loop face first vertex)) owner name value h = absurd (cc)
entity_by fs (Some (entity.Fin l next prev mate edge vertex)) owner name value h = absurd (cc)
entity_by fs (Some (entity.Edge body fin)) owner name value h = absurd (cc)
entity_by fs (Some (entity.Vertex body point)) owner name value h = absurd (cc)

pub item-live : (m : EntityMap) (t owner : Tag) (name : Name) (value : ℤ) → item_at (shape_of m) t ≡ Some (Attr owner name value) → get m t ≡ Some (entity.Attr owner name value)
item-live m t owner name value h = entity_by (entries m) (get m t) owner name value (sym (item-mapped m t) ∙ h)

-- a kid of the name is the one that the owner has
pub named-found : (m : EntityMap) (owner : Tag) (name : Name) (k : Kid) → IsSound m → IsKidOf m owner k → is_named name k.1 ≡ true → attribute_named (shape_of m) owner name ≡ Some k.0
named-found m owner name k sound kid named =
    let e = named-among owner name k.1 named kid.owned in
    let here = live-item m k.0 owner name e.0 (kid.live ∙ ap Some e.1) in
    ⊎_elim (λ (none : attribute_named (shape_of m) owner name ≡ None). absurd (attribute_named-none (shape_of m) owner name none k.0 e.0 here))
    (λ (some : (t : Tag) × (attribute_named (shape_of m) owner name ≡ Some t)).
    let well = well-shape m sound in
    let there = attribute_named-some (shape_of m) well.written.ascends owner name some.0 some.1 in
    some.1 ∙ ap Some (well.sound.attributes.one some.0 k.0 owner name there.0 e.0 there.1 here))
    (none_or_some (attribute_named (shape_of m) owner name))

-- where no kid of the name is left, the owner has none
pub named-none : (m : EntityMap) (owner : Tag) (name : Name) (ks : List Kid) → IsSound m → AllNamed m owner name ks → ks ≡ [] → attribute_named (shape_of m) owner name ≡ None
named-none m owner name ks sound all is =
    none_where (attribute_named (shape_of m) owner name) (λ t some.
    let there = attribute_named-some (shape_of m) (well-shape m sound).written.ascends owner name t some in
    let kid : IsKidOf m owner (t, entity.Attr owner name there.0) = record { live = item-live m t owner name there.0 there.1; owned = refl } in
    not_in_nil (t, entity.Attr owner name there.0) (subst (λ l. Contains l (t, entity.Attr owner name there.0)) is (all t there.0 kid)))
