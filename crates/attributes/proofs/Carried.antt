-- The two calls on attributes: their rows, the tag that is put, and what is done.
use Rattle.std.proofs.Common.{◌≡◌, ◌≢◌, ◌≤◌, List, [], ◌∷◌, ◌++◌, length, take, Option, Some, None, Result, Ok, Err, refl, sym, ap, subst, ◌∙◌, arith}
use Rattle.std.specs.Prelude.{ℤ, option_map, Contains, IsOk, IsTrue}
use Rattle.std.specs.FinMap.{entries, get}
use Rattle.std.specs.List.{AllByRecursion}
use Rattle.std.proofs.lemmas.List.Elements.{Contains-append_right}
use Rattle.std.proofs.lemmas.Option.{same_Some}
use Rattle.pk_base.specs.declared.tag.Tag.{Tag}
use Rattle.pk_base.specs.declared.call.Call.TheVariants.{DropAttr, SetAttr}
use Rattle.pk_base.specs.declared.refusal.Refusal.{Refusal}
use Rattle.pk_base.specs.declared.entity.Name.{Name}
use Rattle.pk_base.specs.declared.entity.Class.TheVariants as class
use Rattle.pk_base.specs.declared.entity.Entity.{Entity}
use Rattle.pk_base.specs.declared.entity.Entity.TheVariants as entity
use Rattle.pk_model.specs.Maps.{EntityMap, with_entity}
use Rattle.pk_model.specs.Step.{◌>>=◌}
use Rattle.pk_model.specs.Tags.{owns, tag_at}
use Rattle.list_facts.proofs.Each.{ByRecursion-weaker}
use Rattle.solid_model.specs.DropAttr.{drop_attribute}
use Rattle.solid_calls.proofs.RowKinds.{cost-changing, drop-changes}
use Rattle.solid_calls.proofs.Kept.{done-sound}
use Rattle.solid_model.specs.Rows.{cost_of, Row}
use Rattle.entity_store.specs.Recorder.{began}
use Rattle.entity_store.specs.Recording.{HasRoomFor, recorded_put}
use Rattle.entity_store.specs.Store.{IsHosted, Stored, StoreView}
use Rattle.solid_model.specs.Items.{Item, Shape, item_at, class_of_item, ◌with◌}
use Rattle.solid_model.specs.Items.Item.{Body, Shell, Face, Loop, Fin, Edge, Vertex, Attr}
use Rattle.solid_model.specs.Attributes.{as_owner, attribute_named, owner_of_attributes_at}
use Rattle.solid_model.specs.Deaths.{◌without◌}
use Rattle.solid_model.specs.DropAttr.{dropped}
use Rattle.solid_model.specs.Links.{links}
use Rattle.solid_model.specs.Places.{asked, of_class}
use Rattle.solid_model.specs.SetAttr.{set_in}
use Rattle.solid_model.specs.Shapes.{item_of, shape_of}
use Rattle.solid_model.specs.Room.{tags_put}
use Rattle.solid_model.specs.Sound.{IsSound, optional}
use Rattle.solid_sound.proofs.rows.Asked.{free_at, free_item}
use Rattle.solid_sound.proofs.rows.KeptAttributes.{attribute_named-some, drop-keeps, set-keeps}
use Rattle.list_facts.proofs.Elements.{Contains-first}
use Rattle.solid_sound.proofs.rows.RowKeeps.{IsWell, Keeps, well-shape}
use Rattle.solid_calls.specs.Pairs.{HasDone, MayDo, reached, row_on}
use Rattle.solid_calls.proofs.Deaths.{item-mapped}
use Rattle.solid_calls.proofs.Represented.{represents-sound}
use Rattle.entity_store.proofs.Room.{puts-one, room-for_one}
use Rattle.attributes.proofs.Found.{item-live}
use Rattle.attributes.proofs.Written.{HasNoFin, drop-links, no_fin-attribute, no_fin-free, set-links, with_attribute}

-- ---- the owner

bound : {A : Type 0} (r : Result A Refusal) (row : A → Row) → IsOk (r >>= row) → (x : A) × (r ≡ Ok x)
bound (Ok x) row h = (x, refl)
bound (Err e) row h = absurd (cc)

-- it is live, and no attribute
pub record IsOwner (m : EntityMap) (owner : Tag) : Type 0 where
  pub entity_ : Entity
  pub live : get m owner ≡ Some entity_
  pub item : Item
  pub item_is : item_at (shape_of m) owner ≡ Some item
  pub other : class_of_item item ≢ class.Attr

not_attribute : (x y : Item) → as_owner x ≡ Some y → class_of_item x ≢ class.Attr
not_attribute (Attr owner name value) y h = absurd (cc)
not_attribute (Body shell) y h = λ e. cc
not_attribute (Shell body q) y h = λ e. cc
not_attribute (Face shell outer) y h = λ e. cc
not_attribute (Loop face fins vertex) y h = λ e. cc
not_attribute (Fin mate edge vertex) y h = λ e. cc
not_attribute (Edge body) y h = λ e. cc
not_attribute (Vertex body point) y h = λ e. cc

asked_item : (t : Tag) (o : Option Item) (y : Item) → asked as_owner t o ≡ Ok y → (x : Item) × (o ≡ Some x) × (class_of_item x ≢ class.Attr)
asked_item t None y h = absurd (cc)
asked_item t (Some x) y h = (
  x,
  refl,
  elim (as_owner x) as (λ o. as_owner x ≡ o → of_class t x o ≡ Ok y → class_of_item x ≢ class.Attr) [
    | None ↦ λ is k. absurd (cc)
    | Some z ↦ λ is k. not_attribute x z is
  ] refl h,
)

entity_there : (fs : List (Tag × Entity)) (o : Option Entity) (x : Item) → option_map (item_of fs) o ≡ Some x → (e : Entity) × (o ≡ Some e)
entity_there fs None x h = absurd (cc)
entity_there fs (Some e) x h = (e, refl)

pub is-owner : (m : EntityMap) (owner : Tag) (row : Item → Row) → IsOk (owner_of_attributes_at (shape_of m) owner >>= row) → IsOwner m owner
is-owner m owner row goes =
    let found = bound (owner_of_attributes_at (shape_of m) owner) row goes in
    let x = asked_item owner (item_at (shape_of m) owner) found.0 found.1 in
    let e = entity_there (entries m) (get m owner) x.0 (sym (item-mapped m owner) ∙ x.1) in
    record { entity_ = e.0; live = e.1; item = x.0; item_is = x.1; other = x.2 }

pub set-row : (m : EntityMap) (owner : Tag) (name : Name) (value : ℤ) (o : Option Tag) → IsOk (row_on m (SetAttr owner name value)) → attribute_named (shape_of m) owner name ≡ o
    → row_on m (SetAttr owner name value) ≡ set_in (shape_of m) (Attr owner name value) o
set-row m owner name value o goes is =
    let found = bound (owner_of_attributes_at (shape_of m) owner) (λ x. set_in (shape_of m) (Attr owner name value) (attribute_named (shape_of m) owner name)) goes in
    ap (λ r. r >>= (λ (x : Item). set_in (shape_of m) (Attr owner name value) (attribute_named (shape_of m) owner name))) found.1
    ∙ ap (set_in (shape_of m) (Attr owner name value)) is

pub drop-row : (m : EntityMap) (owner : Tag) (name : Name) (o : Option Tag) → IsOk (row_on m (DropAttr owner name)) → attribute_named (shape_of m) owner name ≡ o
    → row_on m (DropAttr owner name) ≡ dropped (shape_of m) owner o
drop-row m owner name o goes is =
    let found = bound (owner_of_attributes_at (shape_of m) owner) (λ x. dropped (shape_of m) owner (attribute_named (shape_of m) owner name)) goes in
    ap (λ r. r >>= (λ (x : Item). dropped (shape_of m) owner (attribute_named (shape_of m) owner name))) found.1
    ∙ ap (dropped (shape_of m) owner) is

-- ---- the tag that is put

-- it is that of the name, or else the next one, which is free
abbrev pub IsTagFor : EntityMap → List Tag → Option Tag → Tag → Type 0
IsTagFor m tags (Some u) t = t ≡ u
IsTagFor m tags None t = (rest : List Tag) × (tags ≡ t ∷ rest) × (get m t ≡ None)

-- the attribute of the name, if there is one, and so the tag that is put
pub record IsChosen (m : EntityMap) (owner : Tag) (name : Name) (tags : List Tag) (t : Tag) : Type 0 where
  pub named : Option Tag
  pub named_is : attribute_named (shape_of m) owner name ≡ named
  pub is : IsTagFor m tags named t

pub chosen-named : (m : EntityMap) (owner : Tag) (name : Name) (tags : List Tag) (t u : Tag) → attribute_named (shape_of m) owner name ≡ Some u → t ≡ u → IsChosen m owner name tags t
chosen-named m owner name tags t u is same = record { named = Some u; named_is = is; is = same }

pub chosen-next : (m : EntityMap) (owner : Tag) (name : Name) (tags rest : List Tag) (t u : Tag) → attribute_named (shape_of m) owner name ≡ None → t ≡ u → tags ≡ u ∷ rest → AllByRecursion (λ v. get m v ≡ None) tags
    → IsChosen m owner name tags t
chosen-next m owner name tags rest t u none same first free =
    let next : tags ≡ t ∷ rest = first ∙ ap (λ v. v ∷ rest) (sym same) in
    record { named = None; named_is = none; is = (rest, next, (subst (AllByRecursion (λ v. get m v ≡ None)) next free).0) }

-- the attribute that the owner has
named_item : (m : EntityMap) → IsSound m → (owner : Tag) (name : Name) (t : Tag) → attribute_named (shape_of m) owner name ≡ Some t → (v : ℤ) × (item_at (shape_of m) t ≡ Some (Attr owner name v))
named_item m sound owner name t is = attribute_named-some (shape_of m) (well-shape m sound).written.ascends owner name t is

no_fin : (m : EntityMap) → IsSound m → (owner : Tag) (name : Name) (tags : List Tag) (t : Tag) (o : Option Tag) → attribute_named (shape_of m) owner name ≡ o → IsTagFor m tags o t → HasNoFin (shape_of m) t
no_fin m sound owner name tags t (Some u) is h =
    let here = named_item m sound owner name u is in
    no_fin-attribute (shape_of m) t owner name here.0 (ap (item_at (shape_of m)) h ∙ here.1)
no_fin m sound owner name tags t None is h = no_fin-free (shape_of m) t (free_item m sound t h.2)

-- ---- set is done

reached_set : (m : EntityMap) (a : Item) (tags : List Tag) (t : Tag) (o : Option Tag) → IsTagFor m tags o t → reached (shape_of m) tags (set_in (shape_of m) a o) ≡ shape_of m with (t, a) ∷ []
reached_set m a tags t (Some u) h = ap (λ v. shape_of m with (v, a) ∷ []) (sym h)
reached_set m a tags t None h = ap (λ ts. shape_of m with (tag_at ts 0, a) ∷ []) h.1

kept_set : (m : EntityMap) (a : Item) (tags : List Tag) (t : Tag) (o : Option Tag) → IsTagFor m tags o t → Keeps tags (set_in (shape_of m) a o) → IsWell (shape_of m with (t, a) ∷ [])
kept_set m a tags t (Some u) h k = subst IsWell (reached_set m a tags t (Some u) h) k
kept_set m a tags t None h k =
    let one : length tags ≡ length (t ∷ h.0) = ap length h.1 in
    subst IsWell (reached_set m a tags t None h) (k (omega (arith, one)))

-- what each of its steps has left
pub record IsPut (old new : StoreView) (t : Tag) (to : Option Entity) : Type 0 where
  pub state : new.state ≡ record old.state { map = with_entity old.state.map t to }
  pub recorded : new.recording ≡ record old.recording { first = recorded_put old.recording.first t (get old.state.map t) }
  pub began : began new ≡ began old

-- the state with an attribute put
abbrev pub put_state : Stored → Tag → Tag → Name → ℤ → Stored
put_state s t owner name value = record s { map = with_attribute s.map t owner name value }

-- it is one of the tags that the call may put
put_in : (S : Shape) (m : EntityMap) (a : Item) (tags : List Tag) (t : Tag) (o : Option Tag) → IsTagFor m tags o t → Contains (take (cost_of (set_in S a o)) tags ++ optional o) t
put_in S m a tags t (Some u) h = subst (Contains (take 0 tags ++ u ∷ [])) (sym h) (Contains-append_right (take 0 tags) (u ∷ []) u (Contains-first u []))
put_in S m a tags t None h = subst (λ ts. Contains (take 1 ts ++ []) t) (sym h.1) (Contains-first t [])

pub set-put : (m : EntityMap) (owner : Tag) (name : Name) (value : ℤ) (tags : List Tag) (t : Tag) → IsOk (row_on m (SetAttr owner name value)) → IsChosen m owner name tags t
    → Contains (tags_put (shape_of m) (SetAttr owner name value) tags) t
set-put m owner name value tags t goes chosen =
    let S : Shape = shape_of m in
    let a : Item = Attr owner name value in
    subst (λ (r : Row). Contains (take (cost_of r) tags ++ optional (attribute_named S owner name)) t) (sym (set-row m owner name value chosen.named goes chosen.named_is))
    (subst (λ o. Contains (take (cost_of (set_in S a chosen.named)) tags ++ optional o) t) (sym chosen.named_is) (put_in S m a tags t chosen.named chosen.is))

pub set-room : (s : StoreView) (owner : Tag) (name : Name) (value : ℤ) (tags : List Tag) (t : Tag) → MayDo s (SetAttr owner name value) tags → IsChosen s.state.map owner name tags t → HasRoomFor s.recording t
set-room s owner name value tags t may chosen =
    room-for_one s.recording (tags_put (shape_of s.state.map) (SetAttr owner name value) tags) t may.room (set-put s.state.map owner name value tags t may.goes chosen)

pub set-done : (old new : StoreView) (owner : Tag) (name : Name) (value : ℤ) (tags : List Tag) (t : Tag) → MayDo old (SetAttr owner name value) tags → cost_of (row_on old.state.map (SetAttr owner name value)) ≤ length tags → AllByRecursion (λ u. get old.state.map u ≡ None) tags
    → IsChosen old.state.map owner name tags t → IsPut old new t (Some (entity.Attr owner name value)) → HasDone old (SetAttr owner name value) tags new
set-done old new owner name value tags t may enough free chosen put =
    let m : EntityMap = old.state.map in
    let S : Shape = shape_of m in
    let well = well-shape m may.sound in
    let row = set-row m owner name value chosen.named may.goes chosen.named_is in
    let keeps = set-keeps S tags owner name value well (λ enough. free_at S tags 0 (ByRecursion-weaker (λ u. get m u ≡ None) (λ u. item_at S u ≡ None) (λ u h. free_item m may.sound u h) tags free) (omega arith)) in
    let after = kept_set m (Attr owner name value) tags t chosen.named chosen.is (subst (Keeps tags) row keeps) in
    let is : with_attribute m t owner name value ≡ links (reached S tags (row_on m (SetAttr owner name value))) =
    set-links S m t owner name value well (represents-sound m may.sound) (no_fin m may.sound owner name tags t chosen.named chosen.named_is chosen.is) after
    ∙ ap links (sym (ap (reached S tags) row ∙ reached_set m (Attr owner name value) tags t chosen.named chosen.is)) in
    let state = put.state ∙ ap (λ (n : EntityMap). record old.state { map = n }) is in
    record {
      state = state;
      sound = done-sound old new (SetAttr owner name value) tags may.sound enough keeps state;
      puts = puts-one (tags_put S (SetAttr owner name value) tags) old new t (get m t) (set-put m owner name value tags t may.goes chosen) put.began put.recorded;
    }

-- ---- what is put stands in an owned block

abbrev pub AllHosted : Stored → Type 0
AllHosted s = (t : Tag) (e : Entity) → get s.map t ≡ Some e → IsHosted s.blocks t e

pub named-owned : (s : Stored) (owner : Tag) (name : Name) (t : Tag) → AllHosted s → IsSound s.map → attribute_named (shape_of s.map) owner name ≡ Some t → IsTrue (owns s.blocks t)
named-owned s owner name t hosted sound is =
    let here = named_item s.map sound owner name t is in
    (hosted t (entity.Attr owner name here.0) (item-live s.map t owner name here.0 here.1)).owned

chosen_owned : (s : Stored) (owner : Tag) (name : Name) (value : ℤ) (tags : List Tag) (t : Tag) (o : Option Tag) → AllHosted s → IsSound s.map → attribute_named (shape_of s.map) owner name ≡ o → IsTagFor s.map tags o t
    → AllByRecursion (λ u. IsTrue (owns s.blocks u)) (take (cost_of (set_in (shape_of s.map) (Attr owner name value) o)) tags) → IsTrue (owns s.blocks t)
chosen_owned s owner name value tags t (Some u) hosted sound is h owned = subst (λ v. IsTrue (owns s.blocks v)) (sym h) (named-owned s owner name u hosted sound is)
chosen_owned s owner name value tags t None hosted sound is h owned = (subst (λ ts. AllByRecursion (λ u. IsTrue (owns s.blocks u)) (take 1 ts)) h.1 owned).0

pub set-owned : (s : Stored) (owner : Tag) (name : Name) (value : ℤ) (tags : List Tag) (t : Tag) → AllHosted s → IsSound s.map → IsOk (row_on s.map (SetAttr owner name value)) → IsChosen s.map owner name tags t
    → AllByRecursion (λ u. IsTrue (owns s.blocks u)) (take (cost_of (row_on s.map (SetAttr owner name value))) tags) → IsTrue (owns s.blocks t)
set-owned s owner name value tags t hosted sound goes chosen owned =
    chosen_owned s owner name value tags t chosen.named hosted sound chosen.named_is chosen.is
    (subst (λ r. AllByRecursion (λ u. IsTrue (owns s.blocks u)) (take (cost_of r) tags)) (set-row s.map owner name value chosen.named goes chosen.named_is) owned)

apart_from_owner : (m : EntityMap) → IsSound m → (owner : Tag) (name : Name) (tags : List Tag) (t : Tag) (o : Option Tag) → IsOwner m owner → attribute_named (shape_of m) owner name ≡ o → IsTagFor m tags o t → owner ≢ t
apart_from_owner m sound owner name tags t (Some u) own is h e =
    let here = named_item m sound owner name u is in
    let same : own.item ≡ Attr owner name here.0 = same_Some own.item _ (sym own.item_is ∙ ap (item_at (shape_of m)) (e ∙ h) ∙ here.1) in
    own.other (ap class_of_item same)
apart_from_owner m sound owner name tags t None own is h e =
    let both : Some own.entity_ ≡ None = sym own.live ∙ ap (get m) e ∙ h.2 in
    cc

pub set-hosted : (s : Stored) (owner : Tag) (name : Name) (value put : ℤ) (tags : List Tag) (t : Tag) → AllHosted s → IsSound s.map → IsOk (row_on s.map (SetAttr owner name value)) → IsChosen s.map owner name tags t
    → IsTrue (owns s.blocks t) → IsHosted s.blocks t (entity.Attr owner name put)
set-hosted s owner name value put tags t hosted sound goes chosen owned =
    let own = is-owner s.map owner (λ x. set_in (shape_of s.map) (Attr owner name value) (attribute_named (shape_of s.map) owner name)) goes in
    record { owned = owned; owner = (apart_from_owner s.map sound owner name tags t chosen.named own chosen.named_is chosen.is, (hosted owner own.entity_ own.live).owned) }

-- ---- drop is done

kept_drop : (m : EntityMap) (owner t : Tag) → Keeps [] (dropped (shape_of m) owner (Some t)) → IsWell (shape_of m without t ∷ [])
kept_drop m owner t k = k

-- the attribute that dies is one of the tags that the call may put
pub drop-put : (m : EntityMap) (owner : Tag) (name : Name) (t : Tag) → attribute_named (shape_of m) owner name ≡ Some t → Contains (tags_put (shape_of m) (DropAttr owner name) []) t
drop-put m owner name t named =
    let taken : List Tag = take (cost_of (row_on m (DropAttr owner name))) [] in
    subst (λ o. Contains (taken ++ optional o) t) (sym named) (Contains-append_right taken (t ∷ []) t (Contains-first t []))

pub drop-room : (s : StoreView) (owner : Tag) (name : Name) (t : Tag) → MayDo s (DropAttr owner name) [] → attribute_named (shape_of s.state.map) owner name ≡ Some t → HasRoomFor s.recording t
drop-room s owner name t may named =
    room-for_one s.recording (tags_put (shape_of s.state.map) (DropAttr owner name) []) t may.room (drop-put s.state.map owner name t named)

pub drop-done : (old new : StoreView) (owner : Tag) (name : Name) (t : Tag) → MayDo old (DropAttr owner name) [] → attribute_named (shape_of old.state.map) owner name ≡ Some t → IsPut old new t None → HasDone old (DropAttr owner name) [] new
drop-done old new owner name t may named put =
    let m : EntityMap = old.state.map in
    let S : Shape = shape_of m in
    let well = well-shape m may.sound in
    let row = drop-row m owner name (Some t) may.goes named in
    let here = named_item m may.sound owner name t named in
    let after = kept_drop m owner t (subst (Keeps []) row (drop-keeps S [] owner name well)) in
    let is : with_entity m t None ≡ links (reached S [] (row_on m (DropAttr owner name))) =
    drop-links S m t owner name here.0 well (represents-sound m may.sound) here.1 after ∙ ap (λ r. links (reached S [] r)) (sym row) in
    let state = put.state ∙ ap (λ (n : EntityMap). record old.state { map = n }) is in
    let none : cost_of (row_on m (DropAttr owner name)) ≤ 0 = omega (arith, cost-changing (drop_attribute S owner name) (drop-changes S owner name)) in
    record {
      state = state;
      sound = done-sound old new (DropAttr owner name) [] may.sound none (drop-keeps S [] owner name well) state;
      puts = puts-one (tags_put S (DropAttr owner name) []) old new t (get m t) (drop-put m owner name t named) put.began put.recorded;
    }

-- ---- through a view of the store

pub named-viewed : (view s : StoreView) (owner : Tag) (name : Name) (o : Option Tag) → view ≡ s → o ≡ attribute_named (shape_of view.state.map) owner name → attribute_named (shape_of s.state.map) owner name ≡ o
named-viewed view s owner name o same is = ap (λ (v : StoreView). attribute_named (shape_of v.state.map) owner name) (sym same) ∙ sym is

pub hosted-viewed : (view s : StoreView) → view ≡ s → AllHosted view.state → AllHosted s.state
hosted-viewed view s same hosted = subst (λ (v : StoreView). AllHosted v.state) same hosted
