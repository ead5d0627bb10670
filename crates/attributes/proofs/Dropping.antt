-- An owner's attributes die one after another: what has died so far, and what is left.
use Rattle.std.proofs.Common.{◌≡◌, ◌≢◌, ◌<◌, ◌≤◌, ◌⊎◌, inr, ⊎_elim, true, false, cond, List, [], ◌∷◌, length, Option, Some, None, refl, sym, ap, subst, ◌∙◌, arith}
use Rattle.std.specs.Prelude.{is_some, Contains, IsTrue}
use Rattle.std.specs.Option.{option_map_or}
use Rattle.std.specs.List.{AllByRecursion}
use Rattle.std.specs.FinMap.{get, keys}
use Rattle.pk_base.specs.declared.tag.Tag.{Tag}
use Rattle.pk_base.specs.declared.entity.Entity.{Entity}
use Rattle.pk_model.specs.Apart.{NoRepeats}
use Rattle.pk_model.specs.Maps.{EntityMap, with_entity}
use Rattle.pk_model.specs.Tags.{owns}
use Rattle.list_facts.proofs.Each.{ByRecursion-contains}
use Rattle.entity_store.specs.Recording.{HasRoomFor}
use Rattle.entity_store.specs.Store.{Stored, StoreView}
use Rattle.entity_store.proofs.Ascending.{NoRepeats-filter}
use Rattle.entity_store.proofs.FirstValues.{get_other, get_put}
use Rattle.pk_base.proofs.Same.{same_or_other}
use Rattle.list_facts.proofs.Elements.{not_in_nil, Contains-filter, filter_contains}
use Rattle.solid_calls.specs.Attributes.{attributes_on, is_attribute_on, unless_on, DropsAttributes}
use Rattle.entity_store.specs.Room.{HasRoomForThese, PutsAmong}
use Rattle.entity_store.proofs.Room.{no_more-different, puts-one, puts-then, room-after, room-for_one}
use Rattle.solid_calls.proofs.Sizes.{apart-ascending}
use Rattle.pk_model.proofs.Keys.{Contains-keys, TagsAscend-keys}
use Rattle.attributes.proofs.Carried.{AllHosted, IsPut}
use Rattle.attributes.proofs.Walked.{is_on_at}

-- ---- one attribute of the owner

-- it is live, and is one
pub record IsOn (m : EntityMap) (o t : Tag) : Type 0 where
  pub entity_ : Entity
  pub live : get m t ≡ Some entity_
  pub on : is_attribute_on o entity_ ≡ true

on_by : (m : EntityMap) (o t : Tag) (f : Option Entity) → get m t ≡ f → option_map_or (is_attribute_on o) f false ≡ true → IsOn m o t
on_by m o t None is h = absurd (cc)
on_by m o t (Some e) is h = record { entity_ = e; live = is; on = h }

among-on : (m : EntityMap) (o t : Tag) → Contains (attributes_on m o) t → IsOn m o t
among-on m o t h = on_by m o t (get m t) refl (filter_contains (is_on_at m o) (keys m) t h).1

on-among : (m : EntityMap) (o t : Tag) → IsOn m o t → Contains (attributes_on m o) t
on-among m o t h = Contains-filter (is_on_at m o) (keys m) t (Contains-keys m t (ap is_some h.live)) (ap (λ f. option_map_or (is_attribute_on o) f false) h.live ∙ h.on)

pub one-owned : (s : Stored) (o t : Tag) → AllHosted s → Contains (attributes_on s.map o) t → IsTrue (owns s.blocks t)
one-owned s o t hosted h = let a = among-on s.map o t h in (hosted t a.entity_ a.live).owned

-- ---- what has died so far

-- it is as it was, or it was an attribute of the owner and has died
abbrev pub IsLeft : Tag → EntityMap → EntityMap → Tag → Type 0
IsLeft o old new t = (get new t ≡ get old t) ⊎ (Contains (attributes_on old o) t × (get new t ≡ None))

pub record IsDropping (o : Tag) (old new : StoreView) : Type 0 where
  pub left : (t : Tag) → IsLeft o old.state.map new.state.map t
  pub state : new.state ≡ record old.state { map = new.state.map }
  pub puts : PutsAmong (attributes_on old.state.map o) old new

-- one that is left was there before
pub left-before : (o : Tag) (old new : StoreView) (t : Tag) → IsDropping o old new → Contains (attributes_on new.state.map o) t → Contains (attributes_on old.state.map o) t
left-before o old new t h among =
    let a = among-on new.state.map o t among in
    ⊎_elim (λ (same : get new.state.map t ≡ get old.state.map t). on-among old.state.map o t (record { entity_ = a.entity_; live = sym same ∙ a.live; on = a.on }))
    (λ (dead : Contains (attributes_on old.state.map o) t × (get new.state.map t ≡ None)). dead.0)
    (h.left t)

pub room-for_next : (o : Tag) (old new : StoreView) (t : Tag) → HasRoomForThese old.recording (attributes_on old.state.map o) → IsDropping o old new → Contains (attributes_on new.state.map o) t → HasRoomFor new.recording t
room-for_next o old new t room h among =
    let all : List Tag = attributes_on old.state.map o in
    room-for_one new.recording all t (room-after all all old new room h.puts (λ u k. k)) (left-before o old new t h among)

pub dropping-more : (o : Tag) (old mid new : StoreView) (t : Tag) → IsDropping o old mid → Contains (attributes_on mid.state.map o) t → IsPut mid new t None → IsDropping o old new
dropping-more o old mid new t h among put =
    let m : EntityMap = mid.state.map in
    let map_is : new.state.map ≡ with_entity m t None = ap (λ (s : Stored). s.map) put.state in
    let blocks_are : new.state.blocks ≡ old.state.blocks = ap (λ (s : Stored). s.blocks) put.state ∙ ap (λ (s : Stored). s.blocks) h.state in
    let was = left-before o old mid t h among in
    record {
      left = λ u. subst (λ (n : EntityMap). IsLeft o old.state.map n u) (sym map_is) (⊎_elim {C = IsLeft o old.state.map (with_entity m t None) u}
          (λ (e : u ≡ t). inr (subst (Contains (attributes_on old.state.map o)) (sym e) was, ap (get (with_entity m t None)) e ∙ get_put m t None))
          (λ (other : u ≢ t). subst (λ f. (f ≡ get old.state.map u) ⊎ (Contains (attributes_on old.state.map o) u × (f ≡ None))) (sym (get_other m t None u other)) (h.left u))
          (same_or_other u t));
      state = λ i. record { blocks = blocks_are i; map = new.state.map };
      puts = puts-then (attributes_on old.state.map o) old mid new h.puts (puts-one (attributes_on old.state.map o) mid new t (get m t) was put.began put.recorded);
    }

-- ---- fewer are left

pub fewer-left : (o t : Tag) (m n : EntityMap) → Contains (attributes_on m o) t → n ≡ with_entity m t None → length (attributes_on n o) < length (attributes_on m o)
fewer-left o t m n among is =
    let left : List Tag = attributes_on n o in
    let dead : get n t ≡ None = ap (λ (k : EntityMap). get k t) is ∙ get_put m t None in
    let others : (u : Tag) → Contains left u → t ≢ u = λ u k e.
    let a = among-on n o u k in
    let both : None ≡ Some a.entity_ = sym dead ∙ ap (get n) e ∙ a.live in
    cc in
    let once : NoRepeats (t ∷ left) = (ByRecursion-contains (λ u. t ≢ u) left others, NoRepeats-filter (is_on_at n o) (keys n) (apart-ascending (keys n) (TagsAscend-keys n))) in
    let were : AllByRecursion (Contains (attributes_on m o)) left = ByRecursion-contains (Contains (attributes_on m o)) left (λ u k.
    let a = among-on n o u k in
    let same : get n u ≡ get m u = ap (λ (j : EntityMap). get j u) is ∙ get_other m t None u (λ e. others u k (sym e)) in
    on-among m o u (record { entity_ = a.entity_; live = sym same ∙ a.live; on = a.on })) in
    let fewer : length (t ∷ left) ≤ length (attributes_on m o) = no_more-different (t ∷ left) (attributes_on m o) once (among, were) in
    omega arith

-- a put changes the map so
pub map-put : (old new : StoreView) (t : Tag) → new.state ≡ record old.state { map = with_entity old.state.map t None } → new.state.map ≡ with_entity old.state.map t None
map-put old new t is = ap (λ (s : Stored). s.map) is

-- ---- none is left

unless_other : (m : EntityMap) (o t : Tag) (f : Option Entity) → attributes_on m o ≡ [] → get m t ≡ f → f ≡ unless_on o f
unless_other m o t None none is = refl
unless_other m o t (Some e) none is =
    elim (is_attribute_on o e) as (λ b. is_attribute_on o e ≡ b → Some e ≡ cond b None (Some e)) [
      | true ↦ λ on. absurd (not_in_nil t (subst (λ l. Contains l t) none (on-among m o t (record { entity_ = e; live = is; on = on }))))
      | false ↦ λ on. refl
    ] refl

pub all-dropped : (o : Tag) (old new : StoreView) → IsDropping o old new → attributes_on new.state.map o ≡ [] → DropsAttributes old.state.map o new.state.map
all-dropped o old new h none t =
    ⊎_elim {C = get new.state.map t ≡ unless_on o (get old.state.map t)}
    (λ (same : get new.state.map t ≡ get old.state.map t). unless_other new.state.map o t (get new.state.map t) none refl ∙ ap (unless_on o) same)
    (λ (dead : Contains (attributes_on old.state.map o) t × (get new.state.map t ≡ None)).
    let a = among-on old.state.map o t dead.0 in
    let gone : unless_on o (get old.state.map t) ≡ None = ap (unless_on o) a.live ∙ ap (λ b. cond b None (Some a.entity_)) a.on in
    dead.1 ∙ sym gone)
    (h.left t)

-- ---- through a view of the store

pub among-viewed : (view s : StoreView) (o t : Tag) → view ≡ s → Contains (attributes_on view.state.map o) t → Contains (attributes_on s.state.map o) t
among-viewed view s o t same h = subst (λ (v : StoreView). Contains (attributes_on v.state.map o) t) same h

pub none-viewed : (view s : StoreView) (o : Tag) → view ≡ s → attributes_on view.state.map o ≡ [] → attributes_on s.state.map o ≡ []
none-viewed view s o same h = ap (λ (v : StoreView). attributes_on v.state.map o) (sym same) ∙ h
