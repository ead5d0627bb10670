-- Entities that die one after another, each with its attributes.
use Rattle.std.proofs.Common.{◌≡◌, ◌≤◌, ◌<◌, ℕ, ◌+◌, List, [], ◌∷◌, ◌++◌, length, get_or, take, refl, sym, ap, subst, ◌∙◌, length-append, arith}
use Rattle.std.specs.Prelude.{Contains, IsTrue}
use Rattle.std.specs.List.{AllByRecursion, flat_map}
use Rattle.std.proofs.lemmas.List.{take_all, take_more}
use Rattle.std.proofs.lemmas.List.Elements.{Contains-get_or}
use Rattle.pk_base.specs.Blocks.{tag}
use Rattle.pk_base.specs.declared.tag.Tag.{Tag}
use Rattle.pk_model.specs.Maps.{EntityMap}
use Rattle.pk_model.specs.Tags.{owns}
use Rattle.list_facts.proofs.Each.{ByRecursion-at}
use Rattle.entity_store.specs.Store.{StoreView}
use Rattle.solid_calls.specs.Attributes.{attributes_on}
use Rattle.entity_store.specs.Room.{HasRoomForThese, PutsAmong}
use Rattle.solid_edits.specs.Deaths.{Dies, Kills, with_attributes}
use Rattle.solid_edits.proofs.KilledMaps.{death-among, kills-attribute, kills-one, kills-then}
use Rattle.solid_edits.proofs.Stages.{IsStage, stage-none, stage-owns, stage-room, stage-then}

-- the tag at the place i
abbrev pub tag_of : List Tag → ℕ → Tag
tag_of ts i = get_or ts i (tag 0)

-- the first i of these have died with their attributes
pub record HaveDied (old : StoreView) (ts : List Tag) (i : ℕ) (new : StoreView) : Type 0 where
  pub kills : Kills old.state.map (take i ts) new.state.map
  pub stage : IsStage (with_attributes old.state.map ts) old new

pub died-none : (s : StoreView) (ts : List Tag) → HaveDied s ts 0 s
died-none s ts = record {
  kills = record { dead = tt; others = λ t none. refl };
  stage = stage-none (with_attributes s.state.map ts) s;
}

-- what dies next is among what dies in all
next-among : (old mid : StoreView) (ts : List Tag) (i : ℕ) → i < length ts → HaveDied old ts i mid → (t : Tag) → Contains (tag_of ts i ∷ attributes_on mid.state.map (tag_of ts i)) t
    → Contains (with_attributes old.state.map ts) t
next-among old mid ts i less h =
    death-among old.state.map mid.state.map ts (tag_of ts i) (kills-attribute old.state.map mid.state.map (take i ts) h.kills) (Contains-get_or ts i (tag 0) less)

pub died-owned : (old mid : StoreView) (ts : List Tag) (i : ℕ) → i < length ts → HaveDied old ts i mid → AllByRecursion (λ t. IsTrue (owns old.state.blocks t)) ts → IsTrue (owns mid.state.blocks (tag_of ts i))
died-owned old mid ts i less h owned =
    stage-owns (with_attributes old.state.map ts) old mid (tag_of ts i) h.stage
    (ByRecursion-at (λ t. IsTrue (owns old.state.blocks t)) ts (tag_of ts i) owned (Contains-get_or ts i (tag 0) less))

pub died-room : (old mid : StoreView) (ts : List Tag) (i : ℕ) → i < length ts → HaveDied old ts i mid → HasRoomForThese old.recording (with_attributes old.state.map ts)
    → HasRoomForThese mid.recording (tag_of ts i ∷ attributes_on mid.state.map (tag_of ts i))
died-room old mid ts i less h room =
    stage-room (with_attributes old.state.map ts) (tag_of ts i ∷ attributes_on mid.state.map (tag_of ts i)) old mid room h.stage (next-among old mid ts i less h)

pub died-more : (old mid new : StoreView) (ts : List Tag) (i : ℕ) → i < length ts → HaveDied old ts i mid → Dies mid.state.map (tag_of ts i) new.state.map
    → new.state ≡ record mid.state { map = new.state.map } → PutsAmong (tag_of ts i ∷ attributes_on mid.state.map (tag_of ts i)) mid new → HaveDied old ts (i + 1) new
died-more old mid new ts i less h dies state puts = record {
  kills = subst (λ us. Kills old.state.map us new.state.map) (sym (take_more ts i (tag 0) less))
      (kills-then old.state.map mid.state.map new.state.map (take i ts) (tag_of ts i ∷ []) h.kills (kills-one mid.state.map new.state.map (tag_of ts i) dies));
  stage =
      stage-then (with_attributes old.state.map ts) (tag_of ts i ∷ attributes_on mid.state.map (tag_of ts i)) old mid new h.stage
      (next-among old mid ts i less h) state puts;
}

pub died-all : (old new : StoreView) (ts : List Tag) (i : ℕ) → length ts ≤ i → HaveDied old ts i new → Kills old.state.map ts new.state.map
died-all old new ts i all h = subst (λ us. Kills old.state.map us new.state.map) (take_all i ts all) h.kills

-- ---- how many die

-- the attributes of the first i of these
abbrev pub attributes_of_first : EntityMap → List Tag → ℕ → List Tag
attributes_of_first m ts i = flat_map (attributes_on m) (take i ts)

flat_map-one_more : (m : EntityMap) (ts : List Tag) (t : Tag) → length (flat_map (attributes_on m) (ts ++ t ∷ [])) ≡ length (flat_map (attributes_on m) ts) + length (attributes_on m t)
flat_map-one_more m [] t = omega (arith, length-append (attributes_on m t) [])
flat_map-one_more m (u ∷ us) t =
    omega (
      arith,
      flat_map-one_more m us t,
      length-append (attributes_on m u) (flat_map (attributes_on m) (us ++ t ∷ [])),
      length-append (attributes_on m u) (flat_map (attributes_on m) us),
    )

-- one more owner, and its attributes
pub first-more : (m : EntityMap) (ts : List Tag) (i : ℕ) → i < length ts
    → length (attributes_of_first m ts (i + 1)) ≡ length (attributes_of_first m ts i) + length (attributes_on m (tag_of ts i))
first-more m ts i less = ap (λ us. length (flat_map (attributes_on m) us)) (take_more ts i (tag 0) less) ∙ flat_map-one_more m (take i ts) (tag_of ts i)

-- they are counted when all were passed
pub first-all : (m : EntityMap) (ts : List Tag) (i : ℕ) → length ts ≤ i → length ts + length (attributes_of_first m ts i) ≡ length (with_attributes m ts)
first-all m ts i all =
    ap (λ us. length ts + length (flat_map (attributes_on m) us)) (take_all i ts all) ∙ sym (length-append ts (flat_map (attributes_on m) ts))
