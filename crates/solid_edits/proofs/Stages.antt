-- How far an operator has come: what it has put, and the room that is left.
use Rattle.std.proofs.Common.{◌≡◌, List, Option, refl, sym, ap, subst, ◌∙◌}
use Rattle.std.specs.Prelude.{Contains, IsTrue}
use Rattle.std.specs.FinMap.{get}
use Rattle.pk_base.specs.declared.tag.Tag.{Tag}
use Rattle.pk_base.specs.declared.entity.Entity.{Entity}
use Rattle.pk_model.specs.Maps.{EntityMap, with_entity}
use Rattle.pk_model.specs.Tags.{owns}
use Rattle.entity_store.specs.Recorder.{began}
use Rattle.entity_store.specs.Recording.{HasRoomFor, recorded_put}
use Rattle.entity_store.specs.Store.{Stored, StoreView}
use Rattle.entity_store.specs.Room.{HasRoomForThese, PutsAmong}
use Rattle.entity_store.proofs.Room.{puts-none, puts-one, puts-then, puts-wider, room-after, room-for_one, room-part}

-- each of these is one of those
abbrev pub Within : List Tag → List Tag → Type 0
Within us ts = (t : Tag) → Contains us t → Contains ts t

-- Only some of these tags were put, and nothing of the state but its map has changed.
pub record IsStage (ts : List Tag) (a b : StoreView) : Type 0 where
  pub state : b.state ≡ record a.state { map = b.state.map }
  pub puts : PutsAmong ts a b

pub stage-none : (ts : List Tag) (a : StoreView) → IsStage ts a a
stage-none ts a = record { state = refl; puts = puts-none ts a }

pub stage-then : (ts us : List Tag) (a b c : StoreView) → IsStage ts a b → Within us ts → c.state ≡ record b.state { map = c.state.map } → PutsAmong us b c → IsStage ts a c
stage-then ts us a b c h within state puts = record {
  state = state ∙ ap (λ (s : Stored). record s { map = c.state.map }) h.state;
  puts = puts-then ts a b c h.puts (puts-wider us ts b c puts within);
}

pub stage-put : (ts : List Tag) (a b c : StoreView) (t : Tag) (to : Option Entity) → IsStage ts a b → Contains ts t
    → c.state ≡ record b.state { map = with_entity b.state.map t to } → began c ≡ began b
    → c.recording ≡ record b.recording { first = recorded_put b.recording.first t (get b.state.map t) } → IsStage ts a c
stage-put ts a b c t to h k state same recorded =
    let map_is : c.state.map ≡ with_entity b.state.map t to = ap (λ (s : Stored). s.map) state in
    stage-then ts ts a b c h (λ u i. i) (state ∙ ap (λ (m : EntityMap). record b.state { map = m }) (sym map_is)) (puts-one ts b c t (get b.state.map t) k same recorded)

pub stage-room : (ts us : List Tag) (a b : StoreView) → HasRoomForThese a.recording ts → IsStage ts a b → Within us ts → HasRoomForThese b.recording us
stage-room ts us a b room h within = room-part b.recording ts us (room-after ts ts a b room h.puts (λ t k. k)) within

pub stage-room_one : (ts : List Tag) (a b : StoreView) (t : Tag) → HasRoomForThese a.recording ts → IsStage ts a b → Contains ts t → HasRoomFor b.recording t
stage-room_one ts a b t room h k = room-for_one b.recording ts t (room-after ts ts a b room h.puts (λ u i. i)) k

pub stage-owns : (ts : List Tag) (a b : StoreView) (t : Tag) → IsStage ts a b → IsTrue (owns a.state.blocks t) → IsTrue (owns b.state.blocks t)
stage-owns ts a b t h owned = subst (λ (s : Stored). IsTrue (owns s.blocks t)) (sym h.state) owned

-- ---- states of which only the map has changed

pub only-put : (a b : Stored) (m : EntityMap) → b ≡ record a { map = m } → b ≡ record a { map = b.map }
only-put a b m h = h ∙ ap (λ n. record a { map = n }) (sym (ap (λ (s : Stored). s.map) h))

pub only-then : (a b c : Stored) → b ≡ record a { map = b.map } → c ≡ record b { map = c.map } → c ≡ record a { map = c.map }
only-then a b c h k = k ∙ ap (λ bs. record c { blocks = bs }) (ap (λ (s : Stored). s.blocks) h)

pub same-blocks : (a b : Stored) (m : EntityMap) → b ≡ record a { map = m } → b.blocks ≡ a.blocks
same-blocks a b m h = ap (λ (s : Stored). s.blocks) h
