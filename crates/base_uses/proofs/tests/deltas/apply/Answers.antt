use Rattle.std.proofs.Common.{◌≡◌, ℕ, [], ◌∷◌, List, length, None, refl, sym, ap, subst, ◌∙◌, arith}
use Rattle.std.specs.FinMap.{get, empty, get-empty}
use Rattle.pk_base.specs.declared.tag.Tag.{Tag}
use Rattle.pk_base.specs.declared.entity.Entity.{Entity}
use Rattle.pk_model.specs.Maps.{EntityMap, tag_cmp}
use Rattle.entity_store.specs.declared.changes.Change.{Change}
use Rattle.entity_store.specs.Store.{Stored}
use Rattle.entity_store.specs.Recording.{Recording, room_left}
use Rattle.entity_store.specs.Room.{HasRoomForThese}
use Rattle.entity_store.proofs.Room.{room-of_length, room-after}
use Rattle.delta.specs.Deltas.{StartsAt, tags_in}
use Rattle.base_uses.proofs.tests.deltas.apply.Goals as goal

-- one change from nothing starts at the empty map
starts_at_nothing : (m : EntityMap) (c : Change) (cs : List Change) → m ≡ empty → c.before ≡ None → cs ≡ c ∷ [] → StartsAt m cs
starts_at_nothing m c cs e none is = subst (StartsAt m) (sym is) (ap (λ n. get n c.tag) e ∙ get-empty {K = Tag} {X = Entity} tag_cmp c.tag ∙ sym none, tt)

room_for_one : (r : Recording) (c : Change) (cs : List Change) → r ≡ record { first = []; room = 1 } → cs ≡ c ∷ [] → HasRoomForThese r (tags_in cs)
room_for_one r c cs e is =
    let one : length (tags_in cs) ≡ 1 = ap (λ ds. length (tags_in ds)) is in
    let left : room_left r ≡ 1 = ap room_left e in
    room-of_length r (tags_in cs) (omega (arith, one, left))

pub apply-requires-clause-starts : goal.apply-requires-clause-starts
apply-requires-clause-starts g c =
    starts_at_nothing _ _ _ (ap (λ (s : Stored). s.map) (c.recorder_with-rec.ensures.state ∙ c.in_ok-add_block.ensures.ok) ∙ c.new-store.ensures.map) refl c.in_ok-make.ensures

pub apply-requires-clause-room : goal.apply-requires-clause-room
apply-requires-clause-room g c = room_for_one _ _ _ (c.recorder_with-rec.ensures.record ∙ c.in_ok-room.ensures) c.in_ok-make.ensures

pub apply-requires-2-clause-room : goal.apply-requires-2-clause-room
apply-requires-2-clause-room g c =
    let tags = tags_in c.in_ok-make.make in
    let before = c.recorder_with-rec.result.store.now in
    room-after tags tags before c.apply.new.rec.store.now (room_for_one before.recording _ _ (c.recorder_with-rec.ensures.record ∙ c.in_ok-room.ensures) c.in_ok-make.ensures) c.apply.ensures.puts (λ t h. h)
