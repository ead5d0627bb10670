-- Room to record what is put, tag by tag.
use Rattle.std.specs.Prelude.{◌≡◌, ◌≤◌, false, List, ◌++◌, length, map, Option, Contains}
use Rattle.std.specs.List.{AllByRecursion}
use Rattle.pk_base.specs.declared.tag.Tag.{Tag}
use Rattle.pk_base.specs.declared.entity.Entity.{Entity}
use Rattle.pk_model.specs.Apart.{NoRepeats}
use Rattle.entity_store.specs.Recording.{Recording, has_put, room_left}
use Rattle.entity_store.specs.Recorder.{began}
use Rattle.entity_store.specs.Store.{StoreView}

-- one of these tags, that was not put before
pub record IsUnput (r : Recording) (ts : List Tag) (t : Tag) : Type 0 where
  pub among : Contains ts t
  pub new : has_put r.first t ≡ false

-- There is room to put all of these tags: as many as were not put before, each counted once.
abbrev pub HasRoomForThese : Recording → List Tag → Type 0
HasRoomForThese r ts =
    (us : List Tag) → NoRepeats us → AllByRecursion (IsUnput r ts) us
    → length us ≤ room_left r

-- No other tags than these were put. The map that the recorder began with stays the same, and so
-- does its room; what was put first now is recorded behind the rest.
pub record PutsAmong (ts : List Tag) (old new : StoreView) : Type 0 where
  pub began : began new ≡ began old
  pub room : new.recording.room ≡ old.recording.room
  pub more : List (Tag × Option Entity)
  pub recorded : new.recording.first ≡ old.recording.first ++ more
  pub once : NoRepeats (map (λ p. p.0) more)
  pub unput : AllByRecursion (λ p. IsUnput old.recording ts p.0) more
