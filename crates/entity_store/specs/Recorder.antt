-- A store that is lent to be changed, and of which the change is recorded.
use Rattle.std.specs.Prelude.{◌≡◌, ℕ, ◌+◌, ◌≤◌, length}
use Rattle.pk_model.specs.Maps.{EntityMap}
use Rattle.entity_store.specs.Recording.{put_back}
use Rattle.entity_store.specs.Store.{StoreView}

-- the map that the recorder began with
abbrev pub began : StoreView → EntityMap
began s = put_back s.state.map s.recording.first

-- The map that the recorder began with stays the same, and so does its room, of which at most n
-- tags were used.
pub record Records (n : ℕ) (old new : StoreView) : Type 0 where
  pub began : began new ≡ began old
  pub room : new.recording.room ≡ old.recording.room
  pub puts : length new.recording.first ≤ length old.recording.first + n
