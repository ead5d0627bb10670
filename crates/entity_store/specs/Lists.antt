-- The three lists of a difference, while they are being made.
use Rattle.std.specs.Prelude.{◌≡◌, ℕ, ◌≤◌, []}
use Rattle.entity_store.specs.declared.changes.ListsBuilder.{ListsBuilder}

-- they are empty, and each has room for so many tags
pub record HasRoomForAll (n : ℕ) (out : ListsBuilder) : Type 0 where
  pub fresh : out.fresh.items ≡ []
  pub gone : out.gone.items ≡ []
  pub changed : out.changed.items ≡ []
  pub fresh_room : n ≤ out.fresh.spare
  pub gone_room : n ≤ out.gone.spare
  pub changed_room : n ≤ out.changed.spare
