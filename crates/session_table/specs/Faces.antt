-- A seat as contracts see it, and what it is for a seat to be of a session.
use Rattle.std.specs.Prelude.{◌≡◌, ℕ, ◌-◌, ◌≤◌, Option, None, vec_len, vec_capacity}
use Rattle.session_table.specs.declared.view.Bounds.{Bounds}
use Rattle.session_table.specs.declared.view.View.{View}
use Rattle.session_table.specs.declared.seat.Seat.{Seat}
use Rattle.session_table.specs.declared.table.SessionTable.{SessionTable}
use Rattle.session_table.specs.Named.{Named}
use Rattle.session_table.specs.Names.{SessionName}
use Rattle.session_table.specs.Seats.{root}
use Rattle.session_table.specs.Slots.{in_slot, Carries}

-- what a seat knows, and what the slots that it holds have
pub record Face : Type 0 where
  pub view : View
  pub slots : ℕ → Option (Option Named)

abbrev pub view_of : {X : Type 0} → Seat X → View
view_of seat = seat.place.me.0

abbrev pub face : {X : Type 0} → (X → Named) → Seat X → Face
face named seat = record { view = seat.place.me.0; slots = in_slot named seat.place.me.1 }

-- how many partitions more it may hold before it takes memory
abbrev pub room_of : {X : Type 0} → Seat X → ℕ
room_of seat = vec_capacity seat.held - vec_len seat.held

-- the seat with which a session begins
abbrev pub IsRoot : Bounds → Face → Type 0
IsRoot bounds seat = seat ≡ record { view = root bounds; slots = λ p. None }

-- the same seat, which knows the same and holds the same
pub record IsSameSeat {X : Type 0} (old new : Seat X) : Type 0 where
  pub session : new.place.table_id ≡ old.place.table_id
  pub place : new.place.id ≡ old.place.id
  pub knows : new.place.me ≡ old.place.me

abbrev pub bounds_of : {X : Type 0} → SessionTable X → Bounds
bounds_of table = table.bounds

-- the name of the session
abbrev pub name_of : {X : Type 0} → SessionTable X → SessionName
name_of table = record { table = table.table.shared.table_id; bounds = table.bounds }

-- the name of the session that the seat is of
abbrev pub session_of : {X : Type 0} → Seat X → SessionName
session_of seat = record { table = seat.place.table_id; bounds = seat.place.me.0.bounds }

-- the seat is of this session, and holds the slots on which it has notes
pub record IsSeatOf {X : Type 0} (named : X → Named) (table : SessionTable X)
    (seat : Seat X) : Type 0 where
  pub session : seat.place.table_id ≡ table.table.shared.table_id
  pub bounds : seat.place.me.0.bounds ≡ table.bounds
  pub carries : Carries named seat.place.me.0 seat.place.me.1

abbrev pub IsPartition : {X : Type 0} → SessionTable X → ℕ → Type 0
IsPartition table p = (1 ≤ p) × (p ≤ table.bounds.partitions)
