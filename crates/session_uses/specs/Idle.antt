-- Seats that hold nothing, and seats that hold one partition alone.
use Rattle.std.specs.Prelude.{◌≡◌, ◌≢◌, ℕ, None}
use Rattle.session_table.specs.Names.{SessionName}
use Rattle.session_table.specs.Seats.{note_of}
use Rattle.session_table.specs.Ends.{HoldsNothing}
use Rattle.pk_session.specs.Views.{SeatView, HeldView}
use Rattle.pk_session.specs.Holding.{IsHeldBy}

-- the seat is of the session, and holds nothing
pub record IsIdle (name : SessionName) (seat : SeatView) : Type 0 where
  pub session : seat.session ≡ name
  pub nothing : HoldsNothing seat.view

-- the seat is of the session, and holds this partition alone
pub record HoldsOnly (name : SessionName) (seat : SeatView) (h : HeldView) : Type 0 where
  pub session : seat.session ≡ name
  pub held : IsHeldBy seat h
  pub others : (q : ℕ) → q ≢ h.partition.number → note_of seat.view q ≡ None

-- the same seat, which holds what it held
pub record KeepsNotes (old new : SeatView) : Type 0 where
  pub session : new.session ≡ old.session
  pub number : new.view.number ≡ old.view.number
  pub notes : (q : ℕ) → note_of new.view q ≡ note_of old.view q
