-- A seat between its visits to partitions, and during one.
use Rattle.std.specs.Prelude.{◌≡◌, ◌≢◌, ℕ, false, None}
use Rattle.session_table.specs.declared.seat.Seat.{Seat}
use Rattle.session_table.specs.declared.table.SessionTable.{SessionTable}
use Rattle.session_table.specs.Named.{Named}
use Rattle.session_table.specs.Seats.{note_of}
use Rattle.session_table.specs.Faces.{face, view_of, IsSeatOf}
use Rattle.session_table.specs.Ends.{HoldsNothing}
use Rattle.session_table.specs.Calls.{IsEmpty, IsNotedBy}

-- the seat is of this session, holds nothing, and is not about to draw
pub record IsIdle {X : Type 0} (named : X → Named) (table : SessionTable X)
    (seat : Seat X) : Type 0 where
  pub session : IsSeatOf named table seat
  pub nothing : HoldsNothing (view_of seat)
  pub calm : (view_of seat).pending ≡ false

-- The seat holds p alone, and has it out of its slot, as this value.
pub record IsAtWork {X : Type 0} (named : X → Named) (table : SessionTable X) (seat : Seat X)
    (p : ℕ) (x : Named) : Type 0 where
  pub session : IsSeatOf named table seat
  pub others : (q : ℕ) → q ≢ p → note_of (view_of seat) q ≡ None
  pub calm : (view_of seat).pending ≡ false
  pub empty : IsEmpty (face named seat) p
  pub noted : IsNotedBy (view_of seat) p x
