-- What contracts see of seats and of held partitions.
use Rattle.std.specs.Prelude.{◌≡◌, ◌≢◌, ℕ, ◌≤◌, refl}
use Rattle.std.specs.Coded.{Coded, code_by, coded×}
use Rattle.partition.specs.Partition.{PartitionView, view_code}
use Rattle.session_table.specs.contracts.view.View as views
use Rattle.session_table.specs.declared.view.View.{View}
use Rattle.session_table.specs.Names.{SessionName, name_code}
use Rattle.session_table.specs.Seats.{line_in, root}

-- the session that a seat is of, and what the seat keeps
pub record SeatView : Type 0 where
  pub session : SessionName
  pub view : View

abbrev pub seat_code : Coded SeatView
seat_code =
    code_by (SessionName × View) (coded× name_code views.the_row.coded)
    (λ s. (s.session, s.view)) (λ p. record { session = p.0; view = p.1 }) (λ _. refl)

-- a partition that is held, and the session that it is of
pub record HeldView : Type 0 where
  pub session : SessionName
  pub partition : PartitionView

abbrev pub held_code : Coded HeldView
held_code =
    code_by (SessionName × PartitionView) (coded× name_code view_code)
    (λ h. (h.session, h.partition)) (λ p. record { session = p.0; partition = p.1 }) (λ _. refl)

-- the session has a partition of this number
abbrev pub IsPartitionOf : SessionName → ℕ → Type 0
IsPartitionOf session p = (1 ≤ p) × (p ≤ session.bounds.partitions)

-- what a seat keeps of the other partitions stands
abbrev pub KeepsOthers : View → ℕ → View → Type 0
KeepsOthers old p new = (q : ℕ) → q ≢ p → line_in new.lines q ≡ line_in old.lines q

-- the seat with which a session begins
abbrev pub first_seat : SessionName → SeatView
first_seat session = record { session = session; view = root session.bounds }
