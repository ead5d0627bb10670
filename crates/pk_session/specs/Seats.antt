-- What becomes of root where it makes a seat, and where it joins one.
use Rattle.std.specs.Prelude.{◌≡◌, ℕ, ◌+◌, [], None}
use Rattle.session_table.specs.Entries.{StartsWith, longer}
use Rattle.session_table.specs.Seats.{seen_of, mine_of, note_of}
use Rattle.session_table.specs.Steps.{made_one, newcomer, joined_by, greater}
use Rattle.pk_session.specs.Views.{SeatView}

-- root has made one seat more
abbrev pub Makes : SeatView → SeatView → Type 0
Makes old new = new ≡ record old { view = made_one old.view }

-- The seat is the next one that root makes. It has seen what root has seen; it has done, holds,
-- made and joined nothing, and keeps no number.
pub record IsNew (root new : SeatView) : Type 0 where
  pub number : new.view.number ≡ root.view.made + 1
  pub seen : (p : ℕ) → seen_of new.view p ≡ seen_of root.view p
  pub mine : (p : ℕ) → mine_of new.view p ≡ []
  pub notes : (p : ℕ) → note_of new.view p ≡ None
  pub made : new.view.made ≡ 0
  pub joined : new.view.joined ≡ []
  pub past : new.view.past ≡ None
  pub seat : new ≡ record { session = root.session; view = newcomer root.view }

-- Root has joined the seat. Of what the two have seen of a partition the shorter begins the longer,
-- and root has seen the longer. It keeps the seat's number and its own entries, and the greater of
-- the numbers above the last block that the two kept.
pub record Joins (old child new : SeatView) : Type 0 where
  pub seen : (p : ℕ) → seen_of new.view p
      ≡ longer (seen_of old.view p) (seen_of child.view p)
  pub both : (p : ℕ) → StartsWith (seen_of new.view p) (seen_of old.view p)
      × StartsWith (seen_of new.view p) (seen_of child.view p)
  pub mine : (p : ℕ) → mine_of new.view p ≡ mine_of old.view p
  pub notes : (p : ℕ) → note_of new.view p ≡ note_of old.view p
  pub past : new.view.past ≡ greater old.view.past child.view.past
  pub root : new ≡ record old { view = joined_by old.view child.view }
