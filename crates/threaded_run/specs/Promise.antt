-- What a thread leaves that was told all its lines, over what its seat keeps; and what root keeps of
-- the seats that it has joined.
use Rattle.std.specs.Prelude.{◌≡◌, ℕ, ◌+◌, ◌<◌, ◌≤◌, List, [], ◌∷◌, map, Option, Some, IsSome, MatchOption}
use Rattle.std.specs.List.{range_with_len, AllByRecursion}
use Rattle.pk_base.specs.declared.act.Entry.{Entry}
use Rattle.pk_model.specs.Modelling.{Modelling}
use Rattle.pk_model.specs.Replay.{spent_number}
use Rattle.script_text.specs.LegalReport.{IsTranscript}
use Rattle.script_text.specs.declared.script.ScriptLine.{ScriptLine}
use Rattle.script_text.specs.declared.report.Line.{Line}
use Rattle.session_table.specs.declared.view.View.{View}
use Rattle.session_table.specs.declared.view.Joined.{Joined}
use Rattle.session_table.specs.Entries.{only, StartsWith}
use Rattle.session_table.specs.Ends.{HoldsNothing}
use Rattle.session_table.specs.Seats.{joined_as, mine_of, seen_of}
use Rattle.pk_session.specs.Views.{SeatView}

-- what the seat has seen of the partitions 1 to n
abbrev pub seen_in : View → ℕ → List (List Entry)
seen_in v n = map (seen_of v) (range_with_len 1 n)

-- A number that an entry found spent is above the last block, by at most 65,535, and then the seat
-- keeps such a number.
abbrev pub IsSpentWithin : ℕ → Option ℕ → Entry → Type 0
IsSpentWithin last past e =
    MatchOption (spent_number e) (Unit {0})
    (λ k. ((last < k) × (k ≤ last + 65535)) × IsSome past)

-- The thread, whose number is its seat's, was told all its lines. They are walked over its entries
-- in what its seat has seen, and take all of them. What its seat did is just what it has seen of
-- itself. The seat holds nothing, and what its entries found spent is in order.
pub record HasRun (K : Modelling) (lines : List ScriptLine) (s : SeatView) (said : List Line)
    : Type 0 where
  pub told : IsTranscript K s.session.bounds.partitions s.view.number
      (seen_in s.view s.session.bounds.partitions) lines said
  pub whole : (p : ℕ) → mine_of s.view p ≡ only s.view.number (seen_of s.view p)
  pub idle : HoldsNothing s.view
  pub spent : (p : ℕ) → AllByRecursion (IsSpentWithin s.session.bounds.last s.view.past)
      (mine_of s.view p)

-- Root keeps of the seat what it did, has seen what it has seen, and keeps a number above the last
-- block if it does.
pub record IsKeptBy (root s : SeatView) : Type 0 where
  pub session : s.session ≡ root.session
  pub joined : Joined
  pub there : joined_as root.view.joined s.view.number ≡ Some joined
  pub lines : joined.lines ≡ s.view.lines
  pub seen : (p : ℕ) → StartsWith (seen_of root.view p) (seen_of s.view p)
  pub past : IsSome s.view.past → IsSome root.view.past

-- a seat of this number, whose thread has run, and which root has joined
pub record IsThrough (K : Modelling) (root : SeatView) (t : ℕ) (lines : List ScriptLine)
    (said : List Line) : Type 0 where
  pub seat : SeatView
  pub number : seat.view.number ≡ t
  pub run : HasRun K lines seat said
  pub kept : IsKeptBy root seat

-- the threads t, t + 1 and so on have run so
abbrev pub AreThrough : Modelling → SeatView → ℕ → List (List ScriptLine) → List (List Line)
    → Type 0
AreThrough K root t [] [] = Unit {0}
AreThrough K root t (lines ∷ threads) (said ∷ more) =
    IsThrough K root t lines said × AreThrough K root (t + 1) threads more
AreThrough K root t [] (said ∷ more) = ⊥
AreThrough K root t (lines ∷ threads) [] = ⊥

-- Root is the first seat. It has made so many seats, did nothing itself, and holds nothing.
pub record IsRootOf (seats : ℕ) (root : SeatView) : Type 0 where
  pub number : root.view.number ≡ 0
  pub made : root.view.made ≡ seats
  pub mine : (p : ℕ) → mine_of root.view p ≡ []
  pub idle : HoldsNothing root.view
