-- What becomes of a seat that asks for a partition, and of one that lets a partition go.
use Rattle.std.specs.Prelude.{◌≡◌, ◌≢◌, ◌⊎◌, ℕ, ◌≤◌, List, [], ◌∷◌, ◌++◌, Some, None, IsSome, Result, Ok, Err}
use Rattle.pk_base.specs.declared.act.Entry.{Entry}
use Rattle.pk_base.specs.declared.act.Entry.TheVariants.{Claimed, Released}
use Rattle.pk_model.specs.Modelling.{Modelling}
use Rattle.pk_model.specs.Replay.{replay}
use Rattle.session_table.specs.declared.view.Note.{Note}
use Rattle.session_table.specs.Entries.{only, StartsWith}
use Rattle.session_table.specs.Seats.{seen_of, mine_of, note_of}
use Rattle.session_table.specs.Steps.{noted, looked_at, let_go}
use Rattle.pk_session.specs.declared.locks.LockNo.{LockNo}
use Rattle.pk_session.specs.declared.locks.LockNo.TheVariants.{NoPartition, AlreadyYours, HeldBy, NoMemory}
use Rattle.pk_session.specs.Views.{SeatView, HeldView, IsPartitionOf, KeepsOthers}
use Rattle.pk_session.specs.Holding.{IsHeldBy}

-- The journal that a claim of p finds begins with all that the seat had seen of p, and has of the
-- seat just the entries that it had made.
pub record IsFound (old : SeatView) (p : ℕ) (journal : List Entry) : Type 0 where
  pub seen : StartsWith journal (seen_of old.view p)
  pub mine : mine_of old.view p ≡ only old.view.number journal

-- The seat holds p, which the session has and the seat did not hold. The partition's journal is the
-- one that the claim found, and the claim; its state is the replay of it.
pub record HasLocked (K : Modelling) (old : SeatView) (p : ℕ) (held : HeldView)
    (new : SeatView) : Type 0 where
  pub within : IsPartitionOf old.session p
  pub free : note_of old.view p ≡ None
  pub found : List Entry
  pub begins : IsFound old p found
  pub number : held.partition.number ≡ p
  pub journal : held.partition.journal ≡ found ++ Claimed old.view.number ∷ []
  pub replays : replay K p held.partition.journal ≡ Some held.partition.state
  pub holds : IsHeldBy new held
  pub note : holds.note.journal ≡ found
  pub seat : new ≡ record old { view = noted old.view p holds.note }

-- the claim of p has read that another seat held it
pub record IsHeldByAnother (old : SeatView) (p holder : ℕ) (new : SeatView) : Type 0 where
  pub within : IsPartitionOf old.session p
  pub free : note_of old.view p ≡ None
  pub other : holder ≢ old.view.number
  pub few : holder ≤ 65534
  pub seat : new ≡ record old { view = looked_at old.view p holder }

-- The seat has claimed p and let it go as it was, with no entry more. It has seen the journal that
-- the claim found, and what is its own in it stands.
pub record HasGivenBack (old : SeatView) (p : ℕ) (new : SeatView) : Type 0 where
  pub note : Note
  pub begins : IsFound old p note.journal
  pub seen : seen_of new.view p ≡ note.journal
  pub mine : mine_of new.view p ≡ mine_of old.view p
  pub gone : note_of new.view p ≡ None
  pub others : KeepsOthers old.view p new.view
  pub seat : new ≡ record old { view = let_go (noted old.view p note) p note.journal }

-- Without memory the seat is as it was, or it has claimed p and given it back.
pub record HasNoRoom (old : SeatView) (p : ℕ) (new : SeatView) : Type 0 where
  pub within : IsPartitionOf old.session p
  pub free : note_of old.view p ≡ None
  pub seat : (new ≡ old) ⊎ HasGivenBack old p new

-- what an attempt to lock p gives
abbrev pub TriesLock : Modelling → SeatView → ℕ → Result HeldView LockNo → SeatView → Type 0
TriesLock K old p (Ok held) new = HasLocked K old p held new
TriesLock K old p (Err (NoPartition q)) new =
    (q ≡ p) × (IsPartitionOf old.session p → ⊥) × (new ≡ old)
TriesLock K old p (Err (AlreadyYours q)) new =
    (q ≡ p) × IsPartitionOf old.session p × IsSome (note_of old.view p) × (new ≡ old)
TriesLock K old p (Err (HeldBy holder)) new = IsHeldByAnother old p holder new
TriesLock K old p (Err NoMemory) new = HasNoRoom old p new

-- some claims have failed, and nothing else has changed
pub record HasWaited (old new : SeatView) : Type 0 where
  pub looks : old.view.looks ≤ new.view.looks
  pub seat : new ≡ record old {
    view = record old.view { looks = new.view.looks; looked = new.view.looked };
  }

-- it is not that another seat holds the partition
abbrev pub IsNotBusy : Result HeldView LockNo → Type 0
IsNotBusy (Ok held) = Unit {0}
IsNotBusy (Err (NoPartition q)) = Unit {0}
IsNotBusy (Err (AlreadyYours q)) = Unit {0}
IsNotBusy (Err (HeldBy holder)) = ⊥
IsNotBusy (Err NoMemory) = Unit {0}

-- what a lock of p gives: after some claims that failed, what an attempt gives, but not that
-- another seat holds it
pub record Locks (K : Modelling) (old : SeatView) (p : ℕ) (result : Result HeldView LockNo)
    (new : SeatView) : Type 0 where
  pub waited : SeatView
  pub waits : HasWaited old waited
  pub tries : TriesLock K waited p result new
  pub idle : IsNotBusy result

-- The seat has let the partition go. It has seen the journal of the held partition and the release
-- behind it, and keeps its own entries of it.
pub record HasUnlocked (old : SeatView) (held : HeldView) (new : SeatView) : Type 0 where
  pub seen : seen_of new.view held.partition.number
      ≡ held.partition.journal ++ Released old.view.number ∷ []
  pub mine : mine_of new.view held.partition.number
      ≡ only old.view.number (seen_of new.view held.partition.number)
  pub gone : note_of new.view held.partition.number ≡ None
  pub others : KeepsOthers old.view held.partition.number new.view
  pub seat : new ≡ record old {
    view = let_go old.view held.partition.number
        (held.partition.journal ++ Released old.view.number ∷ []);
  }
