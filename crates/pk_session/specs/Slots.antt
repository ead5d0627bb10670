-- What becomes of a seat of the table where a partition leaves its slot and comes back.
use Rattle.std.specs.Prelude.{◌≡◌, ◌≢◌, ◌⊎◌, ℕ, ◌+◌, ◌<◌, ◌≤◌, [], ◌∷◌, ◌++◌, Some, None, Result, Ok, Err}
use Rattle.std.specs.List.{AllByRecursion}
use Rattle.pk_base.specs.declared.act.Entry.TheVariants.{Claimed, Drew}
use Rattle.pk_model.specs.Modelling.{Modelling}
use Rattle.pk_model.specs.Replay.{replay}
use Rattle.partition.specs.Partition.{PartitionView, Appends, Stays, holder_of}
use Rattle.session_table.specs.declared.view.Note.{Note}
use Rattle.session_table.specs.declared.view.View.{View}
use Rattle.session_table.specs.declared.seat.Seat.{Seat}
use Rattle.session_table.specs.declared.table.SessionTable.{SessionTable}
use Rattle.session_table.specs.Entries.{only, StartsWith}
use Rattle.session_table.specs.Seats.{seen_of, mine_of, note_of}
use Rattle.session_table.specs.Faces.{name_of, session_of}
use Rattle.session_table.specs.Steps.{noted, looked_at, let_go, passed, drew}
use Rattle.session_table.specs.Tells.{IsNextBlock}
use Rattle.pk_session.specs.declared.draws.DrawNo.{DrawNo}
use Rattle.pk_session.specs.declared.draws.DrawNo.TheVariants as draw
use Rattle.pk_session.specs.declared.locks.LockNo.{LockNo}
use Rattle.pk_session.specs.declared.locks.LockNo.TheVariants.{NoPartition, AlreadyYours, HeldBy, NoMemory}
use Rattle.pk_session.specs.Inside.{IsBetweenCalls}

-- the seat is of this session, and between two calls
pub record IsAtRest (table : SessionTable PartitionView) (seat : Seat PartitionView) : Type 0 where
  pub session : session_of seat ≡ name_of table
  pub between : IsBetweenCalls seat.place.me.0 seat.place.me.1

-- the journal of the note begins with all that the seat had seen of p, and has of the seat just the
-- entries that it had made
pub record IsFoundBy (v : View) (p : ℕ) (note : Note) : Type 0 where
  pub seen : StartsWith note.journal (seen_of v p)
  pub mine : mine_of v p ≡ only v.number note.journal

-- the partition was taken out as the claim found it, and the claim was written down
pub record HasTaken (K : Modelling) (old : View) (p : ℕ) (x : PartitionView)
    (new : View) : Type 0 where
  pub note : Note
  pub begins : IsFoundBy old p note
  pub number : x.number ≡ p
  pub holder : x.state.holder ≡ Some old.number
  pub journal : x.journal ≡ note.journal ++ Claimed old.number ∷ []
  pub blocks : x.state.blocks ≡ note.blocks
  pub replays : replay K p x.journal ≡ Some x.state
  pub view : new ≡ noted old p note

-- the partition was claimed, and was let go as it was
pub record HasReturned (old : View) (p : ℕ) (new : View) : Type 0 where
  pub note : Note
  pub begins : IsFoundBy old p note
  pub view : new ≡ let_go (noted old p note) p note.journal

-- another seat held the partition
pub record HasMissed (old : View) (p holder : ℕ) (new : View) : Type 0 where
  pub other : holder ≢ old.number
  pub few : holder ≤ 65534
  pub view : new ≡ looked_at old p holder

abbrev pub Takes : Modelling → View → ℕ → Result PartitionView LockNo → View → Type 0
Takes K old p (Ok x) new = HasTaken K old p x new
Takes K old p (Err (NoPartition q)) new = ⊥
Takes K old p (Err (AlreadyYours q)) new = ⊥
Takes K old p (Err (HeldBy holder)) new = HasMissed old p holder new
Takes K old p (Err NoMemory) new = (new ≡ old) ⊎ HasReturned old p new

-- the claim was written down, by this entry, or the partition was let go as it was
pub record HasWritten (K : Modelling) (old : View) (x y : PartitionView) (new : View) : Type 0 where
  pub claimed : Appends K x (Claimed old.number) None y
  pub replays : replay K y.number y.journal ≡ Some y.state
  pub view : new ≡ old

abbrev pub WritesClaim : Modelling → View → PartitionView → Result PartitionView LockNo → View
    → Type 0
WritesClaim K old x (Ok y) new = HasWritten K old x y new
WritesClaim K old x (Err (NoPartition q)) new = ⊥
WritesClaim K old x (Err (AlreadyYours q)) new = ⊥
WritesClaim K old x (Err (HeldBy holder)) new = ⊥
WritesClaim K old x (Err NoMemory) new = new ≡ let_go old x.number x.journal

-- the next block was drawn for p
pub record HasBlock (old : View) (p block : ℕ) (new : View) : Type 0 where
  pub note : Note
  pub noted : note_of old p ≡ Some note
  pub fresh : old.bounds.partitions < block
  pub within : block ≤ old.bounds.last
  pub highest : AllByRecursion (λ b. b < block) note.blocks
  pub next : IsNextBlock old block
  pub view : new ≡ drew old p note block

-- a number above the last was read in its place
pub record HasNone (old : View) (next : ℕ) (new : View) : Type 0 where
  pub above : old.bounds.last < next
  pub near : next ≤ old.bounds.last + 65535
  pub greatest : (m : ℕ) → old.past ≡ Some m → m ≤ next
  pub view : new ≡ passed old next

abbrev pub DrawsBlock : View → ℕ → Result ℕ ℕ → View → Type 0
DrawsBlock old p (Ok block) new = HasBlock old p block new
DrawsBlock old p (Err next) new = HasNone old next new

-- the seat has a note on the partition, with its blocks
pub record IsNotedWith (v : View) (x : PartitionView) : Type 0 where
  pub note : Note
  pub noted : note_of v x.number ≡ Some note
  pub blocks : x.state.blocks ≡ note.blocks

-- the block is the partition's; or a number above the last was read, or memory ran out, and the
-- partition is as it was
abbrev pub DrawsInto : Modelling → View → PartitionView → Result ℕ DrawNo → View → PartitionView
    → Type 0
DrawsInto K old x (Ok block) new y =
    HasBlock old x.number block new × Appends K x (Drew (holder_of x) block) None y
DrawsInto K old x (Err (draw.Spent next)) new y = HasNone old next new × Stays x y
DrawsInto K old x (Err draw.NoMemory) new y = (new ≡ old) × Stays x y
