-- What a draw gives to the partition for which it is made.
use Rattle.std.specs.Prelude.{◌≡◌, ℕ, ◌+◌, ◌<◌, ◌≤◌, [], ◌∷◌, ◌++◌, Some, None, Result, Ok, Err}
use Rattle.pk_base.specs.declared.act.Entry.TheVariants.{Drew}
use Rattle.pk_model.specs.Modelling.{Modelling}
use Rattle.partition.specs.Partition.{Appends, Stays}
use Rattle.session_table.specs.Steps.{passed, drew}
use Rattle.session_table.specs.Tells.{IsNextBlock}
use Rattle.pk_session.specs.declared.draws.DrawNo.{DrawNo}
use Rattle.pk_session.specs.declared.draws.DrawNo.TheVariants.{Spent, NoMemory}
use Rattle.pk_session.specs.Views.{SeatView, HeldView}
use Rattle.pk_session.specs.Holding.{IsHeldBy}

-- The partition owns the block, which is none of those that the session begins with, at most the
-- last, and stood in no partition. Its journal has the draw more, and nothing else of it has
-- changed. The seat's note has the block too.
pub record HasDrawn (K : Modelling) (old : SeatView) (had : HeldView) (block : ℕ) (new : SeatView)
    (has : HeldView) : Type 0 where
  pub fresh : old.session.bounds.partitions < block
  pub within : block ≤ old.session.bounds.last
  pub next : IsNextBlock old.view block
  pub session : has.session ≡ had.session
  pub entry : Appends K had.partition (Drew old.view.number block) None has.partition
  pub state : has.partition.state
      ≡ record had.partition.state { blocks = had.partition.state.blocks ++ block ∷ [] }
  pub before : IsHeldBy old had
  pub after : IsHeldBy new has
  pub seat : new ≡ record old { view = drew old.view had.partition.number before.note block }

-- Nothing of the held partition has changed, and it is the seat's.
pub record IsStill (had : HeldView) (new : SeatView) (has : HeldView) : Type 0 where
  pub session : has.session ≡ had.session
  pub stays : Stays had.partition has.partition
  pub holds : IsHeldBy new has

-- The next block was read, and it is above the last, by no more than there may be seats. The seat
-- keeps it, and has counted one more such number; no number that it kept is greater.
pub record HasPassed (old : SeatView) (next : ℕ) (new : SeatView) : Type 0 where
  pub above : old.session.bounds.last < next
  pub near : next ≤ old.session.bounds.last + 65535
  pub greatest : (m : ℕ) → old.view.past ≡ Some m → m ≤ next
  pub counted : new.view.passes ≡ old.view.passes + 1
  pub keeps : new.view.past ≡ Some next
  pub seat : new ≡ record old { view = passed old.view next }

-- what a draw gives
abbrev pub TriesDraw : Modelling → SeatView → HeldView → Result ℕ DrawNo → SeatView → HeldView
    → Type 0
TriesDraw K old had (Ok block) new has = HasDrawn K old had block new has
TriesDraw K old had (Err (Spent next)) new has = HasPassed old next new × IsStill had new has
TriesDraw K old had (Err NoMemory) new has = (new ≡ old) × IsStill had new has
