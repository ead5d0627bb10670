-- What lies behind a session, a seat and a held partition.
use Rattle.std.specs.Prelude.{◌≡◌, ℕ, ◌≤◌, false, List, Option, Some, None}
use Rattle.pk_base.specs.declared.tag.TheConstants.{LAST_BLOCK}
use Rattle.partition.specs.Partition.{PartitionView}
use Rattle.session_table.specs.declared.view.Bounds.{Bounds}
use Rattle.session_table.specs.declared.view.View.{View}
use Rattle.session_table.specs.Named.{Named}
use Rattle.session_table.specs.Slots.{in_slot, Carries}

-- what the table sees of a partition
abbrev pub named_of : PartitionView → Named
named_of p = record {
  number = p.number;
  holder = p.state.holder;
  blocks = p.state.blocks;
  journal = p.journal;
}

-- each slot that is held is empty
abbrev pub AreEmpty : (ℕ → Option (Option Named)) → Type 0
AreEmpty slots = (p : ℕ) (slot : Option Named) → slots p ≡ Some slot → slot ≡ None

-- between two calls a seat is not about to draw, and each slot that it holds is empty
pub record IsBetweenCalls (v : View) (slots : List (ℕ × Option PartitionView)) : Type 0 where
  pub calm : v.pending ≡ false
  pub carries : Carries named_of v slots
  pub empty : AreEmpty (in_slot named_of slots)

-- how many partitions and blocks a session may have
pub record IsWithin (bounds : Bounds) : Type 0 where
  pub some : 1 ≤ bounds.partitions
  pub few : bounds.partitions ≤ 32
  pub first : bounds.partitions ≤ bounds.last
  pub last : bounds.last ≤ LAST_BLOCK
