-- What holds of every world that is reached.
use Rattle.std.specs.Prelude.{◌≡◌, ℕ, ◌+◌, ◌-◌, ◌≤◌, List, [], ◌∷◌, map, length, Some, IsPermutation}
use Rattle.std.specs.List.{range_with_len, flat_map}
use Rattle.pk_base.specs.declared.act.Entry.{Entry}
use Rattle.pk_model.specs.Modelling.{Modelling}
use Rattle.pk_model.specs.Replay.{replay}
use Rattle.pk_model.specs.Sessions.{drawn_in}
use Rattle.world_core.specs.World.{WorldPartition, WorldState}

-- the journals of partitions 1, 2 and so on
abbrev pub journals_of : WorldState → List (List Entry)
journals_of w = map (λ q. q.journal) w.partitions

-- the blocks that the partitions own, one partition after another
abbrev pub blocks_of : WorldState → List ℕ
blocks_of w = flat_map (λ q. q.state.blocks) w.partitions

-- the state of each of the partitions p, p + 1 and so on is the replay of its journal
abbrev pub AreReplays : Modelling → ℕ → List WorldPartition → Type 0
AreReplays K p [] = Unit {0}
AreReplays K p (q ∷ qs) = (replay K p q.journal ≡ Some q.state) × AreReplays K (p + 1) qs

-- The state of each partition is the replay of its journal. The next block is never more than one
-- above the last. The blocks drawn are those from n + 1 to the one before the next, each once; and
-- the blocks owned are those from 1, each in one partition.
pub record IsSession (K : Modelling) (w : WorldState) : Type 0 where
  pub replays : AreReplays K 1 w.partitions
  pub first : length w.partitions + 1 ≤ w.blocks.next
  pub within : w.blocks.next ≤ w.blocks.last + 1
  pub drawn : IsPermutation (drawn_in (journals_of w))
      (range_with_len (length w.partitions + 1) (w.blocks.next - (length w.partitions + 1)))
  pub owned : IsPermutation (blocks_of w) (range_with_len 1 (w.blocks.next - 1))
