-- What the code's world stands for.
use Rattle.std.specs.Prelude.{◌≡◌, ℕ, ◌≤◌, List, map, length}
use Rattle.std.specs.List.{range_with_len}
use Rattle.pk_base.specs.declared.tag.TheConstants.{LAST_BLOCK}
use Rattle.pk_model.specs.Modelling.{Modelling}
use Rattle.partition.specs.Partition.{PartitionView}
use Rattle.world_core.specs.Event.{Supply}
use Rattle.world_core.specs.World.{WorldPartition, WorldState}
use Rattle.world_core.specs.Session.{IsSession}

abbrev pub seen_as : PartitionView → WorldPartition
seen_as v = record { state = v.state; journal = v.journal }

abbrev pub world_of : List PartitionView → Supply → ℕ → WorldState
world_of partitions blocks threads =
    record { partitions = map seen_as partitions; blocks = blocks; threads = threads }

-- each partition has its number, and all of it is a session
pub record IsWorld (K : Modelling) (partitions : List PartitionView) (blocks : Supply)
    (threads : ℕ) : Type 0 where
  pub numbers : map (λ v. v.number) partitions ≡ range_with_len 1 (length partitions)
  pub last : blocks.last ≤ LAST_BLOCK
  pub session : IsSession K (world_of partitions blocks threads)
