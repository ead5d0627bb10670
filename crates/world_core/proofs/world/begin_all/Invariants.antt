use Rattle.std.proofs.Common.{◌≡◌, ◌-◌, map}
use Rattle.std.specs.List.{range_with_len}
use Rattle.partition.specs.Partition.{PartitionView}
use Rattle.world_core.specs.World.{opened}
use Rattle.world_core.specs.Inside.{seen_as}
use Rattle.world_core.proofs.world.begin_all.Given as goal

abbrev pub invariant-loop-p : goal.invariant-loop-p
invariant-loop-p g l = record {
  numbers : map (λ (v : PartitionView). v.number) l.all.items ≡ range_with_len 1 (l.p - 1);
  opened : map seen_as l.all.items ≡ map opened (range_with_len 1 (l.p - 1));
}
