use Rattle.std.proofs.Common.{◌≡◌, ◌++◌, map}
use Rattle.partition.specs.Partition.{PartitionView}
use Rattle.serial_run.proofs.run.journals.Given as goal

abbrev pub invariant-loop-partition : goal.invariant-loop-partition
invariant-loop-partition g l = l.all.items ++ map (λ (v : PartitionView). v.journal) l.partition-iterator.rest.items ≡ map (λ (v : PartitionView). v.journal) l.fn.partitions.items
