use Rattle.std.proofs.Common.{◌≡◌, Some, map, length, vec_len}
use Rattle.std.specs.Prelude.{All, vec_capacity}
use Rattle.pk_model.specs.Replay.{replay}
use Rattle.partition.specs.Partition.{PartitionView}
use Rattle.pk_session.proofs.closing.take_all.Given as goal

abbrev pub invariant-loop-value : goal.invariant-loop-value
invariant-loop-value g l = record {
  can : (goal.iterator-loop-value g).can_next l.value-iterator;
  ends : (goal.iterator-loop-value g).is_finite l.value-iterator;
  items : l.all.items ≡ map (λ (x : PartitionView). x) l.yielded;
  many : vec_len l.all ≡ length l.yielded;
  capacity : vec_capacity l.all ≡ vec_capacity l.initial.all;
  replays : All (λ (x : PartitionView). replay g.K.Meaning.modelling x.number x.journal ≡ Some x.state) l.all.items;
}
