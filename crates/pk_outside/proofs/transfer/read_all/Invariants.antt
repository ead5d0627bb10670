use Rattle.std.proofs.Common.{◌≡◌, ◌+◌, ◌≤◌, ◌-◌, vec_len}
use Rattle.pk_outside.specs.Outside.{Takes}
use Rattle.pk_outside.proofs.transfer.read_all.Given as goal

abbrev pub invariant-loop-piece : goal.invariant-loop-piece
invariant-loop-piece g l = record {
  taken : Takes (g.S.Source.left l.initial.source) (g.S.Source.left l.source) l.bytes.items;
  unfailed : g.S.Source.faults l.source ≡ g.S.Source.faults l.initial.source;
  within : vec_len l.bytes ≤ 4194305;
  calls : g.S.Source.calls l.source ≤ g.S.Source.calls l.initial.source + vec_len l.bytes;
}

abbrev pub decreases-loop-piece : goal.decreases-loop-piece
decreases-loop-piece g l = 4194305 - vec_len l.bytes
