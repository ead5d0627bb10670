use Rattle.std.proofs.Common.{◌≡◌, ◌-◌, map, vec_len}
use Rattle.std.specs.Prelude.{vec_capacity}
use Rattle.session_table.specs.Named.{openings}
use Rattle.pk_session.specs.Inside.{named_of}
use Rattle.pk_session.proofs.beginning.begin_all.Given as goal

abbrev pub invariant-loop-p : goal.invariant-loop-p
invariant-loop-p g l = record {
  names : map named_of l.all.items ≡ openings 1 (l.p - 1);
  many : vec_len l.all ≡ l.p - 1;
  room : vec_capacity l.all ≡ vec_capacity l.initial.all;
}
