use Rattle.std.proofs.Common.{◌≡◌}
use Rattle.modeller.specs.Euler.{euler}
use Rattle.partition.specs.Work.{load}
use Rattle.euler_uses.proofs.tests.thousand.go_there_and_back.Given as goal

abbrev pub invariant-loop-body : goal.invariant-loop-body
invariant-loop-body g l = load euler l.p.number l.p.journal ≡ 0
