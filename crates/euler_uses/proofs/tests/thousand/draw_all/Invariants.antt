use Rattle.std.proofs.Common.{◌≡◌}
use Rattle.modeller.specs.Euler.{euler}
use Rattle.partition.specs.Work.{load}
use Rattle.euler_uses.proofs.tests.thousand.draw_all.Given as goal

abbrev pub invariant-loop-block : goal.invariant-loop-block
invariant-loop-block g l = load euler l.p.number l.p.journal ≡ load euler l.fn.p.number l.fn.p.journal
