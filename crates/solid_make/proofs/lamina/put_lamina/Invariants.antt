use Rattle.std.proofs.Common.{◌≡◌}
use Rattle.solid_make.proofs.Steps.{LaminaSteps}
use Rattle.solid_make.proofs.lamina.put_lamina.Given as goal

abbrev pub invariant-loop-corner : goal.invariant-loop-corner
invariant-loop-corner g l =
    LaminaSteps l.fn.rec.store.now l.fn.tags l.fn.out l.fn.z l.fn.corners l.corner-index l.rec.store.now l.tags l.out l.end
    × (l.rec.store.ghost_name ≡ l.fn.rec.store.ghost_name)
