use Rattle.solid_model.specs.Sound.{IsSound}
use Rattle.law_uses.proofs.tests.back.check_rings.Given as goal

abbrev pub invariant-loop-ring : goal.invariant-loop-ring
invariant-loop-ring g l = IsSound l.store.state.map
