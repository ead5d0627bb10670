use Rattle.solid_model.specs.Sound.{IsSound}
use Rattle.law_uses.proofs.tests.back.check_ends.Given as goal

abbrev pub invariant-loop-end : goal.invariant-loop-end
invariant-loop-end g l = IsSound l.store.state.map
