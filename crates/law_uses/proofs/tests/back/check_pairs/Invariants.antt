use Rattle.solid_model.specs.Sound.{IsSound}
use Rattle.law_uses.proofs.tests.back.check_pairs.Given as goal

abbrev pub invariant-loop-from : goal.invariant-loop-from
invariant-loop-from g l = IsSound l.store.state.map
