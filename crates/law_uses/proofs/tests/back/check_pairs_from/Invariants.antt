use Rattle.solid_model.specs.Sound.{IsSound}
use Rattle.law_uses.proofs.tests.back.check_pairs_from.Given as goal

abbrev pub invariant-loop-to : goal.invariant-loop-to
invariant-loop-to g l = IsSound l.store.state.map
