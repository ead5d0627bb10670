use Rattle.solid_model.specs.Sound.{IsSound}
use Rattle.law_uses.proofs.tests.row.after.Given as goal

abbrev pub invariant-loop-place : goal.invariant-loop-place
invariant-loop-place g l = IsSound l.store.state.map
