use Rattle.std.proofs.Common.{refl}
use Rattle.solid_forms.proofs.FromNothing.{prism-from_nothing}
use Rattle.solid_forms.proofs.worked.worked_prism.Goals as goal

pub returns-clause-reached : goal.returns-clause-reached
returns-clause-reached c = prism-from_nothing

pub returns-clause-lists : goal.returns-clause-lists
returns-clause-lists c = refl
