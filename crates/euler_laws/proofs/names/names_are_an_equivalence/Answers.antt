use Rattle.euler_laws.proofs.SameNames.{same-back, same-itself, same-on}
use Rattle.euler_laws.proofs.names.names_are_an_equivalence.Goals as goal

pub returns-clause-reflexive : goal.returns-clause-reflexive
returns-clause-reflexive c = same-itself

pub returns-clause-symmetric : goal.returns-clause-symmetric
returns-clause-symmetric c = same-back

pub returns-clause-transitive : goal.returns-clause-transitive
returns-clause-transitive c = same-on
