use Rattle.euler_laws.proofs.Worked.{not_moved, not_renumbered, not_robbed, same_anew}
use Rattle.euler_laws.proofs.names.worked_names.Goals as goal

pub returns-clause-same : goal.returns-clause-same
returns-clause-same c = same_anew

pub returns-clause-point : goal.returns-clause-point
returns-clause-point c = not_moved

pub returns-clause-attribute : goal.returns-clause-attribute
returns-clause-attribute c = not_robbed

pub returns-clause-tag : goal.returns-clause-tag
returns-clause-tag c = not_renumbered
