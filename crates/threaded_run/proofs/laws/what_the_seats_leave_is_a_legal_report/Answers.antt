use Rattle.threaded_run.proofs.Closing.{left_apart, left_legal}
use Rattle.threaded_run.proofs.laws.what_the_seats_leave_is_a_legal_report.Goals as goal

pub returns-clause-legal : goal.returns-clause-legal
returns-clause-legal g c = left_legal g.K.Meaning.modelling

pub returns-clause-apart : goal.returns-clause-apart
returns-clause-apart g c = left_apart g.K.Meaning.modelling (g.met.K.Modeller g.world.𝓛 g.world.𝓜 g.world.𝓡 ((λ s x. x), (λ x. x), (λ x. x), λ x. x)).lawful
