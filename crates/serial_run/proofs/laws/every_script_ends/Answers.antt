use Rattle.serial_run.specs.Serial.{lines_at}
use Rattle.serial_run.proofs.Idle.{idle_turn, idle_turns}
use Rattle.serial_run.proofs.Ends.{all_ended, ended_next, run_ends}
use Rattle.serial_run.proofs.laws.every_script_ends.Goals as goal

pub returns-clause-ends : goal.returns-clause-ends
returns-clause-ends g c script formed = run_ends g.K.Meaning.modelling script c.requires formed

pub returns-clause-stays : goal.returns-clause-stays
returns-clause-stays g c lines r ts ended = idle_turns g.K.Meaning.modelling lines r ts (all_ended lines r ended)

pub returns-clause-idle : goal.returns-clause-idle
returns-clause-idle g c lines r t ended = idle_turn g.K.Meaning.modelling lines r t (λ s is. ended_next (lines_at lines t) s (ended s is))
