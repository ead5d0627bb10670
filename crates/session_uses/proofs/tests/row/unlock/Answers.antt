use Rattle.session_uses.proofs.Keeping.{unlocked_idle}
use Rattle.session_uses.proofs.tests.row.unlock.Goals as goal

pub returns-clause-idle : goal.returns-clause-idle
returns-clause-idle c = unlocked_idle c.args.session.now c.args.seat.now c.args.held c.unlock.new.seat c.requires.held c.unlock.ensures.step
