use Rattle.session_uses.proofs.Keeping.{draw_only, draw_number}
use Rattle.session_uses.proofs.tests.row.draw.Goals as goal

pub returns-clause-held : goal.returns-clause-held
returns-clause-held c = draw_only _ c.args.session.now c.args.seat.now c.args.held.now c.draw.result c.draw.new.seat c.draw.new.held c.requires.held c.draw.ensures.seat c.draw.ensures.step

pub returns-clause-number : goal.returns-clause-number
returns-clause-number c = draw_number _ c.args.seat.now c.args.held.now c.draw.result c.draw.new.seat c.draw.new.held c.draw.ensures.step
