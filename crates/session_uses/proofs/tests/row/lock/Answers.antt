use Rattle.session_uses.proofs.Keeping.{lock_holds, lock_number}
use Rattle.session_uses.proofs.tests.row.lock.Goals as goal

pub returns-clause-held : goal.returns-clause-held
returns-clause-held c = lock_holds _ c.args.session.now c.args.seat.now c.args.p c.try_lock.result c.try_lock.new.seat c.requires.idle c.try_lock.ensures.seat c.try_lock.ensures.step

pub returns-clause-number : goal.returns-clause-number
returns-clause-number c = lock_number _ c.args.seat.now c.args.p c.try_lock.result c.try_lock.new.seat c.try_lock.ensures.step
