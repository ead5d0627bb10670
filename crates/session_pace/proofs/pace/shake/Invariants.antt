use Rattle.pk_session.specs.Views.{SeatView}
use Rattle.pk_session.specs.Holding.{IsHeldBy}
use Rattle.session_pace.proofs.pace.shake.Given as goal

abbrev pub invariant-loop-done : goal.invariant-loop-done
invariant-loop-done g l = (s : SeatView) → IsHeldBy s l.fn.held → IsHeldBy s l.held
