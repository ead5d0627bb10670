use Rattle.std.proofs.Common.{◌≡◌}
use Rattle.pk_session.specs.Locks.{HasWaited}
use Rattle.pk_session.proofs.session.Session.lock.Given as goal

abbrev pub invariant-loop : goal.invariant-loop
invariant-loop g l = record {
  session : l.seat.session ≡ l.self;
  waited : HasWaited l.initial.seat l.seat;
}
