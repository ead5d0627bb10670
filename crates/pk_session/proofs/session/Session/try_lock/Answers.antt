use Rattle.std.proofs.Common.{◌≡◌, None, Ok, ap, sym, subst, ◌∙◌, arith}
use Rattle.pk_session.specs.Views.{SeatView, IsPartitionOf}
use Rattle.session_table.specs.Seats.{note_of}
use Rattle.session_table.specs.Faces.{view_of, session_of}
use Rattle.pk_session.specs.Slots.{IsAtRest}
use Rattle.pk_session.specs.Locks.{TriesLock}
use Rattle.pk_session.proofs.Locking.{seen_as, locked, none_from_not}
use Rattle.pk_session.proofs.session.Session.try_lock.Goals as goal

pub returns-clause-step : goal.returns-clause-step
returns-clause-step g c =
    let K = g.K.Meaning.modelling in let table = c.self.inside.table in let old = c.seat.inside.place in let new = c.claim.new.seat in
    let x = c.in_ok-partition.partition in let of = c.session-session.result in
    let before : IsAtRest table old = record { session = ap (λ (s : SeatView). s.session) c.seat.view_is ∙ c.requires.seat ∙ sym c.self.view_is; between = c.seat.invariant } in
    let partitions = ap (λ s. s.bounds.partitions) before.session in
    let own = c.self.invariant.1 in let some = c.if-p-eq0.false in let most = c.if-p-self.false in
    let within : IsPartitionOf (session_of old) c.args.p = (omega arith, omega arith) in
    let free : note_of (view_of old) c.args.p ≡ None = none_from_not (note_of (view_of old) c.args.p) (sym c.holds.ensures ∙ c.if-holds.false) in
    subst (λ (s : SeatView). TriesLock K s c.args.p (Ok (record { session = of; partition = x })) (seen_as new)) c.seat.view_is
    (locked table old new before c.in_ok-partition.ensures.rest K c.args.p x of within free c.session-session.ensures c.in_ok-partition.ensures.takes)
