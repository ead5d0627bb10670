use Rattle.std.proofs.Common.{ap, sym, subst, ◌∙◌}
use Rattle.pk_session.specs.Views.{SeatView, HeldView}
use Rattle.pk_session.specs.Holding.{IsHeldBy}
use Rattle.pk_session.specs.Slots.{IsAtRest}
use Rattle.pk_session.specs.Locks.{HasUnlocked}
use Rattle.pk_session.proofs.Locking.{seen_as, unlocked}
use Rattle.pk_session.proofs.Acting.{release_noted, release_journal}
use Rattle.pk_session.proofs.session.Session.unlock.Goals as goal

pub leave-requires-clause-value : goal.leave-requires-clause-value
leave-requires-clause-value g c κs within =
    let f = c.held.inside in let had : HeldView = record { session = f.session; partition = f.partition } in
    let held : IsHeldBy (seen_as c.seat.inside.place) had = subst (λ (s : SeatView). IsHeldBy s had) (sym c.seat.view_is) (subst (IsHeldBy c.args.seat.now) (sym c.held.view_is) c.requires.held) in
    release_noted g.K.Meaning.modelling (seen_as c.seat.inside.place) had c.released-free.result held c.released-free.ensures

pub returns-clause-step : goal.returns-clause-step
returns-clause-step g c =
    let table = c.self.inside.table in let old = c.seat.inside.place in let new = c.leave.new.seat in let f = c.held.inside in
    let had : HeldView = record { session = f.session; partition = f.partition } in
    let before : IsAtRest table old = record { session = ap (λ (s : SeatView). s.session) c.seat.view_is ∙ c.requires.seat ∙ sym c.self.view_is; between = c.seat.invariant } in
    let held : IsHeldBy (seen_as old) had = subst (λ (s : SeatView). IsHeldBy s had) (sym c.seat.view_is) (subst (IsHeldBy c.args.seat.now) (sym c.held.view_is) c.requires.held) in
    let x = c.released-free.result in
    subst (λ (s : SeatView). HasUnlocked s c.args.held (seen_as new)) c.seat.view_is
    (subst (λ (h : HeldView). HasUnlocked (seen_as old) h (seen_as new)) c.held.view_is
    (unlocked table old new before c.leave.ensures.rest had x c.released-free.ensures.number (release_journal g.K.Meaning.modelling (seen_as old) had x held c.released-free.ensures) c.leave.ensures.view))
