use Rattle.std.proofs.Common.{ap, sym, subst, ◌∙◌}
use Rattle.pk_session.specs.Views.{SeatView, HeldView}
use Rattle.pk_session.specs.Holding.{IsHeldBy}
use Rattle.pk_session.specs.Slots.{IsAtRest}
use Rattle.pk_session.specs.Draws.{TriesDraw}
use Rattle.pk_session.proofs.Locking.{seen_as}
use Rattle.pk_session.proofs.Blocks.{tries}
use Rattle.pk_session.proofs.session.Session.draw.Goals as goal

pub returns-clause-step : goal.returns-clause-step
returns-clause-step g c =
    let K = g.K.Meaning.modelling in let table = c.self.inside.table in let old = c.seat.inside.place in let new = c.draw_into.new.seat in let f = c.held.inside in
    let had : HeldView = record { session = f.session; partition = f.partition } in let has : HeldView = record { session = f.session; partition = c.draw_into.new.partition } in
    let before : IsAtRest table old = record { session = ap (λ (s : SeatView). s.session) c.seat.view_is ∙ c.requires.seat ∙ sym c.self.view_is; between = c.seat.invariant } in
    let held : IsHeldBy (seen_as old) had = subst (λ (s : SeatView). IsHeldBy s had) (sym c.seat.view_is) (subst (IsHeldBy c.args.seat.now) (sym c.held.view_is) c.requires.held) in
    subst (λ (s : SeatView). TriesDraw K s c.args.held.now c.draw_into.result (seen_as new) has) c.seat.view_is
    (subst (λ (h : HeldView). TriesDraw K (seen_as old) h c.draw_into.result (seen_as new) has) c.held.view_is
    (tries table old new before c.draw_into.ensures.rest K had c.draw_into.new.partition c.draw_into.result held c.draw_into.ensures.draws))
