use Rattle.std.proofs.Common.{ap, sym, subst, ◌∙◌}
use Rattle.session_table.specs.Faces.{view_of}
use Rattle.pk_session.specs.Views.{SeatView}
use Rattle.pk_session.specs.Seats.{Joins}
use Rattle.pk_session.proofs.Locking.{seen_as}
use Rattle.pk_session.proofs.Seating.{joined_between, joined}
use Rattle.pk_session.proofs.session.Session.join.Goals as goal

pub invariant_of-root : goal.invariant_of-root
invariant_of-root g c =
    joined_between c.self.inside.table c.root.inside.place c.join.new.root (view_of c.child.inside.place) c.root.invariant c.join.ensures.joined c.join.ensures.seat

pub returns-clause-joined : goal.returns-clause-joined
returns-clause-joined g c =
    let old = c.root.inside.place in let child = c.child.inside.place in let new = c.join.new.root in
    let session = ap (λ (s : SeatView). s.session) c.root.view_is ∙ c.requires.seats.0 ∙ sym c.self.view_is in
    subst (λ (s : SeatView). Joins s c.args.child (seen_as new)) c.root.view_is
    (subst (λ (s : SeatView). Joins (seen_as old) s (seen_as new)) c.child.view_is
    (joined c.self.inside.table old new child session c.join.ensures.seat c.join.ensures.joined))
