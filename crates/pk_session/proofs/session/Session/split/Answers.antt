use Rattle.pk_session.proofs.Seating.{made_between}
use Rattle.pk_session.proofs.session.Session.split.Goals as goal

pub invariant_of-root : goal.invariant_of-root
invariant_of-root g c =
    made_between c.self.inside.table c.root.inside.place c.split-place.new.root c.root.invariant c.split-place.ensures.root c.split-place.ensures.seats.0
