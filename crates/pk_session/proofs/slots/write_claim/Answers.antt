use Rattle.session_table.specs.Faces.{view_of}
use Rattle.pk_session.proofs.Resting.{stays_noted}
use Rattle.pk_session.proofs.slots.write_claim.Goals as goal

pub leave-requires-clause-value : goal.leave-requires-clause-value
leave-requires-clause-value g c κs within = stays_noted c.args.table.now (view_of c.args.seat.now) c.args.partition c.claim.new.self c.in-Err.ensures.err c.requires.value
