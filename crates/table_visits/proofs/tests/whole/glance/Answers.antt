use Rattle.table_visits.proofs.Visiting.{filled_by_claim}
use Rattle.table_visits.proofs.tests.whole.glance.Goals as goal

pub release-requires-clause-filled : goal.release-requires-clause-filled
release-requires-clause-filled c = filled_by_claim _ _ c.args.p c.in-Won.ensures.step
