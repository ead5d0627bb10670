use Rattle.table_visits.proofs.Visiting.{filled_by_put, seen_left, done_left, others_left}
use Rattle.table_visits.proofs.visits.leave.Goals as goal

pub release-requires-clause-filled : goal.release-requires-clause-filled
release-requires-clause-filled c = filled_by_put _ _ c.args.p _ c.put_in.ensures.step

pub returns-clause-seen : goal.returns-clause-seen
returns-clause-seen c = seen_left _ _ _ c.args.p _ c.put_in.ensures.step c.release.ensures.step

pub returns-clause-done : goal.returns-clause-done
returns-clause-done c = done_left _ _ _ c.args.p _ c.put_in.ensures.step c.release.ensures.step

pub returns-clause-others : goal.returns-clause-others
returns-clause-others c = others_left _ _ _ c.args.p _ c.put_in.ensures.step c.release.ensures.step
