use Rattle.delta.proofs.Leads.{follows-after}
use Rattle.delta.proofs.laws.following_changes_fit.Goals as goal

pub returns : goal.returns
returns c = follows-after
