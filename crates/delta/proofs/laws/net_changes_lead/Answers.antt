use Rattle.delta.proofs.Leads.{StartsAt-net_changes, after-net_changes, net_changes-only}
use Rattle.delta.proofs.laws.net_changes_lead.Goals as goal

pub returns-clause-starts : goal.returns-clause-starts
returns-clause-starts c = StartsAt-net_changes

pub returns-clause-leads : goal.returns-clause-leads
returns-clause-leads c = after-net_changes

pub returns-clause-only : goal.returns-clause-only
returns-clause-only c = net_changes-only
