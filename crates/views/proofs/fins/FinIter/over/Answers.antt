use Rattle.views.proofs.Onward.{begins, begins-walk}
use Rattle.views.proofs.fins.FinIter.over.Goals as goal

pub returns : goal.returns
returns c = begins c.args.store.now.state.map c.args.first _ c.requires c.unwrap_or.ensures
