use Rattle.std.proofs.Common.{sym, ◌∙◌}
use Rattle.partition.proofs.Named.{deleted, is_found, not_a_mark}
use Rattle.partition.proofs.marks.check_live.Goals as goal

pub returns-then-not-ever-clause-refused : goal.returns-then-not-ever-clause-refused
returns-then-not-ever-clause-refused c = not_a_mark c.args.store.now.state.blocks c.args.tree.now.marks c.args.m (sym c.owns.ensures ∙ c.if-not-owns.false) (sym c.ever.ensures ∙ c.if-not-ever.true)

pub returns-then-not-live-clause-refused : goal.returns-then-not-live-clause-refused
returns-then-not-live-clause-refused c = deleted c.args.store.now.state.blocks c.args.tree.now.marks c.args.m (sym c.owns.ensures ∙ c.if-not-owns.false) (sym c.ever.ensures ∙ c.if-not-ever.false) (sym c.live.ensures.value ∙ c.if-not-live.true)

pub returns-clause-found : goal.returns-clause-found
returns-clause-found c = is_found c.args.store.now.state.blocks c.args.tree.now.marks c.args.m (sym c.owns.ensures ∙ c.if-not-owns.false) (sym c.live.ensures.value ∙ c.if-not-live.false)
