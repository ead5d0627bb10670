use Rattle.std.proofs.Common.{sym, ◌∙◌}
use Rattle.partition.proofs.Named.{refused-parent}
use Rattle.partition.proofs.marks.parent_of.Goals as goal

pub returns-in-Some-clause-edge : goal.returns-in-Some-clause-edge
returns-in-Some-clause-edge c = c.parent.ensures.edge c.in-Some.parent c.in-Some.is

pub returns-in-None-clause-refused : goal.returns-in-None-clause-refused
returns-in-None-clause-refused c = refused-parent c.args.store.now.state.blocks c.args.tree.now.marks c.args.m c.in_ok-check_live.ensures.found (sym c.parent.ensures.value ∙ c.in-None.is)
