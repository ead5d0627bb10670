use Rattle.std.proofs.Common.{ap, sym, ◌∙◌}
use Rattle.solid_model.specs.Rows.{tells}
use Rattle.modeller.proofs.Telling.{goes-as, room-as, told-as}
use Rattle.modeller.proofs.euler.tell.Goals as goal

pub ask_do-requires-clause-goes : goal.ask_do-requires-clause-goes
ask_do-requires-clause-goes g c = goes-as c.args.store.now.state.map c.args.call.now _ c.in-Ask.is c.requires.goes

pub counts_do-requires-clause-goes : goal.counts_do-requires-clause-goes
counts_do-requires-clause-goes g c = goes-as c.args.store.now.state.map c.args.call.now _ c.in-Counts.is c.requires.goes

pub kids_do-requires-clause-goes : goal.kids_do-requires-clause-goes
kids_do-requires-clause-goes g c = goes-as c.args.store.now.state.map c.args.call.now _ c.in-Kids.is c.requires.goes

pub kids_do-requires-clause-spare : goal.kids_do-requires-clause-spare
kids_do-requires-clause-spare g c = room-as c.args.store.now.state.map c.args.call.now _ c.in-Kids.is _ c.requires.spare

pub ring_do-requires-clause-goes : goal.ring_do-requires-clause-goes
ring_do-requires-clause-goes g c = goes-as c.args.store.now.state.map c.args.call.now _ c.in-Ring.is c.requires.goes

pub ring_do-requires-clause-spare : goal.ring_do-requires-clause-spare
ring_do-requires-clause-spare g c = room-as c.args.store.now.state.map c.args.call.now _ c.in-Ring.is _ c.requires.spare

pub bodies_do-requires-clause-spare : goal.bodies_do-requires-clause-spare
bodies_do-requires-clause-spare g c = room-as c.args.store.now.state.map c.args.call.now _ c.in-Bodies.is _ c.requires.spare

pub returns-in-Ask : goal.returns-in-Ask
returns-in-Ask g c = told-as c.args.store.now.state.map c.args.call.now _ c.in-Ask.is _ c.ask_do.ensures

pub returns-in-Counts : goal.returns-in-Counts
returns-in-Counts g c = told-as c.args.store.now.state.map c.args.call.now _ c.in-Counts.is _ c.counts_do.ensures

pub returns-in-Kids : goal.returns-in-Kids
returns-in-Kids g c = told-as c.args.store.now.state.map c.args.call.now _ c.in-Kids.is _ (c.kids_do.ensures ∙ ap tells (sym c.reply_with.ensures))

pub returns-in-Ring : goal.returns-in-Ring
returns-in-Ring g c = told-as c.args.store.now.state.map c.args.call.now _ c.in-Ring.is _ (c.ring_do.ensures ∙ ap tells (sym c.reply_with-in-Ring.ensures))

pub returns-in-Bodies : goal.returns-in-Bodies
returns-in-Bodies g c = told-as c.args.store.now.state.map c.args.call.now _ c.in-Bodies.is _ (c.bodies_do.ensures ∙ ap tells (sym c.reply_with-in-Bodies.ensures))
