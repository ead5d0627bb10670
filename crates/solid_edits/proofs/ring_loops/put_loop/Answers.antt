use Rattle.std.proofs.Common.{[]}
use Rattle.list_facts.proofs.Elements.{Contains-first}
use Rattle.entity_store.proofs.Room.{puts-one}
use Rattle.solid_edits.proofs.ring_loops.put_loop.Goals as goal

pub returns-clause-puts : goal.returns-clause-puts
returns-clause-puts g c = puts-one _ c.args.rec.now.store.now c.put.new.self.store.now c.args.loop_ _ (Contains-first c.args.loop_ []) c.put.ensures.began c.put.ensures.recorded
