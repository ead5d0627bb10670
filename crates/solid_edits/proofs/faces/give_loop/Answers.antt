use Rattle.std.proofs.Common.{[], ◌∷◌}
use Rattle.entity_store.proofs.Room.{puts-one}
use Rattle.list_facts.proofs.Elements.{Contains-first}
use Rattle.solid_edits.proofs.faces.give_loop.Goals as goal

pub returns-clause-puts : goal.returns-clause-puts
returns-clause-puts g c =
    puts-one (c.args.ring ∷ []) c.args.rec.now.store.now c.put.new.self.store.now c.args.ring _ (Contains-first c.args.ring []) c.put.ensures.began c.put.ensures.recorded
