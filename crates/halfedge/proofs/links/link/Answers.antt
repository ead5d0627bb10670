use Rattle.std.specs.Prelude.{[], ◌∷◌}
use Rattle.entity_store.proofs.Room.{puts-wider}
use Rattle.list_facts.proofs.Elements.{Contains-first, Contains-later}
use Rattle.halfedge.proofs.Among.{has-one, puts-both, room-next}
use Rattle.halfedge.proofs.links.link.Goals as goal

pub set_prev-requires-clause-room : goal.set_prev-requires-clause-room
set_prev-requires-clause-room g c =
    let s = c.args.rec.now.store.now in
    let k = c.set_next.new.rec.store.now in
    let ts = c.args.f ∷ c.args.g ∷ [] in
    room-next ts (c.args.g ∷ []) s k c.requires.room
    (puts-wider (c.args.f ∷ []) ts s k c.set_next.ensures.puts (has-one ts c.args.f (Contains-first c.args.f (c.args.g ∷ []))))
    (has-one ts c.args.g (Contains-later c.args.f (c.args.g ∷ []) c.args.g (Contains-first c.args.g [])))

pub returns-clause-puts : goal.returns-clause-puts
returns-clause-puts g c =
    let ts = c.args.f ∷ c.args.g ∷ [] in
    puts-both ts (c.args.f ∷ []) (c.args.g ∷ []) c.args.rec.now.store.now c.set_next.new.rec.store.now c.set_prev.new.rec.store.now c.set_next.ensures.puts c.set_prev.ensures.puts
    (has-one ts c.args.f (Contains-first c.args.f (c.args.g ∷ [])))
    (has-one ts c.args.g (Contains-later c.args.f (c.args.g ∷ []) c.args.g (Contains-first c.args.g [])))
