use Rattle.std.proofs.Common.{◌∷◌, ap}
use Rattle.entity_store.specs.Store.{Stored}
use Rattle.solid_calls.specs.Attributes.{attributes_on}
use Rattle.list_facts.proofs.Elements.{Contains-first, Contains-later}
use Rattle.solid_edits.proofs.KilledMaps.{dies-put}
use Rattle.entity_store.proofs.Room.{puts-one, puts-then, puts-wider, room-after, room-for_one, room-part}
use Rattle.solid_edits.proofs.deaths.kill.Goals as goal

pub drop_all-requires : goal.drop_all-requires
drop_all-requires g c =
    let s0 = c.args.rec.now.store.now in
    let k = c.args.tag in
    let attributes = attributes_on s0.state.map k in
    room-part s0.recording (k ∷ attributes) attributes c.requires.room (Contains-later k attributes)

pub put-requires-clause-room : goal.put-requires-clause-room
put-requires-clause-room g c =
    let s0 = c.args.rec.now.store.now in
    let s1 = c.drop_all.new.rec.store.now in
    let k = c.args.tag in
    let attributes = attributes_on s0.state.map k in
    let room = room-after (k ∷ attributes) attributes s0 s1 c.requires.room c.drop_all.ensures.puts (Contains-later k attributes) in
    room-for_one s1.recording (k ∷ attributes) k room (Contains-first k attributes)

pub returns-clause-dies : goal.returns-clause-dies
returns-clause-dies g c =
    dies-put c.args.rec.now.store.now.state.map c.drop_all.new.rec.store.now.state.map c.put.new.self.store.now.state.map c.args.tag c.drop_all.ensures.drops
    (ap (λ (s : Stored). s.map) c.put.ensures.state)

pub returns-clause-puts : goal.returns-clause-puts
returns-clause-puts g c =
    let s0 = c.args.rec.now.store.now in
    let s1 = c.drop_all.new.rec.store.now in
    let s2 = c.put.new.self.store.now in
    let k = c.args.tag in
    let attributes = attributes_on s0.state.map k in
    let dropped = puts-wider attributes (k ∷ attributes) s0 s1 c.drop_all.ensures.puts (Contains-later k attributes) in
    let put = puts-one (k ∷ attributes) s1 s2 k _ (Contains-first k attributes) c.put.ensures.began c.put.ensures.recorded in
    puts-then (k ∷ attributes) s0 s1 s2 dropped put
