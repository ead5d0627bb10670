-- There is room for each of the three as long as there is for all, and each is among them.
use Rattle.std.proofs.Common.{refl, arith}
use Rattle.entity_store.proofs.Room.{puts-one, puts-then, room-after, room-for_one}
use Rattle.solid_edits.specs.NewEdges.{tags_of_edge}
use Rattle.solid_edits.proofs.new_edges.put_edge.Goals as goal

pub put-requires-clause-room : goal.put-requires-clause-room
put-requires-clause-room g c =
    let e = c.args.edge.now in
    room-for_one c.args.rec.now.store.now.recording (tags_of_edge e) e.tag c.requires.room (0, omega arith, refl)

pub put-requires-2-clause-room : goal.put-requires-2-clause-room
put-requires-2-clause-room g c =
    let e = c.args.edge.now in
    let ts = tags_of_edge e in
    let s0 = c.args.rec.now.store.now in
    let s1 = c.put.new.self.store.now in
    let one = puts-one ts s0 s1 e.tag _ (0, omega arith, refl) c.put.ensures.began c.put.ensures.recorded in
    room-for_one s1.recording ts e.fin.tag (room-after ts ts s0 s1 c.requires.room one (λ t k. k)) (1, omega arith, refl)

pub put-requires-3-clause-room : goal.put-requires-3-clause-room
put-requires-3-clause-room g c =
    let e = c.args.edge.now in
    let ts = tags_of_edge e in
    let s0 = c.args.rec.now.store.now in
    let s1 = c.put.new.self.store.now in
    let s2 = c.put-2.new.self.store.now in
    let one = puts-one ts s0 s1 e.tag _ (0, omega arith, refl) c.put.ensures.began c.put.ensures.recorded in
    let two = puts-one ts s1 s2 e.fin.tag _ (1, omega arith, refl) c.put-2.ensures.began c.put-2.ensures.recorded in
    room-for_one s2.recording ts e.mate.tag (room-after ts ts s0 s2 c.requires.room (puts-then ts s0 s1 s2 one two) (λ t k. k)) (2, omega arith, refl)

pub returns-clause-puts : goal.returns-clause-puts
returns-clause-puts g c =
    let e = c.args.edge.now in
    let ts = tags_of_edge e in
    let s0 = c.args.rec.now.store.now in
    let s1 = c.put.new.self.store.now in
    let s2 = c.put-2.new.self.store.now in
    let s3 = c.put-3.new.self.store.now in
    let one = puts-one ts s0 s1 e.tag _ (0, omega arith, refl) c.put.ensures.began c.put.ensures.recorded in
    let two = puts-one ts s1 s2 e.fin.tag _ (1, omega arith, refl) c.put-2.ensures.began c.put-2.ensures.recorded in
    let three = puts-one ts s2 s3 e.mate.tag _ (2, omega arith, refl) c.put-3.ensures.began c.put-3.ensures.recorded in
    puts-then ts s0 s2 s3 (puts-then ts s0 s1 s2 one two) three
