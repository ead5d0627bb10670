use Rattle.std.proofs.Common.{[], ◌∷◌}
use Rattle.solid_edits.specs.BareParts.{tags_of_parts}
use Rattle.entity_store.proofs.Room.{room-for_one, room-after, puts-one, puts-then}
use Rattle.list_facts.proofs.Elements.{Contains-first, Contains-later}
use Rattle.euler_make.proofs.mvfs.put_parts.Goals as goal

pub put-requires-clause-room : goal.put-requires-clause-room
put-requires-clause-room g c =
    let p = c.args.parts.now in
    let ts = tags_of_parts p in
    let s0 = c.args.rec.now.store.now in
    room-for_one s0.recording ts p.body c.requires.room (Contains-first p.body (p.shell ∷ p.face ∷ p.loop_ ∷ p.vertex ∷ []))

pub put-requires-2-clause-room : goal.put-requires-2-clause-room
put-requires-2-clause-room g c =
    let p = c.args.parts.now in
    let ts = tags_of_parts p in
    let s0 = c.args.rec.now.store.now in
    let s1 = c.put.new.self.store.now in
    let p1 = puts-one ts s0 s1 p.body _ (Contains-first p.body (p.shell ∷ p.face ∷ p.loop_ ∷ p.vertex ∷ [])) c.put.ensures.began c.put.ensures.recorded in
    room-for_one s1.recording ts p.shell (room-after ts ts s0 s1 c.requires.room p1 (λ t k. k)) (Contains-later p.body (p.shell ∷ p.face ∷ p.loop_ ∷ p.vertex ∷ []) p.shell (Contains-first p.shell (p.face ∷ p.loop_ ∷ p.vertex ∷ [])))

pub put-requires-3-clause-room : goal.put-requires-3-clause-room
put-requires-3-clause-room g c =
    let p = c.args.parts.now in
    let ts = tags_of_parts p in
    let s0 = c.args.rec.now.store.now in
    let s1 = c.put.new.self.store.now in
    let p1 = puts-one ts s0 s1 p.body _ (Contains-first p.body (p.shell ∷ p.face ∷ p.loop_ ∷ p.vertex ∷ [])) c.put.ensures.began c.put.ensures.recorded in
    let s2 = c.put-2.new.self.store.now in
    let p2 = puts-then ts s0 s1 s2 p1 (puts-one ts s1 s2 p.shell _ (Contains-later p.body (p.shell ∷ p.face ∷ p.loop_ ∷ p.vertex ∷ []) p.shell (Contains-first p.shell (p.face ∷ p.loop_ ∷ p.vertex ∷ []))) c.put-2.ensures.began c.put-2.ensures.recorded) in
    room-for_one s2.recording ts p.face (room-after ts ts s0 s2 c.requires.room p2 (λ t k. k)) (Contains-later p.body (p.shell ∷ p.face ∷ p.loop_ ∷ p.vertex ∷ []) p.face (Contains-later p.shell (p.face ∷ p.loop_ ∷ p.vertex ∷ []) p.face (Contains-first p.face (p.loop_ ∷ p.vertex ∷ []))))

pub put-requires-4-clause-room : goal.put-requires-4-clause-room
put-requires-4-clause-room g c =
    let p = c.args.parts.now in
    let ts = tags_of_parts p in
    let s0 = c.args.rec.now.store.now in
    let s1 = c.put.new.self.store.now in
    let p1 = puts-one ts s0 s1 p.body _ (Contains-first p.body (p.shell ∷ p.face ∷ p.loop_ ∷ p.vertex ∷ [])) c.put.ensures.began c.put.ensures.recorded in
    let s2 = c.put-2.new.self.store.now in
    let p2 = puts-then ts s0 s1 s2 p1 (puts-one ts s1 s2 p.shell _ (Contains-later p.body (p.shell ∷ p.face ∷ p.loop_ ∷ p.vertex ∷ []) p.shell (Contains-first p.shell (p.face ∷ p.loop_ ∷ p.vertex ∷ []))) c.put-2.ensures.began c.put-2.ensures.recorded) in
    let s3 = c.put-3.new.self.store.now in
    let p3 = puts-then ts s0 s2 s3 p2 (puts-one ts s2 s3 p.face _ (Contains-later p.body (p.shell ∷ p.face ∷ p.loop_ ∷ p.vertex ∷ []) p.face (Contains-later p.shell (p.face ∷ p.loop_ ∷ p.vertex ∷ []) p.face (Contains-first p.face (p.loop_ ∷ p.vertex ∷ [])))) c.put-3.ensures.began c.put-3.ensures.recorded) in
    room-for_one s3.recording ts p.loop_ (room-after ts ts s0 s3 c.requires.room p3 (λ t k. k)) (Contains-later p.body (p.shell ∷ p.face ∷ p.loop_ ∷ p.vertex ∷ []) p.loop_ (Contains-later p.shell (p.face ∷ p.loop_ ∷ p.vertex ∷ []) p.loop_ (Contains-later p.face (p.loop_ ∷ p.vertex ∷ []) p.loop_ (Contains-first p.loop_ (p.vertex ∷ [])))))

pub put-requires-5-clause-room : goal.put-requires-5-clause-room
put-requires-5-clause-room g c =
    let p = c.args.parts.now in
    let ts = tags_of_parts p in
    let s0 = c.args.rec.now.store.now in
    let s1 = c.put.new.self.store.now in
    let p1 = puts-one ts s0 s1 p.body _ (Contains-first p.body (p.shell ∷ p.face ∷ p.loop_ ∷ p.vertex ∷ [])) c.put.ensures.began c.put.ensures.recorded in
    let s2 = c.put-2.new.self.store.now in
    let p2 = puts-then ts s0 s1 s2 p1 (puts-one ts s1 s2 p.shell _ (Contains-later p.body (p.shell ∷ p.face ∷ p.loop_ ∷ p.vertex ∷ []) p.shell (Contains-first p.shell (p.face ∷ p.loop_ ∷ p.vertex ∷ []))) c.put-2.ensures.began c.put-2.ensures.recorded) in
    let s3 = c.put-3.new.self.store.now in
    let p3 = puts-then ts s0 s2 s3 p2 (puts-one ts s2 s3 p.face _ (Contains-later p.body (p.shell ∷ p.face ∷ p.loop_ ∷ p.vertex ∷ []) p.face (Contains-later p.shell (p.face ∷ p.loop_ ∷ p.vertex ∷ []) p.face (Contains-first p.face (p.loop_ ∷ p.vertex ∷ [])))) c.put-3.ensures.began c.put-3.ensures.recorded) in
    let s4 = c.put-4.new.self.store.now in
    let p4 = puts-then ts s0 s3 s4 p3 (puts-one ts s3 s4 p.loop_ _ (Contains-later p.body (p.shell ∷ p.face ∷ p.loop_ ∷ p.vertex ∷ []) p.loop_ (Contains-later p.shell (p.face ∷ p.loop_ ∷ p.vertex ∷ []) p.loop_ (Contains-later p.face (p.loop_ ∷ p.vertex ∷ []) p.loop_ (Contains-first p.loop_ (p.vertex ∷ []))))) c.put-4.ensures.began c.put-4.ensures.recorded) in
    room-for_one s4.recording ts p.vertex (room-after ts ts s0 s4 c.requires.room p4 (λ t k. k)) (Contains-later p.body (p.shell ∷ p.face ∷ p.loop_ ∷ p.vertex ∷ []) p.vertex (Contains-later p.shell (p.face ∷ p.loop_ ∷ p.vertex ∷ []) p.vertex (Contains-later p.face (p.loop_ ∷ p.vertex ∷ []) p.vertex (Contains-later p.loop_ (p.vertex ∷ []) p.vertex (Contains-first p.vertex ([]))))))

pub returns-clause-puts : goal.returns-clause-puts
returns-clause-puts g c =
    let p = c.args.parts.now in
    let ts = tags_of_parts p in
    let s0 = c.args.rec.now.store.now in
    let s1 = c.put.new.self.store.now in
    let p1 = puts-one ts s0 s1 p.body _ (Contains-first p.body (p.shell ∷ p.face ∷ p.loop_ ∷ p.vertex ∷ [])) c.put.ensures.began c.put.ensures.recorded in
    let s2 = c.put-2.new.self.store.now in
    let p2 = puts-then ts s0 s1 s2 p1 (puts-one ts s1 s2 p.shell _ (Contains-later p.body (p.shell ∷ p.face ∷ p.loop_ ∷ p.vertex ∷ []) p.shell (Contains-first p.shell (p.face ∷ p.loop_ ∷ p.vertex ∷ []))) c.put-2.ensures.began c.put-2.ensures.recorded) in
    let s3 = c.put-3.new.self.store.now in
    let p3 = puts-then ts s0 s2 s3 p2 (puts-one ts s2 s3 p.face _ (Contains-later p.body (p.shell ∷ p.face ∷ p.loop_ ∷ p.vertex ∷ []) p.face (Contains-later p.shell (p.face ∷ p.loop_ ∷ p.vertex ∷ []) p.face (Contains-first p.face (p.loop_ ∷ p.vertex ∷ [])))) c.put-3.ensures.began c.put-3.ensures.recorded) in
    let s4 = c.put-4.new.self.store.now in
    let p4 = puts-then ts s0 s3 s4 p3 (puts-one ts s3 s4 p.loop_ _ (Contains-later p.body (p.shell ∷ p.face ∷ p.loop_ ∷ p.vertex ∷ []) p.loop_ (Contains-later p.shell (p.face ∷ p.loop_ ∷ p.vertex ∷ []) p.loop_ (Contains-later p.face (p.loop_ ∷ p.vertex ∷ []) p.loop_ (Contains-first p.loop_ (p.vertex ∷ []))))) c.put-4.ensures.began c.put-4.ensures.recorded) in
    let s5 = c.put-5.new.self.store.now in
    let p5 = puts-then ts s0 s4 s5 p4 (puts-one ts s4 s5 p.vertex _ (Contains-later p.body (p.shell ∷ p.face ∷ p.loop_ ∷ p.vertex ∷ []) p.vertex (Contains-later p.shell (p.face ∷ p.loop_ ∷ p.vertex ∷ []) p.vertex (Contains-later p.face (p.loop_ ∷ p.vertex ∷ []) p.vertex (Contains-later p.loop_ (p.vertex ∷ []) p.vertex (Contains-first p.vertex ([])))))) c.put-5.ensures.began c.put-5.ensures.recorded) in
    p5
