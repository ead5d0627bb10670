use Rattle.std.proofs.Common.{[], ◌∷◌, Option, subst}
use Rattle.std.specs.Prelude.{IfSome}
use Rattle.pk_base.specs.declared.tag.Tag.{Tag}
use Rattle.halfedge.specs.LinkedRings.{IsInRing}
use Rattle.entity_store.specs.Room.{HasRoomForThese}
use Rattle.halfedge.proofs.LinkedRings.{in-ring_from}
use Rattle.halfedge.specs.Splices.{spliced}
use Rattle.halfedge.proofs.Ends.{two-first, two-second, two-ends, two-other_ends}
use Rattle.halfedge.proofs.Stages.{in-first, in-second, ring-appended, room-appended, room-one}
use Rattle.halfedge.proofs.Insert.{A, B, insert_fins, insert-start, insert-one, insert-both, insert-done, insert-relinks, has-parts, first-of_ring}
use Rattle.halfedge.proofs.rings.insert_pair.Goals as goal

pub append-requires-clause-f : goal.append-requires-clause-f
append-requires-clause-f g c =
    in-ring_from c.args.rec.now.store.now.state.map c.args.out [] c.requires.out

pub append-requires-clause-room : goal.append-requires-clause-room
append-requires-clause-room g c =
    let s = c.args.rec.now.store.now in
    let at = c.args.at in
    let ring = c.args.ring in
    let out = c.args.out in
    let back = c.args.back in
    let start = insert-start s at ring out back c.requires.at c.requires.ring c.requires.out c.requires.back c.requires.apart c.requires.room in
    subst (λ (o : Option Tag). IfSome o (λ t. HasRoomForThese s.recording (spliced s.state.map out t))) (first-of_ring s.state.map ring c.requires.ring)
    (room-appended (insert_fins s at ring out back) s s out (A s at ring out back) ((back ∷ []) ∷ (B s at ring out back) ∷ []) (two-first out back (A s at ring out back) (B s at ring out back)) (two-ends out back (A s at ring out back) (B s at ring out back)) start)

pub append-requires-2-clause-f : goal.append-requires-2-clause-f
append-requires-2-clause-f g c =
    let s = c.args.rec.now.store.now in
    let at = c.args.at in
    let ring = c.args.ring in
    let out = c.args.out in
    let back = c.args.back in
    let start = insert-start s at ring out back c.requires.at c.requires.ring c.requires.out c.requires.back c.requires.apart c.requires.room in
    let a = c.append.new.rec.store.now in
    let one = insert-one s at ring out back a c.requires.ring start c.append.ensures.links c.append.ensures.nothing c.append.ensures.puts in
    in-first (insert_fins s at ring out back) s a back [] ((B s at ring out back) ∷ (out ∷ (A s at ring out back)) ∷ []) one

pub append-requires-2-clause-ring : goal.append-requires-2-clause-ring
append-requires-2-clause-ring g c =
    let s = c.args.rec.now.store.now in
    let at = c.args.at in
    let ring = c.args.ring in
    let out = c.args.out in
    let back = c.args.back in
    let start = insert-start s at ring out back c.requires.at c.requires.ring c.requires.out c.requires.back c.requires.apart c.requires.room in
    let a = c.append.new.rec.store.now in
    let one = insert-one s at ring out back a c.requires.ring start c.append.ensures.links c.append.ensures.nothing c.append.ensures.puts in
    subst (λ (o : Option Tag). IfSome o (IsInRing a.state.map)) (first-of_ring s.state.map at c.requires.at)
    (ring-appended (insert_fins s at ring out back) s a back (B s at ring out back) ((out ∷ (A s at ring out back)) ∷ []) one)

pub append-requires-2-clause-room : goal.append-requires-2-clause-room
append-requires-2-clause-room g c =
    let s = c.args.rec.now.store.now in
    let at = c.args.at in
    let ring = c.args.ring in
    let out = c.args.out in
    let back = c.args.back in
    let start = insert-start s at ring out back c.requires.at c.requires.ring c.requires.out c.requires.back c.requires.apart c.requires.room in
    let a = c.append.new.rec.store.now in
    let one = insert-one s at ring out back a c.requires.ring start c.append.ensures.links c.append.ensures.nothing c.append.ensures.puts in
    subst (λ (o : Option Tag). IfSome o (λ t. HasRoomForThese a.recording (spliced a.state.map back t))) (first-of_ring s.state.map at c.requires.at)
    (room-appended (insert_fins s at ring out back) s a back (B s at ring out back) ((out ∷ (A s at ring out back)) ∷ []) (two-second out back (A s at ring out back) (B s at ring out back)) (two-other_ends out back (A s at ring out back) (B s at ring out back)) one)

pub splice-requires-clause-f : goal.splice-requires-clause-f
splice-requires-clause-f g c =
    let s = c.args.rec.now.store.now in
    let at = c.args.at in
    let ring = c.args.ring in
    let out = c.args.out in
    let back = c.args.back in
    let start = insert-start s at ring out back c.requires.at c.requires.ring c.requires.out c.requires.back c.requires.apart c.requires.room in
    let a = c.append.new.rec.store.now in
    let one = insert-one s at ring out back a c.requires.ring start c.append.ensures.links c.append.ensures.nothing c.append.ensures.puts in
    let b = c.append-2.new.rec.store.now in
    let both = insert-both s at ring out back a b c.requires.at one c.append-2.ensures.links c.append-2.ensures.nothing c.append-2.ensures.puts in
    in-first (insert_fins s at ring out back) s b out (A s at ring out back) ((back ∷ (B s at ring out back)) ∷ []) both

pub splice-requires-clause-g : goal.splice-requires-clause-g
splice-requires-clause-g g c =
    let s = c.args.rec.now.store.now in
    let at = c.args.at in
    let ring = c.args.ring in
    let out = c.args.out in
    let back = c.args.back in
    let start = insert-start s at ring out back c.requires.at c.requires.ring c.requires.out c.requires.back c.requires.apart c.requires.room in
    let a = c.append.new.rec.store.now in
    let one = insert-one s at ring out back a c.requires.ring start c.append.ensures.links c.append.ensures.nothing c.append.ensures.puts in
    let b = c.append-2.new.rec.store.now in
    let both = insert-both s at ring out back a b c.requires.at one c.append-2.ensures.links c.append-2.ensures.nothing c.append-2.ensures.puts in
    in-second (insert_fins s at ring out back) s b (out ∷ (A s at ring out back)) back (B s at ring out back) [] both

pub splice-requires-clause-room : goal.splice-requires-clause-room
splice-requires-clause-room g c =
    let s = c.args.rec.now.store.now in
    let at = c.args.at in
    let ring = c.args.ring in
    let out = c.args.out in
    let back = c.args.back in
    let start = insert-start s at ring out back c.requires.at c.requires.ring c.requires.out c.requires.back c.requires.apart c.requires.room in
    let a = c.append.new.rec.store.now in
    let one = insert-one s at ring out back a c.requires.ring start c.append.ensures.links c.append.ensures.nothing c.append.ensures.puts in
    let b = c.append-2.new.rec.store.now in
    let both = insert-both s at ring out back a b c.requires.at one c.append-2.ensures.links c.append-2.ensures.nothing c.append-2.ensures.puts in
    room-one (insert_fins s at ring out back) s b out back (A s at ring out back) (B s at ring out back) [] (has-parts s at ring out back) both

pub returns-clause-links : goal.returns-clause-links
returns-clause-links g c =
    let s = c.args.rec.now.store.now in
    let at = c.args.at in
    let ring = c.args.ring in
    let out = c.args.out in
    let back = c.args.back in
    let start = insert-start s at ring out back c.requires.at c.requires.ring c.requires.out c.requires.back c.requires.apart c.requires.room in
    let a = c.append.new.rec.store.now in
    let one = insert-one s at ring out back a c.requires.ring start c.append.ensures.links c.append.ensures.nothing c.append.ensures.puts in
    let b = c.append-2.new.rec.store.now in
    let both = insert-both s at ring out back a b c.requires.at one c.append-2.ensures.links c.append-2.ensures.nothing c.append-2.ensures.puts in
    let d = c.splice.new.rec.store.now in
    let done = insert-done s at ring out back b d both c.splice.ensures.links c.splice.ensures.puts in
    insert-relinks s at ring out back d done

pub returns-clause-puts : goal.returns-clause-puts
returns-clause-puts g c =
    let s = c.args.rec.now.store.now in
    let at = c.args.at in
    let ring = c.args.ring in
    let out = c.args.out in
    let back = c.args.back in
    let start = insert-start s at ring out back c.requires.at c.requires.ring c.requires.out c.requires.back c.requires.apart c.requires.room in
    let a = c.append.new.rec.store.now in
    let one = insert-one s at ring out back a c.requires.ring start c.append.ensures.links c.append.ensures.nothing c.append.ensures.puts in
    let b = c.append-2.new.rec.store.now in
    let both = insert-both s at ring out back a b c.requires.at one c.append-2.ensures.links c.append-2.ensures.nothing c.append-2.ensures.puts in
    let d = c.splice.new.rec.store.now in
    let done = insert-done s at ring out back b d both c.splice.ensures.links c.splice.ensures.puts in
    done.reaches.puts
