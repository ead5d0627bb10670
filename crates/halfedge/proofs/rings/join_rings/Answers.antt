use Rattle.std.proofs.Common.{◌≡◌, [], ◌∷◌, ◌++◌, drop, sym, ap, subst, ◌∙◌}
use Rattle.std.specs.Prelude.{IsSome}
use Rattle.pk_model.specs.Apart.{NoRepeats}
use Rattle.entity_store.specs.Store.{StoreView}
use Rattle.halfedge.specs.LinkedRings.{IsInRing, Relinks, next_at, mate_in, ring_at}
use Rattle.entity_store.specs.Room.{HasRoomForThese, PutsAmong}
use Rattle.halfedge.proofs.RingFins.{in-ring_next}
use Rattle.halfedge.proofs.Ends.{two_and_ends}
use Rattle.halfedge.proofs.Stages.{in-first, room-one, room-unhooked}
use Rattle.halfedge.proofs.Join.{P, Q, join_fins, join-start, join-joined, join-one_out, join-both_out, join-relinks, has-parts, has-first, has-second}
use Rattle.halfedge.proofs.rings.join_rings.Goals as goal

pub mate_of-y-requires : goal.mate_of-y-requires
mate_of-y-requires g c = subst (λ (v : StoreView). IsSome (next_at v.state.map c.args.x)) (sym c.view.ensures) (in-ring_next c.args.rec.now.store.now.state.map c.args.x c.requires.x)

pub splice-requires-clause-g : goal.splice-requires-clause-g
splice-requires-clause-g g c =
    let s = c.args.rec.now.store.now in
    let x = c.args.x in
    let y = c.mate_of-y.result in
    let is : y ≡ mate_in s.state.map x = c.mate_of-y.ensures ∙ ap (λ (v : StoreView). mate_in v.state.map x) c.view.ensures in
    let in_y = subst (IsInRing s.state.map) (sym is) c.requires.y in
    in_y

pub splice-requires-clause-room : goal.splice-requires-clause-room
splice-requires-clause-room g c =
    let s = c.args.rec.now.store.now in
    let x = c.args.x in
    let y = c.mate_of-y.result in
    let is : y ≡ mate_in s.state.map x = c.mate_of-y.ensures ∙ ap (λ (v : StoreView). mate_in v.state.map x) c.view.ensures in
    let in_y = subst (IsInRing s.state.map) (sym is) c.requires.y in
    let once = subst (λ t. NoRepeats (ring_at s.state.map x ++ ring_at s.state.map t)) (sym is) c.requires.apart in
    let room = subst (λ t. HasRoomForThese s.recording (two_and_ends x t (drop 1 (ring_at s.state.map x)) (drop 1 (ring_at s.state.map t)))) (sym is) c.requires.room in
    let start = join-start s x y c.requires.x in_y once room in
    room-one (join_fins s x y c.requires.x in_y) s s x y (P s x y c.requires.x in_y) (Q s x y c.requires.x in_y) [] (has-parts s x y c.requires.x in_y) start

pub unhook-requires-clause-f : goal.unhook-requires-clause-f
unhook-requires-clause-f g c =
    let s = c.args.rec.now.store.now in
    let x = c.args.x in
    let y = c.mate_of-y.result in
    let is : y ≡ mate_in s.state.map x = c.mate_of-y.ensures ∙ ap (λ (v : StoreView). mate_in v.state.map x) c.view.ensures in
    let in_y = subst (IsInRing s.state.map) (sym is) c.requires.y in
    let once = subst (λ t. NoRepeats (ring_at s.state.map x ++ ring_at s.state.map t)) (sym is) c.requires.apart in
    let room = subst (λ t. HasRoomForThese s.recording (two_and_ends x t (drop 1 (ring_at s.state.map x)) (drop 1 (ring_at s.state.map t)))) (sym is) c.requires.room in
    let start = join-start s x y c.requires.x in_y once room in
    let a = c.splice.new.rec.store.now in
    let joined = join-joined s x y c.requires.x in_y a start c.splice.ensures.links c.splice.ensures.puts in
    in-first (join_fins s x y c.requires.x in_y) s a x ((P s x y c.requires.x in_y) ++ y ∷ (Q s x y c.requires.x in_y)) [] joined

pub unhook-requires-clause-room : goal.unhook-requires-clause-room
unhook-requires-clause-room g c =
    let s = c.args.rec.now.store.now in
    let x = c.args.x in
    let y = c.mate_of-y.result in
    let is : y ≡ mate_in s.state.map x = c.mate_of-y.ensures ∙ ap (λ (v : StoreView). mate_in v.state.map x) c.view.ensures in
    let in_y = subst (IsInRing s.state.map) (sym is) c.requires.y in
    let once = subst (λ t. NoRepeats (ring_at s.state.map x ++ ring_at s.state.map t)) (sym is) c.requires.apart in
    let room = subst (λ t. HasRoomForThese s.recording (two_and_ends x t (drop 1 (ring_at s.state.map x)) (drop 1 (ring_at s.state.map t)))) (sym is) c.requires.room in
    let start = join-start s x y c.requires.x in_y once room in
    let a = c.splice.new.rec.store.now in
    let joined = join-joined s x y c.requires.x in_y a start c.splice.ensures.links c.splice.ensures.puts in
    room-unhooked (join_fins s x y c.requires.x in_y) s a x ((P s x y c.requires.x in_y) ++ y ∷ (Q s x y c.requires.x in_y)) [] (has-first s x y c.requires.x in_y) joined

pub unhook-requires-2-clause-f : goal.unhook-requires-2-clause-f
unhook-requires-2-clause-f g c =
    let s = c.args.rec.now.store.now in
    let x = c.args.x in
    let y = c.mate_of-y.result in
    let is : y ≡ mate_in s.state.map x = c.mate_of-y.ensures ∙ ap (λ (v : StoreView). mate_in v.state.map x) c.view.ensures in
    let in_y = subst (IsInRing s.state.map) (sym is) c.requires.y in
    let once = subst (λ t. NoRepeats (ring_at s.state.map x ++ ring_at s.state.map t)) (sym is) c.requires.apart in
    let room = subst (λ t. HasRoomForThese s.recording (two_and_ends x t (drop 1 (ring_at s.state.map x)) (drop 1 (ring_at s.state.map t)))) (sym is) c.requires.room in
    let start = join-start s x y c.requires.x in_y once room in
    let a = c.splice.new.rec.store.now in
    let joined = join-joined s x y c.requires.x in_y a start c.splice.ensures.links c.splice.ensures.puts in
    let b = c.unhook.new.rec.store.now in
    let one_out = join-one_out s x y c.requires.x in_y a b joined c.unhook.ensures.links c.unhook.ensures.puts in
    in-first (join_fins s x y c.requires.x in_y) s b y ((Q s x y c.requires.x in_y) ++ (P s x y c.requires.x in_y)) ((x ∷ []) ∷ []) one_out

pub unhook-requires-2-clause-room : goal.unhook-requires-2-clause-room
unhook-requires-2-clause-room g c =
    let s = c.args.rec.now.store.now in
    let x = c.args.x in
    let y = c.mate_of-y.result in
    let is : y ≡ mate_in s.state.map x = c.mate_of-y.ensures ∙ ap (λ (v : StoreView). mate_in v.state.map x) c.view.ensures in
    let in_y = subst (IsInRing s.state.map) (sym is) c.requires.y in
    let once = subst (λ t. NoRepeats (ring_at s.state.map x ++ ring_at s.state.map t)) (sym is) c.requires.apart in
    let room = subst (λ t. HasRoomForThese s.recording (two_and_ends x t (drop 1 (ring_at s.state.map x)) (drop 1 (ring_at s.state.map t)))) (sym is) c.requires.room in
    let start = join-start s x y c.requires.x in_y once room in
    let a = c.splice.new.rec.store.now in
    let joined = join-joined s x y c.requires.x in_y a start c.splice.ensures.links c.splice.ensures.puts in
    let b = c.unhook.new.rec.store.now in
    let one_out = join-one_out s x y c.requires.x in_y a b joined c.unhook.ensures.links c.unhook.ensures.puts in
    room-unhooked (join_fins s x y c.requires.x in_y) s b y ((Q s x y c.requires.x in_y) ++ (P s x y c.requires.x in_y)) ((x ∷ []) ∷ []) (has-second s x y c.requires.x in_y) one_out

pub returns-clause-links : goal.returns-clause-links
returns-clause-links g c =
    let s = c.args.rec.now.store.now in
    let x = c.args.x in
    let y = c.mate_of-y.result in
    let is : y ≡ mate_in s.state.map x = c.mate_of-y.ensures ∙ ap (λ (v : StoreView). mate_in v.state.map x) c.view.ensures in
    let in_y = subst (IsInRing s.state.map) (sym is) c.requires.y in
    let once = subst (λ t. NoRepeats (ring_at s.state.map x ++ ring_at s.state.map t)) (sym is) c.requires.apart in
    let room = subst (λ t. HasRoomForThese s.recording (two_and_ends x t (drop 1 (ring_at s.state.map x)) (drop 1 (ring_at s.state.map t)))) (sym is) c.requires.room in
    let start = join-start s x y c.requires.x in_y once room in
    let a = c.splice.new.rec.store.now in
    let joined = join-joined s x y c.requires.x in_y a start c.splice.ensures.links c.splice.ensures.puts in
    let b = c.unhook.new.rec.store.now in
    let one_out = join-one_out s x y c.requires.x in_y a b joined c.unhook.ensures.links c.unhook.ensures.puts in
    let d = c.unhook-2.new.rec.store.now in
    let both_out = join-both_out s x y c.requires.x in_y b d one_out c.unhook-2.ensures.links c.unhook-2.ensures.puts in
    subst (λ t. Relinks s.state.map (ring_at s.state.map x ∷ ring_at s.state.map t ∷ []) d.state.map ((drop 1 (ring_at s.state.map x) ++ drop 1 (ring_at s.state.map t)) ∷ (x ∷ []) ∷ (t ∷ []) ∷ [])) is
    (join-relinks s x y c.requires.x in_y d both_out)

pub returns-clause-puts : goal.returns-clause-puts
returns-clause-puts g c =
    let s = c.args.rec.now.store.now in
    let x = c.args.x in
    let y = c.mate_of-y.result in
    let is : y ≡ mate_in s.state.map x = c.mate_of-y.ensures ∙ ap (λ (v : StoreView). mate_in v.state.map x) c.view.ensures in
    let in_y = subst (IsInRing s.state.map) (sym is) c.requires.y in
    let once = subst (λ t. NoRepeats (ring_at s.state.map x ++ ring_at s.state.map t)) (sym is) c.requires.apart in
    let room = subst (λ t. HasRoomForThese s.recording (two_and_ends x t (drop 1 (ring_at s.state.map x)) (drop 1 (ring_at s.state.map t)))) (sym is) c.requires.room in
    let start = join-start s x y c.requires.x in_y once room in
    let a = c.splice.new.rec.store.now in
    let joined = join-joined s x y c.requires.x in_y a start c.splice.ensures.links c.splice.ensures.puts in
    let b = c.unhook.new.rec.store.now in
    let one_out = join-one_out s x y c.requires.x in_y a b joined c.unhook.ensures.links c.unhook.ensures.puts in
    let d = c.unhook-2.new.rec.store.now in
    let both_out = join-both_out s x y c.requires.x in_y b d one_out c.unhook-2.ensures.links c.unhook-2.ensures.puts in
    subst (λ t. PutsAmong (two_and_ends x t (drop 1 (ring_at s.state.map x)) (drop 1 (ring_at s.state.map t))) s d) is both_out.reaches.puts
