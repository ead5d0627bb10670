use Rattle.std.proofs.Common.{◌≡◌, [], ◌∷◌, drop, sym, ap, subst, ◌∙◌}
use Rattle.std.specs.Prelude.{Contains}
use Rattle.solid_model.specs.Rings.{before, from}
use Rattle.entity_store.specs.Store.{StoreView}
use Rattle.halfedge.specs.LinkedRings.{Relinks, mate_in, ring_at}
use Rattle.entity_store.specs.Room.{HasRoomForThese, PutsAmong}
use Rattle.halfedge.proofs.LinkedRings.{in-ring_of}
use Rattle.halfedge.proofs.Ends.{two_and_ends}
use Rattle.halfedge.proofs.Stages.{parted-at, in-first, room-two, room-unhooked}
use Rattle.halfedge.proofs.Cut.{cut_fins, cut-start, cut-parted, cut-one_out, cut-both_out, cut-relinks, cut-puts, has-parts, has-first, has-second}
use Rattle.halfedge.proofs.rings.cut_ring.Goals as goal

pub splice-requires-clause-g : goal.splice-requires-clause-g
splice-requires-clause-g g c =
    let s = c.args.rec.now.store.now in
    let f = c.args.fin in
    let m = c.mate_of-mate.result in
    let is : m ≡ mate_in s.state.map f = c.mate_of-mate.ensures ∙ ap (λ (v : StoreView). mate_in v.state.map f) c.view.ensures in
    in-ring_of s.state.map (ring_at s.state.map f) m c.requires.ring.ring (subst (Contains (ring_at s.state.map f)) (sym is) c.requires.among)

pub splice-requires-clause-room : goal.splice-requires-clause-room
splice-requires-clause-room g c =
    let s = c.args.rec.now.store.now in
    let f = c.args.fin in
    let m = c.mate_of-mate.result in
    let is : m ≡ mate_in s.state.map f = c.mate_of-mate.ensures ∙ ap (λ (v : StoreView). mate_in v.state.map f) c.view.ensures in
    let among = subst (Contains (ring_at s.state.map f)) (sym is) c.requires.among in
    let p = parted-at s.state.map f m c.requires.ring among (λ e. c.requires.other (sym is ∙ e)) in
    let room = subst (λ t. HasRoomForThese s.recording (two_and_ends f t (drop 1 (before t (ring_at s.state.map f))) (drop 1 (from t (ring_at s.state.map f))))) (sym is) c.requires.room in
    let start = cut-start s f m p c.requires.ring room in
    room-two (cut_fins s f m p) s s f m p.ahead p.behind [] (has-parts s f m p) start

pub unhook-requires-clause-f : goal.unhook-requires-clause-f
unhook-requires-clause-f g c =
    let s = c.args.rec.now.store.now in
    let f = c.args.fin in
    let m = c.mate_of-mate.result in
    let is : m ≡ mate_in s.state.map f = c.mate_of-mate.ensures ∙ ap (λ (v : StoreView). mate_in v.state.map f) c.view.ensures in
    let among = subst (Contains (ring_at s.state.map f)) (sym is) c.requires.among in
    let p = parted-at s.state.map f m c.requires.ring among (λ e. c.requires.other (sym is ∙ e)) in
    let room = subst (λ t. HasRoomForThese s.recording (two_and_ends f t (drop 1 (before t (ring_at s.state.map f))) (drop 1 (from t (ring_at s.state.map f))))) (sym is) c.requires.room in
    let start = cut-start s f m p c.requires.ring room in
    let a = c.splice.new.rec.store.now in
    let parted = cut-parted s f m p a start c.splice.ensures.links c.splice.ensures.puts in
    in-first (cut_fins s f m p) s a f p.ahead ((m ∷ p.behind) ∷ []) parted

pub unhook-requires-clause-room : goal.unhook-requires-clause-room
unhook-requires-clause-room g c =
    let s = c.args.rec.now.store.now in
    let f = c.args.fin in
    let m = c.mate_of-mate.result in
    let is : m ≡ mate_in s.state.map f = c.mate_of-mate.ensures ∙ ap (λ (v : StoreView). mate_in v.state.map f) c.view.ensures in
    let among = subst (Contains (ring_at s.state.map f)) (sym is) c.requires.among in
    let p = parted-at s.state.map f m c.requires.ring among (λ e. c.requires.other (sym is ∙ e)) in
    let room = subst (λ t. HasRoomForThese s.recording (two_and_ends f t (drop 1 (before t (ring_at s.state.map f))) (drop 1 (from t (ring_at s.state.map f))))) (sym is) c.requires.room in
    let start = cut-start s f m p c.requires.ring room in
    let a = c.splice.new.rec.store.now in
    let parted = cut-parted s f m p a start c.splice.ensures.links c.splice.ensures.puts in
    room-unhooked (cut_fins s f m p) s a f p.ahead ((m ∷ p.behind) ∷ []) (has-first s f m p) parted

pub unhook-requires-2-clause-f : goal.unhook-requires-2-clause-f
unhook-requires-2-clause-f g c =
    let s = c.args.rec.now.store.now in
    let f = c.args.fin in
    let m = c.mate_of-mate.result in
    let is : m ≡ mate_in s.state.map f = c.mate_of-mate.ensures ∙ ap (λ (v : StoreView). mate_in v.state.map f) c.view.ensures in
    let among = subst (Contains (ring_at s.state.map f)) (sym is) c.requires.among in
    let p = parted-at s.state.map f m c.requires.ring among (λ e. c.requires.other (sym is ∙ e)) in
    let room = subst (λ t. HasRoomForThese s.recording (two_and_ends f t (drop 1 (before t (ring_at s.state.map f))) (drop 1 (from t (ring_at s.state.map f))))) (sym is) c.requires.room in
    let start = cut-start s f m p c.requires.ring room in
    let a = c.splice.new.rec.store.now in
    let parted = cut-parted s f m p a start c.splice.ensures.links c.splice.ensures.puts in
    let b = c.unhook.new.rec.store.now in
    let one_out = cut-one_out s f m p a b parted c.unhook.ensures.links c.unhook.ensures.puts in
    in-first (cut_fins s f m p) s b m p.behind ((f ∷ []) ∷ p.ahead ∷ []) one_out

pub unhook-requires-2-clause-room : goal.unhook-requires-2-clause-room
unhook-requires-2-clause-room g c =
    let s = c.args.rec.now.store.now in
    let f = c.args.fin in
    let m = c.mate_of-mate.result in
    let is : m ≡ mate_in s.state.map f = c.mate_of-mate.ensures ∙ ap (λ (v : StoreView). mate_in v.state.map f) c.view.ensures in
    let among = subst (Contains (ring_at s.state.map f)) (sym is) c.requires.among in
    let p = parted-at s.state.map f m c.requires.ring among (λ e. c.requires.other (sym is ∙ e)) in
    let room = subst (λ t. HasRoomForThese s.recording (two_and_ends f t (drop 1 (before t (ring_at s.state.map f))) (drop 1 (from t (ring_at s.state.map f))))) (sym is) c.requires.room in
    let start = cut-start s f m p c.requires.ring room in
    let a = c.splice.new.rec.store.now in
    let parted = cut-parted s f m p a start c.splice.ensures.links c.splice.ensures.puts in
    let b = c.unhook.new.rec.store.now in
    let one_out = cut-one_out s f m p a b parted c.unhook.ensures.links c.unhook.ensures.puts in
    room-unhooked (cut_fins s f m p) s b m p.behind ((f ∷ []) ∷ p.ahead ∷ []) (has-second s f m p) one_out

pub returns-clause-links : goal.returns-clause-links
returns-clause-links g c =
    let s = c.args.rec.now.store.now in
    let f = c.args.fin in
    let m = c.mate_of-mate.result in
    let is : m ≡ mate_in s.state.map f = c.mate_of-mate.ensures ∙ ap (λ (v : StoreView). mate_in v.state.map f) c.view.ensures in
    let among = subst (Contains (ring_at s.state.map f)) (sym is) c.requires.among in
    let p = parted-at s.state.map f m c.requires.ring among (λ e. c.requires.other (sym is ∙ e)) in
    let room = subst (λ t. HasRoomForThese s.recording (two_and_ends f t (drop 1 (before t (ring_at s.state.map f))) (drop 1 (from t (ring_at s.state.map f))))) (sym is) c.requires.room in
    let start = cut-start s f m p c.requires.ring room in
    let a = c.splice.new.rec.store.now in
    let parted = cut-parted s f m p a start c.splice.ensures.links c.splice.ensures.puts in
    let b = c.unhook.new.rec.store.now in
    let one_out = cut-one_out s f m p a b parted c.unhook.ensures.links c.unhook.ensures.puts in
    let d = c.unhook-2.new.rec.store.now in
    let both_out = cut-both_out s f m p b d one_out c.unhook-2.ensures.links c.unhook-2.ensures.puts in
    subst (λ t. Relinks s.state.map (ring_at s.state.map f ∷ []) d.state.map (drop 1 (before t (ring_at s.state.map f)) ∷ drop 1 (from t (ring_at s.state.map f)) ∷ (f ∷ []) ∷ (t ∷ []) ∷ [])) is
    (cut-relinks s f m p d both_out)

pub returns-clause-puts : goal.returns-clause-puts
returns-clause-puts g c =
    let s = c.args.rec.now.store.now in
    let f = c.args.fin in
    let m = c.mate_of-mate.result in
    let is : m ≡ mate_in s.state.map f = c.mate_of-mate.ensures ∙ ap (λ (v : StoreView). mate_in v.state.map f) c.view.ensures in
    let among = subst (Contains (ring_at s.state.map f)) (sym is) c.requires.among in
    let p = parted-at s.state.map f m c.requires.ring among (λ e. c.requires.other (sym is ∙ e)) in
    let room = subst (λ t. HasRoomForThese s.recording (two_and_ends f t (drop 1 (before t (ring_at s.state.map f))) (drop 1 (from t (ring_at s.state.map f))))) (sym is) c.requires.room in
    let start = cut-start s f m p c.requires.ring room in
    let a = c.splice.new.rec.store.now in
    let parted = cut-parted s f m p a start c.splice.ensures.links c.splice.ensures.puts in
    let b = c.unhook.new.rec.store.now in
    let one_out = cut-one_out s f m p a b parted c.unhook.ensures.links c.unhook.ensures.puts in
    let d = c.unhook-2.new.rec.store.now in
    let both_out = cut-both_out s f m p b d one_out c.unhook-2.ensures.links c.unhook-2.ensures.puts in
    subst (λ t. PutsAmong (two_and_ends f t (drop 1 (before t (ring_at s.state.map f))) (drop 1 (from t (ring_at s.state.map f)))) s d) is
    (cut-puts s f m p d both_out)
