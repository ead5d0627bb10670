use Rattle.std.proofs.Common.{sym}
use Rattle.halfedge.proofs.LinkedRings.{in-ring_of}
use Rattle.halfedge.proofs.Stages.{parted-at, in-first, in-second, room-one, room-two}
use Rattle.halfedge.proofs.Split.{split_fins, split-start, split-parted, split-one_done, split-done, split-relinks, split-puts, has-parts, has-first_x, has-second_y}
use Rattle.halfedge.proofs.rings.split_ring.Goals as goal

pub splice-requires-clause-g : goal.splice-requires-clause-g
splice-requires-clause-g g c = in-ring_of _ _ c.args.to c.requires.ring.ring c.requires.among

pub splice-requires-clause-room : goal.splice-requires-clause-room
splice-requires-clause-room g c =
    let f = c.args.from in
    let t = c.args.to in
    let x = c.args.x in
    let y = c.args.y in
    let s = c.args.rec.now.store.now in
    let p = parted-at s.state.map f t c.requires.ring c.requires.among (λ e. c.requires.other (sym e)) in
    let start = split-start s f t x y p c.requires.ring c.requires.x c.requires.y c.requires.apart c.requires.room in
    room-two (split_fins s f t x y p) s s f t p.ahead p.behind _ (has-parts s f t x y p) start

pub splice-requires-2-clause-f : goal.splice-requires-2-clause-f
splice-requires-2-clause-f g c =
    let f = c.args.from in
    let t = c.args.to in
    let x = c.args.x in
    let y = c.args.y in
    let s = c.args.rec.now.store.now in
    let p = parted-at s.state.map f t c.requires.ring c.requires.among (λ e. c.requires.other (sym e)) in
    let start = split-start s f t x y p c.requires.ring c.requires.x c.requires.y c.requires.apart c.requires.room in
    let a = c.splice.new.rec.store.now in
    let parted = split-parted s f t x y p a start c.splice.ensures.links c.splice.ensures.puts in
    in-first (split_fins s f t x y p) s a f p.ahead _ parted

pub splice-requires-2-clause-g : goal.splice-requires-2-clause-g
splice-requires-2-clause-g g c =
    let f = c.args.from in
    let t = c.args.to in
    let x = c.args.x in
    let y = c.args.y in
    let s = c.args.rec.now.store.now in
    let p = parted-at s.state.map f t c.requires.ring c.requires.among (λ e. c.requires.other (sym e)) in
    let start = split-start s f t x y p c.requires.ring c.requires.x c.requires.y c.requires.apart c.requires.room in
    let a = c.splice.new.rec.store.now in
    let parted = split-parted s f t x y p a start c.splice.ensures.links c.splice.ensures.puts in
    in-second (split_fins s f t x y p) s a _ x _ _ parted

pub splice-requires-2-clause-room : goal.splice-requires-2-clause-room
splice-requires-2-clause-room g c =
    let f = c.args.from in
    let t = c.args.to in
    let x = c.args.x in
    let y = c.args.y in
    let s = c.args.rec.now.store.now in
    let p = parted-at s.state.map f t c.requires.ring c.requires.among (λ e. c.requires.other (sym e)) in
    let start = split-start s f t x y p c.requires.ring c.requires.x c.requires.y c.requires.apart c.requires.room in
    let a = c.splice.new.rec.store.now in
    let parted = split-parted s f t x y p a start c.splice.ensures.links c.splice.ensures.puts in
    room-one (split_fins s f t x y p) s a f x p.ahead _ _ (has-first_x s f t x y p) parted

pub splice-requires-3-clause-f : goal.splice-requires-3-clause-f
splice-requires-3-clause-f g c =
    let f = c.args.from in
    let t = c.args.to in
    let x = c.args.x in
    let y = c.args.y in
    let s = c.args.rec.now.store.now in
    let p = parted-at s.state.map f t c.requires.ring c.requires.among (λ e. c.requires.other (sym e)) in
    let start = split-start s f t x y p c.requires.ring c.requires.x c.requires.y c.requires.apart c.requires.room in
    let a = c.splice.new.rec.store.now in
    let parted = split-parted s f t x y p a start c.splice.ensures.links c.splice.ensures.puts in
    let b = c.splice-2.new.rec.store.now in
    let one_done = split-one_done s f t x y p a b parted c.splice-2.ensures.links c.splice-2.ensures.puts in
    in-first (split_fins s f t x y p) s b t p.behind _ one_done

pub splice-requires-3-clause-g : goal.splice-requires-3-clause-g
splice-requires-3-clause-g g c =
    let f = c.args.from in
    let t = c.args.to in
    let x = c.args.x in
    let y = c.args.y in
    let s = c.args.rec.now.store.now in
    let p = parted-at s.state.map f t c.requires.ring c.requires.among (λ e. c.requires.other (sym e)) in
    let start = split-start s f t x y p c.requires.ring c.requires.x c.requires.y c.requires.apart c.requires.room in
    let a = c.splice.new.rec.store.now in
    let parted = split-parted s f t x y p a start c.splice.ensures.links c.splice.ensures.puts in
    let b = c.splice-2.new.rec.store.now in
    let one_done = split-one_done s f t x y p a b parted c.splice-2.ensures.links c.splice-2.ensures.puts in
    in-second (split_fins s f t x y p) s b _ y _ _ one_done

pub splice-requires-3-clause-room : goal.splice-requires-3-clause-room
splice-requires-3-clause-room g c =
    let f = c.args.from in
    let t = c.args.to in
    let x = c.args.x in
    let y = c.args.y in
    let s = c.args.rec.now.store.now in
    let p = parted-at s.state.map f t c.requires.ring c.requires.among (λ e. c.requires.other (sym e)) in
    let start = split-start s f t x y p c.requires.ring c.requires.x c.requires.y c.requires.apart c.requires.room in
    let a = c.splice.new.rec.store.now in
    let parted = split-parted s f t x y p a start c.splice.ensures.links c.splice.ensures.puts in
    let b = c.splice-2.new.rec.store.now in
    let one_done = split-one_done s f t x y p a b parted c.splice-2.ensures.links c.splice-2.ensures.puts in
    room-one (split_fins s f t x y p) s b t y p.behind _ _ (has-second_y s f t x y p) one_done

pub returns-clause-links : goal.returns-clause-links
returns-clause-links g c =
    let f = c.args.from in
    let t = c.args.to in
    let x = c.args.x in
    let y = c.args.y in
    let s = c.args.rec.now.store.now in
    let p = parted-at s.state.map f t c.requires.ring c.requires.among (λ e. c.requires.other (sym e)) in
    let start = split-start s f t x y p c.requires.ring c.requires.x c.requires.y c.requires.apart c.requires.room in
    let a = c.splice.new.rec.store.now in
    let parted = split-parted s f t x y p a start c.splice.ensures.links c.splice.ensures.puts in
    let b = c.splice-2.new.rec.store.now in
    let one_done = split-one_done s f t x y p a b parted c.splice-2.ensures.links c.splice-2.ensures.puts in
    let d = c.splice-3.new.rec.store.now in
    let done = split-done s f t x y p b d one_done c.splice-3.ensures.links c.splice-3.ensures.puts in
    split-relinks s f t x y p d done

pub returns-clause-puts : goal.returns-clause-puts
returns-clause-puts g c =
    let f = c.args.from in
    let t = c.args.to in
    let x = c.args.x in
    let y = c.args.y in
    let s = c.args.rec.now.store.now in
    let p = parted-at s.state.map f t c.requires.ring c.requires.among (λ e. c.requires.other (sym e)) in
    let start = split-start s f t x y p c.requires.ring c.requires.x c.requires.y c.requires.apart c.requires.room in
    let a = c.splice.new.rec.store.now in
    let parted = split-parted s f t x y p a start c.splice.ensures.links c.splice.ensures.puts in
    let b = c.splice-2.new.rec.store.now in
    let one_done = split-one_done s f t x y p a b parted c.splice-2.ensures.links c.splice-2.ensures.puts in
    let d = c.splice-3.new.rec.store.now in
    let done = split-done s f t x y p b d one_done c.splice-3.ensures.links c.splice-3.ensures.puts in
    split-puts s f t x y p d done
