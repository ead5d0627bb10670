use Rattle.std.proofs.Common.{ap, sym, subst, refl, ◌∙◌, arith}
use mathlib.Core.Option.{none}
use Rattle.std.specs.Prelude.{is_some}
use Rattle.session_table.specs.declared.view.Joined.{Joined}
use Rattle.session_table.specs.Entries.{StartsWith}
use Rattle.session_table.specs.Seats.{seen_of, mine_of, note_of, joined_as}
use Rattle.session_table.specs.Slots.{numbers}
use Rattle.session_table.specs.Steps.{joined_by}
use Rattle.session_table.proofs.Joining.{joins_allowed, meets_allowed, joined_seen, joined_mine, joined_note, joined_begins, kept_new}
use Rattle.session_table.proofs.Rows.{carries_same}
use Rattle.session_table.proofs.Telling.{Holds, face_of, idle_row}
use Rattle.session_table.proofs.table.SessionTable.join.Goals as goal

pub join_seat-requires : goal.join_seat-requires
join_seat-requires g c =
    let named = g.X.Naming.named in let root = c.args.root.now in let child = c.args.child in
    let shared = c.args.self.now.table.shared in let words = c.args.self.now.words in (
      c.requires.seats.0.session,
      c.requires.seats.1.session,
      idle_row named child.place.me c.requires.seats.1.carries c.requires.idle,
      omega arith,
      joins_allowed named shared.key root.place.id root.place.me.0 child.place.id child.place.me.0 root.live c.requires.root child.live c.requires.child c.requires.idle c.requires.calm,
    )

pub load-requires : goal.load-requires
load-requires g c =
    let named = g.X.Naming.named in let root = c.args.root.now in let seat = c.join_seat.new.seat in
    let shared = c.args.self.now.table.shared in let words = c.args.self.now.words in let is = c.join_seat.ensures.2 in (
      c.join_seat.ensures.0 ∙ c.requires.seats.0.session,
      omega arith,
      meets_allowed named shared.key shared.table_id.slots seat.id seat.me.0 seat.me.1 none (ap (λ m. m.0.spent) is ∙ root.live) (ap (λ m. m.0.number) is ∙ c.requires.root),
    )

pub invariant_of-root : goal.invariant_of-root
invariant_of-root g c =
    let root = c.args.root.now in let v = root.place.me.0 in let w = c.args.child.place.me.0 in let is = c.load.ensures.2.same ∙ c.join_seat.ensures.2 in record {
      live = ap (λ m. m.0.spent) is ∙ root.live;
      numbered = ap (λ m. m.0.number) is ∙ root.numbered;
      counted = ap (λ m. m.0.made) is ∙ root.counted;
      listed = ap (λ m. numbers m.1) is ∙ root.listed;
      matched = λ p. ap (λ m. is_some (note_of m.0 p)) is ∙ ap is_some (joined_note v w p) ∙ root.matched p;
    }

pub returns-clause-seat : goal.returns-clause-seat
returns-clause-seat g c =
    let named = g.X.Naming.named in let root = c.args.root.now in let v = root.place.me.0 in let w = c.args.child.place.me.0 in
    let is = c.load.ensures.2.same ∙ c.join_seat.ensures.2 in record {
      session = c.load.ensures.0 ∙ c.join_seat.ensures.0 ∙ c.requires.seats.0.session;
      bounds = ap (λ m. m.0.bounds) is ∙ c.requires.seats.0.bounds;
      carries = subst (Holds named) (sym is) (carries_same named v (joined_by v w) root.place.me.1 refl refl (joined_note v w) c.requires.seats.0.carries);
    }

pub returns-clause-joined : goal.returns-clause-joined
returns-clause-joined g c =
    let v = c.args.root.now.place.me.0 in let w = c.args.child.place.me.0 in let is = c.load.ensures.2.same ∙ c.join_seat.ensures.2 in
    let child : Joined = record { number = w.number; lines = w.lines; found = v.lines } in
    let met = c.load.ensures.2.one w.number child (ap (λ m. joined_as m.0.joined w.number) c.join_seat.ensures.2 ∙ kept_new child v.joined w.number refl) in record {
      root = ap (face_of g.X.Naming.named) is;
      seen = λ p. ap (λ m. seen_of m.0 p) is ∙ joined_seen v w p;
      both = λ p. let one = met p in
          subst (λ m. StartsWith (seen_of m.0 p) (seen_of v p) × StartsWith (seen_of m.0 p) (seen_of w p)) (sym is) (joined_begins v w p one.0 one.1 one.2);
      mine = λ p. ap (λ m. mine_of m.0 p) is ∙ joined_mine v w p;
      notes = λ p. ap (λ m. note_of m.0 p) is ∙ joined_note v w p;
    }
