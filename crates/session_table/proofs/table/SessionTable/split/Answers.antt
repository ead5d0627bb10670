use Rattle.std.proofs.Common.{ℕ, ◌+◌, ap, sym, ◌∙◌, arith}
use Rattle.std.specs.Prelude.{◌==◌, is_some}
use Rattle.std.specs.List.{list_any}
use Rattle.session_table.specs.Seats.{seen_of, mine_of, note_of}
use Rattle.session_table.specs.Slots.{numbers}
use Rattle.session_table.proofs.Splitting.{splits_allowed, new_notes, new_seen, new_mine}
use Rattle.session_table.proofs.Telling.{face_of}
use Rattle.session_table.proofs.table.SessionTable.split.Goals as goal

pub split_seat-place-requires : goal.split_seat-place-requires
split_seat-place-requires g c =
    let root = c.args.root.now in let shared = c.args.self.now.table.shared in let words = c.args.self.now.words in (
      c.requires.seat.session,
      omega arith,
      splits_allowed g.X.Naming.named shared.key root.place.id root.place.me.0 root.live c.requires.root c.requires.few,
    )

pub invariant_of-result : goal.invariant_of-result
invariant_of-result g c =
    let root = c.args.root.now in let v = root.place.me.0 in let new = c.split_seat-place.ensures.4 in record {
      live = ap (λ m. m.0.spent) new;
      numbered = ap (λ m. m.0.number) new ∙ ap (λ (n : ℕ). n + 1) root.counted;
      counted = ap (λ m. m.0.made) new;
      listed = ap (λ m. numbers m.1) new ∙ sym c.new.ensures.items;
      matched = λ p. ap (λ m. is_some (note_of m.0 p)) new ∙ ap is_some (new_notes v p) ∙ ap (list_any (λ q. q == p)) (sym c.new.ensures.items);
    }

pub returns-clause-new : goal.returns-clause-new
returns-clause-new g c =
    let v = c.args.root.now.place.me.0 in let new = c.split_seat-place.ensures.4 in record {
      is = ap (face_of g.X.Naming.named) new;
      seen = λ p. ap (λ m. seen_of m.0 p) new ∙ new_seen v p;
      mine = λ p. ap (λ m. mine_of m.0 p) new ∙ new_mine v p;
      notes = λ p. ap (λ m. note_of m.0 p) new ∙ new_notes v p;
    }
