use Rattle.std.proofs.Common.{ℕ, ◌<◌, ◌++◌, take, drop, length, get_or, ap, sym, subst, ◌∙◌}
use Rattle.std.specs.Prelude.{◌==◌, is_some}
use Rattle.std.specs.List.{list_any}
use Rattle.std.proofs.lemmas.List.{take-append-drop}
use Rattle.session_table.specs.Slots.{numbers}
use Rattle.session_table.specs.Seats.{note_of}
use Rattle.session_table.proofs.Turning.{numbers_there, any_there, front_there}
use Rattle.session_table.proofs.seat.Seat.bring.Goals as goal

pub invariant_of-self : goal.invariant_of-self
invariant_of-self g c =
    let seat = c.args.self.now in let view = c.turn_by.ensures.view in let i : ℕ = c.place_of-count.result in record {
      live = ap (λ v. v.spent) view ∙ seat.live;
      numbered = ap (λ v. v.number) view ∙ seat.numbered;
      counted = ap (λ v. v.made) view ∙ seat.counted;
      listed = ap numbers c.turn_by.ensures.row ∙ numbers_there seat.place.me.1 i ∙ ap (λ l. drop i l ++ take i l) seat.listed ∙ sym c.rotate.ensures.row;
      matched = λ p. ap (λ v. is_some (note_of v p)) view ∙ seat.matched p ∙ sym (any_there (λ q. q == p) seat.held.items i) ∙ ap (list_any (λ q. q == p)) (sym c.rotate.ensures.row);
    }

pub returns-clause-front : goal.returns-clause-front
returns-clause-front g c =
    let seat = c.args.self.now in let i : ℕ = c.place_of-count.result in let there = c.place_of-count.ensures in
    let slice = c.as_slice.ensures.value in
    let found = front_there c.turn_by.new.place.me.1 seat.held.items i c.args.p
    (ap numbers c.turn_by.ensures.row ∙ numbers_there seat.place.me.1 i ∙ ap (λ l. drop i l ++ take i l) seat.listed)
    (subst (λ l. i < length l) slice there.0) (ap (λ l. get_or l i 0) (sym slice) ∙ there.1) in
    record { slot = found.0; is = found.1 }

pub returns-clause-turned : goal.returns-clause-turned
returns-clause-turned g c =
    let seat = c.args.self.now in let i : ℕ = c.place_of-count.result in record {
      view = c.turn_by.ensures.view;
      first = take i seat.place.me.1;
      second = drop i seat.place.me.1;
      before = sym (take-append-drop i seat.place.me.1);
      after = c.turn_by.ensures.row;
    }
