use Rattle.std.proofs.Common.{◌≡◌, vec_len}
use Rattle.std.specs.Prelude.{All, vec_capacity}
use Rattle.pk_session.specs.Views.{SeatView}
use Rattle.session_uses.proofs.tests.crowd.eight.Given as goal

abbrev pub invariant-loop : goal.invariant-loop
invariant-loop l = record {
  root : l.root.session ≡ l.session;
  number : l.root.view.number ≡ 0;
  made : l.root.view.made ≡ l.counter;
  seats : All (λ (s : SeatView). s.session ≡ l.session) l.seats.items;
  many : vec_len l.seats ≡ l.counter;
  room : vec_capacity l.seats ≡ vec_capacity l.initial.seats;
}
