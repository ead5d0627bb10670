use Rattle.std.proofs.Common.{◌≡◌, ◌++◌, take, drop}
use Rattle.session_table.proofs.holding.turn_by.Given as goal

abbrev pub invariant-loop : goal.invariant-loop
invariant-loop g l = record {
  session : l.place.table_id ≡ l.initial.place.table_id;
  id : l.place.id ≡ l.initial.place.id;
  view : l.place.me.0 ≡ l.initial.place.me.0;
  row : l.place.me.1 ≡ drop l.counter l.initial.place.me.1 ++ take l.counter l.initial.place.me.1;
}
