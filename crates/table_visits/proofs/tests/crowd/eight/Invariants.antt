use Rattle.std.proofs.Common.{◌≡◌, vec_len, None}
use Rattle.std.specs.Prelude.{All, vec_capacity}
use Rattle.session_table.specs.Faces.{view_of}
use Rattle.table_visits.specs.Working.{IsIdle}
use Rattle.table_visits.specs.declared.sheet.Sheet.{Sheet}
use Rattle.session_table.specs.Named.{Named}
use Rattle.table_visits.proofs.tests.crowd.eight.Given as goal

abbrev pub named_sheet : Sheet → Named
named_sheet s = record { number = s.number; holder = None; blocks = s.blocks.items; journal = s.journal.items }

abbrev pub invariant-loop : goal.invariant-loop
invariant-loop l = record {
  root : IsIdle named_sheet l.table l.root;
  number : (view_of l.root).number ≡ 0;
  made : (view_of l.root).made ≡ l.counter;
  seats : All (λ s. IsIdle named_sheet l.table s) l.seats.items;
  many : vec_len l.seats ≡ l.counter;
  room : vec_capacity l.seats ≡ vec_capacity l.initial.seats;
}
