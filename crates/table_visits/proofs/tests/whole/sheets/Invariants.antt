use Rattle.std.proofs.Common.{◌≡◌, map, vec_len, None}
use Rattle.std.specs.Prelude.{vec_capacity}
use Rattle.table_visits.specs.declared.sheet.Sheet.{Sheet}
use Rattle.session_table.specs.Named.{Named, openings}
use Rattle.table_visits.proofs.tests.whole.sheets.Given as goal

abbrev pub named_sheet : Sheet → Named
named_sheet s = record { number = s.number; holder = None; blocks = s.blocks.items; journal = s.journal.items }

abbrev pub invariant-loop-i : goal.invariant-loop-i
invariant-loop-i l = record {
  sheets : map named_sheet l.all.items ≡ openings 1 l.i;
  many : vec_len l.all ≡ l.i;
  room : vec_capacity l.all ≡ vec_capacity l.initial.all;
}
