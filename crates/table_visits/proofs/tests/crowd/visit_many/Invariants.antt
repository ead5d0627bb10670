use Rattle.std.proofs.Common.{None}
use Rattle.table_visits.specs.Working.{IsIdle}
use Rattle.table_visits.specs.declared.sheet.Sheet.{Sheet}
use Rattle.session_table.specs.Named.{Named}
use Rattle.table_visits.proofs.tests.crowd.visit_many.Given as goal

abbrev pub named_sheet : Sheet → Named
named_sheet s = record { number = s.number; holder = None; blocks = s.blocks.items; journal = s.journal.items }

abbrev pub invariant-loop-turn : goal.invariant-loop-turn
invariant-loop-turn l = IsIdle named_sheet l.table l.seat
