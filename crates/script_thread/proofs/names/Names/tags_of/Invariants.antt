use Rattle.std.proofs.Common.{◌≡◌, ◌+◌, drop}
use Rattle.script_text.specs.Walk.{tags_of_operands}
use Rattle.script_thread.proofs.Naming.{tags_before}
use Rattle.script_thread.proofs.names.Names.tags_of.Given as goal

abbrev pub invariant-loop-i : goal.invariant-loop-i
invariant-loop-i l = tags_before l.tags.items (tags_of_operands l.self (l.i + 1) (drop l.i l.operands)) ≡ tags_of_operands l.self 1 l.operands
