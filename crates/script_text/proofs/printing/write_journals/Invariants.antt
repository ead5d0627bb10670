use Rattle.std.proofs.Common.{◌≡◌, ◌+◌, ◌++◌, drop}
use Rattle.script_text.specs.Text.{journals_text}
use Rattle.script_text.proofs.printing.write_journals.Given as goal

abbrev pub invariant-loop-i : goal.invariant-loop-i
invariant-loop-i l = l.out ++ journals_text (l.i + 1) (drop l.i l.journals) ≡ l.initial.out ++ journals_text 1 l.journals
