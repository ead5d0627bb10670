use Rattle.std.proofs.Common.{◌≡◌, ◌+◌, ◌++◌, drop}
use Rattle.script_text.specs.Text.{threads_text}
use Rattle.script_text.proofs.printing.write_threads.Given as goal

abbrev pub invariant-loop-i : goal.invariant-loop-i
invariant-loop-i l = l.out ++ threads_text (l.i + 1) (drop l.i l.threads) ≡ l.initial.out ++ threads_text 1 l.threads
