use Rattle.std.proofs.Common.{◌≡◌, ◌++◌, map}
use Rattle.script_thread.specs.Thread.{ThreadState}
use Rattle.serial_run.proofs.run.transcripts.Given as goal

abbrev pub invariant-loop-thread : goal.invariant-loop-thread
invariant-loop-thread l = l.all.items ++ map (λ (s : ThreadState). s.said) l.thread-iterator.rest.items ≡ map (λ (s : ThreadState). s.said) l.fn.threads.items
