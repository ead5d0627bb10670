-- Threads that have ended, and threads that wait.
use Rattle.std.specs.Prelude.{◌≡◌, ℕ, List, length, None, Some}
use Rattle.world_core.specs.World.{WorldState, partition_at}
use Rattle.script_text.specs.Walk.{refusal_of_order}
use Rattle.script_text.specs.declared.script.ScriptLine.{ScriptLine}
use Rattle.script_text.specs.declared.script.Order.TheVariants.{Lock}
use Rattle.script_thread.specs.Thread.{ThreadState, walker_now}
use Rattle.serial_run.specs.Serial.{RunState, lines_at, next_line, thread_at}

-- the thread was told all its lines
abbrev pub HasEnded : List ScriptLine → ThreadState → Type 0
HasEnded lines s = length s.said ≡ length lines

-- all threads have ended, which have these lines
abbrev pub HaveEnded : List (List ScriptLine) → RunState → Type 0
HaveEnded lines r =
    (t : ℕ) (s : ThreadState) → thread_at r.threads t ≡ Some s → HasEnded (lines_at lines t) s

-- The thread waits: its next line is a lock that is not turned away, of a partition that is held.
pub record IsBlocked (lines : List ScriptLine) (w : WorldState) (s : ThreadState) : Type 0 where
  pub line : ScriptLine
  pub next : next_line lines s ≡ Some line
  pub partition : ℕ
  pub lock : line.order ≡ Lock partition
  pub allowed : refusal_of_order (length w.partitions) (walker_now s) line.order ≡ None
  pub holder : ℕ
  pub held : (partition_at w partition).state.holder ≡ Some holder

-- Some thread has not ended, and does not wait.
pub record SomeGoesOn (lines : List (List ScriptLine)) (r : RunState) : Type 0 where
  pub thread : ℕ
  pub state : ThreadState
  pub is : thread_at r.threads thread ≡ Some state
  pub unfinished : HasEnded (lines_at lines thread) state → ⊥
  pub free : IsBlocked (lines_at lines thread) r.world state → ⊥
