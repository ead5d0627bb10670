-- Which scripts can be carried out.
use Rattle.std.specs.Prelude.{◌≡◌, ℕ, ◌≤◌, List, [], ◌∷◌, ◌++◌, length}
use Rattle.std.specs.List.{AllByRecursion}
use Rattle.pk_base.specs.declared.tag.TheConstants.{LAST_BLOCK}
use Rattle.script_text.specs.declared.limits.TheConstants.{MOST_PARTITIONS, MOST_THREADS}
use Rattle.script_text.specs.declared.script.Script.{Script}
use Rattle.script_text.specs.declared.script.ScriptLine.{ScriptLine}
use Rattle.script_text.specs.declared.script.Order.{Order}
use Rattle.script_text.specs.declared.script.Order.TheVariants.{Lock, Unlock, End, On}

-- how many tag operands an order has
abbrev pub operand_count : Order → ℕ
operand_count (Lock p) = 0
operand_count (Unlock p) = 0
operand_count End = 0
operand_count (On p a operands bind) = length operands

-- the last of a thread's lines is `end`, and no line has more than three tag operands
pub record IsThread (lines : List ScriptLine) : Type 0 where
  pub front : List ScriptLine
  pub last : ScriptLine
  pub whole : lines ≡ front ++ last ∷ []
  pub ends : last.order ≡ End
  pub few : AllByRecursion (λ (l : ScriptLine). operand_count l.order ≤ 3) lines

-- The partitions, the last block and the threads are within their limits, and each thread ends.
pub record IsWellFormed (script : Script) : Type 0 where
  pub some_partition : 1 ≤ script.n
  pub partitions : script.n ≤ MOST_PARTITIONS
  pub first : script.n ≤ script.last
  pub last : script.last ≤ LAST_BLOCK
  pub some_thread : 1 ≤ length script.threads
  pub threads : length script.threads ≤ MOST_THREADS
  pub each : AllByRecursion IsThread script.threads
