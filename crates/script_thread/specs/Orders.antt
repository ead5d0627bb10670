-- What an order asks of a thread before it reaches a partition.
use Rattle.std.specs.Prelude.{◌≡◌, ℕ, ◌<◌, ◌≤◌, true, List, None, Some, Result, Ok, Err, ⊤}
use Rattle.pk_base.specs.declared.act.Act.{Act}
use Rattle.pk_base.specs.declared.refusal.Fault.{Fault}
use Rattle.pk_base.specs.declared.refusal.Fault.TheVariants as fault
use Rattle.script_text.specs.Walk.{act_with_tags, greatest, is_held, refusal_of_order}
use Rattle.script_text.specs.declared.script.Operand.{Operand}
use Rattle.script_text.specs.declared.script.Order.TheVariants.{On}
use Rattle.script_thread.specs.Thread.{ThreadState, walker_now}

-- A lock that is not turned away is of one of n partitions, above all that the thread holds.
pub record LockAllowed (n : ℕ) (held : List ℕ) (p : ℕ) : Type 0 where
  pub within : (1 ≤ p) × (p ≤ n)
  pub above : greatest held < p

-- An act on partition p that is not turned away, and as it reaches the partition, which the thread
-- holds.
pub record ActAllowed
    (n : ℕ) (s : ThreadState) (p : ℕ) (a : Act) (operands : List Operand) (resolved : Act)
    : Type 0 where
  pub allowed : refusal_of_order n (walker_now s) (On p a operands None) ≡ None
  pub held : is_held s.held p ≡ true
  pub tags : resolved ≡ act_with_tags (walker_now s) a operands

-- an act on partition p with the tags of its operands, or the refusal with which it is turned away
abbrev pub IsResolved : ℕ → ThreadState → ℕ → Act → List Operand → Result Act Fault → Type 0
IsResolved n s p a operands (Ok act) = ActAllowed n s p a operands act
IsResolved n s p a operands (Err (fault.Refused e)) =
    refusal_of_order n (walker_now s) (On p a operands None) ≡ Some e
IsResolved n s p a operands (Err fault.NoMemory) = ⊤
