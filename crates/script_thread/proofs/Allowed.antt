-- What is known of an order that is not turned away.
use Rattle.std.proofs.Common.{◌≡◌, ℕ, ◌≤◌, Bool, true, false, not, List, Option, Some, None, refl, sym}
use Rattle.std.specs.Prelude.{nat_lt}
use Rattle.std.proofs.lemmas.Bool.{and_parts, leb-true, ltb-false, not-false}
use Rattle.std.proofs.lemmas.Option.{none-some}
use Rattle.pk_base.specs.declared.act.Act.{Act}
use Rattle.pk_base.specs.declared.entity.Name.{Name}
use Rattle.pk_base.specs.declared.refusal.Refusal.{Refusal}
use Rattle.pk_base.specs.declared.refusal.Refusal.TheVariants as refusal
use Rattle.script_text.specs.Walk.{greatest, is_held, is_partition, refusal_if, refusal_of_operands, refusal_of_order, tags_of_operands, ◌or_else◌}
use Rattle.script_text.specs.declared.script.Operand.{Operand}
use Rattle.script_text.specs.declared.script.Order.TheVariants.{Lock, Unlock, On}
use Rattle.script_thread.specs.Thread.{ThreadState, walker_now}
use Rattle.script_thread.specs.Orders.{LockAllowed}
use Rattle.script_thread.proofs.HeldLists.{above_greatest}

no_refusal : (b : Bool) (r : Refusal) (more : Option Refusal) → (refusal_if b r or_else more) ≡ None → (b ≡ false) × (more ≡ None)
no_refusal true r more h = absurd (none-some r (sym h))
no_refusal false r more h = (refl, h)

not_refused : (b : Bool) (r : Refusal) → refusal_if b r ≡ None → b ≡ false
not_refused true r h = absurd (none-some r (sym h))
not_refused false r h = refl

second_none : (first more : Option Refusal) → (first or_else more) ≡ None → more ≡ None
second_none None more h = h
second_none (Some r) more h = absurd (none-some r (sym h))

-- the number is that of one of n partitions
pub partition_within : (n p : ℕ) → not (is_partition n p) ≡ false → (1 ≤ p) × (p ≤ n)
partition_within n p h = let parts = and_parts _ _ (not-false (is_partition n p) h) in (leb-true 1 p parts.0, leb-true p n parts.1)

-- a lock that is not refused is of one of n partitions, above all that the thread holds
pub lock_allowed : (n : ℕ) (s : ThreadState) (p : ℕ) → refusal_of_order n (walker_now s) (Lock p) ≡ None → LockAllowed n s.held p
lock_allowed n s p h =
    let a = no_refusal (not (is_partition n p)) (refusal.NoPartition p) (refusal_if (is_held s.held p) (refusal.AlreadyLocked p) or_else refusal_if (nat_lt p (greatest s.held)) (refusal.LockOrder (greatest s.held))) h in
    let b = no_refusal (is_held s.held p) (refusal.AlreadyLocked p) (refusal_if (nat_lt p (greatest s.held)) (refusal.LockOrder (greatest s.held))) a.1 in
    let within = partition_within n p a.0 in
    let most : greatest s.held ≤ p = ltb-false p (greatest s.held) (not_refused (nat_lt p (greatest s.held)) (refusal.LockOrder (greatest s.held)) b.1) in
    record { within = within; above = above_greatest s.held p within.0 b.0 most }

-- an unlock that is not refused is of a partition that the thread holds
pub unlock_allowed : (n : ℕ) (s : ThreadState) (p : ℕ) → refusal_of_order n (walker_now s) (Unlock p) ≡ None → is_held s.held p ≡ true
unlock_allowed n s p h =
    let a = no_refusal (not (is_partition n p)) (refusal.NoPartition p) (refusal_if (not (is_held s.held p)) (refusal.NotLocked p)) h in
    not-false (is_held s.held p) (not_refused (not (is_held s.held p)) (refusal.NotLocked p) a.1)

-- and so is an act
pub act_allowed : (n : ℕ) (s : ThreadState) (p : ℕ) (a : Act) (operands : List Operand) (bind : Option Name) → refusal_of_order n (walker_now s) (On p a operands bind) ≡ None → is_held s.held p ≡ true
act_allowed n s p a operands bind h =
    let more = refusal_if (not (is_partition n p)) (refusal.NoPartition p) or_else refusal_if (not (is_held s.held p)) (refusal.NotLocked p) in
    let b = no_refusal (not (is_partition n p)) (refusal.NoPartition p) (refusal_if (not (is_held s.held p)) (refusal.NotLocked p)) (second_none (refusal_of_operands (tags_of_operands s.names 1 operands)) more h) in
    not-false (is_held s.held p) (not_refused (not (is_held s.held p)) (refusal.NotLocked p) b.1)
