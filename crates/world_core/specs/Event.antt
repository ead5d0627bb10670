-- The events of a world: when each may happen, what it appends to the journal of its partition, and
-- what it answers.
use Rattle.std.specs.Prelude.{◌≡◌, ℕ, ◌<◌, nat_le, if◌then◌else◌, Option, Some, None, Result, Ok, Err}
use Rattle.pk_base.specs.declared.act.Entry.{Entry}
use Rattle.pk_base.specs.declared.act.Entry.TheVariants.{Claimed, Drew, Did, Spent, Released}
use Rattle.pk_base.specs.declared.act.Reply.{Reply}
use Rattle.pk_base.specs.declared.refusal.Refusal.{Refusal}
use Rattle.pk_base.specs.declared.refusal.Fault.{Fault}
use Rattle.pk_base.specs.declared.refusal.Fault.TheVariants as fault
use Rattle.pk_model.specs.State.{PartitionState}
use Rattle.pk_model.specs.Modelling.{Modelling}
use Rattle.pk_model.specs.Step.{short}
use Rattle.world_core.specs.declared.event.Event.{Event}
use Rattle.world_core.specs.declared.event.Event.TheVariants as event
use Rattle.world_core.specs.declared.event.Said.{Said}
use Rattle.world_core.specs.declared.event.Said.TheVariants as said
use Rattle.world_core.specs.declared.event.WorldNo.{WorldNo}
use Rattle.world_core.specs.declared.event.WorldNo.TheVariants as no

-- the number of the event's partition
abbrev pub partition_of : Event → ℕ
partition_of (event.Claim p) = p
partition_of (event.Release p) = p
partition_of (event.Draw p) = p
partition_of (event.Act p a) = p
partition_of (event.GiveUp p a number) = p

-- The blocks that may be drawn: the next one, and the last. None is left where the next one is
-- above the last.
pub record Supply : Type 0 where
  pub next : ℕ
  pub last : ℕ

abbrev pub supply : ℕ → ℕ → Supply
supply next last = record { next = next; last = last }

-- Thread t may do the event to its partition, which is in this state. Every event but Claim
-- requires that the thread holds the partition. Act requires besides that the act is not short of
-- tags. GiveUp requires that it is, that no block is left, and that the number is above the last
-- block.
abbrev pub MayDo : Modelling → PartitionState → Supply → ℕ → Event → Type 0
MayDo K s blocks t (event.Claim p) = Unit {0}
MayDo K s blocks t (event.Release p) = s.holder ≡ Some t
MayDo K s blocks t (event.Draw p) = s.holder ≡ Some t
MayDo K s blocks t (event.Act p a) = (s.holder ≡ Some t) × (short K s a ≡ 0)
MayDo K s blocks t (event.GiveUp p a number) =
    (s.holder ≡ Some t) × (0 < short K s a) × (blocks.last < number) × (blocks.last < blocks.next)

-- the entry of thread t's claim; the claim of a partition that is held is blocked by its holder
abbrev pub claim_of : PartitionState → ℕ → Result Entry WorldNo
claim_of s t = elim s.holder [ None ↦ Ok (Claimed t) | Some holder ↦ Err (no.Blocked holder) ]

-- the entry of thread t's draw; where no block is left it is answered with the next one
abbrev pub draw_of : Supply → ℕ → Result Entry WorldNo
draw_of blocks t =
    if nat_le blocks.next blocks.last then Ok (Drew t blocks.next) else Err (no.Spent blocks.next)

-- The entry that the event of thread t appends to the journal of its partition, which is in this
-- state; or the answer, where it appends none.
abbrev pub entry_of : PartitionState → Supply → ℕ → Event → Result Entry WorldNo
entry_of s blocks t (event.Claim p) = claim_of s t
entry_of s blocks t (event.Release p) = Ok (Released t)
entry_of s blocks t (event.Draw p) = draw_of blocks t
entry_of s blocks t (event.Act p a) = Ok (Did t a)
entry_of s blocks t (event.GiveUp p a number) = Ok (Spent t number a)

-- what is said of an act that was answered so
abbrev pub said_of_act : Option (Result Reply Refusal) → Result Said WorldNo
said_of_act None = Ok said.Done
said_of_act (Some (Ok r)) = Ok (said.Reply r)
said_of_act (Some (Err e)) = Err (no.Refused e)

-- what is said of an entry whose step has this answer
abbrev pub said_of : Entry → Option (Result Reply Refusal) → Result Said WorldNo
said_of (Claimed t) answer = Ok said.Done
said_of (Released t) answer = Ok said.Done
said_of (Drew t b) answer = Ok (said.Drew b)
said_of (Did t a) answer = said_of_act answer
said_of (Spent t number a) answer = Ok said.Done

-- A holds, unless the answer is out of memory; then B holds
abbrev pub UnlessNoMemory : Result Said WorldNo → Type 0 → Type 0 → Type 0
UnlessNoMemory (Ok s) A B = A
UnlessNoMemory (Err (no.Refused e)) A B = A
UnlessNoMemory (Err (no.Blocked t)) A B = A
UnlessNoMemory (Err (no.Spent b)) A B = A
UnlessNoMemory (Err no.NoMemory) A B = B

-- what is answered where a partition gives no reply
abbrev pub no_of : Fault → WorldNo
no_of (fault.Refused e) = no.Refused e
no_of fault.NoMemory = no.NoMemory
