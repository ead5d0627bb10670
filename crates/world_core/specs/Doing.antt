-- What an event does to its partition.
use Rattle.std.specs.Prelude.{◌≡◌, ℕ, ◌+◌, Option, Result, Ok, Err}
use Rattle.pk_base.specs.declared.act.Entry.{Entry}
use Rattle.pk_base.specs.declared.act.Reply.{Reply}
use Rattle.pk_base.specs.declared.refusal.Refusal.{Refusal}
use Rattle.pk_model.specs.Modelling.{Modelling}
use Rattle.partition.specs.Partition.{PartitionView, Appends, Stays}
use Rattle.world_core.specs.Event.{UnlessNoMemory, said_of}
use Rattle.world_core.specs.declared.event.Said.{Said}
use Rattle.world_core.specs.declared.event.Said.TheVariants as said
use Rattle.world_core.specs.declared.event.WorldNo.{WorldNo}

-- The partition has the entry that was asked for, and the answer is what is said of it; or none was
-- asked for, and the partition is as it was.
abbrev pub Follows : Modelling → PartitionView → Result Entry WorldNo → Result Said WorldNo
    → PartitionView → Type 0
Follows K old (Ok e) answer new =
    (reply : Option (Result Reply Refusal)) × (answer ≡ said_of e reply) × Appends K old e reply new
Follows K old (Err e) answer new = (answer ≡ Err e) × Stays old new

-- This was done to the partition; where memory ran out, nothing changed.
abbrev pub Does : Modelling → PartitionView → Result Entry WorldNo → Result Said WorldNo
    → PartitionView → Type 0
Does K old asked answer new =
    UnlessNoMemory answer (Follows K old asked answer new) (Stays old new)

-- the next block after this answer
abbrev pub next_after : ℕ → Result Said WorldNo → ℕ
next_after next (Ok said.Done) = next
next_after next (Ok (said.Drew b)) = next + 1
next_after next (Ok (said.Reply r)) = next
next_after next (Err e) = next
