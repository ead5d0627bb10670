-- The steps of a call, from those of its halves and of the record.
use Rattle.std.proofs.Common.{ℕ, ◌+◌, ◌*◌, ◌≤◌, Option, None, Some, arith}
use Rattle.entity_store.specs.Modeller.{AddsAtMost}
use Rattle.partition.specs.Work.{CallsWithin}

pub within_done : (limit : Option ℕ) (changes a b c d : ℕ) → AddsAtMost limit a b → AddsAtMost limit b c → d ≤ c + 2 * changes → CallsWithin limit changes a d
within_done None changes a b c d need perform x = tt
within_done (Some n) changes a b c d need perform x = omega (arith, need, perform, x)
