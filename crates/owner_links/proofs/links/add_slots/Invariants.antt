use Rattle.std.proofs.Common.{◌≡◌, ◌+◌, ◌++◌, replicate, vec_len, vec_capacity}
use Rattle.owner_links.specs.Slots.{unlinked}
use Rattle.owner_links.proofs.links.add_slots.Given as goal

abbrev pub invariant-loop : goal.invariant-loop
invariant-loop l = (l.slots.items ≡ l.initial.slots.items ++ replicate l.counter unlinked) × (vec_len l.slots ≡ vec_len l.initial.slots + l.counter) × (vec_capacity l.slots ≡ vec_capacity l.initial.slots)
