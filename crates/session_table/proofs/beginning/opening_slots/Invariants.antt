use Rattle.std.proofs.Common.{◌≡◌, ◌+◌, ◌∷◌, Some, None, map, length, vec_len}
use Rattle.std.specs.Prelude.{vec_capacity}
use Rattle.session_table.proofs.beginning.opening_slots.Given as goal

abbrev pub invariant-loop-value : goal.invariant-loop-value
invariant-loop-value g l = record {
  can : (goal.iterator-loop-value g).can_next l.value-iterator;
  ends : (goal.iterator-loop-value g).is_finite l.value-iterator;
  items : l.slots.items ≡ None ∷ map Some l.yielded;
  room : vec_len l.slots ≡ length l.yielded + 1;
  capacity : vec_capacity l.slots ≡ vec_capacity l.initial.slots;
}
