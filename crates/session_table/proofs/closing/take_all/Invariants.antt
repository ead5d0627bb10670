use Rattle.std.proofs.Common.{◌≡◌, ℕ, ◌+◌, ◌<◌, false, Some, map, get_or, take, drop, vec_len}
use Rattle.std.specs.Prelude.{vec_capacity}
use Rattle.std.specs.Mem.Slots.{slots_items, slots_filled, slots_len}
use Rattle.std.specs.Mem.Slots.Ownership.{Filled}
use Rattle.session_table.proofs.closing.take_all.Given as goal

abbrev pub invariant-loop-i : goal.invariant-loop-i
invariant-loop-i g l = record {
  items : slots_items l.closed.slots ≡ slots_items l.initial.closed.slots;
  len : slots_len l.closed.slots ≡ slots_len l.initial.closed.slots;
  filled : Filled (slots_filled l.closed.slots) (l.i + 1) (slots_len l.closed.slots);
  empty : (k : ℕ) → k < l.i + 1 → get_or (slots_filled l.closed.slots) k false ≡ false;
  all : map Some l.all.items ≡ take l.i (drop 1 (slots_items l.initial.closed.slots));
  many : vec_len l.all ≡ l.i;
  room : vec_capacity l.all ≡ vec_capacity l.initial.all;
}
