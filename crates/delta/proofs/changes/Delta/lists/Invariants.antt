use Rattle.std.proofs.Common.{◌≡◌, ◌+◌, ◌≤◌, length, take}
use Rattle.entity_store.specs.Changes.{lists_among}
use Rattle.delta.proofs.changes.Delta.lists.Given as goal

abbrev pub invariant-loop-i : goal.invariant-loop-i
invariant-loop-i g l = record {
  fresh : l.out.fresh.items ≡ (lists_among (take l.i l.fn.self)).fresh;
  gone : l.out.gone.items ≡ (lists_among (take l.i l.fn.self)).gone;
  changed : l.out.changed.items ≡ (lists_among (take l.i l.fn.self)).changed;
  fresh_room : length l.fn.self ≤ l.out.fresh.spare + l.i;
  gone_room : length l.fn.self ≤ l.out.gone.spare + l.i;
  changed_room : length l.fn.self ≤ l.out.changed.spare + l.i;
  cost : l.steps ≤ l.fn.steps + l.i;
}
