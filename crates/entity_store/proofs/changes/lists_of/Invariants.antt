use Rattle.std.proofs.Common.{◌≡◌, ◌+◌, ◌≤◌, length, take}
use Rattle.entity_store.specs.Changes.{lists_among}
use Rattle.entity_store.proofs.changes.lists_of.Given as goal

abbrev pub invariant-loop-change : goal.invariant-loop-change
invariant-loop-change l = record {
  fresh : l.fresh.items ≡ (lists_among (take l.change-index l.change-items)).fresh;
  gone : l.gone.items ≡ (lists_among (take l.change-index l.change-items)).gone;
  changed : l.changed.items ≡ (lists_among (take l.change-index l.change-items)).changed;
  fresh_room : length l.fn.changes ≤ l.fresh.spare + l.change-index;
  gone_room : length l.fn.changes ≤ l.gone.spare + l.change-index;
  changed_room : length l.fn.changes ≤ l.changed.spare + l.change-index;
}
