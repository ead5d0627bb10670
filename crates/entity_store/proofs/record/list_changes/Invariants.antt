use Rattle.std.proofs.Common.{◌≡◌, ◌+◌, ◌++◌, ◌≤◌, length, vec_len, vec_capacity}
use Rattle.std.specs.List.{filter_map}
use Rattle.entity_store.specs.Recording.{change_of, first_values}
use Rattle.entity_store.proofs.record.list_changes.Given as goal

abbrev pub invariant-loop-tag : goal.invariant-loop-tag
invariant-loop-tag g l = record {
  can_next : (goal.iterator-loop-tag g).can_next l.tag-iterator;
  is_finite : (goal.iterator-loop-tag g).is_finite l.tag-iterator;
  items : l.changes.items ++ filter_map (change_of l.fn.store.state.map) (first_values l.tag-iterator)
      ≡ l.fn.changes.items ++ filter_map (change_of l.fn.store.state.map) (first_values l.fn.first.entries);
  room : vec_len l.changes + length l.tag-iterator ≤ vec_capacity l.changes;
  steps : l.steps + length l.tag-iterator ≡ l.fn.steps + length l.fn.first.entries;
}
