use Rattle.std.proofs.Common.{◌≡◌, ◌≤◌, ◌+◌, ◌*◌, length}
use Rattle.solid_edits.proofs.ManyDeaths.{attributes_of_first}
use Rattle.solid_edits.proofs.deaths.count_dead.Given as goal

abbrev pub invariant-loop-tag : goal.invariant-loop-tag
invariant-loop-tag g l = record {
  count : l.count ≡ length l.tags + length (attributes_of_first l.store.state.map l.tags l.tag-index);
  few : length (attributes_of_first l.store.state.map l.tags l.tag-index) ≤ l.tag-index * 16777152;
}
