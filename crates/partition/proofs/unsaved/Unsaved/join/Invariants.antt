use Rattle.std.proofs.Common.{◌≡◌, ◌+◌, ◌≤◌, drop, length}
use Rattle.indexmap.specs.IndexMap.{spare}
use Rattle.pk_model.specs.Maps.{EntityMap}
use Rattle.delta.specs.Deltas.{StartsAt, after}
use Rattle.partition.specs.Unsaved.{IsUnsaved}
use Rattle.partition.proofs.unsaved.Unsaved.join.Given as goal

abbrev pub invariant-loop-i : goal.invariant-loop-i
invariant-loop-i g l = record {
  net : (base now : EntityMap) → IsUnsaved base now l.fn.self.changes.entries → StartsAt now l.fn.delta
      → (m : EntityMap) × IsUnsaved base m l.self.changes.entries × StartsAt m (drop l.i l.fn.delta) × (after m (drop l.i l.fn.delta) ≡ after now l.fn.delta);
  room : length l.fn.delta ≤ spare l.self.changes + l.i;
  cost : l.steps ≡ l.fn.steps + l.i;
}
