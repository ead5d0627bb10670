use Rattle.std.proofs.Common.{◌≡◌, ◌+◌, ◌*◌, ◌≤◌, drop, length}
use Rattle.entity_store.specs.Recorder.{began}
use Rattle.partition.specs.Goes.{MayWalk, entries_in, walked}
use Rattle.partition.proofs.goes.walk.Given as goal

abbrev pub invariant-loop-mark : goal.invariant-loop-mark
invariant-loop-mark g l = record {
  state : l.rec.store.now.state ≡ record l.fn.rec.store.now.state { map = l.rec.store.now.state.map };
  leads : walked l.fn.tree.marks l.forward l.rec.store.now.state.map (drop l.mark-index l.marks) ≡ walked l.fn.tree.marks l.forward l.fn.rec.store.now.state.map l.marks;
  walks : MayWalk l.fn.rec.store.now.state.blocks l.fn.tree.marks l.forward l.rec.store.now.state.map (drop l.mark-index l.marks);
  began : began l.rec.store.now ≡ began l.fn.rec.store.now;
  room : l.rec.store.now.recording.room ≡ l.fn.rec.store.now.recording.room;
  puts : length l.rec.store.now.recording.first + entries_in l.fn.tree.marks (drop l.mark-index l.marks) ≤ length l.fn.rec.store.now.recording.first + entries_in l.fn.tree.marks l.marks;
  same_store : l.rec.store.ghost_name ≡ l.fn.rec.store.ghost_name;
  cost : l.steps + 3 * entries_in l.fn.tree.marks (drop l.mark-index l.marks) ≤ l.fn.steps + 3 * entries_in l.fn.tree.marks l.marks;
}
