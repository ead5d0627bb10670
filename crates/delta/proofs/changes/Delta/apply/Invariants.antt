use Rattle.std.proofs.Common.{◌≡◌, ◌+◌, ◌*◌, ◌≤◌, drop}
use Rattle.entity_store.specs.Room.{PutsAmong}
use Rattle.delta.specs.Deltas.{after, in_direction, tags_in}
use Rattle.delta.proofs.changes.Delta.apply.Given as goal

abbrev pub invariant-loop-i : goal.invariant-loop-i
invariant-loop-i g l = record {
  state : l.rec.store.now.state ≡ record l.fn.rec.store.now.state { map = l.rec.store.now.state.map };
  leads : after l.rec.store.now.state.map (drop l.i (in_direction l.forward l.fn.self)) ≡ after l.fn.rec.store.now.state.map (in_direction l.forward l.fn.self);
  puts : PutsAmong (tags_in l.fn.self) l.fn.rec.store.now l.rec.store.now;
  same_store : l.rec.store.ghost_name ≡ l.fn.rec.store.ghost_name;
  cost : l.steps ≤ l.fn.steps + 3 * l.i;
}
