use Rattle.std.proofs.Common.{◌≡◌}
use Rattle.solid_edits.proofs.ManyDeaths.{HaveDied}
use Rattle.solid_edits.proofs.deaths.kill_all.Given as goal

abbrev pub invariant-loop-tag : goal.invariant-loop-tag
invariant-loop-tag g l = HaveDied l.initial.rec.store.now l.tags l.tag-index l.rec.store.now × (l.rec.store.ghost_name ≡ l.initial.rec.store.ghost_name)
