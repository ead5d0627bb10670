use Rattle.std.proofs.Common.{◌≡◌}
use Rattle.entity_store.specs.NextTags.{left}
use Rattle.euler_make.specs.Cutting.{MayCut, backs_listed}
use Rattle.euler_make.proofs.CutsDone.{CutsDone}
use Rattle.euler_make.proofs.raise.cut_sides.Given as goal

abbrev pub invariant-loop-i : goal.invariant-loop-i
invariant-loop-i g l =
    ((may : MayCut l.initial.rec.store.now (backs_listed l.initial.out.items l.fn.listed l.fn.fins) (left l.initial.tags))
    → CutsDone l.initial.rec.store.now (backs_listed l.initial.out.items l.fn.listed l.fn.fins) l.initial.tags l.initial.out may.loop_ l.i l.rec.store.now l.tags l.out)
    × (l.rec.store.ghost_name ≡ l.initial.rec.store.ghost_name)
