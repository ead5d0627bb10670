use Rattle.std.proofs.Common.{◌^◌, lit<}
use Rattle.pk_plane.proofs.Exact.{gap-is, gap-within, gaps-are, plus-fits, plus-is}
use Rattle.pk_plane.proofs.sides.dot_from.Goals as goal

pub area-requires-clause-first : goal.area-requires-clause-first
area-requires-clause-first c = gap-within c.requires.p.x c.requires.a.x

pub area-requires-clause-second : goal.area-requires-clause-second
area-requires-clause-second c = gap-within c.requires.p.x c.requires.b.x

pub area-requires-2-clause-first : goal.area-requires-2-clause-first
area-requires-2-clause-first c = gap-within c.requires.p.y c.requires.a.y

pub area-requires-2-clause-second : goal.area-requires-2-clause-second
area-requires-2-clause-second c = gap-within c.requires.p.y c.requires.b.y

pub overflow_add-result : goal.overflow_add-result
overflow_add-result c = plus-fits (2 ^ 42) c.area.result c.area-2.result c.area.ensures.size c.area-2.ensures.size (lit< tt)

pub returns : goal.returns
returns c =
    let first = gaps-are c.area.ensures.value (gap-is c.requires.p.x c.requires.a.x) (gap-is c.requires.p.x c.requires.b.x) in
    let second = gaps-are c.area-2.ensures.value (gap-is c.requires.p.y c.requires.a.y) (gap-is c.requires.p.y c.requires.b.y) in
    plus-is (2 ^ 42) first second c.area.ensures.size c.area-2.ensures.size (lit< tt)
