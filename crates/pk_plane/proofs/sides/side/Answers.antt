use Rattle.std.proofs.Common.{◌^◌, lit<}
use Rattle.pk_plane.proofs.Exact.{gap-is, gap-within, gaps-are, minus-fits, minus-is, minus-within}
use Rattle.pk_plane.proofs.sides.side.Goals as goal

pub area-requires-clause-first : goal.area-requires-clause-first
area-requires-clause-first c = gap-within c.requires.a.x c.requires.b.x

pub area-requires-clause-second : goal.area-requires-clause-second
area-requires-clause-second c = gap-within c.requires.a.y c.requires.c.y

pub area-requires-2-clause-first : goal.area-requires-2-clause-first
area-requires-2-clause-first c = gap-within c.requires.a.y c.requires.b.y

pub area-requires-2-clause-second : goal.area-requires-2-clause-second
area-requires-2-clause-second c = gap-within c.requires.a.x c.requires.c.x

pub overflow_sub-result : goal.overflow_sub-result
overflow_sub-result c = minus-fits (2 ^ 42) c.area.result c.area-2.result c.area.ensures.size c.area-2.ensures.size (lit< tt)

pub returns-clause-value : goal.returns-clause-value
returns-clause-value c =
    let first = gaps-are c.area.ensures.value (gap-is c.requires.a.x c.requires.b.x) (gap-is c.requires.a.y c.requires.c.y) in
    let second = gaps-are c.area-2.ensures.value (gap-is c.requires.a.y c.requires.b.y) (gap-is c.requires.a.x c.requires.c.x) in
    minus-is (2 ^ 42) first second c.area.ensures.size c.area-2.ensures.size (lit< tt)

pub returns-clause-size : goal.returns-clause-size
returns-clause-size c = minus-within (2 ^ 42) c.area.ensures.size c.area-2.ensures.size (lit< tt)
