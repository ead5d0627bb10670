use Rattle.std.proofs.Common.{◌∙◌}
use Rattle.delta.proofs.Merged.{next-none, next-first, next-second, next-both}
use Rattle.delta.proofs.compose.next_of.Goals as goal

pub returns-in-Some-Some : goal.returns-in-Some-Some
returns-in-Some-Some c cs ds p q =
    next-both cs ds c.in-Some-Some.c c.in-Some-Some.d c.next_of_both.result.change c.next_of_both.result.first c.next_of_both.result.second (p ∙ c.in-Some-Some.is-0) (q ∙ c.in-Some-Some.is-1) c.next_of_both.ensures

pub returns-in-Some-None : goal.returns-in-Some-None
returns-in-Some-None c cs ds p q = next-first cs ds c.in-Some-None.c (p ∙ c.in-Some-None.is-0) (q ∙ c.in-Some-None.is-1)

pub returns-in-None-Some : goal.returns-in-None-Some
returns-in-None-Some c cs ds p q = next-second cs ds c.in-None-Some.d (p ∙ c.in-None-Some.is-0) (q ∙ c.in-None-Some.is-1)

pub returns-in-None-None : goal.returns-in-None-None
returns-in-None-None c cs ds p q = next-none cs ds (p ∙ c.in-None-None.is-0) (q ∙ c.in-None-None.is-1)
