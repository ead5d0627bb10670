use Rattle.std.proofs.Common.{refl, sym, ap, ◌∙◌, arith}
use Rattle.session_table.specs.Named.{openings}
use Rattle.pk_session.proofs.Resting.{rests, gone_is_fine}
use Rattle.pk_session.proofs.session.Session.begin.Goals as goal

pub begin-requires-clause-opening : goal.begin-requires-clause-opening
begin-requires-clause-opening g c = c.in_ok-partitions.ensures.opening ∙ ap (openings 1) (sym c.in_ok-partitions.ensures.count)

pub begin-requires-clause-last : goal.begin-requires-clause-last
begin-requires-clause-last g c = let n = c.in_ok-partitions.ensures.count in let h = c.requires.first in omega arith

pub invariant_of-session : goal.invariant_of-session
invariant_of-session g c =
    let n = c.in_ok-table.ensures.partitions ∙ c.in_ok-partitions.ensures.count in let l = c.in_ok-table.ensures.last in
    let some = c.requires.some in let few = c.requires.few in let first = c.requires.first in let last = c.requires.last in (
      record { some = omega arith; few = omega arith; first = omega arith; last = omega arith },
      sym n,
    )

pub invariant_of-result : goal.invariant_of-result
invariant_of-result g c =
    (rests c.in_ok-table.table c.in_ok-table.place _ c.in_ok-table.ensures.seat c.in_ok-table.ensures.root refl (λ p slot e. gone_is_fine slot e)).between

pub returns-clause-partitions : goal.returns-clause-partitions
returns-clause-partitions g c = c.in_ok-table.ensures.partitions ∙ c.in_ok-partitions.ensures.count
