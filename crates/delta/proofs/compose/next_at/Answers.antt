use Rattle.std.proofs.Common.{drop, sym, ◌∙◌}
use Rattle.delta.proofs.Places.{get-dropped}
use Rattle.delta.proofs.compose.next_at.Goals as goal

pub returns-clause-next : goal.returns-clause-next
returns-clause-next g c =
    c.next_of.ensures (drop c.args.taken.first c.args.a.now) (drop c.args.taken.second c.args.b.now) (get-dropped c.args.a.now c.args.taken.first ∙ sym c.change_at-first.ensures.value)
    (get-dropped c.args.b.now c.args.taken.second ∙ sym c.change_at-second.ensures.value)
