use Rattle.std.proofs.Common.{[], None, refl, arith}
use Rattle.owner_links.proofs.children.Children.none.Goals as goal

pub invariant_of-result : goal.invariant_of-result
invariant_of-result c = record { rest = []; before = None; first = refl; linked = tt; within = tt; few = omega arith }
