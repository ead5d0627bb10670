use Rattle.std.proofs.Common.{length}
use Rattle.queries.proofs.Listed.{Listing}
use Rattle.queries.proofs.listing.list_all.Given as goal

abbrev pub invariant-loop-tag : goal.invariant-loop-tag
invariant-loop-tag g l = Listing l.initial.walk l.out.items l.out.spare l.walk

abbrev pub decreases-loop-tag : goal.decreases-loop-tag
decreases-loop-tag g l = length l.walk
