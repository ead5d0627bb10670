use Rattle.std.proofs.Common.{◌≡◌, ◌+◌, length}
use Rattle.std.specs.Prelude.{filter}
use Rattle.views.specs.Kids.{is_given}
use Rattle.views.proofs.kids.next_given.Given as goal

-- none of those that were passed is given
abbrev pub invariant-loop-tag : goal.invariant-loop-tag
invariant-loop-tag g l = record {
  given : filter (is_given l.fn.class l.fn.but) l.initial.walk ≡ filter (is_given l.fn.class l.fn.but) l.walk;
  cost : l.steps + length l.walk ≡ l.initial.steps + length l.initial.walk;
}

abbrev pub decreases-loop-tag : goal.decreases-loop-tag
decreases-loop-tag g l = length l.walk
