use Rattle.std.proofs.Common.{◌≡◌, ◌+◌, None}
use Rattle.std.specs.List.{AllByRecursion}
use Rattle.std.specs.FinMap.{get}
use Rattle.entity_store.specs.NextTags.{left}
use Rattle.law_uses.proofs.tests.store.are_free.Given as goal

-- all are free, where those are that are left
abbrev pub invariant-loop-taken : goal.invariant-loop-taken
invariant-loop-taken g l = record {
  blocks : l.tags.blocks ≡ l.fn.tags.blocks;
  used : l.tags.used ≡ l.fn.tags.used + l.taken;
  free : AllByRecursion (λ t. get l.store.state.map t ≡ None) (left l.tags) → AllByRecursion (λ t. get l.store.state.map t ≡ None) (left l.fn.tags);
}
