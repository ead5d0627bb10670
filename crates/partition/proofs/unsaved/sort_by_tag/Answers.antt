use Rattle.std.proofs.Common.{rules}
use Rattle.std.proofs.lemmas.List.Sorted.{IsNonDecreasingBy-from_sort, answers_always}
use Rattle.entity_store.specs.declared.changes.Change.{Change}
use Rattle.partition.proofs.unsaved.sort_by_tag.Goals as goal

pub returns-clause-ascending : goal.returns-clause-ascending
returns-clause-ascending c =
    IsNonDecreasingBy-from_sort (λ (x : Change). x.tag.0) _ (c.sort_unstable_by_key.ensures.sorted (λ (x : Change). x.tag.0) (answers_always _ _ _ (λ f a r g h. search rules)))
