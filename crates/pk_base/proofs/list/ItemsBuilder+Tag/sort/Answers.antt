use Rattle.std.proofs.Common.{rules}
use Rattle.std.proofs.lemmas.List.Sorted.{IsNonDecreasingBy-from_sort, answers_always}
use Rattle.pk_base.specs.declared.tag.Tag.{Tag}
use Rattle.pk_base.proofs.list.ItemsBuilder+Tag.sort.Goals as goal

pub returns-clause-ascending : goal.returns-clause-ascending
returns-clause-ascending c =
    IsNonDecreasingBy-from_sort (λ (t : Tag). t.0) _ (c.sort_unstable_by_key.ensures.sorted (λ (t : Tag). t.0) (answers_always _ _ _ (λ f a r g h. search rules)))
