use Rattle.std.proofs.Common.{◌≡◌, ◌++◌}
use Rattle.std.specs.Array.Iter.{array_into_iter_items}
use Rattle.std.specs.List.{filter_map}
use Rattle.pk_command.specs.Operands.{with_tags}
use Rattle.pk_command.proofs.operands.with_tags.Given as goal

abbrev pub invariant-loop-field : goal.invariant-loop-field
invariant-loop-field l =
    l.made.items ++ with_tags (filter_map (λ o. o) (array_into_iter_items l.field-iterator)) l.left
    ≡ with_tags (filter_map (λ o. o) (array_into_iter_items l.initial.field-iterator)) l.initial.left
