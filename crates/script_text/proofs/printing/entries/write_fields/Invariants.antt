use Rattle.std.proofs.Common.{◌≡◌, ◌++◌, drop}
use Rattle.std.specs.List.{filter_map, flat_map}
use Rattle.script_text.specs.Text.{field_text}
use Rattle.script_text.proofs.printing.entries.write_fields.Given as goal

abbrev pub invariant-loop-field : goal.invariant-loop-field
invariant-loop-field l =
    l.out ++ flat_map field_text (filter_map (λ o. o) (drop l.field-index l.fields)) ≡ l.initial.out ++ flat_map field_text (filter_map (λ o. o) l.fields)
