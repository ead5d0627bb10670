use Rattle.std.proofs.Common.{◌≡◌, ◌++◌, nat_le, drop}
use Rattle.std.specs.List.{take_while}
use Rattle.script_text.proofs.printing.fields.write_to_padding.Given as goal

abbrev pub invariant-loop-b : goal.invariant-loop-b
invariant-loop-b l =
    l.out ++ take_while (λ b. nat_le 1 b) (drop l.b-index l.bytes) ≡ l.initial.out ++ take_while (λ b. nat_le 1 b) l.bytes
