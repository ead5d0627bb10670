use Rattle.std.proofs.Common.{◌≡◌, ◌+◌, true, nat_le, drop, slice_index_or, append_assoc, arith}
use Rattle.std.specs.List.{take_while}
use Rattle.std.proofs.lemmas.Bool.Decides.{nat_tests}
use Rattle.std.proofs.lemmas.List.{at_drop_more}
use Rattle.std.proofs.lemmas.List.Sums.{take_while-cons}
use Rattle.script_text.proofs.printing.fields.write_to_padding.Goals as goal

pub loop-b-preserved : goal.loop-b-preserved
loop-b-preserved c =
    let bytes = c.args.bytes.now in
    let i = c.loop-b.b-index in
    let b = slice_index_or bytes i 0 in
    let step = at_drop_more (take_while (λ b. nat_le 1 b)) bytes i 0 c.loop-b-test.true in
    let cell = take_while-cons (λ b. nat_le 1 b) b (drop (i + 1) bytes) in
    let used : nat_le 1 b ≡ true = grind (arith, nat_tests) in
    rw (c.in_ok-push_bytes.ensures, append_assoc) (rw (step, cell, used) at c.loop-b.invariant)
