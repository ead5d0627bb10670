use Rattle.std.proofs.Common.{◌+◌, ◌^◌, if◌then◌else◌, None, drop, get_or, option_and_then, Some, ap, sym, ◌∙◌, arith}
use Rattle.std.proofs.lemmas.List.{at_drop_more, at_drop_all}
use Rattle.std.proofs.lemmas.Bool.{lt-ltb}
use Rattle.script_text.proofs.Numbers.{digits_from, digits_from_step, digits_from_word}
use Rattle.script_text.proofs.reading.numbers.digits.Goals as goal

pub returns-in_err-value : goal.returns-in_err-value
returns-in_err-value c =
    let word = c.args.word.now in
    let i = c.loop-digit.digit-index in
    let v = c.loop-digit.value in
    let rest = drop (i + 1) word in
    let start = digits_from_word (2 ^ 64) word (sym c.is_empty.ensures ∙ c.if-is_empty.false) in
    let more = at_drop_more (digits_from (2 ^ 64) v) word i 0 (omega arith) in
    let step = digits_from_step (2 ^ 64) v (get_or word i 0) rest in
    let none = ap (option_and_then (λ x. digits_from (2 ^ 64) x rest)) (sym c.with_digit.ensures ∙ c.in_err-value.was) in
    c.from_residual.ensures ∙ sym (start ∙ sym c.loop-digit.invariant.goes_on ∙ more ∙ step ∙ none)

pub returns : goal.returns
returns c =
    let word = c.args.word.now in
    let start = digits_from_word (2 ^ 64) word (sym c.is_empty.ensures ∙ c.if-is_empty.false) in
    let all = at_drop_all (digits_from (2 ^ 64) c.loop-digit.value) word c.loop-digit.digit-index (omega arith) in
    let fits = ap (λ b. if b then Some c.loop-digit.value else None) (lt-ltb c.loop-digit.value (2 ^ 64) (omega arith)) in
    sym (start ∙ sym c.loop-digit.invariant.goes_on ∙ all ∙ fits)
