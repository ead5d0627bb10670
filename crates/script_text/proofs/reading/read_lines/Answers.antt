use Rattle.std.proofs.Common.{rules, tests, ◌+◌, ◌==◌, Err, refl, ap, sym, subst, ◌∙◌, arith}
use Rattle.std.proofs.lemmas.Iterator.Consumers.{YieldsList-at, YieldsList-turn, YieldsList-end}
use Rattle.std.proofs.lemmas.Iterator.Splits.{YieldsList-from_slice_split}
use Rattle.std.proofs.lemmas.List.{length_push}
use Rattle.script_text.specs.Lines.{without_last}
use Rattle.script_text.specs.FieldWords.{◌>>=◌}
use Rattle.script_text.specs.Form.{at_line, finished}
use Rattle.script_text.specs.Reading.{draft_now, Reads}
use Rattle.script_text.proofs.ReadLines.{offends, pieces, script_after, script_end, script_of-none, script_of-pieces, script_turn}
use Rattle.script_text.proofs.reading.read_lines.Goals as goal

pub returns-then-is_empty : goal.returns-then-is_empty
returns-then-is_empty c =
    subst (Reads (λ s. s) c.finish.result)
    (ap (λ d. at_line 1 (finished d)) c.new-draft.ensures ∙ sym (script_of-none c.args.bytes.now (search rules)))
    c.finish.ensures

pub loop-line-init : goal.loop-line-init
loop-line-init c =
    (refl, omega arith, ap (λ d. script_after 0 d (pieces c.args.bytes.now)) c.new-draft.ensures ∙ sym (script_of-pieces c.args.bytes.now (search rules)))

pub returns-in_err-draft : goal.returns-in_err-draft
returns-in_err-draft c =
    let bytes = c.args.bytes.now in
    let n = c.loop-line.number in
    let d = draft_now c.loop-line.draft in
    let t = YieldsList-turn (YieldsList-at c.into_iter-line-iterator.ensures.into_iter_gives (YieldsList-from_slice_split _ (λ b. b == 10) (without_last 10 bytes) (c.split-line-items.ensures.rest ∙ c.without_last.ensures) c.split-line-items.ensures.done c.split-line-items.ensures.closure (λ x r q k. search (rules, tests)))) c.loop-line.yielded _ c.loop-line.yielded_by _ _ c.in-Some.line c.in-Some.is c.next.ensures.steps in
    let at = c.loop-line.invariant.0 in
    let turn = script_turn (pieces bytes) n c.in-Some.line.now d (rw at t.0) (rw at t.1) in
    let line = c.without_last-in-loop-line.ensures in
    let told = offends draft_now _ _ (λ a. script_after (n + 1) a (pieces bytes)) (rw line at c.in_err-draft.ensures.draft) in
    let whole = subst (Reads (λ s. s) (Err c.in_err-draft.field-0.0)) (sym turn ∙ c.loop-line.invariant.2) told in
    search (rules, whole)

pub loop-line-preserved : goal.loop-line-preserved
loop-line-preserved c =
    let bytes = c.args.bytes.now in
    let n = c.loop-line.number in
    let d = draft_now c.loop-line.draft in
    let t = YieldsList-turn (YieldsList-at c.into_iter-line-iterator.ensures.into_iter_gives (YieldsList-from_slice_split _ (λ b. b == 10) (without_last 10 bytes) (c.split-line-items.ensures.rest ∙ c.without_last.ensures) c.split-line-items.ensures.done c.split-line-items.ensures.closure (λ x r q k. search (rules, tests)))) c.loop-line.yielded _ c.loop-line.yielded_by _ _ c.in-Some.line c.in-Some.is c.next.ensures.steps in
    let at = c.loop-line.invariant.0 in
    let turn = script_turn (pieces bytes) n c.in-Some.line.now d (rw at t.0) (rw at t.1) in
    let line = c.without_last-in-loop-line.ensures in
    let read = rw line at c.in_ok-draft.ensures.draft in (
      ap (λ k. k + 1) at ∙ sym (length_push c.loop-line.yielded c.in-Some.line),
      c.in_ok-draft.ensures.within refl,
      sym (turn ∙ ap (λ r. r >>= λ a. script_after (n + 1) a (pieces bytes)) read) ∙ c.loop-line.invariant.2,
    )

pub returns : goal.returns
returns c =
    let bytes = c.args.bytes.now in
    let n = c.loop-line.number in
    let d = draft_now c.loop-line.draft in
    let t = YieldsList-end (YieldsList-at c.into_iter-line-iterator.ensures.into_iter_gives (YieldsList-from_slice_split _ (λ b. b == 10) (without_last 10 bytes) (c.split-line-items.ensures.rest ∙ c.without_last.ensures) c.split-line-items.ensures.done c.split-line-items.ensures.closure (λ x r q k. search (rules, tests)))) c.loop-line.yielded _ c.loop-line.yielded_by _ _ c.in-None.is c.next.ensures.steps in
    subst (Reads (λ s. s) c.finish-2.result)
    (sym (script_end (pieces bytes) n d (sym (c.loop-line.invariant.0 ∙ t.1))) ∙ c.loop-line.invariant.2)
    c.finish-2.ensures
