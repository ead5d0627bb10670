use Rattle.std.proofs.Common.{◌≡◌, [], drop}
use Rattle.script_text.specs.Form.{turns_after}
use Rattle.script_text.specs.Reading.{words_now}
use Rattle.script_text.proofs.reading.draft.turns.Given as goal

abbrev pub invariant-loop-word : goal.invariant-loop-word
invariant-loop-word l =
    turns_after l.turns.items (words_now (drop l.word-index l.words)) ≡ turns_after [] (words_now l.words)
