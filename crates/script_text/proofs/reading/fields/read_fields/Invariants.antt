use Rattle.std.proofs.Common.{◌≡◌, drop}
use Rattle.script_text.specs.FieldWords.{after_fields, spelled}
use Rattle.script_text.specs.Reading.{spelled_now, words_now}
use Rattle.script_text.proofs.reading.fields.read_fields.Given as goal

abbrev pub invariant-loop-kind : goal.invariant-loop-kind
invariant-loop-kind l =
    after_fields (drop l.kind-index l.kinds) (spelled_now l.spelled)
    ≡ spelled l.kinds (words_now l.fn.words)
