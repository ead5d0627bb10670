use Rattle.std.proofs.Common.{◌≡◌, map, take, string_bytes}
use Rattle.session_words.specs.Words.{with_name}
use Rattle.session_words.proofs.reading.with_name.Given as goal

abbrev pub invariant-loop-word : goal.invariant-loop-word
invariant-loop-word l = map (λ word. word.now) l.all.items ≡ with_name (map string_bytes (take l.word-index l.words))
