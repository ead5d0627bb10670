use Rattle.std.proofs.Common.{◌≡◌, ◌<◌, ◌^◌, drop}
use Rattle.script_text.proofs.Numbers.{digits_from}
use Rattle.script_text.proofs.reading.numbers.digits.Given as goal

abbrev pub invariant-loop-digit : goal.invariant-loop-digit
invariant-loop-digit l = record {
  fits : l.value < 2 ^ 64;
  goes_on : digits_from (2 ^ 64) l.value (drop l.digit-index l.word) ≡ digits_from (2 ^ 64) 0 l.word;
}
