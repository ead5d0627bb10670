use Rattle.std.proofs.Common.{◌≡◌, ◌-◌, [], drop, length}
use Rattle.script_text.specs.FieldWords.{corners_after}
use Rattle.script_text.specs.Reading.{words_now}
use Rattle.script_text.proofs.reading.fields.corners.Given as goal

abbrev pub invariant-loop-i : goal.invariant-loop-i
invariant-loop-i l =
    corners_after l.corners.items (words_now (drop l.i l.words)) ≡ corners_after [] (words_now l.words)

abbrev pub decreases-loop-i : goal.decreases-loop-i
decreases-loop-i l = length l.words - l.i
