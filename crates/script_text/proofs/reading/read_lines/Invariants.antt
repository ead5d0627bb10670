use Rattle.std.proofs.Common.{◌≡◌, ◌≤◌, length}
use Rattle.script_text.specs.Form.{script_of}
use Rattle.script_text.specs.Reading.{draft_now}
use Rattle.script_text.specs.declared.limits.TheConstants.{MOST_LINES}
use Rattle.script_text.proofs.ReadLines.{pieces, script_after}
use Rattle.script_text.proofs.reading.read_lines.Given as goal

abbrev pub invariant-loop-line : goal.invariant-loop-line
invariant-loop-line l =
    (l.number ≡ length l.yielded) × (l.number ≤ MOST_LINES)
    × (script_after l.number (draft_now l.draft) (pieces l.bytes) ≡ script_of l.bytes)
