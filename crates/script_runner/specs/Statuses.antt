-- How a run may end.
use Rattle.std.specs.Prelude.{ℕ, Bool, true, false, ⊤}
use Rattle.std.specs.List.{list_any}
use Rattle.script_text.specs.declared.report.Report.{Report}
use Rattle.script_text.specs.declared.report.Line.{Line}
use Rattle.script_text.specs.declared.report.LineSaid.{LineSaid}
use Rattle.script_text.specs.declared.report.LineSaid.TheVariants.{Locked, Unlocked, Ended, Answer, Refused}
use Rattle.pk_outside.specs.declared.transfer.ReadNo.{ReadNo}
use Rattle.pk_outside.specs.declared.transfer.ReadNo.TheVariants as no
use Rattle.session_words.specs.declared.reading.WordsNo.{WordsNo}
use Rattle.session_words.specs.declared.reading.WordsNo.TheVariants as words
use Rattle.script_runner.specs.declared.run.Status.{Status}
use Rattle.script_runner.specs.declared.run.Status.TheVariants as status

-- the number of a status, with which the program ends
abbrev pub number_of_status : Status → ℕ
number_of_status status.Done = 0
number_of_status status.SomeRefused = 1
number_of_status status.BadWords = 2
number_of_status (status.BadScript line cause) = 3
number_of_status status.ReadFault = 4
number_of_status status.WriteFault = 5
number_of_status status.NoMemory = 6
number_of_status status.TooLong = 7

abbrev pub status_of_no : ReadNo → Status
status_of_no no.TooLong = status.TooLong
status_of_no no.Fault = status.ReadFault
status_of_no no.NoMemory = status.NoMemory

abbrev pub status_of_words : WordsNo → Status
status_of_words words.Bad = status.BadWords
status_of_words words.NoMemory = status.NoMemory

abbrev pub is_refused : LineSaid → Bool
is_refused (Refused e) = true
is_refused Locked = false
is_refused Unlocked = false
is_refused (Ended parts) = false
is_refused (Answer r) = false

-- some line of a transcript is a refusal
abbrev pub has_refused : Report → Bool
has_refused r = list_any (λ said. list_any (λ (l : Line). is_refused l.said) said) r.threads

-- how a run ends whose text was written whole
abbrev pub status_of : Report → Status
status_of r = elim (has_refused r) [ true ↦ status.SomeRefused | false ↦ status.Done ]

-- the run has a report
abbrev pub HasRun : Status → Type 0
HasRun status.Done = ⊤
HasRun status.SomeRefused = ⊤
HasRun status.WriteFault = ⊤
HasRun status.BadWords = ⊥
HasRun (status.BadScript line cause) = ⊥
HasRun status.ReadFault = ⊥
HasRun status.NoMemory = ⊥
HasRun status.TooLong = ⊥

-- the run judged the bytes as a script, for which it read all of them
abbrev pub IsJudged : Status → Type 0
IsJudged status.Done = ⊤
IsJudged status.SomeRefused = ⊤
IsJudged status.WriteFault = ⊤
IsJudged (status.BadScript line cause) = ⊤
IsJudged status.BadWords = ⊥
IsJudged status.ReadFault = ⊥
IsJudged status.NoMemory = ⊥
IsJudged status.TooLong = ⊥

-- the run wrote its whole report, or memory ran out
abbrev pub IsFinished : Status → Type 0
IsFinished status.Done = ⊤
IsFinished status.SomeRefused = ⊤
IsFinished status.NoMemory = ⊤
IsFinished status.BadWords = ⊥
IsFinished (status.BadScript line cause) = ⊥
IsFinished status.ReadFault = ⊥
IsFinished status.WriteFault = ⊥
IsFinished status.TooLong = ⊥
