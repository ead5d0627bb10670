-- What standard error says of the end of a run.
use Rattle.std.specs.Prelude.{ℕ, List, ◌++◌, codes, Option, None, Some}
use Rattle.std.specs.Fmt.{decimal}
use Rattle.script_runner.specs.declared.run.Status.{Status}
use Rattle.script_runner.specs.declared.run.Status.TheVariants as status
use Rattle.script_text.specs.declared.script.Cause.{Cause}
use Rattle.script_text.specs.declared.script.Cause.TheVariants as cause

-- the name of a cause
abbrev pub name_of : Cause → List ℕ
name_of cause.TooManyLines = codes "TooManyLines"
name_of cause.LongLine = codes "LongLine"
name_of cause.BadByte = codes "BadByte"
name_of cause.NoSession = codes "NoSession"
name_of cause.NoThread = codes "NoThread"
name_of cause.TooManyThreads = codes "TooManyThreads"
name_of cause.Unended = codes "Unended"
name_of cause.UnknownCommand = codes "UnknownCommand"
name_of cause.WordCount = codes "WordCount"
name_of cause.BadNumber = codes "BadNumber"
name_of cause.BadName = codes "BadName"
name_of cause.BadSession = codes "BadSession"

-- the text of the line that says why there is no whole report, without its line break
abbrev pub text_of_line : Status → Option (List ℕ)
text_of_line status.Done = None
text_of_line status.SomeRefused = None
text_of_line status.BadWords = Some (codes "bad words")
text_of_line (status.BadScript line c) =
    Some (codes "bad script: line " ++ decimal line ++ codes ": " ++ name_of c)
text_of_line status.ReadFault = Some (codes "read fault")
text_of_line status.WriteFault = Some (codes "write fault")
text_of_line status.NoMemory = Some (codes "no memory")
text_of_line status.TooLong = Some (codes "too long")
