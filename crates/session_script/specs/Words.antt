-- What it means that the program's words cannot be had.
use Rattle.std.specs.declared.io.ErrorKind.{ErrorKind}
use Rattle.std.specs.declared.io.ErrorKind.TheVariants.{OutOfMemory}
use Rattle.script_runner.specs.declared.run.Status.{Status}
use Rattle.script_runner.specs.declared.run.Status.TheVariants as status

-- how a run ends whose words could not be had, by the kind of the error
abbrev pub status_without_words : ErrorKind → Status
status_without_words OutOfMemory = status.NoMemory
status_without_words _ = status.BadWords
