-- What a run shows, by the clauses of `run_serial`.
use Rattle.std.specs.Prelude.{◌≡◌, ℕ, List, [], Option, Some, None, string_bytes}
use Rattle.modeller.specs.Euler.{euler}
use Rattle.pk_outside.specs.Outside.{Giving, Taking}
use Rattle.session_words.specs.Words.{AreReadable}
use Rattle.script_runner.specs.Headline.{HasCause, IsReported, IsSerial, WasRead, WasWritten}
use Rattle.script_runner.specs.Line.{text_of_line}
use Rattle.script_runner.specs.Statuses.{number_of_status}
use Rattle.script_runner.specs.declared.run.Outcome.{Outcome}
use Rattle.session_cases.specs.declared.shown.Shown.{Shown}

-- the bytes of a text that may be missing
abbrev pub or_nothing : Option (List ℕ) → List ℕ
or_nothing None = []
or_nothing (Some text) = text

-- The run of these words that ended so, from a source in memory with the bytes of the script to a
-- sink that holds nothing, each before and after.
pub record IsRunOf (words : List (List ℕ)) (script : List ℕ)
    (a a' : Giving) (b b' : Taking) (o : Outcome) : Type 0 where
  pub given : a.left ≡ script
  pub empty : b.held ≡ []
  pub read : WasRead (λ (s : Giving). Some s.left) (λ s. s.calls) (λ s. s.faults) a a' o.status
  pub report : IsReported euler (Some script) o.status o.report
  pub serial : IsSerial euler (Some script) o.report
  pub written :
      WasWritten (λ (s : Taking). Some s.held) (λ s. s.calls) (λ s. s.faults)
      b b' o.status o.report
  pub cause :
      HasCause (AreReadable words) (Some script) a.faults a'.faults b.faults b'.faults o.status

-- What is shown of a run that ended so: its number, the line for standard error, and the bytes that
-- its sink holds.
pub record Shows (o : Outcome) (sink : Taking) (shown : Shown) : Type 0 where
  pub number : shown.number ≡ number_of_status o.status
  pub message : string_bytes shown.message ≡ or_nothing (text_of_line o.status)
  pub written : string_bytes shown.written ≡ sink.held

-- what is shown is that of a run of these words over the script
abbrev pub ShowsARun : List (List ℕ) → List ℕ → Shown → Type 0
ShowsARun words script shown =
    (a : Giving) × (a' : Giving) × (b : Taking) × (b' : Taking) × (o : Outcome)
    × IsRunOf words script a a' b b' o × Shows o b' shown
