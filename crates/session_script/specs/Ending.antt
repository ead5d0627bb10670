-- What a run of the program did, as its words, its source and its sink tell.
use Rattle.std.specs.Prelude.{◌≡◌, ℕ, ◌⊎◌, List, Option}
use Rattle.modeller.specs.Euler.{euler}
use Rattle.session_words.specs.Words.{AreReadable}
use Rattle.script_runner.specs.Headline.{HasCause, IsReported, IsSerial, WasRead, WasWritten}
use Rattle.script_runner.specs.Statuses.{number_of_status}
use Rattle.script_runner.specs.declared.run.Outcome.{Outcome}
use Rattle.script_runner.specs.declared.run.Status.{Status}
use Rattle.script_runner.specs.declared.run.Status.TheVariants as status

-- A run of these words, over a source and a sink that were so and now are so: the parts that
-- `run_serial` promises.
pub record IsRun {A B : Type 0}
    (left : A → Option (List ℕ)) (reads read_faults : A → ℕ)
    (held : B → Option (List ℕ)) (writes write_faults : B → ℕ)
    (words : List (List ℕ)) (a a' : A) (b b' : B) (o : Outcome) : Type 0 where
  pub read : WasRead left reads read_faults a a' o.status
  pub report : IsReported euler (left a) o.status o.report
  pub serial : IsSerial euler (left a) o.report
  pub written : WasWritten held writes write_faults b b' o.status o.report
  pub cause :
      HasCause (AreReadable words) (left a)
      (read_faults a) (read_faults a') (write_faults b) (write_faults b') o.status

-- The program ended with this number: it ran some words, or it could not have its words and did
-- nothing.
abbrev pub EndsWith : {A B : Type 0} →
    (A → Option (List ℕ)) → (reads read_faults : A → ℕ) →
    (B → Option (List ℕ)) → (writes write_faults : B → ℕ) →
    (a a' : A) → (b b' : B) → ℕ → Type 0
EndsWith left reads read_faults held writes write_faults a a' b b' number =
    ((words : List (List ℕ)) × (o : Outcome) × (number ≡ number_of_status o.status)
    × IsRun left reads read_faults held writes write_faults words a a' b b' o)
    ⊎ ((end : Status) × (number ≡ number_of_status end)
    × ((end ≡ status.BadWords) ⊎ (end ≡ status.NoMemory))
    × (a' ≡ a) × (b' ≡ b))
