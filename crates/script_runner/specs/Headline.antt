-- What a run promises, in parts: what was read, the report, what was written, and the cause of each
-- status. A source and a sink are seen by what they tell.
use Rattle.std.specs.Prelude.{◌≡◌, ◌⊎◌, ◌↔◌, ℕ, ◌+◌, ◌≤◌, nat_lt, List, length, take, Option, None, IfSome, IsSome, MatchBool, MatchResult, IsOk, IsOkAnd, Result, Ok, Err, ⊤}
use Rattle.pk_model.specs.Modelling.{Modelling}
use Rattle.pk_model.specs.Apart.{Apart}
use Rattle.pk_outside.specs.Outside.{Took, IsAtEnd, Grows, HasFailed}
use Rattle.pk_outside.specs.declared.transfer.TheConstants.{MOST_INPUT}
use Rattle.script_text.specs.Form.{script_of}
use Rattle.script_text.specs.LegalReport.{HasLegalJournals, LegalReport}
use Rattle.script_text.specs.Text.{text_of}
use Rattle.script_text.specs.declared.report.Report.{Report}
use Rattle.script_text.specs.declared.reading.fault.ScriptNo.{ScriptNo}
use Rattle.script_text.specs.declared.reading.fault.ScriptNo.TheVariants.{Bad, NoMemory as OutOfMemory}
use Rattle.serial_run.specs.Serial.{serial}
use Rattle.script_runner.specs.Statuses.{HasRun, IsFinished, IsJudged, status_of}
use Rattle.script_runner.specs.declared.run.Status.{Status}
use Rattle.script_runner.specs.declared.run.Status.TheVariants as status

-- ---- scripts and reports

-- whatever the script was, the journals are legal and no tag names two entities
pub record IsLawful (K : Modelling) (r : Report) : Type 0 where
  pub journals : HasLegalJournals K r
  pub apart : Apart K r.journals

-- the bytes are a script, and the report is a legal one of it
abbrev pub IsReportOf : Modelling → List ℕ → Report → Type 0
IsReportOf K bytes r = IsOkAnd (script_of bytes) (λ script. LegalReport K script r)

-- the bytes are a script, and the report is the one that turns of its threads give
abbrev pub IsSerialReportOf : Modelling → List ℕ → Report → Type 0
IsSerialReportOf K bytes r = IsOkAnd (script_of bytes) (λ script. r ≡ serial K script)

-- How a run over these bytes ends, where no read fails and memory suffices: too long; no script,
-- from this line on and for this cause; or run.
abbrev pub EndsFor : List ℕ → Status → Type 0
EndsFor bytes ending =
    MatchBool (nat_lt MOST_INPUT (length bytes)) (ending ≡ status.TooLong)
    (MatchResult (script_of bytes) (λ script. HasRun ending)
    (λ bad. ending ≡ status.BadScript bad.line bad.cause))

-- the error names the line and the cause for which the bytes are no script, or memory ran out
abbrev pub IsRefusedFor : List ℕ → ScriptNo → Type 0
IsRefusedFor bytes (Bad line cause) = script_of bytes ≡ Err (record { line = line; cause = cause })
IsRefusedFor bytes OutOfMemory = ⊤

-- what is made of the bytes: something where they are a script, or why they are none
abbrev pub JudgesAs : {A : Type 0} → List ℕ → Result A ScriptNo → Type 0
JudgesAs bytes (Ok made) = IsOk (script_of bytes)
JudgesAs bytes (Err e) = IsRefusedFor bytes e

-- ---- the parts

-- What was read, of a source that tells these: the bytes that are left, its calls and its faults.
pub record WasRead {A : Type 0} (left : A → Option (List ℕ)) (calls faults : A → ℕ)
    (old new : A) (ending : Status) : Type 0 where
  -- to the end, where the bytes were judged; and then no more than there may be
  pub read : IsJudged ending → IsAtEnd (left new)
  pub within : IsJudged ending → Took (λ n. n ≤ MOST_INPUT) (left old) (left new)
  -- up to the first byte that is too many, or the first read that failed; nothing after wrong words
  pub too_long : ending ≡ status.TooLong → Took (λ n. n ≡ MOST_INPUT + 1) (left old) (left new)
  pub cut : ending ≡ status.ReadFault → Took (λ n. n ≤ MOST_INPUT) (left old) (left new)
  pub unread : ending ≡ status.BadWords → new ≡ old
  -- at most one call more than bytes came, and so at most one more than there may be bytes
  pub reads_by_bytes : Took (λ n. calls new ≤ calls old + (n + 1)) (left old) (left new)
  pub reads : calls new ≤ calls old + (MOST_INPUT + 1)
  pub reads_counted : faults old ≤ faults new

-- The report, over these bytes where the source told them.
pub record IsReported (K : Modelling) (bytes : Option (List ℕ)) (ending : Status)
    (made : Option Report) : Type 0 where
  pub report : IsSome made ↔ HasRun ending
  pub lawful : IfSome made (IsLawful K)
  pub legal : IfSome made (λ r. IfSome bytes (λ given. IsReportOf K given r))

-- The report is the serial one of these bytes, where the source told them. So it is a function of
-- them.
abbrev pub IsSerial : Modelling → Option (List ℕ) → Option Report → Type 0
IsSerial K bytes made =
    IfSome made (λ r. IfSome bytes (λ given. IsSerialReportOf K given r))

-- What was written, to a sink that tells these: the bytes that it holds, its calls and its faults.
pub record WasWritten {B : Type 0} (held : B → Option (List ℕ)) (calls faults : B → ℕ)
    (old new : B) (ending : Status) (report : Option Report) : Type 0 where
  -- the whole text, or a prefix of it where a write failed, or nothing where there is no report
  pub whole : IfSome report (λ r. ending ≡ status_of r → Grows (held old) (held new) (text_of r))
  pub prefix : IfSome report (λ r. (ending ≡ status_of r)
      ⊎ ((ending ≡ status.WriteFault) × ((n : ℕ) × (n ≤ length (text_of r))
      × Grows (held old) (held new) (take n (text_of r)))))
  pub nothing : report ≡ None → new ≡ old
  pub writes : IfSome report (λ r. calls new ≤ calls old + length (text_of r))
  pub writes_counted : faults old ≤ faults new

-- The cause of each status: the words, the bytes where the source told them, and the counts of
-- faults.
pub record HasCause (readable : Type 0) (bytes : Option (List ℕ)) (reads reads' writes writes' : ℕ)
    (ending : Status) : Type 0 where
  -- the words are not those of the program; with every other end they are, unless memory ran out
  pub bad_words : ending ≡ status.BadWords → ¬ readable
  pub good_words : ¬ (ending ≡ status.BadWords) → ¬ (ending ≡ status.NoMemory) → readable
  pub input : IfSome bytes (λ given. (ending ≡ status.BadWords)
      ⊎ ((ending ≡ status.NoMemory) ⊎ ((ending ≡ status.ReadFault) ⊎ EndsFor given ending)))
  -- a fault of reading comes with the first read that fails, and with no other end; so does one of
  -- writing
  pub read_fault : ending ≡ status.ReadFault → HasFailed reads reads'
  pub no_read_fault : ¬ (ending ≡ status.ReadFault) → reads' ≡ reads
  pub write_fault : ending ≡ status.WriteFault → HasFailed writes writes'
  pub no_write_fault : ¬ (ending ≡ status.WriteFault) → writes' ≡ writes
  -- where the words and the input are good and nothing fails, the report is written, unless memory
  -- runs out
  pub complete : readable → IfSome bytes (λ given. length given ≤ MOST_INPUT → IsOk (script_of given)
      → ¬ (HasFailed reads reads') → ¬ (HasFailed writes writes') → IsFinished ending)
