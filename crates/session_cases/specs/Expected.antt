-- What the run of a case must show.
use Rattle.std.specs.Prelude.{◌≡◌, ◌↔◌, ◌⊎◌, ℕ, List, [], codes, string_bytes}
use Rattle.std.specs.Str.Iter.{HasSubslice}
use Rattle.session_cases.specs.declared.expected.Expected.{Expected}
use Rattle.session_cases.specs.declared.expected.Expected.TheVariants.{Report, Refusal}
use Rattle.session_cases.specs.declared.shown.Shown.{Shown}

-- the number with which a run ends that writes this report: 1 where it says that some line was
-- refused, and else 0
pub record IsNumberOfReport (report : List ℕ) (number : ℕ) : Type 0 where
  pub either : (number ≡ 0) ⊎ (number ≡ 1)
  pub refused : (number ≡ 1) ↔ HasSubslice report (codes " refused ")

-- the number with which the run must end
abbrev pub IsNumberExpected : Expected → ℕ → Type 0
IsNumberExpected (Report report) number = IsNumberOfReport (string_bytes report) number
IsNumberExpected (Refusal n message written) number = number ≡ n

-- what must be said on standard error
abbrev pub message_expected : Expected → List ℕ
message_expected (Report report) = []
message_expected (Refusal n message written) = string_bytes message

-- what must be written
abbrev pub written_expected : Expected → List ℕ
written_expected (Report report) = string_bytes report
written_expected (Refusal n message written) = string_bytes written

-- a run showed what it must
pub record IsAsExpected (e : Expected) (shown : Shown) : Type 0 where
  pub number : IsNumberExpected e shown.number
  pub message : string_bytes shown.message ≡ message_expected e
  pub written : string_bytes shown.written ≡ written_expected e
