-- Threads without a next line: their turns change nothing.
use Rattle.std.proofs.Common.{◌≡◌, ℕ, List, Some, None, refl, sym, ap, ◌∙◌}
use Rattle.std.proofs.lemmas.Option.{none-some}
use Rattle.pk_model.specs.Modelling.{Modelling}
use Rattle.script_text.specs.declared.script.ScriptLine.{ScriptLine}
use Rattle.script_thread.specs.Thread.{ThreadState}
use Rattle.serial_run.specs.Serial.{RunState, lines_at, next_line, rounds, thread_at, turn, turns}
use Rattle.serial_run.proofs.Turning.{rounds_keep, turn_cases, turns_keep}

-- no thread has a next line
abbrev pub NoneNext : List (List ScriptLine) → RunState → Type 0
NoneNext lines r =
    (t : ℕ) (s : ThreadState) → thread_at r.threads t ≡ Some s → next_line (lines_at lines t) s ≡ None

-- a turn of a thread that is not there, or that has no next line, changes nothing
pub idle_turn : (K : Modelling) (lines : List (List ScriptLine)) (r : RunState) (t : ℕ) → ((s : ThreadState) → thread_at r.threads t ≡ Some s → next_line (lines_at lines t) s ≡ None) → turn K lines r t ≡ r
idle_turn K lines r t none = turn_cases K lines r t (λ x. x ≡ r) refl (λ s line c is next obeys. absurd (none-some line (sym (none s is) ∙ next)))

-- where none has a next line, turns change nothing
pub idle_turns : (K : Modelling) (lines : List (List ScriptLine)) (r : RunState) (ts : List ℕ) → NoneNext lines r → turns K lines r ts ≡ r
idle_turns K lines r ts none = turns_keep K lines (λ x. x ≡ r) (λ x t same. ap (λ y. turn K lines y t) same ∙ idle_turn K lines r t (none t)) r ts refl

-- nor do rounds
pub idle_rounds : (K : Modelling) (lines : List (List ScriptLine)) (r : RunState) (k : ℕ) → NoneNext lines r → rounds K lines r k ≡ r
idle_rounds K lines r k none = rounds_keep K lines (λ x. x ≡ r) (λ x t same. ap (λ y. turn K lines y t) same ∙ idle_turn K lines r t (none t)) r k refl
