-- A walk over journals is the same walk over longer ones, which go on with entries of other threads.
use Rattle.std.proofs.Common.{◌≡◌, ℕ, zero, suc, ◌+◌, ◌-◌, ◌==◌, cond, List, [], ◌∷◌, ◌++◌, append-nil, get_or, Option, None, Some, refl, sym, ap, ap₂, subst, ◌∙◌}
use Rattle.std.specs.Prelude.{◌≢◌, slice_set}
use Rattle.std.specs.List.{AllByRecursion}
use Rattle.std.proofs.lemmas.Bool.{ne_eqb}
use Rattle.pk_base.specs.declared.act.Entry.{Entry}
use Rattle.pk_model.specs.State.{PartitionState, opening}
use Rattle.pk_model.specs.Modelling.{Modelling}
use Rattle.pk_model.specs.Step.{step, Stepped}
use Rattle.pk_model.specs.Replay.{AnsweredEntry, answered_entries, answered_entries_from, thread_of}
use Rattle.script_text.specs.Walk.{Walks, entries_of, walker_of}
use Rattle.script_text.specs.LegalReport.{IsTranscript}
use Rattle.script_text.specs.declared.script.ScriptLine.{ScriptLine}
use Rattle.script_text.specs.declared.report.Line.{Line}
use Rattle.script_thread.specs.Journals.{EachGoesOnWithout, GoesOnWithout, with_entries}
use Rattle.script_thread.proofs.Entries.{own, told_by}

-- none of these entries is of thread t
none_own : (K : Modelling) (t : ℕ) (s : PartitionState) (es : List Entry) → AllByRecursion (λ e. thread_of e ≢ t) es → own t (answered_entries_from K s es) ≡ []
none_own K t s [] others = refl
none_own K t s (e ∷ es) others =
    elim (step K s e) as (λ (o : Option Stepped). own t (told_by K s e es o) ≡ []) [
      | None ↦ refl
      | Some r ↦
          let rest = own t (answered_entries_from K r.state es) in
          ap (λ b. cond b (record { entry = e; before = s; answer = r.answer } ∷ rest) rest) (ne_eqb (thread_of e) t others.0)
          ∙ none_own K t r.state es others.1
    ]

-- those of thread t are the same with more of other threads behind them
same_own : (K : Modelling) (t : ℕ) (s : PartitionState) (es more : List Entry) → AllByRecursion (λ e. thread_of e ≢ t) more → own t (answered_entries_from K s (es ++ more)) ≡ own t (answered_entries_from K s es)
same_own K t s [] more others = none_own K t s more others
same_own K t s (e ∷ es) more others =
    elim (step K s e) as (λ (o : Option Stepped). own t (told_by K s e (es ++ more) o) ≡ own t (told_by K s e es o)) [
      | None ↦ refl
      | Some r ↦
          let x : AnsweredEntry = record { entry = e; before = s; answer = r.answer } in
          ap (λ xs. cond (thread_of e == t) (x ∷ xs) xs) (same_own K t r.state es more others)
    ]

-- The entries of thread t are the same in journals that go on with entries of other threads.
pub same_entries : (K : Modelling) (t p : ℕ) (earlier journals : List (List Entry)) → EachGoesOnWithout t earlier journals → entries_of K t p journals ≡ entries_of K t p earlier
same_entries K t p [] [] each = refl
same_entries K t p (e ∷ earlier) (j ∷ journals) each =
    let one : GoesOnWithout t e j = each.0 in
    let whole : j ≡ e ++ one.more = one.whole in
    ap₂ (λ x xs. x ∷ xs)
    (ap (λ k. own t (answered_entries K p k)) whole ∙ same_own K t (opening p) e one.more one.others)
    (same_entries K t (p + 1) earlier journals each.1)
same_entries K t p [] (j ∷ journals) each = absurd each
same_entries K t p (e ∷ earlier) [] each = absurd each

pub same_walker : (K : Modelling) (t : ℕ) (earlier journals : List (List Entry)) → EachGoesOnWithout t earlier journals → walker_of K t journals ≡ walker_of K t earlier
same_walker K t earlier journals each = λ i. record { held = []; names = []; left = same_entries K t 1 earlier journals each i }

pub same_transcript : (K : Modelling) (n t : ℕ) (earlier journals : List (List Entry)) (lines : List ScriptLine) (said : List Line) → EachGoesOnWithout t earlier journals → IsTranscript K n t earlier lines said → IsTranscript K n t journals lines said
same_transcript K n t earlier journals lines said each h = record {
  after = h.after;
  walked = subst (λ w. Walks K n t w lines said h.after) (sym (same_walker K t earlier journals each)) h.walked;
  all_taken = h.all_taken;
}

-- ---- journals that go on so

stays : (t : ℕ) (journals : List (List Entry)) → EachGoesOnWithout t journals journals
stays t [] = tt
stays t (j ∷ js) = (record { more = []; whole = sym (append-nil j); others = tt }, stays t js)

-- one journal goes on with entries of other threads, and all others stay
pub goes_on_at : (t : ℕ) (journals : List (List Entry)) (i : ℕ) (more : List Entry) → AllByRecursion (λ e. thread_of e ≢ t) more → EachGoesOnWithout t journals (slice_set journals i (get_or journals i [] ++ more))
goes_on_at t [] i more others = tt
goes_on_at t (j ∷ js) zero more others = (record { more = more; whole = refl; others = others }, stays t js)
goes_on_at t (j ∷ js) (suc i) more others = (record { more = []; whole = sym (append-nil j); others = tt }, goes_on_at t js i more others)

-- Entries of other threads change nothing for thread t.
pub walker_stays_by : (K : Modelling) (t p : ℕ) (journals : List (List Entry)) (more : List Entry) → AllByRecursion (λ e. thread_of e ≢ t) more → walker_of K t (with_entries journals p more) ≡ walker_of K t journals
walker_stays_by K t p journals more others = same_walker K t journals (with_entries journals p more) (goes_on_at t journals (p - 1) more others)
