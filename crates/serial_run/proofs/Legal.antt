-- The serial report is a legal report of its script.
use Rattle.std.proofs.Common.{◌≡◌, ℕ, zero, suc, ◌+◌, ◌-◌, ◌≤◌, true, List, [], ◌∷◌, length, get_or, map, Option, None, Some, refl, sym, ap, subst, ◌∙◌, cond, arith}
use Rattle.std.specs.Prelude.{replicate, slice_get}
use Rattle.std.specs.List.{AllByRecursion}
use Rattle.std.proofs.lemmas.Bool.{false≢true, le-leb}
use Rattle.std.proofs.lemmas.List.{length-map, take_all}
use Rattle.pk_base.specs.declared.act.Entry.{Entry}
use Rattle.pk_model.specs.Modelling.{Modelling, IsModeller}
use Rattle.pk_model.specs.Replay.{AnsweredEntry}
use Rattle.pk_model.specs.Apart.{Apart}
use Rattle.pk_model.proofs.Sessions.{counted_apart}
use Rattle.world_core.specs.World.{WorldState, partition_at}
use Rattle.world_core.specs.Session.{IsSession, journals_of}
use Rattle.world_core.proofs.Sessions.{counted, each_replays}
use Rattle.script_text.specs.Walk.{Walks, is_held, walker_of}
use Rattle.script_text.specs.LegalReport.{EachTranscript, IsTranscript, LegalJournals, LegalReport}
use Rattle.script_text.specs.declared.script.Script.{Script}
use Rattle.script_text.specs.declared.script.ScriptLine.{ScriptLine}
use Rattle.script_thread.specs.Thread.{ThreadState}
use Rattle.serial_run.specs.Serial.{RunState, line_count, lines_at, report_of, run_begins, run_of, serial, thread_at, turn, turns}
use Rattle.script_thread.specs.WellFormed.{IsWellFormed}
use Rattle.serial_run.specs.Ends.{HaveEnded}
use Rattle.serial_run.proofs.Turning.{rounds_keep, turns_keep}
use Rattle.serial_run.proofs.Ends.{run_ends}
use Rattle.serial_run.proofs.Owned.{IsOwned, IsRunning, IsTelling, begins_running, turn_running}
use Rattle.serial_run.specs.Reached.{IsReached}
use Rattle.serial_run.proofs.Journals.{AllFree, legal_journals}
use Rattle.script_thread.specs.Walked.{at_rest}
use Rattle.serial_run.proofs.Telling.{IsTold, Told, begins_told, turn_keeps_told}

-- ---- the transcripts

all_none : (n : ℕ) → AllByRecursion (λ left. left ≡ []) (replicate {A = List AnsweredEntry} n [])
all_none zero = tt
all_none (suc n) = (refl, all_none n)

-- a thread that was told all its lines has their transcript
transcript_of : (K : Modelling) (n t : ℕ) (lines : List ScriptLine) (w : WorldState) (s : ThreadState) → Told K n t lines w s → length lines ≤ length s.said → IsTranscript K n t (journals_of w) lines s.said
transcript_of K n t lines w s h ended = record {
  after = at_rest n s.held h.walked.bound;
  walked = subst (λ ls. Walks K n t (walker_of K t (journals_of w)) ls s.said (at_rest n s.held h.walked.bound)) (take_all (length s.said) lines ended) h.walked.walked;
  all_taken = all_none n;
}

-- the transcripts of the threads t, t + 1 and so on
each_transcript : (K : Modelling) (n t : ℕ) (journals : List (List Entry)) (threads : List (List ScriptLine)) (states : List ThreadState) → length states ≡ length threads → ((i : ℕ) (s : ThreadState) → slice_get states i ≡ Some s → IsTranscript K n (t + i) journals (get_or threads i []) s.said) → EachTranscript K n t journals threads (map (λ (s : ThreadState). s.said) states)
each_transcript K n t journals [] [] count each = tt
each_transcript K n t journals (lines ∷ threads) (s ∷ states) count each =
    let here : t + 0 ≡ t = omega arith in (
      subst (λ u. IsTranscript K n u journals lines s.said) here (each 0 s refl),
      each_transcript K n (t + 1) journals threads states (omega (arith, count)) (λ i x h.
          let next : t + suc i ≡ (t + 1) + i = omega arith in
          subst (λ u. IsTranscript K n u journals (get_or threads i []) x.said) next (each (suc i) x h)),
    )
each_transcript K n t journals [] (s ∷ states) count each = absurd (omega (arith, count))
each_transcript K n t journals (lines ∷ threads) [] count each = absurd (omega (arith, count))

-- ---- the report

-- every thread was told all its lines
abbrev pub AllEnded : Script → RunState → Type 0
AllEnded script r = (t : ℕ) (s : ThreadState) → thread_at r.threads t ≡ Some s → length (lines_at script.threads t) ≤ length s.said

-- The report of a run whose threads have ended, and whose partitions are free, is legal.
pub report_legal : (K : Modelling) (script : Script) (r : RunState) → IsReached K script r → IsTold K script r → AllEnded script r → AllFree r.world → LegalReport K script (report_of script.n script.last r)
report_legal K script r reached is_told ended free =
    let T = length script.threads in
    let w = r.world in
    let said = map (λ (s : ThreadState). s.said) r.threads in
    let count : T ≡ length said = sym (length-map r.threads (λ (s : ThreadState). s.said) ∙ reached.count) in
    let journals : LegalJournals K script.n script.last (length said) (journals_of w) =
    subst (λ n. LegalJournals K n script.last (length said) (journals_of w)) reached.partitions
    (subst (λ last. LegalJournals K (length w.partitions) last (length said) (journals_of w)) reached.last
    (subst (λ m. LegalJournals K (length w.partitions) w.blocks.last m (journals_of w)) count (legal_journals K w T reached.session is_told.entries free))) in
    record {
      n = refl;
      last = refl;
      journals = journals;
      transcripts = each_transcript K script.n 1 (journals_of w) script.threads r.threads reached.count (λ i s h.
          let place : (1 + i) - 1 ≡ i = omega arith in
          let at : thread_at r.threads (1 + i) ≡ Some s = ap (λ b. cond b (slice_get r.threads ((1 + i) - 1)) None) (le-leb 1 (1 + i) (omega arith)) ∙ ap (slice_get r.threads) place ∙ h in
          subst (λ ls. IsTranscript K script.n (1 + i) (journals_of w) ls s.said) (ap (λ j. get_or script.threads j []) place) (transcript_of K script.n (1 + i) (lines_at script.threads (1 + i)) w s (is_told.each (1 + i) s at) (ended (1 + i) s at)));
    }

-- ---- the serial run

-- whoever holds a partition is a thread that has not ended
free_at_end : (script : Script) (r : RunState) → IsOwned r → IsTelling script.threads r → HaveEnded script.threads r → AllFree r.world
free_at_end script r owned telling ended p first last = by_holder (partition_at r.world p).state.holder refl
  where
    by_holder : (o : Option ℕ) → (partition_at r.world p).state.holder ≡ o → (partition_at r.world p).state.holder ≡ None
    by_holder None is = is
    by_holder (Some t) is =
        let o = owned.owner t p (record { first = first; last = last; holder = is }) in
        let none = telling.ended t o.state o.is (ended t o.state o.is) in
        absurd (false≢true (subst (λ held. is_held held p ≡ true) none o.held))

-- what holds between any two turns
record Running (K : Modelling) (script : Script) (r : RunState) : Type 0 where
  running : IsRunning K script r
  is_told : IsTold K script r

turn_runs : (K : Modelling) (script : Script) → IsModeller K → IsWellFormed script → (r : RunState) (t : ℕ) → Running K script r → Running K script (turn K script.threads r t)
turn_runs K script good formed r t h = record {
  running = turn_running K script r t good formed h.running;
  is_told = turn_keeps_told K good script r h.running.reached h.running.ascending.ascends h.is_told t;
}

run_runs : (K : Modelling) (script : Script) → IsModeller K → IsWellFormed script → Running K script (run_of K script)
run_runs K script good formed =
    let keep = turn_runs K script good formed in
    let begun : Running K script (run_begins script) = record { running = begins_running K script good formed; is_told = begins_told K script } in
    rounds_keep K script.threads (Running K script) keep (turns K script.threads (run_begins script) script.schedule) (line_count script.threads)
    (turns_keep K script.threads (Running K script) keep (run_begins script) script.schedule begun)

-- The serial report of a well formed script is legal.
pub serial_legal : (K : Modelling) → IsModeller K → (script : Script) → IsWellFormed script → LegalReport K script (serial K script)
serial_legal K good script formed =
    let r = run_of K script in
    let h = run_runs K script good formed in
    let ended = run_ends K script good formed in
    report_legal K script r h.running.reached h.is_told (λ t s at. let all = ended t s at in omega (arith, all)) (free_at_end script r h.running.owned h.running.telling ended)

-- ---- no tag names two entities

-- the journals of a session are apart
pub world_apart : (K : Modelling) → IsModeller K → (w : WorldState) → IsSession K w → Apart K (journals_of w)
world_apart K good w session = counted_apart K good (w.blocks.next - (length w.partitions + 1)) (journals_of w) (each_replays K 1 w.partitions session.replays) (counted K w session)

-- so are those of the serial report
pub serial_apart : (K : Modelling) → IsModeller K → (script : Script) → IsWellFormed script → Apart K (serial K script).journals
serial_apart K good script formed = world_apart K good (run_of K script).world (run_runs K script good formed).running.reached.session
