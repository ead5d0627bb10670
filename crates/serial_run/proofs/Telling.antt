-- What every turn keeps of what the threads were told and of the entries that they made.
use Rattle.std.proofs.Common.{◌≡◌, ℕ, zero, suc, ◌+◌, ◌≤◌, ⊎_elim, List, [], ◌∷◌, ◌++◌, length, map, take, Some, refl, sym, ap, subst, ◌∙◌, arith}
use Rattle.std.specs.Prelude.{◌≢◌, replicate, slice_get}
use Rattle.std.specs.List.{AllByRecursion, range_with_len}
use Rattle.std.proofs.lemmas.List.{length_push, take_more}
use Rattle.std.proofs.lemmas.Option.{get_or_from_slice_get, slice_get_within}
use Rattle.pk_base.specs.declared.act.Entry.{Entry}
use Rattle.pk_model.specs.Modelling.{Modelling, IsModeller}
use Rattle.pk_model.specs.Tags.{Ascends}
use Rattle.world_core.specs.Event.{partition_of}
use Rattle.world_core.specs.World.{WorldPartition, WorldState, opened}
use Rattle.world_core.specs.Session.{journals_of}
use Rattle.script_text.specs.Walk.{Walks, entries_of, walker_of}
use Rattle.script_text.specs.declared.script.Script.{Script}
use Rattle.script_text.specs.declared.script.ScriptLine.{ScriptLine}
use Rattle.script_text.specs.declared.report.Line.{Line}
use Rattle.script_thread.specs.Thread.{ThreadState, fresh_thread}
use Rattle.serial_run.specs.Serial.{Carried, RunState, goes_on, lines_at, next_line, obey, run_begins, thread_at, told, turn}
use Rattle.serial_run.specs.Reached.{IsReached}
use Rattle.serial_run.proofs.Threads.{goes_on-threads, thread_at-replicate, thread_at-within}
use Rattle.serial_run.proofs.Turning.{turn_cases}
use Rattle.serial_run.proofs.Walkers.{walker_stays}
use Rattle.serial_run.proofs.Kept.{EventsKeep, obey_keeps}
use Rattle.serial_run.proofs.Journals.{AreEntries, entries_keep}
use Rattle.script_thread.specs.Walked.{IsWalked, at_rest}
use Rattle.serial_run.proofs.Told.{order_walked}

-- What thread t was told is what the first of these lines say, as many as were told, over the journals of a world.
pub record Told (K : Modelling) (n t : ℕ) (lines : List ScriptLine) (w : WorldState) (s : ThreadState) : Type 0 where
  pub count : length s.said ≤ length lines
  pub walked : IsWalked K n t (journals_of w) (take (length s.said) lines) s

-- each thread's lines are, and the entries are those of the script's threads
pub record IsTold (K : Modelling) (script : Script) (r : RunState) : Type 0 where
  pub each : (t : ℕ) (s : ThreadState) → thread_at r.threads t ≡ Some s → Told K script.n t (lines_at script.threads t) r.world s
  pub entries : AreEntries (length script.threads) r.world

-- what each thread holds ascends
abbrev pub EachAscends : RunState → Type 0
EachAscends r = (t : ℕ) (s : ThreadState) → thread_at r.threads t ≡ Some s → Ascends s.held

-- ---- the beginning

no_entries : (K : Modelling) (t p n : ℕ) → entries_of K t p (map (λ (q : WorldPartition). q.journal) (map opened (range_with_len p n))) ≡ replicate n []
no_entries K t p zero = refl
no_entries K t p (suc n) = ap (λ l. [] ∷ l) (no_entries K t (p + 1) n)

empty_journals : (P : Entry → Type 0) (p n : ℕ) → AllByRecursion (λ (q : WorldPartition). AllByRecursion P q.journal) (map opened (range_with_len p n))
empty_journals P p zero = tt
empty_journals P p (suc n) = (tt, empty_journals P (p + 1) n)

pub begins_told : (K : Modelling) (script : Script) → IsTold K script (run_begins script)
begins_told K script = record {
  each = λ t s h.
      let is = sym (thread_at-replicate (length script.threads) t fresh_thread s h) in
      subst (Told K script.n t (lines_at script.threads t) (run_begins script).world) is (record {
        count = omega arith;
        walked = record {
          bound = [];
          walked = λ i. record { held = []; names = []; left = sym (no_entries K t 1 script.n) i };
          same = λ name. refl;
        };
      });
  entries = empty_journals _ 1 script.n;
}

-- ---- a turn

-- the lines up to this one
lines_more : (lines : List ScriptLine) (k : ℕ) (line : ScriptLine) → slice_get lines k ≡ Some line → take (k + 1) lines ≡ take k lines ++ line ∷ []
lines_more lines k line h = take_more lines k line (slice_get_within lines k line h) ∙ ap (λ l. take k lines ++ l ∷ []) (get_or_from_slice_get lines k line line h)

module _ (K : Modelling) (good : IsModeller K) (script : Script) (r : RunState) (reached : IsReached K script r) (ascends : EachAscends r) (is_told : IsTold K script r) where
  abbrev T : ℕ
  T = length script.threads

  module _ (t : ℕ) (s : ThreadState) (at : thread_at r.threads t ≡ Some s) (line : ScriptLine) (next : next_line (lines_at script.threads t) s ≡ Some line) (c : Carried) (does : obey K t r.world s line.order ≡ Some c) where
    abbrev lines : List ScriptLine
    lines = lines_at script.threads t

    abbrev line_said : Line
    line_said = record { number = line.number; said = c.said }

    abbrev new : ThreadState
    new = told s line.number c

    first : 1 ≤ t
    first = (thread_at-within r.threads t s at).0

    last : t ≤ length r.threads
    last = (thread_at-within r.threads t s at).1

    -- the thread itself is told one line more
    own_told : Told K script.n t lines c.world new
    own_told =
        let before = is_told.each t s at in
        let k = length s.said in
        let one = length_push s.said line_said in
        let in' = slice_get_within lines k line next in
        let o = order_walked K good script.n t (take k lines) r.world s reached.session reached.partitions before.walked line.number line.order c (reached.held t s at) (ascends t s at) does in
        record {
          count = omega (arith, one, in');
          walked = subst (λ ls. IsWalked K script.n t (journals_of c.world) ls new) (sym (ap (λ m. take m lines) one ∙ lines_more lines k line next)) o;
        }

    -- another thread's entries are as they were
    stays_walker : (u : ℕ) → u ≢ t → walker_of K u (journals_of c.world) ≡ walker_of K u (journals_of r.world)
    stays_walker u other = obey_keeps K good t (λ w. walker_of K u (journals_of w) ≡ walker_of K u (journals_of r.world)) keeps r.world s reached.session (reached.held t s at) (ascends t s at) refl line.order c does
      where
        keeps : EventsKeep K t (λ w. walker_of K u (journals_of w) ≡ walker_of K u (journals_of r.world))
        keeps w v e x ev h =
            let thread = ev.thread in
            ap (λ (z : WorldState). walker_of K u (journals_of z)) ev.done.after
            ∙ walker_stays K u w (partition_of v) e x.state (λ q. other (sym q ∙ thread))
            ∙ h

    other_told : (u : ℕ) (x : ThreadState) → u ≢ t → Told K script.n u (lines_at script.threads u) r.world x → Told K script.n u (lines_at script.threads u) c.world x
    other_told u x other h = record {
      count = h.count;
      walked = record {
        bound = h.walked.bound;
        walked = subst (λ start. Walks K script.n u start (take (length x.said) (lines_at script.threads u)) x.said (at_rest script.n x.held h.walked.bound)) (sym (stays_walker u other)) h.walked.walked;
        same = h.walked.same;
      };
    }

    goes_on_told : IsTold K script (goes_on r t s line.number c)
    goes_on_told = record {
      each = λ u x h.
          ⊎_elim (λ (same : (u ≡ t) × (x ≡ new)).
          subst (λ v. Told K script.n v (lines_at script.threads v) c.world x) (sym same.0) (subst (Told K script.n t lines c.world) (sym same.1) own_told))
          (λ (other : (u ≢ t) × (thread_at r.threads u ≡ Some x)). other_told u x other.0 (is_told.each u x other.1))
          (goes_on-threads r t s line.number c at u x h);
      entries = obey_keeps K good t (AreEntries T) (entries_keep K t T first (let n = reached.count in omega (arith, n, last))) r.world s reached.session (reached.held t s at) (ascends t s at) is_told.entries line.order c does;
    }

  pub turn_keeps_told : (t : ℕ) → IsTold K script (turn K script.threads r t)
  turn_keeps_told t = turn_cases K script.threads r t (IsTold K script) is_told (λ s line c at next does. goes_on_told t s at line next c does)
