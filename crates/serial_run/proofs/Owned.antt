-- Each partition that is held is held by a thread that says so, and a thread that was told all its lines holds nothing.
use Rattle.std.proofs.Common.{◌≡◌, ℕ, ◌+◌, ◌-◌, ◌<◌, ◌≤◌, ⊎_elim, true, List, [], ◌∷◌, ◌++◌, length, Some, refl, sym, ap, subst, ◌∙◌, arith}
use Rattle.std.specs.Prelude.{◌≢◌, slice_get}
use Rattle.std.specs.List.{AllByRecursion}
use Rattle.std.proofs.lemmas.Bool.{cases_eq}
use Rattle.std.proofs.lemmas.Option.{same_Some, slice_get_within, none-some}
use Rattle.std.proofs.lemmas.List.{length-append, length-replicate, length-set}
use Rattle.std.proofs.lemmas.List.FromFn.{get_or-map-range_with_len, length-map-range_with_len}
use Rattle.pk_model.specs.Tags.{Ascends}
use Rattle.pk_model.specs.Modelling.{Modelling, IsModeller}
use Rattle.list_facts.proofs.Each.{ByRecursion-get_or}
use Rattle.world_core.specs.World.{WorldPartition, WorldState, opened, partition_at}
use Rattle.script_text.specs.Walk.{is_held}
use Rattle.script_text.specs.declared.script.Script.{Script}
use Rattle.script_text.specs.declared.script.ScriptLine.{ScriptLine}
use Rattle.script_text.specs.declared.script.Order.{Order}
use Rattle.script_text.specs.declared.script.Order.TheVariants.{End}
use Rattle.script_thread.specs.Thread.{ThreadState, fresh_thread}
use Rattle.serial_run.specs.Serial.{Carried, RunState, carry_end, goes_on, lines_at, next_line, obey, rounds, run_begins, thread_at, told, turn, turns}
use Rattle.script_thread.specs.WellFormed.{IsThread, IsWellFormed}
use Rattle.serial_run.specs.Reached.{IsHeldBy, IsReached}
use Rattle.serial_run.specs.Ends.{HasEnded}
use Rattle.serial_run.proofs.Threads.{goes_on-itself, goes_on-other, goes_on-threads, thread_at-replicate, thread_at-within}
use Rattle.serial_run.proofs.Turning.{Obeyed, begins_reached, obeyed_reached, rounds_keep, turn_cases, turn_reached, turns_keep}

-- ---- who holds a partition says so

-- Thread t is there, and p is among what it holds.
pub record Owner (r : RunState) (t p : ℕ) : Type 0 where
  pub state : ThreadState
  pub is : thread_at r.threads t ≡ Some state
  pub held : is_held state.held p ≡ true

-- whoever holds a partition is a thread that says so
pub record IsOwned (r : RunState) : Type 0 where
  pub owner : (t p : ℕ) → IsHeldBy r.world t p → Owner r t p

-- at the beginning nobody holds a partition
nobody_holds : (script : Script) (t p : ℕ) → IsHeldBy (run_begins script).world t p → ⊥
nobody_holds script t p h =
    let n = script.n in
    let w = (run_begins script).world in
    let first = h.first in
    let last : p ≤ length w.partitions = h.last in
    let count : length w.partitions ≡ n = length-map-range_with_len opened 1 n in
    let place : p - 1 < n = omega arith in
    let number : 1 + (p - 1) ≡ p = omega arith in
    let is : partition_at w p ≡ opened p = get_or-map-range_with_len opened 1 n (p - 1) p (opened p) place number in
    none-some t (sym (ap (λ (q : WorldPartition). q.state.holder) is) ∙ h.holder)

pub begins_owned : (script : Script) → IsOwned (run_begins script)
begins_owned script = record { owner = λ t p h. absurd (nobody_holds script t p h) }

-- a thread went on
goes_on-owned : (K : Modelling) (r : RunState) (t : ℕ) (s : ThreadState) (k : ℕ) (c : Carried) → IsOwned r → thread_at r.threads t ≡ Some s → Obeyed K t r.world s c → IsOwned (goes_on r t s k c)
goes_on-owned K r t s k c owned is x = record { owner = owner }
  where
    after : RunState
    after = goes_on r t s k c

    was : (q : ℕ) → IsHeldBy r.world t q → is_held s.held q ≡ true
    was q h =
        let o = owned.owner t q h in
        subst (λ (y : ThreadState). is_held y.held q ≡ true) (same_Some o.state s (sym o.is ∙ is)) o.held

    itself : (u p : ℕ) → u ≡ t → IsHeldBy c.world u p → Owner (goes_on r t s k c) u p
    itself u p same h = record {
      state = told s k c;
      is = ap (thread_at (goes_on r t s k c).threads) same ∙ goes_on-itself r t s k c is;
      held = x.own was p (subst (λ v. IsHeldBy c.world v p) same h);
    }

    other : (u p : ℕ) → u ≢ t → IsHeldBy c.world u p → Owner (goes_on r t s k c) u p
    other u p differ h =
        let o = owned.owner u p (x.before u p differ h) in
        record { state = o.state; is = goes_on-other r t u s k c is differ ∙ o.is; held = o.held }

    owner : (u p : ℕ) → IsHeldBy c.world u p → Owner (goes_on r t s k c) u p
    owner u p h = ⊎_elim (λ (same : u ≡ t). itself u p same h) (λ (differ : u ≢ t). other u p differ h) (cases_eq u t)

-- ---- what is held ascends

-- each thread says what it holds in order, each partition once
pub record HeldAscend (r : RunState) : Type 0 where
  pub ascends : (t : ℕ) (s : ThreadState) → thread_at r.threads t ≡ Some s → Ascends s.held

pub begins_ascending : (script : Script) → HeldAscend (run_begins script)
begins_ascending script = record {
  ascends = λ t s is. subst (λ (x : ThreadState). Ascends x.held) (sym (thread_at-replicate (length script.threads) t fresh_thread s is)) tt;
}

-- a thread went on
goes_on-ascending : (K : Modelling) (r : RunState) (t : ℕ) (s : ThreadState) (k : ℕ) (c : Carried) → HeldAscend r → thread_at r.threads t ≡ Some s → Obeyed K t r.world s c → HeldAscend (goes_on r t s k c)
goes_on-ascending K r t s k c ascending is x = record {
  ascends = λ u y there.
      ⊎_elim (λ (same : (u ≡ t) × (y ≡ told s k c)). subst (λ (z : ThreadState). Ascends z.held) (sym same.1) (x.ascends (ascending.ascends t s is)))
      (λ (other : (u ≢ t) × (thread_at r.threads u ≡ Some y)). ascending.ascends u y other.1) (goes_on-threads r t s k c is u y there);
}

-- ---- how far a thread is

-- There is a thread for each of these lists of lines; none was told more than all its lines, and one that was told all of
-- them holds nothing.
pub record IsTelling (lines : List (List ScriptLine)) (r : RunState) : Type 0 where
  pub count : length r.threads ≡ length lines
  pub within : (t : ℕ) (s : ThreadState) → thread_at r.threads t ≡ Some s → length s.said ≤ length (lines_at lines t)
  pub ended : (t : ℕ) (s : ThreadState) → thread_at r.threads t ≡ Some s → HasEnded (lines_at lines t) s → s.held ≡ []

pub begins_telling : (script : Script) → IsTelling script.threads (run_begins script)
begins_telling script =
    let fresh : (t : ℕ) (s : ThreadState) → thread_at (run_begins script).threads t ≡ Some s → s ≡ fresh_thread = λ t s is. thread_at-replicate (length script.threads) t fresh_thread s is in
    record {
      count = length-replicate (length script.threads) fresh_thread;
      within = λ t s is. let none : length s.said ≡ 0 = ap (λ (x : ThreadState). length x.said) (fresh t s is) in omega arith;
      ended = λ t s is all. ap (λ (x : ThreadState). x.held) (fresh t s is);
    }

slice_get-last : {X : Type 0} (front : List X) (x : X) → slice_get (front ++ x ∷ []) (length front) ≡ Some x
slice_get-last [] x = refl
slice_get-last (y ∷ front) x = slice_get-last front x

-- the line behind which there is none is `end`
pub last_line : (lines : List ScriptLine) (k : ℕ) (line : ScriptLine) → IsThread lines → slice_get lines k ≡ Some line → k + 1 ≡ length lines → line.order ≡ End
last_line lines k line thread is all =
    let front = thread.front in
    let count : length lines ≡ length front + 1 = ap length thread.whole ∙ length-append front (thread.last ∷ []) in
    let place : length front ≡ k = omega arith in
    let found : slice_get lines k ≡ Some thread.last =
    ap (λ ls. slice_get ls k) thread.whole ∙ sym (ap (slice_get (front ++ thread.last ∷ [])) place) ∙ slice_get-last front thread.last in
    ap (λ (l : ScriptLine). l.order) (same_Some line thread.last (sym is ∙ found)) ∙ thread.ends

-- who ends holds nothing
pub end_frees : (K : Modelling) (t : ℕ) (w : WorldState) (s : ThreadState) (order : Order) (c : Carried) → order ≡ End → obey K t w s order ≡ Some c → c.held ≡ []
end_frees K t w s order c is h =
    ap (λ (x : Carried). x.held) (sym (same_Some (carry_end K t w s) c (subst (λ o. obey K t w s o ≡ Some c) is h)))

-- the lines of a thread of a well formed script end
pub lines_end : (lines : List (List ScriptLine)) (t : ℕ) → AllByRecursion IsThread lines → 1 ≤ t → t ≤ length lines → IsThread (lines_at lines t)
lines_end lines t all one last = ByRecursion-get_or IsThread lines (t - 1) [] (omega arith) all

-- a thread was told its next line
goes_on-telling : (K : Modelling) (lines : List (List ScriptLine)) (r : RunState) (t : ℕ) (s : ThreadState) (line : ScriptLine) (c : Carried) → AllByRecursion IsThread lines → IsTelling lines r → thread_at r.threads t ≡ Some s → next_line (lines_at lines t) s ≡ Some line → obey K t r.world s line.order ≡ Some c → IsTelling lines (goes_on r t s line.number c)
goes_on-telling K lines r t s line c all telling is next obeys =
    let k = line.number in
    let own = lines_at lines t in
    let there = thread_at-within r.threads t s is in
    let one = there.0 in
    let last : t ≤ length lines = let l = there.1 in let n = telling.count in omega arith in
    let more : length (told s k c).said ≡ length s.said + 1 = length-append s.said _ in
    let room : length s.said < length own = slice_get_within own (length s.said) line next in
    let fits : length (told s k c).said ≤ length own = omega arith in
    let frees : HasEnded own (told s k c) → c.held ≡ [] = λ full.
    end_frees K t r.world s line.order c (last_line own (length s.said) line (lines_end lines t all one last) next (sym more ∙ full)) obeys in
    record {
      count = length-set r.threads (t - 1) (told s k c) ∙ telling.count;
      within = λ u y at.
          ⊎_elim (λ (same : (u ≡ t) × (y ≡ told s k c)). subst (λ v. length y.said ≤ length (lines_at lines v)) (sym same.0) (subst (λ (z : ThreadState). length z.said ≤ length own) (sym same.1) fits))
          (λ (other : (u ≢ t) × (thread_at r.threads u ≡ Some y)). telling.within u y other.1) (goes_on-threads r t s k c is u y at);
      ended = λ u y at full.
          ⊎_elim (λ (same : (u ≡ t) × (y ≡ told s k c)).
          ap (λ (z : ThreadState). z.held) same.1 ∙ frees (subst (λ (z : ThreadState). HasEnded own z) same.1 (subst (λ v. HasEnded (lines_at lines v) y) same.0 full)))
          (λ (other : (u ≢ t) × (thread_at r.threads u ≡ Some y)). telling.ended u y other.1 full) (goes_on-threads r t s k c is u y at);
    }

-- ---- all of it

-- what holds between any two turns of a well formed script
pub record IsRunning (K : Modelling) (script : Script) (r : RunState) : Type 0 where
  pub reached : IsReached K script r
  pub owned : IsOwned r
  pub ascending : HeldAscend r
  pub telling : IsTelling script.threads r

pub begins_running : (K : Modelling) (script : Script) → IsModeller K → IsWellFormed script → IsRunning K script (run_begins script)
begins_running K script good formed = record {
  reached = begins_reached K script good formed;
  owned = begins_owned script;
  ascending = begins_ascending script;
  telling = begins_telling script;
}

pub turn_running : (K : Modelling) (script : Script) (r : RunState) (t : ℕ) → IsModeller K → IsWellFormed script → IsRunning K script r → IsRunning K script (turn K script.threads r t)
turn_running K script r t good formed running =
    let lines = script.threads in
    record {
      reached = turn_reached K script r t good formed running.reached;
      owned = turn_cases K lines r t IsOwned running.owned
          (λ s line c is next obeys. goes_on-owned K r t s line.number c running.owned is (obeyed_reached K good script r t s line.order c running.reached is obeys));
      ascending = turn_cases K lines r t HeldAscend running.ascending
          (λ s line c is next obeys. goes_on-ascending K r t s line.number c running.ascending is (obeyed_reached K good script r t s line.order c running.reached is obeys));
      telling = turn_cases K lines r t (IsTelling lines) running.telling
          (λ s line c is next obeys. goes_on-telling K lines r t s line c formed.each running.telling is next obeys);
    }

pub turns_running : (K : Modelling) (script : Script) (r : RunState) (ts : List ℕ) → IsModeller K → IsWellFormed script → IsRunning K script r → IsRunning K script (turns K script.threads r ts)
turns_running K script r ts good formed = turns_keep K script.threads (IsRunning K script) (λ x t h. turn_running K script x t good formed h) r ts

pub rounds_running : (K : Modelling) (script : Script) (r : RunState) (k : ℕ) → IsModeller K → IsWellFormed script → IsRunning K script r → IsRunning K script (rounds K script.threads r k)
rounds_running K script r k good formed = rounds_keep K script.threads (IsRunning K script) (λ x t h. turn_running K script x t good formed h) r k
