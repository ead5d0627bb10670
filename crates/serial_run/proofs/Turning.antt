-- What a turn leaves: what holds between any two turns is kept.
use Rattle.std.proofs.Common.{◌≡◌, ℕ, zero, suc, ◌-◌, ◌≤◌, ⊎_elim, true, false, List, [], ◌∷◌, length, Option, Some, None, refl, sym, ap, subst, ◌∙◌}
use Rattle.std.specs.Prelude.{◌≢◌, ◌==◌}
use Rattle.std.specs.Option.{option_map_or}
use Rattle.std.specs.List.{AllByRecursion, range_with_len}
use Rattle.std.proofs.lemmas.Bool.{cases_eq, eq-eqb, or_left}
use Rattle.std.proofs.lemmas.Option.{same_Some, none-some}
use Rattle.std.proofs.lemmas.List.{length-replicate, length-set}
use Rattle.std.proofs.lemmas.List.FromFn.{length-map-range_with_len}
use Rattle.pk_base.specs.declared.act.Act.{Act}
use Rattle.pk_base.specs.declared.act.Entry.TheVariants.{Claimed, Released}
use Rattle.pk_base.specs.declared.entity.Name.{Name}
use Rattle.pk_base.specs.declared.refusal.Refusal.{Refusal}
use Rattle.pk_model.specs.State.{PartitionState}
use Rattle.pk_model.specs.Tags.{Ascends}
use Rattle.pk_model.specs.Modelling.{Modelling, IsModeller}
use Rattle.list_facts.proofs.Each.{ByRecursion-weaker}
use Rattle.world_core.specs.declared.event.Event.TheVariants as event
use Rattle.world_core.specs.World.{WorldState, IsAsLarge, opened, partition_at}
use Rattle.world_core.specs.Session.{IsSession}
use Rattle.world_core.specs.Runs.{after_event}
use Rattle.world_core.proofs.Sessions.{beginning_session}
use Rattle.script_text.specs.Walk.{act_with_tags, is_held, refusal_of_order, with_held}
use Rattle.script_text.specs.declared.script.Script.{Script}
use Rattle.script_text.specs.declared.script.ScriptLine.{ScriptLine}
use Rattle.script_text.specs.declared.script.Order.{Order}
use Rattle.script_text.specs.declared.script.Order.TheVariants.{Lock, Unlock, End, On}
use Rattle.script_thread.specs.Thread.{ThreadState, fresh_thread, walker_now}
use Rattle.serial_run.specs.Serial.{Carried, RunState, acts, by, carry, carry_act, carry_claim, carry_end, carry_unlock, goes_on, line_by, lines_at, lock_by, next_line, obey, obey_by, rounds, run_begins, thread_at, told, turn, turn_by, turned_away, turns}
use Rattle.script_thread.specs.WellFormed.{IsWellFormed}
use Rattle.serial_run.specs.Reached.{IsHeldBy, IsReached}
use Rattle.serial_run.proofs.Events.{IsAsLarge-refl, acts_done, claim_done, claimed, done_alters, freed, held_after, held_before, held_still, one_holder, release_done, release_held, releases_done}
use Rattle.script_thread.proofs.Allowed.{act_allowed, lock_allowed, unlock_allowed}
use Rattle.script_thread.proofs.HeldLists.{Ascends-with, Ascends-without, all_with, all_without, held_each, is_held-with, is_held-with_itself, is_held-without}
use Rattle.serial_run.proofs.Threads.{goes_on-threads, thread_at-replicate}

-- ---- an order

-- What an order of thread t, as s, leaves: the world is a session, as large; the thread holds what it says, and nothing else
-- where that was so before; all others hold what they held; and what the thread holds still ascends.
pub record Obeyed (K : Modelling) (t : ℕ) (w : WorldState) (s : ThreadState) (c : Carried) : Type 0 where
  pub session : IsSession K c.world
  pub large : IsAsLarge w c.world
  pub held : AllByRecursion (IsHeldBy c.world t) c.held
  pub kept : (u p : ℕ) → u ≢ t → IsHeldBy w u p → IsHeldBy c.world u p
  pub before : (u p : ℕ) → u ≢ t → IsHeldBy c.world u p → IsHeldBy w u p
  pub own : ((p : ℕ) → IsHeldBy w t p → is_held s.held p ≡ true) → (p : ℕ) → IsHeldBy c.world t p → is_held c.held p ≡ true
  pub ascends : Ascends s.held → Ascends c.held

-- an order that is turned away
away_obeyed : (K : Modelling) (w : WorldState) (t : ℕ) (s : ThreadState) (r : Refusal) → IsSession K w → AllByRecursion (IsHeldBy w t) s.held → Obeyed K t w s (turned_away w s r)
away_obeyed K w t s r session all = record {
  session = session;
  large = IsAsLarge-refl w;
  held = all;
  kept = λ u p differ h. h;
  before = λ u p differ h. h;
  own = λ was p h. was p h;
  ascends = λ up. up;
}

-- the lock of a free partition
lock_obeyed : (K : Modelling) → IsModeller K → (w : WorldState) (t : ℕ) (s : ThreadState) (p : ℕ) → IsSession K w → AllByRecursion (IsHeldBy w t) s.held → (1 ≤ p) × (p ≤ length w.partitions) → (partition_at w p).state.holder ≡ None → Obeyed K t w s (carry_claim K t w s p)
lock_obeyed K good w t s p session all within free =
    let new = after_event K w (by t (event.Claim p)) in
    let was = (partition_at w p).state in
    let d = claim_done K good w t p session within.0 within.1 free in
    let alters = done_alters K w t (event.Claim p) (Claimed t) (claimed was t) d in
    let here : IsHeldBy new t p = held_after K p t w new alters within.0 within.1 (ap (λ (x : PartitionState). x.holder) d.state) in
    let other : (u q : ℕ) → IsHeldBy w u q → q ≢ p = λ u q h e. none-some u (sym free ∙ (subst (IsHeldBy w u) e h).holder) in
    record {
      session = d.session;
      large = d.large;
      held = all_with (IsHeldBy new t) p s.held (ByRecursion-weaker (IsHeldBy w t) (IsHeldBy new t) (λ q h. held_still K p t q w new alters (other t q h) h) s.held all) here;
      kept = λ u q differ h. held_still K p u q w new alters (other u q h) h;
      before = λ u q differ h. held_before K p u q w new alters (λ (e : q ≡ p). differ (one_holder new u t p (subst (IsHeldBy new u) e h) here)) h;
      own = λ mine q h.
          ⊎_elim (λ (same : q ≡ p). subst (λ x. is_held (with_held p s.held) x ≡ true) (sym same) (is_held-with_itself p s.held))
          (λ (differ : q ≢ p). is_held-with p s.held q (mine q (held_before K p t q w new alters differ h))) (cases_eq q p);
      ascends = Ascends-with p s.held;
    }

-- the unlock of a partition that the thread holds
unlock_obeyed : (K : Modelling) → IsModeller K → (w : WorldState) (t : ℕ) (s : ThreadState) (p : ℕ) → IsSession K w → AllByRecursion (IsHeldBy w t) s.held → is_held s.held p ≡ true → Obeyed K t w s (carry_unlock K t w s p)
unlock_obeyed K good w t s p session all held =
    let new = after_event K w (by t (event.Release p)) in
    let mine : IsHeldBy w t p = held_each (IsHeldBy w t) s.held p all held in
    let d = release_done K good w t p session mine in
    let alters = done_alters K w t (event.Release p) (Released t) (freed (partition_at w p).state) d in
    let x = release_held K good w t p session mine in
    record {
      session = x.session;
      large = x.large;
      held = all_without (IsHeldBy new t) p s.held (λ q h differ. held_still K p t q w new alters differ (held_each (IsHeldBy w t) s.held q all h));
      kept = x.kept;
      before = λ u q differ h. x.before u q h;
      own = λ was q h. is_held-without p s.held q (λ (e : q ≡ p). x.free q (or_left (p == q) false (eq-eqb p q (sym e))) h) (was q (x.before t q h));
      ascends = Ascends-without p s.held;
    }

-- the end of a thread
end_obeyed : (K : Modelling) → IsModeller K → (w : WorldState) (t : ℕ) (s : ThreadState) → IsSession K w → AllByRecursion (IsHeldBy w t) s.held → Obeyed K t w s (carry_end K t w s)
end_obeyed K good w t s session all =
    let n = length w.partitions in
    let within = ByRecursion-weaker (IsHeldBy w t) (λ p. (1 ≤ p) × (p ≤ n)) (λ p h. (h.first, h.last)) s.held all in
    let x = releases_done K good w t n s.held session refl within in
    record {
      session = x.session;
      large = x.large;
      held = tt;
      kept = x.kept;
      before = λ u q differ h. x.before u q h;
      own = λ was q h. absurd (x.free q (was q (x.before t q h)) h);
      ascends = λ up. tt;
    }

-- an act on a partition that the thread holds
act_obeyed : (K : Modelling) → IsModeller K → (w : WorldState) (t : ℕ) (s : ThreadState) (p : ℕ) (a : Act) (bind : Option Name) → IsSession K w → AllByRecursion (IsHeldBy w t) s.held → is_held s.held p ≡ true → Obeyed K t w s (carry_act K t w s p a bind)
act_obeyed K good w t s p a bind session all held =
    let new = (acts K t p a w).world in
    let mine : IsHeldBy w t p = held_each (IsHeldBy w t) s.held p all held in
    let x = acts_done K good w t p a session mine in
    let still : (u q : ℕ) → IsHeldBy w u q → IsHeldBy new u q = λ u q h.
    ⊎_elim (λ (same : q ≡ p). subst (λ v. IsHeldBy new v q) (one_holder w t u p mine (subst (IsHeldBy w u) same h)) (subst (IsHeldBy new t) (sym same) x.held))
    (λ (differ : q ≢ p). held_still K p u q w new x.alters differ h) (cases_eq q p) in
    let back : (u q : ℕ) → IsHeldBy new u q → IsHeldBy w u q = λ u q h.
    ⊎_elim (λ (same : q ≡ p). subst (λ v. IsHeldBy w v q) (one_holder new t u p x.held (subst (IsHeldBy new u) same h)) (subst (IsHeldBy w t) (sym same) mine))
    (λ (differ : q ≢ p). held_before K p u q w new x.alters differ h) (cases_eq q p) in
    record {
      session = x.alters.session;
      large = x.alters.large;
      held = ByRecursion-weaker (IsHeldBy w t) (IsHeldBy new t) (λ q h. still t q h) s.held all;
      kept = λ u q differ h. still u q h;
      before = λ u q differ h. back u q h;
      own = λ was q h. was q (back t q h);
      ascends = λ up. up;
    }

-- an order that is not turned away, and does not wait
carried : (K : Modelling) → IsModeller K → (w : WorldState) (t : ℕ) (s : ThreadState) (order : Order) (c : Carried) → IsSession K w → AllByRecursion (IsHeldBy w t) s.held → refusal_of_order (length w.partitions) (walker_now s) order ≡ None → carry K t w s order ≡ Some c → Obeyed K t w s c
carried K good w t s (Lock p) c session all fits h =
    elim (partition_at w p).state.holder as (λ (o : Option ℕ). (partition_at w p).state.holder ≡ o → lock_by K t w s p o ≡ Some c → Obeyed K t w s c) [
      | None ↦ λ free k. subst (Obeyed K t w s) (same_Some (carry_claim K t w s p) c k) (lock_obeyed K good w t s p session all (lock_allowed (length w.partitions) s p fits).within free)
      | Some holder ↦ λ held k. absurd (none-some c k)
    ] refl h
carried K good w t s (Unlock p) c session all fits h =
    subst (Obeyed K t w s) (same_Some (carry_unlock K t w s p) c h) (unlock_obeyed K good w t s p session all (unlock_allowed (length w.partitions) s p fits))
carried K good w t s End c session all fits h = subst (Obeyed K t w s) (same_Some (carry_end K t w s) c h) (end_obeyed K good w t s session all)
carried K good w t s (On p a operands bind) c session all fits h =
    let resolved = act_with_tags (walker_now s) a operands in
    subst (Obeyed K t w s) (same_Some (carry_act K t w s p resolved bind) c h) (act_obeyed K good w t s p resolved bind session all (act_allowed (length w.partitions) s p a operands bind fits))

-- an order that does not wait
pub order_obeyed : (K : Modelling) → IsModeller K → (w : WorldState) (t : ℕ) (s : ThreadState) (order : Order) (c : Carried) → IsSession K w → AllByRecursion (IsHeldBy w t) s.held → obey K t w s order ≡ Some c → Obeyed K t w s c
order_obeyed K good w t s order c session all h =
    elim (refusal_of_order (length w.partitions) (walker_now s) order) as (λ (o : Option Refusal). refusal_of_order (length w.partitions) (walker_now s) order ≡ o → obey_by K t w s order o ≡ Some c → Obeyed K t w s c) [
      | None ↦ λ fits k. carried K good w t s order c session all fits k
      | Some r ↦ λ is k. subst (Obeyed K t w s) (same_Some (turned_away w s r) c k) (away_obeyed K w t s r session all)
    ] refl h

-- the same of a thread of a run
pub obeyed_reached : (K : Modelling) → IsModeller K → (script : Script) (r : RunState) (t : ℕ) (s : ThreadState) (order : Order) (c : Carried) → IsReached K script r → thread_at r.threads t ≡ Some s → obey K t r.world s order ≡ Some c → Obeyed K t r.world s c
obeyed_reached K good script r t s order c reached is h = order_obeyed K good r.world t s order c reached.session (reached.held t s is) h

-- ---- a turn

-- what holds of a state, and of each that a line of thread t leads to, holds after its turn
pub turn_cases : (K : Modelling) (lines : List (List ScriptLine)) (r : RunState) (t : ℕ) (P : RunState → Type 0) → P r → ((s : ThreadState) (line : ScriptLine) (c : Carried) → thread_at r.threads t ≡ Some s → next_line (lines_at lines t) s ≡ Some line → obey K t r.world s line.order ≡ Some c → P (goes_on r t s line.number c)) → P (turn K lines r t)
turn_cases K lines r t P same more =
    elim (thread_at r.threads t) as (λ (o : Option ThreadState). thread_at r.threads t ≡ o → P (turn_by K lines r t o)) [
      | None ↦ λ is. same
      | Some s ↦ λ is.
          elim (next_line (lines_at lines t) s) as (λ (o : Option ScriptLine). next_line (lines_at lines t) s ≡ o → P (line_by K r t s o)) [
            | None ↦ λ next. same
            | Some line ↦ λ next.
                elim (obey K t r.world s line.order) as (λ (o : Option Carried). obey K t r.world s line.order ≡ o → P (option_map_or (goes_on r t s line.number) o r)) [
                  | None ↦ λ waits. same
                  | Some c ↦ λ obeys. more s line c is next obeys
                ] refl
          ] refl
    ] refl

-- what each turn keeps, turns keep
pub turns_keep : (K : Modelling) (lines : List (List ScriptLine)) (P : RunState → Type 0) → ((r : RunState) (t : ℕ) → P r → P (turn K lines r t)) → (r : RunState) (ts : List ℕ) → P r → P (turns K lines r ts)
turns_keep K lines P keeps r [] h = h
turns_keep K lines P keeps r (t ∷ ts) h = turns_keep K lines P keeps (turn K lines r t) ts (keeps r t h)

-- and so do rounds
pub rounds_keep : (K : Modelling) (lines : List (List ScriptLine)) (P : RunState → Type 0) → ((r : RunState) (t : ℕ) → P r → P (turn K lines r t)) → (r : RunState) (k : ℕ) → P r → P (rounds K lines r k)
rounds_keep K lines P keeps r zero h = h
rounds_keep K lines P keeps r (suc k) h =
    let round = range_with_len 1 (length lines) in
    rounds_keep K lines P keeps (turns K lines r round) k (turns_keep K lines P keeps r round h)

-- ---- what is reached

-- before the first turn
pub begins_reached : (K : Modelling) (script : Script) → IsModeller K → IsWellFormed script → IsReached K script (run_begins script)
begins_reached K script good formed = record {
  session = beginning_session K script.n script.last (length script.threads) formed.first;
  partitions = length-map-range_with_len opened 1 script.n;
  last = refl;
  threads = refl;
  count = length-replicate (length script.threads) fresh_thread;
  held = λ t s is. subst (λ (x : ThreadState). AllByRecursion (IsHeldBy (run_begins script).world t) x.held) (sym (thread_at-replicate (length script.threads) t fresh_thread s is)) tt;
}

-- a thread went on
goes_on-reached : (K : Modelling) (script : Script) (r : RunState) (t : ℕ) (s : ThreadState) (k : ℕ) (c : Carried) → IsReached K script r → thread_at r.threads t ≡ Some s → Obeyed K t r.world s c → IsReached K script (goes_on r t s k c)
goes_on-reached K script r t s k c reached is x = record {
  session = x.session;
  partitions = x.large.partitions ∙ reached.partitions;
  last = x.large.last ∙ reached.last;
  threads = x.large.threads ∙ reached.threads;
  count = length-set r.threads (t - 1) (told s k c) ∙ reached.count;
  held = λ u y there.
      ⊎_elim (λ (same : (u ≡ t) × (y ≡ told s k c)).
      subst (λ v. AllByRecursion (IsHeldBy c.world v) y.held) (sym same.0) (subst (λ (z : ThreadState). AllByRecursion (IsHeldBy c.world t) z.held) (sym same.1) x.held))
      (λ (other : (u ≢ t) × (thread_at r.threads u ≡ Some y)).
      ByRecursion-weaker (IsHeldBy r.world u) (IsHeldBy c.world u) (λ p h. x.kept u p other.0 h) y.held (reached.held u y other.1))
      (goes_on-threads r t s k c is u y there);
}

-- a turn keeps what is reached
pub turn_reached : (K : Modelling) (script : Script) (r : RunState) (t : ℕ) → IsModeller K → IsWellFormed script → IsReached K script r → IsReached K script (turn K script.threads r t)
turn_reached K script r t good formed reached =
    turn_cases K script.threads r t (IsReached K script) reached
    (λ s line c is next obeys. goes_on-reached K script r t s line.number c reached is (obeyed_reached K good script r t s line.order c reached is obeys))

-- so do turns
pub turns_reached : (K : Modelling) (script : Script) (r : RunState) (ts : List ℕ) → IsModeller K → IsWellFormed script → IsReached K script r → IsReached K script (turns K script.threads r ts)
turns_reached K script r ts good formed = turns_keep K script.threads (IsReached K script) (λ x t h. turn_reached K script x t good formed h) r ts

-- and rounds
pub rounds_reached : (K : Modelling) (script : Script) (r : RunState) (k : ℕ) → IsModeller K → IsWellFormed script → IsReached K script r → IsReached K script (rounds K script.threads r k)
rounds_reached K script r k good formed = rounds_keep K script.threads (IsReached K script) (λ x t h. turn_reached K script x t good formed h) r k
