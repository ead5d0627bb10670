-- What every event of a thread keeps, an order that it obeys keeps.
use Rattle.std.proofs.Common.{◌≡◌, ℕ, zero, suc, ◌+◌, ◌<◌, ◌≤◌, Bool, true, false, cond, List, [], ◌∷◌, length, Option, None, Some, refl, subst, arith}
use Rattle.std.specs.Prelude.{MatchOption, nat_le}
use Rattle.std.specs.List.{AllByRecursion}
use Rattle.std.proofs.lemmas.Bool.{leb-true}
use Rattle.std.proofs.lemmas.Option.{same_Some}
use Rattle.pk_base.specs.declared.act.Act.{Act}
use Rattle.pk_base.specs.declared.act.Entry.{Entry}
use Rattle.pk_base.specs.declared.act.Entry.TheVariants.{Claimed, Drew, Did, Spent, Released}
use Rattle.pk_base.specs.declared.refusal.Refusal.{Refusal}
use Rattle.pk_model.specs.Modelling.{Modelling, IsModeller}
use Rattle.pk_model.specs.Step.{reach_of, short, Stepped, with_answer}
use Rattle.pk_model.specs.Replay.{drawn_block, spent_number, thread_of}
use Rattle.pk_model.specs.Tags.{Ascends}
use Rattle.world_core.specs.declared.event.Event.{Event}
use Rattle.world_core.specs.declared.event.Event.TheVariants as event
use Rattle.world_core.specs.Event.{partition_of}
use Rattle.world_core.specs.World.{WorldState, partition_at}
use Rattle.world_core.specs.Session.{IsSession}
use Rattle.world_core.specs.Runs.{after_event}
use Rattle.script_text.specs.Walk.{act_with_tags, refusal_of_order}
use Rattle.script_text.specs.declared.script.Order.{Order}
use Rattle.script_text.specs.declared.script.Order.TheVariants.{Lock, Unlock, End, On}
use Rattle.script_thread.specs.Thread.{ThreadState, walker_now}
use Rattle.serial_run.specs.Serial.{Carried, Drawn, acts, acts_by, by, carry, draws, lock_by, obey, obey_by, released}
use Rattle.serial_run.specs.Reached.{IsHeldBy}
use Rattle.script_thread.proofs.HeldLists.{held_each}
use Rattle.script_thread.proofs.Allowed.{act_allowed, lock_allowed, unlock_allowed}
use Rattle.serial_run.proofs.Events.{DrawsDone, EventDone, act_done, claim_done, claimed, draw_done, draws_done, drew, freed, gave_up, give_up_done, one_drawn, release_done, rest_held}

-- ---- what an order keeps

-- An event of thread t, and what is known of it: its entry is of this thread, it draws a block only where one is left, and
-- the number that it finds spent is the one above the last, where that is the next.
pub record EventOf (K : Modelling) (w : WorldState) (t : ℕ) (v : Event) (e : Entry) (r : Stepped) : Type 0 where
  pub done : EventDone K w t v e r
  pub session : IsSession K w
  pub first : 1 ≤ partition_of v
  pub last : partition_of v ≤ length w.partitions
  pub thread : thread_of e ≡ t
  pub draws : MatchOption (drawn_block e) (Unit {0}) (λ b. w.blocks.next ≤ w.blocks.last)
  pub spends : MatchOption (spent_number e) (Unit {0}) (λ k. (k ≡ w.blocks.last + 1) × (w.blocks.next ≡ w.blocks.last + 1))

-- every event of the thread keeps it
abbrev pub EventsKeep : Modelling → ℕ → (WorldState → Type 0) → Type 0
EventsKeep K t P = (w : WorldState) (v : Event) (e : Entry) (r : Stepped) → EventOf K w t v e r → P w → P (after_event K w (by t v))

module _ (K : Modelling) (good : IsModeller K) (t : ℕ) (P : WorldState → Type 0) (keep : EventsKeep K t P) where
  claim_keeps : (w : WorldState) (p : ℕ) → IsSession K w → (1 ≤ p) × (p ≤ length w.partitions) → (partition_at w p).state.holder ≡ None → P w → P (after_event K w (by t (event.Claim p)))
  claim_keeps w p session (first, last) free h =
      let s = (partition_at w p).state in
      keep w (event.Claim p) (Claimed t) (claimed s t) (record { done = claim_done K good w t p session first last free; session = session; first = first; last = last; thread = refl; draws = tt; spends = tt }) h

  release_keeps : (w : WorldState) (p : ℕ) → IsSession K w → IsHeldBy w t p → P w → P (after_event K w (by t (event.Release p)))
  release_keeps w p session held h =
      let s = (partition_at w p).state in
      keep w (event.Release p) (Released t) (freed s) (record { done = release_done K good w t p session held; session = session; first = held.first; last = held.last; thread = refl; draws = tt; spends = tt }) h

  released_keep : (w : WorldState) (ps : List ℕ) → IsSession K w → AllByRecursion (IsHeldBy w t) ps → Ascends ps → P w → P (released K t ps w)
  released_keep w [] session all ascends h = h
  released_keep w (p ∷ ps) session all ascends h =
      let d = release_done K good w t p session all.0 in
      released_keep (after_event K w (by t (event.Release p))) ps d.session (rest_held K good w t p ps session all ascends) ascends.1 (release_keeps w p session all.0 h)

  draw_keeps : (w : WorldState) (p : ℕ) → IsSession K w → IsHeldBy w t p → w.blocks.next ≤ w.blocks.last → P w → P (after_event K w (by t (event.Draw p)))
  draw_keeps w p session held some h =
      let s = (partition_at w p).state in
      keep w (event.Draw p) (Drew t w.blocks.next) (drew s w.blocks.next) (record { done = draw_done K good w t p session held some; session = session; first = held.first; last = held.last; thread = refl; draws = some; spends = tt }) h

  draws_keep : (k : ℕ) (w : WorldState) (p : ℕ) (a : Act) → IsSession K w → IsHeldBy w t p → short K (partition_at w p).state a ≡ k → P w → P (draws K t p k w).world
  draws_keep zero w p a session held missing h = h
  draws_keep (suc k) w p a session held missing h =
      elim (nat_le w.blocks.next w.blocks.last) as (λ (b : Bool). nat_le w.blocks.next w.blocks.last ≡ b → P (cond b (draws K t p k (after_event K w (by t (event.Draw p)))) (record { world = w; spent = Some w.blocks.next })).world) [
        | true ↦ λ is.
            let some = leb-true w.blocks.next w.blocks.last is in
            let d = draw_done K good w t p session held some in
            let one = one_drawn K good w t p a k session held missing d in
            draws_keep k (after_event K w (by t (event.Draw p))) p a d.session one.0 one.1 (draw_keeps w p session held some h)
        | false ↦ λ is. h
      ] refl

  did_keeps : (w : WorldState) (p : ℕ) (a : Act) → IsSession K w → IsHeldBy w t p → short K (partition_at w p).state a ≡ 0 → P w → P (after_event K w (by t (event.Act p a)))
  did_keeps w p a session held enough h =
      let s = (partition_at w p).state in
      keep w (event.Act p a) (Did t a) (with_answer s (reach_of K s a)) (record { done = act_done K good w t p a session held enough; session = session; first = held.first; last = held.last; thread = refl; draws = tt; spends = tt }) h

  gave_up_keeps : (w : WorldState) (p : ℕ) (a : Act) (next : ℕ) → IsSession K w → IsHeldBy w t p → 0 < short K (partition_at w p).state a → next ≡ w.blocks.next → w.blocks.last < next → P w → P (after_event K w (by t (event.GiveUp p a next)))
  gave_up_keeps w p a next session held missing is above h =
      let s = (partition_at w p).state in
      let within = session.within in
      keep w (event.GiveUp p a next) (Spent t next a) (gave_up s next) (record { done = give_up_done K good w t p a next session held missing; session = session; first = held.first; last = held.last; thread = refl; draws = tt; spends = (omega (arith, is, within, above), omega (arith, is, within, above)) }) h

  -- an act that was drawn for
  acted_keeps : (w : WorldState) (p : ℕ) (a : Act) (drawn : Drawn) → DrawsDone K t p a w drawn → P drawn.world → (o : Option ℕ) → drawn.spent ≡ o → P (acts_by K t p a drawn.world o).world
  acted_keeps w p a drawn dd h None is = did_keeps drawn.world p a dd.alters.session dd.held (dd.enough is) h
  acted_keeps w p a drawn dd h (Some next) is = gave_up_keeps drawn.world p a next dd.alters.session dd.held (dd.missing next is) (dd.next next is) (dd.above next is) h

  acts_keep : (w : WorldState) (p : ℕ) (a : Act) → IsSession K w → IsHeldBy w t p → P w → P (acts K t p a w).world
  acts_keep w p a session held h =
      let k = short K (partition_at w p).state a in
      let drawn = draws K t p k w in
      acted_keeps w p a drawn (draws_done K good w t p a k session held refl) (draws_keep k w p a session held refl h) drawn.spent refl

  -- ---- every order

  module _ (w : WorldState) (s : ThreadState) (session : IsSession K w) (all : AllByRecursion (IsHeldBy w t) s.held) (ascends : Ascends s.held) (h : P w) where
    lock_keeps : (p : ℕ) (c : Carried) → (1 ≤ p) × (p ≤ length w.partitions) → (o : Option ℕ) → (partition_at w p).state.holder ≡ o → lock_by K t w s p o ≡ Some c → P c.world
    lock_keeps p c in' None is k = subst (λ (x : Carried). P x.world) (same_Some _ c k) (claim_keeps w p session in' is h)
    lock_keeps p c in' (Some u) is k = absurd (cc)

    carry_keeps : (o : Order) (c : Carried) → refusal_of_order (length w.partitions) (walker_now s) o ≡ None → carry K t w s o ≡ Some c → P c.world
    carry_keeps (Lock p) c none k = lock_keeps p c (lock_allowed (length w.partitions) s p none).within (partition_at w p).state.holder refl k
    carry_keeps (Unlock p) c none k =
        let own = held_each (IsHeldBy w t) s.held p all (unlock_allowed (length w.partitions) s p none) in
        subst (λ (x : Carried). P x.world) (same_Some _ c k) (release_keeps w p session own h)
    carry_keeps End c none k = subst (λ (x : Carried). P x.world) (same_Some _ c k) (released_keep w s.held session all ascends h)
    carry_keeps (On p a operands bind) c none k =
        let own = held_each (IsHeldBy w t) s.held p all (act_allowed (length w.partitions) s p a operands bind none) in
        subst (λ (x : Carried). P x.world) (same_Some _ c k) (acts_keep w p (act_with_tags (walker_now s) a operands) session own h)

    obey_keeps_by : (o : Order) (c : Carried) (q : Option Refusal) → refusal_of_order (length w.partitions) (walker_now s) o ≡ q → obey_by K t w s o q ≡ Some c → P c.world
    obey_keeps_by o c None is k = carry_keeps o c is k
    obey_keeps_by o c (Some r) is k = subst (λ (x : Carried). P x.world) (same_Some _ c k) h

    -- An order that the thread obeys keeps it.
    pub obey_keeps : (o : Order) (c : Carried) → obey K t w s o ≡ Some c → P c.world
    obey_keeps o c k = obey_keeps_by o c (refusal_of_order (length w.partitions) (walker_now s) o) refl k
