-- What the lines of a thread were told is what they say, walked over its entries: an order that the thread obeys keeps it.
use Rattle.std.proofs.Common.{◌≡◌, ℕ, zero, suc, ◌-◌, ◌<◌, ◌≤◌, Bool, true, false, cond, List, [], ◌∷◌, ◌++◌, length, get_or, Option, None, Some, refl, sym, ap, subst, ◌∙◌, arith}
use Rattle.std.specs.Prelude.{nat_le, slice_set}
use Rattle.std.specs.List.{AllByRecursion}
use Rattle.std.proofs.lemmas.Bool.{leb-true}
use Rattle.std.proofs.lemmas.List.{append_assoc, get_or-set_same, length-map, set-set}
use Rattle.std.proofs.lemmas.Option.{same_Some}
use Rattle.pk_base.specs.declared.entity.Name.{Name}
use Rattle.pk_base.specs.declared.act.Act.{Act}
use Rattle.pk_base.specs.declared.act.Entry.{Entry}
use Rattle.pk_base.specs.declared.act.Entry.TheVariants.{Claimed, Drew, Did, Spent, Released}
use Rattle.pk_base.specs.declared.refusal.Refusal.{Refusal}
use Rattle.pk_model.specs.Modelling.{Modelling, IsModeller}
use Rattle.pk_model.specs.Step.{reach_of, short, Stepped, with_answer}
use Rattle.pk_model.specs.Replay.{answered_entries_from, thread_of}
use Rattle.pk_model.specs.Tags.{Ascends}
use Rattle.pk_model.proofs.Replays.{answered_entries_from-step, told_of}
use Rattle.world_core.specs.declared.event.Event.{Event}
use Rattle.world_core.specs.declared.event.Event.TheVariants as event
use Rattle.world_core.specs.Event.{partition_of}
use Rattle.world_core.specs.World.{WorldPartition, WorldState, partition_at}
use Rattle.world_core.specs.Session.{IsSession, journals_of}
use Rattle.world_core.specs.Runs.{after_event}
use Rattle.script_text.specs.Walk.{ActTakes, act_with_tags, refusal_of_order}
use Rattle.script_text.specs.declared.script.ScriptLine.{ScriptLine}
use Rattle.script_text.specs.declared.script.Order.{Order}
use Rattle.script_text.specs.declared.script.Order.TheVariants.{Lock, Unlock, End, On}
use Rattle.script_text.specs.declared.script.Operand.{Operand}
use Rattle.script_thread.specs.Thread.{ThreadState, walker_now}
use Rattle.script_thread.specs.Walked.{IsWalked}
use Rattle.script_thread.specs.Journals.{with_entries}
use Rattle.script_thread.proofs.Allowed.{act_allowed, lock_allowed, unlock_allowed}
use Rattle.script_thread.proofs.HeldLists.{held_each}
use Rattle.script_thread.proofs.Walked.{IsOwn, act_walked, away_walked, end_walked, lock_walked, unlock_walked, with_releases}
use Rattle.serial_run.specs.Serial.{Acted, Carried, act_after, acts_by, by, carry, carry_act, carry_claim, carry_end, carry_unlock, draws, lock_by, obey, obey_by, released, told}
use Rattle.serial_run.specs.Reached.{IsHeldBy}
use Rattle.serial_run.proofs.Walkers.{journals_grow, replayed}
use Rattle.serial_run.proofs.Events.{EventDone, act_done, claim_done, draw_done, drew, give_up_done, gave_up, one_drawn, release_done, rest_held, with_answer-answer}

-- an event that is done leaves its entry
entry_left : (K : Modelling) (w : WorldState) (t : ℕ) (v : Event) (e : Entry) (r : Stepped) → EventDone K w t v e r → journals_of (after_event K w (by t v)) ≡ with_entries (journals_of w) (partition_of v) (e ∷ [])
entry_left K w t v e r d = ap journals_of d.after ∙ journals_grow w (partition_of v) e r.state

journal_count : (w : WorldState) → length (journals_of w) ≡ length w.partitions
journal_count w = length-map w.partitions (λ (q : WorldPartition). q.journal)

-- ---- an act

-- one entry first, and others behind it
entries_join : (journals : List (List Entry)) (p : ℕ) (e : Entry) (es : List Entry) → 1 ≤ p → p ≤ length journals → with_entries (with_entries journals p (e ∷ [])) p es ≡ with_entries journals p (e ∷ es)
entries_join journals p e es first last =
    let old = get_or journals (p - 1) [] in
    ap (λ j. slice_set (with_entries journals p (e ∷ [])) (p - 1) (j ++ es)) (get_or-set_same journals (p - 1) (old ++ e ∷ []) [] (omega (arith, first, last)))
    ∙ set-set journals (p - 1) (old ++ e ∷ []) ((old ++ e ∷ []) ++ es)
    ∙ ap (slice_set journals (p - 1)) (append_assoc old (e ∷ []) es)

-- What an act of thread t leaves: entries of its own on its partition, all of which it takes.
record ActLeaves (K : Modelling) (t p : ℕ) (a : Act) (w : WorldState) (done : Acted) : Type 0 where
  entries : List Entry
  journals : journals_of done.world ≡ with_entries (journals_of w) p entries
  own : AllByRecursion (λ e. thread_of e ≡ t) entries
  taken : ActTakes K t a (answered_entries_from K (partition_at w p).state entries) done.answer []

-- it leaves one entry
one_leaves : (K : Modelling) (t p : ℕ) (a : Act) (w : WorldState) (done : Acted) (e : Entry) (r : Stepped) → journals_of done.world ≡ with_entries (journals_of w) p (e ∷ []) → thread_of e ≡ t → answered_entries_from K (partition_at w p).state (e ∷ []) ≡ told_of (partition_at w p).state e r ∷ [] → ActTakes K t a (told_of (partition_at w p).state e r ∷ []) done.answer [] → ActLeaves K t p a w done
one_leaves K t p a w done e r journals own answered taken = record {
  entries = e ∷ [];
  journals = journals;
  own = (own, tt);
  taken = subst (λ xs. ActTakes K t a xs done.answer []) (sym answered) taken;
}

module _ (K : Modelling) (good : IsModeller K) (t p : ℕ) (a : Act) where
  did_leaves : (w : WorldState) → IsSession K w → IsHeldBy w t p → short K (partition_at w p).state a ≡ 0 → ActLeaves K t p a w (acts_by K t p a w None)
  did_leaves w session held enough =
      let st = (partition_at w p).state in
      let r = with_answer st (reach_of K st a) in
      let d = act_done K good w t p a session held enough in
      one_leaves K t p a w (acts_by K t p a w None) (Did t a) r (entry_left K w t (event.Act p a) (Did t a) r d) refl (answered_entries_from-step K st (Did t a) [] r d.steps)
      (refl, (with_answer-answer st (reach_of K st a), refl))

  gave_up_leaves : (w : WorldState) (next : ℕ) → IsSession K w → IsHeldBy w t p → 0 < short K (partition_at w p).state a → ActLeaves K t p a w (acts_by K t p a w (Some next))
  gave_up_leaves w next session held missing =
      let st = (partition_at w p).state in
      let r = gave_up st next in
      let d = give_up_done K good w t p a next session held missing in
      one_leaves K t p a w (acts_by K t p a w (Some next)) (Spent t next a) r (entry_left K w t (event.GiveUp p a next) (Spent t next a) r d) refl (answered_entries_from-step K st (Spent t next a) [] r d.steps)
      (refl, (refl, refl))

  -- a draw first, where the act is short
  drew_leaves : (w : WorldState) (done : Acted) → IsSession K w → IsHeldBy w t p → 0 < short K (partition_at w p).state a → EventDone K w t (event.Draw p) (Drew t w.blocks.next) (drew (partition_at w p).state w.blocks.next) → ActLeaves K t p a (after_event K w (by t (event.Draw p))) done → ActLeaves K t p a w done
  drew_leaves w done session held missing d more =
      let st = (partition_at w p).state in
      let e = Drew t w.blocks.next in
      let r = drew st w.blocks.next in
      let es = more.entries in
      let last : p ≤ length (journals_of w) = let l = held.last in let c = journal_count w in omega (arith, l, c) in
      let answered : answered_entries_from K st (e ∷ es) ≡ told_of st e r ∷ answered_entries_from K r.state es = answered_entries_from-step K st e es r d.steps in
      let rest : ActTakes K t a (answered_entries_from K r.state es) done.answer [] = subst (λ x. ActTakes K t a (answered_entries_from K x es) done.answer []) d.state more.taken in
      record {
        entries = e ∷ es;
        journals = more.journals ∙ ap (λ js. with_entries js p es) (entry_left K w t (event.Draw p) e r d) ∙ entries_join (journals_of w) p e es held.first last;
        own = (refl, more.own);
        taken = subst (λ xs. ActTakes K t a xs done.answer []) (sym answered) (refl, (missing, rest));
      }

  -- as many draws as blocks are missing, and then the act
  act_leaves : (k : ℕ) (w : WorldState) → IsSession K w → IsHeldBy w t p → short K (partition_at w p).state a ≡ k → ActLeaves K t p a w (act_after K t p a (draws K t p k w))
  act_leaves zero w session held missing = did_leaves w session held missing
  act_leaves (suc k) w session held missing =
      let mid = after_event K w (by t (event.Draw p)) in
      let some : 0 < short K (partition_at w p).state a = omega (arith, missing) in
      elim (nat_le w.blocks.next w.blocks.last) as (λ (b : Bool). nat_le w.blocks.next w.blocks.last ≡ b → ActLeaves K t p a w (act_after K t p a (cond b (draws K t p k (after_event K w (by t (event.Draw p)))) (record { world = w; spent = Some w.blocks.next })))) [
        | true ↦ λ is.
            let d = draw_done K good w t p session held (leb-true _ _ is) in
            let one = one_drawn K good w t p a k session held missing d in
            drew_leaves w (act_after K t p a (draws K t p k mid)) session held some d (act_leaves k mid d.session one.0 one.1)
        | false ↦ λ is. gave_up_leaves w w.blocks.next session held some
      ] refl

-- ---- the end

-- the release of partitions, one after another, leaves their entries
releases_left : (K : Modelling) → IsModeller K → (w : WorldState) (t : ℕ) (ps : List ℕ) → IsSession K w → AllByRecursion (IsHeldBy w t) ps → Ascends ps → journals_of (released K t ps w) ≡ with_releases t ps (journals_of w)
releases_left K good w t [] session all ascends = refl
releases_left K good w t (p ∷ ps) session all ascends =
    let d = release_done K good w t p session all.0 in
    releases_left K good (after_event K w (by t (event.Release p))) t ps d.session (rest_held K good w t p ps session all ascends) ascends.1
    ∙ ap (with_releases t ps) (entry_left K w t (event.Release p) (Released t) _ d)

-- what a thread holds in a world is its own by the journals
all_own : (K : Modelling) → IsModeller K → (w : WorldState) (n t : ℕ) (ps : List ℕ) → IsSession K w → length w.partitions ≡ n → AllByRecursion (IsHeldBy w t) ps → AllByRecursion (IsOwn K n t (journals_of w)) ps
all_own K good w n t [] session count all = tt
all_own K good w n t (p ∷ ps) session count all =
    let h = all.0 in
    let last = h.last in
    let one : IsOwn K n t (journals_of w) p = record {
      first = h.first;
      last = omega (arith, last, count);
      state = (partition_at w p).state;
      replays = replayed K good w p session h.first h.last;
      holder = h.holder;
    } in
    (one, all_own K good w n t ps session count all.1)

-- ---- every order

module _ (K : Modelling) (good : IsModeller K) (n t : ℕ) (lines : List ScriptLine) (w : WorldState) (s : ThreadState) (session : IsSession K w) (count : length w.partitions ≡ n) (h : IsWalked K n t (journals_of w) lines s) (k : ℕ) where
  -- with line k more, what was told is what the lines say
  abbrev Goes : Order → Carried → Type 0
  Goes o c = IsWalked K n t (journals_of c.world) (lines ++ record { number = k; order = o } ∷ []) (told s k c)

  abbrev counted : length (journals_of w) ≡ n
  counted = journal_count w ∙ count

  -- where these journals are those of the world after the order
  goes : (o : Order) (c : Carried) (journals : List (List Entry)) → journals_of c.world ≡ journals → IsWalked K n t journals (lines ++ record { number = k; order = o } ∷ []) (told s k c) → Goes o c
  goes o c journals same walked = subst (λ js. IsWalked K n t js (lines ++ record { number = k; order = o } ∷ []) (told s k c)) (sym same) walked

  lock_goes : (p : ℕ) → refusal_of_order n (walker_now s) (Lock p) ≡ None → (1 ≤ p) × (p ≤ n) → (partition_at w p).state.holder ≡ None → Goes (Lock p) (carry_claim K t w s p)
  lock_goes p none (first, last) free =
      let last' : p ≤ length w.partitions = omega (arith, last, count) in
      let d = claim_done K good w t p session first last' free in
      goes (Lock p) (carry_claim K t w s p) (with_entries (journals_of w) p (Claimed t ∷ [])) (entry_left K w t (event.Claim p) (Claimed t) _ d)
      (lock_walked K n t lines s (journals_of w) counted h k p (partition_at w p).state none first last (replayed K good w p session first last') free)

  unlock_goes : (p : ℕ) → refusal_of_order n (walker_now s) (Unlock p) ≡ None → IsHeldBy w t p → Goes (Unlock p) (carry_unlock K t w s p)
  unlock_goes p none held =
      let d = release_done K good w t p session held in
      let last : p ≤ n = let l = held.last in omega (arith, l, count) in
      goes (Unlock p) (carry_unlock K t w s p) (with_entries (journals_of w) p (Released t ∷ [])) (entry_left K w t (event.Release p) (Released t) _ d)
      (unlock_walked K n t lines s (journals_of w) counted h k p (partition_at w p).state none held.first last (replayed K good w p session held.first held.last) held.holder)

  act_goes : (p : ℕ) (a : Act) (operands : List Operand) (bind : Option Name) → refusal_of_order n (walker_now s) (On p a operands bind) ≡ None → IsHeldBy w t p → Goes (On p a operands bind) (carry_act K t w s p (act_with_tags (walker_now s) a operands) bind)
  act_goes p a operands bind none held =
      let b = act_with_tags (walker_now s) a operands in
      let done = act_after K t p b (draws K t p (short K (partition_at w p).state b) w) in
      let left = act_leaves K good t p b (short K (partition_at w p).state b) w session held refl in
      let last : p ≤ n = let l = held.last in omega (arith, l, count) in
      goes (On p a operands bind) (carry_act K t w s p b bind) (with_entries (journals_of w) p left.entries) left.journals
      (act_walked K n t lines s (journals_of w) counted h k p a operands bind left.entries (partition_at w p).state done.answer none held.first last (replayed K good w p session held.first held.last) left.own left.taken)

  lock_by_goes : (p : ℕ) (c : Carried) → refusal_of_order n (walker_now s) (Lock p) ≡ None → (1 ≤ p) × (p ≤ n) → (o : Option ℕ) → (partition_at w p).state.holder ≡ o → lock_by K t w s p o ≡ Some c → Goes (Lock p) c
  lock_by_goes p c none in' None is e = subst (Goes (Lock p)) (same_Some _ c e) (lock_goes p none in' is)
  lock_by_goes p c none in' (Some u) is e = absurd (cc)

  -- an order that is not turned away
  carry_goes : (o : Order) (c : Carried) → AllByRecursion (IsHeldBy w t) s.held → Ascends s.held → refusal_of_order n (walker_now s) o ≡ None → carry K t w s o ≡ Some c → Goes o c
  carry_goes (Lock p) c all ascends none e = lock_by_goes p c none (lock_allowed n s p none).within (partition_at w p).state.holder refl e
  carry_goes (Unlock p) c all ascends none e =
      let own = held_each (IsHeldBy w t) s.held p all (unlock_allowed n s p none) in
      subst (Goes (Unlock p)) (same_Some _ c e) (unlock_goes p none own)
  carry_goes End c all ascends none e =
      subst (Goes End) (same_Some _ c e)
      (goes End (carry_end K t w s) (with_releases t s.held (journals_of w)) (releases_left K good w t s.held session all ascends)
      (end_walked K n t lines s (journals_of w) k counted h (all_own K good w n t s.held session count all) ascends))
  carry_goes (On p a operands bind) c all ascends none e =
      let own = held_each (IsHeldBy w t) s.held p all (act_allowed n s p a operands bind none) in
      subst (Goes (On p a operands bind)) (same_Some _ c e) (act_goes p a operands bind none own)

  obey_goes : (o : Order) (c : Carried) → AllByRecursion (IsHeldBy w t) s.held → Ascends s.held → (q : Option Refusal) → refusal_of_order n (walker_now s) o ≡ q → obey_by K t w s o q ≡ Some c → Goes o c
  obey_goes o c all ascends None is e = carry_goes o c all ascends is e
  obey_goes o c all ascends (Some r) is e = subst (Goes o) (same_Some _ c e) (away_walked K n t lines s (journals_of w) counted h k o r is)

  -- With an order more that the thread obeys, what it was told is what its lines say.
  pub order_walked : (o : Order) (c : Carried) → AllByRecursion (IsHeldBy w t) s.held → Ascends s.held → obey K t w s o ≡ Some c → Goes o c
  order_walked o c all ascends e =
      obey_goes o c all ascends (refusal_of_order (length w.partitions) (walker_now s) o) (ap (λ m. refusal_of_order m (walker_now s) o) (sym count)) e
