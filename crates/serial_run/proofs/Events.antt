-- What the events of a thread leave: each that may happen, the draws for an act, an act, and the release of several
-- partitions.
use Rattle.std.proofs.Common.{◌≡◌, ℕ, zero, suc, ◌+◌, ◌-◌, ◌*◌, ◌<◌, ◌≤◌, ⊎_elim, Bool, true, false, cond, List, [], ◌∷◌, ◌++◌, length, Option, Some, None, Result, Ok, Err, refl, sym, ap, subst, ◌∙◌, arith}
use Rattle.std.specs.Prelude.{◌≢◌, ◌==◌, nat_le, option_map, unwrap_or}
use Rattle.std.specs.Option.{option_map_or}
use Rattle.std.specs.Result.{result_map_both}
use Rattle.std.specs.List.{AllByRecursion}
use Rattle.std.proofs.lemmas.Bool.{eq-eqb, eqb-true, le-leb, leb-true, leb-false, or_cases, or_from, or_left, or_parts, true≢false}
use Rattle.std.proofs.lemmas.Option.{same_Some, cond_some, none-some}
use Rattle.std.proofs.lemmas.List.{get_or-set_same, get_or-set_other, length-set, length-append}
use Rattle.pk_base.specs.declared.act.Act.{Act}
use Rattle.pk_base.specs.declared.act.Act.TheVariants as act
use Rattle.pk_base.specs.declared.act.Entry.{Entry}
use Rattle.pk_base.specs.declared.act.Entry.TheVariants.{Claimed, Drew, Did, Spent, Released}
use Rattle.pk_base.specs.declared.refusal.Refusal.{Refusal}
use Rattle.pk_base.specs.declared.refusal.Refusal.TheVariants as refusal
use Rattle.pk_model.specs.State.{PartitionState, holds}
use Rattle.pk_model.specs.Modelling.{Modelling, IsModeller}
use Rattle.pk_model.specs.Tags.{Ascends, next_tags}
use Rattle.pk_model.specs.Step.{Reach, act_cost, blocks_short, call_reaches, short, step, Stepped, with_answer, without_answer, reach_of, mark_at, parent_of, ◌>>=◌}
use Rattle.pk_model.specs.Replay.{drawn_block}
use Rattle.pk_model.proofs.Steps.{holder_holds, step-claimed, step-released, step-did}
use Rattle.pk_model.proofs.TagsTaken.{replay-kept}
use Rattle.partition.proofs.Draws.{step-drew, step-spent}
use Rattle.world_core.specs.declared.event.Event.{Event}
use Rattle.world_core.specs.declared.event.Event.TheVariants as event
use Rattle.world_core.specs.declared.event.Said.{Said}
use Rattle.world_core.specs.declared.event.Said.TheVariants as said
use Rattle.world_core.specs.declared.event.WorldNo.{WorldNo}
use Rattle.world_core.specs.declared.event.WorldNo.TheVariants as no
use Rattle.world_core.specs.Event.{Supply, entry_of, partition_of}
use Rattle.world_core.specs.World.{WorldPartition, WorldState, Happening, IsAsLarge, happening_by, step_by, world_step, partition_at, opened, with_entry, after_draw}
use Rattle.world_core.specs.Session.{IsSession}
use Rattle.world_core.specs.Runs.{after_event}
use Rattle.world_core.proofs.Sessions.{owns_below, replays_at, step_kept}
use Rattle.script_text.specs.Walk.{is_held}
use Rattle.serial_run.specs.Serial.{Drawn, act_after, acts, acts_by, by, draws, released}
use Rattle.serial_run.specs.Reached.{IsHeldBy}

-- ---- one event

-- The event of thread t is done: it appends the entry e to the journal of its partition, which goes on by the step r of
-- this entry. All other partitions stay, and the world is a session again, as large.
pub record EventDone (K : Modelling) (w : WorldState) (t : ℕ) (v : Event) (e : Entry) (r : Stepped) : Type 0 where
  pub steps : step K (partition_at w (partition_of v)).state e ≡ Some r
  pub happens : world_step K w t v ≡ Some (happening_by w (partition_of v) e r)
  pub after : after_event K w (by t v) ≡ with_entry w (partition_of v) e r.state
  pub session : IsSession K (after_event K w (by t v))
  pub large : IsAsLarge w (after_event K w (by t v))
  pub blocks : (after_event K w (by t v)).blocks ≡ after_draw w.blocks (drawn_block e)
  pub state : (partition_at (after_event K w (by t v)) (partition_of v)).state ≡ r.state
  pub journal : (partition_at (after_event K w (by t v)) (partition_of v)).journal ≡ (partition_at w (partition_of v)).journal ++ e ∷ []
  pub others : (q : ℕ) → 1 ≤ q → q ≢ partition_of v → partition_at (after_event K w (by t v)) q ≡ partition_at w q

-- a draw leaves the last block as it is
after_draw-last : (blocks : Supply) (o : Option ℕ) → (after_draw blocks o).last ≡ blocks.last
after_draw-last blocks None = refl
after_draw-last blocks (Some b) = refl

-- an event is done where it asks for an entry whose step is defined
pub event_done : (K : Modelling) → IsModeller K → (w : WorldState) (t : ℕ) (v : Event) (e : Entry) (r : Stepped) → IsSession K w → 1 ≤ partition_of v → partition_of v ≤ length w.partitions → entry_of (partition_at w (partition_of v)).state w.blocks t v ≡ Ok e → step K (partition_at w (partition_of v)).state e ≡ Some r → EventDone K w t v e r
event_done K good w t v e r session first last asked steps =
    let p = partition_of v in
    let place : p - 1 < length w.partitions = omega arith in
    let new : WorldPartition = record { state = r.state; journal = (partition_at w p).journal ++ e ∷ [] } in
    let happens : world_step K w t v ≡ Some (happening_by w p e r) = ap (step_by K w p) asked ∙ ap (option_map (happening_by w p e)) steps in
    let after : after_event K w (by t v) ≡ with_entry w p e r.state = ap (λ o. option_map_or (λ (h : Happening). h.world) o w) happens in
    let here : partition_at (with_entry w p e r.state) p ≡ new = get_or-set_same w.partitions (p - 1) new (opened p) place in
    record {
      steps = steps;
      happens = happens;
      after = after;
      session = subst (IsSession K) (sym after) (step_kept K good w t v session first last (happening_by w p e r) happens);
      large = subst (IsAsLarge w) (sym after) (record {
        partitions = length-set w.partitions (p - 1) new;
        threads = refl;
        last = after_draw-last w.blocks (drawn_block e);
      });
      blocks = ap (λ (x : WorldState). x.blocks) after;
      state = ap (λ (x : WorldState). (partition_at x p).state) after ∙ ap (λ (k : WorldPartition). k.state) here;
      journal = ap (λ (x : WorldState). (partition_at x p).journal) after ∙ ap (λ (k : WorldPartition). k.journal) here;
      others = λ q one other.
          ap (λ (x : WorldState). partition_at x q) after
          ∙ get_or-set_other w.partitions (p - 1) (q - 1) new (opened q) (λ (e : q - 1 ≡ p - 1). other (omega arith));
    }

-- what a claim by thread t leads to
abbrev pub claimed : PartitionState → ℕ → Stepped
claimed s t = record { state = record s { holder = Some t }; answer = None }

-- thread t claims partition p, which is free
pub claim_done : (K : Modelling) → IsModeller K → (w : WorldState) (t p : ℕ) → IsSession K w → 1 ≤ p → p ≤ length w.partitions → (partition_at w p).state.holder ≡ None → EventDone K w t (event.Claim p) (Claimed t) (claimed (partition_at w p).state t)
claim_done K good w t p session first last free =
    let asked : entry_of (partition_at w p).state w.blocks t (event.Claim p) ≡ Ok (Claimed t) =
    ap (λ (o : Option ℕ). elim o as (λ (_ : Option ℕ). Result Entry WorldNo) [ None ↦ Ok (Claimed t) | Some holder ↦ Err (no.Blocked holder) ]) free in
    event_done K good w t (event.Claim p) (Claimed t) (claimed (partition_at w p).state t) session first last asked (step-claimed K (partition_at w p).state t free)

-- what a release leads to
abbrev pub freed : PartitionState → Stepped
freed s = record { state = record s { holder = None }; answer = None }

-- thread t releases partition p, which it holds
pub release_done : (K : Modelling) → IsModeller K → (w : WorldState) (t p : ℕ) → IsSession K w → IsHeldBy w t p → EventDone K w t (event.Release p) (Released t) (freed (partition_at w p).state)
release_done K good w t p session held =
    event_done K good w t (event.Release p) (Released t) (freed (partition_at w p).state) session held.first held.last refl (step-released K (partition_at w p).state t held.holder)

-- what a draw of block b leads to
abbrev pub drew : PartitionState → ℕ → Stepped
drew s b = record { state = record s { blocks = s.blocks ++ b ∷ [] }; answer = None }

-- thread t draws the next block for partition p, which it holds, where one is left
pub draw_done : (K : Modelling) → IsModeller K → (w : WorldState) (t p : ℕ) → IsSession K w → IsHeldBy w t p → w.blocks.next ≤ w.blocks.last → EventDone K w t (event.Draw p) (Drew t w.blocks.next) (drew (partition_at w p).state w.blocks.next)
draw_done K good w t p session held some =
    let s = (partition_at w p).state in
    let next = w.blocks.next in
    let asked : entry_of s w.blocks t (event.Draw p) ≡ Ok (Drew t next) =
    ap (λ b. cond b (Ok (Drew t next)) (Err (no.Spent next))) (le-leb next w.blocks.last some) in
    event_done K good w t (event.Draw p) (Drew t next) (drew s next) session held.first held.last asked (step-drew K s t next held.holder (owns_below K good w p session held.first held.last))

-- thread t does an act on partition p, which it holds and which has tags enough for it
pub act_done : (K : Modelling) → IsModeller K → (w : WorldState) (t p : ℕ) (a : Act) → IsSession K w → IsHeldBy w t p → short K (partition_at w p).state a ≡ 0 → EventDone K w t (event.Act p a) (Did t a) (with_answer (partition_at w p).state (reach_of K (partition_at w p).state a))
act_done K good w t p a session held enough =
    let s = (partition_at w p).state in
    event_done K good w t (event.Act p a) (Did t a) (with_answer s (reach_of K s a)) session held.first held.last refl (step-did K s t a held.holder enough)

-- what an act that is given up leads to
abbrev pub gave_up : PartitionState → ℕ → Stepped
gave_up s next = record { state = s; answer = Some (Err (refusal.TagsSpent next)) }

-- thread t gives up an act on partition p, which it holds and which is short of tags for it
pub give_up_done : (K : Modelling) → IsModeller K → (w : WorldState) (t p : ℕ) (a : Act) (next : ℕ) → IsSession K w → IsHeldBy w t p → 0 < short K (partition_at w p).state a → EventDone K w t (event.GiveUp p a next) (Spent t next a) (gave_up (partition_at w p).state next)
give_up_done K good w t p a next session held missing =
    let s = (partition_at w p).state in
    event_done K good w t (event.GiveUp p a next) (Spent t next a) (gave_up s next) session held.first held.last refl (step-spent K s t next a held.holder missing)

-- ---- who holds

abbrev KeepsHolder : PartitionState → Result Reach Refusal → Type 0
KeepsHolder s o = (with_answer s o).state.holder ≡ s.holder

bind_keeps : {A : Type 0} (s : PartitionState) (o : Result A Refusal) (f : A → Result Reach Refusal) → ((x : A) → KeepsHolder s (f x)) → KeepsHolder s (o >>= f)
bind_keeps s (Ok x) f h = h x
bind_keeps s (Err e) f h = refl

-- an act leaves the holder as it is
pub reach-holder : (K : Modelling) (s : PartitionState) (a : Act) → (with_answer s (reach_of K s a)).state.holder ≡ s.holder
reach-holder K s (act.Call c) = bind_keeps s (K.step s.now c (next_tags s.blocks s.used)) (λ o. Ok (call_reaches K s (K.cost s.now c) o)) (λ o. refl)
reach-holder K s act.Mark = refl
reach-holder K s (act.Goto m) = bind_keeps s (mark_at s m) _ (λ k. refl)
reach-holder K s (act.Unmark m) = bind_keeps s (mark_at s m) _ (λ k. bind_keeps s (parent_of k) _ (λ p. refl))
reach-holder K s act.Marks = refl
reach-holder K s (act.Delta m) = bind_keeps s (mark_at s m) _ (λ k. bind_keeps s (parent_of k) _ (λ p. bind_keeps s (mark_at s p) _ (λ q. refl)))

-- the step of an act that is done answers what the act does
pub with_answer-answer : (s : PartitionState) (o : Result Reach Refusal) → (with_answer s o).answer ≡ Some (result_map_both (λ (r : Reach). r.reply) (λ e. e) o)
with_answer-answer s (Ok r) = refl
with_answer-answer s (Err e) = refl

-- Partition p alone may have changed. The world is a session, as large as the old one.
pub record AltersOne (K : Modelling) (p : ℕ) (old new : WorldState) : Type 0 where
  pub session : IsSession K new
  pub large : IsAsLarge old new
  pub others : (q : ℕ) → 1 ≤ q → q ≢ p → partition_at new q ≡ partition_at old q

pub IsAsLarge-refl : (w : WorldState) → IsAsLarge w w
IsAsLarge-refl w = record { partitions = refl; threads = refl; last = refl }

pub AltersOne-refl : (K : Modelling) (p : ℕ) (w : WorldState) → IsSession K w → AltersOne K p w w
AltersOne-refl K p w session = record {
  session = session;
  large = IsAsLarge-refl w;
  others = λ q one other. refl;
}

pub IsAsLarge-trans : (a b c : WorldState) → IsAsLarge a b → IsAsLarge b c → IsAsLarge a c
IsAsLarge-trans a b c x y = record {
  partitions = y.partitions ∙ x.partitions;
  threads = y.threads ∙ x.threads;
  last = y.last ∙ x.last;
}

pub AltersOne-trans : (K : Modelling) (p : ℕ) (a b c : WorldState) → AltersOne K p a b → AltersOne K p b c → AltersOne K p a c
AltersOne-trans K p a b c x y = record {
  session = y.session;
  large = IsAsLarge-trans a b c x.large y.large;
  others = λ q one other. y.others q one other ∙ x.others q one other;
}

-- an event that is done alters its partition alone
pub done_alters : (K : Modelling) (w : WorldState) (t : ℕ) (v : Event) (e : Entry) (r : Stepped) → EventDone K w t v e r → AltersOne K (partition_of v) w (after_event K w (by t v))
done_alters K w t v e r d = record { session = d.session; large = d.large; others = d.others }

-- who holds a partition still does, where it is as it was
held_same : (old new : WorldState) (u q : ℕ) → IsAsLarge old new → partition_at new q ≡ partition_at old q → IsHeldBy old u q → IsHeldBy new u q
held_same old new u q large same h = record {
  first = h.first;
  last = omega (arith, large.partitions, h.last);
  holder = ap (λ (k : WorldPartition). k.state.holder) same ∙ h.holder;
}

-- who holds another partition still does
pub held_still : (K : Modelling) (p u q : ℕ) (old new : WorldState) → AltersOne K p old new → q ≢ p → IsHeldBy old u q → IsHeldBy new u q
held_still K p u q old new x other h = held_same old new u q x.large (x.others q h.first other) h

-- and did before
pub held_before : (K : Modelling) (p u q : ℕ) (old new : WorldState) → AltersOne K p old new → q ≢ p → IsHeldBy new u q → IsHeldBy old u q
held_before K p u q old new x other h = record {
  first = h.first;
  last = let n = x.large.partitions in let l = h.last in omega arith;
  holder = sym (ap (λ (k : WorldPartition). k.state.holder) (x.others q h.first other)) ∙ h.holder;
}

-- the partition itself is held by whom its new state says
pub held_after : (K : Modelling) (p t : ℕ) (old new : WorldState) → AltersOne K p old new → 1 ≤ p → p ≤ length old.partitions → (partition_at new p).state.holder ≡ Some t → IsHeldBy new t p
held_after K p t old new x first last holder = record {
  first = first;
  last = let n = x.large.partitions in omega arith;
  holder = holder;
}

-- ---- the draws for an act

-- one block more is one less that is missing
one_less : (cost count used : ℕ) → used ≤ 64 * count → blocks_short cost (64 * (count + 1) - used) ≡ blocks_short cost (64 * count - used) - 1
one_less cost count used h = omega arith

-- what an act costs does not depend on the blocks
act_cost-drew : (K : Modelling) (s : PartitionState) (b : ℕ) (a : Act) → act_cost K (drew s b).state a ≡ act_cost K s a
act_cost-drew K s b (act.Call c) = refl
act_cost-drew K s b act.Mark = refl
act_cost-drew K s b (act.Goto m) = refl
act_cost-drew K s b (act.Unmark m) = refl
act_cost-drew K s b act.Marks = refl
act_cost-drew K s b (act.Delta m) = refl

-- a block that is drawn is one less that is missing
pub short-drew : (K : Modelling) (s : PartitionState) (b : ℕ) (a : Act) → s.used ≤ 64 * length s.blocks → short K (drew s b).state a ≡ short K s a - 1
short-drew K s b a h =
    ap (λ cost. blocks_short cost (64 * length (s.blocks ++ b ∷ []) - s.used)) (act_cost-drew K s b a)
    ∙ ap (λ n. blocks_short (act_cost K s a) (64 * n - s.used)) (length-append s.blocks (b ∷ []))
    ∙ one_less (act_cost K s a) (length s.blocks) s.used h

-- in a session no partition has taken more tags than it has
pub used_within : (K : Modelling) → IsModeller K → (w : WorldState) (p : ℕ) → IsSession K w → 1 ≤ p → p ≤ length w.partitions → (partition_at w p).state.used ≤ 64 * length (partition_at w p).state.blocks
used_within K good w p session first last =
    (replay-kept K good p (partition_at w p).journal (partition_at w p).state (replays_at K good w p session first last)).within

-- What is left of the draws of thread t for an act on partition p: it alone may have changed, and t holds it; no block is
-- missing, or none is left, and the act is short.
pub record DrawsDone (K : Modelling) (t p : ℕ) (a : Act) (w : WorldState) (drawn : Drawn) : Type 0 where
  pub alters : AltersOne K p w drawn.world
  pub held : IsHeldBy drawn.world t p
  pub enough : drawn.spent ≡ None → short K (partition_at drawn.world p).state a ≡ 0
  pub missing : (next : ℕ) → drawn.spent ≡ Some next → 0 < short K (partition_at drawn.world p).state a
  pub next : (next : ℕ) → drawn.spent ≡ Some next → next ≡ drawn.world.blocks.next
  pub above : (next : ℕ) → drawn.spent ≡ Some next → drawn.world.blocks.last < next

-- no draw, since no block is left
none_drawn : (K : Modelling) (t p : ℕ) (a : Act) (w : WorldState) (k : ℕ) → IsSession K w → IsHeldBy w t p → short K (partition_at w p).state a ≡ suc k → w.blocks.last < w.blocks.next → DrawsDone K t p a w (record { world = w; spent = Some w.blocks.next })
none_drawn K t p a w k session held missing above = record {
  alters = AltersOne-refl K p w session;
  held = held;
  enough = λ is. absurd (cc);
  missing = λ next is. omega arith;
  next = λ next is. sym (same_Some w.blocks.next next is);
  above = λ next is. let e = same_Some w.blocks.next next is in omega arith;
}

-- after one draw the thread still holds the partition, and one block less is missing
pub one_drawn : (K : Modelling) → IsModeller K → (w : WorldState) (t p : ℕ) (a : Act) (k : ℕ) → IsSession K w → IsHeldBy w t p → short K (partition_at w p).state a ≡ suc k → EventDone K w t (event.Draw p) (Drew t w.blocks.next) (drew (partition_at w p).state w.blocks.next) → IsHeldBy (after_event K w (by t (event.Draw p))) t p × (short K (partition_at (after_event K w (by t (event.Draw p))) p).state a ≡ k)
one_drawn K good w t p a k session held missing d =
    let mid = after_event K w (by t (event.Draw p)) in
    let s = (partition_at w p).state in
    let alters = done_alters K w t (event.Draw p) (Drew t w.blocks.next) (drew s w.blocks.next) d in
    let holder : (partition_at mid p).state.holder ≡ Some t = ap (λ (x : PartitionState). x.holder) d.state ∙ held.holder in
    let less : short K (partition_at mid p).state a ≡ suc k - 1 =
    ap (λ x. short K x a) d.state
    ∙ short-drew K s w.blocks.next a (used_within K good w p session held.first held.last)
    ∙ ap (λ n. n - 1) missing in
    (held_after K p t w mid alters held.first held.last holder, omega (arith, less))

-- one draw, and then others
drawn_more : (K : Modelling) (t p : ℕ) (a : Act) (w : WorldState) (drawn : Drawn) → EventDone K w t (event.Draw p) (Drew t w.blocks.next) (drew (partition_at w p).state w.blocks.next) → DrawsDone K t p a (after_event K w (by t (event.Draw p))) drawn → DrawsDone K t p a w drawn
drawn_more K t p a w drawn d rest =
    let alters = done_alters K w t (event.Draw p) (Drew t w.blocks.next) (drew (partition_at w p).state w.blocks.next) d in
    record {
      alters = AltersOne-trans K p w (after_event K w (by t (event.Draw p))) drawn.world alters rest.alters;
      held = rest.held;
      enough = rest.enough;
      missing = rest.missing;
      next = rest.next;
      above = rest.above;
    }

-- as many draws as blocks are missing
pub draws_done : (K : Modelling) → IsModeller K → (w : WorldState) (t p : ℕ) (a : Act) (k : ℕ) → IsSession K w → IsHeldBy w t p → short K (partition_at w p).state a ≡ k → DrawsDone K t p a w (draws K t p k w)
draws_done K good w t p a zero session held missing = record {
  alters = AltersOne-refl K p w session;
  held = held;
  enough = λ is. missing;
  missing = λ next is. absurd (cc);
  next = λ next is. absurd (cc);
  above = λ next is. absurd (cc);
}
draws_done K good w t p a (suc k) session held missing =
    let mid = after_event K w (by t (event.Draw p)) in
    elim (nat_le w.blocks.next w.blocks.last) as (λ (b : Bool). nat_le w.blocks.next w.blocks.last ≡ b → DrawsDone K t p a w (cond b (draws K t p k (after_event K w (by t (event.Draw p)))) (record { world = w; spent = Some w.blocks.next }))) [
      | true ↦ λ is.
          let d = draw_done K good w t p session held (leb-true _ _ is) in
          let one = one_drawn K good w t p a k session held missing d in
          drawn_more K t p a w (draws K t p k mid) d (draws_done K good mid t p a k d.session one.0 one.1)
      | false ↦ λ is. none_drawn K t p a w k session held missing (leb-false _ _ is)
    ] refl

-- a step that draws leaves the holder as it is
drew-holder : (K : Modelling) (s : PartitionState) (t b : ℕ) (r : Stepped) → step K s (Drew t b) ≡ Some r → r.state.holder ≡ s.holder
drew-holder K s t b r is = let c = cond_some _ _ r is in ap (λ (x : Stepped). x.state.holder) (sym c.1)

-- the entry's step was defined, and left the holder as it was
entry_held : (w after : WorldState) (t p : ℕ) (e : Entry) (answer : Result Said WorldNo) (o : Option Stepped) → IsHeldBy w t p → ((r : Stepped) → o ≡ Some r → r.state.holder ≡ (partition_at w p).state.holder) → option_map (happening_by w p e) o ≡ Some (record { world = after; answer = answer }) → IsHeldBy after t p
entry_held w after t p e answer None held keeps h = absurd (cc)
entry_held w after t p e answer (Some r) held keeps h =
    let new : WorldPartition = record { state = r.state; journal = (partition_at w p).journal ++ e ∷ [] } in
    let within = held.last in
    let first = held.first in
    let place : p - 1 < length w.partitions = omega arith in
    let count = length-set w.partitions (p - 1) new in
    let stays : p ≤ length (with_entry w p e r.state).partitions = omega arith in
    let is : happening_by w p e r ≡ record { world = after; answer = answer } = same_Some _ _ h in
    subst (λ (x : Happening). IsHeldBy x.world t p) is (record {
      first = first;
      last = stays;
      holder = ap (λ (k : WorldPartition). k.state.holder) (get_or-set_same w.partitions (p - 1) new (opened p) place) ∙ keeps r refl ∙ held.holder;
    })

not_both : (x : WorldNo) (y : Said) → Err x ≡ Ok y → ⊥
not_both x y h = cc

-- who draws a block still holds the partition
pub draw_may : (K : Modelling) → IsModeller K → (w w' : WorldState) (t p b : ℕ) → world_step K w t (event.Draw p) ≡ Some (record { world = w'; answer = Ok (said.Drew b) }) → IsHeldBy w t p → IsHeldBy w' t p
draw_may K good w w' t p b h held =
    let s = (partition_at w p).state in
    let next = w.blocks.next in
    elim (nat_le next w.blocks.last) as (λ (b' : Bool). step_by K w p (cond b' (Ok (Drew t next)) (Err (no.Spent next))) ≡ Some (record { world = w'; answer = Ok (said.Drew b) }) → IsHeldBy w' t p) [
      | true ↦ λ k. entry_held w w' t p (Drew t next) (Ok (said.Drew b)) (step K s (Drew t next)) held (drew-holder K s t next) k
      | false ↦ λ k. absurd (not_both (no.Spent next) (said.Drew b) (ap (λ (x : Happening). x.answer) (same_Some (record { world = w; answer = Err (no.Spent next) }) (record { world = w'; answer = Ok (said.Drew b) }) k)))
    ] h

-- the draws found blocks enough
pub drawn_enough : (K : Modelling) → IsModeller K → (w w' : WorldState) (t p : ℕ) (a : Act) → IsSession K w → 1 ≤ t → t ≤ w.threads → IsHeldBy w t p → draws K t p (short K (partition_at w p).state a) w ≡ record { world = w'; spent = None } → IsHeldBy w' t p × (short K (partition_at w' p).state a ≡ 0)
drawn_enough K good w w' t p a session first last held is =
    let d = subst (DrawsDone K t p a w) is (draws_done K good w t p a (short K (partition_at w p).state a) session held refl) in
    (d.held, d.enough refl)

-- the draws found that no block is left
pub drawn_spent : (K : Modelling) → IsModeller K → (w w' : WorldState) (t p : ℕ) (a : Act) (next : ℕ) → IsSession K w → 1 ≤ t → t ≤ w.threads → IsHeldBy w t p → draws K t p (short K (partition_at w p).state a) w ≡ record { world = w'; spent = Some next } → IsHeldBy w' t p × (0 < short K (partition_at w' p).state a) × (w'.blocks.last < next) × (w'.blocks.last < w'.blocks.next)
drawn_spent K good w w' t p a next session first last held is =
    let d = subst (DrawsDone K t p a w) is (draws_done K good w t p a (short K (partition_at w p).state a) session held refl) in
    let above : w'.blocks.last < next = d.above next refl in
    let same : next ≡ w'.blocks.next = d.next next refl in
    (d.held, d.missing next refl, above, omega arith)

-- ---- an act

-- Thread t has done an act on partition p, or given it up: p alone may have changed, and t holds it.
pub record ActsDone (K : Modelling) (t p : ℕ) (w new : WorldState) : Type 0 where
  pub alters : AltersOne K p w new
  pub held : IsHeldBy new t p

-- the draws, and then an event on the same partition that leaves the holder as it is
event_after : (K : Modelling) (t p : ℕ) (a : Act) (w : WorldState) (drawn : Drawn) (v : Event) (e : Entry) (r : Stepped) → DrawsDone K t p a w drawn → partition_of v ≡ p → EventDone K drawn.world t v e r → r.state.holder ≡ (partition_at drawn.world p).state.holder → ActsDone K t p w (after_event K drawn.world (by t v))
event_after K t p a w drawn v e r x on d keeps =
    let mid = drawn.world in
    let new = after_event K mid (by t v) in
    let alters : AltersOne K p mid new = subst (λ q. AltersOne K q mid new) on (done_alters K mid t v e r d) in
    let state : (partition_at new p).state ≡ r.state = subst (λ q. (partition_at new q).state ≡ r.state) on d.state in
    record {
      alters = AltersOne-trans K p w mid new x.alters alters;
      held = held_after K p t mid new alters x.held.first x.held.last (ap (λ (s : PartitionState). s.holder) state ∙ keeps ∙ x.held.holder);
    }

-- the act is done where blocks were enough, and given up where none was left
pub act_after_done : (K : Modelling) → IsModeller K → (w : WorldState) (t p : ℕ) (a : Act) (drawn : Drawn) → DrawsDone K t p a w drawn → ActsDone K t p w (act_after K t p a drawn).world
act_after_done K good w t p a drawn x =
    let mid = drawn.world in
    let s = (partition_at mid p).state in
    elim drawn.spent as (λ (o : Option ℕ). drawn.spent ≡ o → ActsDone K t p w (acts_by K t p a mid o).world) [
      | None ↦ λ is. event_after K t p a w drawn (event.Act p a) (Did t a) (with_answer s (reach_of K s a)) x refl (act_done K good mid t p a x.alters.session x.held (x.enough is)) (reach-holder K s a)
      | Some next ↦ λ is. event_after K t p a w drawn (event.GiveUp p a next) (Spent t next a) (gave_up s next) x refl (give_up_done K good mid t p a next x.alters.session x.held (x.missing next is)) refl
    ] refl

-- a thread does an act on a partition that it holds, and still holds it
pub acts_done : (K : Modelling) → IsModeller K → (w : WorldState) (t p : ℕ) (a : Act) → IsSession K w → IsHeldBy w t p → ActsDone K t p w (acts K t p a w).world
acts_done K good w t p a session held =
    let k = short K (partition_at w p).state a in
    act_after_done K good w t p a (draws K t p k w) (draws_done K good w t p a k session held refl)

-- ---- releases

-- Thread t has released these partitions, those that it held: it holds none of them, what others held they hold, nobody
-- holds more, and no other partition changed.
pub record ReleasesDone (K : Modelling) (t : ℕ) (ps : List ℕ) (w new : WorldState) : Type 0 where
  pub session : IsSession K new
  pub large : IsAsLarge w new
  pub others : (q : ℕ) → 1 ≤ q → is_held ps q ≡ false → partition_at new q ≡ partition_at w q
  pub kept : (u q : ℕ) → u ≢ t → IsHeldBy w u q → IsHeldBy new u q
  pub before : (u q : ℕ) → IsHeldBy new u q → IsHeldBy w u q
  pub free : (q : ℕ) → is_held ps q ≡ true → IsHeldBy new t q → ⊥

-- who holds a partition is one
pub one_holder : (w : WorldState) (t u p : ℕ) → IsHeldBy w t p → IsHeldBy w u p → t ≡ u
one_holder w t u p x y = same_Some t u (sym x.holder ∙ y.holder)

holder_by : (o : Option ℕ) (t : ℕ) → unwrap_or (option_map (λ h. h == t) o) false ≡ true → o ≡ Some t
holder_by None t h = absurd (true≢false (sym h))
holder_by (Some h) t is = ap Some (eqb-true h t is)

-- the thread holds the partition that the test says it holds
pub holds_holder : (s : PartitionState) (t : ℕ) → holds s t ≡ true → s.holder ≡ Some t
holds_holder s t h = holder_by s.holder t h

only_one : (p q : ℕ) → is_held (p ∷ []) q ≡ true → q ≡ p
only_one p q h = ⊎_elim (λ (e : (p == q) ≡ true). sym (eqb-true p q e)) (λ (e : false ≡ true). absurd (true≢false (sym e))) (or_cases _ _ h)

-- a partition that the thread holds is released
pub release_held : (K : Modelling) → IsModeller K → (w : WorldState) (t p : ℕ) → IsSession K w → IsHeldBy w t p → ReleasesDone K t (p ∷ []) w (after_event K w (by t (event.Release p)))
release_held K good w t p session held =
    let new = after_event K w (by t (event.Release p)) in
    let s = (partition_at w p).state in
    let d = release_done K good w t p session held in
    let alters = done_alters K w t (event.Release p) (Released t) (freed s) d in
    let nobody : (u : ℕ) → IsHeldBy new u p → ⊥ = λ u h. none-some u (ap (λ (x : PartitionState). x.holder) (sym d.state) ∙ h.holder) in
    record {
      session = d.session;
      large = d.large;
      others = λ q one other. d.others q one (λ (e : q ≡ p). true≢false (sym (eq-eqb p q (sym e)) ∙ (or_parts _ _ other).0));
      kept = λ u q differ h. held_still K p u q w new alters (λ (e : q ≡ p). differ (one_holder w u t p (subst (IsHeldBy w u) e h) held)) h;
      before = λ u q h. held_before K p u q w new alters (λ (e : q ≡ p). nobody u (subst (IsHeldBy new u) e h)) h;
      free = λ q one h. nobody t (subst (IsHeldBy new t) (only_one p q one) h);
    }

-- nothing is released of a partition that the thread does not hold
release_other : (K : Modelling) (w : WorldState) (t p : ℕ) → IsSession K w → holds (partition_at w p).state t ≡ false → ReleasesDone K t (p ∷ []) w (after_event K w (by t (event.Release p)))
release_other K w t p session not =
    let s = (partition_at w p).state in
    let same : after_event K w (by t (event.Release p)) ≡ w =
    ap (λ b. option_map_or (λ (h : Happening). h.world) (option_map (happening_by w p (Released t)) (cond b (without_answer (record s { holder = None })) None)) w) not in
    subst (ReleasesDone K t (p ∷ []) w) (sym same) (record {
      session = session;
      large = IsAsLarge-refl w;
      others = λ q one other. refl;
      kept = λ u q differ h. h;
      before = λ u q h. h;
      free = λ q one h.
          let here : IsHeldBy w t p = subst (IsHeldBy w t) (only_one p q one) h in
          true≢false (sym (holder_holds s t here.holder) ∙ not);
    })

-- the release of one partition
pub release_any : (K : Modelling) → IsModeller K → (w : WorldState) (t p : ℕ) → IsSession K w → 1 ≤ p → p ≤ length w.partitions → ReleasesDone K t (p ∷ []) w (after_event K w (by t (event.Release p)))
release_any K good w t p session first last =
    elim (holds (partition_at w p).state t) as (λ (b : Bool). holds (partition_at w p).state t ≡ b → ReleasesDone K t (p ∷ []) w (after_event K w (by t (event.Release p)))) [
      | true ↦ λ is. release_held K good w t p session (record { first = first; last = last; holder = holds_holder (partition_at w p).state t is })
      | false ↦ λ is. release_other K w t p session is
    ] refl

-- one release, and then others
releases_more : (K : Modelling) (t p : ℕ) (ps : List ℕ) (w mid new : WorldState) → ReleasesDone K t (p ∷ []) w mid → ReleasesDone K t ps mid new → ReleasesDone K t (p ∷ ps) w new
releases_more K t p ps w mid new x y = record {
  session = y.session;
  large = IsAsLarge-trans w mid new x.large y.large;
  others = λ q one other. let parts = or_parts _ _ other in y.others q one parts.1 ∙ x.others q one (or_from _ _ parts.0 refl);
  kept = λ u q differ h. y.kept u q differ (x.kept u q differ h);
  before = λ u q h. x.before u q (y.before u q h);
  free = λ q one h.
      ⊎_elim (λ (here : (p == q) ≡ true). x.free q (or_left _ _ here) (y.before t q h))
      (λ (there : is_held ps q ≡ true). y.free q there h) (or_cases _ _ one);
}

-- the release of several partitions
pub releases_done : (K : Modelling) → IsModeller K → (w : WorldState) (t n : ℕ) (ps : List ℕ) → IsSession K w → length w.partitions ≡ n → AllByRecursion (λ p. (1 ≤ p) × (p ≤ n)) ps → ReleasesDone K t ps w (released K t ps w)
releases_done K good w t n [] session count within = record {
  session = session;
  large = IsAsLarge-refl w;
  others = λ q one other. refl;
  kept = λ u q differ h. h;
  before = λ u q h. h;
  free = λ q one h. absurd (true≢false (sym one));
}
releases_done K good w t n (p ∷ ps) session count within =
    let mid = after_event K w (by t (event.Release p)) in
    let last = within.0.1 in
    let x = release_any K good w t p session within.0.0 (omega (arith, last, count)) in
    releases_more K t p ps w mid (released K t ps mid) x (releases_done K good mid t n ps x.session (x.large.partitions ∙ count) within.1)

-- those that are above p are still held, where p alone has changed
pub held_above : (old new : WorldState) (t p : ℕ) (ps : List ℕ) → IsAsLarge old new → ((q : ℕ) → 1 ≤ q → q ≢ p → partition_at new q ≡ partition_at old q) → AllByRecursion (λ q. p < q) ps → AllByRecursion (IsHeldBy old t) ps → AllByRecursion (IsHeldBy new t) ps
held_above old new t p [] large others above held = tt
held_above old new t p (q ∷ qs) large others above held =
    let other : q ≢ p = λ e. absurd (omega (arith, above.0, e)) in
    (held_same old new t q large (others q held.0.first other) held.0, held_above old new t p qs large others above.1 held.1)

-- once the first of the partitions held is released, which ascend, the others are still held
pub rest_held : (K : Modelling) → IsModeller K → (w : WorldState) (t p : ℕ) (ps : List ℕ) → IsSession K w → AllByRecursion (IsHeldBy w t) (p ∷ ps) → Ascends (p ∷ ps) → AllByRecursion (IsHeldBy (after_event K w (by t (event.Release p))) t) ps
rest_held K good w t p ps session held up =
    let d = release_done K good w t p session held.0 in
    held_above w (after_event K w (by t (event.Release p))) t p ps d.large d.others up.0 held.1
