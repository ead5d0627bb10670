-- A walker for which no entry is left, before and after its thread obeys an order: what each order says of the entries
-- that it leaves.
use Rattle.std.proofs.Common.{◌≡◌, ℕ, ◌-◌, ◌<◌, ◌≤◌, List, [], ◌∷◌, ◌++◌, Option, None, Some, Result, refl, sym, ap, subst, ◌∙◌}
use Rattle.std.specs.Prelude.{MatchOption, replicate, slice_set}
use Rattle.std.specs.List.{AllByRecursion}
use Rattle.pk_base.specs.declared.entity.Name.{Name}
use Rattle.pk_base.specs.declared.act.Act.{Act}
use Rattle.pk_base.specs.declared.act.Entry.TheVariants.{Claimed, Drew, Released}
use Rattle.pk_base.specs.declared.act.Reply.{Reply}
use Rattle.pk_base.specs.declared.refusal.Refusal.{Refusal}
use Rattle.pk_model.specs.Modelling.{Modelling}
use Rattle.pk_model.specs.Step.{short}
use Rattle.pk_model.specs.Replay.{AnsweredEntry}
use Rattle.script_text.specs.Walk.{Walker, OrderSays, OrderTakes, ActSays, ActTakes, TakesEntry, Releases, IsTurnedAway, act_with_tags, bind_name, left_at, refusal_of_order, said_of, with_held, with_left, without_held}
use Rattle.script_text.specs.declared.script.Order.{Order}
use Rattle.script_text.specs.declared.script.Order.TheVariants.{Lock, Unlock, End, On}
use Rattle.script_text.specs.declared.script.Operand.{Operand}
use Rattle.script_text.specs.declared.report.LineSaid.{LineSaid}
use Rattle.script_text.specs.declared.report.LineSaid.TheVariants.{Locked, Unlocked, Ended, Refused}
use Rattle.script_thread.specs.Thread.{ThreadState, walker_now}
use Rattle.script_thread.specs.Walked.{Names, SameNames, at_rest}
use Rattle.script_thread.proofs.Longer.{Takes}
use Rattle.script_thread.proofs.Entries.{get_or-only, only, only_none, only_set}
use Rattle.script_thread.proofs.Binding.{act_same, refusal_same}

-- ---- walkers at rest

-- the walker that holds these, whose names are bound so, and for which these entries of partition p are left
abbrev pub with_only : ℕ → List ℕ → Names → ℕ → List AnsweredEntry → Walker
with_only n held names p xs = record { held = held; names = names; left = only n p xs }

-- of these entries nothing is left
pub emptied : (n : ℕ) (held : List ℕ) (names : Names) (p : ℕ) (xs : List AnsweredEntry) → at_rest n held names ≡ with_left (with_only n held names p xs) p []
emptied n held names p xs =
    let e : slice_set (only n p xs) (p - 1) [] ≡ replicate n [] = only_set n p xs [] ∙ only_none n p in
    λ i. record { held = held; names = names; left = sym e i }

-- the one entry is taken
pub takes_only : (n : ℕ) (held : List ℕ) (names : Names) (p : ℕ) (x : AnsweredEntry) → 1 ≤ p → p ≤ n → TakesEntry (with_only n held names p (x ∷ [])) p x.entry (at_rest n held names)
takes_only n held names p x first last = record { first = x; rest = []; next = get_or-only n p (x ∷ []) first last; entry = refl; after = emptied n held names p (x ∷ []) }

-- ---- an act

-- an entry that draws a block for an act that is short
abbrev pub IsDraw : Modelling → ℕ → Act → AnsweredEntry → Type 0
IsDraw K t a x = (b : ℕ) × ((x.entry ≡ Drew t b) × (0 < short K x.before a))

-- an act takes the entries that draw, and what it takes behind them
pub takes_draws : (K : Modelling) (t : ℕ) (a : Act) (xs ys : List AnsweredEntry) (answer : Result Reply Refusal) → AllByRecursion (IsDraw K t a) xs → ActTakes K t a ys answer [] → ActTakes K t a (xs ++ ys) answer []
takes_draws K t a [] ys answer h k = k
takes_draws K t a (x ∷ xs) ys answer h k =
    subst (Takes K t a x (xs ++ ys) answer [] (ActTakes K t a (xs ++ ys) answer [])) (sym h.0.1.0) (refl, (h.0.1.1, takes_draws K t a xs ys answer h.1 k))

-- one release more, at the end
pub releases_more : (t : ℕ) (y mid after : Walker) (ps : List ℕ) (p : ℕ) → Releases t y ps mid → TakesEntry mid p (Released t) after → Releases t y (ps ++ p ∷ []) after
releases_more t y mid after [] p h k = (after, (subst (λ z. TakesEntry z p (Released t) after) h k, refl))
releases_more t y mid after (q ∷ qs) p h k = (h.0, (h.1.0, releases_more t h.0 mid after qs p h.1.1 k))

-- ---- what each order says

module _ (K : Modelling) (n t : ℕ) where
  -- an order that is not turned away says what it takes
  pub says_taken : (before : Walker) (o : Order) (told : LineSaid) (after : Walker) → refusal_of_order n before o ≡ None → OrderTakes K t before o told after → OrderSays K n t before o told after
  says_taken before o told after none h = subst (λ r. MatchOption r (OrderTakes K t before o told after) (λ e. IsTurnedAway before e told after)) (sym none) h

  -- a thread, and the names of a walker that are bound alike
  module _ (s : ThreadState) (names : Names) (same : SameNames names s.names) where
    -- an order that is turned away takes nothing
    pub away_says : (o : Order) (r : Refusal) → refusal_of_order n (walker_now s) o ≡ Some r → OrderSays K n t (at_rest n s.held names) o (Refused r) (at_rest n s.held names)
    away_says o r is =
        let x = at_rest n s.held names in
        subst (λ q. MatchOption q (OrderTakes K t x o (Refused r) x) (λ e. IsTurnedAway x e (Refused r) x)) (sym (refusal_same n s.held names s.names (replicate n []) [] same o ∙ is)) (refl, refl)

    pub lock_says : (p : ℕ) (x : AnsweredEntry) → refusal_of_order n (walker_now s) (Lock p) ≡ None → x.entry ≡ Claimed t → 1 ≤ p → p ≤ n → OrderSays K n t (with_only n s.held names p (x ∷ [])) (Lock p) Locked (at_rest n (with_held p s.held) names)
    lock_says p x none claims first last =
        let before = with_only n s.held names p (x ∷ []) in
        let taken = subst (λ e. TakesEntry before p e (at_rest n s.held names)) claims (takes_only n s.held names p x first last) in
        says_taken before (Lock p) Locked (at_rest n (with_held p s.held) names) none (at_rest n s.held names, (taken, refl, refl))

    pub unlock_says : (p : ℕ) (x : AnsweredEntry) → refusal_of_order n (walker_now s) (Unlock p) ≡ None → x.entry ≡ Released t → 1 ≤ p → p ≤ n → OrderSays K n t (with_only n s.held names p (x ∷ [])) (Unlock p) Unlocked (at_rest n (without_held p s.held) names)
    unlock_says p x none releases first last =
        let before = with_only n s.held names p (x ∷ []) in
        let taken = subst (λ e. TakesEntry before p e (at_rest n s.held names)) releases (takes_only n s.held names p x first last) in
        says_taken before (Unlock p) Unlocked (at_rest n (without_held p s.held) names) none (at_rest n s.held names, (taken, refl, refl))

    pub end_says : (left : List (List AnsweredEntry)) → Releases t (record { held = s.held; names = names; left = left }) s.held (at_rest n s.held names) → OrderSays K n t (record { held = s.held; names = names; left = left }) End (Ended s.held) (at_rest n [] names)
    end_says left releases = (at_rest n s.held names, (releases, refl, refl))

    -- an act takes all of its entries
    pub act_takes_says : (p : ℕ) (a : Act) (operands : List Operand) (bind : Option Name) (xs : List AnsweredEntry) (answer : Result Reply Refusal) → refusal_of_order n (walker_now s) (On p a operands bind) ≡ None → 1 ≤ p → p ≤ n → ActTakes K t (act_with_tags (walker_now s) a operands) xs answer [] → OrderSays K n t (with_only n s.held names p xs) (On p a operands bind) (said_of answer) (at_rest n s.held (bind_name bind answer names))
    act_takes_says p a operands bind xs answer none first last taken =
        let b = act_with_tags (walker_now s) a operands in
        let before = with_only n s.held names p xs in
        let after = at_rest n s.held (bind_name bind answer names) in
        let order = On p a operands bind in
        let takes : ActTakes K t b (left_at before p) answer [] = subst (λ l. ActTakes K t b l answer []) (sym (get_or-only n p xs first last)) taken in
        let goes_on : after ≡ record (with_left before p []) { names = bind_name bind answer names } = ap (λ (z : Walker). record z { names = bind_name bind answer names }) (emptied n s.held names p xs) in
        let says : ActSays K t before p b bind (said_of answer) after = record { answer = answer; rest = []; taken = takes; tells = refl; goes_on = goes_on } in
        says_taken before order (said_of answer) after (refusal_same n s.held names s.names before.left [] same order ∙ none)
        (subst (λ c. ActSays K t before p c bind (said_of answer) after) (sym (act_same before (walker_now s) same a operands)) says)
