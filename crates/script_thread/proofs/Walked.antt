-- A thread is told one line more: what its lines have said so far goes on over the entries that its order leaves.
use Rattle.std.proofs.Common.{◌≡◌, ℕ, ◌-◌, ◌<◌, ◌≤◌, List, [], ◌∷◌, ◌++◌, append-nil, length, get_or, Option, None, Some, Result, refl, sym, ap, subst, ◌∙◌, arith}
use Rattle.std.specs.Prelude.{◌≢◌, replicate}
use Rattle.std.specs.List.{AllByRecursion}
use Rattle.std.proofs.lemmas.List.{append_assoc, get_or-set_other, length-set}
use Rattle.pk_base.specs.declared.entity.Name.{Name}
use Rattle.pk_base.specs.declared.act.Act.{Act}
use Rattle.pk_base.specs.declared.act.Entry.{Entry}
use Rattle.pk_base.specs.declared.act.Entry.TheVariants.{Claimed, Released}
use Rattle.pk_base.specs.declared.act.Reply.{Reply}
use Rattle.pk_base.specs.declared.refusal.Refusal.{Refusal}
use Rattle.pk_model.specs.State.{PartitionState}
use Rattle.pk_model.specs.Tags.{Ascends}
use Rattle.pk_model.specs.Modelling.{Modelling}
use Rattle.pk_model.specs.Step.{step, Stepped}
use Rattle.pk_model.specs.Replay.{AnsweredEntry, answered_entries_from, replay, thread_of}
use Rattle.pk_model.proofs.Replays.{answered_entries_from-step, told_of}
use Rattle.pk_model.proofs.Steps.{step-claimed, step-released}
use Rattle.script_text.specs.Walk.{ActTakes, OrderSays, Releases, TakesEntry, Walker, Walks, act_with_tags, bind_name, refusal_of_order, said_of, walker_of, with_held, without_held}
use Rattle.script_text.specs.declared.script.ScriptLine.{ScriptLine}
use Rattle.script_text.specs.declared.script.Order.{Order}
use Rattle.script_text.specs.declared.script.Order.TheVariants.{Lock, Unlock, End, On}
use Rattle.script_text.specs.declared.script.Operand.{Operand}
use Rattle.script_text.specs.declared.report.LineSaid.{LineSaid}
use Rattle.script_text.specs.declared.report.LineSaid.TheVariants.{Locked, Unlocked, Ended, Refused}
use Rattle.script_thread.specs.Thread.{ThreadState, names_after, walker_now}
use Rattle.script_thread.specs.Walked.{IsWalked, Names, SameNames, at_rest}
use Rattle.script_thread.specs.Journals.{EachGoesOnWithout, with_entries}
use Rattle.script_thread.proofs.Longer.{behind, longer, releases_longer, walks_join, walks_longer}
use Rattle.script_thread.proofs.Entries.{only, only_behind_none, walker_grows_by}
use Rattle.script_thread.proofs.Binding.{bind_same}
use Rattle.script_thread.proofs.Resting.{act_takes_says, away_says, end_says, lock_says, releases_more, takes_only, unlock_says, with_only}
use Rattle.script_thread.proofs.Journals.{same_walker}

-- the thread that holds these, whose names are bound so, behind its line k, to which this was said
abbrev pub told_next : ThreadState → ℕ → List ℕ → Names → LineSaid → ThreadState
told_next s k held names said = record { held = held; names = names; said = s.said ++ record { number = k; said = said } ∷ [] }

-- what was said so far is said over journals that go on with entries of other threads
pub others_walked : (K : Modelling) (n t : ℕ) (earlier journals : List (List Entry)) (lines : List ScriptLine) (s : ThreadState) → EachGoesOnWithout t earlier journals → IsWalked K n t earlier lines s → IsWalked K n t journals lines s
others_walked K n t earlier journals lines s each h = record {
  bound = h.bound;
  walked = subst (λ w. Walks K n t w lines s.said (at_rest n s.held h.bound)) (sym (same_walker K t earlier journals each)) h.walked;
  same = h.same;
}

module _ (K : Modelling) (n t : ℕ) (lines : List ScriptLine) (s : ThreadState) where
  -- one line more
  pub says_more : (journals : List (List Entry)) (before : Walker) (k : ℕ) (order : Order) (said : LineSaid) (held : List ℕ) (names bound : Names) → Walks K n t (walker_of K t journals) lines s.said before → OrderSays K n t before order said (at_rest n held bound) → SameNames bound names → IsWalked K n t journals (lines ++ record { number = k; order = order } ∷ []) (told_next s k held names said)
  says_more journals before k order said held names bound walked says same =
      let line : ScriptLine = record { number = k; order = order } in
      let rest = at_rest n held bound in
      record {
        bound = bound;
        walked = walks_join K n t (walker_of K t journals) before rest lines s.said (line ∷ []) (record { number = k; said = said } ∷ []) walked (refl, (rest, (says, refl)));
        same = same;
      }

  module _ (journals : List (List Entry)) (count : length journals ≡ n) (h : IsWalked K n t journals lines s) where
    -- entries of its own more on partition p are left
    pub entries_left : (p : ℕ) (es : List Entry) (mid : PartitionState) → 1 ≤ p → p ≤ n → replay K p (get_or journals (p - 1) []) ≡ Some mid → AllByRecursion (λ e. thread_of e ≡ t) es → Walks K n t (walker_of K t (with_entries journals p es)) lines s.said (with_only n s.held h.bound p (answered_entries_from K mid es))
    entries_left p es mid first last replays mine =
        let xs = answered_entries_from K mid es in
        let old = walker_of K t journals in
        let grown : walker_of K t (with_entries journals p es) ≡ longer old (only n p xs) =
        walker_grows_by K t p journals es mid first (omega (arith, count, last)) replays mine ∙ ap (λ m. longer old (only m p xs)) count in
        let here : longer (at_rest n s.held h.bound) (only n p xs) ≡ with_only n s.held h.bound p xs = λ i. record { held = s.held; names = h.bound; left = only_behind_none n p xs i } in
        subst (λ w. Walks K n t w lines s.said (with_only n s.held h.bound p xs)) (sym grown)
        (subst (Walks K n t (longer old (only n p xs)) lines s.said) here (walks_longer K n t (only n p xs) old lines s.said (at_rest n s.held h.bound) h.walked))

    -- a line that is turned away
    pub away_walked : (k : ℕ) (o : Order) (r : Refusal) → refusal_of_order n (walker_now s) o ≡ Some r → IsWalked K n t journals (lines ++ record { number = k; order = o } ∷ []) (told_next s k s.held s.names (Refused r))
    away_walked k o r is = says_more journals (at_rest n s.held h.bound) k o (Refused r) s.held s.names h.bound h.walked (away_says K n t s h.bound h.same o r is) h.same

    -- one entry of its own more on partition p is left
    one_left : (p : ℕ) (e : Entry) (mid : PartitionState) (r : Stepped) → 1 ≤ p → p ≤ n → replay K p (get_or journals (p - 1) []) ≡ Some mid → step K mid e ≡ Some r → thread_of e ≡ t → Walks K n t (walker_of K t (with_entries journals p (e ∷ []))) lines s.said (with_only n s.held h.bound p (told_of mid e r ∷ []))
    one_left p e mid r first last replays steps mine =
        subst (λ xs. Walks K n t (walker_of K t (with_entries journals p (e ∷ []))) lines s.said (with_only n s.held h.bound p xs)) (answered_entries_from-step K mid e [] r steps)
        (entries_left p (e ∷ []) mid first last replays (mine, tt))

    -- the lock of a partition that nobody held
    pub lock_walked : (k p : ℕ) (mid : PartitionState) → refusal_of_order n (walker_now s) (Lock p) ≡ None → 1 ≤ p → p ≤ n → replay K p (get_or journals (p - 1) []) ≡ Some mid → mid.holder ≡ None → IsWalked K n t (with_entries journals p (Claimed t ∷ [])) (lines ++ record { number = k; order = Lock p } ∷ []) (told_next s k (with_held p s.held) s.names Locked)
    lock_walked k p mid none first last replays free =
        let r : Stepped = record { state = record mid { holder = Some t }; answer = None } in
        let x = told_of mid (Claimed t) r in
        says_more (with_entries journals p (Claimed t ∷ [])) (with_only n s.held h.bound p (x ∷ [])) k (Lock p) Locked (with_held p s.held) s.names h.bound
        (one_left p (Claimed t) mid r first last replays (step-claimed K mid t free) refl)
        (lock_says K n t s h.bound h.same p x none refl first last) h.same

    -- the unlock of a partition that it holds
    pub unlock_walked : (k p : ℕ) (mid : PartitionState) → refusal_of_order n (walker_now s) (Unlock p) ≡ None → 1 ≤ p → p ≤ n → replay K p (get_or journals (p - 1) []) ≡ Some mid → mid.holder ≡ Some t → IsWalked K n t (with_entries journals p (Released t ∷ [])) (lines ++ record { number = k; order = Unlock p } ∷ []) (told_next s k (without_held p s.held) s.names Unlocked)
    unlock_walked k p mid none first last replays mine =
        let r : Stepped = record { state = record mid { holder = None }; answer = None } in
        let x = told_of mid (Released t) r in
        says_more (with_entries journals p (Released t ∷ [])) (with_only n s.held h.bound p (x ∷ [])) k (Unlock p) Unlocked (without_held p s.held) s.names h.bound
        (one_left p (Released t) mid r first last replays (step-released K mid t mine) refl)
        (unlock_says K n t s h.bound h.same p x none refl first last) h.same

    -- an act that takes these entries
    pub act_walked : (k p : ℕ) (a : Act) (operands : List Operand) (bind : Option Name) (es : List Entry) (mid : PartitionState) (answer : Result Reply Refusal) → refusal_of_order n (walker_now s) (On p a operands bind) ≡ None → 1 ≤ p → p ≤ n → replay K p (get_or journals (p - 1) []) ≡ Some mid → AllByRecursion (λ e. thread_of e ≡ t) es → ActTakes K t (act_with_tags (walker_now s) a operands) (answered_entries_from K mid es) answer [] → IsWalked K n t (with_entries journals p es) (lines ++ record { number = k; order = On p a operands bind } ∷ []) (told_next s k s.held (names_after answer bind s.names) (said_of answer))
    act_walked k p a operands bind es mid answer none first last replays mine taken =
        says_more (with_entries journals p es) (with_only n s.held h.bound p (answered_entries_from K mid es)) k (On p a operands bind) (said_of answer) s.held (names_after answer bind s.names) (bind_name bind answer h.bound)
        (entries_left p es mid first last replays mine)
        (act_takes_says K n t s h.bound h.same p a operands bind (answered_entries_from K mid es) answer none first last taken)
        (bind_same h.bound s.names bind answer h.same)

-- ---- the end

-- the journals, where each of these partitions has its release by thread t more
abbrev pub with_releases : ℕ → List ℕ → List (List Entry) → List (List Entry)
with_releases t [] journals = journals
with_releases t (p ∷ ps) journals = with_releases t ps (with_entries journals p (Released t ∷ []))

-- thread t holds partition p, as its journal tells
pub record IsOwn (K : Modelling) (n t : ℕ) (journals : List (List Entry)) (p : ℕ) : Type 0 where
  pub first : 1 ≤ p
  pub last : p ≤ n
  pub state : PartitionState
  pub replays : replay K p (get_or journals (p - 1) []) ≡ Some state
  pub holder : state.holder ≡ Some t

-- another partition has an entry more
own_still : (K : Modelling) (n t : ℕ) (journals : List (List Entry)) (p q : ℕ) (es : List Entry) → 1 ≤ p → q ≢ p → IsOwn K n t journals q → IsOwn K n t (with_entries journals p es) q
own_still K n t journals p q es first differ h =
    let q_first = h.first in
    let apart : q - 1 ≢ p - 1 = λ (e : q - 1 ≡ p - 1). differ (omega (arith, e, first, q_first)) in
    record {
      first = h.first;
      last = h.last;
      state = h.state;
      replays = ap (replay K q) (get_or-set_other journals (p - 1) (q - 1) (get_or journals (p - 1) [] ++ es) [] apart) ∙ h.replays;
      holder = h.holder;
    }

all_still : (K : Modelling) (n t : ℕ) (journals : List (List Entry)) (p : ℕ) (es : List Entry) (qs : List ℕ) → 1 ≤ p → AllByRecursion (λ q. p < q) qs → AllByRecursion (IsOwn K n t journals) qs → AllByRecursion (IsOwn K n t (with_entries journals p es)) qs
all_still K n t journals p es [] first above all = tt
all_still K n t journals p es (q ∷ qs) first above all =
    let more : p < q = above.0 in
    (own_still K n t journals p q es first (λ (e : q ≡ p). omega (arith, e, more)) all.0, all_still K n t journals p es qs first above.1 all.1)

module _ (K : Modelling) (n t : ℕ) (lines : List ScriptLine) (s : ThreadState) (bound : Names) where
  -- What the release of partitions, one after another, leaves: entries that the walk takes in this order.
  record Freed (journals : List (List Entry)) (ps : List ℕ) : Type 0 where
    left : List (List AnsweredEntry)
    walked : Walks K n t (walker_of K t journals) lines s.said (record { held = s.held; names = bound; left = left })
    releases : Releases t (record { held = s.held; names = bound; left = left }) ps (at_rest n s.held bound)

  -- the partitions `done` were released, and these are next
  freed_in_order : (ps done : List ℕ) (journals : List (List Entry)) (left : List (List AnsweredEntry)) → length journals ≡ n → AllByRecursion (IsOwn K n t journals) ps → Ascends ps → Walks K n t (walker_of K t journals) lines s.said (record { held = s.held; names = bound; left = left }) → Releases t (record { held = s.held; names = bound; left = left }) done (at_rest n s.held bound) → Freed (with_releases t ps journals) (done ++ ps)
  freed_in_order [] done journals left count all ascends h k = record { left = left; walked = h; releases = subst (λ l. Releases t (record { held = s.held; names = bound; left = left }) l (at_rest n s.held bound)) (sym (append-nil done)) k }
  freed_in_order (p ∷ ps) done journals left count all ascends h k =
      let y : Walker = record { held = s.held; names = bound; left = left } in
      let x = at_rest n s.held bound in
      let own = all.0 in
      let mid = own.state in
      let r : Stepped = record { state = record mid { holder = None }; answer = None } in
      let steps = step-released K mid t own.holder in
      let e = told_of mid (Released t) r in
      let more = only n p (e ∷ []) in
      let last : p ≤ length journals = let l = own.last in omega (arith, l, count) in
      let next = with_entries journals p (Released t ∷ []) in
      let grown : walker_of K t next ≡ longer (walker_of K t journals) more =
      walker_grows_by K t p journals (Released t ∷ []) mid own.first last own.replays (refl, tt)
      ∙ ap (λ m. longer (walker_of K t journals) (only m p (answered_entries_from K mid (Released t ∷ [])))) count
      ∙ ap (λ xs. longer (walker_of K t journals) (only n p xs)) (answered_entries_from-step K mid (Released t) [] r steps) in
      let stands : Walks K n t (walker_of K t next) lines s.said (longer y more) =
      subst (λ w. Walks K n t w lines s.said (longer y more)) (sym grown) (walks_longer K n t more (walker_of K t journals) lines s.said y h) in
      let here : longer x more ≡ with_only n s.held bound p (e ∷ []) = λ i. record { held = s.held; names = bound; left = only_behind_none n p (e ∷ []) i } in
      let before = releases_longer t y done x more k in
      let taken : TakesEntry (longer x more) p (Released t) x = subst (λ z. TakesEntry z p (Released t) x) (sym here) (takes_only n s.held bound p e own.first own.last) in
      let both = releases_more t (longer y more) (longer x more) x done p before taken in
      let still = all_still K n t journals p (Released t ∷ []) ps own.first ascends.0 all.1 in
      let rest = freed_in_order ps (done ++ p ∷ []) next (behind left more) (length-set journals (p - 1) (get_or journals (p - 1) [] ++ Released t ∷ []) ∙ count) still ascends.1 stands both in
      subst (λ l. Freed (with_releases t ps next) l) (append_assoc done (p ∷ []) ps) rest

-- The end of a thread: each partition that it holds is released, ascending.
pub end_walked : (K : Modelling) (n t : ℕ) (lines : List ScriptLine) (s : ThreadState) (journals : List (List Entry)) (k : ℕ) → length journals ≡ n → IsWalked K n t journals lines s → AllByRecursion (IsOwn K n t journals) s.held → Ascends s.held → IsWalked K n t (with_releases t s.held journals) (lines ++ record { number = k; order = End } ∷ []) (told_next s k [] s.names (Ended s.held))
end_walked K n t lines s journals k count h all ascends =
    let f = freed_in_order K n t lines s h.bound s.held [] journals (replicate n []) count all ascends h.walked refl in
    says_more K n t lines s (with_releases t s.held journals) (record { held = s.held; names = h.bound; left = f.left }) k End (Ended s.held) [] s.names h.bound f.walked (end_says K n t s h.bound h.same f.left f.releases) h.same
