-- Some thread that has not ended does not wait, so that each round tells a line more, until all threads have ended.
use Rattle.std.proofs.Common.{◌≡◌, ℕ, zero, suc, ◌+◌, ◌-◌, ◌<◌, ◌≤◌, ⊎_elim, inl, inr, true, List, [], ◌∷◌, length, get_or, Option, Some, None, refl, sym, ap, subst, ◌∙◌, arith}
use Rattle.std.specs.Prelude.{◌≢◌, ◌⊎◌, ◌==◌, slice_get, slice_set}
use Rattle.std.specs.Option.{option_map_or}
use Rattle.std.specs.List.{range_with_len, sum_by}
use Rattle.std.proofs.lemmas.Bool.{cases_eq, cases_lt, eq-eqb, eqb-true, or_cases, or_left, or_right, true≢false}
use Rattle.std.proofs.lemmas.Option.{same_Some, slice_get_past, none-some}
use Rattle.std.proofs.lemmas.List.{length-append}
use Rattle.std.proofs.lemmas.List.Sums.{sum_by-cons}
use Rattle.pk_base.specs.declared.refusal.Refusal.{Refusal}
use Rattle.pk_model.specs.Modelling.{Modelling, IsModeller}
use Rattle.world_core.specs.World.{WorldState, partition_at}
use Rattle.script_text.specs.Walk.{is_held, refusal_of_order}
use Rattle.script_text.specs.declared.script.Script.{Script}
use Rattle.script_text.specs.declared.script.ScriptLine.{ScriptLine}
use Rattle.script_text.specs.declared.script.Order.{Order}
use Rattle.script_text.specs.declared.script.Order.TheVariants.{Lock, Unlock, End, On}
use Rattle.script_thread.specs.Thread.{ThreadState, walker_now}
use Rattle.serial_run.specs.Serial.{Carried, RunState, carry, carry_lock, goes_on, line_by, line_count, lines_at, lock_by, next_line, obey, obey_by, rounds, run_begins, run_of, thread_at, told, turn, turn_by, turned_away, turns}
use Rattle.script_thread.specs.WellFormed.{IsWellFormed}
use Rattle.serial_run.specs.Ends.{HasEnded, HaveEnded, IsBlocked, SomeGoesOn}
use Rattle.script_thread.proofs.HeldLists.{held_le_greatest}
use Rattle.serial_run.proofs.Threads.{thread_at-place, thread_at-within}
use Rattle.script_thread.proofs.Allowed.{lock_allowed}
use Rattle.serial_run.proofs.Turning.{turn_cases}
use Rattle.serial_run.proofs.Idle.{NoneNext, idle_rounds}
use Rattle.serial_run.proofs.Owned.{IsRunning, IsTelling, begins_running, turns_running}

-- ---- waiting

-- an order that is not turned away is carried out
obey-allowed : (K : Modelling) (t : ℕ) (w : WorldState) (s : ThreadState) (order : Order) → refusal_of_order (length w.partitions) (walker_now s) order ≡ None → obey K t w s order ≡ carry K t w s order
obey-allowed K t w s order h = ap (obey_by K t w s order) h

-- the lock of a partition that is held waits
lock_waits : (K : Modelling) (t : ℕ) (w : WorldState) (s : ThreadState) (p holder : ℕ) → (partition_at w p).state.holder ≡ Some holder → carry_lock K t w s p ≡ None
lock_waits K t w s p holder h = ap (lock_by K t w s p) h

-- the next line of a thread that is blocked leads to nothing
pub blocked_waits : (K : Modelling) (t : ℕ) (lines : List ScriptLine) (w : WorldState) (s : ThreadState) (line : ScriptLine) → next_line lines s ≡ Some line → IsBlocked lines w s → obey K t w s line.order ≡ None
blocked_waits K t lines w s line next b =
    let same : b.line ≡ line = same_Some b.line line (sym b.next ∙ next) in
    let waits : obey K t w s b.line.order ≡ None =
    obey-allowed K t w s b.line.order b.allowed ∙ ap (carry K t w s) b.lock ∙ lock_waits K t w s b.partition b.holder b.held in
    subst (λ (l : ScriptLine). obey K t w s l.order ≡ None) same waits

-- The order is the lock of a partition that is held.
record WaitsFor (w : WorldState) (order : Order) : Type 0 where
  partition : ℕ
  lock : order ≡ Lock partition
  holder : ℕ
  held : (partition_at w partition).state.holder ≡ Some holder

-- what is not carried out is the lock of a partition that is held
carry_waits : (K : Modelling) (t : ℕ) (w : WorldState) (s : ThreadState) (order : Order) → carry K t w s order ≡ None → WaitsFor w order
carry_waits K t w s (Lock p) h =
    elim (partition_at w p).state.holder as (λ (o : Option ℕ). (partition_at w p).state.holder ≡ o → lock_by K t w s p o ≡ None → WaitsFor w (Lock p)) [
      | None ↦ λ is k. absurd (none-some _ (sym k))
      | Some holder ↦ λ is k. record { partition = p; lock = refl; holder = holder; held = is }
    ] refl h
carry_waits K t w s (Unlock p) h = absurd (none-some _ (sym h))
carry_waits K t w s End h = absurd (none-some _ (sym h))
carry_waits K t w s (On p a operands bind) h = absurd (none-some _ (sym h))

-- a thread whose next line leads to nothing is blocked
pub waits_blocked : (K : Modelling) (t : ℕ) (lines : List ScriptLine) (w : WorldState) (s : ThreadState) (line : ScriptLine) → next_line lines s ≡ Some line → obey K t w s line.order ≡ None → IsBlocked lines w s
waits_blocked K t lines w s line next h =
    elim (refusal_of_order (length w.partitions) (walker_now s) line.order) as (λ (o : Option Refusal). refusal_of_order (length w.partitions) (walker_now s) line.order ≡ o → obey_by K t w s line.order o ≡ None → IsBlocked lines w s) [
      | None ↦ λ allowed k.
          let x = carry_waits K t w s line.order k in
          record { line = line; next = next; partition = x.partition; lock = x.lock; allowed = allowed; holder = x.holder; held = x.held }
      | Some r ↦ λ is k. absurd (none-some (turned_away w s r) (sym k))
    ] refl h

-- ---- a line more

-- Thread t is there, and its next line does not wait.
pub record Tells (K : Modelling) (lines : List (List ScriptLine)) (r : RunState) (t : ℕ) : Type 0 where
  pub state : ThreadState
  pub is : thread_at r.threads t ≡ Some state
  pub line : ScriptLine
  pub next : next_line (lines_at lines t) state ≡ Some line
  pub carried : Carried
  pub obeys : obey K t r.world state line.order ≡ Some carried

slice_get_there : {X : Type 0} (xs : List X) (i : ℕ) → i < length xs → (x : X) × (slice_get xs i ≡ Some x)
slice_get_there [] i h = absurd (omega arith)
slice_get_there (x ∷ xs) zero h = (x, refl)
slice_get_there (x ∷ xs) (suc i) h = slice_get_there xs i (omega arith)

-- a thread that has not ended is blocked, or its next line does not wait
pub blocked_or_tells : (K : Modelling) (lines : List (List ScriptLine)) (r : RunState) (t : ℕ) (s : ThreadState) → thread_at r.threads t ≡ Some s → length s.said ≤ length (lines_at lines t) → (HasEnded (lines_at lines t) s → ⊥) → IsBlocked (lines_at lines t) r.world s ⊎ Tells K lines r t
blocked_or_tells K lines r t s is within unfinished =
    let own = lines_at lines t in
    let room : length s.said < length own = less_of (length s.said) (length own) within unfinished in
    let next = slice_get_there own (length s.said) room in
    elim (obey K t r.world s next.0.order) as (λ (o : Option Carried). obey K t r.world s next.0.order ≡ o → IsBlocked own r.world s ⊎ Tells K lines r t) [
      | None ↦ λ waits. inl (waits_blocked K t own r.world s next.0 next.1 waits)
      | Some c ↦ λ obeys. inr (record { state = s; is = is; line = next.0; next = next.1; carried = c; obeys = obeys })
    ] refl
  where
    less_of : (a b : ℕ) → a ≤ b → (a ≡ b → ⊥) → a < b
    less_of a b h differ = ⊎_elim (λ (l : a < b). l) (λ (g : b ≤ a). absurd (differ (omega arith))) (cases_lt a b)

-- a thread whose next line does not wait is not blocked
pub tells_free : (K : Modelling) (lines : List (List ScriptLine)) (r : RunState) (t : ℕ) (x : Tells K lines r t) → IsBlocked (lines_at lines t) r.world x.state → ⊥
tells_free K lines r t x b = none-some x.carried (sym (blocked_waits K t (lines_at lines t) r.world x.state x.line x.next b) ∙ x.obeys)

-- its turn carries that line out
pub tells_turn : (K : Modelling) (lines : List (List ScriptLine)) (r : RunState) (t : ℕ) (x : Tells K lines r t) → turn K lines r t ≡ goes_on r t x.state x.line.number x.carried
tells_turn K lines r t x =
    ap (turn_by K lines r t) x.is
    ∙ ap (line_by K r t x.state) x.next
    ∙ ap (λ o. option_map_or (goes_on r t x.state x.line.number) o r) x.obeys

-- how many lines were told
abbrev pub told_count : RunState → ℕ
told_count r = sum_by (λ (s : ThreadState). length s.said) r.threads

sum_by-set : {X : Type 0} (f : X → ℕ) (xs : List X) (i : ℕ) (x y : X) → slice_get xs i ≡ Some x → f y ≡ f x + 1 → sum_by f (slice_set xs i y) ≡ sum_by f xs + 1
sum_by-set f [] i x y is more = absurd (none-some x is)
sum_by-set f (z ∷ xs) zero x y is more =
    let same : f z ≡ f x = ap f (same_Some z x is) in
    omega (arith, sum_by-cons f y xs, sum_by-cons f z xs)
sum_by-set f (z ∷ xs) (suc i) x y is more =
    let rest = sum_by-set f xs i x y is more in
    omega (arith, sum_by-cons f z (slice_set xs i y), sum_by-cons f z xs)

-- a thread that goes on was told a line more
pub goes_on-told : (r : RunState) (t : ℕ) (s : ThreadState) (k : ℕ) (c : Carried) → thread_at r.threads t ≡ Some s → told_count (goes_on r t s k c) ≡ told_count r + 1
goes_on-told r t s k c is =
    let place : slice_get r.threads (t - 1) ≡ Some s = sym (thread_at-place r.threads t (thread_at-within r.threads t s is).0) ∙ is in
    sum_by-set (λ (x : ThreadState). length x.said) r.threads (t - 1) s (told s k c) place (length-append s.said _)

-- a turn changes nothing, or a line more is told
pub turn_told : (K : Modelling) (lines : List (List ScriptLine)) (r : RunState) (t : ℕ) → (turn K lines r t ≡ r) ⊎ (told_count (turn K lines r t) ≡ told_count r + 1)
turn_told K lines r t =
    turn_cases K lines r t (λ x. (x ≡ r) ⊎ (told_count x ≡ told_count r + 1)) (inl refl) (λ s line c is next obeys. inr (goes_on-told r t s line.number c is))

-- no line is taken back
turn_told-le : (K : Modelling) (lines : List (List ScriptLine)) (r : RunState) (t : ℕ) → told_count r ≤ told_count (turn K lines r t)
turn_told-le K lines r t =
    ⊎_elim (λ (same : turn K lines r t ≡ r). let e : told_count (turn K lines r t) ≡ told_count r = ap told_count same in omega arith)
    (λ (more : told_count (turn K lines r t) ≡ told_count r + 1). omega arith) (turn_told K lines r t)

turns_told-le : (K : Modelling) (lines : List (List ScriptLine)) (r : RunState) (ts : List ℕ) → told_count r ≤ told_count (turns K lines r ts)
turns_told-le K lines r [] = omega arith
turns_told-le K lines r (t ∷ ts) =
    let first = turn_told-le K lines r t in
    let rest = turns_told-le K lines (turn K lines r t) ts in
    omega arith

-- of turns among which is one of a thread whose next line does not wait, some tells a line more
turns_tell : (K : Modelling) (lines : List (List ScriptLine)) (r : RunState) (u : ℕ) (ts : List ℕ) → Tells K lines r u → is_held ts u ≡ true → told_count r + 1 ≤ told_count (turns K lines r ts)
turns_tell K lines r u [] x among = absurd (true≢false (sym among))
turns_tell K lines r u (t ∷ ts) x among =
    let later = turns_tell K lines r u ts x in
    let rest = turns_told-le K lines (turn K lines r t) ts in
    ⊎_elim (λ (same : turn K lines r t ≡ r).
    ⊎_elim (λ (here : (t == u) ≡ true).
    let e : turn K lines r t ≡ turn K lines r u = ap (turn K lines r) (eqb-true t u here) in
    let more : told_count (turn K lines r t) ≡ told_count r + 1 = ap told_count (e ∙ tells_turn K lines r u x) ∙ goes_on-told r u x.state x.line.number x.carried x.is in
    omega arith)
    (λ (there : is_held ts u ≡ true).
    let less : told_count r + 1 ≤ told_count (turns K lines r ts) = later there in
    let e : told_count (turns K lines (turn K lines r t) ts) ≡ told_count (turns K lines r ts) = ap (λ y. told_count (turns K lines y ts)) same in
    omega arith)
    (or_cases _ _ among))
    (λ (more : told_count (turn K lines r t) ≡ told_count r + 1). omega arith) (turn_told K lines r t)

-- a round has a turn of each thread
among_range : (a k u : ℕ) → a ≤ u → u < a + k → is_held (range_with_len a k) u ≡ true
among_range a zero u low high = absurd (omega arith)
among_range a (suc k) u low high =
    ⊎_elim (λ (same : a ≡ u). or_left (a == u) (is_held (range_with_len (a + 1) k) u) (eq-eqb a u same))
    (λ (differ : a ≢ u). or_right (a == u) (is_held (range_with_len (a + 1) k) u) (among_range (a + 1) k u (above differ) (omega arith))) (cases_eq a u)
  where
    above : a ≢ u → a + 1 ≤ u
    above differ = ⊎_elim (λ (l : a < u). omega arith) (λ (g : u ≤ a). absurd (differ (omega arith))) (cases_lt a u)

-- ---- some thread goes on

-- a thread that has ended has no next line
pub ended_next : (lines : List ScriptLine) (s : ThreadState) → HasEnded lines s → next_line lines s ≡ None
ended_next lines s ended = slice_get_past lines (length s.said) (omega (arith, ended))

-- a thread that goes on, as it is said of a state
tells_some : (K : Modelling) (lines : List (List ScriptLine)) (r : RunState) (t : ℕ) (x : Tells K lines r t) → SomeGoesOn lines r
tells_some K lines r t x = record {
  thread = t;
  state = x.state;
  is = x.is;
  unfinished = λ ended. none-some x.line (sym (ended_next (lines_at lines t) x.state ended) ∙ x.next);
  free = tells_free K lines r t x;
}

-- Some thread's next line does not wait.
pub record SomeTells (K : Modelling) (lines : List (List ScriptLine)) (r : RunState) : Type 0 where
  pub thread : ℕ
  pub tells : Tells K lines r thread

-- Another thread is blocked, which asks for a partition above p.
record Beyond (lines : List (List ScriptLine)) (r : RunState) (p : ℕ) : Type 0 where
  thread : ℕ
  state : ThreadState
  blocked : IsBlocked (lines_at lines thread) r.world state
  greater : p < blocked.partition
  within : blocked.partition ≤ length r.world.partitions

-- what the next line of a blocked thread may ask for
blocked_allowed : (lines : List ScriptLine) (w : WorldState) (s : ThreadState) (b : IsBlocked lines w s) → refusal_of_order (length w.partitions) (walker_now s) (Lock b.partition) ≡ None
blocked_allowed lines w s b = subst (λ o. refusal_of_order (length w.partitions) (walker_now s) o ≡ None) b.lock b.allowed

-- Who holds the partition that a blocked thread asks for has not ended. Its next line does not wait, or it asks for a
-- greater partition.
holder_goes_on : (K : Modelling) (script : Script) (r : RunState) (t : ℕ) (s : ThreadState) → IsRunning K script r → (b : IsBlocked (lines_at script.threads t) r.world s) → SomeTells K script.threads r ⊎ Beyond script.threads r b.partition
holder_goes_on K script r t s running b =
    let lines = script.threads in
    let n = length r.world.partitions in
    let within = (lock_allowed n s b.partition (blocked_allowed (lines_at lines t) r.world s b)).within in
    let owner = running.owned.owner b.holder b.partition (record { first = within.0; last = within.1; holder = b.held }) in
    let unfinished : HasEnded (lines_at lines b.holder) owner.state → ⊥ = λ ended.
    true≢false (sym owner.held ∙ ap (λ held. is_held held b.partition) (running.telling.ended b.holder owner.state owner.is ended)) in
    ⊎_elim (λ (c : IsBlocked (lines_at lines b.holder) r.world owner.state).
    let asked = lock_allowed n owner.state c.partition (blocked_allowed (lines_at lines b.holder) r.world owner.state c) in
    inr (record {
      thread = b.holder;
      state = owner.state;
      blocked = c;
      greater = omega (arith, held_le_greatest owner.state.held b.partition owner.held, asked.above);
      within = asked.within.1;
    }))
    (λ (x : Tells K lines r b.holder). inl (record { thread = b.holder; tells = x }))
    (blocked_or_tells K lines r b.holder owner.state owner.is (running.telling.within b.holder owner.state owner.is) unfinished)

-- from a blocked thread to one whose next line does not wait, by ever greater partitions, of which there are finitely many
chain : (K : Modelling) (script : Script) (r : RunState) → IsRunning K script r → (k t : ℕ) (s : ThreadState) (b : IsBlocked (lines_at script.threads t) r.world s) → length r.world.partitions ≤ b.partition + k → SomeTells K script.threads r
chain K script r running zero t s b bound =
    ⊎_elim (λ (x : SomeTells K script.threads r). x)
    (λ (y : Beyond script.threads r b.partition). absurd (none_beyond (length r.world.partitions) b.partition y.blocked.partition bound y.greater y.within)) (holder_goes_on K script r t s running b)
  where
    none_beyond : (n p q : ℕ) → n ≤ p + 0 → p < q → q ≤ n → ⊥
    none_beyond n p q a b c = omega arith
chain K script r running (suc k) t s b bound =
    let more = chain K script r running k in
    ⊎_elim (λ (x : SomeTells K script.threads r). x)
    (λ (y : Beyond script.threads r b.partition). more y.thread y.state y.blocked (further (length r.world.partitions) b.partition y.blocked.partition k bound y.greater)) (holder_goes_on K script r t s running b)
  where
    further : (n p q k : ℕ) → n ≤ p + suc k → p < q → n ≤ q + k
    further n p q k a b = omega arith

-- where some thread has not ended, some thread's next line does not wait
pub some_tells : (K : Modelling) (script : Script) (r : RunState) (t : ℕ) (s : ThreadState) → IsRunning K script r → thread_at r.threads t ≡ Some s → (HasEnded (lines_at script.threads t) s → ⊥) → SomeTells K script.threads r
some_tells K script r t s running is unfinished =
    let n = length r.world.partitions in
    ⊎_elim (λ (b : IsBlocked (lines_at script.threads t) r.world s). chain K script r running n t s b (enough n b.partition))
    (λ (x : Tells K script.threads r t). record { thread = t; tells = x })
    (blocked_or_tells K script.threads r t s is (running.telling.within t s is) unfinished)
  where
    enough : (n p : ℕ) → n ≤ p + n
    enough n p = omega arith

-- where some thread has not ended, some thread that has not ended does not wait
pub some_goes_on : (K : Modelling) (script : Script) (r : RunState) (t : ℕ) (s : ThreadState) → IsRunning K script r → thread_at r.threads t ≡ Some s → (HasEnded (lines_at script.threads t) s → ⊥) → SomeGoesOn script.threads r
some_goes_on K script r t s running is unfinished =
    let x = some_tells K script r t s running is unfinished in
    tells_some K script.threads r x.thread x.tells

-- ---- all have ended

-- where all have ended, none has one
pub all_ended : (lines : List (List ScriptLine)) (r : RunState) → HaveEnded lines r → NoneNext lines r
all_ended lines r ended t s is = ended_next (lines_at lines t) s (ended t s is)

-- ---- every script ends

-- each item of xs counts at most as much as the item of ys in its place
abbrev AtMost : {X Y : Type 0} → (X → ℕ) → (Y → ℕ) → Y → List X → List Y → Type 0
AtMost {X} f g d xs ys = (i : ℕ) (x : X) → slice_get xs i ≡ Some x → f x ≤ g (get_or ys i d)

-- just as much
abbrev Equal : {X Y : Type 0} → (X → ℕ) → (Y → ℕ) → Y → List X → List Y → Type 0
Equal {X} f g d xs ys = (i : ℕ) (x : X) → slice_get xs i ≡ Some x → f x ≡ g (get_or ys i d)

-- some item of xs counts less, and so do all together
record Short {X Y : Type 0} (f : X → ℕ) (g : Y → ℕ) (d : Y) (xs : List X) (ys : List Y) : Type 0 where
  place : ℕ
  item : X
  is : slice_get xs place ≡ Some item
  less : f item < g (get_or ys place d)
  total : sum_by f xs < sum_by g ys

sums_le : {X Y : Type 0} (f : X → ℕ) (g : Y → ℕ) (d : Y) (xs : List X) (ys : List Y) → length xs ≡ length ys → AtMost f g d xs ys → sum_by f xs ≤ sum_by g ys
sums_le f g d [] [] count most = omega arith
sums_le f g d [] (y ∷ ys) count most = absurd (omega arith)
sums_le f g d (x ∷ xs) [] count most = absurd (omega arith)
sums_le f g d (x ∷ xs) (y ∷ ys) count most =
    let first : f x ≤ g y = most 0 x refl in
    let rest = sums_le f g d xs ys (omega arith) (λ i z h. most (suc i) z h) in
    omega (arith, sum_by-cons f x xs, sum_by-cons g y ys)

first_and_rest : {X Y : Type 0} (f : X → ℕ) (g : Y → ℕ) (d : Y) (x : X) (xs : List X) (y : Y) (ys : List Y) → f x ≡ g y → Equal f g d xs ys → Equal f g d (x ∷ xs) (y ∷ ys)
first_and_rest f g d x xs y ys e rest zero z h = ap f (sym (same_Some x z h)) ∙ e
first_and_rest f g d x xs y ys e rest (suc i) z h = rest i z h

-- all items count just as much, or some counts less
equal_or_short : {X Y : Type 0} (f : X → ℕ) (g : Y → ℕ) (d : Y) (xs : List X) (ys : List Y) → length xs ≡ length ys → AtMost f g d xs ys → Equal f g d xs ys ⊎ Short f g d xs ys
equal_or_short f g d [] [] count most = inl (λ i x h. absurd (none-some x h))
equal_or_short f g d [] (y ∷ ys) count most = absurd (omega arith)
equal_or_short f g d (x ∷ xs) [] count most = absurd (omega arith)
equal_or_short f g d (x ∷ xs) (y ∷ ys) count most =
    let first : f x ≤ g y = most 0 x refl in
    let size : length xs ≡ length ys = omega arith in
    let others : AtMost f g d xs ys = λ i z h. most (suc i) z h in
    let sums = sums_le f g d xs ys size others in
    ⊎_elim (λ (less : f x < g y). inr (record { place = 0; item = x; is = refl; less = less; total = omega (arith, sum_by-cons f x xs, sum_by-cons g y ys) }))
    (λ (more : g y ≤ f x).
    let e : f x ≡ g y = omega arith in
    ⊎_elim (λ (all : Equal f g d xs ys). inl (first_and_rest f g d x xs y ys e all))
    (λ (short : Short f g d xs ys). inr (record { place = suc short.place; item = short.item; is = short.is; less = short.less; total = let total = short.total in omega (arith, sum_by-cons f x xs, sum_by-cons g y ys) }))
    (equal_or_short f g d xs ys size others)) (cases_lt (f x) (g y))

-- Some thread was not told all its lines, so fewer lines were told than there are.
pub record SomeUnfinished (lines : List (List ScriptLine)) (r : RunState) : Type 0 where
  pub thread : ℕ
  pub state : ThreadState
  pub is : thread_at r.threads thread ≡ Some state
  pub unfinished : HasEnded (lines_at lines thread) state → ⊥
  pub fewer : told_count r < line_count lines

-- all threads have ended, or some has not
pub ended_or_unfinished : (lines : List (List ScriptLine)) (r : RunState) → IsTelling lines r → HaveEnded lines r ⊎ SomeUnfinished lines r
ended_or_unfinished lines r telling =
    ⊎_elim (λ (all : Equal said_to length [] r.threads lines). inl (λ t s is. all (t - 1) s (sym (thread_at-place r.threads t (thread_at-within r.threads t s is).0) ∙ is)))
    (λ (short : Short said_to length [] r.threads lines). inr (record {
      thread = short.place + 1;
      state = short.item;
      is = at_place short.place short.item short.is;
      unfinished = λ ended. not_less (length short.item.said) (length (get_or lines short.place [])) (ended ∙ ap (λ i. length (get_or lines i [])) (back short.place)) short.less;
      fewer = short.total;
    }))
    (equal_or_short said_to length [] r.threads lines telling.count most)
  where
    said_to : ThreadState → ℕ
    said_to s = length s.said

    back : (i : ℕ) → i + 1 - 1 ≡ i
    back i = omega arith

    at_place : (i : ℕ) (s : ThreadState) → slice_get r.threads i ≡ Some s → thread_at r.threads (i + 1) ≡ Some s
    at_place i s is = thread_at-place r.threads (i + 1) (omega arith) ∙ ap (slice_get r.threads) (back i) ∙ is

    most : (i : ℕ) (s : ThreadState) → slice_get r.threads i ≡ Some s → length s.said ≤ length (get_or lines i [])
    most i s is = subst (λ j. length s.said ≤ length (get_or lines j [])) (back i) (telling.within (i + 1) s (at_place i s is))

    not_less : (a b : ℕ) → a ≡ b → a < b → ⊥
    not_less a b e l = omega arith

-- each round tells a line more, as long as some thread has not ended
round_tells : (K : Modelling) (script : Script) (r : RunState) → IsRunning K script r → SomeUnfinished script.threads r → told_count r + 1 ≤ told_count (turns K script.threads r (range_with_len 1 (length script.threads)))
round_tells K script r running x =
    let lines = script.threads in
    let y = some_tells K script r x.thread x.state running x.is x.unfinished in
    let there = thread_at-within r.threads y.thread y.tells.state y.tells.is in
    let one = there.0 in
    let last : y.thread ≤ length lines = let l = there.1 in let n = running.telling.count in omega arith in
    turns_tell K lines r y.thread (range_with_len 1 (length lines)) y.tells (among_range 1 (length lines) y.thread one (omega arith))

-- as many rounds as lines are left are enough
pub rounds_end : (K : Modelling) (script : Script) (k : ℕ) (r : RunState) → IsModeller K → IsWellFormed script → IsRunning K script r → line_count script.threads ≤ told_count r + k → HaveEnded script.threads (rounds K script.threads r k)
rounds_end K script zero r good formed running enough =
    ⊎_elim (λ (all : HaveEnded script.threads r). all)
    (λ (x : SomeUnfinished script.threads r). absurd (let fewer = x.fewer in omega arith)) (ended_or_unfinished script.threads r running.telling)
rounds_end K script (suc k) r good formed running enough =
    let lines = script.threads in
    let round = range_with_len 1 (length lines) in
    let mid = turns K lines r round in
    let more = rounds_end K script k mid good formed (turns_running K script r round good formed running) in
    ⊎_elim (λ (all : HaveEnded lines r). subst (HaveEnded lines) (sym (idle_rounds K lines r (suc k) (all_ended lines r all))) all)
    (λ (x : SomeUnfinished lines r). let tells = round_tells K script r running x in more (omega arith)) (ended_or_unfinished lines r running.telling)

-- the run of a well formed script ends
pub run_ends : (K : Modelling) (script : Script) → IsModeller K → IsWellFormed script → HaveEnded script.threads (run_of K script)
run_ends K script good formed =
    let r = turns K script.threads (run_begins script) script.schedule in
    rounds_end K script (line_count script.threads) r good formed (turns_running K script (run_begins script) script.schedule good formed (begins_running K script good formed)) (omega arith)
