-- The threads of a run by their numbers, before and after one of them goes on.
use Rattle.std.proofs.Common.{◌≡◌, ℕ, zero, suc, ◌-◌, ◌<◌, ◌≤◌, ⊎_elim, inl, inr, Bool, true, false, cond, List, [], ◌∷◌, length, Some, None, refl, sym, ap, ◌∙◌, arith}
use Rattle.std.specs.Prelude.{◌≢◌, ◌⊎◌, nat_le, replicate, slice_get, slice_set}
use Rattle.std.proofs.lemmas.Bool.{cases_eq, le-leb, leb-true}
use Rattle.std.proofs.lemmas.List.{get_or-replicate, length-replicate}
use Rattle.std.proofs.lemmas.Option.{get_or_from_slice_get, same_Some, slice_get_within, none-some}
use Rattle.script_thread.specs.Thread.{ThreadState}
use Rattle.serial_run.specs.Serial.{Carried, RunState, goes_on, thread_at, told}

-- ---- lists

pub slice_get-set_same : {X : Type 0} (xs : List X) (i : ℕ) (y : X) → i < length xs → slice_get (slice_set xs i y) i ≡ Some y
slice_get-set_same [] i y h = absurd (omega arith)
slice_get-set_same (x ∷ xs) zero y h = refl
slice_get-set_same (x ∷ xs) (suc i) y h = slice_get-set_same xs i y (omega arith)

pub slice_get-set_other : {X : Type 0} (xs : List X) (i j : ℕ) (y : X) → j ≢ i → slice_get (slice_set xs i y) j ≡ slice_get xs j
slice_get-set_other [] i j y h = refl
slice_get-set_other (x ∷ xs) zero zero y h = absurd (h refl)
slice_get-set_other (x ∷ xs) zero (suc j) y h = refl
slice_get-set_other (x ∷ xs) (suc i) zero y h = refl
slice_get-set_other (x ∷ xs) (suc i) (suc j) y h = slice_get-set_other xs i j y (λ e. h (ap suc e))

-- ---- threads

-- a thread is there from 1 to the last
pub thread_at-within : (threads : List ThreadState) (t : ℕ) (s : ThreadState) → thread_at threads t ≡ Some s → (1 ≤ t) × (t ≤ length threads)
thread_at-within threads t s h =
    elim (nat_le 1 t) as (λ (b : Bool). nat_le 1 t ≡ b → cond b (slice_get threads (t - 1)) None ≡ Some s → (1 ≤ t) × (t ≤ length threads)) [
      | true ↦ λ is k. let one = leb-true 1 t is in let within = slice_get_within threads (t - 1) s k in (one, omega arith)
      | false ↦ λ is k. absurd (none-some s k)
    ] refl h

-- thread t stands in its place
pub thread_at-place : (threads : List ThreadState) (t : ℕ) → 1 ≤ t → thread_at threads t ≡ slice_get threads (t - 1)
thread_at-place threads t one = ap (λ b. cond b (slice_get threads (t - 1)) None) (le-leb 1 t one)

pub thread_at-set_same : (threads : List ThreadState) (t : ℕ) (s : ThreadState) → 1 ≤ t → t ≤ length threads → thread_at (slice_set threads (t - 1) s) t ≡ Some s
thread_at-set_same threads t s one last = thread_at-place (slice_set threads (t - 1) s) t one ∙ slice_get-set_same threads (t - 1) s (omega arith)

pub thread_at-set_other : (threads : List ThreadState) (t u : ℕ) (s : ThreadState) → 1 ≤ t → u ≢ t → thread_at (slice_set threads (t - 1) s) u ≡ thread_at threads u
thread_at-set_other threads t zero s one differ = refl
thread_at-set_other threads t (suc v) s one differ =
    let first : 1 ≤ suc v = omega arith in
    thread_at-place (slice_set threads (t - 1) s) (suc v) first
    ∙ slice_get-set_other threads (t - 1) (suc v - 1) s (λ (e : suc v - 1 ≡ t - 1). differ (omega arith))
    ∙ sym (thread_at-place threads (suc v) first)

-- where all threads are alike, each is this one
pub thread_at-replicate : (n t : ℕ) (x s : ThreadState) → thread_at (replicate n x) t ≡ Some s → s ≡ x
thread_at-replicate n t x s h =
    let within = thread_at-within (replicate n x) t s h in
    let one = within.0 in
    let last : t ≤ length (replicate n x) = within.1 in
    let count : length (replicate n x) ≡ n = length-replicate n x in
    let place : t - 1 < n = omega arith in
    sym (get_or_from_slice_get (replicate n x) (t - 1) s x (sym (thread_at-place (replicate n x) t one) ∙ h)) ∙ get_or-replicate n (t - 1) x x place

-- ---- a thread goes on

-- thread t is then the one that was told so
pub goes_on-itself : (r : RunState) (t : ℕ) (s : ThreadState) (k : ℕ) (c : Carried) → thread_at r.threads t ≡ Some s → thread_at (goes_on r t s k c).threads t ≡ Some (told s k c)
goes_on-itself r t s k c is = let within = thread_at-within r.threads t s is in thread_at-set_same r.threads t (told s k c) within.0 within.1

-- and all others stay
pub goes_on-other : (r : RunState) (t u : ℕ) (s : ThreadState) (k : ℕ) (c : Carried) → thread_at r.threads t ≡ Some s → u ≢ t → thread_at (goes_on r t s k c).threads u ≡ thread_at r.threads u
goes_on-other r t u s k c is differ = thread_at-set_other r.threads t u (told s k c) (thread_at-within r.threads t s is).0 differ

-- each thread is the one that went on, or was there before
pub goes_on-threads : (r : RunState) (t : ℕ) (s : ThreadState) (k : ℕ) (c : Carried) → thread_at r.threads t ≡ Some s → (u : ℕ) (x : ThreadState) → thread_at (goes_on r t s k c).threads u ≡ Some x → ((u ≡ t) × (x ≡ told s k c)) ⊎ ((u ≢ t) × (thread_at r.threads u ≡ Some x))
goes_on-threads r t s k c is u x h =
    let after = goes_on r t s k c in
    ⊎_elim (λ (same : u ≡ t). inl (same, same_Some x (told s k c) (sym h ∙ ap (thread_at after.threads) same ∙ goes_on-itself r t s k c is)))
    (λ (differ : u ≢ t). inr (differ, sym (goes_on-other r t u s k c is differ) ∙ h)) (cases_eq u t)
