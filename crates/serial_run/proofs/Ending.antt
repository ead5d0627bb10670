-- Whether all threads have ended, thread by thread.
use Rattle.std.proofs.Common.{◌≡◌, ℕ, ◌+◌, ◌-◌, ◌<◌, ◌≤◌, nat_lt, ◌&&◌, Bor, true, List, [], ◌∷◌, drop, get_or, length, Option, None, Some, slice_get, zero, suc, refl, sym, ap, subst, ◌∙◌, arith}
use Rattle.std.proofs.Math.Seq.{drop-cons}
use Rattle.std.proofs.Math.Numerals.{suc-eq-add-one}
use Rattle.std.proofs.lemmas.Bool.{and_parts, leb-true, ltb-false, ltb-true}
use Rattle.std.proofs.lemmas.List.{drop-drop, get_or_default}
use Rattle.std.proofs.lemmas.Option.{slice_get_past, slice_get_read}
use Rattle.std.specs.Prelude.{slice_index_or}
use Rattle.std.specs.Option.{IfSome, is_some, option_map_or}
use Rattle.script_text.specs.declared.script.ScriptLine.{ScriptLine}
use Rattle.script_thread.specs.Thread.{ThreadState}
use Rattle.serial_run.specs.Serial.{RunState, lines_at}
use Rattle.serial_run.specs.Orders.{ended_by, has_ended, have_ended}
use Rattle.serial_run.proofs.Threads.{thread_at-place, thread_at-within}
use Rattle.serial_run.proofs.Idle.{NoneNext}

-- without threads all have ended
none_left : (lines : List (List ScriptLine)) → have_ended lines [] ≡ true
none_left [] = refl
none_left (l ∷ ls) = refl

-- the thread at the front, and those behind it
front_ended : (own : List ScriptLine) (more : List (List ScriptLine)) (threads : List ThreadState) → have_ended (own ∷ more) threads ≡ option_map_or (has_ended own) (slice_get threads 0) true && have_ended more (drop 1 threads)
front_ended own more [] = sym (none_left more)
front_ended own more (s ∷ threads) = refl

slice_get-drop : {X : Type 0} (xs : List X) (k : ℕ) → slice_get (drop k xs) 0 ≡ slice_get xs k
slice_get-drop [] zero = refl
slice_get-drop [] (suc k) = refl
slice_get-drop (x ∷ xs) zero = refl
slice_get-drop (x ∷ xs) (suc k) = slice_get-drop xs k

-- whether the threads from the k-th on have ended: this one has, and those behind it have
pub next_ended : (lines : List (List ScriptLine)) (threads : List ThreadState) (k : ℕ) → k < length lines → have_ended (drop k lines) (drop k threads) ≡ option_map_or (has_ended (get_or lines k [])) (slice_get threads k) true && have_ended (drop (k + 1) lines) (drop (k + 1) threads)
next_ended lines threads k less =
    ap (λ ls. have_ended ls (drop k threads)) (drop-cons lines k [] less)
    ∙ front_ended (get_or lines k []) (drop (suc k) lines) (drop k threads)
    ∙ ap (λ o. option_map_or (has_ended (get_or lines k [])) o true && have_ended (drop (suc k) lines) (drop 1 (drop k threads))) (slice_get-drop threads k)
    ∙ ap (λ ts. option_map_or (has_ended (get_or lines k [])) (slice_get threads k) true && have_ended (drop (suc k) lines) ts) (drop-drop 1 k threads)
    ∙ ap (λ n. option_map_or (has_ended (get_or lines k [])) (slice_get threads k) true && have_ended (drop n lines) (drop (k + 1) threads)) (suc-eq-add-one k)

-- what is found at a place of the threads tells whether the k-th has ended
pub ended_at : (lines : List (List ScriptLine)) (threads : List ThreadState) (k : ℕ) (own : List ScriptLine) (found : Option (Bor ThreadState)) → own ≡ get_or lines k own → k < length lines → is_some found ≡ nat_lt k (length threads) → IfSome found (λ x. x.now ≡ slice_index_or threads k x.now) → ended_by own found ≡ option_map_or (has_ended (get_or lines k [])) (slice_get threads k) true
ended_at lines threads k own None is less there at =
    let past : length threads ≤ k = ltb-false k (length threads) (sym there) in
    sym (ap (λ o. option_map_or (has_ended (get_or lines k [])) o true) (slice_get_past threads k past))
ended_at lines threads k own (Some t) is less there at =
    let within : k < length threads = ltb-true k (length threads) (sym there) in
    ap (λ ls. has_ended ls t.now) (is ∙ get_or_default lines k own [] less)
    ∙ sym (ap (λ o. option_map_or (has_ended (get_or lines k [])) o true) (slice_get_read threads (length threads) k t.now refl within at))

-- what was told to one of the threads that have ended is no less than its lines
ended_one : (lines : List (List ScriptLine)) (threads : List ThreadState) (i : ℕ) (s : ThreadState) → have_ended lines threads ≡ true → slice_get threads i ≡ Some s → length (slice_index_or lines i []) ≤ length s.said
ended_one [] threads i s h is = omega arith
ended_one (own ∷ more) [] i s h is = absurd (cc)
ended_one (own ∷ more) (x ∷ threads) zero s h is = let e : x ≡ s = cc in subst (λ (y : ThreadState). length own ≤ length y.said) e (leb-true (length own) (length x.said) (and_parts (has_ended own x) (have_ended more threads) h).0)
ended_one (own ∷ more) (x ∷ threads) (suc i) s h is = ended_one more threads i s (and_parts (has_ended own x) (have_ended more threads) h).1 is

-- where all have ended, none has a next line
pub have_ended-next : (lines : List (List ScriptLine)) (r : RunState) → have_ended lines r.threads ≡ true → NoneNext lines r
have_ended-next lines r h t s is =
    let place : slice_get r.threads (t - 1) ≡ Some s = sym (thread_at-place r.threads t (thread_at-within r.threads t s is).0) ∙ is in
    slice_get_past (lines_at lines t) (length s.said) (ended_one lines r.threads (t - 1) s h place)
