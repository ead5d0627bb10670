-- What a turn and a round leave, as the code makes them.
use Rattle.std.proofs.Common.{◌≡◌, ℕ, zero, suc, ◌+◌, ◌-◌, ◌<◌, ◌≤◌, cond, List, [], ◌∷◌, drop, get_or, map, length, Option, None, Some, slice_get, refl, sym, ap, ap₂, subst, ◌∙◌, arith}
use Rattle.std.specs.Prelude.{slice_set}
use Rattle.std.specs.List.{range_with_len}
use Rattle.std.specs.Option.{option_map_or}
use Rattle.std.proofs.lemmas.List.{set-get_or}
use Rattle.std.proofs.lemmas.Option.{get_or_from_slice_get, slice_get_read}
use Rattle.std.proofs.lemmas.Bool.{le-leb}
use Rattle.std.proofs.Math.Seq.{drop-cons}
use Rattle.std.proofs.Math.Numerals.{suc-eq-add-one}
use Rattle.std.proofs.lemmas.List.Sums.{sum_by-cons}
use Rattle.std.specs.Prelude.{IfOk, OnOk, Result, Ok, Err, replicate}
use Rattle.pk_model.specs.Modelling.{IsModeller, Modelling}
use Rattle.partition.specs.Partition.{PartitionView}
use Rattle.world_core.specs.World.{WorldPartition, WorldState, beginning}
use Rattle.world_core.specs.Inside.{seen_as}
use Rattle.script_text.specs.declared.script.ScriptLine.{ScriptLine}
use Rattle.script_thread.specs.Thread.{ThreadState, fresh_thread}
use Rattle.serial_run.specs.Serial.{Carried, RunState, goes_on, line_by, line_count, lines_at, next_line, obey, rounds, run_begins, thread_at, turn, turn_by, turns}
use Rattle.script_text.specs.declared.script.Script.{Script}
use Rattle.script_thread.specs.WellFormed.{IsWellFormed}
use Rattle.serial_run.specs.Reached.{IsReached}
use Rattle.serial_run.specs.Orders.{IsCarriedOut, IsLineLeft, IsOrderLeft, run_state}
use Rattle.serial_run.proofs.Turning.{turn_reached}

-- ---- a turn

-- the world and thread t as they were left
abbrev pub with_thread : RunState → ℕ → WorldState → ThreadState → RunState
with_thread r t w s = record { world = w; threads = slice_set r.threads (t - 1) s }

-- what stands in its place stays
set_same : {X : Type 0} (xs : List X) (i : ℕ) (x : X) → slice_get xs i ≡ Some x → slice_set xs i x ≡ xs
set_same xs i x is = ap (slice_set xs i) (sym (get_or_from_slice_get xs i x x is)) ∙ set-get_or xs i x

left_same : (r : RunState) (t : ℕ) (s s' : ThreadState) (w' : WorldState) → slice_get r.threads (t - 1) ≡ Some s → (w' ≡ r.world) × (s' ≡ s) → with_thread r t w' s' ≡ r
left_same r t s s' w' is h =
    ap (λ w. with_thread r t w s') h.0 ∙ ap (with_thread r t r.world) h.1
    ∙ ap (λ (ts : List ThreadState). record r { threads = ts }) (set_same r.threads (t - 1) s is)

carried_by : (r : RunState) (t : ℕ) (s s' : ThreadState) (w' : WorldState) (k : ℕ) (o : Option Carried) → slice_get r.threads (t - 1) ≡ Some s → IsOrderLeft r.world s w' s' k o → with_thread r t w' s' ≡ option_map_or (goes_on r t s k) o r
carried_by r t s s' w' k None is h = left_same r t s s' w' is h
carried_by r t s s' w' k (Some c) is h = ap (λ w. with_thread r t w s') h.0 ∙ ap (with_thread r t c.world) h.1

line_left : (K : Modelling) (r : RunState) (t : ℕ) (s s' : ThreadState) (w' : WorldState) (o : Option ScriptLine) → slice_get r.threads (t - 1) ≡ Some s → IsLineLeft K t r.world s w' s' o → with_thread r t w' s' ≡ line_by K r t s o
line_left K r t s s' w' None is h = left_same r t s s' w' is h
line_left K r t s s' w' (Some line) is h = carried_by r t s s' w' line.number (obey K t r.world s line.order) is h

-- thread t stands at this place
pub found_thread : (threads : List ThreadState) (t : ℕ) (s : ThreadState) → 1 ≤ t → t ≤ length threads → s ≡ get_or threads (t - 1) s → thread_at threads t ≡ Some s
found_thread threads t s first last at =
    let within : t - 1 < length threads = omega (arith, first, last) in
    ap (λ b. cond b (slice_get threads (t - 1)) None) (le-leb 1 t first)
    ∙ slice_get_read threads (length threads) (t - 1) s refl within at

-- Thread t stands at this place, and its next line was carried out: that is its turn.
pub turn_taken : (K : Modelling) (lines : List (List ScriptLine)) (w w' : WorldState) (threads : List ThreadState) (t : ℕ) (s s' : ThreadState) → 1 ≤ t → t ≤ length threads → s ≡ get_or threads (t - 1) s → IsCarriedOut K (lines_at lines t) t w s w' s' → run_state w' (slice_set threads (t - 1) s') ≡ turn K lines (run_state w threads) t
turn_taken K lines w w' threads t s s' first last at done =
    let r = run_state w threads in
    let within : t - 1 < length threads = omega (arith, first, last) in
    let found : slice_get threads (t - 1) ≡ Some s = slice_get_read threads (length threads) (t - 1) s refl within at in
    line_left K r t s s' w' (next_line (lines_at lines t) s) found done
    ∙ sym (ap (turn_by K lines r t) (found_thread threads t s first last at))

-- ---- rounds

-- some rounds, and then some more
pub rounds_more : (K : Modelling) (lines : List (List ScriptLine)) (r : RunState) (a b : ℕ) → rounds K lines r (a + b) ≡ rounds K lines (rounds K lines r a) b
rounds_more K lines r zero b = let e : 0 + b ≡ b = omega arith in ap (rounds K lines r) e
rounds_more K lines r (suc a) b =
    let e : suc a + b ≡ suc (a + b) = omega arith in
    ap (rounds K lines r) e ∙ rounds_more K lines (turns K lines r (range_with_len 1 (length lines))) a b

-- the lines of a thread, and those of the threads behind it
pub count_next : (lines : List (List ScriptLine)) (i : ℕ) (own : List ScriptLine) → i < length lines → own ≡ get_or lines i own → line_count (drop i lines) ≡ length own + line_count (drop (i + 1) lines)
count_next lines i own less is =
    let here : drop i lines ≡ own ∷ drop (i + 1) lines = drop-cons lines i own less ∙ ap (λ o. o ∷ drop (suc i) lines) (sym is) ∙ ap (λ k. own ∷ drop k lines) (suc-eq-add-one i) in
    ap line_count here ∙ sum_by-cons length own (drop (i + 1) lines)

-- ---- what the code answers

-- the turn was taken, unless memory ran out
pub turn_made : {A E : Type 0} (K : Modelling) (lines : List (List ScriptLine)) (own : List ScriptLine) (w w' : WorldState) (threads : List ThreadState) (t : ℕ) (s s' : ThreadState) (answer : Result A E) → 1 ≤ t → t ≤ length threads → s ≡ get_or threads (t - 1) s → own ≡ lines_at lines t → OnOk answer (IsCarriedOut K own t w s w' s') → OnOk answer (run_state w' (slice_set threads (t - 1) s') ≡ turn K lines (run_state w threads) t)
turn_made K lines own w w' threads t s s' (Ok x) first last at own_is done =
    turn_taken K lines w w' threads t s s' first last at (subst (λ ls. IsCarriedOut K ls t w s w' s') own_is done)
turn_made K lines own w w' threads t s s' (Err e) first last at own_is done = tt

-- and so the state after it is reached
pub made_reached : {A E : Type 0} (K : Modelling) → IsModeller K → (script : Script) → IsWellFormed script → (r new : RunState) (t : ℕ) (answer : Result A E) → IsReached K script r → OnOk answer (new ≡ turn K script.threads r t) → OnOk answer (IsReached K script new)
made_reached K good script formed r new t (Ok x) reached made = subst (IsReached K script) (sym made) (turn_reached K script r t good formed reached)
made_reached K good script formed r new t (Err e) reached made = tt

-- ---- the whole run

-- the world and the threads at their beginning
pub begun : (script : Script) (w : WorldState) (threads : List ThreadState) (all : List (List ScriptLine)) → all ≡ script.threads → w ≡ beginning script.n script.last (length all) → threads ≡ replicate (length all) fresh_thread → run_state w threads ≡ run_begins script
begun script w threads all is world fresh =
    ap₂ (λ (v : WorldState) (ts : List ThreadState). record { world = v; threads = ts }) world fresh
    ∙ ap (λ (ls : List (List ScriptLine)). record { world = beginning script.n script.last (length ls); threads = replicate (length ls) fresh_thread }) is

-- the journals of partitions, and those of their world
pub journals_seen : (vs : List PartitionView) → map (λ (v : PartitionView). v.journal) vs ≡ map (λ (q : WorldPartition). q.journal) (map seen_as vs)
journals_seen [] = refl
journals_seen (v ∷ vs) = ap (λ js. v.journal ∷ js) (journals_seen vs)

-- what holds of a value holds of an answer that is this value
pub ok_is : {A E : Type 0} (P : A → Type 0) (x : A) (answer : Result A E) → IfOk answer (λ r. r ≡ x) → P x → IfOk answer P
ok_is P x (Ok r) is holds = subst P (sym is) holds
ok_is P x (Err e) is holds = tt
