-- The entries of one thread in a journal, and lists of which one has something.
use Rattle.std.proofs.Common.{◌≡◌, ℕ, zero, suc, ◌+◌, ◌-◌, ◌<◌, ◌≤◌, ◌==◌, cond, List, [], ◌∷◌, ◌++◌, append-nil, filter, length, get_or, Some, refl, sym, ap, ap₂, subst, ◌∙◌, arith}
use Rattle.std.specs.Prelude.{Option, None, replicate, slice_set}
use Rattle.std.specs.Option.{option_map_or}
use Rattle.std.specs.List.{AllByRecursion}
use Rattle.std.proofs.lemmas.Bool.{eq-eqb}
use Rattle.std.proofs.lemmas.List.{get_or-set_same, length-replicate, set-set}
use Rattle.std.proofs.lemmas.List.Elements.{filter-append}
use Rattle.pk_base.specs.declared.act.Entry.{Entry}
use Rattle.pk_model.specs.State.{PartitionState, opening}
use Rattle.pk_model.specs.Modelling.{Modelling}
use Rattle.pk_model.specs.Step.{step, Stepped}
use Rattle.pk_model.specs.Replay.{AnsweredEntry, answered_entries, answered_entries_from, replay, replay_from, thread_of}
use Rattle.pk_model.proofs.Replays.{answered_entries_from-step, replay_from-first, told_of}
use Rattle.script_text.specs.Walk.{entries_of, walker_of}
use Rattle.script_thread.proofs.Longer.{behind, longer}

-- ---- the entries of one journal

-- the entries with their answers, in two parts
answered_entries_from-append : (K : Modelling) (s : PartitionState) (es fs : List Entry) (mid : PartitionState) → replay_from K s es ≡ Some mid → answered_entries_from K s (es ++ fs) ≡ answered_entries_from K s es ++ answered_entries_from K mid fs
answered_entries_from-append K s [] fs mid h = let e : s ≡ mid = cc in ap (λ x. answered_entries_from K x fs) e
answered_entries_from-append K s (e ∷ es) fs mid h =
    let c = replay_from-first K s e es mid h in
    answered_entries_from-step K s e (es ++ fs) c.first c.steps
    ∙ ap (λ l. told_of s e c.first ∷ l) (answered_entries_from-append K c.first.state es fs mid c.rest)
    ∙ ap (λ l. l ++ answered_entries_from K mid fs) (sym (answered_entries_from-step K s e es c.first c.steps))

-- an entry and those behind it, with their answers, where its step is defined
abbrev pub told_by : Modelling → PartitionState → Entry → List Entry → Option Stepped → List AnsweredEntry
told_by K s e es o = option_map_or (λ (r : Stepped). record { entry = e; before = s; answer = r.answer } ∷ answered_entries_from K r.state es) o []

-- those of these entries that are of thread t
abbrev pub own : ℕ → List AnsweredEntry → List AnsweredEntry
own t xs = filter (λ x. thread_of x.entry == t) xs

-- entries that are all of thread t
pub all_own : (K : Modelling) (t : ℕ) (s : PartitionState) (es : List Entry) → AllByRecursion (λ e. thread_of e ≡ t) es → own t (answered_entries_from K s es) ≡ answered_entries_from K s es
all_own K t s [] mine = refl
all_own K t s (e ∷ es) mine =
    elim (step K s e) as (λ (o : Option Stepped). own t (told_by K s e es o) ≡ told_by K s e es o) [
      | None ↦ refl
      | Some r ↦
          let x : AnsweredEntry = record { entry = e; before = s; answer = r.answer } in
          let rest = answered_entries_from K r.state es in
          ap (λ b. cond b (x ∷ own t rest) (own t rest)) (eq-eqb (thread_of e) t mine.0)
          ∙ ap (λ xs. x ∷ xs) (all_own K t r.state es mine.1)
    ]

-- ---- lists of which one has something

-- n lists, of which the p-th is this one, and all others are empty
abbrev pub only : {X : Type 0} → ℕ → ℕ → List X → List (List X)
only {X} n p xs = slice_set (replicate n []) (p - 1) xs

set_none : {X : Type 0} (n i : ℕ) (x : X) → slice_set (replicate n x) i x ≡ replicate n x
set_none zero i x = refl
set_none (suc n) zero x = refl
set_none (suc n) (suc i) x = ap (λ l. x ∷ l) (set_none n i x)

pub only_none : {X : Type 0} (n p : ℕ) → only {X = X} n p [] ≡ replicate n []
only_none {X} n p = set_none n (p - 1) []

-- what stands in the place is taken
pub only_set : {X : Type 0} (n p : ℕ) (xs ys : List X) → slice_set (only n p xs) (p - 1) ys ≡ only n p ys
only_set n p xs ys = set-set (replicate n []) (p - 1) xs ys

pub behind_none : {X : Type 0} (n : ℕ) (ls : List (List X)) → behind ls (replicate n []) ≡ ls
behind_none n [] = refl
behind_none zero (l ∷ ls) = refl
behind_none (suc n) (l ∷ ls) = ap₂ (λ x xs. x ∷ xs) (append-nil l) (behind_none n ls)

none_behind : {X : Type 0} (n i : ℕ) (ys : List X) → behind (replicate n []) (slice_set (replicate n []) i ys) ≡ slice_set (replicate n []) i ys
none_behind zero i ys = refl
none_behind {X} (suc n) zero ys = ap (λ l. ys ∷ l) (behind_none {X = X} n (replicate n []))
none_behind {X} (suc n) (suc i) ys = ap (λ l. [] ∷ l) (none_behind n i ys)

pub only_behind_none : {X : Type 0} (n p : ℕ) (ys : List X) → behind (replicate n []) (only n p ys) ≡ only n p ys
only_behind_none n p ys = none_behind n (p - 1) ys

pub get_or-only : {X : Type 0} (n p : ℕ) (xs : List X) → 1 ≤ p → p ≤ n → get_or (only n p xs) (p - 1) [] ≡ xs
get_or-only {X} n p xs first last = let e : length (replicate {A = List X} n []) ≡ n = length-replicate n [] in get_or-set_same (replicate n []) (p - 1) xs [] (omega (arith, e))

-- ---- the entries of all journals

-- One journal has these entries more: the list of thread t has those more that are its own, and all else stays.
pub entries_grow : (K : Modelling) (t b : ℕ) (journals : List (List Entry)) (i : ℕ) (es : List Entry) (mid : PartitionState) → i < length journals → replay K (b + i) (get_or journals i []) ≡ Some mid → entries_of K t b (slice_set journals i (get_or journals i [] ++ es)) ≡ behind (entries_of K t b journals) (slice_set (replicate (length journals) []) i (own t (answered_entries_from K mid es)))
entries_grow K t b [] i es mid in' replays = refl
entries_grow K t b (j ∷ js) zero es mid in' replays =
    let xs = answered_entries_from K mid es in
    let rest = entries_of K t (b + 1) js in
    let here : b + 0 ≡ b = omega arith in
    let first : own t (answered_entries K b (j ++ es)) ≡ own t (answered_entries K b j) ++ own t xs =
    ap (own t) (answered_entries_from-append K (opening b) j es mid (subst (λ p. replay K p j ≡ Some mid) here replays))
    ∙ filter-append (λ z. thread_of z.entry == t) (answered_entries K b j) xs in
    ap₂ (λ z zs. z ∷ zs) first (sym (behind_none (length js) rest))
entries_grow K t b (j ∷ js) (suc i) es mid in' replays =
    let there : b + suc i ≡ (b + 1) + i = omega arith in
    ap₂ (λ z zs. z ∷ zs) (sym (append-nil (own t (answered_entries K b j))))
    (entries_grow K t (b + 1) js i es mid (omega arith) (subst (λ p. replay K p (get_or js i []) ≡ Some mid) there replays))

-- Partition p has these entries more, all of thread t: they are left behind the others.
pub walker_grows_by : (K : Modelling) (t p : ℕ) (journals : List (List Entry)) (es : List Entry) (mid : PartitionState) → 1 ≤ p → p ≤ length journals → replay K p (get_or journals (p - 1) []) ≡ Some mid → AllByRecursion (λ e. thread_of e ≡ t) es → walker_of K t (slice_set journals (p - 1) (get_or journals (p - 1) [] ++ es)) ≡ longer (walker_of K t journals) (only (length journals) p (answered_entries_from K mid es))
walker_grows_by K t p journals es mid first last replays mine =
    let number : p ≡ 1 + (p - 1) = omega arith in
    let grown = entries_grow K t 1 journals (p - 1) es mid (omega arith) (subst (λ q. replay K q (get_or journals (p - 1) []) ≡ Some mid) number replays) in
    let left = grown ∙ ap (λ xs. behind (entries_of K t 1 journals) (only (length journals) p xs)) (all_own K t mid es mine) in
    λ i. record { held = []; names = []; left = left i }
