-- The report that the seats and the partitions leave is legal.
use Rattle.std.proofs.Common.{◌≡◌, ℕ, zero, suc, ◌+◌, ◌<◌, ◌≤◌, ◌==◌, ◌⊎◌, inl, inr, ⊎_elim, Bool, true, false, cond, List, [], ◌∷◌, length, length-append, map, Option, None, Some, refl, sym, ap, subst, ◌∙◌, arith, rules}
use Rattle.std.specs.Prelude.{IsPermutation, IsSome, MatchOption, option_map, slice_get}
use Rattle.std.specs.List.{AllByRecursion, cons_option, filter_map, range_with_len}
use Rattle.std.proofs.lemmas.Bool.{cases_lt, eq-eqb, false≢true}
use Rattle.std.proofs.lemmas.List.{length-map}
use Rattle.std.proofs.lemmas.List.FromFn.{length-range_with_len}
use Rattle.std.proofs.lemmas.List.Sorted.{length_permutation}
use Rattle.list_facts.proofs.Each.{ByRecursion-weaker}
use Rattle.pk_base.specs.declared.act.Entry.{Entry}
use Rattle.pk_model.specs.State.{PartitionState}
use Rattle.pk_model.specs.Modelling.{Modelling, IsModeller}
use Rattle.pk_model.specs.Replay.{spent_number, thread_of}
use Rattle.pk_model.specs.Sessions.{EachReplays, drawn_in}
use Rattle.pk_model.specs.Apart.{Apart}
use Rattle.pk_model.proofs.Sessions.{counted_apart}
use Rattle.partition.specs.Partition.{PartitionView}
use Rattle.script_text.specs.LegalReport.{EachLegal, EachTranscript, IsTranscript, LegalJournals, LegalReport, spent_in}
use Rattle.script_text.specs.declared.script.Script.{Script}
use Rattle.script_text.specs.declared.script.ScriptLine.{ScriptLine}
use Rattle.script_text.specs.declared.report.Line.{Line}
use Rattle.script_thread.specs.Journals.{EachGoesOnWithout}
use Rattle.script_thread.proofs.Journals.{same_transcript}
use Rattle.session_table.specs.Entries.{only, thread_of as seat_of}
use Rattle.session_table.specs.Names.{SessionName}
use Rattle.session_table.specs.Seats.{mine_of, seen_of}
use Rattle.pk_session.specs.Ends.{IsLeft, Leaves, journals_of}
use Rattle.pk_session.specs.Views.{SeatView}
use Rattle.threaded_run.specs.Promise.{AreThrough, IsRootOf, IsSpentWithin, IsThrough, seen_in}
use Rattle.threaded_run.proofs.Through.{each_goes_on, one_thread, only_mine}

-- ---- lists of entries, seat by seat

behind_first : (Q : Entry → Type 0) (b : Bool) (e : Entry) (es : List Entry) → AllByRecursion Q (cond b (e ∷ es) es) → AllByRecursion Q es
behind_first Q true e es h = h.1
behind_first Q false e es h = h

-- what holds of the entries of each seat holds of all
all_of_each : (Q : Entry → Type 0) (es : List Entry) → ((t : ℕ) → AllByRecursion Q (only t es)) → AllByRecursion Q es
all_of_each Q [] each = tt
all_of_each Q (e ∷ es) each =
    let own = only (seat_of e) es in
    let here : only (seat_of e) (e ∷ es) ≡ e ∷ own = ap (λ b. cond b (e ∷ own) own) (eq-eqb (seat_of e) (seat_of e) refl) in
    ((subst (AllByRecursion Q) here (each (seat_of e))).0, all_of_each Q es (λ t. behind_first Q (seat_of e == t) e (only t es) (each t)))

-- the entries of a seat are of its thread
own_thread : (t : ℕ) (es : List Entry) → AllByRecursion (λ e. thread_of e ≡ t) (only t es)
own_thread t [] = tt
own_thread t (e ∷ es) =
    elim (seat_of e == t) as (λ b. seat_of e == t ≡ b → AllByRecursion (λ x. thread_of x ≡ t) (cond b (e ∷ only t es) (only t es))) [
      | true ↦ λ is. (sym (one_thread e) ∙ (search (is, rules)), own_thread t es)
      | false ↦ λ is. own_thread t es
    ] refl

both : (P Q : Entry → Type 0) (es : List Entry) → AllByRecursion P es → AllByRecursion Q es → AllByRecursion (λ e. P e × Q e) es
both P Q [] h k = tt
both P Q (e ∷ es) h k = ((h.0, k.0), both P Q es h.1 k.1)

-- ---- the seat of a thread

record Seated (K : Modelling) (root : SeatView) (t : ℕ) : Type 0 where
  lines : List ScriptLine
  said : List Line
  through : IsThrough K root t lines said

seat_at : (K : Modelling) (root : SeatView) (first : ℕ) (threads : List (List ScriptLine)) (said : List (List Line)) → AreThrough K root first threads said → (i : ℕ) → i < length threads → Seated K root (first + i)
seat_at K root first [] said h i l = absurd (omega (arith, l))
seat_at K root first (lines ∷ threads) [] h i l = absurd h
seat_at K root first (lines ∷ threads) (s ∷ said) h zero l =
    let here : first ≡ first + 0 = omega arith in
    record { lines = lines; said = s; through = subst (λ t. IsThrough K root t lines s) here h.0 }
seat_at K root first (lines ∷ threads) (s ∷ said) h (suc i) l =
    let next : (first + 1) + i ≡ first + suc i = omega arith in
    subst (Seated K root) next (seat_at K root (first + 1) threads said h.1 i (omega (arith, l)))

as_many : (K : Modelling) (root : SeatView) (t : ℕ) (threads : List (List ScriptLine)) (said : List (List Line)) → AreThrough K root t threads said → length threads ≡ length said
as_many K root t [] [] h = refl
as_many K root t (lines ∷ threads) (s ∷ said) h = ap suc (as_many K root (t + 1) threads said h.1)
as_many K root t [] (s ∷ said) h = absurd h
as_many K root t (lines ∷ threads) [] h = absurd h

-- a number spent, as the seat has it, and as root has it
spent_by_root : (last : ℕ) (o p : Option ℕ) → (IsSome o → IsSome p) → (e : Entry) → IsSpentWithin last o e → IsSpentWithin last p e
spent_by_root last o p keeps e h =
    elim (spent_number e) as (λ (k : Option ℕ). MatchOption k (Unit {0}) (λ k. ((last < k) × (k ≤ last + 65535)) × IsSome o) → MatchOption k (Unit {0}) (λ k. ((last < k) × (k ≤ last + 65535)) × IsSome p)) [
      | None ↦ λ _. tt
      | Some k ↦ λ x. (x.0, keeps x.1)
    ] h

-- ---- the journals

module _ (K : Modelling) (root : SeatView) (threads : List (List ScriptLine)) (said : List (List Line)) (is_root : IsRootOf (length threads) root) (through : AreThrough K root 1 threads said) where
  abbrev T : ℕ
  T = length threads

  abbrev n : ℕ
  n = root.session.bounds.partitions

  abbrev last : ℕ
  last = root.session.bounds.last

  -- what is known of each entry: it is of one of the threads, and a number that it found spent is in order
  abbrev IsKnown : Entry → Type 0
  IsKnown e = ((1 ≤ thread_of e) × (thread_of e ≤ T)) × IsSpentWithin last root.view.past e

  known_of : (t : ℕ) → Seated K root t → 1 ≤ t → t ≤ T → (p : ℕ) (x : PartitionView) → IsLeft K root p x → AllByRecursion IsKnown (only t x.journal)
  known_of t at first last' p x left =
      let s = at.through.seat in
      let same = only_mine K root s at.lines at.said at.through.run at.through.kept p x left in
      let mine : only t x.journal ≡ mine_of s.view p = ap (λ u. only u x.journal) (sym at.through.number) ∙ same in
      let spent = subst (λ (m : SessionName). AllByRecursion (IsSpentWithin m.bounds.last s.view.past) (mine_of s.view p)) at.through.kept.session (at.through.run.spent p) in
      let spent' = ByRecursion-weaker (IsSpentWithin last s.view.past) (IsSpentWithin last root.view.past) (spent_by_root last s.view.past root.view.past at.through.kept.past) (mine_of s.view p) spent in
      ByRecursion-weaker (λ e. (thread_of e ≡ t) × IsSpentWithin last root.view.past e) IsKnown
      (λ e h. let of_t = h.0 in ((omega (arith, of_t, first), omega (arith, of_t, last')), h.1))
      (only t x.journal) (both (λ e. thread_of e ≡ t) (IsSpentWithin last root.view.past) (only t x.journal) (own_thread t x.journal) (subst (AllByRecursion (IsSpentWithin last root.view.past)) (sym mine) spent'))

  known : (p : ℕ) (x : PartitionView) → IsLeft K root p x → AllByRecursion IsKnown x.journal
  known p x left = all_of_each IsKnown x.journal each
    where
      each : (t : ℕ) → AllByRecursion IsKnown (only t x.journal)
      each zero = subst (AllByRecursion IsKnown) (sym (is_root.mine p) ∙ left.mine) tt
      each (suc i) =
          let next : 1 + i ≡ suc i = omega arith in
          ⊎_elim (λ (l : i < T). known_of (suc i) (subst (Seated K root) next (seat_at K root 1 threads said through i l)) (omega arith) (omega (arith, l)) p x left)
          (λ (l : T ≤ i). let made = is_root.made in subst (AllByRecursion IsKnown) (sym (left.others (suc i) (omega (arith, l, made)))) tt)
          (cases_lt i T)

  abbrev AreLeft : ℕ → List PartitionView → Type 0
  AreLeft a xs = (i : ℕ) (x : PartitionView) → slice_get xs i ≡ Some x → IsLeft K root (a + i) x

  left_first : (a : ℕ) (x : PartitionView) (xs : List PartitionView) → AreLeft a (x ∷ xs) → IsLeft K root a x
  left_first a x xs each = let here : a + 0 ≡ a = omega arith in subst (λ p. IsLeft K root p x) here (each 0 x refl)

  left_later : (a : ℕ) (x : PartitionView) (xs : List PartitionView) → AreLeft a (x ∷ xs) → AreLeft (a + 1) xs
  left_later a x xs each i y h = let next : a + suc i ≡ (a + 1) + i = omega arith in subst (λ p. IsLeft K root p y) next (each (suc i) y h)

  all_known : (a : ℕ) (xs : List PartitionView) → AreLeft a xs → AllByRecursion (AllByRecursion IsKnown) (journals_of xs)
  all_known a [] each = tt
  all_known a (x ∷ xs) each = (known a x (left_first a x xs each), all_known (a + 1) xs (left_later a x xs each))

  -- what is spent is above the last block
  spent_above : (es : List Entry) → AllByRecursion IsKnown es → AllByRecursion (λ k. (last < k) × (k ≤ last + 65535)) (filter_map spent_number es)
  spent_above [] h = tt
  spent_above (e ∷ es) h = by_number (spent_number e) h.0.1 (spent_above es h.1)
    where
      by_number : (o : Option ℕ) → MatchOption o (Unit {0}) (λ k. ((last < k) × (k ≤ last + 65535)) × IsSome root.view.past) → AllByRecursion (λ k. (last < k) × (k ≤ last + 65535)) (filter_map spent_number es) → AllByRecursion (λ k. (last < k) × (k ≤ last + 65535)) (cons_option o (filter_map spent_number es))
      by_number None k rest = rest
      by_number (Some m) k rest = (k.0, rest)

  -- either none found a number spent, or root keeps one
  spent_or_none : (es : List Entry) → AllByRecursion IsKnown es → (length (filter_map spent_number es) ≡ 0) ⊎ IsSome root.view.past
  spent_or_none [] h = inl refl
  spent_or_none (e ∷ es) h = by_number (spent_number e) h.0.1 (spent_or_none es h.1)
    where
      by_number : (o : Option ℕ) → MatchOption o (Unit {0}) (λ k. ((last < k) × (k ≤ last + 65535)) × IsSome root.view.past) → (length (filter_map spent_number es) ≡ 0) ⊎ IsSome root.view.past → (length (cons_option o (filter_map spent_number es)) ≡ 0) ⊎ IsSome root.view.past
      by_number None k rest = rest
      by_number (Some m) k rest = inr k.1

  all_spent_or_none : (js : List (List Entry)) → AllByRecursion (AllByRecursion IsKnown) js → (length (spent_in js) ≡ 0) ⊎ IsSome root.view.past
  all_spent_or_none [] h = inl refl
  all_spent_or_none (j ∷ js) h =
      ⊎_elim (λ (none : length (filter_map spent_number j) ≡ 0).
      ⊎_elim (λ (more : length (spent_in js) ≡ 0). inl (omega (arith, length-append (filter_map spent_number j) (spent_in js), none, more))) (λ (some : IsSome root.view.past). inr some) (all_spent_or_none js h.1))
      (λ (some : IsSome root.view.past). inr some)
      (spent_or_none j h.0)

  each_legal : (a : ℕ) (xs : List PartitionView) → AreLeft a xs → EachLegal K a n last (journals_of xs)
  each_legal a [] each = tt
  each_legal a (x ∷ xs) each =
      let left = left_first a x xs each in (
        record {
          legal = record { replays = subst IsSome (sym left.replays) (cc); drawn = left.drawn; spent = spent_above x.journal (known a x left) };
          free = ap (option_map (λ (s : PartitionState). s.holder)) left.replays ∙ ap (λ o. Some o) left.free;
        },
        each_legal (a + 1) xs (left_later a x xs each),
      )

  is_some : (o : Option ℕ) → IsSome o → (m : ℕ) × (o ≡ Some m)
  is_some None h = absurd (false≢true h)
  is_some (Some m) h = (m, refl)

  module _ (partitions : List PartitionView) (leaves : Leaves K root partitions) where
    abbrev js : List (List Entry)
    js = journals_of partitions

    as_drawn : length (drawn_in js) ≡ leaves.drawn
    as_drawn = sym (length_permutation (drawn_in js) (range_with_len (n + 1) leaves.drawn) leaves.blocks) ∙ length-range_with_len (n + 1) leaves.drawn

    pub legal_journals : LegalJournals K n last T js
    legal_journals =
        let all = all_known 1 partitions (λ i x h. subst (λ p. IsLeft K root p x) (let e : i + 1 ≡ 1 + i = omega arith in e) (leaves.each i x h)) in
        record {
          count = length-map partitions (λ (x : PartitionView). x.journal) ∙ leaves.count;
          each = each_legal 1 partitions (λ i x h. subst (λ p. IsLeft K root p x) (let e : i + 1 ≡ 1 + i = omega arith in e) (leaves.each i x h));
          threads = ByRecursion-weaker (AllByRecursion IsKnown) (AllByRecursion (λ e. (1 ≤ thread_of e) × (thread_of e ≤ T))) (λ j h. ByRecursion-weaker IsKnown (λ e. (1 ≤ thread_of e) × (thread_of e ≤ T)) (λ e k. k.0) j h) js all;
          drawn = subst (λ k. IsPermutation (drawn_in js) (range_with_len (n + 1) k)) (sym as_drawn) leaves.blocks;
          spent = λ some.
              ⊎_elim (λ (none : length (spent_in js) ≡ 0). absurd (omega (arith, some, none)))
              (λ (past : IsSome root.view.past). let m = is_some root.view.past past in let whole = leaves.spent m.0 m.1 in omega (arith, whole, as_drawn))
              (all_spent_or_none js all);
        }

    transcripts : (t : ℕ) (ls : List (List ScriptLine)) (ts : List (List Line)) → AreThrough K root t ls ts → EachTranscript K n t js ls ts
    transcripts t [] [] h = tt
    transcripts t (lines ∷ ls) (said' ∷ ts) h =
        let x = h.0 in
        let s = x.seat in
        let told : IsTranscript K n s.view.number (seen_in s.view n) lines said' = subst (λ (m : SessionName). IsTranscript K m.bounds.partitions s.view.number (seen_in s.view m.bounds.partitions) lines said') x.kept.session x.run.told in
        let goes = each_goes_on K root s lines said' x.run x.kept 1 partitions (λ i y k. subst (λ p. IsLeft K root p y) (let e : i + 1 ≡ 1 + i = omega arith in e) (leaves.each i y k)) in
        let goes' : EachGoesOnWithout s.view.number (seen_in s.view n) js = subst (λ k. EachGoesOnWithout s.view.number (map (seen_of s.view) (range_with_len 1 k)) js) leaves.count goes in (
          subst (λ u. IsTranscript K n u js lines said') x.number (same_transcript K n s.view.number (seen_in s.view n) js lines said' goes' told),
          transcripts (t + 1) ls ts h.1,
        )
    transcripts t [] (said' ∷ ts) h = absurd h
    transcripts t (lines ∷ ls) [] h = absurd h

    pub each_transcript : EachTranscript K n 1 js threads said
    each_transcript = transcripts 1 threads said through

-- the report of all threads is legal
pub left_legal : (K : Modelling) (script : Script) (root : SeatView) (said : List (List Line)) (partitions : List PartitionView) → root.session.bounds.partitions ≡ script.n → root.session.bounds.last ≡ script.last → IsRootOf (length script.threads) root → AreThrough K root 1 script.threads said → Leaves K root partitions
    → LegalReport K script (record { n = script.n; last = script.last; threads = said; journals = journals_of partitions })
left_legal K script root said partitions same_n same_last is_root through leaves =
    let count = as_many K root 1 script.threads said through in
    let journals = legal_journals K root script.threads said is_root through partitions leaves in
    record {
      n = refl;
      last = refl;
      journals = subst (λ n. LegalJournals K n script.last (length said) (journals_of partitions)) same_n
          (subst (λ last. LegalJournals K root.session.bounds.partitions last (length said) (journals_of partitions)) same_last
          (subst (λ T. LegalJournals K root.session.bounds.partitions root.session.bounds.last T (journals_of partitions)) count journals));
      transcripts = subst (λ n. EachTranscript K n 1 (journals_of partitions) script.threads said) same_n (each_transcript K root script.threads said is_root through partitions leaves);
    }

-- ---- apart

each_replays : (K : Modelling) (root : SeatView) (a : ℕ) (xs : List PartitionView) → ((i : ℕ) (x : PartitionView) → slice_get xs i ≡ Some x → IsLeft K root (a + i) x) → EachReplays K a (journals_of xs)
each_replays K root a [] each = tt
each_replays K root a (x ∷ xs) each =
    let here : a + 0 ≡ a = omega arith in
    let left = subst (λ p. IsLeft K root p x) here (each 0 x refl) in (
      subst IsSome (sym left.replays) (cc),
      each_replays K root (a + 1) xs (λ i y h. let next : a + suc i ≡ (a + 1) + i = omega arith in subst (λ p. IsLeft K root p y) next (each (suc i) y h)),
    )

pub left_apart : (K : Modelling) → IsModeller K → (root : SeatView) (partitions : List PartitionView) → Leaves K root partitions → Apart K (journals_of partitions)
left_apart K good root partitions leaves =
    let js = journals_of partitions in
    let count : length js ≡ root.session.bounds.partitions = length-map partitions (λ (x : PartitionView). x.journal) ∙ leaves.count in
    counted_apart K good leaves.drawn js
    (each_replays K root 1 partitions (λ i x h. subst (λ p. IsLeft K root p x) (let e : i + 1 ≡ 1 + i = omega arith in e) (leaves.each i x h)))
    (subst (λ k. IsPermutation (drawn_in js) (range_with_len (k + 1) leaves.drawn)) (sym count) leaves.blocks)
