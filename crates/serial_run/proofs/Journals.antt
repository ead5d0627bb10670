-- The journals of a world are legal where all its partitions are free.
use Rattle.std.proofs.Common.{◌≡◌, ℕ, zero, suc, ◌+◌, ◌-◌, ◌<◌, ◌≤◌, ◌⊎◌, inl, inr, ⊎_elim, List, [], ◌∷◌, ◌++◌, length, get_or, map, Option, None, Some, refl, sym, ap, subst, ◌∙◌, arith}
use Rattle.std.specs.Prelude.{IsPermutation, IsSome, MatchOption, option_map}
use Rattle.std.specs.List.{AllByRecursion, cons_option, filter_map, range_with_len}
use Rattle.std.proofs.lemmas.List.{get_or_default, length-append, length-map}
use Rattle.std.proofs.lemmas.List.Elements.{All-from_recursion, recursion_from_All}
use Rattle.std.proofs.lemmas.List.FromFn.{length-range_with_len}
use Rattle.std.proofs.lemmas.List.Sorted.{All-permutation, IsPermutation-sym, length_permutation}
use Rattle.pk_base.specs.declared.act.Entry.{Entry}
use Rattle.pk_base.specs.declared.act.Entry.TheVariants.{Claimed, Drew, Did, Spent, Released}
use Rattle.pk_model.specs.State.{PartitionState}
use Rattle.pk_model.specs.Modelling.{Modelling}
use Rattle.pk_model.specs.Replay.{drawn_block, spent_number, thread_of}
use Rattle.pk_model.specs.Sessions.{drawn_in}
use Rattle.partition.proofs.MarkLists.{ByRecursion-set}
use Rattle.world_core.specs.Event.{Supply, partition_of}
use Rattle.world_core.specs.World.{WorldPartition, WorldState, after_draw, opened, partition_at}
use Rattle.world_core.specs.Session.{AreReplays, IsSession, journals_of}
use Rattle.script_text.specs.LegalReport.{EachLegal, LegalJournals, spent_in}
use Rattle.list_facts.proofs.Each.{ByRecursion-append, ByRecursion-left, ByRecursion-right, ByRecursion-weaker, ByRecursion-map, ByRecursion-get_or}
use Rattle.serial_run.proofs.Kept.{EventsKeep}

-- ---- what is known of each entry

-- An entry of a session of T threads with these blocks: its thread is one of them, and a number that it found spent is the
-- one above the last block, which then is the next.
abbrev pub IsEntryOf : Supply → ℕ → Entry → Type 0
IsEntryOf blocks T e =
    ((1 ≤ thread_of e) × (thread_of e ≤ T)) × MatchOption (spent_number e) (Unit {0}) (λ k. (k ≡ blocks.last + 1) × (blocks.next ≡ blocks.last + 1))

abbrev journal_entries : Supply → ℕ → WorldPartition → Type 0
journal_entries blocks T q = AllByRecursion (IsEntryOf blocks T) q.journal

-- all entries of the world are such
abbrev pub AreEntries : ℕ → WorldState → Type 0
AreEntries T w = AllByRecursion (journal_entries w.blocks T) w.partitions

-- a block more is drawn only where no number was found spent
drawn_keeps : (blocks : Supply) (o : Option ℕ) (T : ℕ) → MatchOption o (Unit {0}) (λ b. blocks.next ≤ blocks.last) → (e : Entry) → IsEntryOf blocks T e → IsEntryOf (after_draw blocks o) T e
drawn_keeps blocks None T some e h = h
drawn_keeps blocks (Some b) T some (Claimed t) h = (h.0, tt)
drawn_keeps blocks (Some b) T some (Drew t c) h = (h.0, tt)
drawn_keeps blocks (Some b) T some (Did t a) h = (h.0, tt)
drawn_keeps blocks (Some b) T some (Spent t next a) h = absurd (let e = h.1.1 in omega (arith, some, e))
drawn_keeps blocks (Some b) T some (Released t) h = (h.0, tt)

-- an entry that finds a number spent draws no block
spent_draws_none : (blocks : Supply) (e : Entry) → MatchOption (spent_number e) (Unit {0}) (λ k. (k ≡ blocks.last + 1) × (blocks.next ≡ blocks.last + 1)) → MatchOption (spent_number e) (Unit {0}) (λ k. (k ≡ (after_draw blocks (drawn_block e)).last + 1) × ((after_draw blocks (drawn_block e)).next ≡ (after_draw blocks (drawn_block e)).last + 1))
spent_draws_none blocks (Claimed t) h = tt
spent_draws_none blocks (Drew t b) h = tt
spent_draws_none blocks (Did t a) h = tt
spent_draws_none blocks (Spent t next a) h = h
spent_draws_none blocks (Released t) h = tt

-- every event of one of the threads keeps it
pub entries_keep : (K : Modelling) (t T : ℕ) → 1 ≤ t → t ≤ T → EventsKeep K t (AreEntries T)
entries_keep K t T first last w v e r x h =
    let p = partition_of v in
    let old = partition_at w p in
    let after = after_draw w.blocks (drawn_block e) in
    let new : WorldPartition = record { state = r.state; journal = old.journal ++ e ∷ [] } in
    let thread = x.thread in
    let in' : p - 1 < length w.partitions = let a = x.first in let b = x.last in omega (arith, a, b) in
    let weaker = drawn_keeps w.blocks (drawn_block e) T x.draws in
    let each : AllByRecursion (journal_entries after T) w.partitions =
    ByRecursion-weaker (journal_entries w.blocks T) (journal_entries after T) (λ q k. ByRecursion-weaker (IsEntryOf w.blocks T) (IsEntryOf after T) weaker q.journal k) w.partitions h in
    let this : IsEntryOf after T e = ((omega (arith, thread, first), omega (arith, thread, last)), spent_draws_none w.blocks e x.spends) in
    let grown : journal_entries after T new = ByRecursion-append (IsEntryOf after T) old.journal (e ∷ []) (ByRecursion-get_or (journal_entries after T) w.partitions (p - 1) (opened p) in' each) (this, tt) in
    subst (AreEntries T) (sym x.done.after) (ByRecursion-set (journal_entries after T) w.partitions (p - 1) new each grown)

-- ---- one journal

range_within : (a k n last : ℕ) → n < a → a + k ≤ last + 1 → AllByRecursion (λ b. (n < b) × (b ≤ last)) (range_with_len a k)
range_within a zero n last h l = tt
range_within a (suc k) n last h l = ((h, omega arith), range_within (a + 1) k n last (omega arith) (omega arith))

-- the numbers that it found spent are above the last block, by one
spent_above : (blocks : Supply) (T : ℕ) (es : List Entry) → AllByRecursion (IsEntryOf blocks T) es → AllByRecursion (λ k. (blocks.last < k) × (k ≤ blocks.last + 65535)) (filter_map spent_number es)
spent_above blocks T [] h = tt
spent_above blocks T (e ∷ es) h = by_number (spent_number e) h.0.1 (spent_above blocks T es h.1)
  where
    by_number : (o : Option ℕ) → MatchOption o (Unit {0}) (λ k. (k ≡ blocks.last + 1) × (blocks.next ≡ blocks.last + 1)) → AllByRecursion (λ k. (blocks.last < k) × (k ≤ blocks.last + 65535)) (filter_map spent_number es) → AllByRecursion (λ k. (blocks.last < k) × (k ≤ blocks.last + 65535)) (cons_option o (filter_map spent_number es))
    by_number None k rest = rest
    by_number (Some m) k rest = let is = k.0 in ((omega (arith, is), omega (arith, is)), rest)

-- either it found none, or the next block is the one above the last
spent_or_none : (blocks : Supply) (T : ℕ) (es : List Entry) → AllByRecursion (IsEntryOf blocks T) es → (length (filter_map spent_number es) ≡ 0) ⊎ (blocks.next ≡ blocks.last + 1)
spent_or_none blocks T [] h = inl refl
spent_or_none blocks T (e ∷ es) h = by_number (spent_number e) h.0.1 (spent_or_none blocks T es h.1)
  where
    by_number : (o : Option ℕ) → MatchOption o (Unit {0}) (λ k. (k ≡ blocks.last + 1) × (blocks.next ≡ blocks.last + 1)) → (length (filter_map spent_number es) ≡ 0) ⊎ (blocks.next ≡ blocks.last + 1) → (length (cons_option o (filter_map spent_number es)) ≡ 0) ⊎ (blocks.next ≡ blocks.last + 1)
    by_number None k rest = rest
    by_number (Some m) k rest = inr k.1

-- ---- all journals

abbrev journal : WorldPartition → List Entry
journal q = q.journal

abbrev is_free : WorldPartition → Type 0
is_free q = q.state.holder ≡ None

pub each_legal : (K : Modelling) (p n T : ℕ) (blocks : Supply) (qs : List WorldPartition) → AreReplays K p qs → AllByRecursion is_free qs → AllByRecursion (λ b. (n < b) × (b ≤ blocks.last)) (drawn_in (map journal qs)) → AllByRecursion (journal_entries blocks T) qs → EachLegal K p n blocks.last (map journal qs)
each_legal K p n T blocks [] replays free drawn entries = tt
each_legal K p n T blocks (q ∷ qs) replays free drawn entries =
    let own = filter_map drawn_block q.journal in
    let others = drawn_in (map journal qs) in
    let within : ℕ → Type 0 = λ b. (n < b) × (b ≤ blocks.last) in (
      record {
        legal = record { replays = subst IsSome (sym replays.0) (cc); drawn = ByRecursion-left within own others drawn; spent = spent_above blocks T q.journal entries.0 };
        free = ap (option_map (λ (s : PartitionState). s.holder)) replays.0 ∙ ap (λ o. Some o) free.0;
      },
      each_legal K (p + 1) n T blocks qs replays.1 free.1 (ByRecursion-right within own others drawn) entries.1,
    )

all_spent_or_none : (blocks : Supply) (T : ℕ) (qs : List WorldPartition) → AllByRecursion (journal_entries blocks T) qs → (length (spent_in (map journal qs)) ≡ 0) ⊎ (blocks.next ≡ blocks.last + 1)
all_spent_or_none blocks T [] h = inl refl
all_spent_or_none blocks T (q ∷ qs) h =
    let here = filter_map spent_number q.journal in
    let rest = spent_in (map journal qs) in
    ⊎_elim (λ (none : length here ≡ 0).
    ⊎_elim (λ (more : length rest ≡ 0). inl (omega (arith, length-append here rest, none, more))) (λ (above : blocks.next ≡ blocks.last + 1). inr above) (all_spent_or_none blocks T qs h.1))
    (λ (above : blocks.next ≡ blocks.last + 1). inr above)
    (spent_or_none blocks T q.journal h.0)

-- every partition is free
abbrev pub AllFree : WorldState → Type 0
AllFree w = (p : ℕ) → 1 ≤ p → p ≤ length w.partitions → (partition_at w p).state.holder ≡ None

free_in_list : (w : WorldState) → AllFree w → AllByRecursion is_free w.partitions
free_in_list w free = recursion_from_All is_free w.partitions (λ k d h. at_place k d h)
  where
    at_place : (k : ℕ) (d : WorldPartition) → k < length w.partitions → is_free (get_or w.partitions k d)
    at_place k d h =
        let place : k + 1 - 1 ≡ k = omega arith in
        subst is_free (ap (λ i. get_or w.partitions i (opened (k + 1))) place ∙ get_or_default w.partitions k (opened (k + 1)) d h) (free (k + 1) (omega arith) (omega arith))

-- The journals of a session whose partitions are all free are legal.
pub legal_journals : (K : Modelling) (w : WorldState) (T : ℕ) → IsSession K w → AreEntries T w → AllFree w → LegalJournals K (length w.partitions) w.blocks.last T (journals_of w)
legal_journals K w T session entries free =
    let n = length w.partitions in
    let blocks = w.blocks in
    let count = blocks.next - (n + 1) in
    let range = range_with_len (n + 1) count in
    let drawn = drawn_in (journals_of w) in
    let first = session.first in
    let last = session.within in
    let many : length drawn ≡ count = sym (length_permutation drawn range session.drawn) ∙ length-range_with_len (n + 1) count in
    let in' : AllByRecursion (λ b. (n < b) × (b ≤ blocks.last)) range = range_within (n + 1) count n blocks.last (omega arith) (omega (arith, first, last)) in
    let all : AllByRecursion (λ b. (n < b) × (b ≤ blocks.last)) drawn =
    recursion_from_All _ drawn (All-permutation (λ b. (n < b) × (b ≤ blocks.last)) range drawn (IsPermutation-sym drawn range session.drawn) (All-from_recursion _ range in')) in
    record {
      count = length-map w.partitions journal;
      each = each_legal K 1 n T blocks w.partitions session.replays (free_in_list w free) all entries;
      threads = ByRecursion-map (journal_entries blocks T) (AllByRecursion (λ e. (1 ≤ thread_of e) × (thread_of e ≤ T))) journal (λ q h. ByRecursion-weaker (IsEntryOf blocks T) (λ e. (1 ≤ thread_of e) × (thread_of e ≤ T)) (λ e k. k.0) q.journal h) w.partitions entries;
      drawn = subst (λ m. IsPermutation drawn (range_with_len (n + 1) m)) (sym many) session.drawn;
      spent = λ some.
          ⊎_elim (λ (none : length (spent_in (journals_of w)) ≡ 0). absurd (omega (arith, some, none)))
          (λ (above : blocks.next ≡ blocks.last + 1). omega (arith, many, above, first))
          (all_spent_or_none blocks T w.partitions entries);
    }
