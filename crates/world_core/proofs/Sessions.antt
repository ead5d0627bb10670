-- A world that is a session stays one: an event keeps it, and its step is defined.
use Rattle.std.proofs.Common.{◌≡◌, ℕ, zero, suc, ◌+◌, ◌-◌, ◌<◌, ◌≤◌, true, List, [], ◌∷◌, ◌++◌, length, get_or, map, Bool, false, cond, Option, Some, None, Result, Ok, Err, refl, sym, ap, subst, ◌∙◌, arith, nat_lt}
use Rattle.std.specs.Prelude.{slice_set, IsPermutation, IsSome, nat_le, option_map}
use Rattle.std.proofs.lemmas.Bool.{leb-true}
use Rattle.std.proofs.lemmas.Option.{same_Some}
use Rattle.std.specs.List.{flat_map, filter_map, cons_option, list_all, range_with_len}
use Rattle.std.proofs.lemmas.List.{append-nil, length-map, length-set}
use Rattle.std.proofs.lemmas.List.Folds.{flat_map-map}
use Rattle.std.proofs.lemmas.List.FromFn.{length-map-range_with_len}
use Rattle.std.proofs.lemmas.List.Elements.{filter_map-append, All-from_recursion, recursion_from_All}
use Rattle.std.proofs.lemmas.List.Sorted.{All-permutation, IsPermutation-refl, IsPermutation-sym}
use Rattle.pk_base.specs.declared.act.Entry.{Entry}
use Rattle.pk_base.specs.declared.act.Entry.TheVariants.{Claimed, Drew, Did, Spent, Released}
use Rattle.pk_model.specs.State.{PartitionState, opening}
use Rattle.pk_model.specs.Modelling.{Modelling, IsModeller}
use Rattle.pk_model.specs.Step.{step, Stepped}
use Rattle.pk_model.specs.Replay.{replay, drawn_block}
use Rattle.pk_model.specs.Sessions.{drawn_in, EachReplays}
use Rattle.pk_model.proofs.Replays.{replay_from-push}
use Rattle.pk_model.proofs.TagsTaken.{replay-kept}
use Rattle.world_core.specs.declared.event.Event.{Event}
use Rattle.world_core.specs.declared.event.Event.TheVariants as event
use Rattle.world_core.specs.declared.event.Said.{Said}
use Rattle.world_core.specs.declared.event.WorldNo.{WorldNo}
use Rattle.world_core.specs.declared.event.WorldNo.TheVariants as no
use Rattle.world_core.specs.Event.{Supply, entry_of, partition_of}
use Rattle.world_core.specs.World.{WorldPartition, WorldState, Happening, Happens, happening_by, step_by, world_step, beginning, partition_at, opened, with_entry, after_draw}
use Rattle.world_core.specs.Session.{AreReplays, IsSession, journals_of, blocks_of}
use Rattle.world_core.proofs.Places.{set_counts, range_more, range_below, of_one, all_below}

-- ---- replays

pub replay_at : (K : Modelling) (p : ℕ) (qs : List WorldPartition) (i : ℕ) (d : WorldPartition) → AreReplays K p qs → i < length qs → replay K (p + i) (get_or qs i d).journal ≡ Some (get_or qs i d).state
replay_at K p [] i d h in' = absurd (omega arith)
replay_at K p (q ∷ qs) zero d h in' = let e : p + 0 ≡ p = omega arith in ap (λ n. replay K n q.journal) e ∙ h.0
replay_at K p (q ∷ qs) (suc i) d h in' =
    let e : p + suc i ≡ (p + 1) + i = omega arith in
    ap (λ n. replay K n (get_or qs i d).journal) e ∙ replay_at K (p + 1) qs i d h.1 (omega arith)

pub replays_set : (K : Modelling) (p : ℕ) (qs : List WorldPartition) (i : ℕ) (y : WorldPartition) → AreReplays K p qs → replay K (p + i) y.journal ≡ Some y.state → AreReplays K p (slice_set qs i y)
replays_set K p [] i y h new = tt
replays_set K p (q ∷ qs) zero y h new = let e : p ≡ p + 0 = omega arith in (ap (λ n. replay K n y.journal) e ∙ new, h.1)
replays_set K p (q ∷ qs) (suc i) y h new =
    let e : (p + 1) + i ≡ p + suc i = omega arith in
    (h.0, replays_set K (p + 1) qs i y h.1 (ap (λ n. replay K n y.journal) e ∙ new))

pub each_replays : (K : Modelling) (p : ℕ) (qs : List WorldPartition) → AreReplays K p qs → EachReplays K p (map (λ (q : WorldPartition). q.journal) qs)
each_replays K p [] h = tt
each_replays K p (q ∷ qs) h = (subst IsSome (sym h.0) (cc), each_replays K (p + 1) qs h.1)

-- the blocks drawn, as they are counted over the journals
pub counted : (K : Modelling) (w : WorldState) → IsSession K w → IsPermutation (drawn_in (journals_of w)) (range_with_len (length (journals_of w) + 1) (w.blocks.next - (length w.partitions + 1)))
counted K w session =
    subst (λ n. IsPermutation (drawn_in (journals_of w)) (range_with_len (n + 1) (w.blocks.next - (length w.partitions + 1)))) (sym (length-map w.partitions (λ (q : WorldPartition). q.journal))) session.drawn

-- ---- the beginning

AreReplays-opened : (K : Modelling) (p n : ℕ) → AreReplays K p (map opened (range_with_len p n))
AreReplays-opened K p zero = tt
AreReplays-opened K p (suc n) = (refl, AreReplays-opened K (p + 1) n)

none_drawn : (p n : ℕ) → drawn_in (map (λ (q : WorldPartition). q.journal) (map opened (range_with_len p n))) ≡ []
none_drawn p zero = refl
none_drawn p (suc n) = none_drawn (p + 1) n

own_blocks : (p n : ℕ) → flat_map (λ (q : WorldPartition). q.state.blocks) (map opened (range_with_len p n)) ≡ range_with_len p n
own_blocks p zero = refl
own_blocks p (suc n) = ap (λ l. p ∷ l) (own_blocks (p + 1) n)

pub beginning_session : (K : Modelling) (n last threads : ℕ) → n ≤ last → IsSession K (beginning n last threads)
beginning_session K n last threads h =
    let qs = map opened (range_with_len 1 n) in
    let count : length qs ≡ n = length-map-range_with_len opened 1 n in
    let none : (n + 1) - (length qs + 1) ≡ 0 = omega (arith, count) in
    let all : n ≡ (n + 1) - 1 = omega arith in
    record {
      replays = AreReplays-opened K 1 n;
      first = omega (arith, count);
      within = omega (arith, h);
      drawn = subst (λ l. IsPermutation l (range_with_len (length qs + 1) ((n + 1) - (length qs + 1)))) (sym (none_drawn 1 n))
          (subst (λ m. IsPermutation [] (range_with_len (length qs + 1) m)) (sym none) (IsPermutation-refl []));
      owned = subst (λ l. IsPermutation l (range_with_len 1 ((n + 1) - 1))) (sym (own_blocks 1 n))
          (subst (λ m. IsPermutation (range_with_len 1 n) (range_with_len 1 m)) all (IsPermutation-refl (range_with_len 1 n)));
    }

-- ---- one entry more

-- the block is the next one, where there is one
abbrev pub IsNext : Supply → Option ℕ → Type 0
IsNext blocks None = Unit {0}
IsNext blocks (Some b) = (b ≡ blocks.next) × (blocks.next ≤ blocks.last)

-- The numbers from a on, up to the next, once this one is drawn.
numbers_more : (blocks : Supply) (o : Option ℕ) (a : ℕ) → a ≤ blocks.next → IsNext blocks o → range_with_len a (blocks.next - a) ++ cons_option o [] ≡ range_with_len a ((after_draw blocks o).next - a)
numbers_more blocks None a h is = append-nil _
numbers_more blocks (Some b) a h is =
    let last : b ≡ a + (blocks.next - a) = omega (arith, is.0) in
    let more : (blocks.next - a) + 1 ≡ (blocks.next + 1) - a = omega arith in
    ap (λ n. range_with_len a (blocks.next - a) ++ n ∷ []) last
    ∙ range_more a (blocks.next - a)
    ∙ ap (range_with_len a) more

next_within : (blocks : Supply) (o : Option ℕ) → blocks.next ≤ blocks.last + 1 → IsNext blocks o → (after_draw blocks o).next ≤ (after_draw blocks o).last + 1
next_within blocks None h is = h
next_within blocks (Some b) h is = omega (arith, is.1)

next_grows : (blocks : Supply) (o : Option ℕ) → blocks.next ≤ (after_draw blocks o).next
next_grows blocks None = omega arith
next_grows blocks (Some b) = omega arith

abbrev drawn_by : WorldPartition → List ℕ
drawn_by q = filter_map drawn_block q.journal

module _ (K : Modelling) (good : IsModeller K) (w : WorldState) (p : ℕ) (session : IsSession K w) (first : 1 ≤ p) (last : p ≤ length w.partitions) where
  place : p - 1 < length w.partitions
  place = omega arith

  pub replays_at : replay K p (partition_at w p).journal ≡ Some (partition_at w p).state
  replays_at =
      let e : p ≡ 1 + (p - 1) = omega arith in
      ap (λ n. replay K n (partition_at w p).journal) e ∙ replay_at K 1 w.partitions (p - 1) (opened p) session.replays place

  -- every block that it owns is below the next
  pub owns_below : list_all (λ o. nat_lt o w.blocks.next) (partition_at w p).state.blocks ≡ true
  owns_below =
      let below = range_below 1 (w.blocks.next - 1) w.blocks.next (let f = session.first in omega arith) in
      let numbers = range_with_len 1 (w.blocks.next - 1) in
      let all = All-permutation (λ b. b < w.blocks.next) numbers (blocks_of w) (IsPermutation-sym (blocks_of w) numbers session.owned) (All-from_recursion _ numbers below) in
      all_below _ _ (of_one _ (λ (q : WorldPartition). q.state.blocks) w.partitions (p - 1) (opened p) place (recursion_from_All _ (blocks_of w) all))

  module _ (e : Entry) (r : Stepped) (steps : step K (partition_at w p).state e ≡ Some r) (next : IsNext w.blocks (drawn_block e)) where
    abbrev old : WorldPartition
    old = partition_at w p

    abbrev new : WorldPartition
    new = record { state = r.state; journal = old.journal ++ e ∷ [] }

    replayed : replay K p new.journal ≡ Some new.state
    replayed = replay_from-push K (opening p) old.journal e old.state r replays_at steps

    drawn_more : drawn_by new ≡ drawn_by old ++ cons_option (drawn_block e) []
    drawn_more = filter_map-append drawn_block old.journal (e ∷ [])

    owned_more : new.state.blocks ≡ old.state.blocks ++ cons_option (drawn_block e) []
    owned_more =
        let before = replay-kept K good p old.journal old.state replays_at in
        let after = replay-kept K good p new.journal new.state replayed in
        after.blocks ∙ ap (λ l. p ∷ l) drawn_more ∙ ap (λ l. l ++ cons_option (drawn_block e) []) (sym before.blocks)

    same_count : length (slice_set w.partitions (p - 1) new) ≡ length w.partitions
    same_count = length-set w.partitions (p - 1) new

    -- the blocks drawn, partition by partition
    drawn_of : (qs : List WorldPartition) → drawn_in (map (λ (q : WorldPartition). q.journal) qs) ≡ flat_map drawn_by qs
    drawn_of qs = flat_map-map (filter_map drawn_block) (λ (q : WorldPartition). q.journal) qs

    pub entry_kept : IsSession K (with_entry w p e r.state)
    entry_kept =
        let n = length w.partitions in
        let qs = slice_set w.partitions (p - 1) new in
        let after = after_draw w.blocks (drawn_block e) in
        let place_of : 1 + (p - 1) ≡ p = omega arith in
        let grows = next_grows w.blocks (drawn_block e) in
        let before : IsPermutation (flat_map drawn_by w.partitions) (range_with_len (n + 1) (w.blocks.next - (n + 1))) =
        subst (λ l. IsPermutation l (range_with_len (n + 1) (w.blocks.next - (n + 1)))) (drawn_of w.partitions) session.drawn in
        let drawn : IsPermutation (flat_map drawn_by qs) (range_with_len (n + 1) (after.next - (n + 1))) =
        set_counts drawn_by w.partitions (p - 1) new (opened p) (cons_option (drawn_block e) []) (range_with_len (n + 1) (w.blocks.next - (n + 1))) (range_with_len (n + 1) (after.next - (n + 1))) place drawn_more (numbers_more w.blocks (drawn_block e) (n + 1) session.first next) before in
        let listed : IsPermutation (drawn_in (map (λ (q : WorldPartition). q.journal) qs)) (range_with_len (n + 1) (after.next - (n + 1))) =
        subst (λ l. IsPermutation l (range_with_len (n + 1) (after.next - (n + 1)))) (sym (drawn_of qs)) drawn in
        record {
          replays = replays_set K 1 w.partitions (p - 1) new session.replays (ap (λ m. replay K m new.journal) place_of ∙ replayed);
          first = let f = session.first in omega (arith, same_count, grows);
          within = next_within w.blocks (drawn_block e) session.within next;
          drawn = subst (λ m. IsPermutation (drawn_in (map (λ (q : WorldPartition). q.journal) qs)) (range_with_len (m + 1) (after.next - (m + 1)))) (sym same_count) listed;
          owned = set_counts (λ (q : WorldPartition). q.state.blocks) w.partitions (p - 1) new (opened p) (cons_option (drawn_block e) []) (range_with_len 1 (w.blocks.next - 1)) (range_with_len 1 (after.next - 1)) place owned_more (numbers_more w.blocks (drawn_block e) 1 (let f = session.first in omega arith) next) session.owned;
        }

-- ---- the step of the world

-- an event draws the next block alone, where it is not above the last
asked_next : (s : PartitionState) (blocks : Supply) (t : ℕ) (v : Event) (e : Entry) → entry_of s blocks t v ≡ Ok e → IsNext blocks (drawn_block e)
asked_next s blocks t (event.Claim p) e h =
    elim s.holder as (λ (o : Option ℕ). elim o as (λ (_ : Option ℕ). Result Entry WorldNo) [ None ↦ Ok (Claimed t) | Some holder ↦ Err (no.Blocked holder) ] ≡ Ok e → IsNext blocks (drawn_block e)) [
      | None ↦ λ k. let q : Claimed t ≡ e = cc in subst (λ (x : Entry). IsNext blocks (drawn_block x)) q tt
      | Some holder ↦ λ k. absurd (cc)
    ] h
asked_next s blocks t (event.Release p) e h = let q : Released t ≡ e = cc in subst (λ (x : Entry). IsNext blocks (drawn_block x)) q tt
asked_next s blocks t (event.Draw p) e h =
    elim (nat_le blocks.next blocks.last) as (λ (b : Bool). nat_le blocks.next blocks.last ≡ b → cond b (Ok (Drew t blocks.next)) (Err (no.Spent blocks.next)) ≡ Ok e → IsNext blocks (drawn_block e)) [
      | true ↦ λ is k. let q : Drew t blocks.next ≡ e = cc in subst (λ (x : Entry). IsNext blocks (drawn_block x)) q (refl, leb-true blocks.next blocks.last is)
      | false ↦ λ is k. absurd (cc)
    ] refl h
asked_next s blocks t (event.Act p a) e h = let q : Did t a ≡ e = cc in subst (λ (x : Entry). IsNext blocks (drawn_block x)) q tt
asked_next s blocks t (event.GiveUp p a number) e h = let q : Spent t number a ≡ e = cc in subst (λ (x : Entry). IsNext blocks (drawn_block x)) q tt

module _ (K : Modelling) (good : IsModeller K) (w : WorldState) (t : ℕ) (v : Event) (session : IsSession K w) (first : 1 ≤ partition_of v) (last : partition_of v ≤ length w.partitions) where
  abbrev p : ℕ
  p = partition_of v

  -- the entry that is asked for keeps the session
  entry_step_kept : (e : Entry) → IsNext w.blocks (drawn_block e) → (o : Option Stepped) → step K (partition_at w p).state e ≡ o → (h : Happening) → option_map (happening_by w p e) o ≡ Some h → IsSession K h.world
  entry_step_kept e next None is h k = absurd (cc)
  entry_step_kept e next (Some r) is h k =
      let q : happening_by w p e r ≡ h = same_Some _ h k in
      subst (λ (x : Happening). IsSession K x.world) q (entry_kept K good w p session first last e r is next)

  pub step_kept : (h : Happening) → world_step K w t v ≡ Some h → IsSession K h.world
  step_kept h k = by (entry_of (partition_at w p).state w.blocks t v) refl k
    where
      by : (asked : Result Entry WorldNo) → entry_of (partition_at w p).state w.blocks t v ≡ asked → step_by K w p asked ≡ Some h → IsSession K h.world
      by (Err e) is k = let q : record { world = w; answer = Err e } ≡ h = same_Some _ h k in subst (λ (x : Happening). IsSession K x.world) q session
      by (Ok e) is k = entry_step_kept e (asked_next (partition_at w p).state w.blocks t v e is) (step K (partition_at w p).state e) refl h k

  -- what happens keeps the session
  pub happens_kept : (answer : Result Said WorldNo) (after : WorldState) → Happens K w t v answer after → IsSession K after
  happens_kept (Ok s) after k = step_kept _ k
  happens_kept (Err (no.Refused e)) after k = step_kept _ k
  happens_kept (Err (no.Blocked h)) after k = step_kept _ k
  happens_kept (Err (no.Spent b)) after k = step_kept _ k
  happens_kept (Err no.NoMemory) after k = subst (IsSession K) (sym k) session
