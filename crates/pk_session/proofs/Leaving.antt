-- What a session leaves, by the journals of its partitions.
use Rattle.std.proofs.Common.{◌≡◌, ◌⊎◌, ℕ, zero, suc, ◌+◌, ◌-◌, ◌<◌, ◌≤◌, List, [], ◌∷◌, ◌++◌, length, ap, sym, refl, subst, ◌∙◌, inl, inr, ⊎_elim, arith}
use native.Mathlib.Decide.{dec_le}
use Rattle.std.specs.Prelude.{Some, All, slice_get, slice_index_or}
use Rattle.std.specs.List.{flat_map, filter_map, range_with_len, AllByRecursion}
use Rattle.std.proofs.lemmas.Option.{none-some, same_Some, slice_get_within}
use Rattle.std.proofs.lemmas.List.Elements.{All-append, All-from_recursion}
use Rattle.pk_model.specs.Modelling.{Modelling}
use Rattle.pk_model.specs.Replay.{replay, drawn_block}
use Rattle.pk_model.specs.Sessions.{drawn_in}
use Rattle.pk_model.specs.State.{opening}
use Rattle.partition.specs.Partition.{PartitionView}
use Rattle.session_table.specs.Rule.{times}
use Rattle.session_table.specs.Ends.{Leaves as LeavesTable, StandOnce}
use Rattle.pk_session.specs.Views.{SeatView}
use Rattle.pk_session.specs.Inside.{named_of}
use Rattle.pk_session.specs.Ends.{journals_of, Leaves}
use Rattle.pk_session.proofs.Entries.{blocks_replayed}
use Rattle.pk_session.proofs.Counts.{hit, hit_same, times-append, same_times, below_none, above_none, within_once}

abbrev drawn_for : PartitionView → List ℕ
drawn_for x = filter_map drawn_block x.journal

abbrev AreReplays : Modelling → List PartitionView → Type 0
AreReplays K xs = (i : ℕ) (x : PartitionView) → slice_get xs i ≡ Some x → replay K (i + 1) x.journal ≡ Some x.state

-- the blocks of all partitions are their first ones and those that were drawn
all_blocks : (k : ℕ) (xs : List PartitionView) → ((i : ℕ) (x : PartitionView) → slice_get xs i ≡ Some x → x.state.blocks ≡ (k + i) ∷ drawn_for x)
    → (b : ℕ) → times b (flat_map (λ (x : PartitionView). x.state.blocks) xs) ≡ times b (range_with_len k (length xs)) + times b (drawn_in (journals_of xs))
all_blocks k [] own b = refl
all_blocks k (x ∷ xs) own b =
    let rest = all_blocks (k + 1) xs (λ i y is. own (suc i) y is ∙ ap (λ (z : ℕ). z ∷ drawn_for y) (let e : k + suc i ≡ k + 1 + i = omega arith in e)) b in
    let first : times b x.state.blocks ≡ hit k b + times b (drawn_for x) = ap (times b) (own zero x refl) ∙ ap (λ (z : ℕ). hit z b + times b (drawn_for x)) (let e : k + 0 ≡ k = omega arith in e) in
    let split = times-append b x.state.blocks (flat_map (λ (y : PartitionView). y.state.blocks) xs) in
    let drawn = times-append b (drawn_for x) (drawn_in (journals_of xs)) in omega arith

-- what stands in one journal stands in all of them
one_of_all : (xs : List PartitionView) (i : ℕ) (x : PartitionView) → slice_get xs i ≡ Some x → (b : ℕ) → times b (drawn_for x) ≤ times b (drawn_in (journals_of xs))
one_of_all [] i x is b = absurd (none-some x is)
one_of_all (y ∷ ys) zero x is b =
    let split = times-append b (drawn_for y) (drawn_in (journals_of ys)) in
    let same = ap (λ (z : PartitionView). times b (drawn_for z)) (same_Some y x is) in omega arith
one_of_all (y ∷ ys) (suc i) x is b =
    let split = times-append b (drawn_for y) (drawn_in (journals_of ys)) in
    let rest = one_of_all ys i x is b in omega arith

-- what holds of each number that stands in a list holds of all its numbers
each_of : (P : ℕ → Type 0) (xs : List ℕ) → ((b : ℕ) → 1 ≤ times b xs → P b) → AllByRecursion P xs
each_of P [] has = tt
each_of P (x ∷ xs) has = (has x (let h = hit_same x x refl in omega arith), each_of P xs (λ b some. has b (omega arith)))

module _ (K : Modelling) (root : SeatView) (xs : List PartitionView) where
  abbrev n : ℕ
  n = root.session.bounds.partitions

  abbrev last : ℕ
  last = root.session.bounds.last

  -- how many blocks were drawn, where this is the next one
  abbrev DrawnUpTo : ℕ → ℕ → Type 0
  DrawnUpTo next k = (n + k ≤ last) × ((b : ℕ) → times b (drawn_in (journals_of xs)) ≡ times b (range_with_len (n + 1) k)) × (last < next → n + k ≡ last)

  module _ (count : length xs ≡ n) (few : n ≤ last) (replays : AreReplays K xs) where
    own_blocks : (i : ℕ) (x : PartitionView) → slice_get xs i ≡ Some x → x.state.blocks ≡ (1 + i) ∷ drawn_for x
    own_blocks i x is =
        blocks_replayed K (opening (i + 1)) x.journal x.state (replays i x is)
        ∙ ap (λ (z : ℕ). z ∷ drawn_for x) (let e : i + 1 ≡ 1 + i = omega arith in e)

    both : (b : ℕ) → times b (flat_map (λ (x : PartitionView). x.state.blocks) xs) ≡ times b (range_with_len 1 n) + times b (drawn_in (journals_of xs))
    both b = all_blocks 1 xs own_blocks b ∙ ap (λ (z : ℕ). times b (range_with_len 1 z) + times b (drawn_in (journals_of xs))) count

    drawn_to : (next k : ℕ) → n < next → StandOnce (flat_map (λ (x : PartitionView). x.state.blocks) xs) last next → n + k ≤ last → n + k < next → (last ≤ n + k ⊎ next ≤ n + k + 1)
        → (b : ℕ) → times b (drawn_in (journals_of xs)) ≡ times b (range_with_len (n + 1) k)
    drawn_to next k begun stand within low end b = elim (dec_le b n) as (λ _. times b (drawn_in (journals_of xs)) ≡ times b (range_with_len (n + 1) k)) [
      | yes le ↦ let s = both b in let r = below_none (n + 1) k b (omega arith) in elim (dec_le 1 b) as (λ _. times b (drawn_in (journals_of xs)) ≡ times b (range_with_len (n + 1) k)) [
        | yes one ↦ let h = stand.once b one (omega arith) (omega arith) in let f = within_once 1 n b one (omega arith) in omega arith
        | no none ↦ let e : b ≡ 0 = omega arith in let h = ap (λ (z : ℕ). times z (flat_map (λ (x : PartitionView). x.state.blocks) xs)) e ∙ stand.not_zero in omega arith
      ]
      | no gt ↦ let s = both b in let f = above_none 1 n b (omega arith) in elim (dec_le b (n + k)) as (λ _. times b (drawn_in (journals_of xs)) ≡ times b (range_with_len (n + 1) k)) [
        | yes le ↦ let h = stand.once b (omega arith) (omega arith) (omega arith) in let r = within_once (n + 1) k b (omega arith) (omega arith) in omega arith
        | no above ↦ let r = above_none (n + 1) k b (omega arith) in
            let h : times b (flat_map (λ (x : PartitionView). x.state.blocks) xs) ≡ 0 = ⊎_elim (λ l. stand.not_past b (omega arith)) (λ m. stand.not_next b (omega arith)) end in omega arith
      ]
    ]

    up_to : (next : ℕ) → n < next → StandOnce (flat_map (λ (x : PartitionView). x.state.blocks) xs) last next → (k : ℕ) × DrawnUpTo next k
    up_to next begun stand = elim (dec_le next last) as (λ _. (k : ℕ) × DrawnUpTo next k) [
      | yes le ↦
          let k : ℕ = next - n - 1 in
          (k, (omega arith, drawn_to next k begun stand (omega arith) (omega arith) (inr (omega arith)), λ past. absurd (omega arith)))
      | no gt ↦
          let k : ℕ = last - n in
          (k, (omega arith, drawn_to next k begun stand (omega arith) (omega arith) (inl (omega arith)), λ past. omega arith))
    ]

    -- each block that was drawn for one partition is behind the partitions and at most the last
    each_drawn : (next k : ℕ) → DrawnUpTo next k → (i : ℕ) (x : PartitionView) → slice_get xs i ≡ Some x → AllByRecursion (λ b. (n < b) × (b ≤ last)) (drawn_for x)
    each_drawn next k d i x is = each_of (λ b. (n < b) × (b ≤ last)) (drawn_for x) (λ b some.
        let all = one_of_all xs i x is b in let same = d.1 b in
        elim (dec_le b n) as (λ _. (n < b) × (b ≤ last)) [
          | yes le ↦ absurd (let r = below_none (n + 1) k b (omega arith) in omega arith)
          | no gt ↦ elim (dec_le b (n + k)) as (λ _. (n < b) × (b ≤ last)) [
            | yes le ↦ let w = d.0 in (omega arith, omega arith)
            | no above ↦ absurd (let r = above_none (n + 1) k b (omega arith) in omega arith)
          ]
        ])

-- by the table, and by the replays of the journals
pub leaves : (K : Modelling) (root : SeatView) (xs : List PartitionView) → root.view.bounds ≡ root.session.bounds → root.session.bounds.partitions ≤ root.session.bounds.last
    → ((i : ℕ) (x : PartitionView) → slice_get xs i ≡ Some x → replay K x.number x.journal ≡ Some x.state) → LeavesTable named_of root.view xs → Leaves K root xs
leaves K root xs bounds few replays t =
    let count : length xs ≡ root.session.bounds.partitions = t.count ∙ ap (λ b. b.partitions) bounds in
    let replayed : AreReplays K xs = λ i x is. subst (λ (p : ℕ). replay K p x.journal ≡ Some x.state) (t.each i x is).number (replays i x is) in
    let begun : root.session.bounds.partitions < t.next = subst (λ b. b.partitions < t.next) bounds t.begun in
    let stand : StandOnce (flat_map (λ (x : PartitionView). x.state.blocks) xs) root.session.bounds.last t.next = subst (λ b. StandOnce (flat_map (λ (x : PartitionView). x.state.blocks) xs) b.last t.next) bounds t.drawn in
    let u = up_to K root xs count few replayed t.next begun stand in record {
      count = count;
      each = λ i x is. let l = t.each i x is in record {
        number = l.number;
        free = l.free;
        replays = replayed i x is;
        seen = l.seen;
        mine = l.root;
        joined = l.joined;
        others = l.others;
        drawn = each_drawn K root xs count few replayed t.next u.0 u.1 i x is;
      };
      drawn = u.0;
      within = u.1.0;
      blocks = same_times (range_with_len (root.session.bounds.partitions + 1) u.0) (drawn_in (journals_of xs)) u.1.1;
      spent = λ m is. let p = t.past m is in u.1.2 (let l = ap (λ b. b.last) bounds in omega (arith, p.0, p.1, l));
    }

got : (xs : List PartitionView) (i : ℕ) (x : PartitionView) → slice_get xs i ≡ Some x → slice_index_or xs i x ≡ x
got [] i x is = absurd (none-some x is)
got (y ∷ ys) zero x is = same_Some y x is
got (y ∷ ys) (suc i) x is = got ys i x is

-- what holds of all holds of each
pub each_one : (P : PartitionView → Type 0) (xs : List PartitionView) → All P xs → (i : ℕ) (x : PartitionView) → slice_get xs i ≡ Some x → P x
each_one P xs all i x is = subst P (got xs i x is) (all i x (slice_get_within xs i x is))

-- one more of which it holds
pub all_push : (P : PartitionView → Type 0) (xs : List PartitionView) (x : PartitionView) (ys : List PartitionView) → ys ≡ xs ++ x ∷ [] → All P xs → P x → All P ys
all_push P xs x ys is all one =
    subst (All P) (sym is) (All-append P xs (x ∷ []) all (All-from_recursion P (x ∷ []) (one, tt)))
