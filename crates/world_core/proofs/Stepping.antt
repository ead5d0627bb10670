-- What the code's step does to the world that it stands for.
use Rattle.std.proofs.Common.{◌≡◌, true, nat_lt, ℕ, ◌+◌, ◌-◌, ◌<◌, ◌≤◌, List, [], ◌∷◌, ◌++◌, length, get_or, map, Option, Some, None, Result, Ok, Err, refl, sym, ap, subst, ◌∙◌, arith}
use Rattle.std.specs.Prelude.{slice_set, option_map}
use Rattle.std.specs.List.{range_with_len, list_all}
use Rattle.std.proofs.Math.Seq.{map-set_same}
use Rattle.std.proofs.lemmas.List.{get_or-map, map-set, length-map, get_or-set_other}
use Rattle.std.proofs.lemmas.List.FromFn.{get_or-range_with_len}
use Rattle.pk_base.specs.declared.act.Entry.{Entry}
use Rattle.pk_base.specs.declared.act.Entry.TheVariants.{Claimed, Drew, Did, Spent, Released}
use Rattle.pk_base.specs.declared.act.Reply.{Reply}
use Rattle.pk_base.specs.declared.refusal.Refusal.{Refusal}
use Rattle.pk_model.specs.Modelling.{Modelling, IsModeller}
use Rattle.pk_model.specs.Step.{step}
use Rattle.pk_model.specs.Replay.{drawn_block}
use Rattle.partition.specs.Partition.{PartitionView, Stays}
use Rattle.world_core.specs.Event.{Supply, entry_of, said_of, partition_of}
use Rattle.world_core.specs.World.{WorldPartition, WorldState, Happening, Happens, happening_by, partition_at, opened, step_by, world_step, with_entry, after_draw}
use Rattle.world_core.specs.Doing.{Follows, Does, next_after}
use Rattle.world_core.specs.Inside.{seen_as, world_of}
use Rattle.world_core.specs.Session.{IsSession}
use Rattle.world_core.proofs.Sessions.{owns_below}
use Rattle.world_core.specs.declared.event.Event.{Event}
use Rattle.world_core.specs.declared.event.Said.{Said}
use Rattle.world_core.specs.declared.event.WorldNo.{WorldNo}
use Rattle.world_core.specs.declared.event.WorldNo.TheVariants as no

-- the number of the partition at a place
pub number_at : (views : List PartitionView) (i : ℕ) (d : PartitionView) → i < length views → map (λ (v : PartitionView). v.number) views ≡ range_with_len 1 (length views) → (get_or views i d).number ≡ 1 + i
number_at views i d h numbers =
    sym (get_or-map (λ (v : PartitionView). v.number) views i d 0 h)
    ∙ ap (λ l. get_or l i 0) numbers
    ∙ get_or-range_with_len 1 (length views) i 0 h

-- the blocks after an answer
abbrev pub blocks_after : Supply → Result Said WorldNo → Supply
blocks_after blocks answer = record blocks { next = next_after blocks.next answer }

-- an entry draws exactly where what is said of it does
after_said : (blocks : Supply) (e : Entry) (reply : Option (Result Reply Refusal)) → blocks_after blocks (said_of e reply) ≡ after_draw blocks (drawn_block e)
after_said blocks (Claimed t) reply = refl
after_said blocks (Released t) reply = refl
after_said blocks (Drew t b) reply = refl
after_said blocks (Did t a) None = refl
after_said blocks (Did t a) (Some (Ok r)) = refl
after_said blocks (Did t a) (Some (Err e)) = refl
after_said blocks (Spent t number a) reply = refl

-- the event of thread t on partition p, which stands in its place
module _ (K : Modelling) (views : List PartitionView) (blocks : Supply) (threads t : ℕ) (v : Event) (p : ℕ) (old : PartitionView) (within : p - 1 < length views) (is : get_or views (p - 1) old ≡ old) where
  abbrev w : WorldState
  w = world_of views blocks threads

  -- the world where this partition stands in the place of the old one
  abbrev pub replaced : PartitionView → Supply → WorldState
  replaced new after = world_of (slice_set views (p - 1) new) after threads

  -- the partition in its place is the old one
  pub old_is : partition_at w p ≡ seen_as old
  old_is = get_or-map seen_as views (p - 1) old (opened p) within ∙ ap seen_as is

  stays_world : (new : PartitionView) → Stays old new → map seen_as (slice_set views (p - 1) new) ≡ map seen_as views
  stays_world new s = map-set_same seen_as views (p - 1) new old (same_seen ∙ sym (ap seen_as is))
    where
      same_seen : seen_as new ≡ seen_as old
      same_seen = λ i. record { state = s.state i; journal = s.journal i }

  follows : (asked : Result Entry WorldNo) (answer : Result Said WorldNo) (new : PartitionView) → Follows K old asked answer new → step_by K w p asked ≡ Some (record { world = replaced new (blocks_after blocks answer); answer = answer })
  follows (Err e) answer new (said, s) =
      let happens : WorldState → Result Said WorldNo → Option Happening = λ x a. Some (record { world = x; answer = a }) in
      subst (λ (a : Result Said WorldNo). happens w (Err e) ≡ happens (replaced new (blocks_after blocks a)) a) (sym said)
      (ap (λ (qs : List WorldPartition). happens (record { partitions = qs; blocks = blocks; threads = threads }) (Err e)) (sym (stays_world new s)))
  follows (Ok e) answer new (reply, said, a) =
      let stepped : step K (partition_at w p).state e ≡ Some (record { state = new.state; answer = reply }) = ap (λ (q : WorldPartition). step K q.state e) old_is ∙ a.steps in
      let journal : new.journal ≡ (partition_at w p).journal ++ e ∷ [] = a.journal ∙ ap (λ (q : WorldPartition). q.journal ++ e ∷ []) (sym old_is) in
      let partitions : slice_set (map seen_as views) (p - 1) (record { state = new.state; journal = (partition_at w p).journal ++ e ∷ [] }) ≡ map seen_as (slice_set views (p - 1) new) =
      ap (λ (j : List Entry). slice_set (map seen_as views) (p - 1) (record { state = new.state; journal = j })) (sym journal) ∙ sym (map-set seen_as views (p - 1) new) in
      let blocks_are : after_draw blocks (drawn_block e) ≡ blocks_after blocks (said_of e reply) = sym (after_said blocks e reply) in
      let world : with_entry w p e new.state ≡ replaced new (blocks_after blocks (said_of e reply)) = λ i. record { partitions = partitions i; blocks = blocks_are i; threads = threads } in
      let happens : WorldState → Result Said WorldNo → Option Happening = λ x a. Some (record { world = x; answer = a }) in
      ap (option_map (happening_by w p e)) stepped
      ∙ ap (λ (x : WorldState). happens x (said_of e reply)) world
      ∙ subst (λ (a : Result Said WorldNo). happens (replaced new (blocks_after blocks (said_of e reply))) (said_of e reply) ≡ happens (replaced new (blocks_after blocks a)) a) (sym said) refl

  -- what the code does is the world's step
  pub does_step : p ≡ partition_of v → (answer : Result Said WorldNo) (new : PartitionView) → Does K old (entry_of old.state blocks t v) answer new → Happens K w t v answer (replaced new (blocks_after blocks answer))
  does_step named answer new d = by answer d
    where
      steps : (a : Result Said WorldNo) → Follows K old (entry_of old.state blocks t v) a new → world_step K w t v ≡ Some (record { world = replaced new (blocks_after blocks a); answer = a })
      steps a f = ap (λ q. step_by K w q (entry_of (partition_at w q).state blocks t v)) (sym named) ∙ ap (λ (q : WorldPartition). step_by K w p (entry_of q.state blocks t v)) old_is ∙ follows (entry_of old.state blocks t v) a new f

      by : (a : Result Said WorldNo) → Does K old (entry_of old.state blocks t v) a new → Happens K w t v a (replaced new (blocks_after blocks a))
      by (Ok s) d = steps (Ok s) d
      by (Err (no.Refused e)) d = steps (Err (no.Refused e)) d
      by (Err (no.Blocked h)) d = steps (Err (no.Blocked h)) d
      by (Err (no.Spent b)) d = steps (Err (no.Spent b)) d
      by (Err no.NoMemory) d = ap (λ (qs : List WorldPartition). record { partitions = qs; blocks = blocks; threads = threads }) (stays_world new d)

  -- the other partitions stay
  pub others_stay : (new : PartitionView) (after : Supply) (q : ℕ) → 1 ≤ q → 1 ≤ p → (q ≡ p → ⊥) → partition_at (replaced new after) q ≡ partition_at w q
  others_stay new after q one first other =
      ap (λ (l : List WorldPartition). get_or l (q - 1) (opened q)) (map-set seen_as views (p - 1) new)
      ∙ get_or-set_other (map seen_as views) (p - 1) (q - 1) (seen_as new) (opened q) (λ e. other (omega (arith, e)))

  -- the number stays
  pub number_stays : (answer : Result Said WorldNo) (new : PartitionView) → Does K old (entry_of old.state blocks t v) answer new → new.number ≡ old.number
  number_stays answer new d = by answer d
    where
      from : (asked : Result Entry WorldNo) (a : Result Said WorldNo) → Follows K old asked a new → new.number ≡ old.number
      from (Err e) a f = f.1.number
      from (Ok e) a f = f.2.number

      by : (a : Result Said WorldNo) → Does K old (entry_of old.state blocks t v) a new → new.number ≡ old.number
      by (Ok s) d = from _ (Ok s) d
      by (Err (no.Refused e)) d = from _ (Err (no.Refused e)) d
      by (Err (no.Blocked h)) d = from _ (Err (no.Blocked h)) d
      by (Err (no.Spent b)) d = from _ (Err (no.Spent b)) d
      by (Err no.NoMemory) d = d.number

  -- so the partitions keep their numbers
  pub numbers_stay : (answer : Result Said WorldNo) (new : PartitionView) → Does K old (entry_of old.state blocks t v) answer new → map (λ (v : PartitionView). v.number) (slice_set views (p - 1) new) ≡ map (λ (v : PartitionView). v.number) views
  numbers_stay answer new d = map-set_same (λ (v : PartitionView). v.number) views (p - 1) new old (number_stays answer new d ∙ sym (ap (λ (v : PartitionView). v.number) is))

  -- each block of the partition is below the next
  pub blocks_below : IsModeller K → IsSession K w → 1 ≤ p → list_all (λ o. nat_lt o blocks.next) old.state.blocks ≡ true
  blocks_below good session first =
      let last : p ≤ length (map seen_as views) = omega (arith, length-map views seen_as) in
      ap (λ (q : WorldPartition). list_all (λ o. nat_lt o blocks.next) q.state.blocks) (sym old_is) ∙ owns_below K good w p session first last
