-- Over every list of events that may happen: each step is defined, the world stays a session, and each journal has the
-- entries of the events on its partition.
use Rattle.std.proofs.Common.{◌≡◌, ℕ, ◌-◌, ◌≤◌, ◌==◌, Bool, true, false, not, cond, List, [], ◌∷◌, ◌++◌, length, Option, Some, None, Result, Ok, Err, refl, sym, ap, subst, ◌∙◌, arith, nat_lt}
use Rattle.std.specs.Prelude.{IsSome, is_some, nat_le, option_map}
use Rattle.std.specs.Option.{option_map_or}
use Rattle.std.specs.List.{cons_option, list_all}
use Rattle.std.proofs.lemmas.Bool.{and_from, eqb-true, eqb-false, ne_eqb}
use Rattle.std.proofs.lemmas.List.{append-nil, append_assoc, get_or-set_same, get_or-set_other, length-set}
use Rattle.pk_base.specs.declared.act.Entry.{Entry}
use Rattle.pk_base.specs.declared.act.Entry.TheVariants.{Claimed, Drew, Did, Spent, Released}
use Rattle.pk_model.specs.State.{PartitionState}
use Rattle.pk_model.specs.Modelling.{Modelling, IsModeller}
use Rattle.pk_model.specs.Step.{short, step, Stepped}
use Rattle.pk_model.proofs.Steps.{holder_holds, step-claimed, step-released, step-did}
use Rattle.list_facts.proofs.Lengths.{cons_option-append}
use Rattle.world_core.specs.declared.event.Event.{Event}
use Rattle.world_core.specs.declared.event.Event.TheVariants as event
use Rattle.world_core.specs.declared.event.WorldNo.{WorldNo}
use Rattle.world_core.specs.declared.event.WorldNo.TheVariants as no
use Rattle.world_core.specs.Event.{Supply, MayDo, entry_of, partition_of}
use Rattle.world_core.specs.World.{WorldPartition, WorldState, Happening, MayHappen, happening_by, step_by, world_step, partition_at, opened}
use Rattle.world_core.specs.Session.{IsSession}
use Rattle.world_core.specs.Runs.{ThreadEvent, EachMayHappen, after_event, world_after, entries_on, entry_asked, entry_on}
use Rattle.world_core.proofs.Sessions.{owns_below, step_kept}

-- ---- the step of an event that may happen is defined

-- what is there where a test passes
there : {X : Type 0} (b : Bool) (x : X) → b ≡ true → IsSome (cond b (Some x) None)
there b x h = ap (λ c. is_some (cond c (Some x) None)) h

defined_by : (K : Modelling) (s : PartitionState) (blocks : Supply) (t : ℕ) (v : Event) (e : Entry) → MayDo K s blocks t v → list_all (λ o. nat_lt o blocks.next) s.blocks ≡ true → entry_of s blocks t v ≡ Ok e → IsSome (step K s e)
defined_by K s blocks t (event.Claim p) e may below h =
    elim s.holder as (λ (o : Option ℕ). s.holder ≡ o → elim o as (λ (_ : Option ℕ). Result Entry WorldNo) [ None ↦ Ok (Claimed t) | Some holder ↦ Err (no.Blocked holder) ] ≡ Ok e → IsSome (step K s e)) [
      | None ↦ λ free k. let q : Claimed t ≡ e = cc in subst (λ (x : Entry). IsSome (step K s x)) q (ap is_some (step-claimed K s t free))
      | Some holder ↦ λ held k. absurd (cc)
    ] refl h
defined_by K s blocks t (event.Release p) e may below h =
    let q : Released t ≡ e = cc in subst (λ (x : Entry). IsSome (step K s x)) q (ap is_some (step-released K s t may))
defined_by K s blocks t (event.Draw p) e may below h =
    elim (nat_le blocks.next blocks.last) as (λ (b : Bool). cond b (Ok (Drew t blocks.next)) (Err (no.Spent blocks.next)) ≡ Ok e → IsSome (step K s e)) [
      | true ↦ λ k. let q : Drew t blocks.next ≡ e = cc in subst (λ (x : Entry). IsSome (step K s x)) q (there _ _ (and_from _ _ (holder_holds s t may) below))
      | false ↦ λ k. absurd (cc)
    ] h
defined_by K s blocks t (event.Act p a) e may below h =
    let q : Did t a ≡ e = cc in subst (λ (x : Entry). IsSome (step K s x)) q (ap is_some (step-did K s t a may.0 may.1))
defined_by K s blocks t (event.GiveUp p a number) e may below h =
    let q : Spent t number a ≡ e = cc in
    let missing : not (short K s a == 0) ≡ true = ap not (ne_eqb (short K s a) 0 (λ none. omega (arith, may.1, none))) in
    subst (λ (x : Entry). IsSome (step K s x)) q (there _ _ (and_from _ _ (holder_holds s t may.0) missing))

module _ (K : Modelling) (good : IsModeller K) (w : WorldState) (x : ThreadEvent) (session : IsSession K w) (may : MayHappen K w x.thread x.event) where
  abbrev p : ℕ
  p = partition_of x.event

  below : list_all (λ o. nat_lt o w.blocks.next) (partition_at w p).state.blocks ≡ true
  below = owns_below K good w p session may.partition.0 may.partition.1

  -- what holds where the event changes nothing, and where it appends an entry, holds
  cases : (P : Option Happening → Option Entry → Type 0) → ((e : WorldNo) → P (Some (record { world = w; answer = Err e })) None) → ((e : Entry) (r : Stepped) → P (Some (happening_by w p e r)) (Some e)) → P (world_step K w x.thread x.event) (entry_asked (entry_of (partition_at w p).state w.blocks x.thread x.event))
  cases P none some = by (entry_of (partition_at w p).state w.blocks x.thread x.event) refl
    where
      stepped : (e : Entry) (o : Option Stepped) → IsSome o → P (option_map (happening_by w p e) o) (Some e)
      stepped e None h = absurd (cc)
      stepped e (Some r) h = some e r

      by : (asked : Result Entry WorldNo) → entry_of (partition_at w p).state w.blocks x.thread x.event ≡ asked → P (step_by K w p asked) (entry_asked asked)
      by (Err e) is = none e
      by (Ok e) is = stepped e (step K (partition_at w p).state e) (defined_by K (partition_at w p).state w.blocks x.thread x.event e may.may below is)

  pub step_defined : IsSome (world_step K w x.thread x.event)
  step_defined = cases (λ o e. IsSome o) (λ e. refl) (λ e r. refl)

  pub after_kept : IsSession K (after_event K w x)
  after_kept = kept (world_step K w x.thread x.event) refl
    where
      kept : (o : Option Happening) → world_step K w x.thread x.event ≡ o → IsSession K (option_map_or (λ (h : Happening). h.world) o w)
      kept None is = session
      kept (Some h) is = step_kept K good w x.thread x.event session may.partition.0 may.partition.1 h is

  pub count_stays : length (after_event K w x).partitions ≡ length w.partitions
  count_stays = cases (λ o e. length (option_map_or (λ (h : Happening). h.world) o w).partitions ≡ length w.partitions) (λ e. refl) (λ e r. length-set w.partitions (p - 1) _)

  -- the journal of its partition has its entry more, and every other stays
  pub journal_grows : (q : ℕ) → 1 ≤ q → (partition_at (after_event K w x) q).journal ≡ (partition_at w q).journal ++ cons_option (entry_on w q x) []
  journal_grows q one =
      elim (p == q) as (λ (b : Bool). (p == q) ≡ b → (partition_at (after_event K w x) q).journal ≡ (partition_at w q).journal ++ cons_option (cond b (entry_asked (entry_of (partition_at w q).state w.blocks x.thread x.event)) None) []) [
        | true ↦ λ same. subst (λ n. (partition_at (after_event K w x) n).journal ≡ (partition_at w n).journal ++ cons_option (entry_asked (entry_of (partition_at w n).state w.blocks x.thread x.event)) []) (eqb-true p q same) own
        | false ↦ λ differ. other (eqb-false p q differ) ∙ sym (append-nil (partition_at w q).journal)
      ] refl
    where
      first : 1 ≤ p
      first = may.partition.0

      last : p ≤ length w.partitions
      last = may.partition.1

      own : (partition_at (after_event K w x) p).journal ≡ (partition_at w p).journal ++ cons_option (entry_asked (entry_of (partition_at w p).state w.blocks x.thread x.event)) []
      own = cases (λ o e. (partition_at (option_map_or (λ (h : Happening). h.world) o w) p).journal ≡ (partition_at w p).journal ++ cons_option e [])
          (λ e. sym (append-nil (partition_at w p).journal))
          (λ e r. ap (λ (k : WorldPartition). k.journal) (get_or-set_same w.partitions (p - 1) _ (opened p) (omega arith)))

      other : (p ≡ q → ⊥) → (partition_at (after_event K w x) q).journal ≡ (partition_at w q).journal
      other differ = cases (λ o e. (partition_at (option_map_or (λ (h : Happening). h.world) o w) q).journal ≡ (partition_at w q).journal)
          (λ e. refl)
          (λ e r. ap (λ (k : WorldPartition). k.journal) (get_or-set_other w.partitions (p - 1) (q - 1) _ (opened q) (λ e. differ (omega (arith, e)))))

-- ---- a list of events

pub all_kept : (K : Modelling) → IsModeller K → (w : WorldState) (xs : List ThreadEvent) → IsSession K w → EachMayHappen K w xs → IsSession K (world_after K w xs)
all_kept K good w [] session may = session
all_kept K good w (x ∷ xs) session may = all_kept K good (after_event K w x) xs (after_kept K good w x session may.0) may.1

pub journals_grow : (K : Modelling) → IsModeller K → (w : WorldState) (xs : List ThreadEvent) (q : ℕ) → IsSession K w → EachMayHappen K w xs → 1 ≤ q → (partition_at (world_after K w xs) q).journal ≡ (partition_at w q).journal ++ entries_on K w q xs
journals_grow K good w [] q session may one = sym (append-nil (partition_at w q).journal)
journals_grow K good w (x ∷ xs) q session may one =
    let mid = after_event K w x in
    let rest = entries_on K mid q xs in
    journals_grow K good mid xs q (after_kept K good w x session may.0) may.1 one
    ∙ ap (λ l. l ++ rest) (journal_grows K good w x session may.0 q one)
    ∙ append_assoc (partition_at w q).journal (cons_option (entry_on w q x) []) rest
    ∙ ap (λ l. (partition_at w q).journal ++ l) (cons_option-append (entry_on w q x) rest)
