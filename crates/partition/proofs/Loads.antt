-- The load behind one entry more, and behind a call.
use Rattle.std.proofs.Common.{◌≡◌, ℕ, ◌+◌, ◌≤◌, List, [], ◌∷◌, ◌++◌, Option, None, Some, Result, Ok, Err, refl, ap, ◌∙◌, arith}
use Rattle.std.specs.Prelude.{IfOk}
use Rattle.std.specs.Option.{option_and_then}
use Rattle.pk_base.specs.declared.act.Act.TheVariants as act
use Rattle.pk_base.specs.declared.act.Entry.{Entry}
use Rattle.pk_base.specs.declared.act.Entry.TheVariants.{Claimed, Did, Drew}
use Rattle.pk_base.specs.declared.act.Reply.{Reply}
use Rattle.pk_base.specs.declared.call.Call.{Call}
use Rattle.pk_base.specs.declared.refusal.Refusal.{Refusal}
use Rattle.pk_model.specs.Maps.{EntityMap, diff}
use Rattle.pk_model.specs.Modelling.{Modelling}
use Rattle.pk_model.specs.State.{PartitionState, opening}
use Rattle.pk_model.specs.Step.{step, Stepped}
use Rattle.pk_model.specs.Replay.{replay, replay_from}
use Rattle.partition.specs.Partition.{answer_of}
use Rattle.partition.specs.Work.{load, load_after, load_from, size}
use Rattle.partition.proofs.WorkSteps.{size-changes}

pub load_from-push : (K : Modelling) (s : PartitionState) (l : ℕ) (es : List Entry) (e : Entry) (mid : PartitionState) (r : Stepped) → replay_from K s es ≡ Some mid → step K mid e ≡ Some r → load_from K s l (es ++ e ∷ []) ≡ load_after mid r (load_from K s l es) e
load_from-push K s l [] e mid r h k =
    let there : s ≡ mid = some-same s mid h in
    ap (λ (x : PartitionState). load_from K x l (e ∷ [])) there
    ∙ ap (λ (o : Option Stepped). elim o as (λ _. ℕ) [ None ↦ l | Some q ↦ load_after mid q l e ]) k
  where
    some-same : (a b : PartitionState) → Some a ≡ Some b → a ≡ b
    some-same a b i = ap (λ (o : Option PartitionState). elim o as (λ _. PartitionState) [ None ↦ a | Some x ↦ x ]) i
load_from-push K s l (d ∷ ds) e mid r h k =
    elim (step K s d) as (λ o. option_and_then (λ (q : Stepped). replay_from K q.state ds) o ≡ Some mid
    → elim o as (λ _. ℕ) [ None ↦ l | Some q ↦ load_from K q.state (load_after s q l d) (ds ++ e ∷ []) ]
    ≡ load_after mid r (elim o as (λ _. ℕ) [ None ↦ l | Some q ↦ load_from K q.state (load_after s q l d) ds ]) e) [
      | None ↦ λ i. absurd (cc)
      | Some q ↦ λ i. load_from-push K q.state (load_after s q l d) ds e mid r i k
    ] h

-- nothing changed
pub size-none : (m : EntityMap) → size (diff m m) ≡ 0
size-none m = size-changes m m [] (record { ascend = tt; differ = tt }) tt refl

-- a call that leaves a state adds to the load what its map changed
pub load-called : (K : Modelling) (n : ℕ) (journal : List Entry) (s s' : PartitionState) (t : ℕ) (c : Call) (answer : Option (Result Reply Refusal)) (more : ℕ) → replay K n journal ≡ Some s → step K s (Did t (act.Call c)) ≡ Some (record { state = s'; answer = answer }) → size (diff s.now s'.now) ≤ more → load K n (journal ++ Did t (act.Call c) ∷ []) ≤ load K n journal + more
load-called K n journal s s' t c answer more replays leads few =
    let grown = load_from-push K (opening n) 0 journal (Did t (act.Call c)) s _ replays leads in
    omega (arith, grown, few)

-- a mark that is not refused begins anew
pub marked-anew : (K : Modelling) (n : ℕ) (journal : List Entry) (s s' : PartitionState) (t : ℕ) (done : Result Reply Refusal) → replay K n journal ≡ Some s → step K s (Did t act.Mark) ≡ Some (record { state = s'; answer = Some done }) → IfOk (answer_of done) (λ _. load K n (journal ++ Did t act.Mark ∷ []) ≡ 0)
marked-anew K n journal s s' t (Ok reply) replays leads = load_from-push K (opening n) 0 journal (Did t act.Mark) s _ replays leads
marked-anew K n journal s s' t (Err e) replays leads = tt

-- a claim and a draw leave it
pub load-claimed : (K : Modelling) (n : ℕ) (journal : List Entry) (s : PartitionState) (r : Stepped) (t : ℕ) → replay K n journal ≡ Some s → step K s (Claimed t) ≡ Some r → load K n (journal ++ Claimed t ∷ []) ≡ load K n journal
load-claimed K n journal s r t replays leads = load_from-push K (opening n) 0 journal (Claimed t) s r replays leads

pub load-drew : (K : Modelling) (n : ℕ) (journal : List Entry) (s : PartitionState) (r : Stepped) (t b : ℕ) → replay K n journal ≡ Some s → step K s (Drew t b) ≡ Some r → load K n (journal ++ Drew t b ∷ []) ≡ load K n journal
load-drew K n journal s r t b replays leads = load_from-push K (opening n) 0 journal (Drew t b) s r replays leads
