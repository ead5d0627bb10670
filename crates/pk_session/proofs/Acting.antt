-- What an act of the holder leaves.
use Rattle.std.proofs.Common.{◌≡◌, ℕ, [], ◌∷◌, ◌++◌, unwrap_or, ap, sym, subst, ◌∙◌}
use Rattle.std.specs.Prelude.{Option, Some, None, IsSome, Result, Ok, Err}
use Rattle.pk_base.specs.declared.act.Act.{Act}
use Rattle.pk_base.specs.declared.act.Entry.TheVariants.{Did, Spent, Released}
use Rattle.pk_base.specs.declared.act.Reply.{Reply}
use Rattle.pk_base.specs.declared.refusal.Refusal.{Refusal}
use Rattle.pk_base.specs.declared.refusal.Fault.{Fault}
use Rattle.pk_base.specs.declared.refusal.Fault.TheVariants.{Refused, NoMemory}
use Rattle.pk_model.specs.Modelling.{Modelling}
use Rattle.pk_model.specs.State.{PartitionState}
use Rattle.partition.specs.Partition.{PartitionView, Appends, Answers, holder_of}
use Rattle.pk_session.specs.Views.{SeatView, HeldView}
use Rattle.session_table.specs.Calls.{IsNotedBy}
use Rattle.pk_session.specs.Inside.{named_of}
use Rattle.pk_session.specs.Holding.{IsHeldBy}
use Rattle.pk_session.proofs.Entries.{did_keeps, spent_keeps, released_is}
use Rattle.pk_session.proofs.Locking.{released_noted}
use Rattle.pk_session.proofs.Blocks.{entry_held, still_held}

-- the holder, as a number
pub holder_is : (s : SeatView) (h : HeldView) → IsHeldBy s h → holder_of h.partition ≡ s.view.number
holder_is s h held = ap (λ (o : Option ℕ). unwrap_or o 0) held.holder

module _ (K : Modelling) (h : HeldView) (x : PartitionView) where
  did_held : (s : SeatView) (a : Act) (answer : Option (Result Reply Refusal)) → Appends K h.partition (Did (holder_of h.partition) a) answer x → IsHeldBy s h → IsHeldBy s (record { session = h.session; partition = x })
  did_held s a answer ap' held =
      let t : ℕ = holder_of h.partition in
      let keeps = did_keeps K h.partition.state t a (record { state = x.state; answer = answer }) ap'.steps in
      entry_held s h x (Did t a) held ap'.number keeps.0 keeps.1 ap'.journal (holder_is s h held)

  pub acted : (s : SeatView) (a : Act) (result : Result Reply Fault) → Answers K h.partition a result x → IsHeldBy s h → IsHeldBy s (record { session = h.session; partition = x })
  acted s a (Ok r) said held = did_held s a (Some (Ok r)) said held
  acted s a (Err (Refused e)) said held = did_held s a (Some (Err e)) said held
  acted s a (Err NoMemory) said held = still_held s h x held said

  did_some : (a : Act) (answer : Option (Result Reply Refusal)) → Appends K h.partition (Did (holder_of h.partition) a) answer x → IsSome h.partition.state.holder → IsSome x.state.holder
  did_some a answer ap' some =
      let keeps = did_keeps K h.partition.state (holder_of h.partition) a (record { state = x.state; answer = answer }) ap'.steps in
      subst IsSome (sym keeps.1) some

  pub acted_some : (a : Act) (result : Result Reply Fault) → Answers K h.partition a result x → IsSome h.partition.state.holder → IsSome x.state.holder
  acted_some a (Ok r) said some = did_some a (Some (Ok r)) said some
  acted_some a (Err (Refused e)) said some = did_some a (Some (Err e)) said some
  acted_some a (Err NoMemory) said some = subst (λ (s : PartitionState). IsSome s.holder) (sym said.state) some

  pub spent_held : (s : SeatView) (a : Act) (next : ℕ) (answer : Option (Result Reply Refusal)) → Appends K h.partition (Spent (holder_of h.partition) next a) answer x → IsHeldBy s h → IsHeldBy s (record { session = h.session; partition = x })
  spent_held s a next answer ap' held =
      let t : ℕ = holder_of h.partition in
      let keeps = spent_keeps K h.partition.state t next a (record { state = x.state; answer = answer }) ap'.steps in
      entry_held s h x (Spent t next a) held ap'.number keeps.0 keeps.1 ap'.journal (holder_is s h held)

  pub spent_some : (a : Act) (next : ℕ) (answer : Option (Result Reply Refusal)) → Appends K h.partition (Spent (holder_of h.partition) next a) answer x → IsSome h.partition.state.holder → IsSome x.state.holder
  spent_some a next answer ap' some =
      let keeps = spent_keeps K h.partition.state (holder_of h.partition) next a (record { state = x.state; answer = answer }) ap'.steps in
      subst IsSome (sym keeps.1) some

-- ---- a release

module _ (K : Modelling) (s : SeatView) (h : HeldView) (x : PartitionView) (held : IsHeldBy s h) (appends : Appends K h.partition (Released (holder_of h.partition)) None x) where
  released_state : x.state ≡ record h.partition.state { holder = None }
  released_state = released_is K h.partition.state (holder_of h.partition) (record { state = x.state; answer = None }) appends.steps

  pub release_journal : x.journal ≡ h.partition.journal ++ Released s.view.number ∷ []
  release_journal = appends.journal ∙ ap (λ (n : ℕ). h.partition.journal ++ Released n ∷ []) (holder_is s h held)

  pub release_noted : IsNotedBy s.view x.number (named_of x)
  release_noted =
      released_noted s h x held appends.number (ap (λ (t : PartitionState). t.holder) released_state) (ap (λ (t : PartitionState). t.blocks) released_state) release_journal
