-- A partition stays valid: an entry whose step is defined leads on.
use Rattle.std.proofs.Common.{◌≡◌, ℕ, ◌+◌, ◌<◌, List, [], ◌∷◌, ◌++◌, length, Option, Some, Result, Ok, Err, IsSome, sym, ap, ◌∙◌, arith, length-append}
use Rattle.std.specs.Option.{unwrap_or}
use Rattle.pk_base.specs.declared.act.Act.{Act}
use Rattle.pk_base.specs.declared.act.Entry.{Entry}
use Rattle.pk_base.specs.declared.act.Entry.TheVariants.{Did}
use Rattle.pk_base.specs.declared.act.Reply.{Reply}
use Rattle.pk_base.specs.declared.refusal.Refusal.{Refusal}
use Rattle.pk_model.specs.State.{PartitionState, opening}
use Rattle.pk_model.specs.Modelling.{Modelling}
use Rattle.pk_model.specs.Step.{short, step, Stepped}
use Rattle.pk_model.specs.Replay.{replay}
use Rattle.pk_model.proofs.Replays.{replay_from-push}
use Rattle.pk_model.proofs.Steps.{step-reached, step-refused}
use Rattle.partition.specs.Contents.{ContentsView, Does}
use Rattle.partition.specs.Partition.{Answers, Appends, IsValid, PartitionView, answer_of, holder_of, reserved_in}

-- a partition as it is seen with these contents and this journal, and with room for so many more entries
abbrev pub view : ℕ → ContentsView → List Entry → ℕ → PartitionView
view n contents journal room = record {
  number = n;
  state = contents.state;
  journal = journal;
  reserved = reserved_in contents.reserved room;
}

module _ (K : Modelling) (n : ℕ) (s : PartitionState) (journal : List Entry) (capacity : ℕ) (valid : IsValid K n s journal capacity) where
  pub valid_after : (e : Entry) (answer : Option (Result Reply Refusal)) (s' : PartitionState) (journal' : List Entry) (capacity' : ℕ) → step K s e ≡ Some (record { state = s'; answer = answer }) → journal' ≡ journal ++ e ∷ [] → (IsSome s'.holder → length journal + 1 < capacity') → IsValid K n s' journal' capacity'
  valid_after e answer s' journal' capacity' leads grown room = record {
    replays = ap (λ j. replay K n j) grown ∙ replay_from-push K (opening n) journal e s (record { state = s'; answer = answer }) valid.replays leads;
    room = λ h. omega (arith, room h, ap length grown, length-append journal (e ∷ []));
  }

-- what the holder's act does is the step of its entry
pub did_leads : (K : Modelling) (s s' : PartitionState) (t : ℕ) (a : Act) (done : Result Reply Refusal) → s.holder ≡ Some t → short K s a ≡ 0 → Does K s a (Ok done) s' → step K s (Did t a) ≡ Some (record { state = s'; answer = Some done })
did_leads K s s' t a (Ok r) holds enough does = step-reached K s t a (record { state = s'; reply = r }) holds enough does
did_leads K s s' t a (Err e) holds enough does =
    let stepped : PartitionState → Option Stepped = λ x. Some (record { state = x; answer = Some (Err e) }) in
    step-refused K s t a e holds enough does.0 ∙ ap stepped (sym does.1)

-- so it is answered
pub did_answers : (K : Modelling) (old new : PartitionView) (t : ℕ) (a : Act) (done : Result Reply Refusal) → old.state.holder ≡ Some t → short K old.state a ≡ 0 → Does K old.state a (Ok done) new.state → new.number ≡ old.number → new.journal ≡ old.journal ++ Did t a ∷ [] → Answers K old a (answer_of done) new
did_answers K old new t a done holds enough does number grown = answered done (did_leads K old.state new.state t a done holds enough does)
  where
    same : holder_of old ≡ t
    same = ap (λ o. unwrap_or o 0) holds

    appends : (answer : Option (Result Reply Refusal)) → step K old.state (Did t a) ≡ Some (record { state = new.state; answer = answer }) → Appends K old (Did (holder_of old) a) answer new
    appends answer leads = record {
      number = number;
      steps = ap (λ u. step K old.state (Did u a)) same ∙ leads;
      journal = grown ∙ ap (λ u. old.journal ++ Did u a ∷ []) (sym same);
    }

    answered : (d : Result Reply Refusal) → step K old.state (Did t a) ≡ Some (record { state = new.state; answer = Some d }) → Answers K old a (answer_of d) new
    answered (Ok r) leads = appends (Some (Ok r)) leads
    answered (Err e) leads = appends (Some (Err e)) leads
