-- The steps of a draw and of tags that are spent, and the block that a draw adds.
use Rattle.std.proofs.Common.{◌≡◌, ℕ, ◌<◌, ◌≤◌, ◌==◌, ◌&&◌, nat_lt, true, not, cond, List, [], ◌∷◌, ◌++◌, Option, None, Some, Err, ap, subst, ◌∙◌, arith}
use Rattle.std.specs.List.{list_all}
use Rattle.std.proofs.lemmas.Bool.{and_parts, ltb-true, ne_eqb}
use Rattle.pk_base.specs.declared.act.Act.{Act}
use Rattle.pk_base.specs.declared.act.Entry.{Entry}
use Rattle.pk_base.specs.declared.act.Entry.TheVariants.{Drew, Spent}
use Rattle.pk_base.specs.declared.refusal.Refusal.TheVariants as refusal
use Rattle.pk_model.specs.State.{PartitionState}
use Rattle.pk_model.specs.Modelling.{Modelling, IsModeller}
use Rattle.pk_model.specs.Step.{short, step, Stepped, without_answer}
use Rattle.pk_model.specs.Replay.{replay}
use Rattle.pk_model.proofs.Steps.{holder_holds}
use Rattle.pk_model.proofs.TagsTaken.{replay-kept}

pub step-drew : (K : Modelling) (s : PartitionState) (t b : ℕ) → s.holder ≡ Some t → list_all (λ o. nat_lt o b) s.blocks ≡ true → step K s (Drew t b) ≡ Some (record { state = record s { blocks = s.blocks ++ b ∷ [] }; answer = None })
step-drew K s t b holds above =
    let after : Option Stepped = without_answer (record s { blocks = s.blocks ++ b ∷ [] }) in
    ap (λ x. cond (x && list_all (λ o. nat_lt o b) s.blocks) after None) (holder_holds s t holds)
    ∙ ap (λ x. cond x after None) above

pub step-spent : (K : Modelling) (s : PartitionState) (t next : ℕ) (a : Act) → s.holder ≡ Some t → 0 < short K s a → step K s (Spent t next a) ≡ Some (record { state = s; answer = Some (Err (refusal.TagsSpent next)) })
step-spent K s t next a holds missing =
    let after : Option Stepped = Some (record { state = s; answer = Some (Err (refusal.TagsSpent next)) }) in
    ap (λ x. cond (x && not (short K s a == 0)) after None) (holder_holds s t holds)
    ∙ ap (λ x. cond (not x) after None) (ne_eqb (short K s a) 0 (λ none. omega (arith, missing, none)))

above_first : (b p : ℕ) (drawn blocks : List ℕ) → blocks ≡ p ∷ drawn → list_all (λ o. nat_lt o b) blocks ≡ true → 1 ≤ b
above_first b p drawn blocks is above =
    let first : nat_lt p b ≡ true = (and_parts _ _ (subst (λ bs. list_all (λ o. nat_lt o b) bs ≡ true) is above)).0 in
    omega (arith, ltb-true p b first)

-- a block above those of a partition is one from 1 on
pub drawn_from_1 : (K : Modelling) → IsModeller K → (p b : ℕ) (journal : List Entry) (s : PartitionState) → replay K p journal ≡ Some s → list_all (λ o. nat_lt o b) s.blocks ≡ true → 1 ≤ b
drawn_from_1 K good p b journal s replays above = let kept = replay-kept K good p journal s replays in above_first b p _ s.blocks kept.blocks above
