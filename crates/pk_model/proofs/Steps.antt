-- The steps of a partition's entries, each from what its caller knows.
use Rattle.std.proofs.Common.{◌≡◌, ℕ, ◌≤◌, ◌==◌, ◌&&◌, true, false, cond, None, Some, option_map, is_none, Ok, Err, refl, ap, ◌∙◌, arith}
use Rattle.std.specs.Option.{unwrap_or}
use Rattle.std.proofs.lemmas.Bool.{eq-eqb}
use Rattle.pk_base.specs.declared.tag.Tag.{Tag}
use Rattle.pk_base.specs.declared.call.Call.{Call}
use Rattle.pk_base.specs.declared.act.Act.{Act}
use Rattle.pk_base.specs.declared.act.Act.TheVariants as act
use Rattle.pk_base.specs.declared.act.Entry.TheVariants.{Claimed, Did, Released}
use Rattle.pk_base.specs.declared.refusal.Refusal.{Refusal}
use Rattle.pk_model.specs.Tags.{next_tags}
use Rattle.pk_model.specs.State.{Mark, PartitionState, holds}
use Rattle.pk_model.specs.Modelling.{Modelling, Outcome}
use Rattle.pk_model.specs.Step.{blocks_short, short, step, with_answer, reach_of, Reach, call_reaches, goto_reaches, mark_at, without_answer, ◌>>=◌}

pub holder_holds : (s : PartitionState) (t : ℕ) → s.holder ≡ Some t → holds s t ≡ true
holder_holds s t h = ap (λ o. unwrap_or (option_map (λ u. u == t) o) false) h ∙ eq-eqb t t refl

pub step-claimed : (K : Modelling) (s : PartitionState) (t : ℕ) → s.holder ≡ None → step K s (Claimed t) ≡ Some (record { state = record s { holder = Some t }; answer = None })
step-claimed K s t h = ap (λ o. cond (is_none o) (without_answer (record s { holder = Some t })) None) h

pub step-released : (K : Modelling) (s : PartitionState) (t : ℕ) → s.holder ≡ Some t → step K s (Released t) ≡ Some (record { state = record s { holder = None }; answer = None })
step-released K s t h = ap (λ b. cond b (without_answer (record s { holder = None })) None) (holder_holds s t h)

-- an act that its holder does, and that is not short
pub step-did : (K : Modelling) (s : PartitionState) (t : ℕ) (a : Act) → s.holder ≡ Some t → short K s a ≡ 0 → step K s (Did t a) ≡ Some (with_answer s (reach_of K s a))
step-did K s t a h k =
    ap (λ b. cond (b && (short K s a == 0)) (Some (with_answer s (reach_of K s a))) None) (holder_holds s t h)
    ∙ ap (λ n. cond (n == 0) (Some (with_answer s (reach_of K s a))) None) k

pub step-reached : (K : Modelling) (s : PartitionState) (t : ℕ) (a : Act) (r : Reach) → s.holder ≡ Some t → short K s a ≡ 0 → reach_of K s a ≡ Ok r → step K s (Did t a) ≡ Some (record { state = r.state; answer = Some (Ok r.reply) })
step-reached K s t a r h k e = step-did K s t a h k ∙ ap (λ x. Some (with_answer s x)) e

pub step-refused : (K : Modelling) (s : PartitionState) (t : ℕ) (a : Act) (e : Refusal) → s.holder ≡ Some t → short K s a ≡ 0 → reach_of K s a ≡ Err e → step K s (Did t a) ≡ Some (record { state = s; answer = Some (Err e) })
step-refused K s t a e h k r = step-did K s t a h k ∙ ap (λ x. Some (with_answer s x)) r

-- what is not short has tags enough
pub enough_tags : (cost spare : ℕ) → blocks_short cost spare ≡ 0 → cost ≤ spare
enough_tags cost spare h = omega arith

pub not_short : (cost spare : ℕ) → cost ≤ spare → blocks_short cost spare ≡ 0
not_short cost spare h = omega arith

pub reach_of-call : (K : Modelling) (s : PartitionState) (c : Call) (o : Outcome) → K.step s.now c (next_tags s.blocks s.used) ≡ Ok o → reach_of K s (act.Call c) ≡ Ok (call_reaches K s (K.cost s.now c) o)
reach_of-call K s c o h = ap (λ r. r >>= (λ x. Ok (call_reaches K s (K.cost s.now c) x))) h

pub reach_of-call_refused : (K : Modelling) (s : PartitionState) (c : Call) (e : Refusal) → K.step s.now c (next_tags s.blocks s.used) ≡ Err e → reach_of K s (act.Call c) ≡ Err e
reach_of-call_refused K s c e h = ap (λ r. r >>= (λ x. Ok (call_reaches K s (K.cost s.now c) x))) h

pub reach_of-goto : (K : Modelling) (s : PartitionState) (m : Tag) (k : Mark) → mark_at s m ≡ Ok k → reach_of K s (act.Goto m) ≡ Ok (goto_reaches s k)
reach_of-goto K s m k h = ap (λ r. r >>= (λ x. Ok (goto_reaches s x))) h

pub reach_of-goto_refused : (K : Modelling) (s : PartitionState) (m : Tag) (e : Refusal) → mark_at s m ≡ Err e → reach_of K s (act.Goto m) ≡ Err e
reach_of-goto_refused K s m e h = ap (λ r. r >>= (λ x. Ok (goto_reaches s x))) h
