-- The ways in which an entry may change a state, for any modeller.
use Rattle.std.proofs.Common.{◌≡◌, ℕ, ◌+◌, ◌-◌, ◌*◌, ◌≤◌, true, List, [], ◌∷◌, ◌++◌, length, Option, Some, None, Result, Ok, Err, refl, subst, arith}
use Rattle.std.specs.Prelude.{◌==◌, nat_lt, Contains}
use Rattle.std.specs.List.{list_all}
use Rattle.std.proofs.lemmas.Bool.{and_parts, eqb-true}
use Rattle.std.proofs.lemmas.Option.{same_Some, cond_some}
use Rattle.std.proofs.lemmas.List.Elements.{Contains-append_left, Contains-append_right}
use Rattle.list_facts.proofs.Elements.{Contains-first}
use Rattle.pk_base.specs.declared.tag.Tag.{Tag}
use Rattle.pk_base.specs.declared.act.Act.{Act}
use Rattle.pk_base.specs.declared.act.Act.TheVariants as act
use Rattle.pk_base.specs.declared.call.Call.{Call}
use Rattle.pk_base.specs.declared.act.Entry.{Entry}
use Rattle.pk_base.specs.declared.act.Entry.TheVariants.{Claimed, Drew, Did, Spent, Released}
use Rattle.pk_base.specs.declared.act.Reply.TheVariants as reply
use Rattle.pk_base.specs.declared.refusal.Refusal.{Refusal}
use Rattle.pk_model.specs.Tags.{next_tags, tag_at}
use Rattle.pk_model.specs.Maps.{EntityMap, diff}
use Rattle.pk_model.specs.State.{Mark, PartitionState}
use Rattle.pk_model.specs.Modelling.{Modelling, Outcome}
use Rattle.pk_model.specs.Step.{act_cost, short, step, Stepped, with_answer, reach_of, mark_at, parent_of, ◌>>=◌, call_reaches, mark_reaches, goto_reaches, unmark_reaches}
use Rattle.pk_model.specs.Replay.{replay_from}
use Rattle.pk_model.proofs.Replays.{replay_from-first}

-- What is shown for each way in which an entry may change a state.
pub record EachWay (s : PartitionState) (e : Entry) (Q : PartitionState → Type 0) : Type 0 where
  pub same : (now : EntityMap) (at : Tag) (holder : Option ℕ) → Q (record s { now = now; at = at; holder = holder })
  pub draws : (b : ℕ) → list_all (λ o. nat_lt o b) s.blocks ≡ true → Q (record s { blocks = s.blocks ++ b ∷ [] })
  pub takes : (now : EntityMap) (n : ℕ) → n ≤ 64 * length s.blocks - s.used → Q (record s { now = now; used = s.used + n })
  pub marks : 1 ≤ 64 * length s.blocks - s.used → Q (mark_reaches s (tag_at (next_tags s.blocks s.used) 0)).state
  pub deletes : (t : ℕ) (n q : Tag) (x : Mark) → e ≡ Did t (act.Unmark n) → mark_at s n ≡ Ok x → parent_of x ≡ Ok q → Q (unmark_reaches s n q).state

-- where no block is missing, there are tags enough
pub enough : (K : Modelling) (s : PartitionState) (a : Act) → (short K s a == 0) ≡ true → act_cost K s a ≤ 64 * length s.blocks - s.used
enough K s a h = let e : short K s a ≡ 0 = eqb-true _ _ h in omega arith

module _ (K : Modelling) (s : PartitionState) (Q : PartitionState → Type 0) where
  call_way : (t : ℕ) (c : Call) → EachWay s (Did t (act.Call c)) Q → K.cost s.now c ≤ 64 * length s.blocks - s.used → Q (with_answer s (reach_of K s (act.Call c))).state
  call_way t c w fits =
      elim (K.step s.now c (next_tags s.blocks s.used)) as (λ (o : Result Outcome Refusal). Q (with_answer s (o >>= (λ x. Ok (call_reaches K s (K.cost s.now c) x)))).state) [
        | Ok o ↦ w.takes o.map (K.cost s.now c) fits
        | Err e ↦ w.same s.now s.at s.holder
      ]

  goto_way : (t : ℕ) (m : Tag) → EachWay s (Did t (act.Goto m)) Q → Q (with_answer s (reach_of K s (act.Goto m))).state
  goto_way t m w =
      elim (mark_at s m) as (λ (o : Result Mark Refusal). Q (with_answer s (o >>= (λ x. Ok (goto_reaches s x)))).state) [
        | Ok k ↦ w.same k.map k.tag s.holder
        | Err e ↦ w.same s.now s.at s.holder
      ]

  unmark_way : (t : ℕ) (n : Tag) → EachWay s (Did t (act.Unmark n)) Q → Q (with_answer s (reach_of K s (act.Unmark n))).state
  unmark_way t n w =
      elim (mark_at s n) as (λ (o : Result Mark Refusal). mark_at s n ≡ o → Q (with_answer s (o >>= (λ x. parent_of x >>= (λ q. Ok (unmark_reaches s n q))))).state) [
        | Ok x ↦ λ is.
            elim (parent_of x) as (λ (o : Result Tag Refusal). parent_of x ≡ o → Q (with_answer s (o >>= (λ q. Ok (unmark_reaches s n q)))).state) [
              | Ok q ↦ λ below. w.deletes t n q x refl is below
              | Err e ↦ λ below. w.same s.now s.at s.holder
            ] refl
        | Err e ↦ λ is. w.same s.now s.at s.holder
      ] refl

  delta_way : (t : ℕ) (m : Tag) → EachWay s (Did t (act.Delta m)) Q → Q (with_answer s (reach_of K s (act.Delta m))).state
  delta_way t m w =
      let stays = w.same s.now s.at s.holder in
      elim (mark_at s m) as (λ (o : Result Mark Refusal). Q (with_answer s (o >>= (λ x. parent_of x >>= (λ q. mark_at s q >>= (λ y. Ok (record { state = s; reply = reply.Delta (diff y.map x.map) })))))).state) [
        | Err e ↦ stays
        | Ok x ↦ elim (parent_of x) as (λ (o : Result Tag Refusal). Q (with_answer s (o >>= (λ q. mark_at s q >>= (λ y. Ok (record { state = s; reply = reply.Delta (diff y.map x.map) }))))).state) [
          | Err e ↦ stays
          | Ok q ↦ elim (mark_at s q) as (λ (o : Result Mark Refusal). Q (with_answer s (o >>= (λ y. Ok (record { state = s; reply = reply.Delta (diff y.map x.map) })))).state) [
            | Err e ↦ stays
            | Ok y ↦ stays
          ]
        ]
      ]

  act_way : (t : ℕ) (a : Act) → EachWay s (Did t a) Q → act_cost K s a ≤ 64 * length s.blocks - s.used → Q (with_answer s (reach_of K s a)).state
  act_way t (act.Call c) w fits = call_way t c w fits
  act_way t act.Mark w fits = w.marks fits
  act_way t (act.Goto m) w fits = goto_way t m w
  act_way t (act.Unmark m) w fits = unmark_way t m w
  act_way t act.Marks w fits = w.same s.now s.at s.holder
  act_way t (act.Delta m) w fits = delta_way t m w

  -- a step goes one of the ways
  pub step_way : (e : Entry) (r : Stepped) → EachWay s e Q → step K s e ≡ Some r → Q r.state
  step_way (Claimed t) r w is = let c = cond_some _ _ r is in subst (λ (x : Stepped). Q x.state) c.1 (w.same s.now s.at (Some t))
  step_way (Released t) r w is = let c = cond_some _ _ r is in subst (λ (x : Stepped). Q x.state) c.1 (w.same s.now s.at None)
  step_way (Drew t b) r w is = let c = cond_some _ _ r is in subst (λ (x : Stepped). Q x.state) c.1 (w.draws b (and_parts _ _ c.0).1)
  step_way (Did t a) r w is = let c = cond_some _ _ r is in subst (λ (x : Stepped). Q x.state) c.1 (act_way t a w (enough K s a (and_parts _ _ c.0).1))
  step_way (Spent t next a) r w is = let c = cond_some _ _ r is in subst (λ (x : Stepped). Q x.state) c.1 (w.same s.now s.at s.holder)

-- what each way keeps, a replay keeps
pub replay_way : (K : Modelling) (Q : PartitionState → Type 0) (es : List Entry) → ((s : PartitionState) (e : Entry) → Contains es e → Q s → EachWay s e Q) → (s end : PartitionState) → Q s → replay_from K s es ≡ Some end → Q end
replay_way K Q [] w s end q h = subst Q (same_Some s end h) q
replay_way K Q (e ∷ es) w s end q h =
    let c = replay_from-first K s e es end h in
    let next = step_way K s Q e c.first (w s e (Contains-append_left (e ∷ []) es e (Contains-first e [])) q) c.steps in
    replay_way K Q es (λ r x k. w r x (Contains-append_right (e ∷ []) es x k)) c.first.state end next c.rest
