-- What the step of an entry leaves of a partition's blocks and of its holder.
use Rattle.std.proofs.Common.{◌≡◌, ℕ, List, [], ◌∷◌, ◌++◌, Some, None, Result, Ok, Err, refl, sym, ap, subst, ◌∙◌, append_assoc}
use Rattle.std.specs.List.{filter_map, cons_option}
use Rattle.std.proofs.lemmas.Option.{same_Some, cond_some}
use Rattle.std.proofs.lemmas.List.{append-nil}
use Rattle.pk_base.specs.declared.tag.Tag.{Tag}
use Rattle.pk_base.specs.declared.act.Act.{Act}
use Rattle.pk_base.specs.declared.act.Act.TheVariants as act
use Rattle.pk_base.specs.declared.act.Entry.{Entry}
use Rattle.pk_base.specs.declared.act.Entry.TheVariants.{Claimed, Drew, Did, Spent, Released}
use Rattle.pk_base.specs.declared.act.Reply.TheVariants as reply
use Rattle.pk_base.specs.declared.refusal.Refusal.{Refusal}
use Rattle.pk_model.specs.Tags.{next_tags}
use Rattle.pk_model.specs.Maps.{diff}
use Rattle.pk_model.specs.State.{Mark, PartitionState}
use Rattle.pk_model.specs.Modelling.{Modelling, Outcome}
use Rattle.pk_model.specs.Step.{step, Stepped, with_answer, reach_of, mark_at, parent_of, ◌>>=◌, call_reaches, goto_reaches, unmark_reaches}
use Rattle.pk_model.specs.Replay.{replay_from, drawn_block, thread_of}
use Rattle.session_table.specs.Entries.{thread_of as seat_of}
use Rattle.pk_model.proofs.Replays.{replay_from-first}

module _ (K : Modelling) (s : PartitionState) where
  abbrev Keeps : PartitionState → Type 0
  Keeps r = (r.blocks ≡ s.blocks) × (r.holder ≡ s.holder)

  same : Keeps s
  same = (refl, refl)

  goto_keeps : (m : Tag) → Keeps (with_answer s (reach_of K s (act.Goto m))).state
  goto_keeps m =
      elim (mark_at s m) as (λ (o : Result Mark Refusal). Keeps (with_answer s (o >>= (λ x. Ok (goto_reaches s x)))).state) [
        | Ok k ↦ (refl, refl)
        | Err e ↦ same
      ]

  unmark_keeps : (n : Tag) → Keeps (with_answer s (reach_of K s (act.Unmark n))).state
  unmark_keeps n =
      elim (mark_at s n) as (λ (o : Result Mark Refusal). Keeps (with_answer s (o >>= (λ x. parent_of x >>= (λ q. Ok (unmark_reaches s n q))))).state) [
        | Ok x ↦ elim (parent_of x) as (λ (o : Result Tag Refusal). Keeps (with_answer s (o >>= (λ q. Ok (unmark_reaches s n q)))).state) [
          | Ok q ↦ (refl, refl)
          | Err e ↦ same
        ]
        | Err e ↦ same
      ]

  delta_keeps : (m : Tag) → Keeps (with_answer s (reach_of K s (act.Delta m))).state
  delta_keeps m =
      elim (mark_at s m) as (λ (o : Result Mark Refusal). Keeps (with_answer s (o >>= (λ x. parent_of x >>= (λ q. mark_at s q >>= (λ y. Ok (record { state = s; reply = reply.Delta (diff y.map x.map) })))))).state) [
        | Err e ↦ same
        | Ok x ↦ elim (parent_of x) as (λ (o : Result Tag Refusal). Keeps (with_answer s (o >>= (λ q. mark_at s q >>= (λ y. Ok (record { state = s; reply = reply.Delta (diff y.map x.map) }))))).state) [
          | Err e ↦ same
          | Ok q ↦ elim (mark_at s q) as (λ (o : Result Mark Refusal). Keeps (with_answer s (o >>= (λ y. Ok (record { state = s; reply = reply.Delta (diff y.map x.map) })))).state) [
            | Err e ↦ same
            | Ok y ↦ same
          ]
        ]
      ]

  act_keeps : (a : Act) → Keeps (with_answer s (reach_of K s a)).state
  act_keeps (act.Call c) =
      elim (K.step s.now c (next_tags s.blocks s.used)) as (λ (o : Result Outcome Refusal). Keeps (with_answer s (o >>= (λ x. Ok (call_reaches K s (K.cost s.now c) x)))).state) [
        | Ok o ↦ (refl, refl)
        | Err e ↦ same
      ]
  act_keeps act.Mark = (refl, refl)
  act_keeps (act.Goto m) = goto_keeps m
  act_keeps (act.Unmark m) = unmark_keeps m
  act_keeps act.Marks = same
  act_keeps (act.Delta m) = delta_keeps m

  -- an act and a spent one leave the blocks and the holder
  pub did_keeps : (t : ℕ) (a : Act) (r : Stepped) → step K s (Did t a) ≡ Some r → (r.state.blocks ≡ s.blocks) × (r.state.holder ≡ s.holder)
  did_keeps t a r is = let c = cond_some _ _ r is in subst (λ (x : Stepped). Keeps x.state) c.1 (act_keeps a)

  pub spent_keeps : (t next : ℕ) (a : Act) (r : Stepped) → step K s (Spent t next a) ≡ Some r → (r.state.blocks ≡ s.blocks) × (r.state.holder ≡ s.holder)
  spent_keeps t next a r is = let c = cond_some _ _ r is in subst (λ (x : Stepped). Keeps x.state) c.1 same

  -- what a claim, a release and a draw leave
  pub claimed_is : (t : ℕ) (r : Stepped) → step K s (Claimed t) ≡ Some r → r.state ≡ record s { holder = Some t }
  claimed_is t r is = let c = cond_some _ _ r is in subst (λ (x : Stepped). x.state ≡ record s { holder = Some t }) c.1 refl

  pub released_is : (t : ℕ) (r : Stepped) → step K s (Released t) ≡ Some r → r.state ≡ record s { holder = None }
  released_is t r is = let c = cond_some _ _ r is in subst (λ (x : Stepped). x.state ≡ record s { holder = None }) c.1 refl

  pub drew_is : (t b : ℕ) (r : Stepped) → step K s (Drew t b) ≡ Some r → r.state ≡ record s { blocks = s.blocks ++ b ∷ [] }
  drew_is t b r is = let c = cond_some _ _ r is in subst (λ (x : Stepped). x.state ≡ record s { blocks = s.blocks ++ b ∷ [] }) c.1 refl

  -- an entry adds the block that it draws
  pub blocks_after : (e : Entry) (r : Stepped) → step K s e ≡ Some r → r.state.blocks ≡ s.blocks ++ cons_option (drawn_block e) []
  blocks_after (Claimed t) r is = ap (λ (x : PartitionState). x.blocks) (claimed_is t r is) ∙ sym (append-nil s.blocks)
  blocks_after (Drew t b) r is = ap (λ (x : PartitionState). x.blocks) (drew_is t b r is)
  blocks_after (Did t a) r is = (did_keeps t a r is).0 ∙ sym (append-nil s.blocks)
  blocks_after (Spent t next a) r is = (spent_keeps t next a r is).0 ∙ sym (append-nil s.blocks)
  blocks_after (Released t) r is = ap (λ (x : PartitionState). x.blocks) (released_is t r is) ∙ sym (append-nil s.blocks)

drawn_first : (e : Entry) (es : List Entry) → cons_option (drawn_block e) [] ++ filter_map drawn_block es ≡ filter_map drawn_block (e ∷ es)
drawn_first (Claimed t) es = refl
drawn_first (Drew t b) es = refl
drawn_first (Did t a) es = refl
drawn_first (Spent t next a) es = refl
drawn_first (Released t) es = refl

-- the blocks after a journal are those before it and those that it draws
pub blocks_replayed : (K : Modelling) (s : PartitionState) (es : List Entry) (end : PartitionState) → replay_from K s es ≡ Some end → end.blocks ≡ s.blocks ++ filter_map drawn_block es
blocks_replayed K s [] end is = ap (λ (x : PartitionState). x.blocks) (sym (same_Some s end is)) ∙ sym (append-nil s.blocks)
blocks_replayed K s (e ∷ es) end is =
    let c = replay_from-first K s e es end is in
    blocks_replayed K c.first.state es end c.rest
    ∙ ap (λ (bs : List ℕ). bs ++ filter_map drawn_block es) (blocks_after K s e c.first c.steps)
    ∙ append_assoc s.blocks (cons_option (drawn_block e) []) (filter_map drawn_block es)
    ∙ ap (λ (bs : List ℕ). s.blocks ++ bs) (drawn_first e es)

-- the table reads an entry's thread as the model does
pub one_thread : (e : Entry) → seat_of e ≡ thread_of e
one_thread (Claimed t) = refl
one_thread (Drew t b) = refl
one_thread (Did t a) = refl
one_thread (Spent t next a) = refl
one_thread (Released t) = refl
