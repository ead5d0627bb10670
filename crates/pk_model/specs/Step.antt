-- The step of a partition: what each entry of its journal does, and where it is defined.
use Rattle.std.specs.Prelude.{ℕ, ◌+◌, ◌-◌, ◌/◌, ◌==◌, nat_lt, true, false, not, ◌&&◌, if◌then◌else◌, List, [], ◌∷◌, ◌++◌, map, filter, find, Option, Some, None, is_none, Result, Ok, Err}
use Rattle.std.specs.List.{list_all}
use Rattle.std.specs.FinMap.{empty}
use Rattle.pk_base.specs.Entity.{same_tag, same_optional}
use Rattle.pk_base.specs.declared.tag.Tag.{Tag}
use Rattle.pk_base.specs.declared.tag.TheConstants.{TAGS_OF_A_BLOCK}
use Rattle.pk_base.specs.declared.list.MarkRow.{MarkRow}
use Rattle.pk_base.specs.declared.act.Act.{Act}
use Rattle.pk_base.specs.declared.act.Act.TheVariants as act
use Rattle.pk_base.specs.declared.act.Reply.{Reply}
use Rattle.pk_base.specs.declared.act.Reply.TheVariants as reply
use Rattle.pk_base.specs.declared.act.Entry.{Entry}
use Rattle.pk_base.specs.declared.act.Entry.TheVariants.{Claimed, Drew, Did, Spent, Released}
use Rattle.pk_base.specs.declared.refusal.Refusal.{Refusal}
use Rattle.pk_base.specs.declared.refusal.Refusal.TheVariants as refusal
use Rattle.pk_model.specs.Tags.{owns, spare_of, next_tags, tag_at}
use Rattle.pk_model.specs.Maps.{diff}
use Rattle.pk_model.specs.State.{Mark, PartitionState, holds}
use Rattle.pk_model.specs.Modelling.{Modelling, Outcome}

-- how many tags an act takes: a mark 1, a call its cost, and every other act none
abbrev pub act_cost : Modelling → PartitionState → Act → ℕ
act_cost K s (act.Call c) = K.cost s.now c
act_cost K s act.Mark = 1
act_cost K s (act.Goto m) = 0
act_cost K s (act.Unmark m) = 0
act_cost K s act.Marks = 0
act_cost K s (act.Delta m) = 0

-- the least number of blocks with which the spare tags suffice for so many
abbrev pub blocks_short : ℕ → ℕ → ℕ
blocks_short cost spare = (cost - spare + (TAGS_OF_A_BLOCK - 1)) / TAGS_OF_A_BLOCK

-- how many blocks are missing for the act
abbrev pub short : Modelling → PartitionState → Act → ℕ
short K s a = blocks_short (act_cost K s a) (spare_of s.blocks s.used)

infixl 10 ◌>>=◌
abbrev pub ◌>>=◌ : {A B E : Type 0} → Result A E → (A → Result B E) → Result B E
(Ok x) >>= f = f x
(Err e) >>= f = Err e

abbrev pub live_mark : Tag → Option Mark → Result Mark Refusal
live_mark m None = Err (refusal.NotAMark m)
live_mark m (Some k) = if k.live then Ok k else Err (refusal.MarkDeleted m)

-- The live mark of this tag among these. It is not ours where its block is not owned, else no mark
-- where none ever had it, else deleted where the mark is not live.
abbrev pub mark_among : List ℕ → List Mark → Tag → Result Mark Refusal
mark_among blocks marks m =
    if owns blocks m then live_mark m (find (λ k. same_tag k.tag m) marks)
    else Err (refusal.NotOurs m)

abbrev pub mark_at : PartitionState → Tag → Result Mark Refusal
mark_at s m = mark_among s.blocks s.marks m

abbrev pub parent_of : Mark → Result Tag Refusal
parent_of k = elim k.parent [ None ↦ Err refusal.InitialMark | Some p ↦ Ok p ]

-- a mark as it is once it is deleted
abbrev pub deleted_mark : Mark → Mark
deleted_mark k = record { tag = k.tag; parent = None; map = empty; live = false }

-- a mark as it is once m, whose parent was p, is deleted
abbrev pub after_deletion : Tag → Tag → Mark → Mark
after_deletion m p k =
    if same_tag k.tag m then deleted_mark k
    else (if same_optional k.parent (Some m) then record k { parent = Some p } else k)

abbrev pub row_of : Mark → MarkRow
row_of k = record { tag = k.tag; parent = k.parent }

-- the live marks, in the order in which they were made
abbrev pub live_rows : List Mark → List MarkRow
live_rows marks = map row_of (filter (λ k. k.live) marks)

-- the state that an act reaches, and its reply
pub record Reach : Type 0 where
  pub state : PartitionState
  pub reply : Reply

abbrev pub call_reaches : Modelling → PartitionState → ℕ → Outcome → Reach
call_reaches K s cost o =
    record { state = record s { now = o.map; used = s.used + cost }; reply = o.reply }

-- a new live mark with the next tag, which stands for the state now, below the current mark
abbrev pub mark_reaches : PartitionState → Tag → Reach
mark_reaches s t = record {
  state = record s {
    marks = s.marks ++ record { tag = t; parent = Some s.at; map = s.now; live = true } ∷ [];
    at = t;
    used = s.used + 1;
  };
  reply = reply.Made (t ∷ []);
}

-- what the mark stands for, and how it differs from what was left
abbrev pub goto_reaches : PartitionState → Mark → Reach
goto_reaches s k =
    record { state = record s { now = k.map; at = k.tag }; reply = reply.Went (diff s.now k.map) }

-- the mark is deleted, its children are its parent's, and so is the current place where it was this
-- mark
abbrev pub unmark_reaches : PartitionState → Tag → Tag → Reach
unmark_reaches s m p = record {
  state = record s {
    marks = map (after_deletion m p) s.marks;
    at = if same_tag s.at m then p else s.at;
  };
  reply = reply.Done;
}

-- What an act reaches, or why it is refused. A refusal changes nothing.
abbrev pub reach_of : Modelling → PartitionState → Act → Result Reach Refusal
reach_of K s (act.Call c) = do
  o ← K.step s.now c (next_tags s.blocks s.used)
  Ok (call_reaches K s (K.cost s.now c) o)
reach_of K s act.Mark = Ok (mark_reaches s (tag_at (next_tags s.blocks s.used) 0))
reach_of K s (act.Goto m) = do
  k ← mark_at s m
  Ok (goto_reaches s k)
reach_of K s (act.Unmark m) = do
  k ← mark_at s m
  p ← parent_of k
  Ok (unmark_reaches s m p)
reach_of K s act.Marks = Ok (record { state = s; reply = reply.Marks s.at (live_rows s.marks) })
reach_of K s (act.Delta m) = do
  k ← mark_at s m
  p ← parent_of k
  q ← mark_at s p
  Ok (record { state = s; reply = reply.Delta (diff q.map k.map) })

-- the state after an entry, and what the entry's act answered, where it has one
pub record Stepped : Type 0 where
  pub state : PartitionState
  pub answer : Option (Result Reply Refusal)

abbrev pub without_answer : PartitionState → Option Stepped
without_answer s = Some (record { state = s; answer = None })

abbrev pub with_answer : PartitionState → Result Reach Refusal → Stepped
with_answer s (Ok r) = record { state = r.state; answer = Some (Ok r.reply) }
with_answer s (Err e) = record { state = s; answer = Some (Err e) }

-- what the entry gives; nothing where it is not defined
abbrev pub step : Modelling → PartitionState → Entry → Option Stepped
step K s (Claimed t) =
    if is_none s.holder then without_answer (record s { holder = Some t }) else None
step K s (Released t) = if holds s t then without_answer (record s { holder = None }) else None
step K s (Drew t b) =
    if holds s t && list_all (λ o. nat_lt o b) s.blocks
    then without_answer (record s { blocks = s.blocks ++ b ∷ [] }) else None
step K s (Did t a) =
    if holds s t && (short K s a == 0) then Some (with_answer s (reach_of K s a)) else None
step K s (Spent t next a) =
    if holds s t && not (short K s a == 0)
    then Some (record { state = s; answer = Some (Err (refusal.TagsSpent next)) }) else None
