-- What the two calls of a modeller promise, over what the modeller means.
use Rattle.std.specs.Prelude.{◌≡◌, ℕ, ◌+◌, ◌≤◌, List, [], take, Option, None, Some, Result, Ok, Err, IsOk, IsTrue, ⊤}
use Rattle.std.specs.List.{AllByRecursion}
use Rattle.pk_base.specs.Building.{Building}
use Rattle.pk_base.specs.declared.tag.Tag.{Tag}
use Rattle.pk_base.specs.declared.call.Call.{Call}
use Rattle.pk_base.specs.declared.act.Reply.{Reply}
use Rattle.pk_base.specs.declared.refusal.Refusal.{Refusal}
use Rattle.pk_model.specs.Tags.{owns}
use Rattle.pk_model.specs.Maps.{EntityMap}
use Rattle.pk_model.specs.Modelling.{Modelling, MayBeAsked, Outcome}
use Rattle.entity_store.specs.NextTags.{TagsView, left}
use Rattle.entity_store.specs.Store.{StoreView}
use Rattle.entity_store.specs.Recording.{room_left}
use Rattle.entity_store.specs.Recorder.{Records}
use Rattle.entity_store.specs.declared.modeller.Need.{Need}

-- the call is not refused, whatever tags it is given; and what is named is how many of them it
-- takes, how many tags it writes at most, and how many it lists
pub record IsNeed (K : Modelling) (m : EntityMap) (c : Call) (n : Need) : Type 0 where
  pub goes : (tags : List Tag) → MayBeAsked K m c tags → IsOk (K.step m c tags)
  pub tags : n.tags ≡ K.cost m c
  pub changes : n.changes ≡ K.changes m c
  pub list : n.list ≡ K.list m c

-- the call is refused so, whatever tags it is given, and takes none
pub record IsRefused (K : Modelling) (m : EntityMap) (c : Call) (e : Refusal) : Type 0 where
  pub refuses : (tags : List Tag) → MayBeAsked K m c tags → K.step m c tags ≡ Err e
  pub free : K.cost m c ≡ 0

abbrev pub Needs : Modelling → EntityMap → Call → Result Need Refusal → Type 0
Needs K m c (Ok n) = IsNeed K m c n
Needs K m c (Err e) = IsRefused K m c e

-- `step` may be asked for the call, with the tags that are left, and does not refuse it; the tags
-- that it takes are owned; and there is room for what it writes and lists
pub record MayPerform (K : Modelling) (s : StoreView) (c : Call) (tags : TagsView)
    (out : Building Tag) : Type 0 where
  pub asked : MayBeAsked K s.state.map c (left tags)
  pub goes : IsOk (K.step s.state.map c (left tags))
  pub owned : AllByRecursion (λ t. IsTrue (owns s.state.blocks t))
      (take (K.cost s.state.map c) (left tags))
  pub changes : K.changes s.state.map c ≤ room_left s.recording
  pub empty : out.items ≡ []
  pub list : K.list s.state.map c ≤ out.spare

-- The call has the outcome of `step`, and takes its tags. Blocks, the map that the recorder began
-- with, its room, and the blocks of the tags are as before.
pub record Performs (K : Modelling) (old : StoreView) (c : Call) (tags : TagsView) (reply : Reply)
    (new : StoreView) (tags' : TagsView) : Type 0 where
  pub outcome : Outcome
  pub steps : K.step old.state.map c (left tags) ≡ Ok outcome
  pub replies : reply ≡ outcome.reply
  pub state : new.state ≡ record old.state { map = outcome.map }
  pub takes : tags' ≡ record tags { used = tags.used + K.cost old.state.map c }
  pub records : Records (K.changes old.state.map c) old new

-- a bound on the steps that are added, where one is named
abbrev pub AddsAtMost : Option ℕ → ℕ → ℕ → Type 0
AddsAtMost None before after = ⊤
AddsAtMost (Some n) before after = after ≤ before + n
