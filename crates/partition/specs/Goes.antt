-- What the store is after a goto and after a call.
use Rattle.std.specs.Prelude.{◌≡◌, ℕ, ◌+◌, true, List, [], ◌∷◌, reverse, length, sum_by, Bool, Result, Ok, Err, IsSome, IsTrue}
use Rattle.std.specs.List.{AllByRecursion}
use Rattle.pk_base.specs.declared.tag.Tag.{Tag}
use Rattle.pk_base.specs.declared.list.Lists.{Lists}
use Rattle.pk_base.specs.declared.call.Call.{Call}
use Rattle.pk_base.specs.declared.act.Reply.{Reply}
use Rattle.pk_base.specs.declared.refusal.Refusal.{Refusal}
use Rattle.pk_base.specs.declared.refusal.NoMemory.{NoMemory}
use Rattle.pk_model.specs.Tags.{next_tags, owns}
use Rattle.pk_model.specs.Maps.{EntityMap, diff}
use Rattle.pk_model.specs.State.{Mark}
use Rattle.pk_model.specs.Modelling.{Modelling, Outcome}
use Rattle.pk_model.specs.Step.{◌>>=◌, mark_among, parent_of}
use Rattle.entity_store.specs.Store.{IfHosted, Stored}
use Rattle.entity_store.specs.declared.changes.Change.{Change}
use Rattle.delta.specs.Deltas.{StartsAt, after, in_direction, tags_in}
use Rattle.pmark_tree.specs.declared.mark.TreeMark.{TreeMark}
use Rattle.pmark_tree.specs.Marks.{delta_in, is_live, parent_in}
use Rattle.pmark_tree.specs.Maps.{map_of, whole_marks}
use Rattle.pmark_tree.specs.Paths.{apart_of}

-- ---- a mark that is found

-- the live mark with this tag, with its whole map
abbrev pub whole_of : List TreeMark → Tag → Mark
whole_of ks t = record { tag = t; parent = parent_in ks t; map = map_of ks t; live = true }

-- it is one of the tree's
pub record IsFound (blocks : List ℕ) (ks : List TreeMark) (t : Tag) : Type 0 where
  pub lives : is_live ks t ≡ true
  pub found : mark_among blocks (whole_marks ks) t ≡ Ok (whole_of ks t)

-- the parent of the live mark with this tag
abbrev pub parent_among : List ℕ → List Mark → Tag → Result Tag Refusal
parent_among blocks marks m = do
  k ← mark_among blocks marks m
  parent_of k

-- ---- a way along the tree

-- how many changes there are from these marks to their parents
abbrev pub entries_in : List TreeMark → List Tag → ℕ
entries_in ks ts = sum_by (λ t. length (delta_in ks t)) ts

-- how many there are on the way from the one mark to the other
abbrev pub entries_between : List TreeMark → Tag → Tag → ℕ
entries_between ks from to =
    entries_in ks (apart_of (parent_in ks) from to)
    + entries_in ks (reverse (apart_of (parent_in ks) to from))

-- the changes from a mark's parent to the mark may be applied to this map, or backward undone
pub record MayApply (blocks : List ℕ) (forward : Bool) (m : EntityMap) (cs : List Change)
    : Type 0 where
  pub starts : StartsAt m (in_direction forward cs)
  pub owned : AllByRecursion (λ t. IsTrue (owns blocks t)) (tags_in cs)
  pub hosted : AllByRecursion (λ (c : Change). IfHosted blocks c.tag c.after)
      (in_direction forward cs)

-- the map with the changes of these marks, one behind the other
abbrev pub walked : List TreeMark → Bool → EntityMap → List Tag → EntityMap
walked ks forward m [] = m
walked ks forward m (t ∷ ts) =
    walked ks forward (after m (in_direction forward (delta_in ks t))) ts

-- they may be applied so
abbrev pub MayWalk : List ℕ → List TreeMark → Bool → EntityMap → List Tag → Type 0
MayWalk blocks ks forward m [] = Unit {0}
MayWalk blocks ks forward m (t ∷ ts) =
    IsSome (parent_in ks t) × (MayApply blocks forward m (delta_in ks t)
    × MayWalk blocks ks forward (after m (in_direction forward (delta_in ks t))) ts)

-- The store has what the mark stands for, and the lists compare it with what the store had. For
-- want of memory nothing changed.
abbrev pub Goes : Stored → List TreeMark → Tag → Result Lists NoMemory → Stored → Type 0
Goes old ks m (Ok lists) new =
    (lists ≡ diff old.map (map_of ks m)) × (new ≡ record old { map = map_of ks m })
Goes old ks m (Err e) new = new ≡ old

-- ---- a call

-- the call has this outcome, and takes so many tags
pub record Made (K : Modelling) (old : Stored) (used : ℕ) (c : Call) (reply : Reply) (taken : ℕ)
    (new : Stored) : Type 0 where
  pub outcome : Outcome
  pub steps : K.step old.map c (next_tags old.blocks used) ≡ Ok outcome
  pub replies : reply ≡ outcome.reply
  pub takes : taken ≡ K.cost old.map c
  pub store : new ≡ record old { map = outcome.map }

-- it was done, or was refused so and changed nothing, or memory ran out and nothing changed
abbrev pub Performs : Modelling → Stored → ℕ → Call → Result (Result (Reply × ℕ) Refusal) NoMemory
    → Stored → Type 0
Performs K old used c (Ok (Ok r)) new = Made K old used c r.0 r.1 new
Performs K old used c (Ok (Err e)) new =
    (K.step old.map c (next_tags old.blocks used) ≡ Err e) × (new ≡ old)
Performs K old used c (Err e) new = new ≡ old
