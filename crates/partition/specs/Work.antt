-- How much a mark and a goto may take: the changes since the current mark, and those on the way.
use Rattle.std.specs.Prelude.{◌≡◌, ℕ, Bool, true, false, ◌+◌, ◌*◌, ◌≤◌, ◌&&◌, not, if◌then◌else◌, List, [], ◌∷◌, ◌++◌, find, length, sum_by, Option, None, Some, Result, Ok, Err, ⊤}
use Rattle.std.specs.FinMap.{empty}
use Rattle.pk_base.specs.Entity.{same_tag}
use Rattle.pk_base.specs.declared.tag.Tag.{Tag}
use Rattle.pk_base.specs.declared.list.Lists.{Lists}
use Rattle.pk_base.specs.declared.call.Call.{Call}
use Rattle.pk_base.specs.declared.act.Act.{Act}
use Rattle.pk_base.specs.declared.act.Act.TheVariants as act
use Rattle.pk_base.specs.declared.act.Entry.{Entry}
use Rattle.pk_base.specs.declared.act.Entry.TheVariants.{Claimed, Drew, Did, Spent, Released}
use Rattle.pk_base.specs.declared.act.Reply.{Reply}
use Rattle.pk_base.specs.declared.refusal.Refusal.{Refusal}
use Rattle.pk_base.specs.declared.refusal.Fault.{Fault}
use Rattle.pk_base.specs.declared.refusal.Fault.TheVariants.{Refused, NoMemory}
use Rattle.pk_model.specs.Maps.{EntityMap, diff}
use Rattle.pk_model.specs.State.{Mark, PartitionState, opening}
use Rattle.pk_model.specs.Modelling.{Modelling}
use Rattle.pk_model.specs.Step.{step, Stepped}
use Rattle.pmark_tree.specs.Paths.{apart_of}
use Rattle.partition.specs.Partition.{PartitionView}

-- how many tags differ between two maps
abbrev pub size : Lists → ℕ
size l = length l.fresh + length l.gone + length l.changed

-- ---- the marks of a state, by their tags

abbrev pub mark_named : List Mark → Tag → Option Mark
mark_named marks t = find (λ (k : Mark). same_tag k.tag t) marks

-- what the mark stands for; the empty map where there is no such mark
abbrev pub map_named : List Mark → Tag → EntityMap
map_named marks t = elim (mark_named marks t) [ None ↦ empty | Some k ↦ k.map ]

abbrev pub parent_named : List Mark → Tag → Option Tag
parent_named marks t = elim (mark_named marks t) [ None ↦ None | Some k ↦ k.parent ]

-- how a mark differs from its parent; nothing where it has none
abbrev pub edge_size : List Mark → Tag → ℕ
edge_size marks t =
    elim (parent_named marks t)
    [ None ↦ 0 | Some p ↦ size (diff (map_named marks p) (map_named marks t)) ]

-- ---- load

abbrev pub is_refused : Option (Result Reply Refusal) → Bool
is_refused (Some (Err e)) = true
is_refused _ = false

-- the load after an entry
abbrev pub load_after : PartitionState → Stepped → ℕ → Entry → ℕ
load_after s r load (Did t (act.Call c)) = load + size (diff s.now r.state.now)
load_after s r load (Did t act.Mark) = if is_refused r.answer then load else 0
load_after s r load (Did t (act.Goto m)) = if is_refused r.answer then load else 0
load_after s r load (Did t (act.Unmark m)) =
    if not (is_refused r.answer) && same_tag m s.at then load + edge_size s.marks m else load
load_after s r load (Did t act.Marks) = load
load_after s r load (Did t (act.Delta m)) = load
load_after s r load (Claimed t) = load
load_after s r load (Drew t b) = load
load_after s r load (Spent t next a) = load
load_after s r load (Released t) = load

abbrev pub load_from : Modelling → PartitionState → ℕ → List Entry → ℕ
load_from K s load [] = load
load_from K s load (e ∷ es) =
    elim (step K s e)
    [ None ↦ load | Some r ↦ load_from K r.state (load_after s r load e) es ]

-- How much the entries of partition p's journal have changed since the current mark: each call by
-- how the map differs before and after it, and each deletion of the current mark by how this mark
-- differs from its parent. A mark and a goto that are not refused begin anew.
abbrev pub load : Modelling → ℕ → List Entry → ℕ
load K p journal = load_from K (opening p) 0 journal

-- ---- work

-- the marks whose edges to their parents are on the way from the current mark to m
abbrev pub edges_to : PartitionState → Tag → List Tag
edges_to s m =
    apart_of (parent_named s.marks) s.at m ++ apart_of (parent_named s.marks) m s.at

-- how much differs on the way: at each edge of it, and from the current mark to what is there now;
-- with the number of edges, and one
abbrev pub work : PartitionState → Tag → ℕ
work s m =
    sum_by (edge_size s.marks) (edges_to s m) + size (diff (map_named s.marks s.at) s.now)
    + length (edges_to s m) + 1

-- ---- steps

-- a goto that is refused adds no steps, and every other one at most four for its work
abbrev pub GoesWithin : PartitionState → Tag → Result Reply Fault → ℕ → ℕ → Type 0
GoesWithin s m (Ok r) before after = after ≤ before + 4 * work s m
GoesWithin s m (Err (Refused e)) before after = after ≡ before
GoesWithin s m (Err NoMemory) before after = after ≤ before + 4 * work s m

-- a call of which the modeller names a bound adds at most twice as many steps, and two for each tag
-- that it may put
abbrev pub CallsWithin : Option ℕ → ℕ → ℕ → ℕ → Type 0
CallsWithin None changes before after = ⊤
CallsWithin (Some limit) changes before after = after ≤ before + 2 * (limit + changes)

-- A mark adds at most two steps for its load; a goto at most four for its work, and none where it is
-- refused; and a call what its modeller's bound gives. Of the other acts it says nothing.
abbrev pub StepsWithin : Modelling → (Call → Option ℕ) → PartitionView → Act → Result Reply Fault
    → ℕ → ℕ → Type 0
StepsWithin K limit v act.Mark r before after = after ≤ before + 2 * load K v.number v.journal
StepsWithin K limit v (act.Goto m) r before after = GoesWithin v.state m r before after
StepsWithin K limit v (act.Call c) r before after =
    CallsWithin (limit c) (K.changes v.state.now c) before after
StepsWithin K limit v (act.Unmark m) r before after = ⊤
StepsWithin K limit v act.Marks r before after = ⊤
StepsWithin K limit v (act.Delta m) r before after = ⊤
