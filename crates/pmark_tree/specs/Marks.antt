-- Marks with the changes from their parents, as a list of those ever made.
use Rattle.std.specs.Prelude.{ℕ, ◌+◌, ◌*◌, Bool, true, false, if◌then◌else◌, List, [], ◌∷◌, length, map, filter, find, sum_by, Option, None, Some, refl}
use Rattle.std.specs.Coded.{Coded, code_by, coded×, coded_ℕ, coded_list}
use Rattle.pk_base.specs.Entity.{same_tag, same_optional}
use Rattle.pk_base.specs.declared.tag.Tag.{Tag}
use Rattle.entity_store.specs.declared.changes.Change.{Change}
use Rattle.delta.specs.Composed.{composed}
use Rattle.pmark_tree.specs.declared.mark.TreeMark.{TreeMark}
use Rattle.pmark_tree.specs.contracts.mark.TreeMark as mark

pub record TreeView : Type 0 where
  -- the marks ever made, ascending by their tags
  pub marks : List TreeMark
  -- for how many marks more there is room
  pub spare : ℕ

abbrev pub view_code : Coded TreeView
view_code =
    code_by (List TreeMark × ℕ) (coded× (coded_list mark.the_row.coded) coded_ℕ)
    (λ v. (v.marks, v.spare)) (λ p. record { marks = p.0; spare = p.1 }) (λ _. refl)

-- ---- one mark of them

-- the mark with this tag, live or not
abbrev pub mark_at : List TreeMark → Tag → Option TreeMark
mark_at ks t = find (λ (k : TreeMark). same_tag k.tag t) ks

-- whether there is a live mark with this tag
abbrev pub is_live : List TreeMark → Tag → Bool
is_live ks t = elim (mark_at ks t) [ None ↦ false | Some k ↦ k.live ]

-- the parent of a mark; none where there is no such mark
abbrev pub parent_in : List TreeMark → Tag → Option Tag
parent_in ks t = elim (mark_at ks t) [ None ↦ None | Some k ↦ k.parent ]

-- the changes from the parent of a mark; none where there is no such mark
abbrev pub delta_in : List TreeMark → Tag → List Change
delta_in ks t = elim (mark_at ks t) [ None ↦ [] | Some k ↦ k.delta ]

-- ---- all of them

-- the first mark that was made
abbrev pub initial_of : List TreeMark → Option Tag
initial_of [] = None
initial_of (k ∷ ks) = Some k.tag

abbrev pub live_tags : List TreeMark → List Tag
live_tags ks = map (λ (k : TreeMark). k.tag) (filter (λ (k : TreeMark). k.live) ks)

-- ---- what becomes of them

-- a tree's first mark
abbrev pub initial_mark : Tag → TreeMark
initial_mark t = record { tag = t; parent = None; live = true; delta = [] }

-- a mark below another one, with the changes from there
abbrev pub child_mark : Tag → Tag → List Change → TreeMark
child_mark t p d = record { tag = t; parent = Some p; live = true; delta = d }

-- a mark that is no longer live
abbrev pub dead_mark : Tag → TreeMark
dead_mark t = record { tag = t; parent = None; live = false; delta = [] }

-- a mark, once the mark t among them is removed: a child of t is that of t's parent, with the
-- changes from there
abbrev pub after_removal : List TreeMark → Tag → TreeMark → TreeMark
after_removal ks t k =
    if same_tag k.tag t then dead_mark k.tag
    else (if same_optional k.parent (Some t)
    then record k { parent = parent_in ks t; delta = composed (delta_in ks t) k.delta } else k)

-- the most steps that a mark takes when the mark t is removed: two for each change of a child, and
-- of t for each child
abbrev pub steps_for : List TreeMark → Tag → TreeMark → ℕ
steps_for ks t k =
    if same_optional k.parent (Some t) then 2 * (length (delta_in ks t) + length k.delta) else 0

-- the most steps of the removal
abbrev pub removal_steps : List TreeMark → Tag → ℕ
removal_steps ks t = sum_by (steps_for ks t) ks
