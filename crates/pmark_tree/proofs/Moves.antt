-- The children of a mark, as they are below its parent.
use Rattle.std.proofs.Common.{◌≡◌, ℕ, ◌<◌, ◌≤◌, ⊎_elim, List, [], ◌∷◌, ◌++◌, length, get_or, Option, None, Some, refl, sym, ap, subst, ◌∙◌, append-nil, append_assoc}
use Rattle.std.specs.Prelude.{Contains}
use Rattle.std.specs.List.{AllByRecursion}
use Rattle.std.proofs.lemmas.Bool.{cases_lt}
use Rattle.std.proofs.lemmas.List.{get_or_default}
use Rattle.std.proofs.lemmas.List.Elements.{Contains-append_right}
use Rattle.pk_base.specs.Blocks.{tag}
use Rattle.pk_base.specs.declared.tag.Tag.{Tag}
use Rattle.pk_model.specs.Maps.{EntityMap}
use Rattle.list_facts.proofs.Elements.{Contains-first}
use Rattle.list_facts.proofs.Each.{ByRecursion-append}
use Rattle.owner_links.specs.Links.{AreChildren}
use Rattle.entity_store.specs.Changes.{AreChanges}
use Rattle.delta.specs.Deltas.{Follows, StartsAt, after}
use Rattle.delta.proofs.Leads.{follows-after}
use Rattle.pmark_tree.specs.declared.mark.TreeMark.{TreeMark}
use Rattle.pmark_tree.specs.declared.remove.Moved.{Moved}
use Rattle.pmark_tree.specs.Marks.{parent_in, delta_in, dead_mark}
use Rattle.pmark_tree.specs.Maps.{map_of}
use Rattle.pmark_tree.specs.Trees.{IsTree}
use Rattle.pmark_tree.specs.Rows.{row_at, IsChildRow, AreLinked}
use Rattle.pmark_tree.specs.Removal.{rows_in, IsMoved, AreMoved}
use Rattle.pmark_tree.proofs.Found.{mark_at-row, parent_in-at, delta_in-at}
use Rattle.pmark_tree.proofs.Grown.{not_none}
use Rattle.pmark_tree.proofs.Linked.{row_past}
use Rattle.pmark_tree.proofs.Handed.{rows_in-push}

-- a child has a row
pub child_within : (ks : List TreeMark) (c q : ℕ) → IsChildRow ks c q → c < length ks
child_within ks c q child =
    ⊎_elim {C = c < length ks} (λ (l : c < length ks). l)
    (λ (m : length ks ≤ c). absurd (not_none (row_at ks c).parent (row_at ks q).tag child.parent (ap (λ (k : TreeMark). k.parent) (row_past ks c m))))
    (cases_lt c (length ks))

-- the changes of a mark start somewhere and lead to its map
record Reaches (ks : List TreeMark) (t : Tag) : Type 0 where
  from : EntityMap
  are : AreChanges (delta_in ks t)
  leads : after from (delta_in ks t) ≡ map_of ks t

reaches : (ks : List TreeMark) (t : Tag) → IsTree ks → Reaches ks t
reaches ks t tree =
    elim (parent_in ks t) as (λ o. parent_in ks t ≡ o → Reaches ks t) [
      | None ↦ λ e.
          let none = sym (tree.loose t e) in
          let no_changes : AreChanges [] = record { ascend = tt; differ = tt } in
          record { from = map_of ks t; are = subst AreChanges none no_changes; leads = ap (after (map_of ks t)) (tree.loose t e) }
      | Some p ↦ λ e. let edge = tree.edges p t e in record { from = map_of ks p; are = edge.changes; leads = edge.leads }
    ] refl

-- the changes of a child follow those of its parent
pub follows_parent : (ks : List TreeMark) (at child : ℕ) (x y : TreeMark) → IsTree ks → IsChildRow ks child at → Follows (get_or ks at x).delta (get_or ks child y).delta
follows_parent ks at child x y tree h =
    let within = child_within ks child at h in
    let t = (row_at ks at).tag in
    let u = (row_at ks child).tag in
    let here = mark_at-row ks child tree.ascend within in
    let there = mark_at-row ks at tree.ascend h.within in
    let edge = tree.edges t u (parent_in-at ks u (row_at ks child) here ∙ h.parent) in
    let its = reaches ks t tree in
    let fits = follows-after its.from (delta_in ks t) (delta_in ks u) its.are (subst (λ m. StartsAt m (delta_in ks u)) (sym its.leads) edge.starts) in
    let above : delta_in ks t ≡ (get_or ks at x).delta = delta_in-at ks t (row_at ks at) there ∙ ap (λ (k : TreeMark). k.delta) (get_or_default ks at (dead_mark (tag 0)) x h.within) in
    let below : delta_in ks u ≡ (get_or ks child y).delta = delta_in-at ks u (row_at ks child) here ∙ ap (λ (k : TreeMark). k.delta) (get_or_default ks child (dead_mark (tag 0)) y within) in
    subst (λ cs. Follows cs (get_or ks child y).delta) above (subst (Follows (delta_in ks t)) below fits)

-- the next one of the children
pub next_child : (ks : List TreeMark) (owners : List (Option ℕ)) (at child : ℕ) (done left rest : List ℕ) → AreLinked ks owners → AreChildren owners at (done ++ left) → left ≡ child ∷ rest → IsChildRow ks child at
next_child ks owners at child done left rest linked are e =
    (linked child at).0 ((are.all child).0 (subst (λ l. Contains (done ++ l) child) (sym e) (Contains-append_right done (child ∷ rest) child (Contains-first child rest))))

pub all_moved : (ks : List TreeMark) (owners : List (Option ℕ)) (at : ℕ) (moved : List Moved) (left : List ℕ) → AreLinked ks owners → AreChildren owners at (rows_in moved ++ left) → left ≡ [] → AllByRecursion (IsMoved ks at) moved → AreMoved ks at moved
all_moved ks owners at moved left linked are e deltas =
    let whole : AreChildren owners at (rows_in moved) = subst (AreChildren owners at) (ap (λ l. rows_in moved ++ l) e ∙ append-nil (rows_in moved)) are in
    record {
      once = whole.once;
      all = λ c. (λ k. (linked c at).0 ((whole.all c).0 k), λ child. (whole.all c).1 ((linked c at).1 child));
      deltas = deltas;
    }

-- ---- one more of the children

more_rows : (moved new : List Moved) (m : Moved) (child : ℕ) (left rest : List ℕ) → left ≡ child ∷ rest → new ≡ moved ++ m ∷ [] → m.row ≡ child → rows_in new ++ rest ≡ rows_in moved ++ left
more_rows moved new m child left rest e f g =
    ap (λ l. rows_in l ++ rest) f
    ∙ ap (λ (l : List ℕ). l ++ rest) (rows_in-push moved m)
    ∙ append_assoc (rows_in moved) (m.row ∷ []) rest
    ∙ ap (λ (c : ℕ). rows_in moved ++ (c ∷ rest)) g
    ∙ ap (λ (l : List ℕ). rows_in moved ++ l) (sym e)

pub next_children : (owners : List (Option ℕ)) (at : ℕ) (moved new : List Moved) (m : Moved) (child : ℕ) (left rest : List ℕ) → AreChildren owners at (rows_in moved ++ left) → left ≡ child ∷ rest → new ≡ moved ++ m ∷ [] → m.row ≡ child → AreChildren owners at (rows_in new ++ rest)
next_children owners at moved new m child left rest are e f g = subst (AreChildren owners at) (sym (more_rows moved new m child left rest e f g)) are

pub next_deltas : (ks : List TreeMark) (at : ℕ) (moved new : List Moved) (m : Moved) → AllByRecursion (IsMoved ks at) moved → IsMoved ks at m → new ≡ moved ++ m ∷ [] → AllByRecursion (IsMoved ks at) new
next_deltas ks at moved new m h k f = subst (AllByRecursion (IsMoved ks at)) (sym f) (ByRecursion-append (IsMoved ks at) moved (m ∷ []) h (k, tt))
