-- Along the tree: what a store has once the changes of marks are applied one behind the other, and how many they are.
use Rattle.std.proofs.Common.{◌≡◌, ℕ, ◌+◌, ◌<◌, true, false, Bool, List, [], ◌∷◌, drop, length, get_or, refl, sym, ap, subst, ◌∙◌}
use Rattle.std.specs.Prelude.{IsSome}
use Rattle.std.specs.List.{AllByRecursion}
use Rattle.std.proofs.lemmas.List.{drop_more}
use Rattle.std.proofs.lemmas.List.Sums.{sum_by-drop_more}
use Rattle.pk_base.specs.declared.tag.Tag.{Tag}
use Rattle.pk_model.specs.Maps.{EntityMap}
use Rattle.pk_model.specs.State.{Mark}
use Rattle.delta.specs.Deltas.{after, in_direction, inverse}
use Rattle.delta.proofs.Leads.{after-inverse}
use Rattle.pmark_tree.specs.declared.mark.TreeMark.{TreeMark}
use Rattle.pmark_tree.specs.Marks.{delta_in, parent_in}
use Rattle.pmark_tree.specs.Maps.{map_of, whole_marks}
use Rattle.pmark_tree.specs.Paths.{Climbs, Descends}
use Rattle.pmark_tree.specs.Trees.{IsTree}
use Rattle.partition.specs.Contents.{AreHosted}
use Rattle.partition.specs.Goes.{MayApply, MayWalk, entries_in, walked}
use Rattle.partition.proofs.Ours.{hosted_live, may_apply, may_undo}

module _ (blocks : List ℕ) (ks : List TreeMark) (tree : IsTree ks) (hosted : AllByRecursion (λ (k : Mark). AreHosted blocks k.map) (whole_marks ks)) where
  pub climbs_to : (from : Tag) (ts : List Tag) (top : Tag) (m : EntityMap) → m ≡ map_of ks from → Climbs (parent_in ks) from ts top → MayWalk blocks ks false m ts × (walked ks false m ts ≡ map_of ks top)
  climbs_to from [] top m is e = (tt, is ∙ ap (map_of ks) e)
  climbs_to from (t ∷ ts) top m is h =
      let p = h.1.0 in
      let edge = tree.edges p t h.1.1.0 in
      let d = delta_in ks t in
      let here : m ≡ map_of ks t = is ∙ ap (map_of ks) h.0 in
      let back : after m (inverse d) ≡ map_of ks p = ap (λ n. after n (inverse d)) (here ∙ sym edge.leads) ∙ after-inverse (map_of ks p) d edge.changes.ascend edge.starts in
      let undo : MayApply blocks false m d = subst (λ n. MayApply blocks false n d) (sym here) (may_undo blocks (map_of ks p) (map_of ks t) (hosted_live blocks ks p hosted edge.parent_lives) (hosted_live blocks ks t hosted edge.lives) d edge.changes edge.starts edge.leads) in
      let some : IsSome (parent_in ks t) = subst IsSome (sym h.1.1.0) refl in
      let rest = climbs_to p ts top (after m (inverse d)) back h.1.1.1 in
      ((some, (undo, rest.0)), rest.1)

  pub descends_to : (from : Tag) (ts : List Tag) (to : Tag) (m : EntityMap) → m ≡ map_of ks from → Descends (parent_in ks) from ts to → MayWalk blocks ks true m ts × (walked ks true m ts ≡ map_of ks to)
  descends_to from [] to m is e = (tt, is ∙ ap (map_of ks) e)
  descends_to from (t ∷ ts) to m is h =
      let edge = tree.edges from t h.0 in
      let d = delta_in ks t in
      let next : after m d ≡ map_of ks t = ap (λ n. after n d) is ∙ edge.leads in
      let may : MayApply blocks true m d = subst (λ n. MayApply blocks true n d) (sym is) (may_apply blocks (map_of ks from) (map_of ks t) (hosted_live blocks ks from hosted edge.parent_lives) (hosted_live blocks ks t hosted edge.lives) d edge.changes edge.starts edge.leads) in
      let some : IsSome (parent_in ks t) = subst IsSome (sym h.0) refl in
      let rest = descends_to t ts to (after m d) next h.1 in
      ((some, (may, rest.0)), rest.1)

pub climbs-parents : (ks : List TreeMark) (from : Tag) (ts : List Tag) (top : Tag) → Climbs (parent_in ks) from ts top → AllByRecursion (λ t. IsSome (parent_in ks t)) ts
climbs-parents ks from [] top h = tt
climbs-parents ks from (t ∷ ts) top h = (subst IsSome (sym h.1.1.0) refl, climbs-parents ks h.1.0 ts top h.1.1.1)

pub descends-parents : (ks : List TreeMark) (from : Tag) (ts : List Tag) (to : Tag) → Descends (parent_in ks) from ts to → AllByRecursion (λ t. IsSome (parent_in ks t)) ts
descends-parents ks from [] to h = tt
descends-parents ks from (t ∷ ts) to h = (subst IsSome (sym h.0) refl, descends-parents ks t ts to h.1)

-- ---- one mark more

pub entries-next : (ks : List TreeMark) (ts : List Tag) (i : ℕ) (d : Tag) → i < length ts → entries_in ks (drop i ts) ≡ length (delta_in ks (get_or ts i d)) + entries_in ks (drop (i + 1) ts)
entries-next ks ts i d h = sum_by-drop_more (λ (t : Tag). length (delta_in ks t)) ts i d h

pub walked-next : (ks : List TreeMark) (forward : Bool) (m : EntityMap) (ts : List Tag) (i : ℕ) (d : Tag) → i < length ts → walked ks forward m (drop i ts) ≡ walked ks forward (after m (in_direction forward (delta_in ks (get_or ts i d)))) (drop (i + 1) ts)
walked-next ks forward m ts i d h = ap (walked ks forward m) (drop_more ts i d h)

-- what may be done at the next mark, and behind it
pub record MayGoOn (blocks : List ℕ) (ks : List TreeMark) (forward : Bool) (m : EntityMap) (t : Tag) (rest : List Tag) : Type 0 where
  pub parent : IsSome (parent_in ks t)
  pub may : MayApply blocks forward m (delta_in ks t)
  pub further : MayWalk blocks ks forward (after m (in_direction forward (delta_in ks t))) rest

pub walk-next : (blocks : List ℕ) (ks : List TreeMark) (forward : Bool) (m : EntityMap) (ts : List Tag) (i : ℕ) (d : Tag) → i < length ts → MayWalk blocks ks forward m (drop i ts) → MayGoOn blocks ks forward m (get_or ts i d) (drop (i + 1) ts)
walk-next blocks ks forward m ts i d h walks =
    let here = subst (MayWalk blocks ks forward m) (drop_more ts i d h) walks in
    record { parent = here.0; may = here.1.0; further = here.1.1 }
