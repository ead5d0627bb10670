use Rattle.std.proofs.Common.{◌≡◌, ◌<◌, ◌∷◌, ◌++◌, [], List, true, refl, sym, subst, ◌∙◌, arith}
use Rattle.std.specs.List.{AllByRecursion}
use Rattle.pk_base.specs.Blocks.{tag}
use Rattle.pk_base.specs.declared.tag.Tag.{Tag}
use Rattle.entity_store.specs.declared.changes.Change.{Change}
use Rattle.delta.specs.Deltas.{StartsAt}
use Rattle.pmark_tree.specs.declared.mark.TreeMark.{TreeMark}
use Rattle.pmark_tree.specs.Marks.{child_mark, initial_mark, is_live}
use Rattle.pmark_tree.specs.Maps.{map_of}
use Rattle.base_uses.proofs.tests.trees.four_marks.Goals as goal

-- the marks after none, one and two were added
abbrev one : List TreeMark
one = initial_mark (tag 64) ∷ []

abbrev two : List TreeMark
two = one ++ child_mark (tag 70) (tag 64) [] ∷ []

abbrev three : List TreeMark
three = two ++ child_mark (tag 76) (tag 70) [] ∷ []

-- one more, with no change
grown : (ks new known : List TreeMark) (t p : Tag) (d : List Change) → new ≡ ks ++ child_mark t p d ∷ [] → ks ≡ known → d ≡ [] → new ≡ known ++ child_mark t p [] ∷ []
grown ks new known t p d is same none = is ∙ (λ i. same i ++ child_mark t p (none i) ∷ [])

below : (ks known : List TreeMark) (n : Tag) → ks ≡ known → AllByRecursion (λ (k : TreeMark). k.tag.0 < n.0) known → AllByRecursion (λ (k : TreeMark). k.tag.0 < n.0) ks
below ks known n same h = subst (AllByRecursion (λ (k : TreeMark). k.tag.0 < n.0)) (sym same) h

lives : (ks known : List TreeMark) (t : Tag) → ks ≡ known → is_live known t ≡ true → is_live ks t ≡ true
lives ks known t same h = subst (λ l. is_live l t ≡ true) (sym same) h

no_change : (ks : List TreeMark) (t : Tag) (d : List Change) → d ≡ [] → StartsAt (map_of ks t) d
no_change ks t d none = subst (StartsAt (map_of ks t)) (sym none) tt

-- ---- the first mark more

pub add-requires-clause-newest : goal.add-requires-clause-newest
add-requires-clause-newest c =
    let m1 = c.in_ok-reserve.ensures.marks ∙ c.in_ok-tree.ensures.marks in
    below _ one (tag 70) m1 (omega arith, tt)

pub add-requires-clause-parent : goal.add-requires-clause-parent
add-requires-clause-parent c =
    let m1 = c.in_ok-reserve.ensures.marks ∙ c.in_ok-tree.ensures.marks in
    lives _ one (tag 64) m1 refl

pub add-requires-clause-starts : goal.add-requires-clause-starts
add-requires-clause-starts c = no_change _ (tag 64) _ c.empty.ensures

-- ---- the second

pub add-requires-2-clause-newest : goal.add-requires-2-clause-newest
add-requires-2-clause-newest c =
    let m1 = c.in_ok-reserve.ensures.marks ∙ c.in_ok-tree.ensures.marks in
    let m2 = c.in_ok-reserve-2.ensures.marks ∙ grown _ _ one (tag 70) (tag 64) _ c.add.ensures.marks m1 c.empty.ensures in
    below _ two (tag 76) m2 (omega arith, (omega arith, tt))

pub add-requires-2-clause-parent : goal.add-requires-2-clause-parent
add-requires-2-clause-parent c =
    let m1 = c.in_ok-reserve.ensures.marks ∙ c.in_ok-tree.ensures.marks in
    let m2 = c.in_ok-reserve-2.ensures.marks ∙ grown _ _ one (tag 70) (tag 64) _ c.add.ensures.marks m1 c.empty.ensures in
    lives _ two (tag 70) m2 refl

pub add-requires-2-clause-starts : goal.add-requires-2-clause-starts
add-requires-2-clause-starts c = no_change _ (tag 70) _ c.empty-2.ensures

-- ---- the third

pub add-requires-3-clause-newest : goal.add-requires-3-clause-newest
add-requires-3-clause-newest c =
    let m1 = c.in_ok-reserve.ensures.marks ∙ c.in_ok-tree.ensures.marks in
    let m2 = c.in_ok-reserve-2.ensures.marks ∙ grown _ _ one (tag 70) (tag 64) _ c.add.ensures.marks m1 c.empty.ensures in
    let m3 = c.in_ok-reserve-3.ensures.marks ∙ grown _ _ two (tag 76) (tag 70) _ c.add-2.ensures.marks m2 c.empty-2.ensures in
    below _ three (tag 82) m3 (omega arith, (omega arith, (omega arith, tt)))

pub add-requires-3-clause-parent : goal.add-requires-3-clause-parent
add-requires-3-clause-parent c =
    let m1 = c.in_ok-reserve.ensures.marks ∙ c.in_ok-tree.ensures.marks in
    let m2 = c.in_ok-reserve-2.ensures.marks ∙ grown _ _ one (tag 70) (tag 64) _ c.add.ensures.marks m1 c.empty.ensures in
    let m3 = c.in_ok-reserve-3.ensures.marks ∙ grown _ _ two (tag 76) (tag 70) _ c.add-2.ensures.marks m2 c.empty-2.ensures in
    lives _ three (tag 70) m3 refl

pub add-requires-3-clause-starts : goal.add-requires-3-clause-starts
add-requires-3-clause-starts c = no_change _ (tag 70) _ c.empty-3.ensures

-- ---- all four

pub returns : goal.returns
returns c =
    let m1 = c.in_ok-reserve.ensures.marks ∙ c.in_ok-tree.ensures.marks in
    let m2 = c.in_ok-reserve-2.ensures.marks ∙ grown _ _ one (tag 70) (tag 64) _ c.add.ensures.marks m1 c.empty.ensures in
    let m3 = c.in_ok-reserve-3.ensures.marks ∙ grown _ _ two (tag 76) (tag 70) _ c.add-2.ensures.marks m2 c.empty-2.ensures in
    grown _ _ three (tag 82) (tag 70) _ c.add-3.ensures.marks m3 c.empty-3.ensures
