-- What is kept of the marks, once one of them is removed.
use Rattle.std.proofs.Common.{◌≡◌, ℕ, ◌<◌, ◌≤◌, true, false, not, cond, List, [], ◌∷◌, length, set, Option, None, Some, sym, ap, subst, ◌∙◌, arith}
use Rattle.std.specs.Prelude.{map, filter, Contains}
use Rattle.std.specs.List.{AllByRecursion}
use Rattle.std.proofs.lemmas.List.{length-set, length-map}
use Rattle.pk_base.specs.Entity.{same_tag}
use Rattle.pk_base.specs.declared.tag.Tag.{Tag}
use Rattle.pk_model.specs.Tags.{TagsAscend}
use Rattle.list_facts.proofs.Elements.{Contains-map, Contains-filter}
use Rattle.pmark_tree.specs.declared.mark.TreeMark.{TreeMark}
use Rattle.pmark_tree.specs.declared.remove.Moved.{Moved}
use Rattle.pmark_tree.specs.Marks.{is_live, parent_in, after_removal, live_tags}
use Rattle.pmark_tree.specs.Trees.{IsTree}
use Rattle.pmark_tree.specs.Rows.{row_at, AreKept}
use Rattle.pmark_tree.specs.Removal.{rows_in, AreMoved, owned_by}
use Rattle.pmark_tree.proofs.Found.{tags_of, mark_at-found}
use Rattle.pmark_tree.proofs.Grown.{live_mark}
use Rattle.pmark_tree.proofs.Removed.{removal, removed-tree, live-removed}
use Rattle.pmark_tree.proofs.Handed.{Removes, linked-removed, length-owned_by}

-- ---- the live tags

above_live : (t : Tag) (ks : List TreeMark) → AllByRecursion (λ (u : Tag). t.0 < u.0) (tags_of ks) → AllByRecursion (λ (u : Tag). t.0 < u.0) (live_tags ks)
above_live t [] h = tt
above_live t (k ∷ ks) h =
    let rest = above_live t ks h.1 in
    elim k.live as (λ b. AllByRecursion (λ (u : Tag). t.0 < u.0) (map (λ (j : TreeMark). j.tag) (cond b (k ∷ filter (λ (j : TreeMark). j.live) ks) (filter (λ (j : TreeMark). j.live) ks)))) [
      | true ↦ (h.0, rest)
      | false ↦ rest
    ]

pub live_ascend : (ks : List TreeMark) → TagsAscend (tags_of ks) → TagsAscend (live_tags ks)
live_ascend [] h = tt
live_ascend (k ∷ ks) h =
    let rest = live_ascend ks h.1 in
    elim k.live as (λ b. TagsAscend (map (λ (j : TreeMark). j.tag) (cond b (k ∷ filter (λ (j : TreeMark). j.live) ks) (filter (λ (j : TreeMark). j.live) ks)))) [
      | true ↦ (above_live k.tag ks h.0, rest)
      | false ↦ rest
    ]

pub live_contains : (ks : List TreeMark) (t : Tag) → is_live ks t ≡ true → Contains (live_tags ks) t
live_contains ks t h =
    let m = live_mark ks t h in
    let found = mark_at-found ks t m.0 m.1 in
    subst (Contains (live_tags ks)) found.tag (Contains-map (λ (k : TreeMark). k.tag) (filter (λ (k : TreeMark). k.live) ks) m.0 (Contains-filter (λ (k : TreeMark). k.live) ks m.0 found.there m.2))

-- ---- the removal

module _ (ks : List TreeMark) (tags : List Tag) (owners : List (Option ℕ)) (slots : ℕ) (t p : Tag) (row owner : ℕ) (moved : List Moved) (kept : AreKept ks tags owners slots) (h : Removes ks t p row owner moved) where
  pub room : length ks ≤ length owners
  room = let c = kept.count in let w = kept.within in omega (arith, c, w)

  pub kept-removed : AreKept (removal ks t) (filter (λ u. not (same_tag u t)) tags) (set (owned_by owner (rows_in moved) owners) row None) slots
  kept-removed = record {
    tree = removed-tree ks t p h.may;
    live = ap (filter (λ u. not (same_tag u t))) kept.live ∙ sym (live-removed ks t p h.may ks);
    linked = linked-removed ks t p row owner moved h owners kept.linked room;
    count = kept.count ∙ sym (length-owned_by owner (rows_in moved) owners) ∙ sym (length-set (owned_by owner (rows_in moved) owners) row None);
    within = subst (λ n. n ≤ slots) (sym (length-map ks (after_removal ks t))) kept.within;
  }

  lives : is_live ks t ≡ true
  lives = (h.may.tree.edges p t h.may.parent).lives

  pub tags_ascend : TagsAscend tags
  tags_ascend = subst TagsAscend (sym kept.live) (live_ascend ks kept.tree.ascend)

  pub tags_contain : Contains tags t
  tags_contain = subst (λ l. Contains l t) (sym kept.live) (live_contains ks t lives)

-- ---- what is found on the way to a removal

pub all_found : (ks : List TreeMark) (t p : Tag) (row owner : ℕ) (moved : List Moved) (ka kb kc kd : List TreeMark) → IsTree ks → ka ≡ ks → kb ≡ ks → kc ≡ ks → kd ≡ ks → parent_in ka t ≡ Some p → row < length kb → (row_at kb row).tag ≡ t → owner < length kc → (row_at kc owner).tag ≡ p → AreMoved kd row moved → Removes ks t p row owner moved
all_found ks t p row owner moved ka kb kc kd tree a b c d parent within is above above_is are = record {
  may = record { tree = tree; parent = subst (λ l. parent_in l t ≡ Some p) a parent };
  within = subst (λ (l : List TreeMark). row < length l) b within;
  tag = subst (λ l. (row_at l row).tag ≡ t) b is;
  above = subst (λ (l : List TreeMark). owner < length l) c above;
  above_tag = subst (λ l. (row_at l owner).tag ≡ p) c above_is;
  are = subst (λ l. AreMoved l row moved) d are;
}
