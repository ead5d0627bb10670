-- What is kept of the marks, once the tree is begun and once it has grown.
use Rattle.std.proofs.Common.{◌≡◌, ℕ, zero, suc, ◌+◌, ◌<◌, ⊎_elim, true, false, List, [], ◌∷◌, ◌++◌, length, set, Option, None, Some, ◌⊎◌, inl, inr, ◌↔◌, refl, sym, ap, subst, ◌∙◌, arith}
use Rattle.std.specs.Prelude.{filter, replicate, slice_get, Contains, IsSome}
use Rattle.std.specs.Option.{SomeIff}
use Rattle.std.proofs.lemmas.Bool.{cases_Bool}
use Rattle.std.proofs.lemmas.List.{length-append, length-replicate, length_push, length-set}
use Rattle.pk_base.specs.declared.tag.Tag.{Tag}
use Rattle.entity_store.specs.declared.changes.Change.{Change}
use Rattle.list_facts.proofs.Elements.{Contains-first, Contains-later, filter_contains, map_contains}
use Rattle.pmark_tree.specs.declared.mark.TreeMark.{TreeMark}
use Rattle.pmark_tree.specs.Marks.{mark_at, is_live, parent_in, initial_of, initial_mark, child_mark, live_tags}
use Rattle.pmark_tree.specs.Trees.{IsTree}
use Rattle.pmark_tree.specs.Rows.{row_at, AreKept}
use Rattle.pmark_tree.proofs.Found.{mark_at-contained, is_live-at, parent_in-absent, there_or_not}
use Rattle.pmark_tree.proofs.Grown.{live_mark, Grows, grown, live_tags-push, initial-tree, grown-tree}
use Rattle.pmark_tree.proofs.Linked.{linked-first, linked-more, linked-grown}

pub kept-first : (rows : List TreeMark) (live : List Tag) (owners : List (Option ℕ)) (t : Tag) → rows ≡ initial_mark t ∷ [] → live ≡ t ∷ [] → owners ≡ replicate 64 None → AreKept rows live owners 64
kept-first rows live owners t e f g =
    let base : AreKept (initial_mark t ∷ []) (t ∷ []) (replicate 64 None) 64 = record {
      tree = initial-tree t;
      live = refl;
      linked = linked-first t 64;
      count = sym (length-replicate {A = Option ℕ} 64 None);
      within = omega arith;
    } in
    subst (λ r. AreKept r live owners 64) (sym e) (subst (λ l. AreKept (initial_mark t ∷ []) l owners 64) (sym f) (subst (λ o. AreKept (initial_mark t ∷ []) (t ∷ []) o 64) (sym g) base))

pub first_row : (old new : List TreeMark) (d : List Change) (t : Tag) → old ≡ [] → d ≡ [] → new ≡ old ++ record { tag = t; parent = None; live = true; delta = d } ∷ [] → new ≡ initial_mark t ∷ []
first_row old new d t e f g = g ∙ (λ i. e i ++ record { tag = t; parent = None; live = true; delta = f i } ∷ [])

pub first_of : (old new : List Tag) (t : Tag) → old ≡ [] → new ≡ old ++ t ∷ [] → new ≡ t ∷ []
first_of old new t e g = g ∙ ap (λ ts. ts ++ t ∷ []) e

pub first_slots : (old new : List (Option ℕ)) → old ≡ [] → new ≡ old ++ replicate 64 None → new ≡ replicate 64 None
first_slots old new e g = g ∙ ap (λ os. os ++ replicate 64 None) e

pub kept-more : (rows : List TreeMark) (live : List Tag) (owners : List (Option ℕ)) (slots : ℕ) → AreKept rows live owners slots → AreKept rows live (owners ++ replicate 64 None) (slots + 64)
kept-more rows live owners slots h = record {
  tree = h.tree;
  live = h.live;
  linked = linked-more rows owners 64 h.linked;
  count = let c = h.count in omega (arith, c, length-append owners (replicate 64 None), length-replicate {A = Option ℕ} 64 None);
  within = let w = h.within in omega (arith, w);
}

pub kept-grown : (rows : List TreeMark) (live : List Tag) (owners : List (Option ℕ)) (slots : ℕ) (t p : Tag) (d : List Change) (o : ℕ) → AreKept rows live owners slots → Grows rows t p d → length rows < slots → o < length rows → (row_at rows o).tag ≡ p → AreKept (grown rows t p d) (live ++ t ∷ []) (set owners (length rows) (Some o)) slots
kept-grown rows live owners slots t p d o h g room l is = record {
  tree = grown-tree rows t p d g;
  live = ap (λ ts. ts ++ t ∷ []) h.live ∙ sym (live_tags-push rows (child_mark t p d) refl);
  linked = linked-grown rows owners t p d o g h.linked (let c = h.count in omega (arith, c, room)) l is;
  count = let c = h.count in omega (arith, c, length-set owners (length rows) (Some o));
  within = omega (arith, room, length_push rows (child_mark t p d));
}

pub more_slots : (o : Option ℕ) (P : Type 0) (v x : ℕ) → SomeIff o P v → o ≡ Some x → v ≡ x
more_slots o P v x h e = let got : P × (x ≡ v) = subst (λ q. SomeIff q P v) e h in sym got.1

-- ---- a live mark at a place

contains_at : (ts : List Tag) (i : ℕ) (t : Tag) → slice_get ts i ≡ Some t → Contains ts t
contains_at [] i t e = absurd (cc)
contains_at (u ∷ ts) zero t e = subst (Contains (u ∷ ts)) (let f : u ≡ t = cc in f) (Contains-first u ts)
contains_at (u ∷ ts) (suc i) t e = Contains-later u ts t (contains_at ts i t e)

pub lives_at : (ks : List TreeMark) (i : ℕ) (t : Tag) → IsTree ks → slice_get (live_tags ks) i ≡ Some t → is_live ks t ≡ true
lives_at ks i t tree e =
    let mark = map_contains (λ (k : TreeMark). k.tag) (filter (λ (k : TreeMark). k.live) ks) t (contains_at (live_tags ks) i t e) in
    let there = filter_contains (λ (k : TreeMark). k.live) ks mark.0 mark.1 in
    subst (λ u. is_live ks u ≡ true) mark.2 (is_live-at ks mark.0.tag mark.0 (mark_at-contained ks mark.0 tree.ascend there.0) ∙ there.1)

-- ---- what is there

pub live_there : (ks : List TreeMark) (t : Tag) → is_live ks t ≡ true → IsSome (mark_at ks t)
live_there ks t h = let m = live_mark ks t h in subst IsSome (sym m.1) refl

pub child_there : (ks : List TreeMark) (t : Tag) → IsSome (parent_in ks t) → IsSome (mark_at ks t)
child_there ks t h =
    ⊎_elim {C = IsSome (mark_at ks t)} (λ (f : (k : TreeMark) × (mark_at ks t ≡ Some k)). subst IsSome (sym f.1) refl)
    (λ (n : mark_at ks t ≡ None). let bad : IsSome {T = Tag} None = subst IsSome (parent_in-absent ks t n) h in absurd (cc))
    (there_or_not ks t)

pub parent_there : (ks : List TreeMark) (t p : Tag) → IsTree ks → parent_in ks t ≡ Some p → IsSome (mark_at ks p)
parent_there ks t p tree e = live_there ks p (tree.edges p t e).parent_lives

-- ---- where there is no parent

pub without_parent : (ks : List TreeMark) (t : Tag) → IsTree ks → (parent_in ks t ≡ None) ↔ ((is_live ks t ≡ false) ⊎ (initial_of ks ≡ Some t))
without_parent ks t tree = (
  λ e. ⊎_elim {C = (is_live ks t ≡ false) ⊎ (initial_of ks ≡ Some t)} (λ (l : is_live ks t ≡ true). inr (tree.root t l e)) (λ (d : is_live ks t ≡ false). inl d) (cases_Bool (is_live ks t)),
  λ s. ⊎_elim (λ (d : is_live ks t ≡ false).
      elim (parent_in ks t) as (λ o. parent_in ks t ≡ o → o ≡ None) [
        | None ↦ λ e. refl
        | Some p ↦ λ e. let bad : false ≡ true = sym d ∙ (tree.edges p t e).lives in absurd (cc)
      ] refl)
      (λ (f : initial_of ks ≡ Some t). (tree.initial t f).1)
      s,
)
