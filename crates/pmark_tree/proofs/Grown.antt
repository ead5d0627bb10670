-- A tree with one mark more.
use Rattle.std.proofs.Common.{◌≡◌, ◌≢◌, ◌<◌, ⊎_elim, true, false, cond, List, [], ◌∷◌, ◌++◌, Option, None, Some, refl, sym, ap, subst, ◌∙◌}
use Rattle.std.specs.Prelude.{map, filter}
use Rattle.std.specs.List.{AllByRecursion}
use Rattle.std.specs.FinMap.{empty}
use Rattle.std.proofs.lemmas.List.{map-append}
use Rattle.pk_base.specs.Entity.{same_tag}
use Rattle.pk_base.specs.declared.tag.Tag.{Tag}
use Rattle.pk_base.proofs.Same.{same_or_other}
use Rattle.pk_model.specs.Tags.{TagsAscend}
use Rattle.pk_model.specs.State.{Mark}
use Rattle.list_facts.proofs.Each.{ByRecursion-append, ByRecursion-at}
use Rattle.entity_store.specs.declared.changes.Change.{Change}
use Rattle.entity_store.specs.Changes.{AreChanges}
use Rattle.delta.specs.Deltas.{StartsAt, after}
use Rattle.pmark_tree.specs.declared.mark.TreeMark.{TreeMark}
use Rattle.pmark_tree.specs.Marks.{mark_at, is_live, parent_in, delta_in, initial_of, initial_mark, child_mark, live_tags}
use Rattle.pmark_tree.specs.Maps.{map_of, whole_mark, whole_marks}
use Rattle.pmark_tree.specs.Trees.{IsEdge, IsTree}
use Rattle.pmark_tree.proofs.Found.{tags_of, below_other, mark_at-first, mark_at-later, mark_at-found, is_live-at, is_live-absent, parent_in-at, parent_in-absent, delta_in-at, delta_in-absent, there_or_not}
use Rattle.pmark_tree.proofs.WholeMaps.{map_of-older, map_of-newest, map_of-loose}

-- ---- what is live, has a parent, or is the initial one is there

pub live_mark : (ks : List TreeMark) (t : Tag) → is_live ks t ≡ true → (k : TreeMark) × (mark_at ks t ≡ Some k) × (k.live ≡ true)
live_mark ks t h =
    ⊎_elim {C = (k : TreeMark) × (mark_at ks t ≡ Some k) × (k.live ≡ true)} (λ (f : (k : TreeMark) × (mark_at ks t ≡ Some k)). (f.0, f.1, sym (is_live-at ks t f.0 f.1) ∙ h))
    (λ (n : mark_at ks t ≡ None). let bad : false ≡ true = sym (is_live-absent ks t n) ∙ h in absurd (cc))
    (there_or_not ks t)

abbrev pub AreBelow : Tag → List TreeMark → Type 0
AreBelow t ks = AllByRecursion (λ (k : TreeMark). k.tag.0 < t.0) ks

pub below_found : (ks : List TreeMark) (t u : Tag) (k : TreeMark) → AreBelow t ks → mark_at ks u ≡ Some k → u.0 < t.0
below_found ks t u k h at =
    let found = mark_at-found ks u k at in
    subst (λ (x : Tag). x.0 < t.0) found.tag (ByRecursion-at (λ (j : TreeMark). j.tag.0 < t.0) ks k h found.there)

pub below_live : (ks : List TreeMark) (t u : Tag) → AreBelow t ks → is_live ks u ≡ true → u.0 < t.0
below_live ks t u h l = let m = live_mark ks u l in below_found ks t u m.0 h m.1

-- ---- the marks

pub mark_at-other : (ks : List TreeMark) (k : TreeMark) (u : Tag) → k.tag ≢ u → mark_at (ks ++ k ∷ []) u ≡ mark_at ks u
mark_at-other [] k u n = mark_at-later k [] u n
mark_at-other (j ∷ ks) k u n = ap (cond (same_tag j.tag u) (Some j)) (mark_at-other ks k u n)

pub mark_at-new : (ks : List TreeMark) (k : TreeMark) → AreBelow k.tag ks → mark_at (ks ++ k ∷ []) k.tag ≡ Some k
mark_at-new [] k h = mark_at-first k [] k.tag refl
mark_at-new (j ∷ ks) k h = mark_at-later j (ks ++ k ∷ []) k.tag (below_other j.tag k.tag h.0) ∙ mark_at-new ks k h.1

TagsAscend-push : (ks : List TreeMark) (k : TreeMark) → TagsAscend (tags_of ks) → AreBelow k.tag ks → TagsAscend (tags_of (ks ++ k ∷ []))
TagsAscend-push [] k h l = (tt, tt)
TagsAscend-push (j ∷ ks) k h l =
    (subst (AllByRecursion (λ (u : Tag). j.tag.0 < u.0)) (sym (map-append (λ (i : TreeMark). i.tag) ks (k ∷ []))) (ByRecursion-append (λ (u : Tag). j.tag.0 < u.0) (tags_of ks) (k.tag ∷ []) h.0 (l.0, tt)), TagsAscend-push ks k h.1 l.1)

pub live_tags-push : (ks : List TreeMark) (k : TreeMark) → k.live ≡ true → live_tags (ks ++ k ∷ []) ≡ live_tags ks ++ k.tag ∷ []
live_tags-push [] k e = ap (λ b. map (λ (j : TreeMark). j.tag) (cond b (k ∷ []) [])) e
live_tags-push (j ∷ ks) k e =
    elim j.live as (λ b. map (λ (i : TreeMark). i.tag) (cond b (j ∷ filter (λ (i : TreeMark). i.live) (ks ++ k ∷ [])) (filter (λ (i : TreeMark). i.live) (ks ++ k ∷ []))) ≡ map (λ (i : TreeMark). i.tag) (cond b (j ∷ filter (λ (i : TreeMark). i.live) ks) (filter (λ (i : TreeMark). i.live) ks)) ++ k.tag ∷ []) [
      | true ↦ ap (λ ts. j.tag ∷ ts) (live_tags-push ks k e)
      | false ↦ live_tags-push ks k e
    ]

initial_of-push : (ks : List TreeMark) (k j : TreeMark) (t : Tag) → mark_at ks t ≡ Some j → initial_of (ks ++ k ∷ []) ≡ initial_of ks
initial_of-push [] k j t at = absurd (cc)
initial_of-push (i ∷ ks) k j t at = refl

initial_there : (ks : List TreeMark) (t : Tag) → initial_of ks ≡ Some t → (k : TreeMark) × (mark_at ks t ≡ Some k)
initial_there [] t e = absurd (cc)
initial_there (k ∷ ks) t e = (k, mark_at-first k ks t (let f : k.tag ≡ t = cc in f))

-- ---- the tree

pub record Grows (ks : List TreeMark) (t p : Tag) (d : List Change) : Type 0 where
  pub tree : IsTree ks
  pub newest : AreBelow t ks
  pub parent : is_live ks p ≡ true
  pub changes : AreChanges d
  pub starts : StartsAt (map_of ks p) d

abbrev pub grown : List TreeMark → Tag → Tag → List Change → List TreeMark
grown ks t p d = ks ++ child_mark t p d ∷ []

-- ---- a mark that was there before

is_live-before : (ks : List TreeMark) (t p : Tag) (d : List Change) (u : Tag) → t ≢ u → is_live (grown ks t p d) u ≡ is_live ks u
is_live-before ks t p d u n = ap (λ (o : Option TreeMark). elim o [ None ↦ false | Some j ↦ j.live ]) (mark_at-other ks (child_mark t p d) u n)

parent_in-before : (ks : List TreeMark) (t p : Tag) (d : List Change) (u : Tag) → t ≢ u → parent_in (grown ks t p d) u ≡ parent_in ks u
parent_in-before ks t p d u n = ap (λ (o : Option TreeMark). elim o [ None ↦ None | Some j ↦ j.parent ]) (mark_at-other ks (child_mark t p d) u n)

delta_in-before : (ks : List TreeMark) (t p : Tag) (d : List Change) (u : Tag) → t ≢ u → delta_in (grown ks t p d) u ≡ delta_in ks u
delta_in-before ks t p d u n = ap (λ (o : Option TreeMark). elim o [ None ↦ [] | Some j ↦ j.delta ]) (mark_at-other ks (child_mark t p d) u n)

map_of-before : (ks : List TreeMark) (t p : Tag) (d : List Change) (u : Tag) → u ≢ t → map_of (grown ks t p d) u ≡ map_of ks u
map_of-before ks t p d u n = map_of-older ks (child_mark t p d) u n

above_other : (u t : Tag) → u.0 < t.0 → t ≢ u
above_other u t l e = below_other u t l (sym e)

edge-before : (ks : List TreeMark) (t p : Tag) (d : List Change) (q u : Tag) → AreBelow t ks → IsEdge ks q u → IsEdge (grown ks t p d) q u
edge-before ks t p d q u newest e =
    let low = below_live ks t u newest e.lives in
    let lower = below_live ks t q newest e.parent_lives in
    let changes = delta_in-before ks t p d u (above_other u t low) in
    let from = map_of-before ks t p d q (below_other q t lower) in
    record {
      older = e.older;
      parent_lives = is_live-before ks t p d q (above_other q t lower) ∙ e.parent_lives;
      lives = is_live-before ks t p d u (above_other u t low) ∙ e.lives;
      changes = subst AreChanges (sym changes) e.changes;
      starts = subst (λ m. StartsAt m (delta_in (grown ks t p d) u)) (sym from) (subst (StartsAt (map_of ks q)) (sym changes) e.starts);
      leads = (λ i. after (from i) (changes i)) ∙ e.leads ∙ sym (map_of-before ks t p d u (below_other u t low));
    }

-- ---- the new mark

edge-new : (ks : List TreeMark) (t p : Tag) (d : List Change) → Grows ks t p d → IsEdge (grown ks t p d) p t
edge-new ks t p d h =
    let k = child_mark t p d in
    let older = below_live ks t p h.newest h.parent in
    let at = mark_at-new ks k h.newest in
    let changes : delta_in (grown ks t p d) t ≡ d = delta_in-at (grown ks t p d) t k at in
    let from = map_of-before ks t p d p (below_other p t older) in
    record {
      older = older;
      parent_lives = is_live-before ks t p d p (above_other p t older) ∙ h.parent;
      lives = is_live-at (grown ks t p d) t k at;
      changes = subst AreChanges (sym changes) h.changes;
      starts = subst (λ m. StartsAt m (delta_in (grown ks t p d) t)) (sym from) (subst (StartsAt (map_of ks p)) (sym changes) h.starts);
      leads = (λ i. after (from i) (changes i)) ∙ sym (map_of-newest ks k p refl);
    }

parent-new : (ks : List TreeMark) (t p : Tag) (d : List Change) → AreBelow t ks → parent_in (grown ks t p d) t ≡ Some p
parent-new ks t p d h = parent_in-at (grown ks t p d) t (child_mark t p d) (mark_at-new ks (child_mark t p d) h)

pub some_is : (o : Option Tag) (p q : Tag) → o ≡ Some p → o ≡ Some q → p ≡ q
some_is o p q e f = let g : Some p ≡ Some q = sym e ∙ f in cc

pub not_none : (o : Option Tag) (p : Tag) → o ≡ Some p → o ≡ None → ⊥
not_none o p e f = let g : Some p ≡ None = sym e ∙ f in absurd (cc)

-- ---- the tree

-- the initial mark is the same one
initial-same : (ks : List TreeMark) (t p : Tag) (d : List Change) → is_live ks p ≡ true → initial_of (grown ks t p d) ≡ initial_of ks
initial-same ks t p d h = let m = live_mark ks p h in initial_of-push ks (child_mark t p d) m.0 p m.1

initial_other : (ks : List TreeMark) (t u : Tag) → AreBelow t ks → initial_of ks ≡ Some u → t ≢ u
initial_other ks t u h e = let m = initial_there ks u e in above_other u t (below_found ks t u m.0 h m.1)

pub grown-tree : (ks : List TreeMark) (t p : Tag) (d : List Change) → Grows ks t p d → IsTree (grown ks t p d)
grown-tree ks t p d h =
    let first = initial-same ks t p d h.parent in
    let new = parent-new ks t p d h.newest in
    record {
      ascend = TagsAscend-push ks (child_mark t p d) h.tree.ascend h.newest;
      edges = λ q u e.
          ⊎_elim {C = IsEdge (grown ks t p d) q u} (λ (s : t ≡ u).
          let is : q ≡ p = some_is (parent_in (grown ks t p d) u) q p e (subst (λ x. parent_in (grown ks t p d) x ≡ Some p) s new) in
          subst (λ x. IsEdge (grown ks t p d) x u) (sym is) (subst (IsEdge (grown ks t p d) p) s (edge-new ks t p d h)))
          (λ (n : t ≢ u). edge-before ks t p d q u h.newest (h.tree.edges q u (sym (parent_in-before ks t p d u n) ∙ e)))
          (same_or_other t u);
      loose = λ u e.
          ⊎_elim (λ (s : t ≡ u). absurd (not_none (parent_in (grown ks t p d) u) p (subst (λ x. parent_in (grown ks t p d) x ≡ Some p) s new) e))
          (λ (n : t ≢ u). delta_in-before ks t p d u n ∙ h.tree.loose u (sym (parent_in-before ks t p d u n) ∙ e))
          (same_or_other t u);
      initial = λ u e.
          let was : initial_of ks ≡ Some u = sym first ∙ e in
          let n = initial_other ks t u h.newest was in
          let old = h.tree.initial u was in
          (is_live-before ks t p d u n ∙ old.0, parent_in-before ks t p d u n ∙ old.1);
      root = λ u l e.
          ⊎_elim (λ (s : t ≡ u). absurd (not_none (parent_in (grown ks t p d) u) p (subst (λ x. parent_in (grown ks t p d) x ≡ Some p) s new) e))
          (λ (n : t ≢ u). first ∙ h.tree.root u (sym (is_live-before ks t p d u n) ∙ l) (sym (parent_in-before ks t p d u n) ∙ e))
          (same_or_other t u);
    }

-- ---- the whole marks

same_wholes : (ks all : List TreeMark) (t p : Tag) (d : List Change) → AreBelow t ks → map (whole_mark (grown all t p d)) ks ≡ map (whole_mark all) ks
same_wholes [] all t p d h = refl
same_wholes (k ∷ ks) all t p d h =
    λ i. record { tag = k.tag; parent = k.parent; map = map_of-before all t p d k.tag (below_other k.tag t h.0) i; live = k.live } ∷ same_wholes ks all t p d h.1 i

pub grown-whole : (ks : List TreeMark) (t p : Tag) (d : List Change) → AreBelow t ks → whole_marks (grown ks t p d) ≡ whole_marks ks ++ record { tag = t; parent = Some p; map = after (map_of ks p) d; live = true } ∷ []
grown-whole ks t p d h =
    let k = child_mark t p d in
    let new : List Mark → List Mark = λ ms. ms ++ whole_mark (grown ks t p d) k ∷ [] in
    map-append (whole_mark (grown ks t p d)) ks (k ∷ [])
    ∙ ap new (same_wholes ks ks t p d h)
    ∙ (λ i. whole_marks ks ++ record { tag = t; parent = Some p; map = map_of-newest ks k p refl i; live = true } ∷ [])

-- ---- the first tree

one_mark : (t u : Tag) → u ≢ t → mark_at (initial_mark t ∷ []) u ≡ None
one_mark t u n = mark_at-later (initial_mark t) [] u (λ e. n (sym e))

pub initial-tree : (t : Tag) → IsTree (initial_mark t ∷ [])
initial-tree t =
    let ks = initial_mark t ∷ [] in
    let at = mark_at-first (initial_mark t) [] t refl in
    let alone : (u : Tag) → parent_in ks u ≡ None = λ u.
    ⊎_elim (λ (s : u ≡ t). subst (λ x. parent_in ks x ≡ None) (sym s) (parent_in-at ks t (initial_mark t) at))
    (λ (n : u ≢ t). parent_in-absent ks u (one_mark t u n))
    (same_or_other u t) in
    record {
      ascend = (tt, tt);
      edges = λ q u e. absurd (not_none (parent_in ks u) q e (alone u));
      loose = λ u e.
          ⊎_elim (λ (s : u ≡ t). subst (λ x. delta_in ks x ≡ []) (sym s) (delta_in-at ks t (initial_mark t) at))
          (λ (n : u ≢ t). delta_in-absent ks u (one_mark t u n))
          (same_or_other u t);
      initial = λ u e. (subst (λ x. is_live ks x ≡ true) (let f : t ≡ u = cc in f) (is_live-at ks t (initial_mark t) at), alone u);
      root = λ u l e.
          ⊎_elim (λ (s : u ≡ t). ap Some (sym s))
          (λ (n : u ≢ t). let bad : false ≡ true = sym (is_live-absent ks u (one_mark t u n)) ∙ l in absurd (cc))
          (same_or_other u t);
    }

pub initial-whole : (t : Tag) → whole_marks (initial_mark t ∷ []) ≡ record { tag = t; parent = None; map = empty; live = true } ∷ []
initial-whole t = λ i. record { tag = t; parent = None; map = map_of-loose (initial_mark t ∷ []) t (initial_mark t) (tt, tt) (mark_at-first (initial_mark t) [] t refl) refl refl i; live = true } ∷ []
