-- A tree without one of its marks.
use Rattle.std.proofs.Common.{◌≡◌, ◌≢◌, ℕ, zero, suc, ◌<◌, ◌⊎◌, inl, inr, ⊎_elim, true, false, not, cond, Bool, List, [], ◌∷◌, Option, None, Some, refl, sym, ap, subst, ◌∙◌, arith}
use Rattle.std.specs.Prelude.{map, filter}
use Rattle.std.specs.FinMap.{empty}
use Rattle.std.proofs.lemmas.Bool.{cases_Bool}
use Rattle.pk_base.specs.Entity.{same_tag, same_optional}
use Rattle.pk_base.specs.declared.tag.Tag.{Tag}
use Rattle.pk_base.proofs.Same.{same_itself, not_same, same_or_other, same_optional-Decides}
use Rattle.pk_model.specs.Tags.{TagsAscend}
use Rattle.pk_model.specs.Maps.{EntityMap}
use Rattle.pk_model.specs.Step.{after_deletion, deleted_mark}
use Rattle.entity_store.specs.declared.changes.Change.{Change}
use Rattle.entity_store.specs.Changes.{AreChanges}
use Rattle.delta.specs.Deltas.{StartsAt, after}
use Rattle.delta.specs.Composed.{composed}
use Rattle.delta.proofs.Leads.{StartsAt-net_changes, after-net_changes}
use Rattle.delta.proofs.Merged.{AreChanges-composed, composed-net}
use Rattle.pmark_tree.specs.declared.mark.TreeMark.{TreeMark}
use Rattle.pmark_tree.specs.Marks.{mark_at, is_live, parent_in, delta_in, initial_of, dead_mark, after_removal, live_tags}
use Rattle.pmark_tree.specs.Maps.{map_of, whole_mark, whole_marks}
use Rattle.pmark_tree.specs.Trees.{IsEdge, IsTree}
use Rattle.pmark_tree.proofs.Found.{tags_of, below_other, mark_at-found, is_live-at, is_live-absent, parent_in-at, parent_in-absent, delta_in-at, delta_in-absent, there_or_not, mark_with_parent}
use Rattle.pmark_tree.proofs.WholeMaps.{map_of-child, map_of-loose, map_of-absent}
use Rattle.pmark_tree.proofs.Grown.{some_is, not_none}

-- ---- changes behind others

composed-starts : (m : EntityMap) (cs ds : List Change) → AreChanges cs → AreChanges ds → StartsAt m cs → StartsAt (after m cs) ds → StartsAt m (composed cs ds)
composed-starts m cs ds a b h k = subst (StartsAt m) (sym (composed-net cs ds a b m h k)) (StartsAt-net_changes m (after (after m cs) ds))

composed-leads : (m : EntityMap) (cs ds : List Change) → AreChanges cs → AreChanges ds → StartsAt m cs → StartsAt (after m cs) ds → after m (composed cs ds) ≡ after (after m cs) ds
composed-leads m cs ds a b h k = ap (after m) (composed-net cs ds a b m h k) ∙ after-net_changes m (after (after m cs) ds)

-- ---- a mark once another one is removed

pub not_child : (o : Option Tag) (t : Tag) → o ≢ Some t → same_optional o (Some t) ≡ false
not_child o t m = ⊎_elim {C = same_optional o (Some t) ≡ false} (λ (l : same_optional o (Some t) ≡ true). absurd (m ((same_optional-Decides o (Some t)).0 l))) (λ (r : same_optional o (Some t) ≡ false). r) (cases_Bool (same_optional o (Some t)))

abbrev pub removal : List TreeMark → Tag → List TreeMark
removal ks t = map (after_removal ks t) ks

pub after_removal-tag : (ks : List TreeMark) (t : Tag) (k : TreeMark) → (after_removal ks t k).tag ≡ k.tag
after_removal-tag ks t k =
    elim (same_tag k.tag t) as (λ b. (cond b (dead_mark k.tag) (cond (same_optional k.parent (Some t)) (record k { parent = parent_in ks t; delta = composed (delta_in ks t) k.delta }) k)).tag ≡ k.tag) [
      | true ↦ refl
      | false ↦ elim (same_optional k.parent (Some t)) as (λ b. (cond b (record k { parent = parent_in ks t; delta = composed (delta_in ks t) k.delta }) k).tag ≡ k.tag) [ true ↦ refl | false ↦ refl ]
    ]

pub after_removal-it : (ks : List TreeMark) (t : Tag) (k : TreeMark) → k.tag ≡ t → after_removal ks t k ≡ dead_mark k.tag
after_removal-it ks t k e =
    ap (λ b. cond b (dead_mark k.tag) (cond (same_optional k.parent (Some t)) (record k { parent = parent_in ks t; delta = composed (delta_in ks t) k.delta }) k)) (subst (λ u. same_tag k.tag u ≡ true) e (same_itself k.tag))

after_removal-other : (ks : List TreeMark) (t : Tag) (k : TreeMark) → k.tag ≢ t → after_removal ks t k ≡ cond (same_optional k.parent (Some t)) (record k { parent = parent_in ks t; delta = composed (delta_in ks t) k.delta }) k
after_removal-other ks t k n =
    ap (λ b. cond b (dead_mark k.tag) (cond (same_optional k.parent (Some t)) (record k { parent = parent_in ks t; delta = composed (delta_in ks t) k.delta }) k)) (not_same k.tag t n)

pub after_removal-child : (ks : List TreeMark) (t : Tag) (k : TreeMark) → k.tag ≢ t → k.parent ≡ Some t → after_removal ks t k ≡ record k { parent = parent_in ks t; delta = composed (delta_in ks t) k.delta }
after_removal-child ks t k n e =
    after_removal-other ks t k n ∙ ap (λ b. cond b (record k { parent = parent_in ks t; delta = composed (delta_in ks t) k.delta }) k) ((same_optional-Decides k.parent (Some t)).1 e)

pub after_removal-same : (ks : List TreeMark) (t : Tag) (k : TreeMark) → k.tag ≢ t → k.parent ≢ Some t → after_removal ks t k ≡ k
after_removal-same ks t k n m =
    after_removal-other ks t k n ∙ ap (λ b. cond b (record k { parent = parent_in ks t; delta = composed (delta_in ks t) k.delta }) k) (not_child k.parent t m)

pub child_or_not : (o : Option Tag) (t : Tag) → (o ≡ Some t) ⊎ (o ≢ Some t)
child_or_not o t = ⊎_elim {C = (o ≡ Some t) ⊎ (o ≢ Some t)} (λ (l : same_optional o (Some t) ≡ true). inl ((same_optional-Decides o (Some t)).0 l))
    (λ (r : same_optional o (Some t) ≡ false). inr (λ e. let bad : true ≡ false = sym ((same_optional-Decides o (Some t)).1 e) ∙ r in absurd (cc)))
    (cases_Bool (same_optional o (Some t)))

-- ---- found among them

tags_of-mapped : (f : TreeMark → TreeMark) → ((k : TreeMark) → (f k).tag ≡ k.tag) → (ks : List TreeMark) → tags_of (map f ks) ≡ tags_of ks
tags_of-mapped f h [] = refl
tags_of-mapped f h (k ∷ ks) = λ i. h k i ∷ tags_of-mapped f h ks i

mark_at-mapped : (f : TreeMark → TreeMark) → ((k : TreeMark) → (f k).tag ≡ k.tag) → (ks : List TreeMark) (u : Tag) (k : TreeMark) → mark_at ks u ≡ Some k → mark_at (map f ks) u ≡ Some (f k)
mark_at-mapped f h [] u k e = absurd (cc)
mark_at-mapped f h (j ∷ ks) u k e =
    elim (same_tag j.tag u) as (λ b. same_tag j.tag u ≡ b → cond b (Some j) (mark_at ks u) ≡ Some k → mark_at (map f (j ∷ ks)) u ≡ Some (f k)) [
      | true ↦ λ s g. ap (λ (x : Tag). cond (same_tag x u) (Some (f j)) (mark_at (map f ks) u)) (h j) ∙ ap (λ b. cond b (Some (f j)) (mark_at (map f ks) u)) s ∙ ap (λ x. Some (f x)) (let is : j ≡ k = cc in is)
      | false ↦ λ s g. ap (λ (x : Tag). cond (same_tag x u) (Some (f j)) (mark_at (map f ks) u)) (h j) ∙ ap (λ b. cond b (Some (f j)) (mark_at (map f ks) u)) s ∙ mark_at-mapped f h ks u k g
    ] refl e

mark_at-mapped_none : (f : TreeMark → TreeMark) → ((k : TreeMark) → (f k).tag ≡ k.tag) → (ks : List TreeMark) (u : Tag) → mark_at ks u ≡ None → mark_at (map f ks) u ≡ None
mark_at-mapped_none f h [] u e = refl
mark_at-mapped_none f h (j ∷ ks) u e =
    elim (same_tag j.tag u) as (λ b. same_tag j.tag u ≡ b → cond b (Some j) (mark_at ks u) ≡ None → mark_at (map f (j ∷ ks)) u ≡ None) [
      | true ↦ λ s g. absurd (cc)
      | false ↦ λ s g. ap (λ (x : Tag). cond (same_tag x u) (Some (f j)) (mark_at (map f ks) u)) (h j) ∙ ap (λ b. cond b (Some (f j)) (mark_at (map f ks) u)) s ∙ mark_at-mapped_none f h ks u g
    ] refl e

live_tags-cons : (k : TreeMark) (ks : List TreeMark) → live_tags (k ∷ ks) ≡ cond k.live (k.tag ∷ live_tags ks) (live_tags ks)
live_tags-cons k ks =
    elim k.live as (λ b. map (λ (j : TreeMark). j.tag) (cond b (k ∷ filter (λ (j : TreeMark). j.live) ks) (filter (λ (j : TreeMark). j.live) ks)) ≡ cond b (k.tag ∷ live_tags ks) (live_tags ks)) [ true ↦ refl | false ↦ refl ]

-- ---- the removal of a child p of the mark t

pub record MayRemove (ks : List TreeMark) (t p : Tag) : Type 0 where
  pub tree : IsTree ks
  pub parent : parent_in ks t ≡ Some p

module _ (ks : List TreeMark) (t p : Tag) (h : MayRemove ks t p) where
  -- the mark's own edge
  own : IsEdge ks p t
  own = h.tree.edges p t h.parent

  pub up : TagsAscend (tags_of (removal ks t))
  up = subst TagsAscend (sym (tags_of-mapped (after_removal ks t) (after_removal-tag ks t) ks)) h.tree.ascend

  there : (u : Tag) (k : TreeMark) → mark_at ks u ≡ Some k → mark_at (removal ks t) u ≡ Some (after_removal ks t k)
  there u k e = mark_at-mapped (after_removal ks t) (after_removal-tag ks t) ks u k e

  nowhere : (u : Tag) → mark_at ks u ≡ None → mark_at (removal ks t) u ≡ None
  nowhere u e = mark_at-mapped_none (after_removal ks t) (after_removal-tag ks t) ks u e

  -- a mark of another tag, by its parent
  tag_other : (u : Tag) (k : TreeMark) → u ≢ t → mark_at ks u ≡ Some k → k.tag ≢ t
  tag_other u k n e s = n (sym (mark_at-found ks u k e).tag ∙ s)

  at-child : (u : Tag) (k : TreeMark) → u ≢ t → mark_at ks u ≡ Some k → k.parent ≡ Some t → mark_at (removal ks t) u ≡ Some (record k { parent = Some p; delta = composed (delta_in ks t) k.delta })
  at-child u k n e f =
      there u k e ∙ ap Some (after_removal-child ks t k (tag_other u k n e) f) ∙ ap (λ o. Some (record k { parent = o; delta = composed (delta_in ks t) k.delta })) h.parent

  at-same : (u : Tag) (k : TreeMark) → u ≢ t → mark_at ks u ≡ Some k → k.parent ≢ Some t → mark_at (removal ks t) u ≡ Some k
  at-same u k n e f = there u k e ∙ ap Some (after_removal-same ks t k (tag_other u k n e) f)

  at-it : (k : TreeMark) → mark_at ks t ≡ Some k → mark_at (removal ks t) t ≡ Some (dead_mark k.tag)
  at-it k e = there t k e ∙ ap Some (after_removal-it ks t k (mark_at-found ks t k e).tag)

  -- ---- what the others stand for

  abbrev Keeps : Tag → Type 0
  Keeps u = map_of (removal ks t) u ≡ map_of ks u

  own_map : after (map_of ks p) (delta_in ks t) ≡ map_of ks t
  own_map = own.leads

  pub p_other : p ≢ t
  p_other = below_other p t own.older

  kept_child : (u : Tag) (k : TreeMark) → ((q : Tag) → q.0 < u.0 → q ≢ t → Keeps q) → u ≢ t → mark_at ks u ≡ Some k → k.parent ≡ Some t → Keeps u
  kept_child u k ih n at e =
      let edge = h.tree.edges t u (parent_in-at ks u k at ∙ e) in
      let low : p.0 < u.0 = (let a = own.older in let b = edge.older in omega (arith, a, b)) in
      let d = delta_in-at ks u k at in
      map_of-child (removal ks t) u (record k { parent = Some p; delta = composed (delta_in ks t) k.delta }) p up (at-child u k n at e) refl low
      ∙ ap (λ m. after m (composed (delta_in ks t) k.delta)) (ih p low p_other)
      ∙ composed-leads (map_of ks p) (delta_in ks t) k.delta own.changes (subst AreChanges d edge.changes) own.starts
      (subst (StartsAt (after (map_of ks p) (delta_in ks t))) d (subst (λ m. StartsAt m (delta_in ks u)) (sym own_map) edge.starts))
      ∙ (λ i. after (own_map i) (sym d i))
      ∙ edge.leads

  kept_other : (u : Tag) (k : TreeMark) → ((q : Tag) → q.0 < u.0 → q ≢ t → Keeps q) → u ≢ t → mark_at ks u ≡ Some k → k.parent ≢ Some t → Keeps u
  kept_other u k ih n at other =
      let here = at-same u k n at other in
      elim k.parent as (λ o. k.parent ≡ o → Keeps u) [
        | None ↦ λ e.
            let d : k.delta ≡ [] = sym (delta_in-at ks u k at) ∙ h.tree.loose u (parent_in-at ks u k at ∙ e) in
            map_of-loose (removal ks t) u k up here e d ∙ sym (map_of-loose ks u k h.tree.ascend at e d)
        | Some q ↦ λ e.
            let edge = h.tree.edges q u (parent_in-at ks u k at ∙ e) in
            let apart : q ≢ t = λ s. other (e ∙ ap Some s) in
            map_of-child (removal ks t) u k q up here e edge.older
            ∙ ap (λ m. after m k.delta) (ih q edge.older apart)
            ∙ sym (map_of-child ks u k q h.tree.ascend at e edge.older)
      ] refl

  kept_by : (u : Tag) → ((q : Tag) → q.0 < u.0 → q ≢ t → Keeps q) → u ≢ t → Keeps u
  kept_by u ih n =
      ⊎_elim {C = Keeps u} (λ (f : (k : TreeMark) × (mark_at ks u ≡ Some k)).
      ⊎_elim {C = Keeps u} (λ (e : (f.0).parent ≡ Some t). kept_child u f.0 ih n f.1 e)
      (λ (e : (f.0).parent ≢ Some t). kept_other u f.0 ih n f.1 e)
      (child_or_not (f.0).parent t))
      (λ (f : mark_at ks u ≡ None). map_of-absent (removal ks t) u up (nowhere u f) ∙ sym (map_of-absent ks u h.tree.ascend f))
      (there_or_not ks u)

  kept_below : (n : ℕ) (u : Tag) → u.0 < n → u ≢ t → Keeps u
  kept_below zero u l n = absurd (omega arith)
  kept_below (suc m) u l n = kept_by u (λ q k o. kept_below m q (omega (arith, k, l)) o) n

  pub kept_map : (u : Tag) → u ≢ t → map_of (removal ks t) u ≡ map_of ks u
  kept_map u n = kept_below (suc u.0) u (omega arith) n

  -- ---- the tree

  it : (k : TreeMark) × (mark_at ks t ≡ Some k) × (k.parent ≡ Some p)
  it = mark_with_parent ks t p h.parent

  dead-parent : parent_in (removal ks t) t ≡ None
  dead-parent = parent_in-at (removal ks t) t (dead_mark (it.0).tag) (at-it it.0 it.1)

  dead-live : is_live (removal ks t) t ≡ false
  dead-live = is_live-at (removal ks t) t (dead_mark (it.0).tag) (at-it it.0 it.1)

  dead-delta : delta_in (removal ks t) t ≡ []
  dead-delta = delta_in-at (removal ks t) t (dead_mark (it.0).tag) (at-it it.0 it.1)

  live_other : (u : Tag) → u ≢ t → is_live (removal ks t) u ≡ is_live ks u
  live_other u n =
      ⊎_elim {C = is_live (removal ks t) u ≡ is_live ks u} (λ (f : (k : TreeMark) × (mark_at ks u ≡ Some k)).
      ⊎_elim {C = is_live (removal ks t) u ≡ is_live ks u} (λ (e : (f.0).parent ≡ Some t). is_live-at (removal ks t) u (record (f.0) { parent = Some p; delta = composed (delta_in ks t) (f.0).delta }) (at-child u f.0 n f.1 e) ∙ sym (is_live-at ks u f.0 f.1))
      (λ (e : (f.0).parent ≢ Some t). is_live-at (removal ks t) u f.0 (at-same u f.0 n f.1 e) ∙ sym (is_live-at ks u f.0 f.1))
      (child_or_not (f.0).parent t))
      (λ (f : mark_at ks u ≡ None). is_live-absent (removal ks t) u (nowhere u f) ∙ sym (is_live-absent ks u f))
      (there_or_not ks u)

  -- a child of the mark is now one of its parent
  edge_child : (u : Tag) (k : TreeMark) → u ≢ t → mark_at ks u ≡ Some k → k.parent ≡ Some t → IsEdge (removal ks t) p u
  edge_child u k n at e =
      let edge = h.tree.edges t u (parent_in-at ks u k at ∙ e) in
      let new = record k { parent = Some p; delta = composed (delta_in ks t) k.delta } in
      let here = at-child u k n at e in
      let low : p.0 < u.0 = (let a = own.older in let b = edge.older in omega (arith, a, b)) in
      let d = delta_in-at ks u k at in
      let changes = subst AreChanges d edge.changes in
      let starts = subst (StartsAt (after (map_of ks p) (delta_in ks t))) d (subst (λ m. StartsAt m (delta_in ks u)) (sym own_map) edge.starts) in
      let now = delta_in-at (removal ks t) u new here in
      record {
        older = low;
        parent_lives = live_other p p_other ∙ own.parent_lives;
        lives = live_other u n ∙ edge.lives;
        changes = subst AreChanges (sym now) (AreChanges-composed (delta_in ks t) k.delta own.changes changes);
        starts = subst (λ m. StartsAt m (delta_in (removal ks t) u)) (sym (kept_map p p_other)) (subst (StartsAt (map_of ks p)) (sym now) (composed-starts (map_of ks p) (delta_in ks t) k.delta own.changes changes own.starts starts));
        leads = ap (after (map_of (removal ks t) p)) now ∙ sym (map_of-child (removal ks t) u new p up here refl low);
      }

  edge_other : (u q : Tag) (k : TreeMark) → u ≢ t → mark_at ks u ≡ Some k → k.parent ≢ Some t → k.parent ≡ Some q → IsEdge (removal ks t) q u
  edge_other u q k n at other e =
      let edge = h.tree.edges q u (parent_in-at ks u k at ∙ e) in
      let here = at-same u k n at other in
      let apart : q ≢ t = λ s. other (e ∙ ap Some s) in
      let now : delta_in (removal ks t) u ≡ delta_in ks u = delta_in-at (removal ks t) u k here ∙ sym (delta_in-at ks u k at) in
      record {
        older = edge.older;
        parent_lives = live_other q apart ∙ edge.parent_lives;
        lives = live_other u n ∙ edge.lives;
        changes = subst AreChanges (sym now) edge.changes;
        starts = subst (λ m. StartsAt m (delta_in (removal ks t) u)) (sym (kept_map q apart)) (subst (StartsAt (map_of ks q)) (sym now) edge.starts);
        leads = (λ i. after (kept_map q apart i) (now i)) ∙ edge.leads ∙ sym (kept_map u n);
      }

  edges_of : (q u : Tag) → parent_in (removal ks t) u ≡ Some q → u ≢ t → IsEdge (removal ks t) q u
  edges_of q u f n =
      ⊎_elim {C = IsEdge (removal ks t) q u} (λ (g : (k : TreeMark) × (mark_at ks u ≡ Some k)).
      ⊎_elim {C = IsEdge (removal ks t) q u} (λ (e : (g.0).parent ≡ Some t).
      let new = parent_in-at (removal ks t) u (record (g.0) { parent = Some p; delta = composed (delta_in ks t) (g.0).delta }) (at-child u g.0 n g.1 e) in
      subst (λ x. IsEdge (removal ks t) x u) (some_is (parent_in (removal ks t) u) p q new f) (edge_child u g.0 n g.1 e))
      (λ (e : (g.0).parent ≢ Some t). edge_other u q g.0 n g.1 e (sym (parent_in-at (removal ks t) u g.0 (at-same u g.0 n g.1 e)) ∙ f))
      (child_or_not (g.0).parent t))
      (λ (g : mark_at ks u ≡ None). absurd (not_none (parent_in (removal ks t) u) q f (parent_in-absent (removal ks t) u (nowhere u g))))
      (there_or_not ks u)

  -- without a parent now, without one before
  loose_before : (u : Tag) → u ≢ t → parent_in (removal ks t) u ≡ None → parent_in ks u ≡ None
  loose_before u n f =
      ⊎_elim {C = parent_in ks u ≡ None} (λ (g : (k : TreeMark) × (mark_at ks u ≡ Some k)).
      ⊎_elim {C = parent_in ks u ≡ None} (λ (e : (g.0).parent ≡ Some t).
      absurd (not_none (parent_in (removal ks t) u) p (parent_in-at (removal ks t) u (record (g.0) { parent = Some p; delta = composed (delta_in ks t) (g.0).delta }) (at-child u g.0 n g.1 e)) f))
      (λ (e : (g.0).parent ≢ Some t). parent_in-at ks u g.0 g.1 ∙ sym (parent_in-at (removal ks t) u g.0 (at-same u g.0 n g.1 e)) ∙ f)
      (child_or_not (g.0).parent t))
      (λ (g : mark_at ks u ≡ None). parent_in-absent ks u g)
      (there_or_not ks u)

  loose_after : (u : Tag) → u ≢ t → parent_in ks u ≡ None → (parent_in (removal ks t) u ≡ None) × (delta_in (removal ks t) u ≡ [])
  loose_after u n f =
      ⊎_elim {C = (parent_in (removal ks t) u ≡ None) × (delta_in (removal ks t) u ≡ [])} (λ (g : (k : TreeMark) × (mark_at ks u ≡ Some k)).
      let none : (g.0).parent ≡ None = sym (parent_in-at ks u g.0 g.1) ∙ f in
      let here = at-same u g.0 n g.1 (λ e. not_none (g.0).parent t e none) in
      (parent_in-at (removal ks t) u g.0 here ∙ none, delta_in-at (removal ks t) u g.0 here ∙ sym (delta_in-at ks u g.0 g.1) ∙ h.tree.loose u f))
      (λ (g : mark_at ks u ≡ None). (parent_in-absent (removal ks t) u (nowhere u g), delta_in-absent (removal ks t) u (nowhere u g)))
      (there_or_not ks u)

  same_initial : (f : TreeMark → TreeMark) → ((k : TreeMark) → (f k).tag ≡ k.tag) → (js : List TreeMark) → initial_of (map f js) ≡ initial_of js
  same_initial f g [] = refl
  same_initial f g (j ∷ js) = ap Some (g j)

  first : initial_of (removal ks t) ≡ initial_of ks
  first = same_initial (after_removal ks t) (after_removal-tag ks t) ks

  -- the initial mark is another one
  initial_apart : (u : Tag) → initial_of ks ≡ Some u → u ≢ t
  initial_apart u e s = not_none (parent_in ks t) p h.parent (subst (λ x. parent_in ks x ≡ None) s (h.tree.initial u e).1)

  pub removed-tree : IsTree (removal ks t)
  removed-tree = record {
    ascend = up;
    edges = λ q u e.
        ⊎_elim {C = IsEdge (removal ks t) q u} (λ (s : u ≡ t). absurd (not_none (parent_in (removal ks t) u) q e (subst (λ x. parent_in (removal ks t) x ≡ None) (sym s) dead-parent)))
        (λ (n : u ≢ t). edges_of q u e n)
        (same_or_other u t);
    loose = λ u e.
        ⊎_elim {C = delta_in (removal ks t) u ≡ []} (λ (s : u ≡ t). subst (λ x. delta_in (removal ks t) x ≡ []) (sym s) dead-delta)
        (λ (n : u ≢ t). (loose_after u n (loose_before u n e)).1)
        (same_or_other u t);
    initial = λ u e.
        let was : initial_of ks ≡ Some u = sym first ∙ e in
        let old = h.tree.initial u was in
        let n = initial_apart u was in
        (live_other u n ∙ old.0, (loose_after u n old.1).0);
    root = λ u l e.
        ⊎_elim {C = initial_of (removal ks t) ≡ Some u} (λ (s : u ≡ t). let bad : false ≡ true = sym dead-live ∙ ap (is_live (removal ks t)) (sym s) ∙ l in absurd (cc))
        (λ (n : u ≢ t). first ∙ h.tree.root u (sym (live_other u n) ∙ l) (loose_before u n e))
        (same_or_other u t);
  }

  -- ---- the whole marks

  dead_map : map_of (removal ks t) t ≡ empty
  dead_map = map_of-loose (removal ks t) t (dead_mark (it.0).tag) up (at-it it.0 it.1) refl refl

  whole-it : (k : TreeMark) → k.tag ≡ t → whole_mark (removal ks t) (after_removal ks t k) ≡ after_deletion t p (whole_mark ks k)
  whole-it k e =
      ap (whole_mark (removal ks t)) (after_removal-it ks t k e)
      ∙ (λ i. record { tag = k.tag; parent = None; map = (ap (map_of (removal ks t)) e ∙ dead_map) i; live = false })
      ∙ sym (ap (λ b. cond b (deleted_mark (whole_mark ks k)) (cond (same_optional k.parent (Some t)) (record (whole_mark ks k) { parent = Some p }) (whole_mark ks k))) (subst (λ u. same_tag k.tag u ≡ true) e (same_itself k.tag)))

  whole-child : (k : TreeMark) → k.tag ≢ t → k.parent ≡ Some t → whole_mark (removal ks t) (after_removal ks t k) ≡ after_deletion t p (whole_mark ks k)
  whole-child k n e =
      ap (whole_mark (removal ks t)) (after_removal-child ks t k n e)
      ∙ (λ i. record { tag = k.tag; parent = h.parent i; map = kept_map k.tag n i; live = k.live })
      ∙ sym (ap (λ b. cond b (deleted_mark (whole_mark ks k)) (cond (same_optional k.parent (Some t)) (record (whole_mark ks k) { parent = Some p }) (whole_mark ks k))) (not_same k.tag t n)
      ∙ ap (λ b. cond b (record (whole_mark ks k) { parent = Some p }) (whole_mark ks k)) ((same_optional-Decides k.parent (Some t)).1 e))

  whole-other : (k : TreeMark) → k.tag ≢ t → k.parent ≢ Some t → whole_mark (removal ks t) (after_removal ks t k) ≡ after_deletion t p (whole_mark ks k)
  whole-other k n m =
      ap (whole_mark (removal ks t)) (after_removal-same ks t k n m)
      ∙ (λ i. record { tag = k.tag; parent = k.parent; map = kept_map k.tag n i; live = k.live })
      ∙ sym (ap (λ b. cond b (deleted_mark (whole_mark ks k)) (cond (same_optional k.parent (Some t)) (record (whole_mark ks k) { parent = Some p }) (whole_mark ks k))) (not_same k.tag t n)
      ∙ ap (λ b. cond b (record (whole_mark ks k) { parent = Some p }) (whole_mark ks k)) (not_child k.parent t m))

  whole-each : (k : TreeMark) → whole_mark (removal ks t) (after_removal ks t k) ≡ after_deletion t p (whole_mark ks k)
  whole-each k =
      ⊎_elim {C = whole_mark (removal ks t) (after_removal ks t k) ≡ after_deletion t p (whole_mark ks k)} (λ (e : k.tag ≡ t). whole-it k e)
      (λ (n : k.tag ≢ t).
      ⊎_elim {C = whole_mark (removal ks t) (after_removal ks t k) ≡ after_deletion t p (whole_mark ks k)} (λ (e : k.parent ≡ Some t). whole-child k n e)
      (λ (m : k.parent ≢ Some t). whole-other k n m)
      (child_or_not k.parent t))
      (same_or_other k.tag t)

  wholes_of : (js : List TreeMark) → map (whole_mark (removal ks t)) (map (after_removal ks t) js) ≡ map (after_deletion t p) (map (whole_mark ks) js)
  wholes_of [] = refl
  wholes_of (j ∷ js) = λ i. whole-each j i ∷ wholes_of js i

  pub removed-whole : whole_marks (removal ks t) ≡ map (after_deletion t p) (whole_marks ks)
  removed-whole = wholes_of ks

  -- ---- the live ones

  live_one : (k : TreeMark) → k.tag ≢ t → (after_removal ks t k).live ≡ k.live
  live_one k n =
      ⊎_elim {C = (after_removal ks t k).live ≡ k.live} (λ (e : k.parent ≡ Some t). ap (λ (j : TreeMark). j.live) (after_removal-child ks t k n e))
      (λ (m : k.parent ≢ Some t). ap (λ (j : TreeMark). j.live) (after_removal-same ks t k n m))
      (child_or_not k.parent t)

  pub live-removed : (js : List TreeMark) → live_tags (map (after_removal ks t) js) ≡ filter (λ u. not (same_tag u t)) (live_tags js)
  live-removed [] = refl
  live-removed (j ∷ js) =
      let test : Tag → Bool = λ u. not (same_tag u t) in
      let rest = live-removed js in
      let ts = live_tags js in
      ⊎_elim {C = live_tags (map (after_removal ks t) (j ∷ js)) ≡ filter test (live_tags (j ∷ js))} (λ (e : j.tag ≡ t).
      let same : same_tag j.tag t ≡ true = subst (λ u. same_tag j.tag u ≡ true) e (same_itself j.tag) in
      live_tags-cons (after_removal ks t j) (map (after_removal ks t) js)
      ∙ ap (λ (k : TreeMark). cond k.live (k.tag ∷ live_tags (map (after_removal ks t) js)) (live_tags (map (after_removal ks t) js))) (after_removal-it ks t j e)
      ∙ rest
      ∙ sym (ap (filter test) (live_tags-cons j js)
      ∙ elim j.live as (λ b. filter test (cond b (j.tag ∷ ts) ts) ≡ filter test ts) [
        | true ↦ ap (λ b. cond (not b) (j.tag ∷ filter test ts) (filter test ts)) same
        | false ↦ refl
      ]))
      (λ (n : j.tag ≢ t).
      live_tags-cons (after_removal ks t j) (map (after_removal ks t) js)
      ∙ (λ i. cond (live_one j n i) (after_removal-tag ks t j i ∷ rest i) (rest i))
      ∙ sym (ap (filter test) (live_tags-cons j js)
      ∙ elim j.live as (λ b. filter test (cond b (j.tag ∷ ts) ts) ≡ cond b (j.tag ∷ filter test ts) (filter test ts)) [
        | true ↦ ap (λ b. cond (not b) (j.tag ∷ filter test ts) (filter test ts)) (not_same j.tag t n)
        | false ↦ refl
      ]))
      (same_or_other j.tag t)
