-- mev: the map that is reached, and that it is that of the shape of its row.
use Rattle.std.proofs.Common.{◌≡◌, ◌≢◌, ⊎_elim, List, [], ◌∷◌, Option, Some, None, refl, sym, ap, subst, ◌∙◌, arith}
use Rattle.std.specs.Prelude.{Contains, option_map}
use Rattle.std.specs.List.{AllByRecursion}
use Rattle.std.specs.FinMap.{get}
use Rattle.pk_base.specs.declared.tag.Tag.{Tag}
use Rattle.pk_base.specs.declared.entity.Point.{Point}
use Rattle.pk_base.specs.declared.entity.Entity.{Entity}
use Rattle.pk_base.specs.declared.entity.Entity.TheVariants as entity
use Rattle.pk_model.specs.Apart.{NoRepeats}
use Rattle.pk_model.specs.Maps.{EntityMap, with_entity}
use Rattle.pk_model.specs.Tags.{TagsAscend}
use Rattle.pk_model.proofs.TagLists.{NoneOf}
use Rattle.list_facts.proofs.Elements.{Contains-cases, Contains-only, not_in_nil}
use Rattle.list_facts.proofs.Each.{ByRecursion-at}
use Rattle.entity_store.proofs.FirstValues.{get_put, get_other}
use Rattle.solid_model.specs.Items.{Item, Shape, item_at, ◌with◌}
use Rattle.solid_model.specs.Items.Item.{Edge, Fin, Loop, Vertex}
use Rattle.solid_model.specs.Rings.{first_tag, from_least, ring_of}
use Rattle.solid_model.specs.Places.{End}
use Rattle.solid_model.proofs.lists.Neighbours.{once-last}
use Rattle.solid_sound.proofs.shapes.Edits.{live-none_of}
use Rattle.solid_sound.proofs.shapes.Lookups.{Items, tags_in, with-written}
use Rattle.solid_sound.proofs.edges.Ends.{EndIn}
use Rattle.solid_sound.proofs.rows.RowKeeps.{IsWell}
use Rattle.halfedge.specs.LinkedRings.{Relinks, loop_named}
use Rattle.halfedge.proofs.LinkedRings.{ring-kept}
use Rattle.solid_calls.proofs.Represented.{Represents, Shows}
use Rattle.solid_calls.proofs.Sizes.{apart-ascending}
use Rattle.solid_edits.proofs.EditedMaps.{same-links, same-named}
use Rattle.solid_edits.proofs.MadeEdges.{KeepsEdge, edge-kept, edge-shown}
use Rattle.solid_edits.proofs.PlacedAnew.{IsSameElsewhere, elsewhere-plain, named-by_fin, relinks-elsewhere, relinks-named, unplaced}
use Rattle.solid_edits.proofs.PlacedFins.{placed-elsewhere, placed-fin, placed-named, placed-other}
use Rattle.solid_edits.proofs.WrittenMaps.{ring-shown, written}
use Rattle.euler_make.proofs.MevFound.{strut_edge}
use Rattle.euler_make.proofs.MevSteps.{StrutPut}

-- Then the fins are put into the ring, and the loop names the least of it.
module _ (S : Shape) (well : IsWell S) (m0 m1 m2 : EntityMap) (rep : Represents S m0) (u : End) (E : EndIn S u) (w e n m : Tag) (p : Point)
    (free : AllByRecursion (λ t. item_at S t ≡ None) (w ∷ e ∷ n ∷ m ∷ [])) (ascend : TagsAscend (w ∷ e ∷ n ∷ m ∷ []))
    (put : StrutPut m0 m1 u w e n m p) (relinks : Relinks m1 ([] ∷ u.fins ∷ (n ∷ []) ∷ (m ∷ []) ∷ []) m2 ((n ∷ m ∷ u.fins) ∷ [])) where
  abbrev news : List Tag
  news = w ∷ e ∷ n ∷ m ∷ []

  abbrev ring : List Tag
  ring = n ∷ m ∷ u.fins

  abbrev xs : Items
  xs = (w, Vertex u.body p) ∷ (e, Edge u.body) ∷ (n, Fin m e u.vertex) ∷ (m, Fin n e w) ∷ (u.loop_, ring_of u.face ring) ∷ []

  abbrev R : Shape
  R = S with xs

  abbrev new_loop : Option Entity
  new_loop = Some (entity.Loop u.face (first_tag (from_least ring)) None)

  abbrev m3 : EntityMap
  m3 = with_entity m2 u.loop_ new_loop

  once : NoRepeats news
  once = apart-ascending news ascend

  old_loop : NoneOf u.loop_ news
  old_loop = live-none_of S news u.loop_ _ free E.loop_is

  written_once : NoRepeats (tags_in xs)
  written_once = once-last news u.loop_ once old_loop

  none_new : (t : Tag) → NoneOf t (tags_in xs) → NoneOf t news
  none_new t h = (h.0, (h.1.0, (h.1.1.0, (h.1.1.1.0, tt))))

  -- ---- the map that is left

  beside : (t : Tag) → t ≢ u.loop_ → get m3 t ≡ get m2 t
  beside t h = get_other m2 u.loop_ new_loop t h

  -- but for the loop, it differs only in where fins stand
  linked : (t : Tag) → t ≢ u.loop_ → IsSameElsewhere m1 m3 t
  linked t other = ap (option_map unplaced) (beside t other) ∙ relinks-elsewhere m1 m2 _ _ relinks t

  elsewhere : (t : Tag) → NoneOf t (tags_in xs) → IsSameElsewhere m0 m3 t
  elsewhere t none = linked t none.1.1.1.1.0 ∙ ap (option_map unplaced) (put.others t (none_new t none))

  -- outside the ring it does not
  apart : (t : Tag) → ¬ (Contains u.fins t) → NoneOf t news → t ≢ u.loop_ → get m3 t ≡ get m0 t
  apart t out old other =
      beside t other
      ∙ relinks.others t (not_in_nil t, (out, ((λ k. old.1.1.0 (sym (Contains-only n t k))), ((λ k. old.1.1.1.0 (sym (Contains-only m t k))), tt))))
      ∙ put.others t old

  -- ---- what is written

  edge : KeepsEdge (strut_edge u w e n m) m3
  edge = edge-kept _ m1 m3 (strut_edge u w e n m) put.edge
      (linked e (λ h. old_loop.1.0 (sym h)), (linked n (λ h. old_loop.1.1.0 (sym h)), (linked m (λ h. old_loop.1.1.1.0 (sym h)), tt)))

  in_ring : (P : Tag → Type 0) → P n → P m → ((f : Tag) → Contains u.fins f → P f) → (f : Tag) → Contains ring f → P f
  in_ring P at_n at_m rest f k =
      ⊎_elim {C = P f} (λ (h : n ≡ f). subst P h at_n)
      (λ (j : Contains (m ∷ u.fins) f). ⊎_elim {C = P f} (λ (h : m ≡ f). subst P h at_m) (λ (i : Contains u.fins f). rest f i) (Contains-cases m u.fins f j))
      (Contains-cases n (m ∷ u.fins) f k)

  ring_beside : (f : Tag) → Contains ring f → f ≢ u.loop_
  ring_beside = in_ring (λ f. f ≢ u.loop_) (λ h. old_loop.1.1.0 (sym h)) (λ h. old_loop.1.1.1.0 (sym h)) (λ f k. placed-other well E f _ _ _ (placed-fin well E f k).3)

  ring_named : (f : Tag) → Contains ring f → loop_named m1 f ≡ Some u.loop_
  ring_named = in_ring (λ f. loop_named m1 f ≡ Some u.loop_)
      (named-by_fin m1 n u.loop_ n n m e u.vertex put.edge.fin_is) (named-by_fin m1 m u.loop_ m m n e w put.edge.mate_is)
      (λ f k. same-named m0 m1 f (put.others f (live-none_of S news f _ free (placed-fin well E f k).3)) ∙ placed-named well E m0 rep f k)

  shows_loop : Shows R m3 u.loop_ (ring_of u.face ring)
  shows_loop = ring-shown R m3 u.loop_ u.face ring (get_put m2 u.loop_ new_loop)
      (ring-kept m2 m3 ring relinks.rings.0 (λ t k. same-links m2 m3 t (beside t (ring_beside t k))))
      (λ f k. same-named m2 m3 f (beside f (ring_beside f k)) ∙ relinks-named m1 m2 _ _ relinks f ∙ ring_named f k)

  shows : AllByRecursion (λ (q : Tag × Item). Shows R m3 q.0 q.1) xs
  shows = (
    elsewhere-plain m1 m3 w (entity.Vertex u.body p) (linked w (λ h. old_loop.0 (sym h))) refl put.at_w,
    (
      edge-shown R m3 (strut_edge u w e n m) edge ascend.1.1.0.0 (with-written S xs n (Fin m e u.vertex) written_once (2, omega arith, refl)),
      (edge.fin_is, (edge.mate_is, (shows_loop, tt))),
    ),
  )

  -- ---- what stays

  other_loops : (l face : Tag) (fins : List Tag) (vertex : Option Tag) → item_at S l ≡ Some (Loop face fins vertex) → NoneOf l (tags_in xs) → (f : Tag) → Contains fins f → get m3 f ≡ get m0 f
  other_loops l face fins vertex is none f k =
      let o = placed-elsewhere well E l (Loop face fins vertex) is none.1.1.1.1.0 f k in
      apart f o.0 (live-none_of S news f _ free o.1.3) (placed-other well E f _ _ _ o.1.3)

  other_fins : (f mate edge start : Tag) → item_at S f ≡ Some (Fin mate edge start) → NoneOf f (tags_in xs)
  other_fins f mate edge start is =
      let old = live-none_of S news f _ free is in
      (old.0, (old.1.0, (old.1.1.0, (old.1.1.1.0, (placed-other well E f mate edge start is, tt)))))

  pub mev-represents : Represents R m3
  mev-represents = written S m0 m3 xs well rep written_once ((λ h. cc), ((λ h. cc), ((λ h. cc), ((λ h. cc), ((λ h. cc), tt))))) elsewhere other_loops other_fins
      (λ t x k. ByRecursion-at (λ (q : Tag × Item). Shows R m3 q.0 q.1) xs (t, x) shows k)
