-- mef: the steps from one map to the next.
use Rattle.std.proofs.Common.{◌≡◌, ◌≢◌, ⊎_elim, List, [], ◌∷◌, ◌++◌, Option, Some, None, sym, ap, subst, ◌∙◌}
use Rattle.std.specs.Prelude.{Contains, option_map}
use Rattle.std.specs.List.{AllByRecursion}
use Rattle.std.specs.FinMap.{get}
use Rattle.std.proofs.lemmas.List.Elements.{Contains-append_left, Contains-append_right, Contains-append_cases}
use Rattle.pk_base.specs.declared.tag.Tag.{Tag}
use Rattle.pk_base.specs.declared.entity.Entity.{Entity}
use Rattle.pk_base.specs.declared.entity.Entity.TheVariants as entity
use Rattle.pk_model.specs.Apart.{NoRepeats}
use Rattle.pk_model.specs.Maps.{EntityMap, with_entity}
use Rattle.pk_model.proofs.TagLists.{NoRepeats-append, NoRepeats-between, NoneOf}
use Rattle.solid_model.specs.Items.{Shape, item_at}
use Rattle.solid_model.specs.Items.Item.{Loop, Fin}
use Rattle.solid_model.specs.Rings.{before, first_tag, from, from_least}
use Rattle.solid_model.specs.Places.{PlacedFin}
use Rattle.halfedge.specs.LinkedRings.{IsInRing, IsRing, Relabels, Relinks, loop_named, ring_at}
use Rattle.solid_model.proofs.lists.Neighbours.{before-from}
use Rattle.solid_model.proofs.lists.Cycles.{CutAt, cut-at}
use Rattle.solid_sound.proofs.edges.Ends.{FinIn}
use Rattle.solid_sound.proofs.rows.RowKeeps.{IsWell}
use Rattle.halfedge.proofs.LinkedRings.{in-ring_from, ring_at-is}
use Rattle.solid_calls.proofs.Represented.{Represents}
use Rattle.solid_edits.proofs.EditedMaps.{with_loop, relabelled-ring, ring-same, same-named}
use Rattle.solid_edits.proofs.PlacedFins.{placed-fin, placed-named, placed-other, placed-live}
use Rattle.list_facts.proofs.Elements.{Contains-first, Contains-only}
use Rattle.list_facts.proofs.Each.{ByRecursion-contains}
use Rattle.solid_edits.proofs.PlacedAnew.{IsSameElsewhere, named-by_fin, relabels-elsewhere, relabels-named, relinks-elsewhere, relinks-named, unplaced}
use Rattle.solid_sound.proofs.shapes.Edits.{live-none_of}
use Rattle.solid_edits.specs.NewEdges.{with_edge}
use Rattle.solid_edits.proofs.MadeEdges.{HasEdge, edge-kept, edge-made}
use Rattle.euler_make.proofs.MefFound.{mef_edge}
use Rattle.euler_make.proofs.MefReached.{MefReached}
use Rattle.entity_store.proofs.FirstValues.{get_other, get_put}

-- the map with what is made, where the new fins are each a ring alone
abbrev pub mef_made : EntityMap → PlacedFin → Tag → Tag → Tag → Tag → Tag → Tag → EntityMap
mef_made m u v face l edge x y = with_edge (with_entity m face (Some (entity.Face u.shell l))) (mef_edge u v l edge x y)

module _ (S : Shape) (m : EntityMap) (well : IsWell S) (rep : Represents S m) (f g v face l edge x y : Tag) (u : PlacedFin) (U : FinIn S f u)
    (once : NoRepeats (face ∷ l ∷ edge ∷ x ∷ y ∷ [])) (free : AllByRecursion (λ t. item_at S t ≡ None) (face ∷ l ∷ edge ∷ x ∷ y ∷ []))
    (other : f ≢ g) (g_in : Contains u.fins g) (ring : IsRing m u.fins) where
  abbrev new : List Tag
  new = face ∷ l ∷ edge ∷ x ∷ y ∷ []

  abbrev A : List Tag
  A = before g u.fins ++ x ∷ []

  abbrev B : List Tag
  B = from g u.fins ++ y ∷ []

  abbrev made : EntityMap
  made = mef_made m u v face l edge x y

  pub cut : CutAt f g U.rest
  cut = cut-at f g U.rest (λ e. other (sym e)) (subst (λ ts. Contains ts g) U.fins_are g_in)

  first_is : before g u.fins ≡ f ∷ cut.ahead
  first_is = ap (before g) U.fins_are ∙ cut.before_is

  second_is : from g u.fins ≡ g ∷ cut.behind
  second_is = ap (from g) U.fins_are ∙ cut.from_is

  pub A_is : A ≡ f ∷ (cut.ahead ++ x ∷ [])
  A_is = ap (λ ts. ts ++ x ∷ []) first_is

  pub B_is : B ≡ g ∷ (cut.behind ++ y ∷ [])
  B_is = ap (λ ts. ts ++ y ∷ []) second_is

  -- a fin of either part is one of the whole
  first_among : (t : Tag) → Contains (before g u.fins) t → Contains u.fins t
  first_among t k = subst (λ ts. Contains ts t) (before-from g u.fins) (Contains-append_left (before g u.fins) (from g u.fins) t k)

  second_among : (t : Tag) → Contains (from g u.fins) t → Contains u.fins t
  second_among t k = subst (λ ts. Contains ts t) (before-from g u.fins) (Contains-append_right (before g u.fins) (from g u.fins) t k)

  -- a fin of the loop is none of the new tags
  pub fin_apart : (t : Tag) → Contains u.fins t → NoneOf t new
  fin_apart t k = let fin = placed-fin well U.end t k in live-none_of S new t (Fin fin.0 fin.1 fin.2) free fin.3

  loop_apart : NoneOf u.loop_ new
  loop_apart = live-none_of S new u.loop_ (Loop u.face U.end.list U.end.lone) free U.end.loop_is

  not_loop : (t : Tag) → Contains u.fins t → t ≢ u.loop_
  not_loop t k = let fin = placed-fin well U.end t k in placed-other well U.end t fin.0 fin.1 fin.2 fin.3

  -- x and y are none of the loops
  pub first_not : (t : Tag) → Contains A t → (t ≢ l) × (t ≢ u.loop_)
  first_not t k = ⊎_elim {C = (t ≢ l) × (t ≢ u.loop_)}
      (λ (j : Contains (before g u.fins) t). ((fin_apart t (first_among t j)).1.0, not_loop t (first_among t j)))
      (λ (j : Contains (x ∷ []) t). let e : x ≡ t = Contains-only x t j in ((λ i. once.1.0.1.0 (sym (e ∙ i))), (λ i. loop_apart.1.1.1.0 (sym (e ∙ i)))))
      (Contains-append_cases (before g u.fins) (x ∷ []) t k)

  second_not : (t : Tag) → Contains B t → (t ≢ l) × (t ≢ u.loop_)
  second_not t k = ⊎_elim {C = (t ≢ l) × (t ≢ u.loop_)}
      (λ (j : Contains (from g u.fins) t). ((fin_apart t (second_among t j)).1.0, not_loop t (second_among t j)))
      (λ (j : Contains (y ∷ []) t). let e : y ≡ t = Contains-only y t j in ((λ i. once.1.0.1.1.0 (sym (e ∙ i))), (λ i. loop_apart.1.1.1.1.0 (sym (e ∙ i)))))
      (Contains-append_cases (from g u.fins) (y ∷ []) t k)

  -- no fin stands in both parts
  pub parts-apart : NoRepeats (u.fins ++ x ∷ y ∷ [])
  parts-apart = NoRepeats-append u.fins (x ∷ y ∷ []) ring.once ((once.1.1.1.0.0, tt), (tt, tt))
      (ByRecursion-contains (λ t. NoneOf t (x ∷ y ∷ [])) u.fins (λ t k. (fin_apart t k).1.1.1))

  rings_apart : (t : Tag) → Contains A t → Contains B t → ⊥
  rings_apart t j k = ⊎_elim {C = ⊥}
      (λ (a : Contains (before g u.fins) t). ⊎_elim {C = ⊥}
      (λ (b : Contains (from g u.fins) t). NoRepeats-between (before g u.fins) (from g u.fins) t (subst NoRepeats (sym (before-from g u.fins)) ring.once) a b)
      (λ (b : Contains (y ∷ []) t). (fin_apart t (first_among t a)).1.1.1.1.0 (sym (Contains-only y t b)))
      (Contains-append_cases (from g u.fins) (y ∷ []) t k))
      (λ (a : Contains (x ∷ []) t). ⊎_elim {C = ⊥}
      (λ (b : Contains (from g u.fins) t). (fin_apart t (second_among t b)).1.1.1.0 (sym (Contains-only x t a)))
      (λ (b : Contains (y ∷ []) t). once.1.1.1.0.0 (Contains-only x t a ∙ sym (Contains-only y t b)))
      (Contains-append_cases (from g u.fins) (y ∷ []) t k))
      (Contains-append_cases (before g u.fins) (x ∷ []) t j)

  -- ---- what is made

  abbrev face_put : Option Entity
  face_put = Some (entity.Face u.shell l)

  abbrev faced : EntityMap
  faced = with_entity m face face_put

  pub made-edge : HasEdge faced (mef_edge u v l edge x y) made
  made-edge = edge-made faced (mef_edge u v l edge x y) once.1.1

  made_other : (t : Tag) → NoneOf t (face ∷ edge ∷ x ∷ y ∷ []) → get made t ≡ get m t
  made_other t h = made-edge.others t h.1 ∙ get_other m face face_put t h.0

  made_face : get made face ≡ face_put
  made_face = made-edge.others face once.0.1 ∙ get_put m face face_put

  pub made-same : (t : Tag) → Contains u.fins t → get made t ≡ get m t
  made-same t k = let h = fin_apart t k in made_other t (h.0, (h.1.1.0, (h.1.1.1.0, (h.1.1.1.1.0, tt))))

  made_ring : IsRing made u.fins
  made_ring = ring-same m made u.fins ring made-same

  pub made-ring_at : ring_at made f ≡ u.fins
  made-ring_at = ring_at-is made f U.rest (subst (IsRing made) U.fins_are made_ring) ∙ sym U.fins_are

  pub made-in_ring : IsInRing made f
  made-in_ring = in-ring_from made f U.rest (subst (IsRing made) U.fins_are made_ring)

  -- ---- the ring is parted

  module _ (n : EntityMap) (parted : Relinks made (ring_at made f ∷ (x ∷ []) ∷ (y ∷ []) ∷ []) n ((before g (ring_at made f) ++ x ∷ []) ∷ (from g (ring_at made f) ++ y ∷ []) ∷ [])) where
    first_ring : IsRing n A
    first_ring = subst (λ ts. IsRing n (before g ts ++ x ∷ [])) made-ring_at parted.rings.0

    second_ring : IsRing n B
    second_ring = subst (λ ts. IsRing n (from g ts ++ y ∷ [])) made-ring_at parted.rings.1.0

    pub parted-ring_at : ring_at n f ≡ A
    parted-ring_at = ring_at-is n f (cut.ahead ++ x ∷ []) (subst (IsRing n) A_is first_ring) ∙ sym A_is

    pub parted-in_ring : IsInRing n f
    parted-in_ring = in-ring_from n f (cut.ahead ++ x ∷ []) (subst (IsRing n) A_is first_ring)

    parted_other : (t : Tag) → ¬ (Contains u.fins t) → t ≢ x → t ≢ y → get n t ≡ get made t
    parted_other t h tx ty = parted.others t ((λ k. h (subst (λ ts. Contains ts t) made-ring_at k)), ((λ k. tx (sym (Contains-only x t k))), ((λ k. ty (sym (Contains-only y t k))), tt)))

    -- ---- the first part names the new loop

    module _ (p : EntityMap) (labelled : Relabels n (ring_at n f) l p) where
      labels : Relabels n A l p
      labels = subst (λ ts. Relabels n ts l p) parted-ring_at labelled

      named_first_ring : IsRing p A
      named_first_ring = relabelled-ring n p A l labels A first_ring

      named_second_ring : IsRing p B
      named_second_ring = relabelled-ring n p A l labels B second_ring

      pub named-ring_at : ring_at p f ≡ A
      named-ring_at = ring_at-is p f (cut.ahead ++ x ∷ []) (subst (IsRing p) A_is named_first_ring) ∙ sym A_is

      pub named-in_ring : IsInRing p f
      named-in_ring = in-ring_from p f (cut.ahead ++ x ∷ []) (subst (IsRing p) A_is named_first_ring)

      abbrev first_loop : Entity
      first_loop = entity.Loop face (first_tag (from_least (ring_at p f))) None

      abbrev q : EntityMap
      q = with_loop p l face f

      looped_ring : IsRing q B
      looped_ring = ring-same p q B named_second_ring (λ t k. get_other p l (Some first_loop) t (second_not t k).0)

      pub looped-ring_at : ring_at q g ≡ B
      looped-ring_at = ring_at-is q g (cut.behind ++ y ∷ []) (subst (IsRing q) B_is looped_ring) ∙ sym B_is

      pub looped-in_ring : IsInRing q g
      looped-in_ring = in-ring_from q g (cut.behind ++ y ∷ []) (subst (IsRing q) B_is looped_ring)

      abbrev second_loop : Entity
      second_loop = entity.Loop u.face (first_tag (from_least (ring_at q g))) None

      abbrev r : EntityMap
      r = with_loop q u.loop_ u.face g

      last_same : (t : Tag) → (t ≢ l) × (t ≢ u.loop_) → get r t ≡ get p t
      last_same t h = get_other q u.loop_ (Some second_loop) t h.1 ∙ get_other p l (Some first_loop) t h.0

      linked : (t : Tag) → (t ≢ l) × (t ≢ u.loop_) → IsSameElsewhere made r t
      linked t h = ap (option_map unplaced) (last_same t h) ∙ relabels-elsewhere n p A l labels t ∙ relinks-elsewhere made n _ _ parted t

      -- what is no fin of the loop, and none of the tags that are put, is as it was
      same_still : (t : Tag) → ¬ (Contains u.fins t) → t ≢ x → t ≢ y → get p t ≡ get made t
      same_still t h tx ty = labels.others t (λ k. ⊎_elim (λ (j : Contains (before g u.fins) t). h (first_among t j)) (λ (j : Contains (x ∷ []) t). tx (sym (Contains-only x t j))) (Contains-append_cases (before g u.fins) (x ∷ []) t k))
          ∙ parted_other t h tx ty

      second_label : (t : Tag) → Contains B t → loop_named made t ≡ Some u.loop_
      second_label t k = ⊎_elim {C = loop_named made t ≡ Some u.loop_}
          (λ (j : Contains (from g u.fins) t). let among = second_among t j in same-named m made t (made-same t among) ∙ placed-named well U.end m rep t among)
          (λ (j : Contains (y ∷ []) t). subst (λ i. loop_named made i ≡ Some u.loop_) (Contains-only y t j) (named-by_fin made y u.loop_ y y x edge u.vertex made-edge.mate_is))
          (Contains-append_cases (from g u.fins) (y ∷ []) t k)

      pub mef-reached : MefReached m u g v face l edge x y r
      mef-reached = record {
        first_ring = ring-same p r A named_first_ring (λ t k. last_same t (first_not t k));
        second_ring = ring-same p r B named_second_ring (λ t k. last_same t (second_not t k));
        first_named = λ t k. same-named p r t (last_same t (first_not t k)) ∙ relabels-named n p A l first_ring labels t k;
        second_named = λ t k. same-named p r t (last_same t (second_not t k)) ∙ same-named n p t (labels.others t (λ j. rings_apart t j k))
            ∙ relinks-named made n _ _ parted t ∙ second_label t k;
        face_is = last_same face (once.0.0, (λ e. loop_apart.0 (sym e))) ∙ same_still face (placed-live well U.end face free.0) once.0.1.1.0 once.0.1.1.1.0 ∙ made_face;
        loop_is = get_other q u.loop_ (Some second_loop) l (λ e. loop_apart.1.0 (sym e)) ∙ get_put p l (Some first_loop) ∙ ap (λ ts. Some (entity.Loop face (first_tag (from_least ts)) None)) named-ring_at;
        keeps = edge-kept faced made r (mef_edge u v l edge x y) made-edge (
          linked edge ((λ e. once.1.0.0 (sym e)), (λ e. loop_apart.1.1.0 (sym e))),
          (
            linked x (first_not x (Contains-append_right (before g u.fins) (x ∷ []) x (Contains-first x []))),
            (linked y (second_not y (Contains-append_right (from g u.fins) (y ∷ []) y (Contains-first y []))), tt),
          ),
        );
        old_is = get_put q u.loop_ (Some second_loop) ∙ ap (λ ts. Some (entity.Loop u.face (first_tag (from_least ts)) None)) looped-ring_at;
        elsewhere = λ t h. linked t (h.1.0, h.1.1.1.1.1.0) ∙ ap (option_map unplaced) (made_other t (h.0, (h.1.1.0, (h.1.1.1.0, (h.1.1.1.1.0, tt)))));
        others = λ t h k. last_same t (h.1.0, h.1.1.1.1.1.0) ∙ same_still t k h.1.1.1.0 h.1.1.1.1.0 ∙ made_other t (h.0, (h.1.1.0, (h.1.1.1.0, (h.1.1.1.1.0, tt))));
      }
