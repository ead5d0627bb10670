-- mekr: the map that is reached, and that it is that of the shape of its row.
use Rattle.std.proofs.Common.{◌≡◌, ◌≢◌, ℕ, ◌+◌, ◌<◌, ⊎_elim, List, [], ◌∷◌, ◌++◌, length, Option, Some, None, refl, sym, ap, subst, ◌∙◌, take, length-append, arith}
use Rattle.std.specs.Prelude.{Contains, IfSome, IsTrue, option_map}
use Rattle.std.specs.Option.{option_and_then}
use Rattle.std.specs.List.{AllByRecursion}
use Rattle.std.specs.FinMap.{get}
use Rattle.std.proofs.lemmas.List.Elements.{Contains-append_cases}
use Rattle.pk_base.specs.declared.tag.Tag.{Tag}
use Rattle.pk_base.specs.declared.entity.Entity.{Entity}
use Rattle.pk_base.specs.declared.entity.Entity.TheVariants as entity
use Rattle.pk_base.specs.declared.entity.Class.{Class}
use Rattle.pk_base.specs.declared.entity.Class.TheVariants as class
use Rattle.pk_base.specs.declared.call.Call.TheVariants.{Mekr}
use Rattle.pk_model.specs.Apart.{NoRepeats}
use Rattle.pk_model.specs.Maps.{EntityMap, with_entity}
use Rattle.pk_model.specs.Tags.{TagsAscend, owns}
use Rattle.pk_model.proofs.TagLists.{NoRepeats-append, NoneOf}
use Rattle.entity_store.specs.Store.{IsHosted}
use Rattle.entity_store.proofs.FirstValues.{get_other, get_put}
use Rattle.solid_model.specs.Items.{Item, Shape, item_at, class_of_item, ◌with◌}
use Rattle.solid_model.specs.Items.Item.{Loop, Fin, Edge}
use Rattle.solid_model.specs.Rings.{ends_of, first_tag, from_least, ring_of}
use Rattle.solid_model.specs.Deaths.{◌without◌}
use Rattle.solid_model.specs.Room.{changed_by_mekr, dying, if_found, puts_of, tags_changed, tags_put}
use Rattle.solid_model.specs.Rows.{cost_of}
use Rattle.solid_model.specs.Places.{End}
use Rattle.solid_model.specs.Mekr.{mekr}
use Rattle.solid_model.specs.Links.{links}
use Rattle.solid_model.specs.Shapes.{shape_of}
use Rattle.solid_model.specs.Sound.{class_at}
use Rattle.pk_base.proofs.Same.{differs_means}
use Rattle.solid_sound.proofs.rows.Asked.{free_item}
use Rattle.solid_sound.proofs.shapes.Edits.{Edits, class_apart, edits}
use Rattle.solid_sound.proofs.edges.Ends.{EndIn, end-well}
use Rattle.solid_sound.proofs.rows.KeptMekr.{mekr-keeps}
use Rattle.solid_sound.proofs.shapes.Lookups.{Items, tags_in}
use Rattle.solid_sound.proofs.shapes.Names.{NotAttr}
use Rattle.solid_sound.proofs.shapes.Reading.{fin_in}
use Rattle.solid_sound.proofs.rows.RowKeeps.{IsWell, Keeps, well-shape}
use Rattle.solid_calls.specs.Attributes.{attributes_on}
use Rattle.halfedge.specs.LinkedRings.{FinFields, IsInRing, IsRing, Relabels, Relinks, as_fin, fin_in as fin_fields, loop_named, next_at, prev_at, ring_of_any}
use Rattle.solid_calls.specs.Pairs.{reached}
use Rattle.solid_edits.specs.Deaths.{Kills, unless_on_any}
use Rattle.list_facts.proofs.Elements.{Contains-cases, Contains-only}
use Rattle.list_facts.proofs.Each.{ByRecursion-weaker, ByRecursion-contains, ByRecursion-at}
use Rattle.solid_edits.specs.NewEdges.{with_edge}
use Rattle.solid_edits.proofs.MadeEdges.{HasEdge, KeepsEdge, edge-kept, edge-lives, edge-made, edge-shown}
use Rattle.solid_calls.proofs.Deaths.{all_attributes, length-dying}
use Rattle.halfedge.proofs.LinkedRings.{ring-kept, any_ring, ring_of_any-kept}
use Rattle.solid_calls.proofs.Represented.{Represents, Shows, represented, represents-sound}
use Rattle.solid_edits.proofs.WrittenMaps.{edited, ring-shown}
use Rattle.solid_edits.proofs.KilledMaps.{GainsNoAttribute, unless-fin, unless-plain}
use Rattle.solid_edits.proofs.PlacedAnew.{IsSameElsewhere, elsewhere-plain, relabels-elsewhere, relabels-links, relabels-named, relinks-elsewhere, relinks-named, unplaced}
use Rattle.solid_edits.proofs.PlacedFins.{placed-class, placed-listed, placed-loop, placed-named}
use Rattle.euler_make.proofs.MekrFound.{edge_between, joined_row, mekr-is, AreEnds}

module _ (m : EntityMap) (k r : Tag) (u v : End) (at_k at_r : Option Tag) (at : AreEnds m k r u v at_k at_r) where
  abbrev S : Shape
  S = shape_of m

  abbrev well : IsWell S
  well = well-shape m at.sound

  abbrev was : Represents S m
  was = represents-sound m at.sound

  abbrev E : EndIn S u
  E = end-well S well k (item_at S k) refl u at.found

  abbrev G : EndIn S v
  G = end-well S well r (item_at S r) refl v at.other

  -- the fins of the ring, and those of the loop that is kept
  abbrev pub mekr_a : List Tag
  mekr_a = ring_of_any m at_r

  abbrev pub mekr_b : List Tag
  mekr_b = ring_of_any m at_k

  other_loop : u.loop_ ≢ v.loop_
  other_loop = differs_means u.loop_ v.loop_ at.apart.loops

  l_class : class_at S u.loop_ ≡ Some class.Loop
  l_class = ap (option_map class_of_item) E.loop_is

  pub ring-class : class_at S v.loop_ ≡ Some class.Loop
  ring-class = ap (option_map class_of_item) G.loop_is

  in_a : (t : Tag) → Contains mekr_a t → Contains v.fins t
  in_a t c = subst (λ ts. Contains ts t) (sym at.joined) c

  in_b : (t : Tag) → Contains mekr_b t → Contains u.fins t
  in_b t c = subst (λ ts. Contains ts t) (sym at.kept) c

  pub a-class : (t : Tag) → Contains mekr_a t → class_at S t ≡ Some class.Fin
  a-class t c = placed-class well G t (in_a t c)

  pub b-class : (t : Tag) → Contains mekr_b t → class_at S t ≡ Some class.Fin
  b-class t c = placed-class well E t (in_b t c)

  a_loop : (t : Tag) → Contains mekr_a t → (l face : Tag) (fins : List Tag) (vertex : Option Tag) → item_at S l ≡ Some (Loop face fins vertex) → Contains fins t → l ≡ v.loop_
  a_loop t c l face fins vertex is i = placed-loop well G l face fins vertex is t i (in_a t c)

  b_loop : (t : Tag) → Contains mekr_b t → (l face : Tag) (fins : List Tag) (vertex : Option Tag) → item_at S l ≡ Some (Loop face fins vertex) → Contains fins t → l ≡ u.loop_
  b_loop t c l face fins vertex is i = placed-loop well E l face fins vertex is t i (in_b t c)

  not_both : (t : Tag) → Contains mekr_a t → Contains mekr_b t → ⊥
  not_both t a b = other_loop (a_loop t a u.loop_ u.face E.list E.lone E.loop_is (placed-listed well E t (in_b t b)))

  a_ring : IsRing m mekr_a
  a_ring = any_ring m at_r at.joined_ring

  b_ring : IsRing m mekr_b
  b_ring = any_ring m at_k at.kept_ring

  -- the ring is given to the loop, none of whose fins it is
  pub mekr-no_fin : ¬ (Contains mekr_a u.loop_)
  mekr-no_fin c = let both : Some class.Loop ≡ Some class.Fin = sym l_class ∙ a-class u.loop_ c in cc

  -- ---- what is owned

  module _ (blocks : List ℕ) (hosted : (t : Tag) (x : Entity) → get m t ≡ Some x → IsHosted blocks t x) where
    pub mekr-loop_hosted : (first : Option Tag) → IsHosted blocks u.loop_ (entity.Loop u.face first None)
    mekr-loop_hosted first =
        let there = hosted u.loop_ _ (was.items u.loop_ _ E.loop_is).0 in
        record { owned = there.owned; owner = there.owner }

    pub mekr-ring_owned : IsTrue (owns blocks v.loop_)
    mekr-ring_owned = (hosted v.loop_ _ (was.items v.loop_ _ G.loop_is).0).owned

    pub mekr-body_owned : IsTrue (owns blocks u.body)
    mekr-body_owned = (hosted u.body _ (was.items u.body _ E.body_is)).owned

  pub mekr-loop_live : (t : Tag) → get m t ≡ None → u.loop_ ≢ t
  mekr-loop_live t free same = let both : None ≡ Some (entity.Loop u.face (first_tag E.list) E.lone) = sym free ∙ ap (get m) (sym same) ∙ (was.items u.loop_ _ E.loop_is).0 in cc

  pub mekr-body_live : (t : Tag) → get m t ≡ None → u.body ≢ t
  mekr-body_live t free same = let both : None ≡ Some (entity.Body E.shell) = sym free ∙ ap (get m) (sym same) ∙ was.items u.body _ E.body_is in cc

  -- ---- room

  cost : cost_of (mekr S k r) ≡ 3
  cost = ap cost_of (mekr-is S k r u v at.found at.other at.apart)

  -- all that may be put
  abbrev pub mekr_tags : Tag → Tag → Tag → List Tag
  mekr_tags e f g = e ∷ f ∷ g ∷ dying S (v.loop_ ∷ []) ++ u.loop_ ∷ ends_of mekr_b ++ mekr_a

  pub mekr-puts : (e f g : Tag) (tags more : List Tag) → tags ≡ e ∷ f ∷ g ∷ more → tags_put S (Mekr k r) tags ≡ mekr_tags e f g
  mekr-puts e f g tags more taken =
      (λ i. take (cost i) (taken i) ++ if_found (λ p. if_found (changed_by_mekr S p) (at.other i)) (at.found i))
      ∙ (λ i. e ∷ f ∷ g ∷ dying S (v.loop_ ∷ []) ++ u.loop_ ∷ ends_of (at.kept i) ++ at.joined i)

  pub mekr-counts : puts_of S (Mekr k r) ≡ 5 + length (ends_of mekr_b) + length mekr_a + length (attributes_on m v.loop_)
  mekr-counts =
      let dying_are : length (dying S (v.loop_ ∷ [])) ≡ 1 + length (all_attributes m (v.loop_ ∷ [])) = length-dying m (v.loop_ ∷ []) at.sound (tt, tt) ((class.Loop, ring-class, (λ c. cc)), tt) in
      let own = length-append (attributes_on m v.loop_) [] in
      let changed : tags_changed S (Mekr k r) ≡ dying S (v.loop_ ∷ []) ++ u.loop_ ∷ ends_of mekr_b ++ mekr_a =
      (λ i. if_found (λ p. if_found (changed_by_mekr S p) (at.other i)) (at.found i)) ∙ (λ i. dying S (v.loop_ ∷ []) ++ u.loop_ ∷ ends_of (at.kept i) ++ at.joined i) in
      let whole = ap length changed in
      let all = length-append (dying S (v.loop_ ∷ []) ++ u.loop_ ∷ ends_of mekr_b) mekr_a in
      let front = length-append (dying S (v.loop_ ∷ [])) (u.loop_ ∷ ends_of mekr_b) in
      let three = cost in
      omega (arith, three, whole, dying_are, own, all, front)

  -- ---- the edge is made

  -- the ring is given to the loop in m1, and the edge is put into m4
  module _ (e f g : Tag) (once : NoRepeats (e ∷ f ∷ g ∷ [])) (free : AllByRecursion (λ t. get m t ≡ None) (e ∷ f ∷ g ∷ [])) (m1 m4 : EntityMap) (labels : Relabels m mekr_a u.loop_ m1)
      (made : m4 ≡ with_edge m1 (edge_between u v e f g)) where
    abbrev news : List Tag
    news = e ∷ f ∷ g ∷ []

    abbrev ring : List Tag
    ring = f ∷ mekr_a ++ g ∷ mekr_b

    free_s : AllByRecursion (λ t. item_at S t ≡ None) news
    free_s = ByRecursion-weaker (λ t. get m t ≡ None) (λ t. item_at S t ≡ None) (λ t h. free_item m at.sound t h) news free

    -- what is live is none of the new ones
    not_new : (t : Tag) (c : Class) → class_at S t ≡ Some c → NoneOf t news
    not_new t c h =
        let apart = λ (x : Tag) (none : item_at S x ≡ None) (same : t ≡ x). let both : None ≡ Some c = sym (ap (option_map class_of_item) none) ∙ ap (class_at S) (sym same) ∙ h in clash c both in
        (apart e free_s.0, (apart f free_s.1.0, (apart g free_s.1.1.0, tt)))
      where
        clash : (d : Class) → None ≡ Some d → ⊥
        clash d h = cc

    pub mekr-has_edge : HasEdge m1 (edge_between u v e f g) m4
    mekr-has_edge = subst (HasEdge m1 (edge_between u v e f g)) (sym made) (edge-made m1 (edge_between u v e f g) once)

    -- a live fin keeps its links
    m4-links : (t : Tag) → class_at S t ≡ Some class.Fin → (next_at m4 t ≡ next_at m t) × (prev_at m4 t ≡ prev_at m t)
    m4-links t h =
        let same = mekr-has_edge.others t (not_new t class.Fin h) in
        let links = relabels-links m m1 mekr_a u.loop_ labels t in
        (ap (λ (x : Option Entity). option_map (λ (y : FinFields). y.next) (option_and_then as_fin x)) same ∙ links.0, ap (λ (x : Option Entity). option_map (λ (y : FinFields). y.prev) (option_and_then as_fin x)) same ∙ links.1)

    pub mekr-joined : (ring_of_any m4 at_r ≡ mekr_a) × IfSome at_r (IsInRing m4)
    mekr-joined = ring_of_any-kept m m4 at_r at.joined_ring (λ t c. m4-links t (a-class t c))

    pub mekr-kept : (ring_of_any m4 at_k ≡ mekr_b) × IfSome at_k (IsInRing m4)
    mekr-kept = ring_of_any-kept m m4 at_k at.kept_ring (λ t c. m4-links t (b-class t c))

    -- no fin stands in the ring twice
    pub mekr-once : NoRepeats ring
    mekr-once =
        let a_new = λ (t : Tag) (c : Contains mekr_a t). not_new t class.Fin (a-class t c) in
        let b_new = λ (t : Tag) (c : Contains mekr_b t). not_new t class.Fin (b-class t c) in
        let behind : NoRepeats (g ∷ mekr_b) = (ByRecursion-contains (λ t. g ≢ t) mekr_b (λ t c same. (b_new t c).1.1.0 (sym same)), b_ring.once) in
        let apart : AllByRecursion (λ x. NoneOf x (g ∷ mekr_b)) mekr_a = ByRecursion-contains (λ x. NoneOf x (g ∷ mekr_b)) mekr_a
        (λ x c. ((a_new x c).1.1.0, ByRecursion-contains (λ y. x ≢ y) mekr_b (λ y d same. not_both x c (subst (Contains mekr_b) (sym same) d)))) in (
          ByRecursion-contains (λ t. f ≢ t) (mekr_a ++ g ∷ mekr_b) (λ t c same. ⊎_elim
              (λ (i : Contains mekr_a t). (a_new t i).1.0 (sym same))
              (λ (j : Contains (g ∷ mekr_b) t). ⊎_elim
              (λ (h : g ≡ t). once.1.0.0 (same ∙ sym h))
              (λ (h : Contains mekr_b t). (b_new t h).1.0 (sym same))
              (Contains-cases g mekr_b t j))
              (Contains-append_cases mekr_a (g ∷ mekr_b) t c)),
          NoRepeats-append mekr_a (g ∷ mekr_b) a_ring.once behind apart,
        )

    -- ---- the loops are joined

    -- the rings are linked to one in m5, and the loop is put into n
    module _ (m5 n : EntityMap) (joins : Relinks m4 (mekr_a ∷ mekr_b ∷ (f ∷ []) ∷ (g ∷ []) ∷ []) m5 ((f ∷ mekr_a ++ g ∷ mekr_b) ∷ [])) (least : Tag)
        (least_is : first_tag (from_least (f ∷ mekr_a ++ g ∷ mekr_b)) ≡ Some least) (put : n ≡ with_entity m5 u.loop_ (Some (entity.Loop u.face (Some least) None))) where
      abbrev xs : Items
      xs = (e, Edge u.body) ∷ (f, Fin g e u.vertex) ∷ (g, Fin f e v.vertex) ∷ (u.loop_, Loop u.face (from_least ring) None) ∷ []

      -- such a tag is of another loop, or no fin
      m5-other : (t : Tag) → NoneOf t news → ¬ (Contains mekr_a t) → ¬ (Contains mekr_b t) → get m5 t ≡ get m1 t
      m5-other t none no_a no_b =
          joins.others t (no_a, (no_b, ((λ c. none.1.0 (sym (Contains-only f t c))), ((λ c. none.1.1.0 (sym (Contains-only g t c))), tt)))) ∙ mekr-has_edge.others t none

      n-other : (t : Tag) → t ≢ u.loop_ → get n t ≡ get m5 t
      n-other t other = ap (λ x. get x t) put ∙ get_other m5 u.loop_ (Some (entity.Loop u.face (Some least) None)) t other

      n-loop : get n u.loop_ ≡ Some (entity.Loop u.face (first_tag (from_least ring)) None)
      n-loop = ap (λ x. get x u.loop_) put ∙ get_put m5 u.loop_ (Some (entity.Loop u.face (Some least) None)) ∙ ap (λ o. Some (entity.Loop u.face o None)) (sym least_is)

      not_l : (t : Tag) → get m t ≡ None → t ≢ u.loop_
      not_l t none same = mekr-loop_live t none (sym same)

      -- but for the loop, it differs from m4 only in where fins stand
      linked : (t : Tag) → t ≢ u.loop_ → IsSameElsewhere m4 n t
      linked t other = ap (option_map unplaced) (n-other t other) ∙ relinks-elsewhere m4 m5 _ _ joins t

      elsewhere : (t : Tag) → NoneOf t (tags_in xs) → IsSameElsewhere m n t
      elsewhere t none =
          linked t none.1.1.1.0 ∙ ap (option_map unplaced) (mekr-has_edge.others t (none.0, (none.1.0, (none.1.1.0, tt)))) ∙ relabels-elsewhere m m1 mekr_a u.loop_ labels t

      keeps : KeepsEdge (edge_between u v e f g) n
      keeps = edge-kept m1 m4 n (edge_between u v e f g) mekr-has_edge (linked e (not_l e free.0), (linked f (not_l f free.1.0), (linked g (not_l g free.1.1.0), tt)))

      -- an attribute there was one before
      pub mekr-attribute : GainsNoAttribute m n
      mekr-attribute o t (name, value, is) =
          let here = λ (x : Tag) (y : Entity) (there : get n x ≡ Some y) (same : t ≡ x). let both : Some (entity.Attr o name value) ≡ Some y = sym is ∙ ap (get n) same ∙ there in both in
          let old : NoneOf t (tags_in xs) = (
            (λ same. let both = here e (entity.Edge u.body f) keeps.edge_is same in cc),
            (
              (λ same. let fin = keeps.fin_is in let both = here f (entity.Fin fin.0 fin.1 fin.2 g e u.vertex) fin.3 same in cc),
              (
                (λ same. let fin = keeps.mate_is in let both = here g (entity.Fin fin.0 fin.1 fin.2 f e v.vertex) fin.3 same in cc),
                ((λ same. let both = here u.loop_ (entity.Loop u.face (first_tag (from_least ring)) None) n-loop same in cc), tt),
              ),
            ),
          ) in
          (name, value, elsewhere-plain n m t (entity.Attr o name value) (sym (elsewhere t old)) refl is)

      -- ---- the ring dies

      module _ (less : f.0 < g.0) (q : EntityMap) (kills : Kills n (v.loop_ ∷ []) q) where
        abbrev killed : List Tag
        killed = v.loop_ ∷ []

        abbrev R : Shape
        R = S with xs without killed

        fin_lives : (t : Tag) → class_at S t ≡ Some class.Fin → NoneOf t killed
        fin_lives t h = (class_apart S t v.loop_ class.Fin class.Loop h ring-class (λ c. cc), tt)

        fin_other : (t : Tag) → class_at S t ≡ Some class.Fin → t ≢ u.loop_
        fin_other t h = class_apart S t u.loop_ class.Fin class.Loop h l_class (λ c. cc)

        new_lives : NoneOf e killed × NoneOf f killed × NoneOf g killed
        new_lives =
            let none = not_new v.loop_ class.Loop ring-class in
            (((λ c. none.0 (sym c)), tt), ((λ c. none.1.0 (sym c)), tt), ((λ c. none.1.1.0 (sym c)), tt))

        once_new : NoRepeats (tags_in xs)
        once_new = (
          (once.0.0, (once.0.1.0, (not_l e free.0, tt))),
          ((once.1.0.0, (not_l f free.1.0, tt)), ((not_l g free.1.1.0, tt), (tt, tt))),
        )

        dead_apart : NoneOf v.loop_ (tags_in xs)
        dead_apart = let none = not_new v.loop_ class.Loop ring-class in (none.0, (none.1.0, (none.1.1.0, ((λ c. other_loop (sym c)), tt))))

        plain : AllByRecursion (λ x. NotAttr (class_of_item x.1)) xs
        plain = ((λ c. cc), ((λ c. cc), ((λ c. cc), ((λ c. cc), tt))))

        ed : Edits S R xs killed
        ed = edits S xs killed well.written.ascends once_new (tt, tt) (dead_apart, tt) plain

        -- ---- the fins of the ring

        in_ring : (t : Tag) → Contains ring t → (P : Type 0) → (f ≡ t → P) → (g ≡ t → P) → (Contains mekr_a t → P) → (Contains mekr_b t → P) → P
        in_ring t c P on_f on_g on_a on_b = ⊎_elim on_f
            (λ (i : Contains (mekr_a ++ g ∷ mekr_b) t). ⊎_elim on_a (λ (j : Contains (g ∷ mekr_b) t). ⊎_elim on_g on_b (Contains-cases g mekr_b t j)) (Contains-append_cases mekr_a (g ∷ mekr_b) t i))
            (Contains-cases f (mekr_a ++ g ∷ mekr_b) t c)

        -- each is as it was linked
        fields : (t : Tag) → Contains ring t → fin_fields q t ≡ fin_fields m5 t
        fields t c = ap (option_and_then as_fin) (kills.others t (in_ring t c (NoneOf t killed) (λ h. subst (λ x. NoneOf x killed) h new_lives.1) (λ h. subst (λ x. NoneOf x killed) h new_lives.2) (λ h. fin_lives t (a-class t h)) (λ h. fin_lives t (b-class t h))))
            ∙ unless-fin killed (get n t)
            ∙ ap (option_and_then as_fin) (n-other t (in_ring t c (t ≢ u.loop_) (λ h. subst (λ x. x ≢ u.loop_) h (not_l f free.1.0)) (λ h. subst (λ x. x ≢ u.loop_) h (not_l g free.1.1.0)) (λ h. fin_other t (a-class t h)) (λ h. fin_other t (b-class t h))))

        q-ring : IsRing q ring
        q-ring = ring-kept m5 q ring joins.rings.0 (λ t c. let same = fields t c in (ap (option_map (λ (x : FinFields). x.next)) same, ap (option_map (λ (x : FinFields). x.prev)) same))

        abbrev named_by : Option Entity → Option Tag
        named_by x = option_map (λ (y : FinFields). y.loop_) (option_and_then as_fin x)

        m4-named : (t : Tag) → Contains ring t → loop_named m4 t ≡ Some u.loop_
        m4-named t c = in_ring t c (loop_named m4 t ≡ Some u.loop_)
            (λ h. subst (λ x. loop_named m4 x ≡ Some u.loop_) h (ap named_by mekr-has_edge.fin_is))
            (λ h. subst (λ x. loop_named m4 x ≡ Some u.loop_) h (ap named_by mekr-has_edge.mate_is))
            (λ h. ap named_by (mekr-has_edge.others t (not_new t class.Fin (a-class t h))) ∙ relabels-named m m1 mekr_a u.loop_ a_ring labels t h)
            (λ h. ap named_by (mekr-has_edge.others t (not_new t class.Fin (b-class t h)) ∙ labels.others t (λ i. not_both t i h))
            ∙ placed-named well E m was t (in_b t h))

        q-named : (t : Tag) → Contains ring t → loop_named q t ≡ Some u.loop_
        q-named t c = ap (option_map (λ (x : FinFields). x.loop_)) (fields t c) ∙ relinks-named m4 m5 _ _ joins t ∙ m4-named t c

        -- ---- what is written

        loop_there : get q u.loop_ ≡ Some (entity.Loop u.face (first_tag (from_least ring)) None)
        loop_there = kills.others u.loop_ (other_loop, tt) ∙ ap (unless_on_any killed) n-loop ∙ unless-plain killed (entity.Loop u.face (first_tag (from_least ring)) None) (λ o. refl)

        lives : KeepsEdge (edge_between u v e f g) q
        lives = edge-lives n q (edge_between u v e f g) killed keeps kills (new_lives.0, (new_lives.1, (new_lives.2, tt)))

        shown : AllByRecursion (λ (y : Tag × Item). Shows R q y.0 y.1) xs
        shown = (
          edge-shown R q (edge_between u v e f g) lives less (ed.news f (Fin g e u.vertex) (1, omega arith, refl)),
          (lives.fin_is, (lives.mate_is, (ring-shown R q u.loop_ u.face ring loop_there q-ring q-named, tt))),
        )

        -- ---- what stays

        other_loops : (l face : Tag) (fins : List Tag) (vertex : Option Tag) → item_at S l ≡ Some (Loop face fins vertex) → NoneOf l (tags_in xs) → NoneOf l killed
            → (t : Tag) → Contains fins t → NoneOf t killed × (get n t ≡ get m t)
        other_loops l face fins vertex is none live t c =
            let fin : class_at S t ≡ Some class.Fin = ap (option_map class_of_item) (fin_in S well.written well.sound l face fins vertex is t c).3 in
            let no_a : ¬ (Contains mekr_a t) = λ h. live.0 (a_loop t h l face fins vertex is c) in
            let no_b : ¬ (Contains mekr_b t) = λ h. none.1.1.1.0 (b_loop t h l face fins vertex is c) in
            (fin_lives t fin, n-other t (fin_other t fin) ∙ m5-other t (not_new t class.Fin fin) no_a no_b ∙ labels.others t no_a)

        other_edges : (t mate edge vertex : Tag) → item_at S t ≡ Some (Fin mate edge vertex) → NoneOf edge killed → NoneOf t (tags_in xs) × NoneOf t killed
        other_edges t mate edge vertex is live =
            let fin : class_at S t ≡ Some class.Fin = ap (option_map class_of_item) is in
            let none = not_new t class.Fin fin in
            ((none.0, (none.1.0, (none.1.1.0, (fin_other t fin, tt)))), fin_lives t fin)

        -- ---- all

        mekr-represents : Represents R q
        mekr-represents = edited S m n q xs killed well was once_new (tt, tt) (dead_apart, tt) plain kills elsewhere other_loops other_edges
            (λ t x c. ByRecursion-at (λ (y : Tag × Item). Shows R q y.0 y.1) xs (t, x) shown c)

        row_shape : (S with (e, Edge u.body) ∷ (f, Fin g e u.vertex) ∷ (g, Fin f e v.vertex) ∷ (u.loop_, ring_of u.face (f ∷ v.fins ++ g ∷ u.fins)) ∷ [] without killed) ≡ R
        row_shape = λ i. S with (e, Edge u.body) ∷ (f, Fin g e u.vertex) ∷ (g, Fin f e v.vertex) ∷ (u.loop_, Loop u.face (from_least (f ∷ at.joined i ++ g ∷ at.kept i)) None) ∷ [] without killed

        -- the map is that of the shape reached
        pub mekr-reached : (tags more : List Tag) → tags ≡ e ∷ f ∷ g ∷ more → TagsAscend tags → AllByRecursion (λ t. get m t ≡ None) tags → q ≡ links (reached S tags (mekr S k r))
        mekr-reached tags more is ascend unused =
            let row = mekr-is S k r u v at.found at.other at.apart in
            let shape : reached S tags (mekr S k r) ≡ R = ap (reached S tags) row ∙ ap (λ ts. reached S ts (joined_row S u v)) is ∙ row_shape in
            let kept : Keeps tags (joined_row S u v) = subst (Keeps tags) row (mekr-keeps S tags k r well ascend (ByRecursion-weaker (λ t. get m t ≡ None) (λ t. item_at S t ≡ None) (λ t h. free_item m at.sound t h) tags unused)) in
            let keeps : Keeps (e ∷ f ∷ g ∷ more) (joined_row S u v) = subst (λ ts. Keeps ts (joined_row S u v)) is kept in
            represented R q (subst IsWell row_shape (keeps (omega arith))) mekr-represents ∙ ap links (sym shape)
