-- kemr: the map that is reached, and that it is that of the shape of its row.
use Rattle.std.proofs.Common.{◌≡◌, ◌≢◌, ℕ, ◌+◌, ⊎_elim, List, [], ◌∷◌, ◌++◌, drop, length, take, Option, Some, None, refl, sym, ap, subst, ◌∙◌, length-append, arith}
use Rattle.std.specs.Prelude.{Contains, IsTrue, map, option_map}
use Rattle.std.specs.Option.{option_and_then, option_map_or}
use Rattle.std.specs.List.{AllByRecursion}
use Rattle.std.specs.FinMap.{get}
use Rattle.std.proofs.lemmas.List.Elements.{Contains-append_cases, Contains-append_left, Contains-append_right}
use Rattle.pk_base.specs.declared.tag.Tag.{Tag}
use Rattle.pk_base.specs.declared.entity.Entity.{Entity}
use Rattle.pk_base.specs.declared.entity.Entity.TheVariants as entity
use Rattle.pk_base.specs.declared.entity.Class.{Class}
use Rattle.pk_base.specs.declared.entity.Class.TheVariants as class
use Rattle.pk_model.specs.Apart.{NoRepeats}
use Rattle.pk_model.specs.Maps.{EntityMap}
use Rattle.pk_base.specs.declared.call.Call.TheVariants.{Kemr}
use Rattle.pk_model.specs.Tags.{owns, tag_at}
use Rattle.pk_model.proofs.TagLists.{NoRepeats-between, NoneOf}
use Rattle.entity_store.specs.Store.{IsHosted}
use Rattle.solid_model.specs.Items.{Shape, item_at, class_of_item, ◌with◌}
use Rattle.solid_model.specs.Items.Item.{Loop, Fin}
use Rattle.solid_model.specs.Rings.{before, first_tag, from, ring_or_lone}
use Rattle.solid_model.specs.Deaths.{◌without◌}
use Rattle.solid_model.specs.Room.{changed_by_kemr, dying, if_found, puts_of, tags_changed, tags_put}
use Rattle.solid_model.specs.Rows.{cost_of}
use Rattle.solid_edits.proofs.Dying.{dying-has}
use Rattle.solid_edits.proofs.Stages.{Within}
use Rattle.solid_edits.proofs.TagsPut.{AreOwners, length-with_attributes, within-changed}
use Rattle.solid_model.specs.Places.{PlacedFin}
use Rattle.solid_model.specs.Kemr.{kemr}
use Rattle.solid_model.specs.Links.{links}
use Rattle.solid_model.specs.Shapes.{shape_of}
use Rattle.solid_model.specs.Sound.{class_at}
use Rattle.solid_model.proofs.lists.Turned.{turned-back, turned-in}
use Rattle.solid_sound.proofs.rows.Asked.{free_item}
use Rattle.solid_sound.proofs.edges.EdgeDeaths.{edge_of_class}
use Rattle.solid_sound.proofs.shapes.Edits.{class_apart}
use Rattle.solid_sound.proofs.edges.Ends.{FinIn, fin-well}
use Rattle.solid_sound.proofs.rows.KeptKemr.{kemr-keeps}
use Rattle.solid_sound.proofs.rows.KeptRings.{face_of_class}
use Rattle.solid_sound.proofs.shapes.Reading.{fin_in}
use Rattle.solid_sound.proofs.rows.RowKeeps.{IsWell, Keeps, well-shape}
use Rattle.halfedge.specs.LinkedRings.{FinFields, as_fin, loop_named, mate_in, ring_at}
use Rattle.solid_calls.specs.Pairs.{reached, row_on}
use Rattle.solid_edits.specs.Deaths.{Kills, with_attributes}
use Rattle.solid_edits.specs.EditedLoops.{HasParted, fins_behind, fins_between, loop_from}
use Rattle.solid_calls.proofs.Represented.{Represents, represented, represents-sound}
use Rattle.solid_edits.proofs.RemovedEdge.{IsCutOut, PutLoop, cut-attributes, cut-represents, loop_item, with_loops}
use Rattle.solid_edits.proofs.EditedMaps.{relabelled-ring, same-named}
use Rattle.solid_edits.proofs.PlacedFins.{placed-named}
use Rattle.solid_edits.proofs.PartedRings.{behind-within, between-within, parts-once}
use Rattle.solid_edits.proofs.KilledMaps.{GainsNoAttribute}
use Rattle.solid_edits.proofs.PlacedAnew.{relabels-elsewhere, relabels-named, relinks-elsewhere, relinks-named}
use Rattle.list_facts.proofs.Elements.{Contains-first, Contains-later, Contains-cases}
use Rattle.list_facts.proofs.Each.{ByRecursion-at}
use Rattle.euler_kill.proofs.KemrFound.{cut_row, kemr-is, IsOnBothSides}

module _ (m : EntityMap) (f : Tag) (u w : PlacedFin) (at : IsOnBothSides m f u w) where
  abbrev S : Shape
  S = shape_of m

  abbrev well : IsWell S
  well = well-shape m at.sound

  abbrev was : Represents S m
  was = represents-sound m at.sound

  abbrev U : FinIn S f u
  U = fin-well S well f (item_at S f) refl u at.found

  abbrev W : FinIn S u.mate w
  W = fin-well S well u.mate (item_at S u.mate) refl w at.other

  pub kemr-mate : mate_in m f ≡ u.mate
  kemr-mate = let x = was.items f (Fin u.mate u.edge u.vertex) U.fin_is in ap (λ (e : Option Entity). option_map_or (λ (y : FinFields). y.mate) (option_and_then as_fin e) f) x.3

  mated : (u.mate ≢ f) × (w.edge ≡ u.edge)
  mated =
      let h = well.sound.mates.fins f u.mate u.edge u.vertex U.fin_is in
      let both : Some (Fin f u.edge h.end) ≡ Some (Fin w.mate w.edge w.vertex) = sym h.mate_is ∙ W.fin_is in
      (h.other, cc)

  pub kemr-other : u.mate ≢ f
  kemr-other = mated.0

  -- the fins of the ring are those of the loop
  pub in-loop : (t : Tag) → Contains (ring_at m f) t → Contains U.end.list t
  in-loop t k = turned-in u.fins U.end.list (turned-back U.end.list u.fins U.end.turned) t (subst (λ ts. Contains ts t) (sym at.ring) k)

  pub kemr-among : Contains (ring_at m f) u.mate
  kemr-among =
      let both : Some (Loop w.face W.end.list W.end.lone) ≡ Some (Loop u.face U.end.list U.end.lone) = sym W.end.loop_is ∙ ap (item_at S) (sym at.one) ∙ U.end.loop_is in
      let lists : W.end.list ≡ U.end.list = cc in
      let here : Contains w.fins u.mate = subst (λ ts. Contains ts u.mate) (sym W.fins_are) (Contains-first u.mate W.rest) in
      let listed = subst (λ ts. Contains ts u.mate) lists (turned-in w.fins W.end.list (turned-back W.end.list w.fins W.end.turned) u.mate here) in
      subst (λ ts. Contains ts u.mate) at.ring (turned-in U.end.list u.fins U.end.turned u.mate listed)

  pub kemr-first : Contains (ring_at m f) f
  kemr-first = subst (λ ts. Contains ts f) (sym U.fins_are ∙ at.ring) (Contains-first f U.rest)

  f_class : class_at S f ≡ Some class.Fin
  f_class = ap (option_map class_of_item) U.fin_is

  m_class : class_at S u.mate ≡ Some class.Fin
  m_class = ap (option_map class_of_item) W.fin_is

  e_class : class_at S u.edge ≡ Some class.Edge
  e_class = (well.sound.names.kinds f _ U.fin_is).1.0

  l_class : class_at S u.loop_ ≡ Some class.Loop
  l_class = ap (option_map class_of_item) U.end.loop_is

  ring_class : (t : Tag) → Contains (ring_at m f) t → class_at S t ≡ Some class.Fin
  ring_class t k = ap (option_map class_of_item) (fin_in S well.written well.sound u.loop_ u.face U.end.list U.end.lone U.end.loop_is t (in-loop t k)).3

  edge-of_mate : w.edge ≡ u.edge
  edge-of_mate = mated.1

  -- ---- what is owned

  module _ (blocks : List ℕ) (hosted : (t : Tag) (e : Entity) → get m t ≡ Some e → IsHosted blocks t e) where
    there : IsHosted blocks u.loop_ (entity.Loop u.face (first_tag U.end.list) U.end.lone)
    there = hosted u.loop_ _ (was.items u.loop_ _ U.end.loop_is).0

    pub kemr-loop_hosted : (first : Option Tag) (vertex : Tag) → IsHosted blocks u.loop_ (loop_from u.face first vertex)
    kemr-loop_hosted first vertex = record { owned = there.owned; owner = there.owner }

    pub kemr-new_hosted : (j : Tag) → get m j ≡ None → IsTrue (owns blocks j) → (first : Option Tag) (vertex : Tag) → IsHosted blocks j (loop_from u.face first vertex)
    kemr-new_hosted j free owned first vertex =
        let face = face_of_class (item_at S u.face) (well.sound.names.kinds u.loop_ _ U.end.loop_is).0.0 in
        let live = was.items u.face _ face.2 in
        record { owned = owned; owner = ((λ e. let both : None ≡ Some (entity.Face face.0 face.1) = sym free ∙ ap (get m) (sym e) ∙ live in cc), there.owner.1) }

    pub kemr-owned : AllByRecursion (λ t. IsTrue (owns blocks t)) (f ∷ u.mate ∷ u.edge ∷ [])
    kemr-owned =
        let edge = edge_of_class (item_at S u.edge) e_class in
        ((hosted f _ (was.items f _ U.fin_is).3).owned, ((hosted u.mate _ (was.items u.mate _ W.fin_is).3).owned, ((hosted u.edge _ (was.items u.edge _ edge.1).1).owned, tt)))

  -- ---- room

  -- all that may be put
  abbrev pub kemr_tags : Tag → List Tag
  kemr_tags j = with_attributes m (f ∷ u.mate ∷ u.edge ∷ []) ++ u.loop_ ∷ j ∷ ring_at m f

  abbrev dead : List Tag
  dead = f ∷ u.mate ∷ u.edge ∷ []

  dead-once : NoRepeats dead
  dead-once = (((λ k. kemr-other (sym k)), (class_apart S f u.edge _ _ f_class e_class (λ k. cc), tt)), ((class_apart S u.mate u.edge _ _ m_class e_class (λ k. cc), tt), (tt, tt)))

  dead-own : AreOwners S dead
  dead-own = ((class.Fin, f_class, (λ k. cc)), ((class.Fin, m_class, (λ k. cc)), ((class.Edge, e_class, (λ k. cc)), tt)))

  changed : tags_changed S (Kemr f) ≡ changed_by_kemr S f u
  changed = ap (if_found (changed_by_kemr S f)) at.found

  -- how many they are: what dies, the fins of the ring, and two loops
  pub kemr-counts : cost_of (row_on m (Kemr f)) ≡ 1 → puts_of S (Kemr f) ≡ 2 + length (ring_at m f) + length (with_attributes m dead)
  kemr-counts cost =
      let all : length (tags_changed S (Kemr f)) ≡ length (dying S dead ++ u.loop_ ∷ u.fins) = ap length changed in
      let fins : length u.fins ≡ length (ring_at m f) = ap length at.ring in
      omega (arith, cost, all, fins, length-with_attributes m dead at.sound dead-once dead-own, length-append (dying S dead) (u.loop_ ∷ u.fins))

  -- and they are among what the row names
  pub kemr-within : (j : Tag) (tags rest : List Tag) → cost_of (row_on m (Kemr f)) ≡ 1 → tags ≡ j ∷ rest → Within (kemr_tags j) (tags_put S (Kemr f) tags)
  kemr-within j tags rest cost taken t k =
      let here = within-changed S (Kemr f) tags (changed_by_kemr S f u) changed t in
      let others : List Tag = u.loop_ ∷ u.fins in
      let new : take (cost_of (row_on m (Kemr f))) tags ≡ j ∷ [] = λ i. take (cost i) (taken i) in
      ⊎_elim {C = Contains (tags_put S (Kemr f) tags) t}
      (λ (d : Contains (with_attributes m dead) t). here (Contains-append_left (dying S dead) others t (dying-has m dead dead-own t d)))
      (λ (r : Contains (u.loop_ ∷ j ∷ ring_at m f) t). ⊎_elim {C = Contains (tags_put S (Kemr f) tags) t}
      (λ (e : u.loop_ ≡ t). here (Contains-append_right (dying S dead) others t (subst (Contains others) e (Contains-first u.loop_ u.fins))))
      (λ (q : Contains (j ∷ ring_at m f) t). ⊎_elim {C = Contains (tags_put S (Kemr f) tags) t}
      (λ (e : j ≡ t). Contains-append_left (take (cost_of (row_on m (Kemr f))) tags) (tags_changed S (Kemr f)) t (subst (λ ts. Contains ts t) (sym new) (subst (Contains (j ∷ [])) e (Contains-first j []))))
      (λ (c : Contains (ring_at m f) t). here (Contains-append_right (dying S dead) others t (Contains-later u.loop_ u.fins t (subst (λ ts. Contains ts t) (sym at.ring) c))))
      (Contains-cases j (ring_at m f) t q))
      (Contains-cases u.loop_ (j ∷ ring_at m f) t r))
      (Contains-append_cases (with_attributes m dead) (u.loop_ ∷ j ∷ ring_at m f) t k)

  -- ---- the maps

  -- the ring is parted into n
  module _ (j : Tag) (free : get m j ≡ None) (kept off : Option Tag) (n : EntityMap) (parted : HasParted m f u.mate j kept off n) where
    abbrev A : List Tag
    A = fins_between m f u.mate

    abbrev B : List Tag
    B = fins_behind m f u.mate

    -- the loops that are put
    abbrev pub kemr_loops : List PutLoop
    kemr_loops = record { loop_ = u.loop_; face = u.face; fins = B; vertex = u.vertex } ∷ record { loop_ = j; face = u.face; fins = A; vertex = w.vertex } ∷ []

    free_j : item_at S j ≡ None
    free_j = free_item m at.sound j free

    not_j : (t : Tag) (c : Class) → class_at S t ≡ Some c → t ≢ j
    not_j t c h same = let both : None ≡ Some c = sym (ap (option_map class_of_item) free_j) ∙ ap (class_at S) (sym same) ∙ h in cc

    fin_edge : (t : Tag) → class_at S t ≡ Some class.Fin → t ≢ u.edge
    fin_edge t h = class_apart S t u.edge class.Fin class.Edge h e_class (λ k. cc)

    loop_lives : NoneOf u.loop_ dead
    loop_lives = (class_apart S u.loop_ f _ _ l_class f_class (λ k. cc), (class_apart S u.loop_ u.mate _ _ l_class m_class (λ k. cc), (class_apart S u.loop_ u.edge _ _ l_class e_class (λ k. cc), tt)))

    new_lives : NoneOf j dead
    new_lives = ((λ k. not_j f class.Fin f_class (sym k)), ((λ k. not_j u.mate class.Fin m_class (sym k)), ((λ k. not_j u.edge class.Edge e_class (sym k)), tt)))

    -- ---- the fins that are left

    -- the parts of the ring, from f on
    once : NoRepeats (f ∷ A ++ u.mate ∷ B)
    once = parts-once m f u.mate at.in_ring kemr-among kemr-other

    a-left : (t : Tag) → Contains A t → (class_at S t ≡ Some class.Fin) × (t ≢ f) × (t ≢ u.mate)
    a-left t k = (
      ring_class t (between-within m f u.mate t k),
      (λ e. ByRecursion-at (λ x. f ≢ x) (A ++ u.mate ∷ B) t once.0 (Contains-append_left A (u.mate ∷ B) t k) (sym e)),
      (λ e. NoRepeats-between A (u.mate ∷ B) t once.1 k (subst (Contains (u.mate ∷ B)) (sym e) (Contains-first u.mate B))),
    )

    b-left : (t : Tag) → Contains B t → (class_at S t ≡ Some class.Fin) × (t ≢ f) × (t ≢ u.mate)
    b-left t k = (
      ring_class t (behind-within m f u.mate t k),
      (λ e. ByRecursion-at (λ x. f ≢ x) (A ++ u.mate ∷ B) t once.0 (Contains-append_right A (u.mate ∷ B) t (Contains-later u.mate B t k)) (sym e)),
      (λ e. ByRecursion-at (λ x. u.mate ≢ x) B t (behind_once A once.1).0 k (sym e)),
    )
      where
        behind_once : (ts : List Tag) → NoRepeats (ts ++ u.mate ∷ B) → NoRepeats (u.mate ∷ B)
        behind_once [] h = h
        behind_once (x ∷ ts) h = behind_once ts h.1

    b-named : (t : Tag) → Contains B t → loop_named n t ≡ Some u.loop_
    b-named t k =
        same-named parted.cut n t (parted.labels.others t (λ a. NoRepeats-between A (u.mate ∷ B) t once.1 a (Contains-later u.mate B t k)))
        ∙ relinks-named m parted.cut _ _ parted.links t
        ∙ placed-named well U.end m was t (subst (λ ts. Contains ts t) (sym at.ring) (behind-within m f u.mate t k))

    pub kemr-cut : IsCutOut S m n f u w kemr_loops dead
    kemr-cut = record {
      elsewhere = λ t. relabels-elsewhere parted.cut n A j parted.labels t ∙ relinks-elsewhere m parted.cut _ _ parted.links t;
      outside = λ t a b.
          let out : ¬ (Contains (ring_at m f) t) = λ k. a (subst (λ ts. Contains ts t) (sym at.ring) k) in
          parted.labels.others t (λ k. out (between-within m f u.mate t k)) ∙ parted.links.others t (out, tt);
      rings = (
        record { ring = relabelled-ring parted.cut n A j parted.labels B parted.links.rings.1.0; named = b-named; left = b-left },
        (record { ring = relabelled-ring parted.cut n A j parted.labels A parted.links.rings.0; named = relabels-named parted.cut n A j parted.links.rings.0 parted.labels; left = a-left }, tt),
      );
      loops_once = ((not_j u.loop_ class.Loop l_class, tt), (tt, tt));
      loops_live = (loop_lives, (new_lives, tt));
      no_fins = λ t c. (class_apart S t u.loop_ _ _ c l_class (λ k. cc), (not_j t class.Fin c, tt));
      both = λ l none live. (none.0, (λ e. none.0 (e ∙ sym at.one)));
      once = dead-once;
      edge = (2, omega arith, refl);
      fins = λ t c tf tm. (tf, (tm, (fin_edge t c, tt)));
    }

    -- no attribute has come
    pub kemr-attribute : GainsNoAttribute m (with_loops n kemr_loops)
    kemr-attribute = cut-attributes well was U W kemr-cut

    -- ---- the edge dies with its fins

    module _ (r : EntityMap) (kills : Kills (with_loops n kemr_loops) dead r) where
      -- the shape that the row reaches
      row_shape : (S with (u.loop_, ring_or_lone u.face (drop 1 (from u.mate u.fins)) u.vertex) ∷ (j, ring_or_lone u.face (drop 1 (before u.mate u.fins)) w.vertex) ∷ [] without dead) ≡ (S with map loop_item kemr_loops without dead)
      row_shape = ap (λ ts. S with (u.loop_, ring_or_lone u.face (drop 1 (from u.mate ts)) u.vertex) ∷ (j, ring_or_lone u.face (drop 1 (before u.mate ts)) w.vertex) ∷ [] without dead) at.ring

      kemr-well : IsWell (S with map loop_item kemr_loops without dead)
      kemr-well =
          let free_tag : item_at S (tag_at (j ∷ []) 0) ≡ None = free_j in
          let keeps : Keeps (j ∷ []) (cut_row S f u w) = subst (Keeps (j ∷ [])) (kemr-is S f u w at.found at.other at.one) (kemr-keeps S (j ∷ []) f well (λ k. free_tag)) in
          subst IsWell row_shape (keeps (omega arith))

      -- the map is that of the shape reached
      pub kemr-reached : (tags more : List Tag) → tags ≡ j ∷ more → r ≡ links (reached S tags (kemr S f))
      kemr-reached tags more is =
          let shape : reached S tags (kemr S f) ≡ (S with map loop_item kemr_loops without dead) = ap (reached S tags) (kemr-is S f u w at.found at.other at.one) ∙ ap (λ ts. reached S ts (cut_row S f u w)) is ∙ row_shape in
          represented (S with map loop_item kemr_loops without dead) r kemr-well (cut-represents well was U W kemr-cut r kills) ∙ ap links (sym shape)
