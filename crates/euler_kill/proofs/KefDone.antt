-- kef: what each step asks for, and that the last one does what the row says.
use Rattle.std.proofs.Common.{◌≡◌, ⊎_elim, List, [], ◌∷◌, ◌++◌, drop, Some, refl, sym, ap, subst, ◌∙◌, arith}
use Rattle.std.specs.Prelude.{IsSome, is_some, Contains, IsTrue}
use Rattle.std.specs.List.{AllByRecursion}
use Rattle.std.proofs.lemmas.List.Elements.{Contains-append_left, Contains-append_right, Contains-append_cases}
use Rattle.std.proofs.lemmas.Option.{same_Some}
use Rattle.pk_base.specs.declared.tag.Tag.{Tag}
use Rattle.pk_base.specs.declared.call.Call.TheVariants.{Kef}
use Rattle.pk_model.specs.Maps.{EntityMap}
use Rattle.pk_model.specs.Tags.{owns}
use Rattle.list_facts.proofs.Each.{ByRecursion-left, ByRecursion-right, ByRecursion-weaker}
use Rattle.list_facts.proofs.Elements.{Contains-first, Contains-later}
use Rattle.entity_store.specs.Recording.{HasRoomFor}
use Rattle.entity_store.specs.Room.{HasRoomForThese, PutsAmong}
use Rattle.entity_store.specs.Store.{Stored, StoreView}
use Rattle.entity_store.proofs.Room.{puts-wider}
use Rattle.solid_model.specs.Deaths.{◌without◌}
use Rattle.solid_model.specs.Items.{Shape, ◌with◌}
use Rattle.solid_model.specs.Places.{PlacedFin}
use Rattle.solid_model.specs.Rings.{ends_of}
use Rattle.solid_model.specs.Shapes.{shape_of}
use Rattle.halfedge.specs.LinkedRings.{IsInRing, IsRing, Relabels, Relinks, mate_in, next_at, ring_at}
use Rattle.solid_sound.proofs.rows.KeptKef.{kef-keeps}
use Rattle.solid_sound.proofs.rows.RowKeeps.{Keeps}
use Rattle.solid_model.specs.Rows.{changes}
use Rattle.solid_edits.proofs.Going.{done}
use Rattle.solid_calls.specs.Pairs.{HasDone}
use Rattle.solid_calls.proofs.Represented.{Represents, represented}
use Rattle.solid_edits.specs.Deaths.{Kills, with_attributes}
use Rattle.solid_edits.proofs.EditedMaps.{ends-among, with_loop}
use Rattle.solid_edits.proofs.KilledMaps.{GainsNoAttribute, kills-attribute, kills-then, with_attributes-own, with_attributes-within}
use Rattle.solid_edits.proofs.PlacedFins.{placed-class}
use Rattle.solid_edits.proofs.RemovedEdge.{cut-attributes, cut-represents, with_loops}
use Rattle.solid_edits.proofs.Stages.{IsStage, Within, only-put, stage-none, stage-owns, stage-room, stage-room_one, stage-then}
use Rattle.euler_kill.proofs.KefFound.{KefGoes, fin-other, first-among, kef_dead, kef_killed, kef_loops, kef_puts, kef_reaches}
use Rattle.euler_kill.proofs.KefSteps.{AsksJoined, asks-joined, joined-in_ring, kef-cut, loop-put, mate-ring_at, ring-is, x-goes_on, x-mate, x-next, x-ring_at}

module _ (s : StoreView) (x : Tag) (u v : PlacedFin) (G : KefGoes s x u v) where
  abbrev S : Shape
  S = shape_of s.state.map

  abbrev m : EntityMap
  m = s.state.map

  abbrev killed : List Tag
  killed = kef_killed x u

  -- the loop and the face of x, and the edge with its fins
  abbrev side : List Tag
  side = u.loop_ ∷ u.face ∷ []

  abbrev edge : List Tag
  edge = x ∷ u.mate ∷ u.edge ∷ []

  abbrev ts : List Tag
  ts = kef_puts m x u v

  u_ring : IsRing m u.fins
  u_ring = subst (IsRing m) (sym G.fin_fins) G.fin_ring.ring

  v_ring : IsRing m v.fins
  v_ring = subst (IsRing m) (sym G.mate_fins) G.mate_ring.ring

  -- the fin after x
  abbrev p : Tag
  p = (x-goes_on S m G.well G.rep x u v G.fin G.mate G.two u_ring v_ring).second

  next_is : next_at m x ≡ Some p
  next_is = x-next S m G.well G.rep x u v G.fin G.mate G.two u_ring v_ring

  pub next-some : IsSome (next_at m x)
  next-some = ap is_some next_is

  -- ---- the tags that are put

  dead_among : Within (kef_dead m x u) ts
  dead_among t k = Contains-append_left (kef_dead m x u) ((v.loop_ ∷ ends_of (drop 1 v.fins)) ++ u.fins) t k

  killed_among : Within killed ts
  killed_among t k = dead_among t (with_attributes-own m killed t k)

  others_among : Within ((v.loop_ ∷ ends_of (drop 1 v.fins)) ++ u.fins) ts
  others_among t k = Contains-append_right (kef_dead m x u) ((v.loop_ ∷ ends_of (drop 1 v.fins)) ++ u.fins) t k

  fins_among : Within u.fins ts
  fins_among t k = others_among t (Contains-append_right (v.loop_ ∷ ends_of (drop 1 v.fins)) u.fins t k)

  ends_among : Within (ends_of (drop 1 v.fins)) ts
  ends_among t k = others_among t (Contains-append_left (v.loop_ ∷ ends_of (drop 1 v.fins)) u.fins t (Contains-later v.loop_ (ends_of (drop 1 v.fins)) t k))

  loop_among : Within (v.loop_ ∷ []) ts
  loop_among t k = others_among t (Contains-append_left (v.loop_ ∷ ends_of (drop 1 v.fins)) u.fins t (Contains-append_left (v.loop_ ∷ []) (ends_of (drop 1 v.fins)) t k))

  ring_among : Within (ring_at m x) ts
  ring_among t k = fins_among t (subst (λ us. Contains us t) (sym G.fin_fins) k)

  -- ---- what the fins of x's ring are asked for, to name the other loop

  pub label-other : ¬ (Contains (ring_at m x) v.loop_)
  label-other k =
      fin-other S G.well x u v G.fin G.mate G.two v.loop_
      (placed-class G.well G.fin.end v.loop_ (subst (λ us. Contains us v.loop_) (sym G.fin_fins) k)) refl

  pub label-room : HasRoomForThese s.recording (ring_at m x)
  label-room = stage-room ts (ring_at m x) s s G.room (stage-none ts s) ring_among

  module _ (s1 : StoreView) (labels1 : Relabels m (ring_at m x) v.loop_ s1.state.map) (state1 : s1.state ≡ record s.state { map = s1.state.map }) (puts1 : PutsAmong (ring_at m x) s s1) where
    abbrev m1 : EntityMap
    m1 = s1.state.map

    labels : Relabels m u.fins v.loop_ m1
    labels = subst (λ us. Relabels m us v.loop_ m1) (sym G.fin_fins) labels1

    one : IsStage ts s s1
    one = stage-then ts (ring_at m x) s s s1 (stage-none ts s) ring_among state1 puts1

    -- ---- the rings

    pub kef-asks : AsksJoined m1 x
    kef-asks = asks-joined S m G.well G.rep x u v G.fin G.mate G.two u_ring v_ring m1 labels

    abbrev linked : List Tag
    linked = x ∷ mate_in m1 x ∷ ends_of (drop 1 (ring_at m1 x)) ++ ends_of (drop 1 (ring_at m1 (mate_in m1 x)))

    linked_are : linked ≡ (x ∷ u.mate ∷ []) ++ ends_of (drop 1 u.fins) ++ ends_of (drop 1 v.fins)
    linked_are =
        let here = x-ring_at S m G.well G.rep x u v G.fin G.mate G.two u_ring v_ring m1 labels in
        let there = mate-ring_at S m G.well G.rep x u v G.fin G.mate G.two u_ring v_ring m1 labels in
        let mate = x-mate S m G.well G.rep x u v G.fin G.mate G.two u_ring v_ring m1 labels in
        λ i. x ∷ mate i ∷ ends_of (drop 1 (here i)) ++ ends_of (drop 1 (there i))

    pair_among : Within (x ∷ u.mate ∷ []) ts
    pair_among t k = killed_among t (Contains-later u.loop_ (u.face ∷ x ∷ u.mate ∷ u.edge ∷ []) t (Contains-later u.face (x ∷ u.mate ∷ u.edge ∷ []) t (Contains-append_left (x ∷ u.mate ∷ []) (u.edge ∷ []) t k)))

    linked_among : Within linked ts
    linked_among t k = ⊎_elim {C = Contains ts t} (pair_among t)
        (λ (r : Contains (ends_of (drop 1 u.fins) ++ ends_of (drop 1 v.fins)) t). ⊎_elim {C = Contains ts t}
        (λ (a : Contains (ends_of (drop 1 u.fins)) t). fins_among t (first-among S G.well x u v G.fin G.mate G.two t (ends-among (drop 1 u.fins) t a)))
        (ends_among t)
        (Contains-append_cases (ends_of (drop 1 u.fins)) (ends_of (drop 1 v.fins)) t r))
        (Contains-append_cases (x ∷ u.mate ∷ []) (ends_of (drop 1 u.fins) ++ ends_of (drop 1 v.fins)) t (subst (λ us. Contains us t) linked_are k))

    pub joined-room : HasRoomForThese s1.recording linked
    joined-room = stage-room ts linked s s1 G.room one linked_among

    module _ (s2 : StoreView) (links2 : Relinks m1 (ring_at m1 x ∷ ring_at m1 (mate_in m1 x) ∷ []) s2.state.map ((drop 1 (ring_at m1 x) ++ drop 1 (ring_at m1 (mate_in m1 x))) ∷ (x ∷ []) ∷ (mate_in m1 x ∷ []) ∷ []))
        (state2 : s2.state ≡ record s1.state { map = s2.state.map }) (puts2 : PutsAmong linked s1 s2) (first : Tag) (first_is : next_at m x ≡ Some first) where
      abbrev m2 : EntityMap
      m2 = s2.state.map

      first_same : p ≡ first
      first_same = same_Some p first (sym next_is ∙ first_is)

      two : IsStage ts s s2
      two = stage-then ts linked s s1 s2 one linked_among state2 puts2

      -- ---- the loop

      pub loop-ring : IsInRing m2 first
      loop-ring = subst (IsInRing m2) first_same (joined-in_ring S m G.well G.rep x u v G.fin G.mate G.two u_ring v_ring m1 labels m2 links2)

      pub loop-owned : IsTrue (owns s2.state.blocks v.loop_)
      loop-owned = stage-owns ts s s2 v.loop_ two G.loop_owned

      pub loop-face_owned : IsTrue (owns s2.state.blocks v.face)
      loop-face_owned = stage-owns ts s s2 v.face two G.face_owned

      pub loop-room : HasRoomFor s2.recording v.loop_
      loop-room = stage-room_one ts s s2 v.loop_ G.room two (loop_among v.loop_ (Contains-first v.loop_ []))

      -- ---- once the loop is put

      module _ (s3 : StoreView) (state3 : s3.state ≡ record s2.state { map = with_loop m2 v.loop_ v.face first }) (puts3 : PutsAmong (v.loop_ ∷ []) s2 s3) where
        abbrev m3 : EntityMap
        m3 = s3.state.map

        map3 : m3 ≡ with_loops m2 (kef_loops u v)
        map3 =
            ap (λ (z : Stored). z.map) state3 ∙ ap (with_loop m2 v.loop_ v.face) (sym first_same)
            ∙ loop-put S m G.well G.rep x u v G.fin G.mate G.two u_ring v_ring m1 labels m2 links2

        three : IsStage ts s s3
        three = stage-then ts (v.loop_ ∷ []) s s2 s3 two loop_among (only-put s2.state s3.state (with_loop m2 v.loop_ v.face first) state3) puts3

        gains3 : GainsNoAttribute m m3
        gains3 = subst (GainsNoAttribute m) (sym map3) (cut-attributes G.well G.rep G.fin G.mate (kef-cut S m G.well G.rep x u v G.fin G.mate G.two u_ring v_ring m1 labels m2 links2))

        -- ---- the loop and the face of x die

        pub side-owned : AllByRecursion (λ t. IsTrue (owns s3.state.blocks t)) side
        side-owned = ByRecursion-weaker (λ t. IsTrue (owns s.state.blocks t)) (λ t. IsTrue (owns s3.state.blocks t)) (λ t k. stage-owns ts s s3 t three k) side (ByRecursion-left (λ t. IsTrue (owns s.state.blocks t)) side edge G.owned)

        side_among : Within (with_attributes m3 side) ts
        side_among t k = dead_among t (with_attributes-within m m3 killed side (Contains-append_left side edge) (λ o q j. gains3 o q) t k)

        pub side-room : HasRoomForThese s3.recording (with_attributes m3 side)
        side-room = stage-room ts (with_attributes m3 side) s s3 G.room three side_among

        module _ (s4 : StoreView) (kills4 : Kills m3 side s4.state.map) (state4 : s4.state ≡ record s3.state { map = s4.state.map }) (puts4 : PutsAmong (with_attributes m3 side) s3 s4) where
          abbrev m4 : EntityMap
          m4 = s4.state.map

          four : IsStage ts s s4
          four = stage-then ts (with_attributes m3 side) s s3 s4 three side_among state4 puts4

          -- ---- and the edge with its fins

          pub edge-owned : AllByRecursion (λ t. IsTrue (owns s4.state.blocks t)) edge
          edge-owned = ByRecursion-weaker (λ t. IsTrue (owns s.state.blocks t)) (λ t. IsTrue (owns s4.state.blocks t)) (λ t k. stage-owns ts s s4 t four k) edge (ByRecursion-right (λ t. IsTrue (owns s.state.blocks t)) side edge G.owned)

          edge_among : Within (with_attributes m4 edge) ts
          edge_among t k = dead_among t (with_attributes-within m m4 killed edge (Contains-append_right side edge) (λ o q j is. gains3 o q (kills-attribute m3 m4 side kills4 o q is)) t k)

          pub edge-room : HasRoomForThese s4.recording (with_attributes m4 edge)
          edge-room = stage-room ts (with_attributes m4 edge) s s4 G.room four edge_among

          module _ (s5 : StoreView) (kills5 : Kills m4 edge s5.state.map) (state5 : s5.state ≡ record s4.state { map = s5.state.map }) (puts5 : PutsAmong (with_attributes m4 edge) s4 s5) where
            five : IsStage ts s s5
            five = stage-then ts (with_attributes m4 edge) s s4 s5 four edge_among state5 puts5

            shows : Represents (kef_reaches S x u v) s5.state.map
            shows =
                let kills = kills-then m3 m4 s5.state.map side edge kills4 kills5 in
                subst (λ i. Represents (S with (v.loop_, i) ∷ [] without killed) s5.state.map) (ring-is S m G.well G.rep x u v G.fin G.mate G.two u_ring v_ring)
                (cut-represents G.well G.rep G.fin G.mate (kef-cut S m G.well G.rep x u v G.fin G.mate G.two u_ring v_ring m1 labels m2 links2) s5.state.map (subst (λ (n : EntityMap). Kills n killed s5.state.map) map3 kills))

            pub kef-done : HasDone s (Kef x) [] s5
            kef-done =
                done s s5 (Kef x) [] (changes (kef_reaches S x u v)) G.row G.sound (omega arith) (kef-keeps S [] x G.well)
                (five.state ∙ ap (λ (n : EntityMap). record s.state { map = n }) (represented (kef_reaches S x u v) s5.state.map (subst (Keeps []) G.row (kef-keeps S [] x G.well)) shows))
                (puts-wider ts _ s s5 five.puts G.among)
