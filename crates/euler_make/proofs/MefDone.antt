-- mef: what each step asks for, and that the last one does what the row says.
use Rattle.std.proofs.Common.{◌≡◌, ⊎_elim, List, [], ◌∷◌, ◌++◌, Some, refl, sym, ap, subst, ◌∙◌, arith}
use Rattle.std.specs.Prelude.{Contains, IsTrue}
use Rattle.std.specs.FinMap.{get}
use Rattle.std.specs.List.{AllByRecursion}
use Rattle.std.proofs.lemmas.List.Elements.{Contains-append_left, Contains-append_right, Contains-append_cases}
use Rattle.pk_base.specs.declared.tag.Tag.{Tag}
use Rattle.pk_base.specs.declared.call.Call.TheVariants.{Mef}
use Rattle.pk_base.specs.declared.entity.Entity.TheVariants as entity
use Rattle.pk_model.specs.Apart.{NoRepeats}
use Rattle.pk_model.specs.Maps.{EntityMap, with_entity}
use Rattle.pk_model.specs.Tags.{owns}
use Rattle.list_facts.proofs.Elements.{Contains-only}
use Rattle.entity_store.specs.Recorder.{began}
use Rattle.entity_store.specs.Recording.{HasRoomFor, recorded_put}
use Rattle.entity_store.specs.Store.{IsHosted, Stored, StoreView}
use Rattle.solid_model.specs.Sound.{IsSound}
use Rattle.solid_sound.proofs.rows.RowKeeps.{sound-links}
use Rattle.solid_model.specs.Items.{Shape, ◌with◌}
use Rattle.solid_model.specs.Links.{links}
use Rattle.solid_model.specs.Places.{PlacedFin}
use Rattle.solid_model.specs.Rings.{before, from, ends_of}
use Rattle.solid_model.specs.Shapes.{shape_of}
use Rattle.halfedge.specs.LinkedRings.{IsInRing, IsRing, Relabels, Relinks, ring_at}
use Rattle.solid_calls.specs.Pairs.{HasDone}
use Rattle.entity_store.specs.Room.{HasRoomForThese, PutsAmong}
use Rattle.solid_model.proofs.lists.Neighbours.{before-from}
use Rattle.solid_calls.proofs.Represented.{Represents, represented}
use Rattle.solid_edits.specs.NewEdges.{with_edge}
use Rattle.solid_edits.proofs.Hosted.{hosted-face}
use Rattle.solid_edits.proofs.Puts.{both-ends_among, each-among}
use Rattle.solid_edits.proofs.Stages.{IsStage, only-put, stage-none, stage-owns, stage-put, stage-room, stage-room_one, stage-then}
use Rattle.solid_edits.proofs.EditedMaps.{with_loop}
use Rattle.euler_make.proofs.MefFound.{mef_edge, mef_items, MefGoes, mef_puts}
use Rattle.euler_make.proofs.MefReached.{mef-represented}
use Rattle.euler_make.proofs.MefSteps.{mef_made, first_not, looped-in_ring, made-in_ring, made-ring_at, made-edge, mef-reached, named-in_ring, parted-in_ring, parted-ring_at, parts-apart}

-- what the ring is asked for, to be parted
pub record AsksParted (n : EntityMap) (f g x y : Tag) : Type 0 where
  pub ring : IsInRing n f
  pub among : Contains (ring_at n f) g
  pub x_ring : IsRing n (x ∷ [])
  pub y_ring : IsRing n (y ∷ [])
  pub apart : NoRepeats (ring_at n f ++ x ∷ y ∷ [])

module _ {s : StoreView} {f g : Tag} {u : PlacedFin} {v : Tag} {tags : List Tag} {face l edge x y : Tag} (G : MefGoes s f g u v tags face l edge x y) where
  abbrev S : Shape
  S = shape_of s.state.map

  abbrev ts : List Tag
  ts = mef_puts u face l edge x y

  -- the fins are among the tags that are put
  fins_among : (t : Tag) → Contains u.fins t → Contains ts t
  fins_among t k = Contains-append_right (face ∷ l ∷ edge ∷ x ∷ y ∷ u.loop_ ∷ []) u.fins t k

  pub face-hosted : IsHosted s.state.blocks face (entity.Face u.shell l)
  face-hosted = hosted-face s.state.blocks face u.shell l G.owned.0 G.known.0 G.shell_apart.0

  pub face-room : HasRoomFor s.recording face
  face-room = stage-room_one ts s s face G.room (stage-none ts s) (0, omega arith, refl)

  abbrev made : EntityMap
  made = mef_made s.state.map u v face l edge x y

  asks_made : AsksParted made f g x y
  asks_made = record {
    ring = made-in_ring S s.state.map G.well G.rep f g v face l edge x y u G.fin G.once G.free G.other G.g_in G.ring;
    among = subst (λ q. Contains q g) (sym at) G.g_in;
    x_ring = (made-edge S s.state.map G.well G.rep f g v face l edge x y u G.fin G.once G.free G.other G.g_in G.ring).fin_ring;
    y_ring = (made-edge S s.state.map G.well G.rep f g v face l edge x y u G.fin G.once G.free G.other G.g_in G.ring).mate_ring;
    apart = subst (λ q. NoRepeats (q ++ x ∷ y ∷ [])) (sym at) (parts-apart S s.state.map G.well G.rep f g v face l edge x y u G.fin G.once G.free G.other G.g_in G.ring);
  }
    where
      at : ring_at made f ≡ u.fins
      at = made-ring_at S s.state.map G.well G.rep f g v face l edge x y u G.fin G.once G.free G.other G.g_in G.ring

  -- ---- once the face is put

  module _ (s0 : StoreView) (state0 : s0.state ≡ record s.state { map = with_entity s.state.map face (Some (entity.Face u.shell l)) }) (began0 : began s0 ≡ began s)
      (recorded0 : s0.recording ≡ record s.recording { first = recorded_put s.recording.first face (get s.state.map face) }) where
    zero : IsStage ts s s0
    zero = stage-put ts s s s0 face (Some (entity.Face u.shell l)) (stage-none ts s) (0, omega arith, refl) state0 began0 recorded0

    abbrev three_new : List Tag
    three_new = edge ∷ x ∷ y ∷ []

    new_among : (t : Tag) → Contains three_new t → Contains ts t
    new_among t k = each-among three_new ts ((2, omega arith, refl), ((3, omega arith, refl), ((4, omega arith, refl), tt))) t k

    pub edge-owned : AllByRecursion (λ t. IsTrue (owns s0.state.blocks t)) (edge ∷ x ∷ y ∷ u.body ∷ l ∷ u.loop_ ∷ [])
    edge-owned = subst (λ (z : Stored). AllByRecursion (λ t. IsTrue (owns z.blocks t)) (edge ∷ x ∷ y ∷ u.body ∷ l ∷ u.loop_ ∷ [])) (sym zero.state)
        (G.owned.1.1.0, (G.owned.1.1.1.0, (G.owned.1.1.1.1.0, (G.known.1.0, (G.owned.1.0, (G.known.1.1.0, tt))))))

    pub edge-room : HasRoomForThese s0.recording three_new
    edge-room = stage-room ts three_new s s0 G.room zero new_among

    -- ---- once the edge is put

    module _ (s1 : StoreView) (state1 : s1.state ≡ record s0.state { map = with_edge s0.state.map (mef_edge u v l edge x y) }) (puts1 : PutsAmong three_new s0 s1) where
      abbrev m1 : EntityMap
      m1 = s1.state.map

      map1 : m1 ≡ made
      map1 = ap (λ (z : Stored). z.map) state1 ∙ ap (λ (z : Stored). with_edge z.map (mef_edge u v l edge x y)) state0

      one : IsStage ts s s1
      one = stage-then ts three_new s s0 s1 zero new_among (only-put s0.state s1.state _ state1) puts1

      pub asks-parted : AsksParted m1 f g x y
      asks-parted = subst (λ n. AsksParted n f g x y) (sym map1) asks_made

      ring1 : ring_at m1 f ≡ u.fins
      ring1 = ap (λ n. ring_at n f) map1 ∙ made-ring_at S s.state.map G.well G.rep f g v face l edge x y u G.fin G.once G.free G.other G.g_in G.ring

      abbrev linked : List Tag
      linked = x ∷ y ∷ ends_of (before g (ring_at m1 f)) ++ ends_of (from g (ring_at m1 f))

      linked_among : (t : Tag) → Contains linked t → Contains ts t
      linked_among t k = ⊎_elim {C = Contains ts t}
          (λ (e : Contains (x ∷ y ∷ []) t). each-among (x ∷ y ∷ []) ts ((3, omega arith, refl), ((4, omega arith, refl), tt)) t e)
          (λ (q : Contains (ends_of (before g (ring_at m1 f)) ++ ends_of (from g (ring_at m1 f))) t).
          both-ends_among (before g (ring_at m1 f)) (from g (ring_at m1 f)) ts (λ a j. fins_among a (subst (λ z. Contains z a) (before-from g (ring_at m1 f) ∙ ring1) j)) t q)
          (Contains-append_cases (x ∷ y ∷ []) (ends_of (before g (ring_at m1 f)) ++ ends_of (from g (ring_at m1 f))) t k)

      pub parted-room : HasRoomForThese s1.recording linked
      parted-room = stage-room ts linked s s1 G.room one linked_among

      -- ---- once the ring is parted

      module _ (s2 : StoreView) (links2 : Relinks m1 (ring_at m1 f ∷ (x ∷ []) ∷ (y ∷ []) ∷ []) s2.state.map ((before g (ring_at m1 f) ++ x ∷ []) ∷ (from g (ring_at m1 f) ++ y ∷ []) ∷ []))
          (state2 : s2.state ≡ record s1.state { map = s2.state.map }) (puts2 : PutsAmong linked s1 s2) where
        abbrev m2 : EntityMap
        m2 = s2.state.map

        parted : Relinks made (ring_at made f ∷ (x ∷ []) ∷ (y ∷ []) ∷ []) m2 ((before g (ring_at made f) ++ x ∷ []) ∷ (from g (ring_at made f) ++ y ∷ []) ∷ [])
        parted = subst (λ n. Relinks n (ring_at n f ∷ (x ∷ []) ∷ (y ∷ []) ∷ []) m2 ((before g (ring_at n f) ++ x ∷ []) ∷ (from g (ring_at n f) ++ y ∷ []) ∷ [])) map1 links2

        two : IsStage ts s s2
        two = stage-then ts linked s s1 s2 one linked_among state2 puts2

        ring2 : ring_at m2 f ≡ before g u.fins ++ x ∷ []
        ring2 = parted-ring_at S s.state.map G.well G.rep f g v face l edge x y u G.fin G.once G.free G.other G.g_in G.ring m2 parted

        pub label-ring : IsInRing m2 f
        label-ring = parted-in_ring S s.state.map G.well G.rep f g v face l edge x y u G.fin G.once G.free G.other G.g_in G.ring m2 parted

        pub label-owned : IsTrue (owns s2.state.blocks l)
        label-owned = stage-owns ts s s2 l two G.owned.1.0

        pub label-other : ¬ (Contains (ring_at m2 f) l)
        label-other k = (first_not S s.state.map G.well G.rep f g v face l edge x y u G.fin G.once G.free G.other G.g_in G.ring l (subst (λ z. Contains z l) ring2 k)).0 refl

        named_among : (t : Tag) → Contains (ring_at m2 f) t → Contains ts t
        named_among t k = ⊎_elim {C = Contains ts t}
            (λ (a : Contains (before g u.fins) t). fins_among t (subst (λ z. Contains z t) (before-from g u.fins) (Contains-append_left (before g u.fins) (from g u.fins) t a)))
            (λ (a : Contains (x ∷ []) t). subst (Contains ts) (Contains-only x t a) (3, omega arith, refl))
            (Contains-append_cases (before g u.fins) (x ∷ []) t (subst (λ z. Contains z t) ring2 k))

        pub label-room : HasRoomForThese s2.recording (ring_at m2 f)
        label-room = stage-room ts (ring_at m2 f) s s2 G.room two named_among

        -- ---- once the first part names the new loop

        module _ (s3 : StoreView) (labels3 : Relabels m2 (ring_at m2 f) l s3.state.map) (state3 : s3.state ≡ record s2.state { map = s3.state.map }) (puts3 : PutsAmong (ring_at m2 f) s2 s3) where
          abbrev m3 : EntityMap
          m3 = s3.state.map

          three : IsStage ts s s3
          three = stage-then ts (ring_at m2 f) s s2 s3 two named_among state3 puts3

          pub first-ring : IsInRing m3 f
          first-ring = named-in_ring S s.state.map G.well G.rep f g v face l edge x y u G.fin G.once G.free G.other G.g_in G.ring m2 parted m3 labels3

          pub first-owned : IsTrue (owns s3.state.blocks l)
          first-owned = stage-owns ts s s3 l three G.owned.1.0

          pub first-face_owned : IsTrue (owns s3.state.blocks face)
          first-face_owned = stage-owns ts s s3 face three G.owned.0

          pub first-room : HasRoomFor s3.recording l
          first-room = stage-room_one ts s s3 l G.room three (1, omega arith, refl)

          -- ---- once the new loop is put

          module _ (s4 : StoreView) (state4 : s4.state ≡ record s3.state { map = with_loop m3 l face f }) (puts4 : PutsAmong (l ∷ []) s3 s4) where
            abbrev m4 : EntityMap
            m4 = s4.state.map

            map4 : m4 ≡ with_loop m3 l face f
            map4 = ap (λ (z : Stored). z.map) state4

            l_among : (t : Tag) → Contains (l ∷ []) t → Contains ts t
            l_among t k = each-among (l ∷ []) ts ((1, omega arith, refl), tt) t k

            fourth : IsStage ts s s4
            fourth = stage-then ts (l ∷ []) s s3 s4 three l_among (only-put s3.state s4.state (with_loop m3 l face f) state4) puts4

            pub second-ring : IsInRing m4 g
            second-ring = subst (λ n. IsInRing n g) (sym map4) (looped-in_ring S s.state.map G.well G.rep f g v face l edge x y u G.fin G.once G.free G.other G.g_in G.ring m2 parted m3 labels3)

            pub second-owned : IsTrue (owns s4.state.blocks u.loop_)
            second-owned = stage-owns ts s s4 u.loop_ fourth G.known.1.1.0

            pub second-face_owned : IsTrue (owns s4.state.blocks u.face)
            second-face_owned = stage-owns ts s s4 u.face fourth G.known.1.1.1.0

            pub second-room : HasRoomFor s4.recording u.loop_
            second-room = stage-room_one ts s s4 u.loop_ G.room fourth (5, omega arith, refl)

            -- ---- once the old loop is put

            module _ (s5 : StoreView) (state5 : s5.state ≡ record s4.state { map = with_loop m4 u.loop_ u.face g }) (puts5 : PutsAmong (u.loop_ ∷ []) s4 s5) where
              abbrev R : Shape
              R = S with mef_items u g v face l edge x y

              map5 : s5.state.map ≡ with_loop (with_loop m3 l face f) u.loop_ u.face g
              map5 = ap (λ (z : Stored). z.map) state5 ∙ ap (λ n. with_loop n u.loop_ u.face g) map4

              shows : Represents R (with_loop (with_loop m3 l face f) u.loop_ u.face g)
              shows = mef-represented S s.state.map (with_loop (with_loop m3 l face f) u.loop_ u.face g) G.well G.rep f g v face l edge x y u G.fin G.once G.free G.less
                  (mef-reached S s.state.map G.well G.rep f g v face l edge x y u G.fin G.once G.free G.other G.g_in G.ring m2 parted m3 labels3)

              loop_among : (t : Tag) → Contains (u.loop_ ∷ []) t → Contains ts t
              loop_among t k = each-among (u.loop_ ∷ []) ts ((5, omega arith, refl), tt) t k

              fifth : IsStage ts s s5
              fifth = stage-then ts (u.loop_ ∷ []) s s4 s5 fourth loop_among (only-put s4.state s5.state (with_loop m4 u.loop_ u.face g) state5) puts5

              pub mef-done : HasDone s (Mef f g) tags s5
              mef-done = record {
                state = fifth.state ∙ ap (λ (n : EntityMap). record s.state { map = n }) (map5 ∙ represented R _ G.reached_well shows ∙ ap links (sym G.is));
                sound = subst IsSound (sym (map5 ∙ represented R _ G.reached_well shows)) (sound-links R G.reached_well);
                puts = subst (λ ps. PutsAmong ps s s5) (sym G.puts) fifth.puts;
              }
