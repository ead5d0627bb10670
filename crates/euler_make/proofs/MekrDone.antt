-- mekr: what each step asks for, and that the last one does what the row says.
use Rattle.std.proofs.Common.{◌≡◌, ◌≢◌, List, [], ◌∷◌, ◌++◌, Option, Some, None, sym, ap, subst, ◌∙◌, arith}
use Rattle.std.specs.Prelude.{Contains, IfSome, IsTrue}
use Rattle.std.specs.List.{AllByRecursion}
use Rattle.std.specs.FinMap.{get}
use Rattle.pk_base.specs.Building.{Building}
use Rattle.pk_base.specs.declared.tag.Tag.{Tag}
use Rattle.pk_base.specs.declared.call.Call.TheVariants.{Mekr}
use Rattle.pk_base.specs.declared.entity.Entity.TheVariants as entity
use Rattle.pk_model.specs.Apart.{NoRepeats}
use Rattle.pk_model.specs.Maps.{EntityMap, with_entity}
use Rattle.pk_model.specs.Tags.{owns}
use Rattle.list_facts.proofs.Each.{ByRecursion-weaker}
use Rattle.entity_store.specs.NextTags.{TagsView, left}
use Rattle.entity_store.specs.Recorder.{began}
use Rattle.entity_store.specs.Recording.{HasRoomFor, recorded_put}
use Rattle.entity_store.specs.Store.{IsHosted, Stored, StoreView}
use Rattle.solid_model.specs.Items.{item_at}
use Rattle.solid_model.specs.Places.{End}
use Rattle.solid_model.specs.Rings.{first_tag, from_least, ends_of}
use Rattle.solid_model.specs.Room.{tags_put}
use Rattle.solid_model.specs.Shapes.{shape_of}
use Rattle.solid_sound.proofs.rows.Asked.{free_item}
use Rattle.solid_sound.proofs.rows.KeptMekr.{mekr-keeps}
use Rattle.solid_sound.proofs.rows.RowKeeps.{well-shape}
use Rattle.solid_calls.specs.Attributes.{attributes_on}
use Rattle.halfedge.specs.LinkedRings.{IsInRing, Relabels, Relinks, ring_at, ring_of_any}
use Rattle.solid_calls.specs.Pairs.{HasDone}
use Rattle.entity_store.specs.Room.{HasRoomForThese, PutsAmong}
use Rattle.solid_calls.proofs.Kept.{done-sound}
use Rattle.halfedge.proofs.LinkedRings.{in-ring_from, ring_at-is}
use Rattle.solid_edits.specs.Deaths.{Dies}
use Rattle.solid_edits.proofs.KilledMaps.{GainsNoAttribute, kills-one}
use Rattle.solid_edits.proofs.Stages.{IsStage, stage-none, stage-owns, stage-room, stage-room_one, stage-then}
use Rattle.solid_places.specs.declared.ends.End.{End as FoundEnd}
use Rattle.solid_edits.specs.NewEdges.{with_edge}
use Rattle.solid_edits.proofs.MadeEdges.{HasEdge}
use Rattle.euler_make.proofs.MekrReached.{mekr-attribute, mekr-body_live, mekr-body_owned, mekr-has_edge, mekr-joined, mekr-kept, mekr-loop_hosted, mekr-loop_live, mekr-no_fin, mekr-once, mekr-puts, mekr-reached, mekr-ring_owned, mekr_tags}
use Rattle.euler_make.proofs.MekrFound.{AreNew, are-new, edge_between, end_in, IsReady, mekr-cost}
use Rattle.euler_make.proofs.MekrSteps.{mekr-four, mekr-has_a, mekr-has_dead, mekr-has_ends, mekr-has_loop, mekr-has_new, mekr-one, mekr-three, mekr-two, of-both}

module _ {s0 : StoreView} {k r : Tag} {x y : FoundEnd} {tags : TagsView} {out : Building Tag} {e f h : Tag} (ready : IsReady s0 k r x y tags out e f h) where
  abbrev m : EntityMap
  m = s0.state.map

  abbrev u : End
  u = end_in m x

  abbrev v : End
  v = end_in m y

  abbrev A : List Tag
  A = ring_of_any m y.first

  abbrev B : List Tag
  B = ring_of_any m x.first

  -- all the tags that are put
  abbrev all : List Tag
  all = mekr_tags m k r u v x.first y.first ready.at e f h

  new : AreNew s0 e f h
  new = are-new s0 (left tags) e f h ready.rest ready.taken ready.has.ascend ready.has.free ready.has.owned

  puts : tags_put (shape_of m) (Mekr k r) (left tags) ≡ all
  puts = mekr-puts m k r u v x.first y.first ready.at e f h (left tags) ready.rest ready.taken

  room : HasRoomForThese s0.recording all
  room = subst (HasRoomForThese s0.recording) puts ready.may.room

  loop_hosted : (first : Option Tag) → IsHosted s0.state.blocks u.loop_ (entity.Loop u.face first None)
  loop_hosted = mekr-loop_hosted m k r u v x.first y.first ready.at s0.state.blocks ready.hosted

  pub ring-there : IfSome y.first (IsInRing m)
  ring-there = ready.at.joined_ring

  pub ring-owned : IsTrue (owns s0.state.blocks u.loop_)
  ring-owned = (loop_hosted None).owned

  pub ring-other : ¬ (Contains A u.loop_)
  ring-other = mekr-no_fin m k r u v x.first y.first ready.at

  pub ring-room : HasRoomForThese s0.recording A
  ring-room = stage-room all A s0 s0 room (stage-none all s0) (mekr-has_a s0 k r u v x.first y.first ready.at e f h)

  -- ---- the ring is given to the loop

  module _ (s1 : StoreView) (labels : Relabels m A u.loop_ s1.state.map) (state1 : s1.state ≡ record s0.state { map = s1.state.map }) (puts1 : PutsAmong A s0 s1) where
    one : IsStage all s0 s1
    one = mekr-one s0 k r u v x.first y.first ready.at e f h s1 state1 puts1

    pub edge-owned : AllByRecursion (λ t. IsTrue (owns s1.state.blocks t)) (e ∷ f ∷ h ∷ u.body ∷ u.loop_ ∷ u.loop_ ∷ [])
    edge-owned =
        let body = mekr-body_owned m k r u v x.first y.first ready.at s0.state.blocks ready.hosted in
        subst (λ (s : Stored). AllByRecursion (λ (t : Tag). IsTrue (owns s.blocks t)) (e ∷ f ∷ h ∷ u.body ∷ u.loop_ ∷ u.loop_ ∷ [])) (sym one.state)
        (new.owned.0, (new.owned.1.0, (new.owned.1.1.0, (body, (ring-owned, (ring-owned, tt))))))

    pub edge-other : u.body ≢ e
    edge-other = mekr-body_live m k r u v x.first y.first ready.at e new.free.0

    pub fin-other : u.loop_ ≢ f
    fin-other = mekr-loop_live m k r u v x.first y.first ready.at f new.free.1.0

    pub mate-other : u.loop_ ≢ h
    mate-other = mekr-loop_live m k r u v x.first y.first ready.at h new.free.1.1.0

    pub edge-room : HasRoomForThese s1.recording (e ∷ f ∷ h ∷ [])
    edge-room = stage-room all (e ∷ f ∷ h ∷ []) s0 s1 room one (mekr-has_new s0 k r u v x.first y.first ready.at e f h)

    -- ---- the edge is put

    module _ (s2 : StoreView) (state2 : s2.state ≡ record s1.state { map = with_edge s1.state.map (edge_between u v e f h) }) (puts2 : PutsAmong (e ∷ f ∷ h ∷ []) s1 s2) where
      abbrev A2 : List Tag
      A2 = ring_of_any s2.state.map y.first

      abbrev B2 : List Tag
      B2 = ring_of_any s2.state.map x.first

      two : IsStage all s0 s2
      two = mekr-two s0 k r u v x.first y.first ready.at e f h s1 s2 one (with_edge s1.state.map (edge_between u v e f h)) state2 puts2

      made : s2.state.map ≡ with_edge s1.state.map (edge_between u v e f h)
      made = ap (λ (s : Stored). s.map) state2

      joined : (A2 ≡ A) × IfSome y.first (IsInRing s2.state.map)
      joined = mekr-joined m k r u v x.first y.first ready.at e f h new.once new.free s1.state.map s2.state.map labels made

      kept : (B2 ≡ B) × IfSome x.first (IsInRing s2.state.map)
      kept = mekr-kept m k r u v x.first y.first ready.at e f h new.once new.free s1.state.map s2.state.map labels made

      -- what is said of the rings as they were is said of them as they are, and back
      now : (P : List Tag → List Tag → Type 0) → P A B → P A2 B2
      now P = of-both P A B A2 B2 (sym joined.0) (sym kept.0)

      was : (P : List Tag → List Tag → Type 0) → P A2 B2 → P A B
      was P = of-both P A2 B2 A B joined.0 kept.0

      pub pair-at : IfSome x.first (IsInRing s2.state.map)
      pair-at = kept.1

      pub pair-ring : IfSome y.first (IsInRing s2.state.map)
      pair-ring = joined.1

      pub pair-edge : HasEdge s1.state.map (edge_between u v e f h) s2.state.map
      pair-edge = mekr-has_edge m k r u v x.first y.first ready.at e f h new.once new.free s1.state.map s2.state.map labels made

      pub pair-apart : NoRepeats (f ∷ A2 ++ h ∷ B2)
      pair-apart = now (λ p q. NoRepeats (f ∷ p ++ h ∷ q)) (mekr-once m k r u v x.first y.first ready.at e f h new.once new.free s1.state.map s2.state.map labels made)

      pub pair-room : HasRoomForThese s2.recording (f ∷ h ∷ ends_of A2 ++ ends_of B2)
      pair-room =
          now (λ p q. HasRoomForThese s2.recording (f ∷ h ∷ ends_of p ++ ends_of q))
          (stage-room all (f ∷ h ∷ ends_of A ++ ends_of B) s0 s2 room two (mekr-has_ends s0 k r u v x.first y.first ready.at e f h))

      -- ---- the rings are linked to one

      module _ (s3 : StoreView) (links : Relinks s2.state.map (A2 ∷ B2 ∷ (f ∷ []) ∷ (h ∷ []) ∷ []) s3.state.map ((f ∷ A2 ++ h ∷ B2) ∷ []))
          (state3 : s3.state ≡ record s2.state { map = s3.state.map }) (puts3 : PutsAmong (f ∷ h ∷ ends_of A2 ++ ends_of B2) s2 s3) where
        three : IsStage all s0 s3
        three = mekr-three s0 k r u v x.first y.first ready.at e f h s2 s3 two state3 (was (λ p q. PutsAmong (f ∷ h ∷ ends_of p ++ ends_of q) s2 s3) puts3)

        joins : Relinks s2.state.map (A ∷ B ∷ (f ∷ []) ∷ (h ∷ []) ∷ []) s3.state.map ((f ∷ A ++ h ∷ B) ∷ [])
        joins = was (λ p q. Relinks s2.state.map (p ∷ q ∷ (f ∷ []) ∷ (h ∷ []) ∷ []) s3.state.map ((f ∷ p ++ h ∷ q) ∷ [])) links

        pub loop-ring : IsInRing s3.state.map f
        loop-ring = in-ring_from s3.state.map f (A ++ h ∷ B) joins.rings.0

        pub loop-owned : IsTrue (owns s3.state.blocks u.loop_)
        loop-owned = stage-owns all s0 s3 u.loop_ three ring-owned

        pub loop-hosted : (least : Tag) → IsHosted s3.state.blocks u.loop_ (entity.Loop u.face (Some least) None)
        loop-hosted least = subst (λ (s : Stored). IsHosted s.blocks u.loop_ (entity.Loop u.face (Some least) None)) (sym three.state) (loop_hosted (Some least))

        pub loop-room : HasRoomFor s3.recording u.loop_
        loop-room = stage-room_one all s0 s3 u.loop_ room three (mekr-has_loop s0 k r u v x.first y.first ready.at e f h)

        -- ---- the loop is put, and names the least fin of its ring

        module _ (least : Tag) (least_is : first_tag (from_least (ring_at s3.state.map f)) ≡ Some least) (s4 : StoreView)
            (state4 : s4.state ≡ record s3.state { map = with_entity s3.state.map u.loop_ (Some (entity.Loop u.face (Some least) None)) }) (began4 : began s4 ≡ began s3)
            (recorded4 : s4.recording ≡ record s3.recording { first = recorded_put s3.recording.first u.loop_ (get s3.state.map u.loop_) }) where
          four : IsStage all s0 s4
          four = mekr-four s0 k r u v x.first y.first ready.at e f h s3 s4 (entity.Loop u.face (Some least) None) three state4 began4 recorded4

          put : s4.state.map ≡ with_entity s3.state.map u.loop_ (Some (entity.Loop u.face (Some least) None))
          put = ap (λ (s : Stored). s.map) state4

          first_is : first_tag (from_least (f ∷ A ++ h ∷ B)) ≡ Some least
          first_is = ap (λ ts. first_tag (from_least ts)) (sym (ring_at-is s3.state.map f (A ++ h ∷ B) joins.rings.0)) ∙ least_is

          same_attributes : GainsNoAttribute m s4.state.map
          same_attributes = mekr-attribute m k r u v x.first y.first ready.at e f h new.once new.free s1.state.map s2.state.map labels made s3.state.map s4.state.map joins least first_is put

          pub dead-owned : IsTrue (owns s4.state.blocks v.loop_)
          dead-owned = stage-owns all s0 s4 v.loop_ four (mekr-ring_owned m k r u v x.first y.first ready.at s0.state.blocks ready.hosted)

          pub dead-room : HasRoomForThese s4.recording (v.loop_ ∷ attributes_on s4.state.map v.loop_)
          dead-room = stage-room all (v.loop_ ∷ attributes_on s4.state.map v.loop_) s0 s4 room four (mekr-has_dead s0 k r u v x.first y.first ready.at e f h s4.state.map same_attributes)

          -- ---- the loop of the ring dies

          module _ (s5 : StoreView) (dies : Dies s4.state.map v.loop_ s5.state.map) (state5 : s5.state ≡ record s4.state { map = s5.state.map })
              (puts5 : PutsAmong (v.loop_ ∷ attributes_on s4.state.map v.loop_) s4 s5) where
            five : IsStage all s0 s5
            five =
                stage-then all (v.loop_ ∷ attributes_on s4.state.map v.loop_) s0 s4 s5 four
                (mekr-has_dead s0 k r u v x.first y.first ready.at e f h s4.state.map same_attributes) state5 puts5

            pub mekr-done : HasDone s0 (Mekr k r) (left tags) s5
            mekr-done =
                let S = shape_of m in
                let map_is =
                mekr-reached m k r u v x.first y.first ready.at e f h new.once new.free s1.state.map s2.state.map labels made s3.state.map s4.state.map joins least first_is put new.less
                s5.state.map (kills-one s4.state.map s5.state.map v.loop_ dies) (left tags) ready.rest ready.taken ready.has.ascend ready.has.free in
                let cost = mekr-cost S k r ready.may.goes in
                let items = ByRecursion-weaker (λ (t : Tag). get m t ≡ None) (λ (t : Tag). item_at S t ≡ None) (λ t none. free_item m ready.may.sound t none) (left tags) ready.has.free in
                let keeps = mekr-keeps S (left tags) k r (well-shape m ready.may.sound) ready.has.ascend items in
                let state = five.state ∙ ap (λ (z : EntityMap). record s0.state { map = z }) map_is in
                record {
                  state = state;
                  sound = done-sound s0 s5 (Mekr k r) (left tags) ready.may.sound (omega (arith, cost, ready.has.enough)) keeps state;
                  puts = subst (λ ts. PutsAmong ts s0 s5) (sym puts) five.puts;
                }
