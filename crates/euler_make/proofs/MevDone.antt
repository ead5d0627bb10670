-- mev: what each step asks for, and that the last one does what the row says.
use Rattle.std.proofs.Common.{◌≡◌, ◌≢◌, ⊎_elim, List, [], ◌∷◌, ◌++◌, Option, Some, None, refl, sym, ap, subst, ◌∙◌, take, arith}
use Rattle.std.specs.Prelude.{Contains, IfSome, IsTrue}
use Rattle.std.specs.Option.{option_map_or}
use Rattle.std.specs.List.{AllByRecursion}
use Rattle.std.specs.FinMap.{get}
use Rattle.std.proofs.lemmas.List.Elements.{Contains-append_left, Contains-append_right, Contains-append_cases}
use Rattle.pk_base.specs.Building.{Building}
use Rattle.pk_base.specs.declared.tag.Tag.{Tag}
use Rattle.pk_base.specs.declared.call.Call.TheVariants as call
use Rattle.pk_base.specs.declared.entity.Entity.TheVariants as entity
use Rattle.pk_base.specs.declared.entity.Point.{Point}
use Rattle.pk_base.specs.declared.entity.Triple.{Triple}
use Rattle.pk_model.specs.Apart.{NoRepeats}
use Rattle.pk_model.specs.Maps.{EntityMap, with_entity}
use Rattle.pk_model.specs.Tags.{TagsAscend, owns}
use Rattle.entity_store.specs.NextTags.{TagsView, left}
use Rattle.entity_store.specs.Recorder.{began}
use Rattle.entity_store.specs.Recording.{HasRoomFor, recorded_put}
use Rattle.entity_store.specs.Store.{IsHosted, Stored, StoreView}
use Rattle.solid_model.specs.Sound.{IsSound}
use Rattle.solid_model.specs.Items.{Shape, item_at, ◌with◌}
use Rattle.solid_model.specs.Items.Item.{Body, Loop}
use Rattle.solid_model.specs.Rings.{lesser, first_tag, from_least, ends_of}
use Rattle.solid_model.specs.Rows.{Row, cost_of}
use Rattle.solid_model.specs.Places.{End}
use Rattle.solid_model.specs.Ranges.{point_of}
use Rattle.solid_model.specs.Links.{links}
use Rattle.solid_model.specs.Shapes.{shape_of}
use Rattle.solid_model.specs.Mev.{mev}
use Rattle.list_facts.proofs.Elements.{Contains-later}
use Rattle.solid_sound.proofs.rows.Asked.{free_item}
use Rattle.solid_sound.proofs.edges.Ends.{EndIn, end-well}
use Rattle.solid_sound.proofs.rows.KeptMev.{mev-keeps}
use Rattle.solid_sound.proofs.rows.RowKeeps.{IsWell, well-shape, sound-links}
use Rattle.halfedge.specs.LinkedRings.{IsInRing, IsRing, Relinks, ring_of_any}
use Rattle.solid_calls.specs.Pairs.{HasDone, reached}
use Rattle.entity_store.specs.Room.{HasRoomForThese, PutsAmong}
use Rattle.list_facts.proofs.Each.{ByRecursion-weaker, ByRecursion-left}
use Rattle.solid_calls.proofs.Sizes.{apart-ascending, ascend-left}
use Rattle.pk_model.proofs.TagLists.{NoneOf}
use Rattle.solid_model.proofs.lists.Neighbours.{none-of}
use Rattle.solid_sound.proofs.shapes.Edits.{live-none_of}
use Rattle.solid_edits.proofs.Stages.{IsStage, Within, only-put, stage-none, stage-owns, stage-put, stage-room, stage-room_one, stage-then}
use Rattle.euler_make.specs.declared.mev.Strut.{Strut}
use Rattle.solid_places.specs.declared.ends.End.{End as PlacedEnd}
use Rattle.solid_edits.specs.Faces.{IsLoop}
use Rattle.euler_make.specs.FirstFins.{first_named}
use Rattle.solid_edits.specs.NewEdges.{with_edge}
use Rattle.solid_edits.specs.declared.new_edges.NewEdge.{NewEdge}
use Rattle.halfedge.proofs.LinkedRings.{any_ring}
use Rattle.solid_calls.proofs.Represented.{Represents, represented, represents-sound}
use Rattle.solid_calls.proofs.Kept.{reached-well}
use Rattle.solid_edits.proofs.PlacedFins.{placed-fin, placed-live}
use Rattle.euler_make.proofs.FirstFins.{first-more}
use Rattle.euler_make.proofs.MevSteps.{StrutPut, ring-more, strut-put, with_vertex}
use Rattle.euler_make.proofs.MevReached.{mev-represents}
use Rattle.euler_make.proofs.MevFound.{strut_edge, strut_items, mev-row, mev-reaches, IsReady}

module _ {old : StoreView} {end : Tag} {at : Triple} {place : PlacedEnd} {tags : TagsView} {out : Building Tag} {s : Strut} (r : IsReady old end at place tags out s) where
  abbrev m0 : EntityMap
  m0 = old.state.map

  abbrev S : Shape
  S = shape_of m0

  abbrev u : End
  u = record { vertex = place.vertex; loop_ = place.loop_; face = place.face; body = place.body; fins = ring_of_any m0 place.first }

  abbrev news : List Tag
  news = s.vertex ∷ s.edge ∷ s.out ∷ s.back ∷ []

  well : IsWell S
  well = well-shape m0 r.may.sound

  rep : Represents S m0
  rep = represents-sound m0 r.may.sound

  E : EndIn S u
  E = end-well S well end (item_at S end) refl u r.found

  free : AllByRecursion (λ t. item_at S t ≡ None) news
  free =
      let maps = ByRecursion-left (λ t. get m0 t ≡ None) news r.rest (subst (AllByRecursion (λ t. get m0 t ≡ None)) r.taken r.has.free) in
      ByRecursion-weaker _ _ (λ t none. free_item m0 r.may.sound t none) news maps

  ascend : TagsAscend news
  ascend = ascend-left news r.rest (subst TagsAscend r.taken r.has.ascend)

  once : NoRepeats news
  once = apart-ascending news ascend

  owned : AllByRecursion (λ t. IsTrue (owns old.state.blocks t)) news
  owned = subst (λ ts. AllByRecursion (λ t. IsTrue (owns old.state.blocks t)) (take 4 ts)) r.taken r.has.owned

  body_hosted : IsHosted old.state.blocks place.body (entity.Body E.shell)
  body_hosted = r.hosted place.body (entity.Body E.shell) (rep.items place.body (Body E.shell) E.body_is)

  loop_there : get m0 place.loop_ ≡ Some (entity.Loop place.face (first_tag E.list) E.lone)
  loop_there = (rep.items place.loop_ (Loop place.face E.list E.lone) E.loop_is).0

  loop_hosted : IsHosted old.state.blocks place.loop_ (entity.Loop place.face (first_tag E.list) E.lone)
  loop_hosted = r.hosted place.loop_ (entity.Loop place.face (first_tag E.list) E.lone) loop_there

  body_apart : NoneOf place.body news
  body_apart = live-none_of S news place.body _ free E.body_is

  loop_apart : NoneOf place.loop_ news
  loop_apart = live-none_of S news place.loop_ _ free E.loop_is

  abbrev edge : NewEdge
  edge = strut_edge u s.vertex s.edge s.out s.back

  pub edge-other : place.body ≢ s.edge
  edge-other = body_apart.1.0

  pub fin-other : place.loop_ ≢ s.out
  fin-other = loop_apart.1.1.0

  pub mate-other : place.loop_ ≢ s.back
  mate-other = loop_apart.1.1.1.0

  -- ---- the first fin of the loop

  pub loop-is : (v : StoreView) → v ≡ old → IsLoop (get v.state.map place.loop_)
  loop-is v same = subst (λ (w : StoreView). IsLoop (get w.state.map place.loop_)) (sym same) (subst IsLoop (sym loop_there) tt)

  -- out comes to it, or is less
  pub least-is : (v : StoreView) (first : Option Tag) (low : Tag) → v ≡ old → first ≡ first_named (get v.state.map place.loop_) → low ≡ option_map_or (λ t. lesser t s.out) first s.out
      → first_tag (from_least (s.out ∷ s.back ∷ u.fins)) ≡ Some low
  least-is v first low same first_is low_is =
      let here : first ≡ first_tag E.list = subst (λ (w : StoreView). first ≡ first_named (get w.state.map place.loop_)) same first_is ∙ ap first_named loop_there in
      first-more E.list u.fins s.out s.back E.turned (well.written.loops place.loop_ place.face E.list E.lone E.loop_is) ascend.1.1.0.0
      ∙ ap Some (ap (λ o. option_map_or (λ t. lesser t s.out) o s.out) (sym here) ∙ sym low_is)

  -- ---- the tags that are put

  abbrev all : List Tag
  all = s.vertex ∷ s.edge ∷ s.out ∷ s.back ∷ place.loop_ ∷ ends_of u.fins

  abbrev edge_tags : List Tag
  edge_tags = s.edge ∷ s.out ∷ s.back ∷ []

  edge-in : Within edge_tags all
  edge-in t k = Contains-append_left news (place.loop_ ∷ ends_of u.fins) t (Contains-later s.vertex edge_tags t k)

  pair-in : Within (s.out ∷ s.back ∷ ends_of u.fins) all
  pair-in t k = ⊎_elim {C = Contains all t}
      (λ (j : Contains (s.out ∷ s.back ∷ []) t). edge-in t (Contains-later s.edge (s.out ∷ s.back ∷ []) t j))
      (λ (j : Contains (ends_of u.fins) t). Contains-append_right (news ++ place.loop_ ∷ []) (ends_of u.fins) t j)
      (Contains-append_cases (s.out ∷ s.back ∷ []) (ends_of u.fins) t k)

  vertex-in : Contains all s.vertex
  vertex-in = (0, omega arith, refl)

  loop-in : Contains all place.loop_
  loop-in = (4, omega arith, refl)

  room : HasRoomForThese old.recording all
  room = subst (HasRoomForThese old.recording) r.puts r.may.room

  pub vertex-hosted : (p : Point) → IsHosted old.state.blocks s.vertex (entity.Vertex place.body p)
  vertex-hosted p = record { owned = owned.0; owner = (body_apart.0, body_hosted.owned) }

  pub vertex-room : HasRoomFor old.recording s.vertex
  vertex-room = stage-room_one all old old s.vertex room (stage-none all old) vertex-in

  -- ---- the vertex is put

  module _ (p : Point) (p_is : p ≡ point_of at) (s0 : StoreView) (state0 : s0.state ≡ record old.state { map = with_vertex m0 u s.vertex p }) (began0 : began s0 ≡ began old)
      (recorded0 : s0.recording ≡ record old.recording { first = recorded_put old.recording.first s.vertex (get m0 s.vertex) }) where
    zero : IsStage all old s0
    zero = stage-put all old old s0 s.vertex (Some (entity.Vertex place.body p)) (stage-none all old) vertex-in state0 began0 recorded0

    pub edge-owned : AllByRecursion (λ t. IsTrue (owns s0.state.blocks t)) (s.edge ∷ s.out ∷ s.back ∷ place.body ∷ place.loop_ ∷ place.loop_ ∷ [])
    edge-owned = subst (λ (z : Stored). AllByRecursion (λ t. IsTrue (owns z.blocks t)) (s.edge ∷ s.out ∷ s.back ∷ place.body ∷ place.loop_ ∷ place.loop_ ∷ [])) (sym zero.state)
        (owned.1.0, (owned.1.1.0, (owned.1.1.1.0, (body_hosted.owned, (loop_hosted.owned, (loop_hosted.owned, tt))))))

    pub edge-room : HasRoomForThese s0.recording edge_tags
    edge-room = stage-room all edge_tags old s0 room zero edge-in

    -- ---- the edge is put

    module _ (s1 : StoreView) (state1 : s1.state ≡ record s0.state { map = with_edge s0.state.map edge }) (puts1 : PutsAmong edge_tags s0 s1) where
      abbrev m1 : EntityMap
      m1 = s1.state.map

      one : IsStage all old s1
      one = stage-then all edge_tags old s0 s1 zero edge-in (only-put s0.state s1.state _ state1) puts1

      put : StrutPut m0 m1 u s.vertex s.edge s.out s.back (point_of at)
      put =
          let made : m1 ≡ with_edge (with_vertex m0 u s.vertex (point_of at)) edge =
          ap (λ (x : Stored). x.map) state1 ∙ ap (λ (x : Stored). with_edge x.map edge) state0 ∙ ap (λ q. with_edge (with_vertex m0 u s.vertex q) edge) p_is in
          subst (λ m. StrutPut m0 m u s.vertex s.edge s.out s.back (point_of at)) (sym made) (strut-put m0 u s.vertex s.edge s.out s.back (point_of at) once)

      pub pair-fins : IsRing m1 (s.out ∷ []) × IsRing m1 (s.back ∷ [])
      pair-fins = (put.edge.fin_ring, put.edge.mate_ring)

      pub ring-put : (ring_of_any m1 place.first ≡ u.fins) × IfSome place.first (IsInRing m1)
      ring-put = ring-more m0 m1 place.first r.ring (λ f k. put.others f (live-none_of S news f _ free (placed-fin well E f k).3))

      pub pair-apart : NoRepeats (s.out ∷ s.back ∷ ring_of_any m1 place.first)
      pair-apart =
          let new = λ (t : Tag) (none : item_at S t ≡ None). none-of u.fins t (placed-live well E t none) in
          let whole : NoRepeats (s.out ∷ s.back ∷ u.fins) = ((once.1.1.0.0, new s.out free.1.1.0), (new s.back free.1.1.1.0, (any_ring m0 place.first r.ring).once)) in
          subst (λ ts. NoRepeats (s.out ∷ s.back ∷ ts)) (sym ring-put.0) whole

      pub pair-room : HasRoomForThese s1.recording (s.out ∷ s.back ∷ ends_of (ring_of_any m1 place.first))
      pair-room = subst (λ ts. HasRoomForThese s1.recording (s.out ∷ s.back ∷ ends_of ts)) (sym ring-put.0) (stage-room all _ old s1 room one pair-in)

      -- ---- its fins are put into the ring

      module _ (s2 : StoreView)
          (links2 : Relinks m1 ([] ∷ ring_of_any m1 place.first ∷ (s.out ∷ []) ∷ (s.back ∷ []) ∷ []) s2.state.map ((s.out ∷ s.back ∷ ring_of_any m1 place.first) ∷ []))
          (state2 : s2.state ≡ record s1.state { map = s2.state.map }) (puts2 : PutsAmong (s.out ∷ s.back ∷ ends_of (ring_of_any m1 place.first)) s1 s2) where
        abbrev m2 : EntityMap
        m2 = s2.state.map

        relinks : Relinks m1 ([] ∷ u.fins ∷ (s.out ∷ []) ∷ (s.back ∷ []) ∷ []) m2 ((s.out ∷ s.back ∷ u.fins) ∷ [])
        relinks = subst (λ ts. Relinks m1 ([] ∷ ts ∷ (s.out ∷ []) ∷ (s.back ∷ []) ∷ []) m2 ((s.out ∷ s.back ∷ ts) ∷ [])) ring-put.0 links2

        two : IsStage all old s2
        two = stage-then all _ old s1 s2 one pair-in state2 (subst (λ ts. PutsAmong (s.out ∷ s.back ∷ ends_of ts) s1 s2) ring-put.0 puts2)

        pub loop-owned : IsTrue (owns s2.state.blocks place.loop_)
        loop-owned = stage-owns all old s2 place.loop_ two loop_hosted.owned

        pub loop-hosted : (low : Tag) → IsHosted s2.state.blocks place.loop_ (entity.Loop place.face (Some low) None)
        loop-hosted low = subst (λ (x : Stored). IsHosted x.blocks place.loop_ (entity.Loop place.face (Some low) None)) (sym two.state) (record { owned = loop_hosted.owned; owner = loop_hosted.owner })

        pub loop-room : HasRoomFor s2.recording place.loop_
        loop-room = stage-room_one all old s2 place.loop_ room two loop-in

        -- ---- the loop names the least fin of its ring

        module _ (low : Tag) (low_is : first_tag (from_least (s.out ∷ s.back ∷ u.fins)) ≡ Some low) (s3 : StoreView)
            (state3 : s3.state ≡ record s2.state { map = with_entity m2 place.loop_ (Some (entity.Loop place.face (Some low) None)) }) (began3 : began s3 ≡ began s2)
            (recorded3 : s3.recording ≡ record s2.recording { first = recorded_put s2.recording.first place.loop_ (get m2 place.loop_) }) where
          abbrev R : Shape
          R = S with strut_items u at s.vertex s.edge s.out s.back

          abbrev row : Row
          row = mev S end at

          reaches : reached S (left tags) row ≡ R
          reaches = mev-reaches S end at u (left tags) s.vertex s.edge s.out s.back r.rest r.found r.may.goes r.taken

          well_now : IsWell R
          well_now =
              let keeps = mev-keeps S (left tags) end at well r.has.ascend (ByRecursion-weaker _ _ (λ t none. free_item m0 r.may.sound t none) (left tags) r.has.free) in
              let cost : cost_of row ≡ 4 = ap cost_of (mev-row S end at u r.found r.may.goes) in
              subst IsWell reaches (reached-well S (left tags) row well (omega (arith, cost, r.has.enough)) keeps)

          map_is : s3.state.map ≡ links R
          map_is =
              let now : s3.state.map ≡ with_entity m2 place.loop_ (Some (entity.Loop place.face (first_tag (from_least (s.out ∷ s.back ∷ u.fins))) None)) =
              ap (λ (x : Stored). x.map) state3 ∙ ap (λ o. with_entity m2 place.loop_ (Some (entity.Loop place.face o None))) (sym low_is) in
              now ∙ represented R _ well_now (mev-represents S well m0 m1 m2 rep u E s.vertex s.edge s.out s.back (point_of at) free ascend put relinks)

          three : IsStage all old s3
          three = stage-put all old s2 s3 place.loop_ (Some (entity.Loop place.face (Some low) None)) two loop-in state3 began3 recorded3

          pub mev-done : HasDone old (call.Mev end at) (left tags) s3
          mev-done = record {
            state = three.state ∙ ap (λ m. record old.state { map = m }) (map_is ∙ ap links (sym reaches));
            sound = subst IsSound (sym map_is) (sound-links R well_now);
            puts = subst (λ ts. PutsAmong ts old s3) (sym r.puts) three.puts;
          }
