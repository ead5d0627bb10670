-- kev: what each step asks for, and that the last one does what the row says.
use Rattle.std.proofs.Common.{◌≡◌, ◌≢◌, ⊎_elim, List, [], ◌∷◌, ◌++◌, drop, Option, Some, None, sym, ap, subst, ◌∙◌, arith}
use Rattle.std.specs.Prelude.{Contains, IsTrue}
use Rattle.std.specs.List.{AllByRecursion}
use Rattle.std.specs.FinMap.{get}
use Rattle.std.proofs.lemmas.List.Elements.{Contains-append_left, Contains-append_right, Contains-append_cases}
use Rattle.pk_base.specs.declared.tag.Tag.{Tag}
use Rattle.pk_base.specs.declared.call.Call.TheVariants as call
use Rattle.pk_base.specs.declared.entity.Entity.{Entity}
use Rattle.pk_base.specs.declared.entity.Entity.TheVariants as entity
use Rattle.pk_model.specs.Maps.{EntityMap, with_entity}
use Rattle.pk_model.specs.Tags.{owns}
use Rattle.list_facts.proofs.Each.{ByRecursion-left, ByRecursion-weaker}
use Rattle.list_facts.proofs.Elements.{Contains-first, Contains-later}
use Rattle.entity_store.specs.Recorder.{began}
use Rattle.entity_store.specs.Recording.{HasRoomFor, recorded_put}
use Rattle.entity_store.specs.Room.{HasRoomForThese, PutsAmong}
use Rattle.entity_store.specs.Store.{IsHosted, Stored, StoreView}
use Rattle.entity_store.proofs.Room.{puts-wider, room-part}
use Rattle.solid_model.specs.Items.{Shape, item_at}
use Rattle.solid_model.specs.Items.Item.{Edge, Vertex}
use Rattle.solid_model.specs.Room.{tags_put}
use Rattle.solid_model.specs.Rings.{ends_of, first_tag, from_least, next_in}
use Rattle.solid_model.specs.Rows.{changes}
use Rattle.solid_model.specs.Shapes.{shape_of}
use Rattle.halfedge.specs.LinkedRings.{Relinks, mate_in, ring_at, ring_of_any}
use Rattle.solid_sound.proofs.edges.EdgeDeaths.{edge_of_class}
use Rattle.solid_sound.proofs.shapes.Reading.{vertex_of_class}
use Rattle.solid_sound.proofs.rows.KeptKev.{kev-keeps}
use Rattle.solid_sound.proofs.rows.RowKeeps.{IsWell, Keeps, well-shape}
use Rattle.solid_calls.specs.Attributes.{attributes_on}
use Rattle.solid_calls.specs.Pairs.{HasDone}
use Rattle.solid_calls.proofs.Represented.{Represents, represented, represents-sound}
use Rattle.solid_places.specs.declared.fins.PlacedFin.{PlacedFin as FoundFin}
use Rattle.solid_edits.specs.Deaths.{Dies, Kills, with_attributes}
use Rattle.solid_edits.specs.EditedLoops.{fins_behind, fins_between, loop_from}
use Rattle.solid_edits.proofs.Going.{done}
use Rattle.solid_edits.proofs.KilledMaps.{GainsNoAttribute, death-among, kills-attribute, kills-one, kills-then, with_attributes-own, with_attributes-within}
use Rattle.solid_edits.proofs.LoopsAnew.{loop_from-is}
use Rattle.solid_edits.proofs.RemovedEdge.{IsCutOut, cut-attributes, cut-represents, with_loops}
use Rattle.solid_edits.proofs.Stages.{IsStage, Within, stage-none, stage-owns, stage-put, stage-room, stage-room_one, stage-then}
use Rattle.euler_kill.proofs.KevFound.{IsReady, behind_is, between_is, f_is, goes-strut, kev-row, kev-within, kev_changes, kev_killed, mate_among, mate_found, mate_is, mate_other, read_fin, ring_is}
use Rattle.euler_kill.proofs.KevSteps.{fin-in, kev-cut, kev_loops, mate-in, names-first}

module _ {old : StoreView} {f : Tag} {p w : FoundFin} (r : IsReady old f p w) where
  abbrev m : EntityMap
  m = old.state.map

  abbrev S : Shape
  S = shape_of m

  abbrev A : List Tag
  A = drop 2 (ring_at m f)

  abbrev edge : List Tag
  edge = f ∷ p.mate ∷ p.edge ∷ []

  abbrev killed : List Tag
  killed = kev_killed f p w

  well : IsWell S
  well = well-shape m r.may.sound

  was : Represents S m
  was = represents-sound m r.may.sound

  strut : next_in (ring_at m f) f ≡ p.mate
  strut = goes-strut S f (read_fin m f p) (read_fin m p.mate w) r.found r.also r.may.goes

  pub cut-mate : mate_in m f ≡ p.mate
  cut-mate = mate_found m r.may.sound f p w r.found r.also

  pub cut-among : Contains (ring_at m f) p.mate
  cut-among = mate_among m r.may.sound f p w r.found r.also r.ring strut

  pub cut-other : p.mate ≢ f
  cut-other = mate_other m r.may.sound f p w r.found r.also

  behind : fins_behind m f p.mate ≡ A
  behind = behind_is m r.may.sound f p w r.found r.also r.ring strut

  -- ---- all the tags that are put

  abbrev all : List Tag
  all = p.loop_ ∷ ends_of A ++ with_attributes m killed

  are_put : Within all (tags_put S (call.Kev f) [])
  are_put = kev-within m r.may.sound f p w r.found r.also r.ring strut

  room : HasRoomForThese old.recording all
  room = room-part old.recording _ all r.may.room are_put

  loop_in : Contains all p.loop_
  loop_in = Contains-first p.loop_ (ends_of A ++ with_attributes m killed)

  ends_in : Within (ends_of A) all
  ends_in t k = Contains-later p.loop_ (ends_of A ++ with_attributes m killed) t (Contains-append_left (ends_of A) (with_attributes m killed) t k)

  -- what dies, and its attributes
  dead_in : Within (with_attributes m killed) all
  dead_in t k = Contains-later p.loop_ (ends_of A ++ with_attributes m killed) t (Contains-append_right (ends_of A) (with_attributes m killed) t k)

  edge_in : Within edge killed
  edge_in = Contains-append_left edge (w.vertex ∷ [])

  owned : AllByRecursion (λ k. IsTrue (owns old.state.blocks k)) killed
  owned =
      let fin_item = f_is m r.may.sound f p w r.found r.also in
      let mate_item = mate_is m r.may.sound f p w r.found r.also in
      let e = edge_of_class (item_at S p.edge) (well.sound.names.kinds f _ fin_item).1.0 in
      let v = vertex_of_class (item_at S w.vertex) (well.sound.names.kinds p.mate _ mate_item).2.0 in (
        (r.hosted f _ (was.items f _ fin_item).3).owned,
        (
          (r.hosted p.mate _ (was.items p.mate _ mate_item).3).owned,
          ((r.hosted p.edge _ (was.items p.edge (Edge e.0) e.1).1).owned, ((r.hosted w.vertex _ (was.items w.vertex (Vertex v.0 v.1) v.2)).owned, tt)),
        ),
      )

  -- ---- the two fins are cut out

  abbrev cut_tags : List Tag
  cut_tags = f ∷ p.mate ∷ ends_of (fins_between m f p.mate) ++ ends_of (fins_behind m f p.mate)

  cut_in : Within cut_tags all
  cut_in t k =
      let between = between_is m r.may.sound f p w r.found r.also r.ring strut in
      let is : cut_tags ≡ (f ∷ p.mate ∷ []) ++ ends_of A = λ i. f ∷ p.mate ∷ ends_of (between i) ++ ends_of (behind i) in
      ⊎_elim {C = Contains all t}
      (λ (j : Contains (f ∷ p.mate ∷ []) t). dead_in t (with_attributes-own m killed t (Contains-append_left (f ∷ p.mate ∷ []) (p.edge ∷ w.vertex ∷ []) t j)))
      (ends_in t)
      (Contains-append_cases (f ∷ p.mate ∷ []) (ends_of A) t (subst (λ ts. Contains ts t) is k))

  pub cut-room : HasRoomForThese old.recording cut_tags
  cut-room = room-part old.recording all cut_tags room cut_in

  module _ (s1 : StoreView) (links1 : Relinks m (ring_at m f ∷ []) s1.state.map (fins_between m f p.mate ∷ fins_behind m f p.mate ∷ (f ∷ []) ∷ (p.mate ∷ []) ∷ []))
      (state1 : s1.state ≡ record old.state { map = s1.state.map }) (puts1 : PutsAmong cut_tags old s1) (kept : Option Tag) (kept_is : ring_of_any s1.state.map kept ≡ fins_behind m f p.mate) where
    abbrev m1 : EntityMap
    m1 = s1.state.map

    relinks : Relinks m ((f ∷ p.mate ∷ A) ∷ []) m1 ([] ∷ A ∷ (f ∷ []) ∷ (p.mate ∷ []) ∷ [])
    relinks =
        let whole = ring_is m r.may.sound f p w r.found r.also r.ring strut in
        let between = between_is m r.may.sound f p w r.found r.also r.ring strut in
        subst (λ (q : List (List Tag) × List (List Tag)). Relinks m q.0 m1 q.1) (λ i. (whole i ∷ [], between i ∷ behind i ∷ (f ∷ []) ∷ (p.mate ∷ []) ∷ [])) links1

    one : IsStage all old s1
    one = stage-then all cut_tags old old s1 (stage-none all old) cut_in state1 puts1

    pub left-first : (face : Tag) × (first : Tag) × (get m1 p.loop_ ≡ Some (entity.Loop face (Some first) None)) × (first ≢ f → first ≢ p.mate → first_tag (from_least (ring_of_any m1 kept)) ≡ Some first)
    left-first = names-first m r.may.sound f p w r.found r.also r.ring strut m1 relinks (ring_of_any m1 kept) (kept_is ∙ behind)

    -- ---- the loop is put

    module _ (least : Option Tag) (least_is : least ≡ first_tag (from_least (ring_of_any m1 kept))) (e : Entity) (e_is : e ≡ loop_from p.face least p.vertex) where
      loop_hosted : IsHosted old.state.blocks p.loop_ (loop_from p.face least p.vertex)
      loop_hosted =
          let E = (fin-in m r.may.sound f p w r.found r.also r.ring strut).end in
          let there = r.hosted p.loop_ _ (was.items p.loop_ _ E.loop_is).0 in
          record { owned = there.owned; owner = there.owner }

      pub put-owned : IsTrue (owns s1.state.blocks p.loop_)
      put-owned = stage-owns all old s1 p.loop_ one loop_hosted.owned

      pub put-hosted : IsHosted s1.state.blocks p.loop_ e
      put-hosted = subst (λ (s : Stored). IsHosted s.blocks p.loop_ e) (sym state1) (subst (IsHosted old.state.blocks p.loop_) (sym e_is) loop_hosted)

      pub put-room : HasRoomFor s1.recording p.loop_
      put-room = stage-room_one all old s1 p.loop_ room one loop_in

      module _ (s2 : StoreView) (state2 : s2.state ≡ record s1.state { map = with_entity m1 p.loop_ (Some e) }) (began2 : began s2 ≡ began s1)
          (recorded2 : s2.recording ≡ record s1.recording { first = recorded_put s1.recording.first p.loop_ (get m1 p.loop_) }) where
        abbrev m2 : EntityMap
        m2 = s2.state.map

        map2 : m2 ≡ with_loops m1 (kev_loops m r.may.sound f p w r.found r.also r.ring strut)
        map2 =
            let left : least ≡ first_tag (from_least A) = least_is ∙ ap (λ ts. first_tag (from_least ts)) (kept_is ∙ behind) in
            ap (λ (s : Stored). s.map) state2 ∙ ap (λ x. with_entity m1 p.loop_ (Some x)) (e_is ∙ ap (λ o. loop_from p.face o p.vertex) left ∙ loop_from-is p.face A p.vertex)

        two : IsStage all old s2
        two = stage-put all old s1 s2 p.loop_ (Some e) one loop_in state2 began2 recorded2

        cut : IsCutOut S m m1 f (read_fin m f p) (read_fin m p.mate w) (kev_loops m r.may.sound f p w r.found r.also r.ring strut) killed
        cut = kev-cut m r.may.sound f p w r.found r.also r.ring strut m1 relinks

        gains2 : GainsNoAttribute m m2
        gains2 = subst (GainsNoAttribute m) (sym map2) (cut-attributes well was (fin-in m r.may.sound f p w r.found r.also r.ring strut) (mate-in m r.may.sound f p w r.found r.also r.ring strut) cut)

        -- ---- the edge dies with its fins

        pub edge-owned : AllByRecursion (λ t. IsTrue (owns s2.state.blocks t)) edge
        edge-owned = ByRecursion-weaker (λ t. IsTrue (owns old.state.blocks t)) (λ t. IsTrue (owns s2.state.blocks t)) (λ t k. stage-owns all old s2 t two k) edge (ByRecursion-left (λ t. IsTrue (owns old.state.blocks t)) edge (w.vertex ∷ []) owned)

        edge_dead_in : Within (with_attributes m2 edge) all
        edge_dead_in t k = dead_in t (with_attributes-within m m2 killed edge edge_in (λ o q j. gains2 o q) t k)

        pub edge-room : HasRoomForThese s2.recording (with_attributes m2 edge)
        edge-room = stage-room all (with_attributes m2 edge) old s2 room two edge_dead_in

        module _ (s3 : StoreView) (kills3 : Kills m2 edge s3.state.map) (state3 : s3.state ≡ record s2.state { map = s3.state.map }) (puts3 : PutsAmong (with_attributes m2 edge) s2 s3) where
          three : IsStage all old s3
          three = stage-then all (with_attributes m2 edge) old s2 s3 two edge_dead_in state3 puts3

          -- ---- and so does the vertex

          pub vertex-owned : IsTrue (owns s3.state.blocks w.vertex)
          vertex-owned = stage-owns all old s3 w.vertex three owned.1.1.1.0

          vertex_dead_in : Within (w.vertex ∷ attributes_on s3.state.map w.vertex) all
          vertex_dead_in t k =
              dead_in t (death-among m s3.state.map killed w.vertex (λ o q is. gains2 o q (kills-attribute m2 s3.state.map edge kills3 o q is))
              (Contains-append_right edge (w.vertex ∷ []) w.vertex (Contains-first w.vertex [])) t k)

          pub vertex-room : HasRoomForThese s3.recording (w.vertex ∷ attributes_on s3.state.map w.vertex)
          vertex-room = stage-room all (w.vertex ∷ attributes_on s3.state.map w.vertex) old s3 room three vertex_dead_in

          module _ (s4 : StoreView) (dies4 : Dies s3.state.map w.vertex s4.state.map) (state4 : s4.state ≡ record s3.state { map = s4.state.map })
              (puts4 : PutsAmong (w.vertex ∷ attributes_on s3.state.map w.vertex) s3 s4) where
            abbrev R : Shape
            R = kev_changes S f (read_fin m f p) (read_fin m p.mate w)

            four : IsStage all old s4
            four = stage-then all (w.vertex ∷ attributes_on s3.state.map w.vertex) old s3 s4 three vertex_dead_in state4 puts4

            shows : Represents R s4.state.map
            shows =
                let kills = kills-then m2 s3.state.map s4.state.map edge (w.vertex ∷ []) kills3 (kills-one s3.state.map s4.state.map w.vertex dies4) in
                cut-represents well was (fin-in m r.may.sound f p w r.found r.also r.ring strut) (mate-in m r.may.sound f p w r.found r.also r.ring strut) cut s4.state.map
                (subst (λ (n : EntityMap). Kills n killed s4.state.map) map2 kills)

            pub kev-done : HasDone old (call.Kev f) [] s4
            kev-done =
                let row = kev-row S f (read_fin m f p) (read_fin m p.mate w) r.found r.also strut in
                let keeps = kev-keeps S [] f well in
                done old s4 (call.Kev f) [] (changes R) row r.may.sound (omega arith) keeps
                (four.state ∙ ap (λ (n : EntityMap). record old.state { map = n }) (represented R s4.state.map (subst (Keeps []) row keeps) shows))
                (puts-wider all _ old s4 four.puts are_put)
