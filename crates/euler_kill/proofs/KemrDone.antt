-- kemr: what each step asks for, and that the last one does what the row says.
use Rattle.std.proofs.Common.{◌≡◌, ◌≢◌, List, [], ◌∷◌, take, Option, Some, None, sym, ap, subst, ◌∙◌, arith}
use Rattle.std.specs.Prelude.{Contains, IsTrue}
use Rattle.std.specs.List.{AllByRecursion}
use Rattle.std.specs.FinMap.{get}
use Rattle.pk_base.specs.Building.{Building}
use Rattle.pk_base.specs.declared.call.Call.TheVariants.{Kemr}
use Rattle.pk_base.specs.declared.entity.Entity.{Entity}
use Rattle.pk_base.specs.declared.tag.Tag.{Tag}
use Rattle.pk_model.specs.Maps.{EntityMap, with_entity}
use Rattle.pk_model.specs.Tags.{owns}
use Rattle.list_facts.proofs.Each.{ByRecursion-weaker}
use Rattle.entity_store.specs.NextTags.{TagsView, left}
use Rattle.entity_store.specs.Recorder.{began}
use Rattle.entity_store.specs.Recording.{HasRoomFor, recorded_put}
use Rattle.entity_store.specs.Store.{IsHosted, Stored, StoreView}
use Rattle.solid_model.specs.Items.{item_at}
use Rattle.solid_model.specs.Places.{PlacedFin}
use Rattle.solid_model.specs.Room.{tags_put}
use Rattle.solid_model.specs.Shapes.{shape_of}
use Rattle.solid_sound.proofs.rows.Asked.{free_at, free_item}
use Rattle.solid_sound.proofs.rows.KeptKemr.{kemr-keeps}
use Rattle.solid_sound.proofs.rows.RowKeeps.{well-shape}
use Rattle.halfedge.specs.LinkedRings.{mate_in, ring_at}
use Rattle.solid_calls.specs.Pairs.{HasDone}
use Rattle.entity_store.specs.Room.{HasRoomForThese, PutsAmong}
use Rattle.solid_calls.proofs.Kept.{done-sound}
use Rattle.entity_store.proofs.Room.{puts-wider, room-part}
use Rattle.solid_edits.specs.Deaths.{Kills, with_attributes}
use Rattle.solid_edits.specs.EditedLoops.{HasParted, fins_behind, fins_between, loop_from}
use Rattle.solid_edits.proofs.KilledMaps.{GainsNoAttribute, with_attributes-within}
use Rattle.solid_edits.proofs.RemovedEdge.{with_loops}
use Rattle.solid_edits.proofs.Stages.{IsStage, Within, stage-none, stage-owns, stage-room, stage-room_one, stage-then, stage-put}
use Rattle.solid_places.specs.declared.fins.PlacedFin.{PlacedFin as FoundFin}
use Rattle.euler_kill.proofs.KemrReached.{kemr-among, kemr-attribute, kemr-loop_hosted, kemr-mate, kemr-new_hosted, kemr-other, kemr-owned, kemr-reached, kemr-within, kemr_loops, kemr_tags}
use Rattle.euler_kill.proofs.KemrFound.{fin_read, IsReady}
use Rattle.std.proofs.lemmas.List.Elements.{Contains-append_left, Contains-append_right}
use Rattle.list_facts.proofs.Elements.{Contains-first, Contains-later}
use Rattle.pk_base.specs.declared.entity.Entity.TheVariants as entity
use Rattle.solid_model.specs.Rings.{first_tag, from_least}
use Rattle.solid_sound.proofs.shapes.FinRings.{lone_for}
use Rattle.solid_edits.proofs.LoopsAnew.{loop_from-is}

-- the map once both loops were put
pub kemr-put : (s1 s2 s3 : StoreView) (l j face : Tag) (B A : List Tag) (kept off : Option Tag) (v v' : Tag) (e e' : Entity) → kept ≡ first_tag (from_least B) → off ≡ first_tag (from_least A)
    → e ≡ loop_from face kept v → e' ≡ loop_from face off v'
    → s2.state ≡ record s1.state { map = with_entity s1.state.map l (Some e) } → s3.state ≡ record s2.state { map = with_entity s2.state.map j (Some e') }
    → s3.state.map ≡ with_loops s1.state.map (record { loop_ = l; face = face; fins = B; vertex = v } ∷ record { loop_ = j; face = face; fins = A; vertex = v' } ∷ [])
kemr-put s1 s2 s3 l j face B A kept off v v' e e' kept_is off_is is is' two three =
    let second : s2.state.map ≡ with_entity s1.state.map l (Some e) = ap (λ (s : Stored). s.map) two in
    let one : e ≡ entity.Loop face (first_tag (from_least B)) (lone_for B v) = is ∙ ap (λ o. loop_from face o v) kept_is ∙ loop_from-is face B v in
    let other : e' ≡ entity.Loop face (first_tag (from_least A)) (lone_for A v') = is' ∙ ap (λ o. loop_from face o v') off_is ∙ loop_from-is face A v' in
    ap (λ (s : Stored). s.map) three ∙ (λ i. with_entity (second i) j (Some (other i))) ∙ ap (λ x. with_entity (with_entity s1.state.map l (Some x)) j (Some (entity.Loop face (first_tag (from_least A)) (lone_for A v')))) one

module _ {s0 : StoreView} {f : Tag} {x y : FoundFin} {tags : TagsView} {out : Building Tag} {j : Tag} (ready : IsReady s0 f x y tags out j) where
  abbrev m : EntityMap
  m = s0.state.map

  abbrev u : PlacedFin
  u = fin_read m f x

  abbrev w : PlacedFin
  w = fin_read m x.mate y

  abbrev killed : List Tag
  killed = f ∷ u.mate ∷ u.edge ∷ []

  -- all the tags that are put
  abbrev all : List Tag
  all = kemr_tags m f u w ready.at j

  are_put : Within all (tags_put (shape_of m) (Kemr f) (left tags))
  are_put = kemr-within m f u w ready.at j (left tags) ready.rest ready.cost ready.taken

  room : HasRoomForThese s0.recording all
  room = room-part s0.recording _ all ready.may.room are_put

  has_ring : Within (ring_at m f) all
  has_ring t k = Contains-append_right (with_attributes m killed) (u.loop_ ∷ j ∷ ring_at m f) t (Contains-later u.loop_ (j ∷ ring_at m f) t (Contains-later j (ring_at m f) t k))

  has_loop : Contains all u.loop_
  has_loop = Contains-append_right (with_attributes m killed) (u.loop_ ∷ j ∷ ring_at m f) u.loop_ (Contains-first u.loop_ (j ∷ ring_at m f))

  has_new : Contains all j
  has_new = Contains-append_right (with_attributes m killed) (u.loop_ ∷ j ∷ ring_at m f) j (Contains-later u.loop_ (j ∷ ring_at m f) j (Contains-first j (ring_at m f)))

  free : get m j ≡ None
  free = (subst (AllByRecursion (λ (t : Tag). get m t ≡ None)) ready.taken ready.has.free).0

  owned : IsTrue (owns s0.state.blocks j)
  owned = (subst (λ (ts : List Tag). AllByRecursion (λ (t : Tag). IsTrue (owns s0.state.blocks t)) (take 1 ts)) ready.taken ready.has.owned).0

  pub mate-is : mate_in m f ≡ u.mate
  mate-is = kemr-mate m f u w ready.at

  pub mate-among : Contains (ring_at m f) u.mate
  mate-among = kemr-among m f u w ready.at

  pub mate-other : u.mate ≢ f
  mate-other = kemr-other m f u w ready.at

  pub ring-room : HasRoomForThese s0.recording (ring_at m f)
  ring-room = stage-room all (ring_at m f) s0 s0 room (stage-none all s0) has_ring

  -- ---- the ring is parted

  module _ (s1 : StoreView) (kept off : Option Tag) (parts : HasParted m f u.mate j kept off s1.state.map) (state1 : s1.state ≡ record s0.state { map = s1.state.map })
      (puts1 : PutsAmong (ring_at m f) s0 s1) where
    one : IsStage all s0 s1
    one = stage-then all (ring_at m f) s0 s0 s1 (stage-none all s0) has_ring state1 puts1

    pub loop-owned : IsTrue (owns s1.state.blocks u.loop_)
    loop-owned = stage-owns all s0 s1 u.loop_ one (kemr-loop_hosted m f u w ready.at s0.state.blocks ready.hosted None u.vertex).owned

    pub loop-hosted : (e : Entity) → e ≡ loop_from u.face kept u.vertex → IsHosted s1.state.blocks u.loop_ e
    loop-hosted e is =
        subst (λ (s : Stored). IsHosted s.blocks u.loop_ e) (sym state1)
        (subst (IsHosted s0.state.blocks u.loop_) (sym is) (kemr-loop_hosted m f u w ready.at s0.state.blocks ready.hosted kept u.vertex))

    pub loop-room : HasRoomFor s1.recording u.loop_
    loop-room = stage-room_one all s0 s1 u.loop_ room one has_loop

    -- ---- the loop is put

    module _ (e : Entity) (e_is : e ≡ loop_from u.face kept u.vertex) (s2 : StoreView) (state2 : s2.state ≡ record s1.state { map = with_entity s1.state.map u.loop_ (Some e) })
        (began2 : began s2 ≡ began s1) (recorded2 : s2.recording ≡ record s1.recording { first = recorded_put s1.recording.first u.loop_ (get s1.state.map u.loop_) }) where
      two : IsStage all s0 s2
      two = stage-put all s0 s1 s2 u.loop_ (Some e) one has_loop state2 began2 recorded2

      pub new-hosted : (o : Entity) → o ≡ loop_from u.face off w.vertex → IsHosted s2.state.blocks j o
      new-hosted o is =
          subst (λ (s : Stored). IsHosted s.blocks j o) (sym two.state)
          (subst (IsHosted s0.state.blocks j) (sym is) (kemr-new_hosted m f u w ready.at s0.state.blocks ready.hosted j free owned off w.vertex))

      pub new-room : HasRoomFor s2.recording j
      new-room = stage-room_one all s0 s2 j room two has_new

      -- ---- the new loop is put

      module _ (o : Entity) (o_is : o ≡ loop_from u.face off w.vertex) (s3 : StoreView) (state3 : s3.state ≡ record s2.state { map = with_entity s2.state.map j (Some o) })
          (began3 : began s3 ≡ began s2) (recorded3 : s3.recording ≡ record s2.recording { first = recorded_put s2.recording.first j (get s2.state.map j) }) where
        three : IsStage all s0 s3
        three = stage-put all s0 s2 s3 j (Some o) two has_new state3 began3 recorded3

        put : s3.state.map ≡ with_loops s1.state.map (kemr_loops m f u w ready.at j free kept off s1.state.map parts)
        put = kemr-put s1 s2 s3 u.loop_ j u.face (fins_behind m f u.mate) (fins_between m f u.mate) kept off u.vertex w.vertex e o parts.kept_is parts.off_is e_is o_is state2 state3

        -- what dies is among what is put
        dead : Within (with_attributes s3.state.map killed) all
        dead t k =
            let gains = subst (GainsNoAttribute m) (sym put) (kemr-attribute m f u w ready.at j free kept off s1.state.map parts) in
            Contains-append_left (with_attributes m killed) (u.loop_ ∷ j ∷ ring_at m f) t (with_attributes-within m s3.state.map killed killed (λ q c. c) (λ q a c. gains q a) t k)

        pub dead-owned : AllByRecursion (λ t. IsTrue (owns s3.state.blocks t)) killed
        dead-owned = subst (λ (s : Stored). AllByRecursion (λ (t : Tag). IsTrue (owns s.blocks t)) killed) (sym three.state) (kemr-owned m f u w ready.at s0.state.blocks ready.hosted)

        pub dead-room : HasRoomForThese s3.recording (with_attributes s3.state.map killed)
        dead-room = stage-room all (with_attributes s3.state.map killed) s0 s3 room three dead

        -- ---- the edge dies

        module _ (s4 : StoreView) (kills : Kills s3.state.map killed s4.state.map) (state4 : s4.state ≡ record s3.state { map = s4.state.map })
            (puts4 : PutsAmong (with_attributes s3.state.map killed) s3 s4) where
          four : IsStage all s0 s4
          four = stage-then all (with_attributes s3.state.map killed) s0 s3 s4 three dead state4 puts4

          pub kemr-done : HasDone s0 (Kemr f) (left tags) s4
          kemr-done =
              let S = shape_of m in
              let sound = ready.may.sound in
              let map_is =
              kemr-reached m f u w ready.at j free kept off s1.state.map parts s4.state.map (subst (λ n. Kills n killed s4.state.map) put kills)
              (left tags) ready.rest ready.taken in
              let items = ByRecursion-weaker (λ (t : Tag). get m t ≡ None) (λ (t : Tag). item_at S t ≡ None) (λ t none. free_item m sound t none) (left tags) ready.has.free in
              let keeps = kemr-keeps S (left tags) f (well-shape m sound) (λ some. free_at S (left tags) 0 items (omega (arith, some))) in
              let state = four.state ∙ ap (λ (k : EntityMap). record s0.state { map = k }) map_is in
              record {
                state = state;
                sound = done-sound s0 s4 (Kemr f) (left tags) sound (omega (arith, ready.cost, ready.has.enough)) keeps state;
                puts = puts-wider all _ s0 s4 four.puts are_put;
              }
