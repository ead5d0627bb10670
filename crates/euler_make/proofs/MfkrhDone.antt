-- mfkrh: what each step asks for, and that the last one does what the row says.
use Rattle.std.proofs.Common.{◌≡◌, ◌≢◌, List, [], ◌∷◌, Some, None, sym, ap, subst, ◌∙◌}
use Rattle.std.specs.Prelude.{pos, Contains, IsTrue, option_map}
use Rattle.std.specs.FinMap.{get}
use Rattle.pk_base.specs.Building.{Building}
use Rattle.pk_base.specs.declared.call.Call.TheVariants.{Mfkrh}
use Rattle.pk_base.specs.declared.entity.Entity.TheVariants as entity
use Rattle.pk_base.specs.declared.tag.Tag.{Tag}
use Rattle.pk_model.specs.Maps.{EntityMap, with_entity}
use Rattle.pk_model.specs.Tags.{owns, tag_at}
use Rattle.entity_store.specs.NextTags.{TagsView, left}
use Rattle.entity_store.specs.Recorder.{began}
use Rattle.entity_store.specs.Recording.{HasRoomFor, recorded_put}
use Rattle.entity_store.specs.Store.{IsHosted, Stored, StoreView}
use Rattle.solid_model.specs.Items.{item_at}
use Rattle.solid_model.specs.Links.{links}
use Rattle.solid_model.specs.Shapes.{shape_of}
use Rattle.solid_sound.proofs.rows.Asked.{free_item}
use Rattle.solid_sound.proofs.rows.KeptMfkrh.{mfkrh-keeps}
use Rattle.solid_sound.proofs.rows.RowKeeps.{well-shape}
use Rattle.solid_calls.specs.Pairs.{HasDone}
use Rattle.entity_store.specs.Room.{HasRoomForThese, PutsAmong}
use Rattle.entity_store.proofs.Room.{room-for_one}
use Rattle.solid_calls.proofs.Sizes.{q-fits}
use Rattle.solid_places.specs.declared.loops.PlacedLoop.{PlacedLoop as FoundLoop}
use Rattle.solid_edits.specs.Faces.{IsLoop, IsShell, of_face, with_more}
use Rattle.solid_edits.proofs.Going.{done}
use Rattle.solid_edits.proofs.Hosted.{first-free, first-owned, hosted-face}
use Rattle.solid_edits.proofs.Stages.{IsStage, stage-none, stage-owns, stage-put, stage-room_one, stage-then, only-put}
use Rattle.list_facts.proofs.Elements.{Contains-first, Contains-later, Contains-only}
use Rattle.euler_make.proofs.MfkrhReached.{face-made, l_new, ring-has, ring-then, ringed, shell-has, shell-then, shell_new}
use Rattle.euler_make.proofs.MfkrhFound.{with_face, IsReady}

module _ {s0 : StoreView} {l : Tag} {p : FoundLoop} {tags : TagsView} {out : Building Tag} {new : Tag} (r : IsReady s0 l p tags out new) where
  abbrev m : EntityMap
  m = s0.state.map

  abbrev shell : Tag
  shell = p.shell

  free : item_at (shape_of m) new ≡ None
  free = free_item m r.may.sound new (first-free s0 1 tags out new r.rest r.has r.taken)

  -- all the tags that are put
  abbrev all : List Tag
  all = new ∷ l ∷ shell ∷ []

  room : HasRoomForThese s0.recording all
  room = subst (HasRoomForThese s0.recording) r.puts r.may.room

  has_new : Contains all new
  has_new = Contains-first new (l ∷ shell ∷ [])

  has_loop : Contains all l
  has_loop = Contains-later new (l ∷ shell ∷ []) l (Contains-first l (shell ∷ []))

  has_shell : Contains all shell
  has_shell = Contains-later new (l ∷ shell ∷ []) shell (Contains-later l (shell ∷ []) shell (Contains-first shell []))

  pub face-owned : IsTrue (owns s0.state.blocks new)
  face-owned = first-owned s0 0 tags out new r.rest r.has r.taken

  pub face-hosted : IsHosted s0.state.blocks new (entity.Face shell l)
  face-hosted =
      hosted-face s0.state.blocks new shell l face-owned (r.known.hosted shell _ (shell-has m r.may.sound l shell new r.goes free)).owned
      (shell_new m r.may.sound l shell new r.goes free)

  pub face-room : HasRoomFor s0.recording new
  face-room = room-for_one s0.recording all new room has_new

  -- ---- the face is put

  module _ (s1 : StoreView) (state1 : s1.state ≡ record s0.state { map = with_entity m new (Some (entity.Face shell l)) }) (began1 : began s1 ≡ began s0)
      (recorded1 : s1.recording ≡ record s0.recording { first = recorded_put s0.recording.first new (get m new) }) where
    one : IsStage all s0 s1
    one = stage-put all s0 s0 s1 new (Some (entity.Face shell l)) (stage-none all s0) has_new state1 began1 recorded1

    pub loop-is : IsLoop (get s1.state.map l)
    loop-is = subst (λ (s : Stored). IsLoop (get s.map l)) (sym state1) (subst IsLoop (sym (ring-then m r.may.sound l shell new r.goes free)) tt)

    pub loop-owned : IsTrue (owns s1.state.blocks l)
    loop-owned = stage-owns all s0 s1 l one (r.known.hosted l _ (ring-has m r.may.sound l shell new r.goes free)).owned

    pub loop-room : HasRoomFor s1.recording l
    loop-room = stage-room_one all s0 s1 l room one has_loop

    pub loop-other : new ≢ l
    loop-other e = l_new m r.may.sound l shell new r.goes free (sym e)

    -- ---- the ring is given to it

    module _ (s2 : StoreView) (state2 : s2.state ≡ record s1.state { map = with_entity s1.state.map l (option_map (of_face new) (get s1.state.map l)) }) (puts2 : PutsAmong (l ∷ []) s1 s2) where
      two : IsStage all s0 s2
      two = stage-then all (l ∷ []) s0 s1 s2 one (λ t k. subst (Contains all) (Contains-only l t k) has_loop) (only-put s1.state s2.state _ state2) puts2

      given : s2.state ≡ record s0.state { map = ringed m r.may.sound l shell new r.goes free }
      given = state2 ∙ ap (λ (s : Stored). record s { map = with_entity s.map l (option_map (of_face new) (get s.map l)) }) state1

      pub shell-is : IsShell (get s2.state.map shell)
      shell-is =
          subst (λ (s : Stored). IsShell (get s.map shell)) (sym given)
          (subst IsShell (sym (shell-then m r.may.sound l shell new r.goes free))
          (q-fits s0.state r.known.ascending r.known.range r.known.hosted r.may.sound shell r.goes.body r.goes.q r.goes.shell_is))

      pub shell-room : HasRoomFor s2.recording shell
      shell-room = stage-room_one all s0 s2 shell room two has_shell

      -- ---- the shell has one handle more

      module _ (s3 : StoreView) (state3 : s3.state ≡ record s2.state { map = with_entity s2.state.map shell (option_map (with_more (pos 1)) (get s2.state.map shell)) })
          (puts3 : PutsAmong (shell ∷ []) s2 s3) where
        three : IsStage all s0 s3
        three = stage-then all (shell ∷ []) s0 s2 s3 two (λ t k. subst (Contains all) (Contains-only shell t k) has_shell) (only-put s2.state s3.state _ state3) puts3

        pub mfkrh-done : HasDone s0 (Mfkrh l) (left tags) s3
        mfkrh-done =
            let S = shape_of m in
            let first = sym (ap (λ ts. tag_at ts 0) r.taken) in
            let counted = state3 ∙ ap (λ (s : Stored). record s { map = with_entity s.map shell (option_map (with_more (pos 1)) (get s.map shell)) }) given in
            let made = face-made m r.may.sound l shell new r.goes free in
            done s0 s3 _ (left tags) _ r.goes.row_is r.may.sound r.has.enough
            (mfkrh-keeps S (left tags) l (well-shape m r.may.sound) (λ some. subst (λ t. item_at S t ≡ None) first free))
            (counted ∙ ap (λ (n : EntityMap). record s0.state { map = n }) (made ∙ ap (λ t. links (with_face S t l r.goes.fins r.goes.vertex shell r.goes.body r.goes.q)) first))
            (subst (λ ts. PutsAmong ts s0 s3) (sym r.puts) three.puts)
