-- kfmrh: what each step asks for, and that the last one does what the row says.
use Rattle.std.proofs.Common.{◌≡◌, ◌≢◌, List, [], ◌∷◌, ◌++◌, sym, ap, subst, ◌∙◌, arith}
use Rattle.std.specs.Prelude.{negsuc, Contains, IsTrue, option_map}
use Rattle.std.specs.FinMap.{get}
use Rattle.pk_base.specs.declared.call.Call.TheVariants.{Kfmrh}
use Rattle.pk_base.specs.declared.tag.Tag.{Tag}
use Rattle.pk_model.specs.Maps.{EntityMap, with_entity}
use Rattle.pk_model.specs.Tags.{owns}
use Rattle.entity_store.specs.Recording.{HasRoomFor}
use Rattle.entity_store.specs.Store.{Stored, StoreView}
use Rattle.std.proofs.lemmas.List.Elements.{Contains-append_left, Contains-append_right}
use Rattle.solid_model.specs.Room.{tags_put}
use Rattle.solid_model.specs.Shapes.{shape_of}
use Rattle.solid_sound.proofs.rows.KeptKfmrh.{kfmrh-keeps}
use Rattle.solid_sound.proofs.rows.RowKeeps.{well-shape}
use Rattle.solid_calls.specs.Attributes.{attributes_on}
use Rattle.solid_calls.specs.Pairs.{HasDone}
use Rattle.entity_store.specs.Room.{HasRoomForThese, PutsAmong}
use Rattle.solid_calls.proofs.Represented.{represents-sound}
use Rattle.entity_store.proofs.Room.{puts-wider, room-part}
use Rattle.solid_calls.proofs.Sizes.{q-fits}
use Rattle.solid_places.specs.declared.faces.PlacedFace.{PlacedFace as FoundFace}
use Rattle.solid_edits.specs.Deaths.{Dies}
use Rattle.solid_edits.specs.Faces.{IsLoop, IsShell, of_face, with_more}
use Rattle.solid_edits.proofs.Going.{done}
use Rattle.solid_edits.proofs.Stages.{IsStage, Within, stage-none, stage-owns, stage-room_one, stage-then, only-put}
use Rattle.list_facts.proofs.Elements.{Contains-first, Contains-later, Contains-only}
use Rattle.euler_kill.proofs.KfmrhReached.{face-killed, keep-has, keep_l, loop-has, loop-then, shell-then}
use Rattle.euler_kill.proofs.KfmrhFound.{kfmrh-within, IsReady}

module _ {s0 : StoreView} {keep kill : Tag} {p : FoundFace} (r : IsReady s0 keep kill p) where
  abbrev m : EntityMap
  m = s0.state.map

  abbrev l : Tag
  l = p.outer

  abbrev shell : Tag
  shell = p.shell

  -- all the tags that are put
  abbrev all : List Tag
  all = (kill ∷ attributes_on m kill) ++ l ∷ shell ∷ []

  are_put : Within all (tags_put (shape_of m) (Kfmrh keep kill) [])
  are_put = kfmrh-within m keep kill p r.found shell l r.goes.kill_is

  room : HasRoomForThese s0.recording all
  room = room-part s0.recording _ all r.may.room are_put

  has_dead : Within (kill ∷ attributes_on m kill) all
  has_dead = Contains-append_left (kill ∷ attributes_on m kill) (l ∷ shell ∷ [])

  has_loop : Contains all l
  has_loop = Contains-append_right (kill ∷ attributes_on m kill) (l ∷ shell ∷ []) l (Contains-first l (shell ∷ []))

  has_shell : Contains all shell
  has_shell = Contains-append_right (kill ∷ attributes_on m kill) (l ∷ shell ∷ []) shell (Contains-later l (shell ∷ []) shell (Contains-first shell []))

  pub kill-owned : IsTrue (owns s0.state.blocks kill)
  kill-owned = (r.known.hosted kill _ ((represents-sound m r.may.sound).items kill _ r.goes.kill_is)).owned

  pub kill-room : HasRoomForThese s0.recording (kill ∷ attributes_on m kill)
  kill-room = room-part s0.recording all (kill ∷ attributes_on m kill) room has_dead

  -- ---- the face dies

  module _ (s1 : StoreView) (dies : Dies m kill s1.state.map) (state1 : s1.state ≡ record s0.state { map = s1.state.map }) (puts1 : PutsAmong (kill ∷ attributes_on m kill) s0 s1) where
    abbrev n : EntityMap
    n = s1.state.map

    one : IsStage all s0 s1
    one = stage-then all (kill ∷ attributes_on m kill) s0 s0 s1 (stage-none all s0) has_dead state1 puts1

    pub loop-is : IsLoop (get n l)
    loop-is = subst IsLoop (sym (loop-then m n r.may.sound keep kill l shell dies r.goes)) tt

    pub loop-owned : IsTrue (owns s1.state.blocks l)
    loop-owned = stage-owns all s0 s1 l one (r.known.hosted l _ (loop-has m n r.may.sound keep kill l shell dies r.goes)).owned

    pub face-owned : IsTrue (owns s1.state.blocks keep)
    face-owned = stage-owns all s0 s1 keep one (r.known.hosted keep _ (keep-has m n r.may.sound keep kill l shell dies r.goes)).owned

    pub face-other : keep ≢ l
    face-other = keep_l m n r.may.sound keep kill l shell dies r.goes

    pub loop-room : HasRoomFor s1.recording l
    loop-room = stage-room_one all s0 s1 l room one has_loop

    -- ---- its loop is given to the other face

    module _ (s2 : StoreView) (state2 : s2.state ≡ record s1.state { map = with_entity n l (option_map (of_face keep) (get n l)) }) (puts2 : PutsAmong (l ∷ []) s1 s2) where
      two : IsStage all s0 s2
      two = stage-then all (l ∷ []) s0 s1 s2 one (λ t k. subst (Contains all) (Contains-only l t k) has_loop) (only-put s1.state s2.state _ state2) puts2

      ringed : s2.state ≡ record s0.state { map = with_entity n l (option_map (of_face keep) (get n l)) }
      ringed = state2 ∙ ap (λ (s : Stored). record s { map = with_entity n l (option_map (of_face keep) (get n l)) }) state1

      pub shell-is : IsShell (get s2.state.map shell)
      shell-is =
          subst (λ (s : Stored). IsShell (get s.map shell)) (sym ringed)
          (subst IsShell (sym (shell-then m n r.may.sound keep kill l shell dies r.goes))
          (q-fits s0.state r.known.ascending r.known.range r.known.hosted r.may.sound shell r.goes.body r.goes.q r.goes.shell_is))

      pub shell-room : HasRoomFor s2.recording shell
      shell-room = stage-room_one all s0 s2 shell room two has_shell

      -- ---- the shell has one handle less

      module _ (s3 : StoreView) (state3 : s3.state ≡ record s2.state { map = with_entity s2.state.map shell (option_map (with_more (negsuc 0)) (get s2.state.map shell)) })
          (puts3 : PutsAmong (shell ∷ []) s2 s3) where
        three : IsStage all s0 s3
        three = stage-then all (shell ∷ []) s0 s2 s3 two (λ t k. subst (Contains all) (Contains-only shell t k) has_shell) (only-put s2.state s3.state _ state3) puts3

        pub kfmrh-done : HasDone s0 (Kfmrh keep kill) [] s3
        kfmrh-done =
            let counted = state3 ∙ ap (λ (s : Stored). record s { map = with_entity s.map shell (option_map (with_more (negsuc 0)) (get s.map shell)) }) ringed in
            done s0 s3 _ [] _ r.goes.row_is r.may.sound (omega arith) (kfmrh-keeps (shape_of m) [] keep kill (well-shape m r.may.sound))
            (counted ∙ ap (λ (k : EntityMap). record s0.state { map = k }) (face-killed m n r.may.sound keep kill l shell dies r.goes))
            (puts-wider all _ s0 s3 three.puts are_put)
