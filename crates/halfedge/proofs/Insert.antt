-- A fin and its mate are put between two rings, which become one.
use Rattle.std.proofs.Common.{◌≡◌, List, [], ◌∷◌, ◌++◌, Option, Some, None, refl, sym, ap, subst, append-nil, arith}
use Rattle.std.specs.Prelude.{IfSome, IfNone, Contains}
use Rattle.std.proofs.lemmas.List.Elements.{Contains-append_left, Contains-append_right}
use Rattle.pk_base.specs.declared.tag.Tag.{Tag}
use Rattle.pk_model.specs.Apart.{NoRepeats}
use Rattle.pk_model.specs.Maps.{EntityMap}
use Rattle.entity_store.specs.Store.{StoreView}
use Rattle.solid_model.specs.Rings.{first_tag, last_of}
use Rattle.halfedge.specs.LinkedRings.{IsRing, IsInRing, Relinks, ring_of_any}
use Rattle.entity_store.specs.Room.{HasRoomForThese, PutsAmong}
use Rattle.halfedge.proofs.LinkedRings.{in-ring_starts, any_ring}
use Rattle.halfedge.specs.Splices.{Splices, spliced}
use Rattle.halfedge.proofs.Among.{HasAll, has-each}
use Rattle.halfedge.proofs.Ends.{has-last, two_and_ends, two-first, two-second, two-ends, two-other_ends, has-two}
use Rattle.halfedge.proofs.ManyRings.{all_fins, rings-swapped, rings-later}
use Rattle.halfedge.proofs.Stages.{Stage, stage-start, stage-one, stage-as, stage-appended, relinks-of}

-- the ring from a fin on, or none, begins with that fin
pub first-of_ring : (m : EntityMap) (o : Option Tag) → IfSome o (IsInRing m) → first_tag (ring_of_any m o) ≡ o
first-of_ring m None h = refl
first-of_ring m (Some f) h = ap first_tag (in-ring_starts m f h)

module _ (s : StoreView) (at ring : Option Tag) (out back : Tag) where
  abbrev pub A : List Tag
  A = ring_of_any s.state.map ring

  abbrev pub B : List Tag
  B = ring_of_any s.state.map at

  -- the fins that are put
  abbrev pub insert_fins : List Tag
  insert_fins = two_and_ends out back A B

  -- the rings before, and after each step
  abbrev pub rings_before : List (List Tag)
  rings_before = (out ∷ []) ∷ A ∷ (back ∷ []) ∷ B ∷ []

  abbrev pub rings_one : List (List Tag)
  rings_one = (back ∷ []) ∷ B ∷ (out ∷ A) ∷ []

  abbrev pub rings_both : List (List Tag)
  rings_both = (out ∷ A) ∷ (back ∷ B) ∷ []

  abbrev pub ring_after : List (List Tag)
  ring_after = ((out ∷ A) ++ back ∷ B) ∷ []

  pub insert-start : IfSome at (IsInRing s.state.map) → IfSome ring (IsInRing s.state.map) → IsRing s.state.map (out ∷ []) → IsRing s.state.map (back ∷ [])
      → NoRepeats ((out ∷ A) ++ back ∷ B) → HasRoomForThese s.recording insert_fins → Stage insert_fins s rings_before s
  insert-start in_b in_a o b once room = stage-start insert_fins s rings_before room (record {
    once = subst (λ ts. NoRepeats ((out ∷ A) ++ back ∷ ts)) (sym (append-nil B)) once;
    each = (o, (any_ring s.state.map ring in_a, (b, (any_ring s.state.map at in_b, tt))));
  })

  -- what the last step puts
  pub has-parts : HasAll insert_fins (out ∷ back ∷ last_of out A ∷ last_of back B ∷ [])
  has-parts =
      let k = two-first out back A B in
      let j = two-second out back A B in
      has-each insert_fins (out ∷ back ∷ last_of out A ∷ last_of back B ∷ [])
      (k, (j, (has-last insert_fins out A k (two-ends out back A B), (has-last insert_fins back B j (two-other_ends out back A B), tt))))

  -- all of them stand in the rings before
  has_fins : HasAll (all_fins (A ∷ B ∷ (out ∷ []) ∷ (back ∷ []) ∷ [])) insert_fins
  has_fins =
      let all = A ++ (B ++ out ∷ back ∷ []) in
      let later = λ (t : Tag) (k : Contains (B ++ out ∷ back ∷ []) t). Contains-append_right A (B ++ out ∷ back ∷ []) t k in
      has-two all out back A B
      (later out (Contains-append_right B (out ∷ back ∷ []) out (0, omega arith, refl)))
      (later back (Contains-append_right B (out ∷ back ∷ []) back (1, omega arith, refl)))
      (λ t k. Contains-append_left A (B ++ out ∷ back ∷ []) t k)
      (λ t k. later t (Contains-append_left B (out ∷ back ∷ []) t k))

  pub insert-one : (a : StoreView) → IfSome ring (IsInRing s.state.map) → Stage insert_fins s rings_before s
      → IfSome ring (λ g. Splices s.state.map out g a.state.map) → IfNone ring (a ≡ s) → IfSome ring (λ g. PutsAmong (spliced s.state.map out g) s a)
      → Stage insert_fins s rings_one a
  insert-one a in_a h links same puts =
      let is = sym (first-of_ring s.state.map ring in_a) in
      let b = stage-appended insert_fins s s out A ((back ∷ []) ∷ B ∷ []) (two-first out back A B) (two-ends out back A B) h a
      (subst (λ (o : Option Tag). IfSome o (λ g. Splices s.state.map out g a.state.map)) is links)
      (subst (λ (o : Option Tag). IfNone o (a ≡ s)) is same)
      (subst (λ (o : Option Tag). IfSome o (λ g. PutsAmong (spliced s.state.map out g) s a)) is puts) in
      stage-as insert_fins s a ((out ∷ A) ∷ (back ∷ []) ∷ B ∷ []) rings_one b
      (rings-later a.state.map (back ∷ []) (out ∷ A) B [] (rings-swapped a.state.map (out ∷ A) (back ∷ []) (B ∷ []) b.are))

  pub insert-both : (a b : StoreView) → IfSome at (IsInRing s.state.map) → Stage insert_fins s rings_one a
      → IfSome at (λ g. Splices a.state.map back g b.state.map) → IfNone at (b ≡ a) → IfSome at (λ g. PutsAmong (spliced a.state.map back g) a b)
      → Stage insert_fins s rings_both b
  insert-both a b in_b h links same puts =
      let is = sym (first-of_ring s.state.map at in_b) in
      let c = stage-appended insert_fins s a back B ((out ∷ A) ∷ []) (two-second out back A B) (two-other_ends out back A B) h b
      (subst (λ (o : Option Tag). IfSome o (λ g. Splices a.state.map back g b.state.map)) is links)
      (subst (λ (o : Option Tag). IfNone o (b ≡ a)) is same)
      (subst (λ (o : Option Tag). IfSome o (λ g. PutsAmong (spliced a.state.map back g) a b)) is puts) in
      stage-as insert_fins s b ((back ∷ B) ∷ (out ∷ A) ∷ []) rings_both c (rings-swapped b.state.map (back ∷ B) (out ∷ A) [] c.are)

  pub insert-done : (b c : StoreView) → Stage insert_fins s rings_both b → Splices b.state.map out back c.state.map → PutsAmong (spliced b.state.map out back) b c → Stage insert_fins s ring_after c
  insert-done b c h links puts = stage-one insert_fins s b out back A B [] has-parts h c links puts

  pub insert-relinks : (c : StoreView) → Stage insert_fins s ring_after c
      → Relinks s.state.map (A ∷ B ∷ (out ∷ []) ∷ (back ∷ []) ∷ []) c.state.map ring_after
  insert-relinks c h = relinks-of insert_fins s c (A ∷ B ∷ (out ∷ []) ∷ (back ∷ []) ∷ []) ring_after h.reaches has_fins h.are.each
