-- Two rings become one, without their first fins.
use Rattle.std.proofs.Common.{◌≡◌, List, [], ◌∷◌, ◌++◌, drop, refl, sym, subst, append-nil}
use Rattle.std.specs.Prelude.{IfSome, Contains}
use Rattle.std.proofs.lemmas.List.Elements.{Contains-append_left, Contains-append_right}
use Rattle.pk_base.specs.declared.tag.Tag.{Tag}
use Rattle.pk_model.specs.Apart.{NoRepeats}
use Rattle.entity_store.specs.Store.{StoreView}
use Rattle.solid_model.specs.Rings.{last_of}
use Rattle.solid_model.proofs.lists.Neighbours.{head_or}
use Rattle.solid_model.proofs.lists.Cycles.{last_of-append}
use Rattle.halfedge.specs.LinkedRings.{IsRing, IsInRing, Relinks, next_at, ring_at}
use Rattle.entity_store.specs.Room.{HasRoomForThese, PutsAmong}
use Rattle.halfedge.proofs.LinkedRings.{in-ring_starts, ring-turned}
use Rattle.list_facts.proofs.Elements.{Contains-first, Contains-later}
use Rattle.halfedge.specs.Splices.{Splices, spliced}
use Rattle.halfedge.proofs.Among.{HasAll, has-each}
use Rattle.halfedge.proofs.Ends.{has-head, has-last, has-head_both, has-last_both, two_and_ends, two-first, two-second, two-ends, two-other_ends, has-two}
use Rattle.halfedge.proofs.ManyRings.{rings-swapped, rings-turned}
use Rattle.halfedge.proofs.Stages.{Stage, stage-start, stage-one, stage-unhooked, stage-as, relinks-of}

head_or-append : (f g : Tag) (A B : List Tag) → head_or f (A ++ g ∷ B) ≡ head_or g A
head_or-append f g [] B = refl
head_or-append f g (h ∷ A) B = refl

module _ (s : StoreView) (x y : Tag) (in_x : IsInRing s.state.map x) (in_y : IsInRing s.state.map y) where
  abbrev pub P : List Tag
  P = drop 1 (ring_at s.state.map x)

  abbrev pub Q : List Tag
  Q = drop 1 (ring_at s.state.map y)

  -- the fins that are put
  abbrev pub join_fins : List Tag
  join_fins = two_and_ends x y P Q

  x_is : ring_at s.state.map x ≡ x ∷ P
  x_is = in-ring_starts s.state.map x in_x

  y_is : ring_at s.state.map y ≡ y ∷ Q
  y_is = in-ring_starts s.state.map y in_y

  -- the rings before, and after each step
  abbrev pub rings_before : List (List Tag)
  rings_before = (x ∷ P) ∷ (y ∷ Q) ∷ []

  abbrev pub ring_joined : List (List Tag)
  ring_joined = (x ∷ (P ++ y ∷ Q)) ∷ []

  abbrev pub rings_one_out : List (List Tag)
  rings_one_out = (y ∷ (Q ++ P)) ∷ (x ∷ []) ∷ []

  abbrev pub rings_both_out : List (List Tag)
  rings_both_out = (y ∷ []) ∷ (Q ++ P) ∷ (x ∷ []) ∷ []

  pub join-start : NoRepeats (ring_at s.state.map x ++ ring_at s.state.map y) → HasRoomForThese s.recording join_fins → Stage join_fins s rings_before s
  join-start once room =
      stage-start join_fins s rings_before room
      (record {
        once = subst (λ ts. NoRepeats ((x ∷ P) ++ ts)) (sym (append-nil (y ∷ Q))) (subst (λ (l : List Tag × List Tag). NoRepeats (l.0 ++ l.1)) (λ i. (x_is i, y_is i)) once);
        each = (subst (IsRing s.state.map) x_is in_x.ring, (subst (IsRing s.state.map) y_is in_y.ring, tt));
      })

  -- what each of the three steps puts
  pub has-parts : HasAll join_fins (x ∷ y ∷ last_of x P ∷ last_of y Q ∷ [])
  has-parts =
      let k = two-first x y P Q in
      let j = two-second x y P Q in
      has-each join_fins (x ∷ y ∷ last_of x P ∷ last_of y Q ∷ [])
      (k, (j, (has-last join_fins x P k (two-ends x y P Q), (has-last join_fins y Q j (two-other_ends x y P Q), tt))))

  pub has-first : HasAll join_fins (x ∷ head_or x (P ++ y ∷ Q) ∷ last_of x (P ++ y ∷ Q) ∷ [])
  has-first =
      let k = two-second x y P Q in
      has-each join_fins (x ∷ head_or x (P ++ y ∷ Q) ∷ last_of x (P ++ y ∷ Q) ∷ []) (
        two-first x y P Q,
        (
          subst (Contains join_fins) (sym (head_or-append x y P Q)) (has-head join_fins y P k (two-ends x y P Q)),
          (subst (Contains join_fins) (sym (last_of-append x P y Q)) (has-last join_fins y Q k (two-other_ends x y P Q)), tt),
        ),
      )

  pub has-second : HasAll join_fins (y ∷ head_or y (Q ++ P) ∷ last_of y (Q ++ P) ∷ [])
  has-second =
      let k = two-second x y P Q in
      let e = two-ends x y P Q in
      let o = two-other_ends x y P Q in
      has-each join_fins (y ∷ head_or y (Q ++ P) ∷ last_of y (Q ++ P) ∷ []) (k, (has-head_both join_fins y Q P k o e, (has-last_both join_fins y Q P k o e, tt)))

  -- all of them stand in the rings before
  has_fins : HasAll ((x ∷ P) ++ ((y ∷ Q) ++ [])) join_fins
  has_fins =
      let both = (x ∷ P) ++ y ∷ Q in
      subst (λ ts. HasAll ((x ∷ P) ++ ts) join_fins) (sym (append-nil (y ∷ Q)))
      (has-two both x y P Q (Contains-append_left (x ∷ P) (y ∷ Q) x (Contains-first x P)) (Contains-append_right (x ∷ P) (y ∷ Q) y (Contains-first y Q))
      (λ t k. Contains-append_left (x ∷ P) (y ∷ Q) t (Contains-later x P t k)) (λ t k. Contains-append_right (x ∷ P) (y ∷ Q) t (Contains-later y Q t k)))

  pub join-joined : (a : StoreView) → Stage join_fins s rings_before s → Splices s.state.map x y a.state.map → PutsAmong (spliced s.state.map x y) s a → Stage join_fins s ring_joined a
  join-joined a h k puts = stage-one join_fins s s x y P Q [] has-parts h a k puts

  pub join-one_out : (a b : StoreView) → Stage join_fins s ring_joined a → IfSome (next_at a.state.map x) (λ t. Splices a.state.map x t b.state.map)
      → IfSome (next_at a.state.map x) (λ t. PutsAmong (spliced a.state.map x t) a b) → Stage join_fins s rings_one_out b
  join-one_out a b h k puts =
      let c = stage-unhooked join_fins s a x (P ++ y ∷ Q) [] has-first h b k puts in
      stage-as join_fins s b ((x ∷ []) ∷ (P ++ y ∷ Q) ∷ []) rings_one_out c
      (rings-turned b.state.map (P ++ y ∷ Q) (y ∷ (Q ++ P)) ((x ∷ []) ∷ []) (record { pre = P; post = y ∷ Q; here = refl; there = refl })
      (rings-swapped b.state.map (x ∷ []) (P ++ y ∷ Q) [] c.are))

  pub join-both_out : (b c : StoreView) → Stage join_fins s rings_one_out b → IfSome (next_at b.state.map y) (λ t. Splices b.state.map y t c.state.map)
      → IfSome (next_at b.state.map y) (λ t. PutsAmong (spliced b.state.map y t) b c) → Stage join_fins s rings_both_out c
  join-both_out b c h k puts = stage-unhooked join_fins s b y (Q ++ P) ((x ∷ []) ∷ []) has-second h c k puts

  pub join-relinks : (c : StoreView) → Stage join_fins s rings_both_out c
      → Relinks s.state.map (ring_at s.state.map x ∷ ring_at s.state.map y ∷ []) c.state.map ((P ++ Q) ∷ (x ∷ []) ∷ (y ∷ []) ∷ [])
  join-relinks c h =
      let each = h.are.each in
      subst (λ (l : List Tag × List Tag). Relinks s.state.map (l.0 ∷ l.1 ∷ []) c.state.map ((P ++ Q) ∷ (x ∷ []) ∷ (y ∷ []) ∷ []))
      (λ i. (sym x_is i, sym y_is i))
      (relinks-of join_fins s c rings_before ((P ++ Q) ∷ (x ∷ []) ∷ (y ∷ []) ∷ []) h.reaches has_fins
      (ring-turned c.state.map (Q ++ P) (P ++ Q) (record { pre = Q; post = P; here = refl; there = refl }) each.1.0, (each.1.1.0, (each.0, tt))))
