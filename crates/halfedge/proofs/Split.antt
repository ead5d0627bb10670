-- A ring is parted at two of its fins.
use Rattle.std.proofs.Common.{◌≡◌, List, [], ◌∷◌, ◌++◌, refl, sym, subst, arith}
use Rattle.std.specs.Prelude.{Contains}
use Rattle.std.proofs.lemmas.List.Elements.{Contains-append_left, Contains-append_right}
use Rattle.pk_base.specs.declared.tag.Tag.{Tag}
use Rattle.pk_model.specs.Apart.{NoRepeats}
use Rattle.entity_store.specs.Store.{StoreView}
use Rattle.solid_model.specs.Rings.{before, from, last_of, ends_of}
use Rattle.list_facts.proofs.Elements.{Contains-first}
use Rattle.solid_model.proofs.lists.Cycles.{last_of-in}
use Rattle.halfedge.specs.LinkedRings.{IsRing, IsInRing, Relinks, ring_at}
use Rattle.entity_store.specs.Room.{HasRoomForThese, PutsAmong}
use Rattle.halfedge.specs.Splices.{Splices, spliced}
use Rattle.halfedge.proofs.Among.{HasAll, has-each}
use Rattle.halfedge.proofs.ManyRings.{rings-swapped, rings-later}
use Rattle.halfedge.proofs.Stages.{Stage, PartedAt, stage-start, stage-one, stage-two, stage-as, relinks-of}

module _ (s : StoreView) (f g x y : Tag) (p : PartedAt s.state.map f g) where
  -- the fins that are put
  abbrev pub split_fins : List Tag
  split_fins = x ∷ y ∷ f ∷ last_of f p.ahead ∷ g ∷ last_of g p.behind ∷ []

  pub split_fins-is : (x ∷ y ∷ ends_of (before g (ring_at s.state.map f))) ++ ends_of (from g (ring_at s.state.map f)) ≡ split_fins
  split_fins-is = λ i. (x ∷ y ∷ ends_of (p.before_is i)) ++ ends_of (p.from_is i)

  pub split-start : IsInRing s.state.map f → IsRing s.state.map (x ∷ []) → IsRing s.state.map (y ∷ []) → NoRepeats (ring_at s.state.map f ++ x ∷ y ∷ [])
      → HasRoomForThese s.recording ((x ∷ y ∷ ends_of (before g (ring_at s.state.map f))) ++ ends_of (from g (ring_at s.state.map f)))
      → Stage split_fins s (((f ∷ p.ahead) ++ g ∷ p.behind) ∷ (x ∷ []) ∷ (y ∷ []) ∷ []) s
  split-start h hx hy once room = stage-start split_fins s _ (subst (HasRoomForThese s.recording) split_fins-is room) (record {
    once = subst (λ ts. NoRepeats (ts ++ x ∷ y ∷ [])) p.ring_is once;
    each = (subst (IsRing s.state.map) p.ring_is h.ring, (hx, (hy, tt)));
  })

  -- what each of the three steps puts
  pub has-parts : HasAll split_fins (f ∷ g ∷ last_of f p.ahead ∷ last_of g p.behind ∷ [])
  has-parts = has-each split_fins (f ∷ g ∷ last_of f p.ahead ∷ last_of g p.behind ∷ []) ((2, omega arith, refl), ((4, omega arith, refl), ((3, omega arith, refl), ((5, omega arith, refl), tt))))

  pub has-first_x : HasAll split_fins (f ∷ x ∷ last_of f p.ahead ∷ x ∷ [])
  has-first_x = has-each split_fins (f ∷ x ∷ last_of f p.ahead ∷ x ∷ []) ((2, omega arith, refl), ((0, omega arith, refl), ((3, omega arith, refl), ((0, omega arith, refl), tt))))

  pub has-second_y : HasAll split_fins (g ∷ y ∷ last_of g p.behind ∷ y ∷ [])
  has-second_y = has-each split_fins (g ∷ y ∷ last_of g p.behind ∷ y ∷ []) ((4, omega arith, refl), ((1, omega arith, refl), ((5, omega arith, refl), ((1, omega arith, refl), tt))))

  -- all of them stand in the rings before
  has_fins : HasAll (((f ∷ p.ahead) ++ g ∷ p.behind) ++ x ∷ y ∷ []) split_fins
  has_fins =
      let ring = (f ∷ p.ahead) ++ g ∷ p.behind in
      let all = ring ++ x ∷ y ∷ [] in
      let in_ring = λ (t : Tag) (k : Contains ring t). Contains-append_left ring (x ∷ y ∷ []) t k in
      let in_first = λ (t : Tag) (k : Contains (f ∷ p.ahead) t). in_ring t (Contains-append_left (f ∷ p.ahead) (g ∷ p.behind) t k) in
      let in_second = λ (t : Tag) (k : Contains (g ∷ p.behind) t). in_ring t (Contains-append_right (f ∷ p.ahead) (g ∷ p.behind) t k) in
      has-each all split_fins (
        Contains-append_right ring (x ∷ y ∷ []) x (0, omega arith, refl),
        (
          Contains-append_right ring (x ∷ y ∷ []) y (1, omega arith, refl),
          (
            in_first f (Contains-first f p.ahead),
            (in_first (last_of f p.ahead) (last_of-in f p.ahead), (in_second g (Contains-first g p.behind), (in_second (last_of g p.behind) (last_of-in g p.behind), tt))),
          ),
        ),
      )

  -- the rings before, and after each step
  abbrev pub rings_before : List (List Tag)
  rings_before = ((f ∷ p.ahead) ++ g ∷ p.behind) ∷ (x ∷ []) ∷ (y ∷ []) ∷ []

  abbrev pub rings_parted : List (List Tag)
  rings_parted = (f ∷ p.ahead) ∷ (x ∷ []) ∷ (g ∷ p.behind) ∷ (y ∷ []) ∷ []

  abbrev pub rings_one_done : List (List Tag)
  rings_one_done = (g ∷ p.behind) ∷ (y ∷ []) ∷ ((f ∷ p.ahead) ++ x ∷ []) ∷ []

  abbrev pub rings_after : List (List Tag)
  rings_after = ((f ∷ p.ahead) ++ x ∷ []) ∷ ((g ∷ p.behind) ++ y ∷ []) ∷ []

  pub split-parted : (a : StoreView) → Stage split_fins s rings_before s → Splices s.state.map f g a.state.map → PutsAmong (spliced s.state.map f g) s a → Stage split_fins s rings_parted a
  split-parted a h k puts =
      let b = stage-two split_fins s s f g p.ahead p.behind ((x ∷ []) ∷ (y ∷ []) ∷ []) has-parts h a k puts in
      stage-as split_fins s a ((f ∷ p.ahead) ∷ (g ∷ p.behind) ∷ (x ∷ []) ∷ (y ∷ []) ∷ []) rings_parted b (rings-later a.state.map (f ∷ p.ahead) (g ∷ p.behind) (x ∷ []) ((y ∷ []) ∷ []) b.are)

  pub split-one_done : (a b : StoreView) → Stage split_fins s rings_parted a → Splices a.state.map f x b.state.map → PutsAmong (spliced a.state.map f x) a b → Stage split_fins s rings_one_done b
  split-one_done a b h k puts =
      let one = (f ∷ p.ahead) ++ x ∷ [] in
      let c = stage-one split_fins s a f x p.ahead [] ((g ∷ p.behind) ∷ (y ∷ []) ∷ []) has-first_x h b k puts in
      stage-as split_fins s b (one ∷ (g ∷ p.behind) ∷ (y ∷ []) ∷ []) rings_one_done c
      (rings-later b.state.map (g ∷ p.behind) one (y ∷ []) [] (rings-swapped b.state.map one (g ∷ p.behind) ((y ∷ []) ∷ []) c.are))

  pub split-done : (b c : StoreView) → Stage split_fins s rings_one_done b → Splices b.state.map g y c.state.map → PutsAmong (spliced b.state.map g y) b c → Stage split_fins s rings_after c
  split-done b c h k puts =
      let one = (f ∷ p.ahead) ++ x ∷ [] in
      let other = (g ∷ p.behind) ++ y ∷ [] in
      let d = stage-one split_fins s b g y p.behind [] (one ∷ []) has-second_y h c k puts in
      stage-as split_fins s c (other ∷ one ∷ []) rings_after d (rings-swapped c.state.map other one [] d.are)

  pub split-relinks : (c : StoreView) → Stage split_fins s rings_after c
      → Relinks s.state.map (ring_at s.state.map f ∷ (x ∷ []) ∷ (y ∷ []) ∷ []) c.state.map ((before g (ring_at s.state.map f) ++ x ∷ []) ∷ (from g (ring_at s.state.map f) ++ y ∷ []) ∷ [])
  split-relinks c h =
      subst (λ (l : List Tag × List Tag × List Tag). Relinks s.state.map (l.0 ∷ (x ∷ []) ∷ (y ∷ []) ∷ []) c.state.map ((l.1 ++ x ∷ []) ∷ (l.2 ++ y ∷ []) ∷ []))
      (λ i. (sym p.ring_is i, sym p.before_is i, sym p.from_is i))
      (relinks-of split_fins s c rings_before rings_after h.reaches has_fins h.are.each)

  pub split-puts : (c : StoreView) → Stage split_fins s rings_after c → PutsAmong ((x ∷ y ∷ ends_of (before g (ring_at s.state.map f))) ++ ends_of (from g (ring_at s.state.map f))) s c
  split-puts c h = subst (λ ts. PutsAmong ts s c) (sym split_fins-is) h.reaches.puts
