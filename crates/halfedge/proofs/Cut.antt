-- Two fins are cut out of their ring.
use Rattle.std.proofs.Common.{◌≡◌, List, [], ◌∷◌, ◌++◌, drop, sym, subst, append-nil}
use Rattle.std.specs.Prelude.{Contains}
use Rattle.std.proofs.lemmas.List.Elements.{Contains-append_left, Contains-append_right}
use Rattle.pk_base.specs.declared.tag.Tag.{Tag}
use Rattle.pk_model.specs.Apart.{NoRepeats}
use Rattle.entity_store.specs.Store.{StoreView}
use Rattle.std.specs.Prelude.{IfSome}
use Rattle.solid_model.specs.Rings.{before, from, last_of}
use Rattle.solid_model.proofs.lists.Neighbours.{head_or}
use Rattle.halfedge.specs.LinkedRings.{IsRing, IsInRing, Relinks, next_at, ring_at}
use Rattle.entity_store.specs.Room.{HasRoomForThese, PutsAmong}
use Rattle.list_facts.proofs.Elements.{Contains-first, Contains-later}
use Rattle.halfedge.specs.Splices.{Splices, spliced}
use Rattle.halfedge.proofs.Among.{HasAll, has-each}
use Rattle.halfedge.proofs.Ends.{has-head, has-last, two_and_ends, two-first, two-second, two-ends, two-other_ends, has-two}
use Rattle.halfedge.proofs.ManyRings.{rings-swapped, rings-later}
use Rattle.halfedge.proofs.Stages.{Stage, PartedAt, stage-start, stage-two, stage-unhooked, stage-as, relinks-of}

module _ (s : StoreView) (f g : Tag) (p : PartedAt s.state.map f g) where
  -- the fins that are put
  abbrev pub cut_fins : List Tag
  cut_fins = two_and_ends f g p.ahead p.behind

  -- as they are written of the ring
  abbrev pub fins_written : List Tag
  fins_written = two_and_ends f g (drop 1 (before g (ring_at s.state.map f))) (drop 1 (from g (ring_at s.state.map f)))

  cut_fins-is : fins_written ≡ cut_fins
  cut_fins-is = λ i. two_and_ends f g (drop 1 (p.before_is i)) (drop 1 (p.from_is i))

  -- the rings before, and after each step
  abbrev pub ring_before : List (List Tag)
  ring_before = ((f ∷ p.ahead) ++ g ∷ p.behind) ∷ []

  abbrev pub rings_parted : List (List Tag)
  rings_parted = (f ∷ p.ahead) ∷ (g ∷ p.behind) ∷ []

  abbrev pub rings_one_out : List (List Tag)
  rings_one_out = (g ∷ p.behind) ∷ (f ∷ []) ∷ p.ahead ∷ []

  abbrev pub rings_both_out : List (List Tag)
  rings_both_out = (g ∷ []) ∷ p.behind ∷ (f ∷ []) ∷ p.ahead ∷ []

  pub cut-start : IsInRing s.state.map f → HasRoomForThese s.recording fins_written → Stage cut_fins s ring_before s
  cut-start h room =
      let ring : IsRing s.state.map ((f ∷ p.ahead) ++ g ∷ p.behind) = subst (IsRing s.state.map) p.ring_is h.ring in
      stage-start cut_fins s ring_before (subst (HasRoomForThese s.recording) cut_fins-is room)
      (record { once = subst NoRepeats (sym (append-nil ((f ∷ p.ahead) ++ g ∷ p.behind))) ring.once; each = (ring, tt) })

  -- what each of the three steps puts
  pub has-parts : HasAll cut_fins (f ∷ g ∷ last_of f p.ahead ∷ last_of g p.behind ∷ [])
  has-parts =
      let k = two-first f g p.ahead p.behind in
      let j = two-second f g p.ahead p.behind in
      has-each cut_fins (f ∷ g ∷ last_of f p.ahead ∷ last_of g p.behind ∷ [])
      (k, (j, (has-last cut_fins f p.ahead k (two-ends f g p.ahead p.behind), (has-last cut_fins g p.behind j (two-other_ends f g p.ahead p.behind), tt))))

  pub has-first : HasAll cut_fins (f ∷ head_or f p.ahead ∷ last_of f p.ahead ∷ [])
  has-first =
      let k = two-first f g p.ahead p.behind in
      let e = two-ends f g p.ahead p.behind in
      has-each cut_fins (f ∷ head_or f p.ahead ∷ last_of f p.ahead ∷ []) (k, (has-head cut_fins f p.ahead k e, (has-last cut_fins f p.ahead k e, tt)))

  pub has-second : HasAll cut_fins (g ∷ head_or g p.behind ∷ last_of g p.behind ∷ [])
  has-second =
      let k = two-second f g p.ahead p.behind in
      let e = two-other_ends f g p.ahead p.behind in
      has-each cut_fins (g ∷ head_or g p.behind ∷ last_of g p.behind ∷ []) (k, (has-head cut_fins g p.behind k e, (has-last cut_fins g p.behind k e, tt)))

  -- all of them stand in the ring
  has_fins : HasAll (((f ∷ p.ahead) ++ g ∷ p.behind) ++ []) cut_fins
  has_fins =
      let ring = (f ∷ p.ahead) ++ g ∷ p.behind in
      let in_first = λ (t : Tag) (k : Contains (f ∷ p.ahead) t). Contains-append_left (f ∷ p.ahead) (g ∷ p.behind) t k in
      let in_second = λ (t : Tag) (k : Contains (g ∷ p.behind) t). Contains-append_right (f ∷ p.ahead) (g ∷ p.behind) t k in
      subst (λ ts. HasAll ts cut_fins) (sym (append-nil ring))
      (has-two ring f g p.ahead p.behind (in_first f (Contains-first f p.ahead)) (in_second g (Contains-first g p.behind))
      (λ t k. in_first t (Contains-later f p.ahead t k)) (λ t k. in_second t (Contains-later g p.behind t k)))

  pub cut-parted : (a : StoreView) → Stage cut_fins s ring_before s → Splices s.state.map f g a.state.map → PutsAmong (spliced s.state.map f g) s a → Stage cut_fins s rings_parted a
  cut-parted a h k puts = stage-two cut_fins s s f g p.ahead p.behind [] has-parts h a k puts

  pub cut-one_out : (a b : StoreView) → Stage cut_fins s rings_parted a → IfSome (next_at a.state.map f) (λ t. Splices a.state.map f t b.state.map)
      → IfSome (next_at a.state.map f) (λ t. PutsAmong (spliced a.state.map f t) a b) → Stage cut_fins s rings_one_out b
  cut-one_out a b h k puts =
      let c = stage-unhooked cut_fins s a f p.ahead ((g ∷ p.behind) ∷ []) has-first h b k puts in
      stage-as cut_fins s b ((f ∷ []) ∷ p.ahead ∷ (g ∷ p.behind) ∷ []) rings_one_out c
      (rings-swapped b.state.map (f ∷ []) (g ∷ p.behind) (p.ahead ∷ []) (rings-later b.state.map (f ∷ []) p.ahead (g ∷ p.behind) [] c.are))

  pub cut-both_out : (b c : StoreView) → Stage cut_fins s rings_one_out b → IfSome (next_at b.state.map g) (λ t. Splices b.state.map g t c.state.map)
      → IfSome (next_at b.state.map g) (λ t. PutsAmong (spliced b.state.map g t) b c) → Stage cut_fins s rings_both_out c
  cut-both_out b c h k puts = stage-unhooked cut_fins s b g p.behind ((f ∷ []) ∷ p.ahead ∷ []) has-second h c k puts

  pub cut-relinks : (c : StoreView) → Stage cut_fins s rings_both_out c
      → Relinks s.state.map (ring_at s.state.map f ∷ []) c.state.map (drop 1 (before g (ring_at s.state.map f)) ∷ drop 1 (from g (ring_at s.state.map f)) ∷ (f ∷ []) ∷ (g ∷ []) ∷ [])
  cut-relinks c h =
      let each = h.are.each in
      subst (λ (l : List Tag × List Tag × List Tag). Relinks s.state.map (l.0 ∷ []) c.state.map (drop 1 l.1 ∷ drop 1 l.2 ∷ (f ∷ []) ∷ (g ∷ []) ∷ []))
      (λ i. (sym p.ring_is i, sym p.before_is i, sym p.from_is i))
      (relinks-of cut_fins s c ring_before (p.ahead ∷ p.behind ∷ (f ∷ []) ∷ (g ∷ []) ∷ []) h.reaches has_fins (each.1.1.1.0, (each.1.0, (each.1.1.0, (each.0, tt)))))

  pub cut-puts : (c : StoreView) → Stage cut_fins s rings_both_out c → PutsAmong fins_written s c
  cut-puts c h = subst (λ ts. PutsAmong ts s c) (sym cut_fins-is) h.reaches.puts
