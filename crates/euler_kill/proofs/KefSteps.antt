-- kef: the steps from one map to the next: the fins of one ring name the loop of the other, and then the rings are joined.
use Rattle.std.proofs.Common.{◌≡◌, ◌≢◌, ⊎_elim, List, [], ◌∷◌, ◌++◌, drop, Option, Some, None, refl, sym, ap, subst, ◌∙◌, arith}
use Rattle.std.specs.Prelude.{unwrap_or, Contains}
use Rattle.std.specs.Option.{option_map_or, option_and_then}
use Rattle.std.specs.List.{AllByRecursion}
use Rattle.std.proofs.lemmas.List.Elements.{Contains-append_cases}
use Rattle.pk_base.specs.Blocks.{tag}
use Rattle.pk_base.specs.declared.tag.Tag.{Tag}
use Rattle.pk_base.specs.declared.entity.Entity.{Entity}
use Rattle.pk_base.specs.declared.entity.Entity.TheVariants as entity
use Rattle.pk_model.specs.Apart.{NoRepeats}
use Rattle.pk_model.specs.Maps.{EntityMap, with_entity}
use Rattle.pk_model.proofs.TagLists.{NoneOf, NoRepeats-append}
use Rattle.list_facts.proofs.Elements.{Contains-first}
use Rattle.list_facts.proofs.Each.{ByRecursion-contains, ByRecursion-at}
use Rattle.solid_model.specs.Items.{Item, Shape}
use Rattle.solid_model.specs.Rings.{first_tag, from_least, neighbours, ring_of, ring_or_lone}
use Rattle.solid_model.specs.Places.{PlacedFin, mate_of, start_at, vertex_of}
use Rattle.solid_model.specs.Sound.{end_of}
use Rattle.solid_model.proofs.lists.Cycles.{written-itself}
use Rattle.solid_model.proofs.lists.Turned.{turned-all}
use Rattle.halfedge.specs.LinkedRings.{IsInRing, IsRing, Relabels, Relinks, as_fin, loop_named, mate_in, next_at, ring_at}
use Rattle.halfedge.proofs.LinkedRings.{in-ring_from, ring-links, ring_at-is}
use Rattle.solid_sound.proofs.edges.Ends.{FinIn}
use Rattle.solid_sound.proofs.shapes.FinRings.{lone_for}
use Rattle.solid_sound.proofs.rows.RowKeeps.{IsWell}
use Rattle.solid_calls.proofs.Represented.{Represents}
use Rattle.solid_edits.proofs.EditedMaps.{HasFin, relabelled-has_fin, relabelled-ring, same-named, with_loop}
use Rattle.solid_edits.proofs.PlacedAnew.{relabels-elsewhere, relabels-named, relinks-elsewhere, relinks-named}
use Rattle.solid_edits.proofs.PlacedFins.{placed-listed, placed-loop, placed-named}
use Rattle.solid_edits.proofs.RemovedEdge.{IsCutOut, with_loops}
use Rattle.euler_kill.proofs.KefFound.{fin-lives, fin-other, first-among, kef_fins, kef_killed, kef_loops, killed-once, left-fin, loop-lives, second-among}

-- a list of f, another, and more
pub record GoesOn (f : Tag) (fins : List Tag) : Type 0 where
  pub second : Tag
  pub rest : List Tag
  pub is : fins ≡ f ∷ second ∷ rest

-- no edge ends where it starts, so the loop of a fin has another
pub goes-on : (S : Shape) → IsWell S → (f : Tag) (u : PlacedFin) → FinIn S f u → GoesOn f u.fins
goes-on S well f u U = more U.rest U.fins_are
  where
    more : (rest : List Tag) → u.fins ≡ f ∷ rest → GoesOn f u.fins
    more (g ∷ rest) is = record { second = g; rest = rest; is = is }
    more [] is =
        let mated = well.sound.mates.fins f u.mate u.edge u.vertex U.fin_is in
        let all = turned-all (λ n. start_at S n.1 ≡ end_of S n.0) U.end.list u.fins U.end.turned (well.sound.follow u.loop_ u.face U.end.list U.end.lone U.end.loop_is) in
        let follows : start_at S f ≡ end_of S f = (subst (λ ts. AllByRecursion (λ n. start_at S n.1 ≡ end_of S n.0) (neighbours ts)) is all).0 in
        let starts : start_at S f ≡ u.vertex = ap (λ (o : Option Item). option_map_or vertex_of o (tag 0)) U.fin_is in
        let ends : end_of S f ≡ mated.end = ap (λ (o : Option Item). start_at S (option_map_or mate_of o (tag 0))) U.fin_is ∙ ap (λ (o : Option Item). option_map_or vertex_of o (tag 0)) mated.mate_is in
        absurd (mated.apart (sym ends ∙ sym follows ∙ starts))

-- where a fin stands first in a ring, the one after it stands second
pub next-second : (m : EntityMap) (f g : Tag) (rest : List Tag) → IsRing m (f ∷ g ∷ rest) → next_at m f ≡ Some g
next-second m f g rest is =
    (ring-links m (f ∷ g ∷ rest) f is (Contains-first f (g ∷ rest))).0 ∙ ap (λ ts. Some (unwrap_or (first_tag (drop 1 ts)) f)) (written-itself f (g ∷ rest))

-- the first of a ring is not among the others
not_again : (f : Tag) (fins : List Tag) → GoesOn f fins → (t : Tag) → Contains (drop 1 fins) t → t ≡ f → NoRepeats fins → ⊥
not_again f fins on t k e once =
    ByRecursion-at (λ q. f ≢ q) (on.second ∷ on.rest) t (subst NoRepeats on.is once).0 (subst (λ ts. Contains (drop 1 ts) t) on.is k) (sym e)

-- the mate of a fin
mate-of_fin : (m : EntityMap) (f mate edge vertex : Tag) → HasFin m f mate edge vertex → mate_in m f ≡ mate
mate-of_fin m f mate edge vertex is = ap (λ (o : Option Entity). option_map_or (λ z. z.mate) (option_and_then as_fin o) f) is.3

-- what the ring of x is asked for, to be joined with that of its mate
pub record AsksJoined (m : EntityMap) (x : Tag) : Type 0 where
  pub ring : IsInRing m x
  pub mate_ring : IsInRing m (mate_in m x)
  pub apart : NoRepeats (ring_at m x ++ ring_at m (mate_in m x))

module _ (S : Shape) (m : EntityMap) (well : IsWell S) (rep : Represents S m) (x : Tag) (u v : PlacedFin) (U : FinIn S x u) (V : FinIn S u.mate v) (two : u.loop_ ≢ v.loop_)
    (u_ring : IsRing m u.fins) (v_ring : IsRing m v.fins) where
  abbrev N : List Tag
  N = kef_fins u v

  -- ---- before

  pub x-goes_on : GoesOn x u.fins
  x-goes_on = goes-on S well x u U

  pub mate-goes_on : GoesOn u.mate v.fins
  mate-goes_on = goes-on S well u.mate v V

  abbrev p : Tag
  p = x-goes_on.second

  pub x-next : next_at m x ≡ Some p
  x-next = next-second m x p x-goes_on.rest (subst (IsRing m) x-goes_on.is u_ring)

  abbrev rest : List Tag
  rest = x-goes_on.rest ++ drop 1 v.fins

  pub left-is : N ≡ p ∷ rest
  left-is = ap (λ ts. drop 1 ts ++ drop 1 v.fins) x-goes_on.is

  -- the row writes it as a ring
  pub ring-is : ring_or_lone v.face N v.vertex ≡ ring_of v.face N
  ring-is = ap (λ ts. ring_or_lone v.face ts v.vertex) left-is ∙ ap (ring_of v.face) (sym left-is)

  pub loops-apart : (t : Tag) → Contains u.fins t → Contains v.fins t → ⊥
  loops-apart t k j = two (sym (placed-loop well U.end v.loop_ v.face V.end.list V.end.lone V.end.loop_is t (placed-listed well V.end t j) k))

  loops-once : NoRepeats (u.fins ++ v.fins)
  loops-once = NoRepeats-append u.fins v.fins u_ring.once v_ring.once (ByRecursion-contains (λ t. NoneOf t v.fins) u.fins (λ t k.
      ByRecursion-contains (λ q. t ≢ q) v.fins (λ q j e. loops-apart t k (subst (Contains v.fins) (sym e) j))))

  x_among : Contains u.fins x
  x_among = subst (λ ts. Contains ts x) (sym U.fins_are) (Contains-first x U.rest)

  mate_among : Contains v.fins u.mate
  mate_among = subst (λ ts. Contains ts u.mate) (sym V.fins_are) (Contains-first u.mate V.rest)

  -- the first fin of a ring is not among the others
  not_x : (t : Tag) → Contains N t → t ≢ x
  not_x t k e = ⊎_elim {C = ⊥}
      (λ (l : Contains (drop 1 u.fins) t). not_again x u.fins x-goes_on t l e u_ring.once)
      (λ (r : Contains (drop 1 v.fins) t). loops-apart x x_among (subst (Contains v.fins) e (second-among S well x u v U V two t r)))
      (Contains-append_cases (drop 1 u.fins) (drop 1 v.fins) t k)

  not_mate : (t : Tag) → Contains N t → t ≢ u.mate
  not_mate t k e = ⊎_elim {C = ⊥}
      (λ (l : Contains (drop 1 u.fins) t). loops-apart u.mate (subst (Contains u.fins) e (first-among S well x u v U V two t l)) mate_among)
      (λ (r : Contains (drop 1 v.fins) t). not_again u.mate v.fins mate-goes_on t r e v_ring.once)
      (Contains-append_cases (drop 1 u.fins) (drop 1 v.fins) t k)

  -- ---- the fins of x's ring name the other loop

  module _ (n : EntityMap) (labels : Relabels m u.fins v.loop_ n) where
    u_named : IsRing n (x ∷ U.rest)
    u_named = subst (IsRing n) U.fins_are (relabelled-ring m n u.fins v.loop_ labels u.fins u_ring)

    v_named : IsRing n (u.mate ∷ V.rest)
    v_named = subst (IsRing n) V.fins_are (relabelled-ring m n u.fins v.loop_ labels v.fins v_ring)

    pub x-ring_at : ring_at n x ≡ u.fins
    x-ring_at = ring_at-is n x U.rest u_named ∙ sym U.fins_are

    pub x-mate : mate_in n x ≡ u.mate
    x-mate = mate-of_fin n x u.mate u.edge u.vertex (relabelled-has_fin m n u.fins v.loop_ x u.mate u.edge u.vertex labels (rep.items x _ U.fin_is))

    pub mate-ring_at : ring_at n (mate_in n x) ≡ v.fins
    mate-ring_at = ap (ring_at n) x-mate ∙ ring_at-is n u.mate V.rest v_named ∙ sym V.fins_are

    pub asks-joined : AsksJoined n x
    asks-joined = record {
      ring = in-ring_from n x U.rest u_named;
      mate_ring = subst (IsInRing n) (sym x-mate) (in-ring_from n u.mate V.rest v_named);
      apart = subst NoRepeats (λ i. sym x-ring_at i ++ sym mate-ring_at i) loops-once;
    }

    -- ---- the rings are joined

    module _ (q : EntityMap) (relinks : Relinks n (ring_at n x ∷ ring_at n (mate_in n x) ∷ []) q ((drop 1 (ring_at n x) ++ drop 1 (ring_at n (mate_in n x))) ∷ (x ∷ []) ∷ (mate_in n x ∷ []) ∷ [])) where
      joined : Relinks n (u.fins ∷ v.fins ∷ []) q (N ∷ (x ∷ []) ∷ (u.mate ∷ []) ∷ [])
      joined = subst (λ (z : List Tag × List Tag × Tag). Relinks n (z.0 ∷ z.1 ∷ []) q ((drop 1 z.0 ++ drop 1 z.1) ∷ (x ∷ []) ∷ (z.2 ∷ []) ∷ [])) (λ i. (x-ring_at i, mate-ring_at i, x-mate i)) relinks

      joined_ring : IsRing q (p ∷ rest)
      joined_ring = subst (IsRing q) left-is joined.rings.0

      pub joined-in_ring : IsInRing q p
      joined-in_ring = in-ring_from q p rest joined_ring

      -- the loop of the ring, as it is put
      pub loop-put : with_loop q v.loop_ v.face p ≡ with_loops q (kef_loops u v)
      loop-put =
          let none : lone_for N v.vertex ≡ None = ap (λ ts. lone_for ts v.vertex) left-is in
          let ring : ring_at q p ≡ N = ring_at-is q p rest joined_ring ∙ sym left-is in
          λ i. with_entity q v.loop_ (Some (entity.Loop v.face (first_tag (from_least (ring i))) (sym none i)))

      named : (t : Tag) → Contains N t → loop_named q t ≡ Some v.loop_
      named t k = relinks-named n q _ _ joined t ∙ ⊎_elim {C = loop_named n t ≡ Some v.loop_}
          (λ (l : Contains (drop 1 u.fins) t). relabels-named m n u.fins v.loop_ u_ring labels t (first-among S well x u v U V two t l))
          (λ (r : Contains (drop 1 v.fins) t). let among = second-among S well x u v U V two t r in same-named m n t (labels.others t (λ j. loops-apart t j among)) ∙ placed-named well V.end m rep t among)
          (Contains-append_cases (drop 1 u.fins) (drop 1 v.fins) t k)

      pub kef-cut : IsCutOut S m q x u v (kef_loops u v) (kef_killed x u)
      kef-cut = record {
        elsewhere = λ t. relinks-elsewhere n q _ _ joined t ∙ relabels-elsewhere m n u.fins v.loop_ labels t;
        outside = λ t a b. joined.others t (a, (b, tt)) ∙ labels.others t a;
        rings = (record { ring = joined.rings.0; named = named; left = λ t k. (left-fin S well x u v U V two t k, not_x t k, not_mate t k) }, tt);
        loops_once = (tt, tt);
        loops_live = (loop-lives S well x u v U V two, tt);
        no_fins = λ t c. (fin-other S well x u v U V two t c, tt);
        both = λ l none live. (live.0, none.0);
        once = killed-once S well x u v U V two;
        edge = (4, omega arith, refl);
        fins = fin-lives S well x u v U V two;
      }
