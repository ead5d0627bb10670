-- The corners at a vertex, as the fins go round it, where a fin comes to stand before one of them.
use Rattle.std.proofs.Common.{◌≡◌, ◌≢◌, ◌⊎◌, inl, inr, ⊎_elim, false, List, [], ◌∷◌, drop, Option, Some, None, refl, sym, ap, subst, ◌∙◌}
use Rattle.std.specs.Prelude.{unwrap_or, Contains}
use Rattle.std.specs.Option.{option_map_or}
use Rattle.std.specs.List.{AllByRecursion}
use Rattle.std.proofs.lemmas.Option.{same_Some}
use Rattle.pk_base.specs.Blocks.{tag}
use Rattle.pk_base.specs.declared.tag.Tag.{Tag}
use Rattle.pk_model.specs.Apart.{NoRepeats}
use Rattle.solid_model.specs.Items.{Shape, item_at}
use Rattle.solid_model.specs.Items.Item.{Loop, Fin}
use Rattle.solid_model.specs.Rings.{written_from, neighbours, neighbours_from}
use Rattle.solid_model.specs.Places.{mate_of, mate_at, vertex_of, start_at}
use Rattle.solid_model.specs.Sound.{ComesAfter, GoesRound, end_of, is_empty}
use Rattle.list_facts.proofs.Elements.{not_in_nil, Contains-first, Contains-later, Contains-cases, Contains-only}
use Rattle.list_facts.proofs.Each.{ByRecursion-contains, ByRecursion-at}
use Rattle.solid_model.proofs.lists.Neighbours.{neighbours-in}
use Rattle.solid_model.proofs.lists.Cycles.{written-first}
use Rattle.solid_model.proofs.lists.Turned.{chain_end, turned-written, turned-in, turned-back, turned-once, turned-all}
use Rattle.solid_sound.proofs.shapes.Reading.{fin_in, loop-of_fin}
use Rattle.pk_base.proofs.Same.{same_or_other}
use Rattle.solid_sound.proofs.rows.RowKeeps.{IsWell}

-- ---- fins that stay

abbrev pub IsFin : Shape → Tag → Tag → Tag → Tag → Type 0
IsFin S f mate edge vertex = item_at S f ≡ Some (Fin mate edge vertex)

-- the fin n.1 starts where n.0 ends
abbrev pub Follows : Shape → Tag × Tag → Type 0
Follows S n = start_at S n.1 ≡ end_of S n.0

pub mate_of_fin : (S : Shape) (f mate edge vertex : Tag) → IsFin S f mate edge vertex → mate_at S f ≡ mate
mate_of_fin S f mate edge vertex e = ap (λ o. option_map_or mate_of o (tag 0)) e

pub start_of_fin : (S : Shape) (f mate edge vertex : Tag) → IsFin S f mate edge vertex → start_at S f ≡ vertex
start_of_fin S f mate edge vertex e = ap (λ o. option_map_or vertex_of o (tag 0)) e

module _ (S R : Shape) (well : IsWell S) (stays : (f mate edge vertex : Tag) → IsFin S f mate edge vertex → IsFin R f mate edge vertex) where
  pub mate-stays : (f mate edge vertex : Tag) → IsFin S f mate edge vertex → mate_at R f ≡ mate_at S f
  mate-stays f mate edge vertex e = mate_of_fin R f mate edge vertex (stays f mate edge vertex e) ∙ sym (mate_of_fin S f mate edge vertex e)

  pub start-stays : (f mate edge vertex : Tag) → IsFin S f mate edge vertex → start_at R f ≡ start_at S f
  start-stays f mate edge vertex e = start_of_fin R f mate edge vertex (stays f mate edge vertex e) ∙ sym (start_of_fin S f mate edge vertex e)

  pub end-stays : (f mate edge vertex : Tag) → IsFin S f mate edge vertex → end_of R f ≡ end_of S f
  end-stays f mate edge vertex e =
      let m = well.sound.mates.fins f mate edge vertex e in
      let mate_is = mate_of_fin S f mate edge vertex e in
      ap (start_at R) (mate-stays f mate edge vertex e ∙ mate_is) ∙ start-stays mate f edge m.end m.mate_is ∙ ap (start_at S) (sym mate_is)

  -- in a loop each fin still starts where the one before it ends
  pub follow-stays : (l face : Tag) (fins : List Tag) (vertex : Option Tag) → item_at S l ≡ Some (Loop face fins vertex) → AllByRecursion (Follows R) (neighbours fins)
  follow-stays l face fins vertex e = ByRecursion-contains (Follows R) (neighbours fins) (λ n k.
      let both = neighbours-in fins n k in
      let x = fin_in S well.written well.sound l face fins vertex e n.1 both.1 in
      let y = fin_in S well.written well.sound l face fins vertex e n.0 both.0 in
      start-stays n.1 x.0 x.1 x.2 x.3 ∙ ByRecursion-at (Follows S) (neighbours fins) n (well.sound.follow l face fins vertex e) k ∙ sym (end-stays n.0 y.0 y.1 y.2 y.3))

-- ---- what comes after what, in one loop

module _ (S : Shape) (well : IsWell S) (l face : Tag) (fins : List Tag) (vertex : Option Tag) (l_is : item_at S l ≡ Some (Loop face fins vertex)) where
  here : (p q : Tag) (h : ComesAfter S p q) → h.loop_ ≡ l → Contains (neighbours fins) (p, q)
  here p q h same =
      let both : Some (Loop h.face h.fins h.vertex) ≡ Some (Loop face fins vertex) = sym h.loop_is ∙ ap (item_at S) same ∙ l_is in
      let list : h.fins ≡ fins = cc in
      subst (λ ts. Contains {X = Tag × Tag} (neighbours ts) (p, q)) list h.among

  -- a fin stands in one loop alone
  pub comes-here : (p q : Tag) → ComesAfter S p q → Contains fins q → Contains {X = Tag × Tag} (neighbours fins) (p, q)
  comes-here p q h k = here p q h
      (sym (loop-of_fin S well.written well.sound h.loop_ h.face h.fins h.vertex h.loop_is q (neighbours-in h.fins (p, q) h.among).1) ∙ loop-of_fin S well.written well.sound l face fins vertex l_is q k)

  pub comes-here_or_not : (p q : Tag) (h : ComesAfter S p q) → Contains {X = Tag × Tag} (neighbours fins) (p, q) ⊎ (h.loop_ ≢ l)
  comes-here_or_not p q h = ⊎_elim {C = Contains {X = Tag × Tag} (neighbours fins) (p, q) ⊎ (h.loop_ ≢ l)} (λ same. inl (here p q h same)) (λ other. inr other) (same_or_other h.loop_ l)

-- ---- corners

-- a fin that starts at the vertex, or none where no fin does
abbrev pub CornerAt : Shape → Tag → Option Tag → Type 0
CornerAt S v None = (f mate edge : Tag) → IsFin S f mate edge v → ⊥
CornerAt S v (Some f) = (mate : Tag) × (edge : Tag) × IsFin S f mate edge v

pub corner-start : (S : Shape) (u v : Tag) (k : Option Tag) (f mate edge : Tag) → CornerAt S u k → k ≡ Some f → IsFin S f mate edge v → u ≡ v
corner-start S u v None f mate edge c e is = absurd (cc)
corner-start S u v (Some h) f mate edge c e is =
    let both : Some (Fin c.0 c.1 u) ≡ Some (Fin mate edge v) = sym c.2 ∙ ap (item_at S) (same_Some h f e) ∙ is in
    cc

-- the fins that start at a vertex, and go round it
pub record Round (S : Shape) (v : Tag) : Type 0 where
  pub fins : List Tag
  pub once : NoRepeats fins
  pub fin : (f : Tag) → Contains fins f → (mate : Tag) × (edge : Tag) × IsFin S f mate edge v
  pub all : (f mate edge : Tag) → IsFin S f mate edge v → Contains fins f
  pub round : AllByRecursion (λ n. ComesAfter S (mate_at S n.0) n.1) (neighbours fins)

pub round-of : (S : Shape) (v : Tag) → GoesRound S v → Round S v
round-of S v h = record { fins = h.fins; once = h.once; fin = λ f k. (h.are_all f).0 k; all = λ f mate edge e. (h.are_all f).1 (mate, edge, e); round = h.round }

-- where no fin starts
pub round-none : (S : Shape) (v : Tag) → CornerAt S v None → Round S v
round-none S v none = record { fins = []; once = tt; fin = λ f k. absurd (not_in_nil f k); all = λ f mate edge e. absurd (none f mate edge e); round = tt }

-- The fin n is new at the vertex w. What came before the corner k now comes before n, and k comes after the mate of n.
module _ (S R : Shape) (w n m e : Tag) (k : Option Tag) (stays : (f mate edge : Tag) → IsFin S f mate edge w → IsFin R f mate edge w)
    (was : (f mate edge : Tag) → IsFin R f mate edge w → (f ≡ n) ⊎ IsFin S f mate edge w)
    (n_is : IsFin R n m e w) (free : item_at S n ≡ None) (corner : CornerAt S w k)
    (comes : (p q mate edge : Tag) → ComesAfter S p q → IsFin S q mate edge w → k ≢ Some q → ComesAfter R p q)
    (before : (p q : Tag) → ComesAfter S p q → k ≡ Some q → ComesAfter R p n)
    (after : ComesAfter R m (unwrap_or k n)) where
  mate_stays : (f mate edge : Tag) → IsFin S f mate edge w → mate_at R f ≡ mate_at S f
  mate_stays f mate edge is = mate_of_fin R f mate edge w (stays f mate edge is) ∙ sym (mate_of_fin S f mate edge w is)

  n_mate : mate_at R n ≡ m
  n_mate = mate_of_fin R n m e w n_is

  abbrev Filled : Type 0
  Filled = (h : Round R w) × (is_empty h.fins ≡ false)

  alone : CornerAt S w None → ComesAfter R m n → Filled
  alone none next =
      let h : Round R w = record {
        fins = n ∷ [];
        once = (tt, tt);
        fin = λ f c. (m, e, subst (λ t. IsFin R t m e w) (Contains-only n f c) n_is);
        all = λ f mate edge is. ⊎_elim (λ (l : f ≡ n). subst (Contains (n ∷ [])) (sym l) (Contains-first n [])) (λ (l : IsFin S f mate edge w). absurd (none f mate edge l)) (was f mate edge is);
        round = (subst (λ t. ComesAfter R t n) (sym n_mate) next, tt);
      } in
      (h, refl)

  beside : (c : Tag) → k ≡ Some c → CornerAt S w (Some c) → ComesAfter R m c → Round S w → Filled
  beside c is corner_is next h =
      let among : Contains h.fins c = h.all c corner_is.0 corner_is.1 corner_is.2 in
      let rest = drop 1 (written_from c h.fins) in
      let first : written_from c h.fins ≡ c ∷ rest = written-first c h.fins among in
      let turned = turned-written c h.fins in
      let once : NoRepeats (c ∷ rest) = subst NoRepeats first (turned-once h.fins (written_from c h.fins) turned h.once) in
      let in_S : (f : Tag) → Contains (c ∷ rest) f → Contains h.fins f = λ f j. turned-in (written_from c h.fins) h.fins (turned-back h.fins (written_from c h.fins) turned) f (subst (λ ts. Contains ts f) (sym first) j) in
      let in_new : (f : Tag) → Contains h.fins f → Contains (c ∷ rest) f = λ f j. subst (λ ts. Contains ts f) first (turned-in h.fins (written_from c h.fins) turned f j) in
      let round : AllByRecursion (λ x. ComesAfter S (mate_at S x.0) x.1) (neighbours_from c c rest) =
      subst (λ ts. AllByRecursion (λ x. ComesAfter S (mate_at S x.0) x.1) (neighbours ts)) first (turned-all (λ x. ComesAfter S (mate_at S x.0) x.1) h.fins (written_from c h.fins) turned h.round) in
      let new : Round R w = record {
        fins = n ∷ c ∷ rest;
        once = (
          ByRecursion-contains (λ t. n ≢ t) (c ∷ rest) (λ t j same.
              let f = h.fin t (in_S t j) in
              let both : None ≡ Some (Fin f.0 f.1 w) = sym free ∙ ap (item_at S) same ∙ f.2 in
              cc),
          once,
        );
        fin = λ f j. ⊎_elim {C = (mate : Tag) × (edge : Tag) × IsFin R f mate edge w}
            (λ (l : n ≡ f). (m, e, subst (λ t. IsFin R t m e w) l n_is))
            (λ (l : Contains (c ∷ rest) f). let x = h.fin f (in_S f l) in (x.0, x.1, stays f x.0 x.1 x.2))
            (Contains-cases n (c ∷ rest) f j);
        all = λ f mate edge f_is. ⊎_elim
            (λ (l : f ≡ n). subst (Contains (n ∷ c ∷ rest)) (sym l) (Contains-first n (c ∷ rest)))
            (λ (l : IsFin S f mate edge w). Contains-later n (c ∷ rest) f (in_new f (h.all f mate edge l)))
            (was f mate edge f_is);
        round = (
          subst (λ t. ComesAfter R t c) (sym n_mate) next,
          ByRecursion-contains (λ x. ComesAfter R (mate_at R x.0) x.1) (neighbours_from n c rest) (λ x j.
              let starts : (q : Tag) → Contains {X = Tag × Tag} (neighbours_from c c rest) (x.0, q) → mate_at R x.0 ≡ mate_at S x.0 =
              λ q i. let f = h.fin x.0 (in_S x.0 (neighbours-in (c ∷ rest) (x.0, q) i).0) in mate_stays x.0 f.0 f.1 f.2 in
              ⊎_elim {C = ComesAfter R (mate_at R x.0) x.1}
              (λ (l : (x.1 ≡ n) × Contains {X = Tag × Tag} (neighbours_from c c rest) (x.0, c)).
              subst (λ t. ComesAfter R t x.1) (sym (starts c l.1))
              (subst (ComesAfter R (mate_at S x.0)) (sym l.0) (before (mate_at S x.0) c (ByRecursion-at (λ y. ComesAfter S (mate_at S y.0) y.1) (neighbours_from c c rest) (x.0, c) round l.1) is)))
              (λ (l : Contains rest x.1 × Contains {X = Tag × Tag} (neighbours_from c c rest) (x.0, x.1)).
              let f = h.fin x.1 (in_S x.1 (Contains-later c rest x.1 l.0)) in
              subst (λ t. ComesAfter R t x.1) (sym (starts x.1 l.1))
              (comes (mate_at S x.0) x.1 f.0 f.1 (ByRecursion-at (λ y. ComesAfter S (mate_at S y.0) y.1) (neighbours_from c c rest) (x.0, x.1) round l.1) f.2
              (λ same. ByRecursion-at (λ t. c ≢ t) rest x.1 once.0 l.0 (same_Some c x.1 (sym is ∙ same)))))
              (chain_end n c c rest x.0 x.1 j)),
        );
      } in
      (new, refl)

  by_corner : (o : Option Tag) → k ≡ o → CornerAt S w o → ComesAfter R m (unwrap_or o n) → Round S w → Filled
  by_corner None is c next h = alone c next
  by_corner (Some t) is c next h = beside t is c next h

  pub round-made : Round S w → Filled
  round-made h = by_corner k refl corner after h
