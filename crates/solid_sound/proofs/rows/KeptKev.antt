-- The row kev keeps soundness.
use Rattle.std.proofs.Common.{◌≡◌, ◌≢◌, ℕ, ◌+◌, inl, inr, ⊎_elim, false, not, cond, List, [], ◌∷◌, drop, Option, Some, None, refl, sym, ap, subst, ◌∙◌, append-nil, arith}
use Rattle.std.specs.Prelude.{option_map, Contains}
use Rattle.std.specs.List.{AllByRecursion, sum_by}
use Rattle.std.proofs.lemmas.Bool.{not-false}
use Rattle.std.proofs.lemmas.Option.{same_Some}
use Rattle.pk_base.specs.Entity.{same_tag}
use Rattle.pk_base.specs.declared.refusal.Refusal.TheVariants.{NotStrut}
use Rattle.pk_base.specs.declared.tag.Tag.{Tag}
use Rattle.pk_base.specs.declared.entity.Point.{Point}
use Rattle.pk_base.specs.declared.entity.Class.{Class}
use Rattle.pk_base.specs.declared.entity.Class.TheVariants as class
use Rattle.list_facts.proofs.Each.{ByRecursion-at}
use Rattle.solid_model.specs.Items.{Item, Shape, item_at, class_of_item, ◌with◌}
use Rattle.solid_model.specs.Items.Item.{Loop, Fin, Edge, Vertex}
use Rattle.solid_model.specs.Rings.{neighbours, neighbours_from, from_least, next_in, ring_or_lone, written_from}
use Rattle.solid_model.specs.Owners.{fins_of, body_of, same_class}
use Rattle.solid_model.specs.Deaths.{◌without◌}
use Rattle.solid_model.specs.Rows.{refuse_where}
use Rattle.solid_model.specs.Places.{PlacedFin, fin_at, mate_at}
use Rattle.solid_model.specs.Links.{is_fin_of}
use Rattle.solid_model.specs.Kev.{kev}
use Rattle.solid_model.specs.Sound.{ComesAfter, AreOf, class_at, is_alone_in, loops_alone_at, optional}
use Rattle.list_facts.proofs.Elements.{not_in_nil, Contains-first, Contains-later, Contains-only}
use Rattle.pk_model.proofs.TagLists.{NoneOf}
use Rattle.pk_base.proofs.Same.{same_means, not_same, same_or_other}
use Rattle.solid_model.proofs.lists.Neighbours.{times, times-cons, one_if, alone_in_ring, head_or}
use Rattle.solid_model.proofs.lists.Cycles.{Pair, after_first, from_least-again, times-least, least-in, least-neighbours, neighbours-least, is_empty-least, merge-second, merge-cases, between-step, between-was, cut-joins, cut-empty, cut-more}
use Rattle.solid_model.proofs.Reading.{next_in-parts}
use Rattle.solid_sound.proofs.shapes.Reading.{vertex_of_class}
use Rattle.solid_sound.proofs.shapes.Lookups.{Items, tags_in}
use Rattle.solid_sound.proofs.shapes.Names.{NotAttr}
use Rattle.solid_sound.proofs.shapes.Numbers.{counts_in}
use Rattle.solid_sound.proofs.shapes.Sums.{Weight}
use Rattle.solid_sound.proofs.shapes.Attributes.{CountsNoAttribute, fins-no_attribute, edges-no_attribute, lone-no_attribute, numbers-no_attribute}
use Rattle.solid_sound.proofs.shapes.Edits.{Edits, edits, edits-class, edits-was, edits-attributes, KeepsClasses, class_apart, Before, StoodIn, counted, edits-sums}
use Rattle.solid_sound.proofs.shapes.Bodies.{LeadsUp, leads_up}
use Rattle.solid_sound.proofs.shapes.EachItem.{SoundFace}
use Rattle.solid_sound.proofs.edges.EdgeDeaths.{number_by, formula-counted, Follows, LoopLeft, EdgeDies, core-not, edge_of_class, edge_dies-well, mates-apart, ends-apart, mate_of_n}
use Rattle.solid_sound.proofs.shapes.FinRings.{RingOf, asked_fin, ring_with, in-ring, ring-times, ring_owner, ring_fins, ring_face, one_loop, ring_fin, ring_body, ring-after, after-ring, before-ring, same-ring, nowhere_alone, lone-other, alone_if, alone-other, alone-there, alone-nowhere, lone_for, ring_or_lone-is, lone_for-empty, loop-left, loop_as}
use Rattle.solid_sound.proofs.rows.RowKeeps.{IsWell, Keeps, keeps-after, keeps-bind, not_refused}

-- ---- the row

-- The fin n starts at u, and its mate m, which comes next, at v. The loop l of both is n m A.
module _ (S : Shape) (well : IsWell S) (n m e u v l face : Tag) (ring A : List Tag) (n_is : item_at S n ≡ Some (Fin m e u)) (m_is : item_at S m ≡ Some (Fin n e v))
    (r : RingOf S n l face ring (m ∷ A)) where
  abbrev new : Item
  new = Loop face (from_least A) (lone_for A u)

  abbrev xs : Items
  xs = (l, new) ∷ []

  abbrev killed : List Tag
  killed = n ∷ m ∷ e ∷ v ∷ []

  n_class : class_at S n ≡ Some class.Fin
  n_class = ap (option_map class_of_item) n_is

  m_class : class_at S m ≡ Some class.Fin
  m_class = ap (option_map class_of_item) m_is

  e_class : class_at S e ≡ Some class.Edge
  e_class = (well.sound.names.kinds n _ n_is).1.0

  u_class : class_at S u ≡ Some class.Vertex
  u_class = (well.sound.names.kinds n _ n_is).2.0

  v_class : class_at S v ≡ Some class.Vertex
  v_class = (well.sound.names.kinds m _ m_is).2.0

  l_class : class_at S l ≡ Some class.Loop
  l_class = ap (option_map class_of_item) r.loop_is

  abbrev E : (body : Tag) × (item_at S e ≡ Some (Edge body))
  E = edge_of_class (item_at S e) e_class

  abbrev V : (body : Tag) × (point : Point) × (item_at S v ≡ Some (Vertex body point))
  V = vertex_of_class (item_at S v) v_class

  abbrev up : LeadsUp S (body_of S)
  up = leads_up S well.written well.sound

  -- what is no fin, edge or vertex lives on
  lives : (t : Tag) (c : Class) → class_at S t ≡ Some c → c ≢ class.Fin → c ≢ class.Edge → c ≢ class.Vertex → NoneOf t killed
  lives t c h fin edge vertex = (class_apart S t n c class.Fin h n_class fin, (class_apart S t m c class.Fin h m_class fin, (class_apart S t e c class.Edge h e_class edge, (class_apart S t v c class.Vertex h v_class vertex, tt))))

  not_l : (t : Tag) (c : Class) → class_at S t ≡ Some c → c ≢ class.Loop → NoneOf t (tags_in xs)
  not_l t c h loop = (class_apart S t l c class.Loop h l_class loop, tt)

  kev_edits : Edits S (S with xs without killed) xs killed
  kev_edits = edits S xs killed well.written.ascends (tt, tt)
      (((λ k. mates-apart S well n m e u v n_is m_is (sym k)), (class_apart S n e _ _ n_class e_class (λ k. cc), (class_apart S n v _ _ n_class v_class (λ k. cc), tt))), ((class_apart S m e _ _ m_class e_class (λ k. cc), (class_apart S m v _ _ m_class v_class (λ k. cc), tt)), ((class_apart S e v _ _ e_class v_class (λ k. cc), tt), (tt, tt))))
      (not_l n _ n_class (λ k. cc), (not_l m _ m_class (λ k. cc), (not_l e _ e_class (λ k. cc), (not_l v _ v_class (λ k. cc), tt))))
      ((λ k. cc), tt)

  -- the loop stays a loop
  keeps_classes : KeepsClasses S xs
  keeps_classes = (λ c h. same_Some class.Loop c (sym l_class ∙ h), tt)

  -- what stood under the tags that are written or killed
  abbrev stood_before : Before
  stood_before = (l, Some (Loop face ring None)) ∷ (n, Some (Fin m e u)) ∷ (m, Some (Fin n e v)) ∷ (e, Some (Edge E.0)) ∷ (v, Some (Vertex V.0 V.1)) ∷ []

  stood : StoodIn S stood_before
  stood = (r.loop_is, (n_is, (m_is, (E.1, (V.2, tt)))))

  -- no other fin starts where the mate does
  no_start : (f mate edge : Tag) → item_at S f ≡ Some (Fin mate edge v) → f ≡ m
  no_start f mate edge f_is =
      let round = well.sound.round v V.0 V.1 V.2 in
      let has_m = (round.are_all m).1 (n, e, m_is) in
      let only : round.fins ≡ m ∷ [] = alone_in_ring m round.fins round.once has_m (λ b k.
      let after = ByRecursion-at (λ (p : Pair). ComesAfter S (mate_at S p.0) p.1) (neighbours round.fins) (m, b) round.round k in
      let after_n = subst (λ t. ComesAfter S t b) (mate_of_n S well m n e v u m_is n_is) after in
      after_first n (m ∷ A) b (λ j. ByRecursion-at (λ t. n ≢ t) (m ∷ A) n r.once.0 j refl) (after-ring S well n l face ring (m ∷ A) r n b after_n r.among)) in
      sym (Contains-only m f (subst (λ ts. Contains ts f) only ((round.are_all f).1 (mate, edge, f_is))))

  module _ (R : Shape) (ed : Edits S R xs killed) where
    sums : (w : Weight) → CountsNoAttribute w → sum_by w R + sum_by (counted w) stood_before ≡ sum_by w xs + sum_by w S
    sums = edits-sums ed stood_before stood refl

    class_stays : (t : Tag) (c : Class) → NotAttr c → class_at S t ≡ Some c → NoneOf t killed → class_at R t ≡ Some c
    class_stays t c na h live = edits-class ed keeps_classes t c na live h

    was : (t : Tag) (x : Item) → item_at R t ≡ Some x → class_of_item x ≢ class.Loop → item_at S t ≡ Some x
    was t x h other = edits-was ed class.Loop (refl, tt) t x h other

    vertex_stays : (t : Tag) → class_at S t ≡ Some class.Vertex → t ≢ v → class_at R t ≡ Some class.Vertex
    vertex_stays t h tv = class_stays t class.Vertex (λ k. cc) h (class_apart S t n _ _ h n_class (λ k. cc), (class_apart S t m _ _ h m_class (λ k. cc), (class_apart S t e _ _ h e_class (λ k. cc), (tv, tt))))

    l_now : item_at R l ≡ Some new
    l_now = ed.news l new (Contains-first (l, new) [])

    -- what holds of the loop written and of those that were holds of all
    each_loop : (P : Tag → Tag → List Tag → Option Tag → Type 0) → P l face (from_least A) (lone_for A u)
        → ((k h : Tag) (fins : List Tag) (vertex : Option Tag) → k ≢ l → item_at S k ≡ Some (Loop h fins vertex) → P k h fins vertex)
        → (k h : Tag) (fins : List Tag) (vertex : Option Tag) → item_at R k ≡ Some (Loop h fins vertex) → P k h fins vertex
    each_loop P at_l old k h fins vertex is = ⊎_elim
        (λ (c : Contains xs (k, Loop h fins vertex)).
        let same = Contains-only (l, new) (k, Loop h fins vertex) c in
        loop_as P l k face h (from_least A) fins (lone_for A u) vertex (sym (ap (λ (x : Tag × Item). x.0) same)) (ap (λ (x : Tag × Item). x.1) same) at_l)
        (λ (c : (item_at S k ≡ Some (Loop h fins vertex)) × NoneOf k (tags_in xs)). old k h fins vertex c.1.0 c.0)
        (ed.was k _ is)

    loop_stays : (k h : Tag) (fins : List Tag) (vertex : Option Tag) → item_at S k ≡ Some (Loop h fins vertex) → k ≢ l → item_at R k ≡ Some (Loop h fins vertex)
    loop_stays k h fins vertex is other = ed.stays k _ is (λ j. cc) (other, tt) (lives k class.Loop (ap (option_map class_of_item) is) (λ j. cc) (λ j. cc) (λ j. cc))

    comes_after : (a b : Tag) → Contains (neighbours A) (a, b) → ComesAfter R a b
    comes_after a b k = record { loop_ = l; face = face; fins = from_least A; vertex = lone_for A u; loop_is = l_now; among = neighbours-least A (a, b) k }

    after : (a b : Tag) → Contains (neighbours_from n m A) (a, b) → ComesAfter S a b
    after a b k = ring-after S well n l face ring (m ∷ A) r a b (merge-second n [] m A (a, b) k)

    n_or_m : (t : Tag) → Contains A t → (t ≢ n) × (t ≢ m)
    n_or_m t k = ((λ j. ByRecursion-at (λ x. n ≢ x) (m ∷ A) t r.once.0 (Contains-later m A t k) (sym j)), (λ j. ByRecursion-at (λ x. m ≢ x) A t r.once.1.0 k (sym j)))

    has_m : Contains ring m
    has_m = in-ring S well n l face ring (m ∷ A) r m (Contains-later n (m ∷ A) m (Contains-first m A))

    in_new : (t : Tag) → Contains (from_least A) t → Contains ring t
    in_new t k = in-ring S well n l face ring (m ∷ A) r t (Contains-later n (m ∷ A) t (Contains-later m A t (least-in t A k)))

    -- the loop is now A, or the lone vertex u
    new_left : LoopLeft S R n m (body_of S) l face (from_least A) (lone_for A u)
    new_left = record {
      face_is = let h = (well.sound.names.kinds l _ r.loop_is).0.0 in class_stays face class.Face (λ k. cc) h (lives face class.Face h (λ k. cc) (λ k. cc) (λ k. cc));
      fins_are = λ f k. let far = n_or_m f (least-in f A k) in (ring_fin S well n l face ring (m ∷ A) r f (in_new f k), far.0, far.1);
      lone_is = lone_live A;
      lone = lone_for-empty A u ∙ sym (is_empty-least A);
      follows = λ a b k. ⊎_elim {C = Follows S n m a b}
          (λ (j : Contains (neighbours_from n m A) (a, b)). inl (after a b j))
          (λ (j : Contains (neighbours_from n m A) (a, n) × Contains (neighbours_from n m A) (m, b)). inr (inl (after a n j.0, after m b j.1)))
          (between-was n m A a b (least-neighbours A (a, b) k));
      least = from_least-again A;
      face_body = up.loops l face ring None r.loop_is;
      fin_bodies = λ f k. ring_body S well n l face ring (m ∷ A) r f (in_new f k);
      lone_body = lone_there A;
    }
      where
        lone_live : (ts : List Tag) → AreOf R class.Vertex (optional (lone_for ts u))
        lone_live [] = (vertex_stays u u_class (λ k. ends-apart S well n m e u v n_is m_is (sym k)), tt)
        lone_live (t ∷ ts) = tt

        lone_there : (ts : List Tag) → AllByRecursion (λ c. body_of S c ≡ body_of S l) (optional (lone_for ts u))
        lone_there [] = ((well.sound.bodies.fins n m e u n_is).1 ∙ sym (ring_body S well n l face ring (m ∷ A) r n r.among), tt)
        lone_there (t ∷ ts) = tt

    -- every other loop stays
    old_left : (k h : Tag) (fins : List Tag) (vertex : Option Tag) → k ≢ l → item_at S k ≡ Some (Loop h fins vertex) → LoopLeft S R n m (body_of S) k h fins vertex
    old_left k h fins vertex other is = loop-left S R n m (body_of S) well (λ t x j. refl) k h fins vertex is
        (let c = (well.sound.names.kinds k _ is).0.0 in class_stays h class.Face (λ j. cc) c (lives h class.Face c (λ j. cc) (λ j. cc) (λ j. cc)))
        (lone_live vertex is)
        (λ j. other (one_loop S well n l face ring (m ∷ A) r k h fins vertex is n j r.among))
        (λ j. other (one_loop S well n l face ring (m ∷ A) r k h fins vertex is m j has_m))
      where
        lone_live : (o : Option Tag) → item_at S k ≡ Some (Loop h fins o) → AreOf R class.Vertex (optional o)
        lone_live None j = tt
        lone_live (Some c) j = (vertex_stays c (well.sound.names.kinds k _ j).2.0 (lone-other S well m n e v m_is k h c fins j), tt)

    lone_sum : (t : Tag) → loops_alone_at R t ≡ alone_if t face (from_least A) A u + loops_alone_at S t
    lone_sum t =
        let w = λ (x : Tag × Item). cond {A = ℕ} (is_alone_in t x.1) 1 0 in
        let sum = sums w (lone-no_attribute t) in
        omega (arith, sum)

    fin_lives : (f : Tag) → class_at S f ≡ Some class.Fin → f ≢ n → f ≢ m → NoneOf f killed
    fin_lives f h fn fm = (fn, (fm, (class_apart S f e _ _ h e_class (λ k. cc), (class_apart S f v _ _ h v_class (λ k. cc), tt))))

    kev_dies : EdgeDies S R n m e u v (body_of S)
    kev_dies = record {
      ascends = ed.ascends;
      n_is = n_is;
      m_is = m_is;
      was = was;
      gone = λ t x h. let live = ed.alive t x h in (live.0, live.1.0, live.1.1.0);
      stays = λ t x h core.
          let c = ap (option_map class_of_item) h in
          let not = core-not x core in
          ed.stays t x h not.5 (not_l t _ c not.1) (lives t _ c not.2 not.3 not.4);
      fins = λ f mate edge vertex h fn fm. let c = ap (option_map class_of_item) h in ed.stays f _ h (λ k. cc) (not_l f _ c (λ k. cc)) (fin_lives f c fn fm);
      edges = λ t body h te.
          let c = ap (option_map class_of_item) h in
          ed.stays t _ h (λ k. cc) (not_l t _ c (λ k. cc)) (class_apart S t n _ _ c n_class (λ k. cc), (class_apart S t m _ _ c m_class (λ k. cc), (te, (class_apart S t v _ _ c v_class (λ k. cc), tt))));
      starts = λ f mate edge vertex h.
          let f_was = was f _ h (λ k. cc) in
          let live = ed.alive f _ h in
          vertex_stays vertex (well.sound.names.kinds f _ f_was).2.0 (λ k. live.1.0 (no_start f mate edge (f_was ∙ ap (λ t. Some (Fin mate edge t)) k)));
      agree = λ t x h. refl;
      faces = λ f shell outer h.
          let o = well.sound.outer f shell outer (was f _ h (λ k. cc)) in
          ⊎_elim {C = SoundFace R f outer}
          (λ (same : outer ≡ l).
          let both : Some (Loop f o.0 o.1) ≡ Some (Loop face ring None) = sym o.2 ∙ ap (item_at S) same ∙ r.loop_is in
          let face_same : face ≡ f = cc in
          record { fins = from_least A; vertex = lone_for A u; outer_is = ap (item_at R) same ∙ l_now ∙ ap (λ t. Some (Loop t (from_least A) (lone_for A u))) face_same })
          (λ (other : outer ≢ l). record { fins = o.0; vertex = o.1; outer_is = loop_stays outer f o.0 o.1 o.2 other })
          (same_or_other outer l);
      loops = each_loop (LoopLeft S R n m (body_of S)) new_left old_left;
      has_face = λ shell body f outer q s_is f_is.
          let c = ap (option_map class_of_item) f_is in
          (f, outer, ed.stays f _ f_is (λ k. cc) (not_l f _ c (λ k. cc)) (lives f _ c (λ k. cc) (λ k. cc) (λ k. cc)));
      attributes = edits-attributes ed well.sound.attributes keeps_classes (λ a o name value h. was a _ h (λ k. cc));
      times_same = λ t tn tm.
          let w = λ (x : Tag × Item). times t (fins_of x.1) in
          let sum = sums w (fins-no_attribute t) in
          let whole = ring-times S well n l face ring (m ∷ A) r t in
          let not_n : one_if (same_tag n t) ≡ 0 = ap one_if (not_same n t (λ k. tn (sym k))) in
          let not_m : one_if (same_tag m t) ≡ 0 = ap one_if (not_same m t (λ k. tm (sym k))) in
          omega (arith, sum, whole, not_n, not_m, times-cons t n (m ∷ A), times-cons t m A, times-least t A);
      edges_same = λ t te.
          let w = λ (x : Tag × Item). cond {A = ℕ} (is_fin_of t x.1) 1 0 in
          let sum = sums w (edges-no_attribute t) in
          let none : cond {A = ℕ} (same_tag e t) 1 0 ≡ 0 = ap (λ c. cond {A = ℕ} c 1 0) (not_same e t (λ k. te (sym k))) in
          omega (arith, sum, none);
      lone_same = λ t tu tv. let sum = lone_sum t in omega (arith, sum, alone-other t face (from_least A) A u tu);
      keeps = λ a b h an am bn bm. ⊎_elim {C = ComesAfter R a b}
          (λ (same : h.loop_ ≡ l). comes_after a b (⊎_elim
          (λ (k : Contains (neighbours_from m n []) (a, b)). absurd (not_in_nil (a, b) (between-step m n [] a b k an bm)))
          (λ (k : Contains (neighbours_from n m A) (a, b)). between-step n m A a b k am bn)
          (merge-cases n [] m A (a, b) (same-ring S well n l face ring (m ∷ A) r a b h same))))
          (λ (other : h.loop_ ≢ l). record { loop_ = h.loop_; face = h.face; fins = h.fins; vertex = h.vertex; loop_is = loop_stays h.loop_ h.face h.fins h.vertex h.loop_is other; among = h.among })
          (same_or_other h.loop_ l);
      at_u = record {
        join = λ a b h k an am bn bm. comes_after a b (cut-joins n m [] A a b r.once (before-ring S well n l face ring (m ∷ A) r a n h r.among) (after-ring S well n l face ring (m ∷ A) r m b k has_m) am);
        alone = λ h.
            let empty = cut-empty n m [] A r.once (before-ring S well n l face ring (m ∷ A) r m n h r.among) in
            let sum = lone_sum u in
            omega (arith, sum, alone-there u face (from_least A) A empty, nowhere_alone S well n m e u n_is);
        not_alone = λ b h bn.
            let more = cut-more n m [] A b r.once (after-ring S well n l face ring (m ∷ A) r m b h has_m) bn in
            let sum = lone_sum u in
            omega (arith, sum, alone-nowhere u face (from_least A) A more, nowhere_alone S well n m e u n_is);
      };
      at_v = λ h.
          let x = vertex_of_class (item_at R v) h in
          absurd ((ed.alive v _ x.2).1.1.1.0 refl);
      formula = λ b shell q b_is s_is numbers.
          let g = body_of S in
          let one = cond {A = ℕ} (same_tag (body_of S m) b) 1 0 in
          let at_one : (t : Tag) → body_of S t ≡ body_of S m → cond {A = ℕ} (same_tag (body_of S t) b) 1 0 ≡ one = λ t same. ap (λ k. cond {A = ℕ} (same_tag k b) 1 0) same in
          let own = well.sound.bodies.fins m n e v m_is in
          let w = λ (c : Class) (x : Tag × Item). counts_in c b (g x.0) x.1 in
          let sum = λ (c : Class) (na : same_class class.Attr c ≡ false). sums (w c) (numbers-no_attribute c na b g) in
          let vertices : number_by g b class.Vertex R + one ≡ number_by g b class.Vertex S =
          let x = w class.Vertex in omega (arith, sum class.Vertex refl, at_one v own.1) in
          let edges : number_by g b class.Edge R + one ≡ number_by g b class.Edge S =
          let x = w class.Edge in omega (arith, sum class.Edge refl, at_one e own.0) in
          let faces : number_by g b class.Face R ≡ number_by g b class.Face S =
          let x = w class.Face in omega (arith, sum class.Face refl) in
          let loops : number_by g b class.Loop R ≡ number_by g b class.Loop S =
          let x = w class.Loop in omega (arith, sum class.Loop refl) in
          formula-counted S R g b q numbers (omega (arith, vertices, edges, faces, loops));
    }

    -- the shape that kev leaves is sound
    pub kev-well : IsWell R
    kev-well = edge_dies-well S R n m e u v (body_of S) well kev_dies

-- what comes next is the mate
pub strut-rest : (f m : Tag) (rest : List Tag) → head_or f rest ≡ m → m ≢ f → rest ≡ m ∷ drop 1 rest
strut-rest f m [] h other = absurd (other (sym h))
strut-rest f m (t ∷ rest) h other = ap (λ x. x ∷ rest) h

pub kev-keeps : (S : Shape) (tags : List Tag) (f : Tag) → IsWell S → Keeps tags (kev S f)
kev-keeps S tags f well = keeps-bind tags (fin_at S f) _ (λ p h. keeps-bind tags (fin_at S p.mate) _ (λ w k.
    keeps-after tags (refuse_where (not (same_tag (next_in p.fins f) p.mate)) (NotStrut f)) _ (λ none.
    let x = asked_fin S f (item_at S f) p h in
    let y = asked_fin S p.mate (item_at S p.mate) w k in
    let m = x.0 in
    let mated = well.sound.mates.fins f x.0 x.1 x.2 x.3 in
    let m_same : m ≡ p.mate = ap (λ (q : PlacedFin). q.mate) x.4 in
    let r = ring_with S well f x.0 x.1 x.2 x.3 in
    let rest = drop 1 (written_from f r.2) in
    let fins_same : f ∷ rest ≡ p.fins = sym (ring_fins S well f r.0 r.1 r.2 rest r.3) ∙ ap (λ (q : PlacedFin). q.fins) x.4 in
    let next : head_or f rest ≡ m = ap (head_or f) (sym (append-nil rest)) ∙ sym (next_in-parts f [] rest (λ j. not_in_nil f j)) ∙ ap (λ ts. next_in ts f) fins_same ∙ same_means (next_in p.fins f) p.mate (not-false _ (not_refused _ _ none)) ∙ sym m_same in
    let ring = subst (RingOf S f r.0 r.1 r.2) (strut-rest f m rest next mated.other) r.3 in
    let both : Some (Fin f x.1 mated.end) ≡ Some (Fin y.0 y.1 y.2) = sym mated.mate_is ∙ ap (item_at S) m_same ∙ y.3 in
    let end_same : mated.end ≡ w.vertex = (let e : mated.end ≡ y.2 = cc in e) ∙ ap (λ (q : PlacedFin). q.vertex) y.4 in
    let loop_same : r.0 ≡ p.loop_ = sym (ring_owner S well f r.0 r.1 r.2 rest r.3 f r.3.among) ∙ ap (λ (q : PlacedFin). q.loop_) x.4 in
    let face_same : r.1 ≡ p.face = sym (ring_face S well f r.0 r.1 r.2 rest r.3) ∙ ap (λ (q : PlacedFin). q.face) x.4 in
    let edge_same : x.1 ≡ p.edge = ap (λ (q : PlacedFin). q.edge) x.4 in
    let vertex_same : x.2 ≡ p.vertex = ap (λ (q : PlacedFin). q.vertex) x.4 in
    let new_same : Loop r.1 (from_least (drop 1 rest)) (lone_for (drop 1 rest) x.2) ≡ ring_or_lone p.face (drop 2 p.fins) p.vertex =
    sym (ring_or_lone-is r.1 (drop 1 rest) x.2) ∙ (λ i. ring_or_lone (face_same i) (drop 2 (fins_same i)) (vertex_same i)) in
    subst IsWell (λ i. S with (loop_same i, new_same i) ∷ [] without f ∷ m_same i ∷ edge_same i ∷ end_same i ∷ [])
    (kev-well S well f m x.1 x.2 mated.end r.0 r.1 r.2 (drop 1 rest) x.3 mated.mate_is ring _ (kev_edits S well f m x.1 x.2 mated.end r.0 r.1 r.2 (drop 1 rest) x.3 mated.mate_is ring)))))
