-- The row kemr keeps soundness.
use Rattle.std.proofs.Common.{◌≡◌, ◌≢◌, ℕ, ◌+◌, ◌≤◌, length, not, inl, inr, ⊎_elim, false, cond, List, [], ◌∷◌, ◌++◌, drop, Option, Some, None, refl, sym, ap, subst, ◌∙◌, arith}
use Rattle.std.specs.Prelude.{option_map, Contains}
use Rattle.std.specs.List.{AllByRecursion, sum_by}
use Rattle.std.proofs.lemmas.Bool.{not-false}
use Rattle.std.proofs.lemmas.List.Elements.{Contains-append_left, Contains-append_right}
use Rattle.std.proofs.lemmas.Option.{same_Some}
use Rattle.pk_base.specs.Entity.{same_tag}
use Rattle.pk_base.specs.declared.refusal.Refusal.TheVariants.{TwoLoops}
use Rattle.pk_base.specs.declared.tag.Tag.{Tag}
use Rattle.pk_base.specs.declared.entity.Class.{Class}
use Rattle.pk_base.specs.declared.entity.Class.TheVariants as class
use Rattle.pk_model.specs.Apart.{NoRepeats}
use Rattle.pk_model.specs.Tags.{tag_at}
use Rattle.list_facts.proofs.Each.{ByRecursion-at}
use Rattle.solid_model.specs.Items.{Item, Shape, item_at, class_of_item, ◌with◌}
use Rattle.solid_model.specs.Items.Item.{Loop, Fin, Edge}
use Rattle.solid_model.specs.Rings.{neighbours, neighbours_from, from_least, ring_or_lone, before, from, written_from}
use Rattle.solid_model.specs.Owners.{fins_of, owner_in, body_of, same_class}
use Rattle.solid_model.specs.Deaths.{◌without◌}
use Rattle.solid_model.specs.Rows.{refuse_where}
use Rattle.solid_model.specs.Places.{PlacedFin, fin_at}
use Rattle.solid_model.specs.Links.{is_fin_of}
use Rattle.solid_model.specs.Kemr.{kemr}
use Rattle.solid_model.specs.Sound.{ComesAfter, AreOf, class_at, is_alone_in, loops_alone_at, optional}
use Rattle.list_facts.proofs.Elements.{Contains-first, Contains-later, Contains-cases, Contains-only}
use Rattle.pk_model.proofs.TagLists.{NoneOf}
use Rattle.pk_base.proofs.Same.{same_means, not_same, same_or_other}
use Rattle.solid_model.proofs.lists.Neighbours.{times, times-cons, one_if, times-append}
use Rattle.solid_model.proofs.lists.Cycles.{from_least-again, times-least, least-in, least-neighbours, neighbours-least, is_empty-least, neighbours-turned, once-turned, merge-first, merge-second, merge-cases, between-step, between-was, cut-joins, cut-empty, cut-more, cut-at}
use Rattle.solid_sound.proofs.shapes.Lookups.{Items, tags_in}
use Rattle.solid_sound.proofs.shapes.Names.{NotAttr}
use Rattle.solid_sound.proofs.shapes.Numbers.{counts_in}
use Rattle.solid_sound.proofs.shapes.Sums.{Weight}
use Rattle.solid_sound.proofs.shapes.Attributes.{CountsNoAttribute, fins-no_attribute, edges-no_attribute, lone-no_attribute, numbers-no_attribute}
use Rattle.solid_sound.proofs.shapes.Edits.{Edits, edits, edits-class, edits-was, edits-attributes, KeepsClasses, class_apart, Before, StoodIn, counted, edits-sums}
use Rattle.solid_sound.proofs.shapes.Bodies.{leads_up, item_of_class, body_or_new, new-body, old-body}
use Rattle.solid_sound.proofs.shapes.EachItem.{SoundFace}
use Rattle.solid_sound.proofs.edges.EdgeDeaths.{number_by, formula-counted, Follows, LoopLeft, EdgeDies, core-not, edge_of_class, edge_dies-well, mates-apart, ends-apart}
use Rattle.solid_sound.proofs.shapes.FinRings.{RingOf, asked_fin, ring_with, in-ring, ring-times, ring_owner, ring_fins, ring_face, one_loop, ring_fin, ring_body, ring-after, after-ring, before-ring, same-ring, nowhere_alone, ring-in, loop-left, loop_as, alone_if, alone-other, alone-there, alone-nowhere, lone_for, lone_for-empty, ring_or_lone-is}
use Rattle.solid_sound.proofs.rows.RowKeeps.{IsWell, Keeps, keeps-after, keeps-bind, not_refused}

-- ---- the row

-- The fin n starts at u, and its mate m at v. The loop l of both is n A m B; the new loop is j.
module _ (S : Shape) (well : IsWell S) (n m e u v l face j : Tag) (ring A B : List Tag) (n_is : item_at S n ≡ Some (Fin m e u)) (m_is : item_at S m ≡ Some (Fin n e v))
    (r : RingOf S n l face ring (A ++ m ∷ B)) (free : item_at S j ≡ None) where
  abbrev W : List Tag
  W = (n ∷ A) ++ m ∷ B

  abbrev new_l : Item
  new_l = Loop face (from_least B) (lone_for B u)

  abbrev new_j : Item
  new_j = Loop face (from_least A) (lone_for A v)

  abbrev xs : Items
  xs = (l, new_l) ∷ (j, new_j) ∷ []

  abbrev killed : List Tag
  killed = n ∷ m ∷ e ∷ []

  n_class : class_at S n ≡ Some class.Fin
  n_class = ap (option_map class_of_item) n_is

  m_class : class_at S m ≡ Some class.Fin
  m_class = ap (option_map class_of_item) m_is

  e_class : class_at S e ≡ Some class.Edge
  e_class = (well.sound.names.kinds n _ n_is).1.0

  u_class : class_at S u ≡ Some class.Vertex
  u_class = (well.sound.names.kinds n _ n_is).2.0

  v_class : class_at S v ≡ Some class.Vertex
  v_class = (well.sound.names.kinds m _ m_is).2.0

  l_class : class_at S l ≡ Some class.Loop
  l_class = ap (option_map class_of_item) r.loop_is

  face_class : class_at S face ≡ Some class.Face
  face_class = (well.sound.names.kinds l _ r.loop_is).0.0

  abbrev E : (body : Tag) × (item_at S e ≡ Some (Edge body))
  E = edge_of_class (item_at S e) e_class

  not_j : (t : Tag) (c : Class) → class_at S t ≡ Some c → t ≢ j
  not_j t c h same = let both : None ≡ Some c = sym (ap (option_map class_of_item) free) ∙ ap (class_at S) (sym same) ∙ h in cc

  -- what is no fin or edge lives on
  lives : (t : Tag) (c : Class) → class_at S t ≡ Some c → c ≢ class.Fin → c ≢ class.Edge → NoneOf t killed
  lives t c h fin edge = (class_apart S t n c class.Fin h n_class fin, (class_apart S t m c class.Fin h m_class fin, (class_apart S t e c class.Edge h e_class edge, tt)))

  not_new : (t : Tag) (c : Class) → class_at S t ≡ Some c → c ≢ class.Loop → NoneOf t (tags_in xs)
  not_new t c h loop = (class_apart S t l c class.Loop h l_class loop, (not_j t c h, tt))

  pub kemr_edits : Edits S (S with xs without killed) xs killed
  kemr_edits = edits S xs killed well.written.ascends ((not_j l _ l_class, tt), (tt, tt))
      (((λ k. mates-apart S well n m e u v n_is m_is (sym k)), (class_apart S n e _ _ n_class e_class (λ k. cc), tt)), ((class_apart S m e _ _ m_class e_class (λ k. cc), tt), (tt, tt)))
      (not_new n _ n_class (λ k. cc), (not_new m _ m_class (λ k. cc), (not_new e _ e_class (λ k. cc), tt)))
      ((λ k. cc), ((λ k. cc), tt))

  -- the loop stays a loop
  keeps_classes : KeepsClasses S xs
  keeps_classes = ((λ c h. same_Some class.Loop c (sym l_class ∙ h)), ((λ c h. absurd (not_j j c h refl)), tt))

  -- what stood under the tags that are written or killed
  abbrev stood_before : Before
  stood_before = (l, Some (Loop face ring None)) ∷ (j, None) ∷ (n, Some (Fin m e u)) ∷ (m, Some (Fin n e v)) ∷ (e, Some (Edge E.0)) ∷ []

  stood : StoodIn S stood_before
  stood = (r.loop_is, (free, (n_is, (m_is, (E.1, tt)))))

  -- ---- bodies

  -- the new loop stands in the body of the old one
  abbrev g : Tag → Tag
  g t = body_or_new S (j ∷ []) (body_of S l) t

  g_old : (t : Tag) (x : Item) → item_at S t ≡ Some x → g t ≡ body_of S t
  g_old t x h = old-body S (j ∷ []) (body_of S l) t x (free, tt) h

  g_class : (t : Tag) (c : Class) → class_at S t ≡ Some c → g t ≡ body_of S t
  g_class t c h = let x = item_of_class (item_at S t) c h in g_old t x.0 x.1

  g_j : g j ≡ body_of S l
  g_j = new-body S (j ∷ []) (body_of S l) j (Contains-first j [])

  g_l : g l ≡ body_of S l
  g_l = g_old l _ r.loop_is

  g_face : g face ≡ body_of S l
  g_face = g_class face _ face_class ∙ (leads_up S well.written well.sound).loops l face ring None r.loop_is

  g_fin : (t : Tag) → Contains ring t → g t ≡ body_of S l
  g_fin t k = g_class t _ (ring_fin S well n l face ring (A ++ m ∷ B) r t k) ∙ sym (ring_body S well n l face ring (A ++ m ∷ B) r t k)

  has_n : Contains ring n
  has_n = r.among

  b_in : (t : Tag) → Contains (m ∷ B) t → Contains ring t
  b_in t k = in-ring S well n l face ring (A ++ m ∷ B) r t (Contains-append_right (n ∷ A) (m ∷ B) t k)

  a_in : (t : Tag) → Contains (n ∷ A) t → Contains ring t
  a_in t k = in-ring S well n l face ring (A ++ m ∷ B) r t (Contains-append_left (n ∷ A) (m ∷ B) t k)

  has_m : Contains ring m
  has_m = b_in m (Contains-first m B)

  g_u : g u ≡ body_of S l
  g_u = g_class u _ u_class ∙ (well.sound.bodies.fins n m e u n_is).1 ∙ sym (ring_body S well n l face ring (A ++ m ∷ B) r n has_n)

  g_v : g v ≡ body_of S l
  g_v = g_class v _ v_class ∙ (well.sound.bodies.fins m n e v m_is).1 ∙ sym (ring_body S well n l face ring (A ++ m ∷ B) r m has_m)

  g_e : g e ≡ body_of S l
  g_e = g_class e _ e_class ∙ (well.sound.bodies.fins m n e v m_is).0 ∙ sym (ring_body S well n l face ring (A ++ m ∷ B) r m has_m)

  -- ---- the two parts of the loop

  abbrev turned : NoRepeats ((m ∷ B) ++ n ∷ A)
  turned = once-turned (n ∷ A) (m ∷ B) r.once

  not_n : (t : Tag) → Contains (A ++ m ∷ B) t → t ≢ n
  not_n t k same = ByRecursion-at (λ x. n ≢ x) (A ++ m ∷ B) t r.once.0 k (sym same)

  not_m : (t : Tag) → Contains (B ++ n ∷ A) t → t ≢ m
  not_m t k same = ByRecursion-at (λ x. m ≢ x) (B ++ n ∷ A) t turned.0 k (sym same)

  after : (a b : Tag) → Contains (neighbours W) (a, b) → ComesAfter S a b
  after a b k = ring-after S well n l face ring (A ++ m ∷ B) r a b k

  turn : (a b : Tag) → Contains (neighbours W) (a, b) → Contains (neighbours ((m ∷ B) ++ n ∷ A)) (a, b)
  turn a b k = neighbours-turned (n ∷ A) (m ∷ B) (a, b) k

  to_n : (a : Tag) → ComesAfter S a n → Contains (neighbours W) (a, n)
  to_n a h = before-ring S well n l face ring (A ++ m ∷ B) r a n h has_n

  to_m : (a : Tag) → ComesAfter S a m → Contains (neighbours W) (a, m)
  to_m a h = before-ring S well n l face ring (A ++ m ∷ B) r a m h has_m

  from_n : (b : Tag) → ComesAfter S n b → Contains (neighbours W) (n, b)
  from_n b h = after-ring S well n l face ring (A ++ m ∷ B) r n b h has_n

  from_m : (b : Tag) → ComesAfter S m b → Contains (neighbours W) (m, b)
  from_m b h = after-ring S well n l face ring (A ++ m ∷ B) r m b h has_m

  module _ (R : Shape) (ed : Edits S R xs killed) where
    sums : (w : Weight) → CountsNoAttribute w → sum_by w R + sum_by (counted w) stood_before ≡ sum_by w xs + sum_by w S
    sums = edits-sums ed stood_before stood refl

    class_stays : (t : Tag) (c : Class) → NotAttr c → class_at S t ≡ Some c → NoneOf t killed → class_at R t ≡ Some c
    class_stays t c na h live = edits-class ed keeps_classes t c na live h

    was : (t : Tag) (x : Item) → item_at R t ≡ Some x → class_of_item x ≢ class.Loop → item_at S t ≡ Some x
    was t x h other = edits-was ed class.Loop (refl, (refl, tt)) t x h other

    vertex_stays : (t : Tag) → class_at S t ≡ Some class.Vertex → class_at R t ≡ Some class.Vertex
    vertex_stays t h = class_stays t class.Vertex (λ k. cc) h (lives t class.Vertex h (λ k. cc) (λ k. cc))

    face_stays : (t : Tag) → class_at S t ≡ Some class.Face → class_at R t ≡ Some class.Face
    face_stays t h = class_stays t class.Face (λ k. cc) h (lives t class.Face h (λ k. cc) (λ k. cc))

    l_now : item_at R l ≡ Some new_l
    l_now = ed.news l new_l (Contains-first (l, new_l) ((j, new_j) ∷ []))

    j_now : item_at R j ≡ Some new_j
    j_now = ed.news j new_j (Contains-later (l, new_l) ((j, new_j) ∷ []) (j, new_j) (Contains-first (j, new_j) []))

    -- what holds of the two loops written and of those that were holds of all
    each_loop : (P : Tag → Tag → List Tag → Option Tag → Type 0) → P l face (from_least B) (lone_for B u) → P j face (from_least A) (lone_for A v)
        → ((k h : Tag) (fins : List Tag) (vertex : Option Tag) → k ≢ l → item_at S k ≡ Some (Loop h fins vertex) → P k h fins vertex)
        → (k h : Tag) (fins : List Tag) (vertex : Option Tag) → item_at R k ≡ Some (Loop h fins vertex) → P k h fins vertex
    each_loop P at_l at_j old k h fins vertex is = ⊎_elim
        (λ (c : Contains xs (k, Loop h fins vertex)). ⊎_elim
        (λ (same : (l, new_l) ≡ (k, Loop h fins vertex)). loop_as P l k face h (from_least B) fins (lone_for B u) vertex (sym (ap (λ (x : Tag × Item). x.0) same)) (ap (λ (x : Tag × Item). x.1) same) at_l)
        (λ (d : Contains ((j, new_j) ∷ []) (k, Loop h fins vertex)).
        let same = Contains-only (j, new_j) (k, Loop h fins vertex) d in
        loop_as P j k face h (from_least A) fins (lone_for A v) vertex (sym (ap (λ (x : Tag × Item). x.0) same)) (ap (λ (x : Tag × Item). x.1) same) at_j)
        (Contains-cases (l, new_l) ((j, new_j) ∷ []) (k, Loop h fins vertex) c))
        (λ (c : (item_at S k ≡ Some (Loop h fins vertex)) × NoneOf k (tags_in xs)). old k h fins vertex c.1.0 c.0)
        (ed.was k _ is)

    loop_stays : (k h : Tag) (fins : List Tag) (vertex : Option Tag) → item_at S k ≡ Some (Loop h fins vertex) → k ≢ l → item_at R k ≡ Some (Loop h fins vertex)
    loop_stays k h fins vertex is other =
        let c = ap (option_map class_of_item) is in
        ed.stays k _ is (λ i. cc) (other, (not_j k _ c, tt)) (lives k _ c (λ i. cc) (λ i. cc))

    after_b : (a b : Tag) → Contains (neighbours B) (a, b) → ComesAfter R a b
    after_b a b k = record { loop_ = l; face = face; fins = from_least B; vertex = lone_for B u; loop_is = l_now; among = neighbours-least B (a, b) k }

    after_a : (a b : Tag) → Contains (neighbours A) (a, b) → ComesAfter R a b
    after_a a b k = record { loop_ = j; face = face; fins = from_least A; vertex = lone_for A v; loop_is = j_now; among = neighbours-least A (a, b) k }

    lone_live : (t : Tag) (ts : List Tag) → class_at S t ≡ Some class.Vertex → AreOf R class.Vertex (optional (lone_for ts t))
    lone_live t [] h = (vertex_stays t h, tt)
    lone_live t (x ∷ ts) h = tt

    lone_there : (t k : Tag) (ts : List Tag) → g t ≡ body_of S l → g k ≡ body_of S l → AllByRecursion (λ c. g c ≡ g k) (optional (lone_for ts t))
    lone_there t k [] h own = (h ∙ sym own, tt)
    lone_there t k (x ∷ ts) h own = tt

    -- the loop l is now B, or the lone vertex u
    l_left : LoopLeft S R n m g l face (from_least B) (lone_for B u)
    l_left = record {
      face_is = face_stays face face_class;
      fins_are = λ f k.
          let i = least-in f B k in (
            ring_fin S well n l face ring (A ++ m ∷ B) r f (b_in f (Contains-later m B f i)),
            not_n f (Contains-append_right A (m ∷ B) f (Contains-later m B f i)),
            not_m f (Contains-append_left B (n ∷ A) f i),
          );
      lone_is = lone_live u B u_class;
      lone = lone_for-empty B u ∙ sym (is_empty-least B);
      follows = λ a b k. ⊎_elim {C = Follows S n m a b}
          (λ (i : Contains (neighbours_from n m B) (a, b)). inl (after a b (merge-second n A m B (a, b) i)))
          (λ (i : Contains (neighbours_from n m B) (a, n) × Contains (neighbours_from n m B) (m, b)). inr (inl (after a n (merge-second n A m B (a, n) i.0), after m b (merge-second n A m B (m, b) i.1))))
          (between-was n m B a b (least-neighbours B (a, b) k));
      least = from_least-again B;
      face_body = g_face ∙ sym g_l;
      fin_bodies = λ f k. g_l ∙ sym (g_fin f (b_in f (Contains-later m B f (least-in f B k))));
      lone_body = lone_there u l B g_u g_l;
    }

    -- the new loop is A, or the lone vertex v
    j_left : LoopLeft S R n m g j face (from_least A) (lone_for A v)
    j_left = record {
      face_is = face_stays face face_class;
      fins_are = λ f k.
          let i = least-in f A k in (
            ring_fin S well n l face ring (A ++ m ∷ B) r f (a_in f (Contains-later n A f i)),
            not_n f (Contains-append_left A (m ∷ B) f i),
            not_m f (Contains-append_right B (n ∷ A) f (Contains-later n A f i)),
          );
      lone_is = lone_live v A v_class;
      lone = lone_for-empty A v ∙ sym (is_empty-least A);
      follows = λ a b k. ⊎_elim {C = Follows S n m a b}
          (λ (i : Contains (neighbours_from m n A) (a, b)). inl (after a b (merge-first n A m B (a, b) i)))
          (λ (i : Contains (neighbours_from m n A) (a, m) × Contains (neighbours_from m n A) (n, b)). inr (inr (after a m (merge-first n A m B (a, m) i.0), after n b (merge-first n A m B (n, b) i.1))))
          (between-was m n A a b (least-neighbours A (a, b) k));
      least = from_least-again A;
      face_body = g_face ∙ sym g_j;
      fin_bodies = λ f k. g_j ∙ sym (g_fin f (a_in f (Contains-later n A f (least-in f A k))));
      lone_body = lone_there v j A g_v g_j;
    }

    -- every other loop stays
    old_left : (k h : Tag) (fins : List Tag) (vertex : Option Tag) → k ≢ l → item_at S k ≡ Some (Loop h fins vertex) → LoopLeft S R n m g k h fins vertex
    old_left k h fins vertex other is = loop-left S R n m g well g_old k h fins vertex is
        (face_stays h (well.sound.names.kinds k _ is).0.0)
        (live vertex is)
        (λ i. other (one_loop S well n l face ring (A ++ m ∷ B) r k h fins vertex is n i has_n))
        (λ i. other (one_loop S well n l face ring (A ++ m ∷ B) r k h fins vertex is m i has_m))
      where
        live : (o : Option Tag) → item_at S k ≡ Some (Loop h fins o) → AreOf R class.Vertex (optional o)
        live None i = tt
        live (Some c) i = (vertex_stays c (well.sound.names.kinds k _ i).2.0, tt)

    -- ---- lone vertices

    lone_sum : (t : Tag) → loops_alone_at R t ≡ (alone_if t face (from_least B) B u + alone_if t face (from_least A) A v) + loops_alone_at S t
    lone_sum t =
        let w = λ (x : Tag × Item). cond {A = ℕ} (is_alone_in t x.1) 1 0 in
        let sum = sums w (lone-no_attribute t) in
        omega (arith, sum)

    u_v : u ≢ v
    u_v k = ends-apart S well n m e u v n_is m_is (sym k)

    kemr_dies : EdgeDies S R n m e u v g
    kemr_dies = record {
      ascends = ed.ascends;
      n_is = n_is;
      m_is = m_is;
      was = was;
      gone = λ t x h. let live = ed.alive t x h in (live.0, live.1.0, live.1.1.0);
      stays = λ t x h core.
          let c = ap (option_map class_of_item) h in
          let not = core-not x core in
          ed.stays t x h not.5 (not_new t _ c not.1) (lives t _ c not.2 not.3);
      fins = λ f mate edge vertex h fn fm.
          let c = ap (option_map class_of_item) h in
          ed.stays f _ h (λ k. cc) (not_new f _ c (λ k. cc)) (fn, (fm, (class_apart S f e _ _ c e_class (λ k. cc), tt)));
      edges = λ t body h te.
          let c = ap (option_map class_of_item) h in
          ed.stays t _ h (λ k. cc) (not_new t _ c (λ k. cc)) (class_apart S t n _ _ c n_class (λ k. cc), (class_apart S t m _ _ c m_class (λ k. cc), (te, tt)));
      starts = λ f mate edge vertex h. vertex_stays vertex (well.sound.names.kinds f _ (was f _ h (λ k. cc))).2.0;
      agree = g_old;
      faces = λ f shell outer h.
          let o = well.sound.outer f shell outer (was f _ h (λ k. cc)) in
          ⊎_elim {C = SoundFace R f outer}
          (λ (same : outer ≡ l).
          let both : Some (Loop f o.0 o.1) ≡ Some (Loop face ring None) = sym o.2 ∙ ap (item_at S) same ∙ r.loop_is in
          let face_same : face ≡ f = cc in
          record { fins = from_least B; vertex = lone_for B u; outer_is = ap (item_at R) same ∙ l_now ∙ ap (λ t. Some (Loop t (from_least B) (lone_for B u))) face_same })
          (λ (other : outer ≢ l). record { fins = o.0; vertex = o.1; outer_is = loop_stays outer f o.0 o.1 o.2 other })
          (same_or_other outer l);
      loops = each_loop (LoopLeft S R n m g) l_left j_left old_left;
      has_face = λ shell body f outer q s_is f_is.
          let c = ap (option_map class_of_item) f_is in
          (f, outer, ed.stays f _ f_is (λ k. cc) (not_new f _ c (λ k. cc)) (lives f _ c (λ k. cc) (λ k. cc)));
      attributes = edits-attributes ed well.sound.attributes keeps_classes (λ a o name value h. was a _ h (λ k. cc));
      times_same = λ t tn tm.
          let w = λ (x : Tag × Item). times t (fins_of x.1) in
          let sum = sums w (fins-no_attribute t) in
          let whole : times t ring ≡ times t (n ∷ A) + times t (m ∷ B) = ring-times S well n l face ring (A ++ m ∷ B) r t ∙ times-append t (n ∷ A) (m ∷ B) in
          let no_n : one_if (same_tag n t) ≡ 0 = ap one_if (not_same n t (λ k. tn (sym k))) in
          let no_m : one_if (same_tag m t) ≡ 0 = ap one_if (not_same m t (λ k. tm (sym k))) in
          omega (arith, sum, whole, no_n, no_m, times-cons t n A, times-cons t m B, times-least t A, times-least t B);
      edges_same = λ t te.
          let w = λ (x : Tag × Item). cond {A = ℕ} (is_fin_of t x.1) 1 0 in
          let sum = sums w (edges-no_attribute t) in
          let none : cond {A = ℕ} (same_tag e t) 1 0 ≡ 0 = ap (λ c. cond {A = ℕ} c 1 0) (not_same e t (λ k. te (sym k))) in
          omega (arith, sum, none);
      lone_same = λ t tu tv. let sum = lone_sum t in omega (arith, sum, alone-other t face (from_least B) B u tu, alone-other t face (from_least A) A v tv);
      keeps = λ a b h an am bn bm. ⊎_elim {C = ComesAfter R a b}
          (λ (same : h.loop_ ≡ l). ⊎_elim {C = ComesAfter R a b}
          (λ (k : Contains (neighbours_from m n A) (a, b)). after_a a b (between-step m n A a b k an bm))
          (λ (k : Contains (neighbours_from n m B) (a, b)). after_b a b (between-step n m B a b k am bn))
          (merge-cases n A m B (a, b) (same-ring S well n l face ring (A ++ m ∷ B) r a b h same)))
          (λ (other : h.loop_ ≢ l). record { loop_ = h.loop_; face = h.face; fins = h.fins; vertex = h.vertex; loop_is = loop_stays h.loop_ h.face h.fins h.vertex h.loop_is other; among = h.among })
          (same_or_other h.loop_ l);
      at_u = record {
        join = λ a b h k an am bn bm. after_b a b (cut-joins n m A B a b r.once (to_n a h) (from_m b k) am);
        alone = λ h. let sum = lone_sum u in omega (arith, sum, alone-there u face (from_least B) B (cut-empty n m A B r.once (to_n m h)), alone-other u face (from_least A) A v u_v, nowhere_alone S well n m e u n_is);
        not_alone = λ b h bn. let sum = lone_sum u in omega (arith, sum, alone-nowhere u face (from_least B) B (cut-more n m A B b r.once (from_m b h) bn), alone-other u face (from_least A) A v u_v, nowhere_alone S well n m e u n_is);
      };
      at_v = λ live. record {
        join = λ a b h k am an bm bn. after_a a b (cut-joins m n B A a b turned (turn a m (to_m a h)) (turn n b (from_n b k)) an);
        alone = λ h. let sum = lone_sum v in omega (arith, sum, alone-there v face (from_least A) A (cut-empty m n B A turned (turn n m (to_m n h))), alone-other v face (from_least B) B u (λ k. u_v (sym k)), nowhere_alone S well m n e v m_is);
        not_alone = λ b h bm. let sum = lone_sum v in omega (arith, sum, alone-nowhere v face (from_least A) A (cut-more m n B A b turned (turn n b (from_n b h)) bm), alone-other v face (from_least B) B u (λ k. u_v (sym k)), nowhere_alone S well m n e v m_is);
      };
      formula = λ b shell q b_is s_is numbers.
          let one = cond {A = ℕ} (same_tag (body_of S l) b) 1 0 in
          let at_one : (t : Tag) → g t ≡ body_of S l → cond {A = ℕ} (same_tag (g t) b) 1 0 ≡ one = λ t same. ap (λ k. cond {A = ℕ} (same_tag k b) 1 0) same in
          let w = λ (c : Class) (x : Tag × Item). counts_in c b (g x.0) x.1 in
          let sum = λ (c : Class) (na : same_class class.Attr c ≡ false). sums (w c) (numbers-no_attribute c na b g) in
          let vertices : number_by g b class.Vertex R ≡ number_by g b class.Vertex S =
          let v = w class.Vertex in omega (arith, sum class.Vertex refl) in
          let edges : number_by g b class.Edge R + one ≡ number_by g b class.Edge S =
          let v = w class.Edge in omega (arith, sum class.Edge refl, at_one e g_e) in
          let faces : number_by g b class.Face R ≡ number_by g b class.Face S =
          let v = w class.Face in omega (arith, sum class.Face refl) in
          let loops : number_by g b class.Loop R ≡ number_by g b class.Loop S + one =
          let v = w class.Loop in omega (arith, sum class.Loop refl, at_one l g_l, at_one j g_j) in
          formula-counted S R g b q numbers (omega (arith, vertices, edges, faces, loops));
    }

    -- the shape that kemr leaves is sound
    pub kemr-well : IsWell R
    kemr-well = edge_dies-well S R n m e u v g well kemr_dies

pub kemr-keeps : (S : Shape) (tags : List Tag) (f : Tag) → IsWell S → (1 ≤ length tags → item_at S (tag_at tags 0) ≡ None) → Keeps tags (kemr S f)
kemr-keeps S tags f well free = keeps-bind tags (fin_at S f) _ (λ p h. keeps-bind tags (fin_at S p.mate) _ (λ w k.
    keeps-after tags (refuse_where (not (same_tag p.loop_ w.loop_)) (TwoLoops p.loop_ w.loop_)) _ (λ one enough.
    let x = asked_fin S f (item_at S f) p h in
    let y = asked_fin S p.mate (item_at S p.mate) w k in
    let m = x.0 in
    let mated = well.sound.mates.fins f x.0 x.1 x.2 x.3 in
    let m_same : m ≡ p.mate = ap (λ (q : PlacedFin). q.mate) x.4 in
    let r = ring_with S well f x.0 x.1 x.2 x.3 in
    let t = ring_with S well m f x.1 mated.end mated.mate_is in
    let rest = drop 1 (written_from f r.2) in
    let fins_same : f ∷ rest ≡ p.fins = sym (ring_fins S well f r.0 r.1 r.2 rest r.3) ∙ ap (λ (q : PlacedFin). q.fins) x.4 in
    let loop_same : r.0 ≡ p.loop_ = sym (ring_owner S well f r.0 r.1 r.2 rest r.3 f r.3.among) ∙ ap (λ (q : PlacedFin). q.loop_) x.4 in
    let loop_m : t.0 ≡ w.loop_ = sym (ring_owner S well m t.0 t.1 t.2 _ t.3 m t.3.among) ∙ ap (owner_in S) m_same ∙ ap (λ (q : PlacedFin). q.loop_) y.4 in
    let together : t.0 ≡ r.0 = loop_m ∙ sym (same_means p.loop_ w.loop_ (not-false _ (not_refused _ _ one))) ∙ sym loop_same in
    let loops : Some (Loop t.1 t.2 None) ≡ Some (Loop r.1 r.2 None) = sym t.3.loop_is ∙ ap (item_at S) together ∙ r.3.loop_is in
    let lists : t.2 ≡ r.2 = cc in
    let cut = cut-at f m rest mated.other (ring-in S well f r.0 r.1 r.2 rest r.3 m (subst (λ ts. Contains ts m) lists t.3.among)) in
    let ring = subst (RingOf S f r.0 r.1 r.2) cut.is r.3 in
    let face_same : r.1 ≡ p.face = sym (ring_face S well f r.0 r.1 r.2 rest r.3) ∙ ap (λ (q : PlacedFin). q.face) x.4 in
    let edge_same : x.1 ≡ p.edge = ap (λ (q : PlacedFin). q.edge) x.4 in
    let vertex_same : x.2 ≡ p.vertex = ap (λ (q : PlacedFin). q.vertex) x.4 in
    let both : Some (Fin f x.1 mated.end) ≡ Some (Fin y.0 y.1 y.2) = sym mated.mate_is ∙ ap (item_at S) m_same ∙ y.3 in
    let end_same : mated.end ≡ w.vertex = (let e : mated.end ≡ y.2 = cc in e) ∙ ap (λ (q : PlacedFin). q.vertex) y.4 in
    let b_same : cut.behind ≡ drop 1 (from p.mate p.fins) = sym (ap (drop 1) cut.from_is) ∙ (λ i. drop 1 (from (m_same i) (fins_same i))) in
    let a_same : cut.ahead ≡ drop 1 (before p.mate p.fins) = sym (ap (drop 1) cut.before_is) ∙ (λ i. drop 1 (before (m_same i) (fins_same i))) in
    let l_new : Loop r.1 (from_least cut.behind) (lone_for cut.behind x.2) ≡ ring_or_lone p.face (drop 1 (from p.mate p.fins)) p.vertex =
    sym (ring_or_lone-is r.1 cut.behind x.2) ∙ (λ i. ring_or_lone (face_same i) (b_same i) (vertex_same i)) in
    let j_new : Loop r.1 (from_least cut.ahead) (lone_for cut.ahead mated.end) ≡ ring_or_lone p.face (drop 1 (before p.mate p.fins)) w.vertex =
    sym (ring_or_lone-is r.1 cut.ahead mated.end) ∙ (λ i. ring_or_lone (face_same i) (a_same i) (end_same i)) in
    subst IsWell (λ i. S with (loop_same i, l_new i) ∷ (tag_at tags 0, j_new i) ∷ [] without f ∷ m_same i ∷ edge_same i ∷ [])
    (kemr-well S well f m x.1 x.2 mated.end r.0 r.1 (tag_at tags 0) r.2 cut.ahead cut.behind x.3 mated.mate_is ring (free enough) _
    (kemr_edits S well f m x.1 x.2 mated.end r.0 r.1 (tag_at tags 0) r.2 cut.ahead cut.behind x.3 mated.mate_is ring (free enough))))))
