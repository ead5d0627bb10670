-- The row mev keeps soundness.
use Rattle.std.proofs.Common.{◌≡◌, ◌≢◌, ℕ, ◌+◌, ◌<◌, ◌⊎◌, inl, inr, ⊎_elim, cond, List, [], ◌∷◌, true, Option, Some, None, refl, sym, ap, subst, ◌∙◌, arith}
use Rattle.std.specs.Prelude.{option_map, unwrap_or, Contains}
use Rattle.std.specs.List.{AllByRecursion, sum_by}
use Rattle.std.proofs.lemmas.Option.{same_Some}
use Rattle.pk_base.specs.Entity.{same_tag}
use Rattle.pk_base.specs.declared.tag.Tag.{Tag}
use Rattle.pk_base.specs.declared.entity.Point.{Point}
use Rattle.pk_base.specs.declared.entity.Triple.{Triple}
use Rattle.pk_base.specs.declared.entity.Class.{Class}
use Rattle.pk_base.specs.declared.entity.Class.TheVariants as class
use Rattle.pk_model.specs.Apart.{NoRepeats}
use Rattle.pk_model.specs.Tags.{TagsAscend, tag_at}
use Rattle.solid_model.specs.Items.{Item, Shape, item_at, class_of_item, ◌with◌}
use Rattle.solid_model.specs.Items.Item.{Face, Loop, Fin, Edge, Vertex}
use Rattle.solid_model.specs.Rings.{first_tag, from_least, neighbours}
use Rattle.solid_model.specs.Owners.{fins_of, body_of, number_in_body}
use Rattle.solid_model.specs.Places.{End, end_at}
use Rattle.solid_model.specs.Ranges.{is_coordinate, numbers_of, point_of, refuse_outside}
use Rattle.solid_model.specs.Links.{is_fin_of}
use Rattle.solid_model.specs.Mev.{mev}
use Rattle.solid_model.specs.Sound.{ComesAfter, class_at, times_in_loops, fins_with_edge, is_alone_in, loops_alone_at}
use Rattle.solid_model.proofs.lists.Neighbours.{once-last, one_if, times}
use Rattle.solid_model.proofs.lists.Turned.{turned-back, turned-in, turned-least, turned-neighbours, turned-times}
use Rattle.solid_sound.proofs.shapes.Reading.{vertex_of_class}
use Rattle.solid_sound.proofs.shapes.Lookups.{Items}
use Rattle.pk_base.proofs.Same.{same_or_other}
use Rattle.solid_sound.proofs.shapes.Sums.{Weight}
use Rattle.solid_sound.proofs.shapes.Names.{NotAttr}
use Rattle.solid_sound.proofs.shapes.Bodies.{body_or_new, new-body, old-body}
use Rattle.solid_sound.proofs.rows.Asked.{free_at, apart_at}
use Rattle.solid_sound.proofs.shapes.EachItem.{SoundFace}
use Rattle.solid_sound.proofs.shapes.Attributes.{CountsNoAttribute, fins-no_attribute, edges-no_attribute, lone-no_attribute}
use Rattle.solid_sound.proofs.shapes.Edits.{Before, Edits, StoodIn, counted, edits-class, edits-numbers, edits-stay, edits-sums, keeps-new, live-none_of, written}
use Rattle.solid_sound.proofs.edges.Corners.{IsFin, round-none, comes-here, comes-here_or_not}
use Rattle.solid_sound.proofs.edges.EdgeMade.{made_in, is_fixed, fixed-not_attr, fixed-other, LoopIn, FaceOf, EdgeMade, free-lone, free-corner, edge-well}
use Rattle.solid_sound.proofs.shapes.ByClass.{each-fin, each-edge, each-vertex, each-face, each-loop, outside-was}
use Rattle.solid_sound.proofs.edges.Ends.{EndIn, end-well, first-in, joined, joined-after_n, joined-after_m, joined-second, joined-times}
use Rattle.solid_sound.proofs.edges.JoinedLoop.{end-once, end-loop_body, end-vertex_body, end-body, end-face, end-face_body, Side, loop-comes, side-none, side-of_end, end-alone_own, end-alone_other, joined-loop}
use Rattle.solid_sound.proofs.rows.KeptMotions.{AreCoordinates, outside-none}
use Rattle.solid_sound.proofs.rows.RowKeeps.{IsWell, Keeps, keeps-after, keeps-bind}

-- The edge e of the fins n and m leads from the vertex at the end u to the new vertex w, whose point is
-- p. n starts at the vertex of u, and m at w.
module _ (S : Shape) (well : IsWell S) (u : End) (E : EndIn S u) (w e n m : Tag) (p : Point) (within : AreCoordinates p)
    (once : NoRepeats (w ∷ e ∷ n ∷ m ∷ [])) (free : AllByRecursion (λ t. item_at S t ≡ None) (w ∷ e ∷ n ∷ m ∷ []))
    (g : Tag → Tag) (agree : (t : Tag) (x : Item) → item_at S t ≡ Some x → g t ≡ body_of S t)
    (g_w : g w ≡ u.body) (g_e : g e ≡ u.body) (g_n : g n ≡ u.body) (g_m : g m ≡ u.body) where
  abbrev ring : List Tag
  ring = joined n m [] u.fins

  abbrev old : Item
  old = Loop u.face E.list E.lone

  abbrev new : Item
  new = Loop u.face (from_least ring) None

  abbrev xs : Items
  xs = (w, Vertex u.body p) ∷ (e, Edge u.body) ∷ (n, Fin m e u.vertex) ∷ (m, Fin n e w) ∷ (u.loop_, new) ∷ []

  abbrev R : Shape
  R = S with xs

  abbrev before : Before
  before = (w, None) ∷ (e, None) ∷ (n, None) ∷ (m, None) ∷ (u.loop_, Some old) ∷ []

  stood : StoodIn S before
  stood = (free.0, (free.1.0, (free.1.1.0, (free.1.1.1.0, (E.loop_is, tt)))))

  change : Edits S R xs []
  change = written S xs well.written.ascends (once-last (w ∷ e ∷ n ∷ m ∷ []) u.loop_ once (live-none_of S (w ∷ e ∷ n ∷ m ∷ []) u.loop_ old free E.loop_is))

  sums : (c : Weight) → CountsNoAttribute c → sum_by c R + sum_by (counted c) before ≡ sum_by c xs + sum_by c S
  sums = edits-sums change before stood refl

  -- what stands there
  l_is : item_at R u.loop_ ≡ Some new
  l_is = change.news u.loop_ new (4, omega arith, refl)

  w_is : item_at R w ≡ Some (Vertex u.body p)
  w_is = change.news w (Vertex u.body p) (0, omega arith, refl)

  e_is : item_at R e ≡ Some (Edge u.body)
  e_is = change.news e (Edge u.body) (1, omega arith, refl)

  n_is : IsFin R n m e u.vertex
  n_is = change.news n (Fin m e u.vertex) (2, omega arith, refl)

  m_is : IsFin R m n e w
  m_is = change.news m (Fin n e w) (3, omega arith, refl)

  stays : (t : Tag) (x : Item) → item_at S t ≡ Some x → is_fixed x ≡ true → item_at R t ≡ Some x
  stays t x is fixed = edits-stay change before stood refl t x is (fixed-not_attr x fixed) (fixed-other S t u.loop_ u.face x E.list E.lone is fixed E.loop_is, tt)

  fin_stays : (t mate edge vertex : Tag) → IsFin S t mate edge vertex → IsFin R t mate edge vertex
  fin_stays t mate edge vertex is = stays t (Fin mate edge vertex) is refl

  loop_stays : (l face : Tag) (fins : List Tag) (vertex : Option Tag) → item_at S l ≡ Some (Loop face fins vertex) → l ≢ u.loop_ → item_at R l ≡ Some (Loop face fins vertex)
  loop_stays l face fins vertex is other = edits-stay change before stood refl l (Loop face fins vertex) is (λ h. cc) (other, tt)

  class_stays : (t : Tag) (c : Class) → NotAttr c → class_at S t ≡ Some c → class_at R t ≡ Some c
  class_stays t c na h = edits-class change
      (keeps-new S w _ free.0, (keeps-new S e _ free.1.0, (keeps-new S n _ free.1.1.0, (keeps-new S m _ free.1.1.1.0, ((λ d k. same_Some class.Loop d (sym (ap (option_map class_of_item) E.loop_is) ∙ k)), tt)))))
      t c na tt h

  not_live : (t : Tag) (x : Item) → item_at S t ≡ None → item_at S t ≢ Some x
  not_live t x none is = let both : None ≡ Some x = sym none ∙ is in cc

  -- ---- how the fins go round

  in_ring : (p q : Tag) → Contains {X = Tag × Tag} (neighbours ring) (p, q) → ComesAfter R p q
  in_ring p q k = loop-comes R u.loop_ u.face ring l_is p q k

  comes : (p q : Tag) → ComesAfter S p q → first_tag u.fins ≢ Some q → None ≢ Some q → ComesAfter R p q
  comes p q h first none = ⊎_elim
      (λ (k : Contains {X = Tag × Tag} (neighbours E.list) (p, q)). ⊎_elim
      (λ (l : (first_tag u.fins ≡ Some q) × Contains {X = Tag × Tag} (neighbours ring) (p, n)). absurd (first l.0))
      (λ (r : (first_tag u.fins ≢ Some q) × Contains {X = Tag × Tag} (neighbours ring) (p, q)). in_ring p q r.1)
      (joined-second n m [] u.fins (end-once S well g agree u E) p q (turned-neighbours E.list u.fins E.turned (p, q) k)))
      (λ (other : h.loop_ ≢ u.loop_).
      let next : ComesAfter R p q = record { loop_ = h.loop_; face = h.face; fins = h.fins; vertex = h.vertex; loop_is = loop_stays h.loop_ h.face h.fins h.vertex h.loop_is other; among = h.among } in
      next)
      (comes-here_or_not S well u.loop_ u.face E.list E.lone E.loop_is p q h)

  comes_n : (p q : Tag) → ComesAfter S p q → first_tag u.fins ≡ Some q → ComesAfter R p n
  comes_n p q h first = ⊎_elim
      (λ (l : (first_tag u.fins ≡ Some q) × Contains {X = Tag × Tag} (neighbours ring) (p, n)). in_ring p n l.1)
      (λ (r : (first_tag u.fins ≢ Some q) × Contains {X = Tag × Tag} (neighbours ring) (p, q)). absurd (r.0 first))
      (joined-second n m [] u.fins (end-once S well g agree u E) p q (turned-neighbours E.list u.fins E.turned (p, q)
      (comes-here S well u.loop_ u.face E.list E.lone E.loop_is p q h (turned-in u.fins E.list (turned-back E.list u.fins E.turned) q (first-in u.fins q first)))))

  -- ---- how many there are

  balance : (d : Tag) → (made_in class.Vertex d g R + (made_in class.Face d g R + made_in class.Face d g R)) + (number_in_body class.Edge S d + number_in_body class.Loop S d)
      ≡ (number_in_body class.Vertex S d + (number_in_body class.Face S d + number_in_body class.Face S d)) + (made_in class.Edge d g R + made_in class.Loop d g R)
  balance d =
      let number = edits-numbers change before stood refl well.written.ascends g agree in
      let h = number class.Vertex refl d in
      let i = number class.Edge refl d in
      let j = number class.Face refl d in
      let k = number class.Loop refl d in
      let same : one_if (same_tag (g w) d) ≡ one_if (same_tag (g e) d) = ap (λ t. one_if (same_tag t d)) (g_w ∙ sym g_e) in
      omega (arith, h, i, j, k, same)

  times_more : (t : Tag) → times_in_loops R t ≡ (one_if (same_tag n t) + one_if (same_tag m t)) + times_in_loops S t
  times_more t =
      let s = sums (λ x. times t (fins_of x.1)) (fins-no_attribute t) in
      let a = joined-times n m [] u.fins t in
      let b = turned-times ring (from_least ring) (turned-least ring) t in
      let c = turned-times E.list u.fins E.turned t in
      omega (arith, s, a, b, c)

  fins_more : (t : Tag) → fins_with_edge R t ≡ (one_if (same_tag e t) + one_if (same_tag e t)) + fins_with_edge S t
  fins_more t = let s = sums (λ x. cond (is_fin_of t x.1) 1 0) (edges-no_attribute t) in omega (arith, s)

  u_other : u.vertex ≢ w
  u_other h = let v = vertex_of_class (item_at S u.vertex) E.vertex_is in not_live w _ free.0 (ap (item_at S) (sym h) ∙ v.2)

  u_lone : loops_alone_at R u.vertex ≡ 0
  u_lone =
      let s = sums (λ x. cond (is_alone_in u.vertex x.1) 1 0) (lone-no_attribute u.vertex) in
      omega (arith, s, end-alone_own S u E, E.alone)

  lone_same : (t : Tag) → t ≢ u.vertex → loops_alone_at R t ≡ loops_alone_at S t
  lone_same t other =
      let s = sums (λ x. cond (is_alone_in t x.1) 1 0) (lone-no_attribute t) in
      omega (arith, s, end-alone_other S u E t other)

  -- ---- all

  outer_stays : (f shell outer : Tag) (fins : List Tag) (vertex : Option Tag) → item_at S f ≡ Some (Face shell outer) → item_at S outer ≡ Some (Loop f fins vertex) → SoundFace R f outer
  outer_stays f shell outer fins vertex f_is is = ⊎_elim
      (λ (same : outer ≡ u.loop_).
      let both : Some (Loop f fins vertex) ≡ Some old = sym is ∙ ap (item_at S) same ∙ E.loop_is in
      let face : f ≡ u.face = cc in
      let h : SoundFace R f outer = record { fins = from_least ring; vertex = None; outer_is = ap (item_at R) same ∙ l_is ∙ ap (λ t. Some (Loop t (from_least ring) None)) (sym face) } in
      h)
      (λ (other : outer ≢ u.loop_). let h : SoundFace R f outer = record { fins = fins; vertex = vertex; outer_is = loop_stays outer f fins vertex is other } in h)
      (same_or_other outer u.loop_)

  loop_body : g u.loop_ ≡ u.body
  loop_body = end-loop_body S well g agree u E

  loop_new : LoopIn R g u.loop_ u.face (from_least ring) None
  loop_new =
      let side = side-of_end S R well g agree fin_stays u E in
      joined-loop R g u.loop_ u.face n m e u.vertex w [] u.fins (class_stays u.face class.Face (λ h. cc) (end-face S well g agree u E)) (end-face_body S well g agree u E) (loop_body ∙ sym g_n) (loop_body ∙ sym g_m) n_is m_is
      (side-none R g (g u.loop_) w) (subst (λ t. Side R g t u.vertex u.fins) (sym loop_body) side)

  edge_made : EdgeMade S R g u.body e n m u.vertex w (first_tag u.fins) None
  edge_made = record {
    ascends = change.ascends;
    agree = agree;
    stays = stays;
    outside = outside-was change (refl, (refl, (refl, (refl, (refl, tt)))));
    owner = λ a o name value is c na h. class_stays o c na h;
    each_fin = λ P pn pm old t mate edge vertex is. each-fin change P (tt, (tt, (pn, (pm, (tt, tt))))) old t mate edge vertex is;
    each_edge = λ P pe old t body is. each-edge change P (tt, (pe, (tt, (tt, (tt, tt))))) old t body is;
    vertex_was = each-vertex change (λ t body point. ((t ≡ w) × (body ≡ u.body) × AreCoordinates point) ⊎ (item_at S t ≡ Some (Vertex body point)))
        (inl (refl, refl, within), (tt, (tt, (tt, (tt, tt))))) (λ t body point is. inr is);
    face_was = each-face change (λ f shell outer. FaceOf R g f shell outer ⊎ (item_at S f ≡ Some (Face shell outer))) (tt, (tt, (tt, (tt, (tt, tt))))) (λ f shell outer is. inr is);
    outer_stays = outer_stays;
    loop_was = each-loop change (λ l face fins vertex. LoopIn R g l face fins vertex ⊎ (item_at S l ≡ Some (Loop face fins vertex)))
        (tt, (tt, (tt, (tt, (inl loop_new, tt))))) (λ l face fins vertex is. inr is);
    free = (free.1.0, free.1.1.0, free.1.1.1.0);
    n_other = once.1.1.0.0;
    u_other = u_other;
    e_is = e_is;
    n_is = n_is;
    m_is = m_is;
    b_is = ap (option_map class_of_item) E.body_is;
    u_is = class_stays u.vertex class.Vertex (λ h. cc) E.vertex_is;
    v_is = ap (option_map class_of_item) w_is;
    b_body = end-body S well g agree u E;
    e_body = g_e;
    n_body = g_n;
    m_body = g_m;
    u_body = end-vertex_body S well g agree u E;
    v_body = g_w;
    times_more = times_more;
    edges_more = fins_more;
    u_lone = u_lone;
    v_lone = lone_same w (λ h. u_other (sym h)) ∙ free-lone S well w free.0;
    lone_same = λ t nu nv. lone_same t nu;
    balance = balance;
    u_corner = E.corner;
    v_corner = free-corner S well w free.0;
    u_round = E.round;
    v_round = round-none S w (free-corner S well w free.0);
    comes = comes;
    comes_n = comes_n;
    comes_m = λ p q h none. absurd (cc);
    after_m = in_ring m (unwrap_or (first_tag u.fins) n) (joined-after_m n m [] u.fins);
    after_n = in_ring n m (joined-after_n n m [] u.fins);
  }

  pub vertex-joined : IsWell R
  vertex-joined = edge-well S R g u.body e n m u.vertex w (first_tag u.fins) None well edge_made

pub mev-keeps : (S : Shape) (tags : List Tag) (t : Tag) (at : Triple) → IsWell S → TagsAscend tags → AllByRecursion (λ t. item_at S t ≡ None) tags → Keeps tags (mev S t at)
mev-keeps S tags t at well ascend free = keeps-bind tags (end_at S t) _ (λ u h. keeps-after tags (refuse_outside is_coordinate (numbers_of at)) _ (λ none enough.
    let new = tag_at tags 0 ∷ tag_at tags 1 ∷ tag_at tags 2 ∷ tag_at tags 3 ∷ [] in
    let fresh : AllByRecursion (λ t. item_at S t ≡ None) new = (free_at S tags 0 free (omega arith), (free_at S tags 1 free (omega arith), (free_at S tags 2 free (omega arith), (free_at S tags 3 free (omega arith), tt)))) in
    let apart = λ (i j : ℕ) (h : i < j) (k : j < 4). apart_at tags i j ascend h (omega (arith, k, enough)) in
    let once : NoRepeats new = (
      (apart 0 1 (omega arith) (omega arith), (apart 0 2 (omega arith) (omega arith), (apart 0 3 (omega arith) (omega arith), tt))),
      ((apart 1 2 (omega arith) (omega arith), (apart 1 3 (omega arith) (omega arith), tt)), ((apart 2 3 (omega arith) (omega arith), tt), (tt, tt))),
    ) in
    vertex-joined S well u (end-well S well t (item_at S t) refl u h) (tag_at tags 0) (tag_at tags 1) (tag_at tags 2) (tag_at tags 3) (point_of at) (outside-none is_coordinate (numbers_of at) none)
    once fresh (body_or_new S new u.body) (λ t x is. old-body S new u.body t x fresh is)
    (new-body S new u.body (tag_at tags 0) (0, omega arith, refl)) (new-body S new u.body (tag_at tags 1) (1, omega arith, refl))
    (new-body S new u.body (tag_at tags 2) (2, omega arith, refl)) (new-body S new u.body (tag_at tags 3) (3, omega arith, refl))))
