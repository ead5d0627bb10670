-- The row mekr keeps soundness.
use Rattle.std.proofs.Common.{◌≡◌, ◌≢◌, ℕ, ◌+◌, ◌<◌, ◌⊎◌, inl, inr, ⊎_elim, true, not, cond, List, [], ◌∷◌, Option, Some, None, refl, sym, ap, subst, ◌∙◌, arith}
use Rattle.std.specs.Prelude.{option_map, unwrap_or, Contains}
use Rattle.std.specs.Option.{option_map_or}
use Rattle.std.specs.List.{AllByRecursion, sum_by}
use Rattle.std.proofs.lemmas.Bool.{not-false}
use Rattle.std.proofs.lemmas.Option.{same_Some}
use Rattle.pk_base.specs.Blocks.{tag}
use Rattle.pk_base.specs.Entity.{same_tag}
use Rattle.pk_base.specs.declared.tag.Tag.{Tag}
use Rattle.pk_base.specs.declared.entity.Class.{Class}
use Rattle.pk_base.specs.declared.entity.Class.TheVariants as class
use Rattle.pk_base.specs.declared.refusal.Refusal.TheVariants.{NotOneFace, OneLoop, IsOuter, SameVertex}
use Rattle.pk_model.specs.Apart.{NoRepeats}
use Rattle.pk_model.specs.Tags.{TagsAscend, tag_at}
use Rattle.solid_model.specs.Items.{Item, Shape, item_at, class_of_item, ◌with◌}
use Rattle.solid_model.specs.Items.Item.{Face, Loop, Fin, Edge, Vertex}
use Rattle.solid_model.specs.Rings.{first_tag, from_least, neighbours}
use Rattle.solid_model.specs.Owners.{fins_of, body_of, number_in_body}
use Rattle.solid_model.specs.Deaths.{◌without◌}
use Rattle.solid_model.specs.Places.{End, end_at, outer_of, outer_at}
use Rattle.solid_model.specs.Rows.{refuse_where}
use Rattle.solid_model.specs.Links.{is_fin_of}
use Rattle.solid_model.specs.Mekr.{mekr}
use Rattle.solid_model.specs.Sound.{ComesAfter, class_at, times_in_loops, fins_with_edge, is_alone_in, loops_alone_at}
use Rattle.pk_base.proofs.Same.{same_means, differs_means, same_or_other}
use Rattle.solid_model.proofs.lists.Neighbours.{once-last, one_if, times}
use Rattle.solid_model.proofs.lists.Turned.{turned-back, turned-in, turned-least, turned-neighbours, turned-times}
use Rattle.solid_sound.proofs.shapes.Reading.{vertex_of_class}
use Rattle.solid_sound.proofs.shapes.Lookups.{Items}
use Rattle.solid_sound.proofs.shapes.Sums.{Weight}
use Rattle.solid_sound.proofs.shapes.Names.{NotAttr}
use Rattle.solid_sound.proofs.shapes.Bodies.{leads_up, body_or_new, new-body, old-body}
use Rattle.solid_sound.proofs.rows.Asked.{free_at, apart_at}
use Rattle.solid_sound.proofs.shapes.EachItem.{SoundFace}
use Rattle.solid_sound.proofs.shapes.Attributes.{CountsNoAttribute, fins-no_attribute, edges-no_attribute, lone-no_attribute}
use Rattle.solid_sound.proofs.shapes.Edits.{Before, Edits, StoodIn, counted, edits, edits-class, edits-numbers, edits-stay, edits-sums, keeps-new, live-none_of}
use Rattle.solid_sound.proofs.edges.Corners.{IsFin, comes-here, comes-here_or_not}
use Rattle.solid_sound.proofs.edges.EdgeMade.{made_in, is_fixed, fixed-not_attr, fixed-other, LoopIn, FaceOf, EdgeMade, edge-well}
use Rattle.solid_sound.proofs.shapes.ByClass.{each-fin, each-edge, each-vertex, each-face, each-loop, outside-was}
use Rattle.solid_sound.proofs.edges.Ends.{EndIn, end-well, first-in, joined, joined-after_n, joined-after_m, joined-first, joined-second, joined-times}
use Rattle.solid_sound.proofs.edges.JoinedLoop.{end-once, end-loop_body, end-vertex_body, end-body, end-face, end-face_body, Side, loop-comes, side-of_end, end-alone_own, end-alone_other, joined-loop}
use Rattle.solid_sound.proofs.rows.KeptMotions.{AreCoordinates}
use Rattle.solid_sound.proofs.rows.RowKeeps.{IsWell, Keeps, keeps-after, keeps-bind, not_refused}

-- The edge e of the fins n and m joins the loop of the end u with that of the end v, a ring of the same
-- face, which is dead afterwards. n starts at the vertex of u, and m at that of v.
module _ (S : Shape) (well : IsWell S) (u v : End) (E : EndIn S u) (G : EndIn S v) (one_face : u.face ≡ v.face) (other_loop : u.loop_ ≢ v.loop_) (ring_of_face : v.loop_ ≢ outer_at S v.face) (ends : u.vertex ≢ v.vertex)
    (e n m : Tag) (once : NoRepeats (e ∷ n ∷ m ∷ [])) (free : AllByRecursion (λ t. item_at S t ≡ None) (e ∷ n ∷ m ∷ []))
    (g : Tag → Tag) (agree : (t : Tag) (x : Item) → item_at S t ≡ Some x → g t ≡ body_of S t)
    (g_e : g e ≡ u.body) (g_n : g n ≡ u.body) (g_m : g m ≡ u.body) where
  abbrev ring : List Tag
  ring = joined n m v.fins u.fins

  abbrev old : Item
  old = Loop u.face E.list E.lone

  abbrev dead : Item
  dead = Loop v.face G.list G.lone

  abbrev new : Item
  new = Loop u.face (from_least ring) None

  abbrev xs : Items
  xs = (e, Edge u.body) ∷ (n, Fin m e u.vertex) ∷ (m, Fin n e v.vertex) ∷ (u.loop_, new) ∷ []

  abbrev R : Shape
  R = S with xs without v.loop_ ∷ []

  abbrev before : Before
  before = (e, None) ∷ (n, None) ∷ (m, None) ∷ (u.loop_, Some old) ∷ (v.loop_, Some dead) ∷ []

  stood : StoodIn S before
  stood = (free.0, (free.1.0, (free.1.1.0, (E.loop_is, (G.loop_is, tt)))))

  change : Edits S R xs (v.loop_ ∷ [])
  change =
      let dead_new = live-none_of S (e ∷ n ∷ m ∷ []) v.loop_ dead free G.loop_is in
      edits S xs (v.loop_ ∷ []) well.written.ascends (once-last (e ∷ n ∷ m ∷ []) u.loop_ once (live-none_of S (e ∷ n ∷ m ∷ []) u.loop_ old free E.loop_is)) (tt, tt)
      ((dead_new.0, (dead_new.1.0, (dead_new.1.1.0, ((λ h. other_loop (sym h)), tt)))), tt) ((λ h. cc), ((λ h. cc), ((λ h. cc), ((λ h. cc), tt))))

  sums : (w : Weight) → CountsNoAttribute w → sum_by w R + sum_by (counted w) before ≡ sum_by w xs + sum_by w S
  sums = edits-sums change before stood refl

  -- what stands there
  l_is : item_at R u.loop_ ≡ Some new
  l_is = change.news u.loop_ new (3, omega arith, refl)

  e_is : item_at R e ≡ Some (Edge u.body)
  e_is = change.news e (Edge u.body) (0, omega arith, refl)

  n_is : IsFin R n m e u.vertex
  n_is = change.news n (Fin m e u.vertex) (1, omega arith, refl)

  m_is : IsFin R m n e v.vertex
  m_is = change.news m (Fin n e v.vertex) (2, omega arith, refl)

  stays : (t : Tag) (x : Item) → item_at S t ≡ Some x → is_fixed x ≡ true → item_at R t ≡ Some x
  stays t x is fixed = edits-stay change before stood refl t x is (fixed-not_attr x fixed) (fixed-other S t u.loop_ u.face x E.list E.lone is fixed E.loop_is, (fixed-other S t v.loop_ v.face x G.list G.lone is fixed G.loop_is, tt))

  fin_stays : (t mate edge vertex : Tag) → IsFin S t mate edge vertex → IsFin R t mate edge vertex
  fin_stays t mate edge vertex is = stays t (Fin mate edge vertex) is refl

  loop_stays : (l face : Tag) (fins : List Tag) (vertex : Option Tag) → item_at S l ≡ Some (Loop face fins vertex) → l ≢ u.loop_ → l ≢ v.loop_ → item_at R l ≡ Some (Loop face fins vertex)
  loop_stays l face fins vertex is nu nv = edits-stay change before stood refl l (Loop face fins vertex) is (λ h. cc) (nu, (nv, tt))

  class_stays : (t : Tag) (c : Class) → NotAttr c → t ≢ v.loop_ → class_at S t ≡ Some c → class_at R t ≡ Some c
  class_stays t c na nv h = edits-class change
      (keeps-new S e _ free.0, (keeps-new S n _ free.1.0, (keeps-new S m _ free.1.1.0, ((λ d k. same_Some class.Loop d (sym (ap (option_map class_of_item) E.loop_is) ∙ k)), tt))))
      t c na (nv, tt) h

  -- ---- bodies

  up : (l face : Tag) (fins : List Tag) (vertex : Option Tag) → item_at S l ≡ Some (Loop face fins vertex) → body_of S face ≡ body_of S l
  up = (leads_up S well.written well.sound).loops

  one_body : v.body ≡ u.body
  one_body = sym G.loop_body ∙ sym (up v.loop_ v.face G.list G.lone G.loop_is) ∙ ap (body_of S) (sym one_face) ∙ up u.loop_ u.face E.list E.lone E.loop_is ∙ E.loop_body

  loop_body : g u.loop_ ≡ u.body
  loop_body = end-loop_body S well g agree u E

  dead_body : g v.loop_ ≡ u.body
  dead_body = end-loop_body S well g agree v G ∙ one_body

  vertex_stays : (w : Tag) → class_at S w ≡ Some class.Vertex → class_at R w ≡ Some class.Vertex
  vertex_stays w h = let x = vertex_of_class (item_at S w) h in ap (option_map class_of_item) (stays w (Vertex x.0 x.1) x.2 refl)

  face_stays : class_at R u.face ≡ Some class.Face
  face_stays =
      let was = end-face S well g agree u E in
      class_stays u.face class.Face (λ h. cc) (λ h. let both : Some class.Face ≡ Some class.Loop = sym was ∙ ap (class_at S) h ∙ ap (option_map class_of_item) G.loop_is in cc) was

  -- ---- how the fins go round

  in_ring : (p q : Tag) → Contains {X = Tag × Tag} (neighbours ring) (p, q) → ComesAfter R p q
  in_ring p q k = loop-comes R u.loop_ u.face ring l_is p q k

  comes : (p q : Tag) → ComesAfter S p q → first_tag u.fins ≢ Some q → first_tag v.fins ≢ Some q → ComesAfter R p q
  comes p q h not_u not_v = ⊎_elim
      (λ (k : Contains {X = Tag × Tag} (neighbours E.list) (p, q)). ⊎_elim
      (λ (x : (first_tag u.fins ≡ Some q) × Contains {X = Tag × Tag} (neighbours ring) (p, n)). absurd (not_u x.0))
      (λ (x : (first_tag u.fins ≢ Some q) × Contains {X = Tag × Tag} (neighbours ring) (p, q)). in_ring p q x.1)
      (joined-second n m v.fins u.fins (end-once S well g agree u E) p q (turned-neighbours E.list u.fins E.turned (p, q) k)))
      (λ (nu : h.loop_ ≢ u.loop_). ⊎_elim
      (λ (k : Contains {X = Tag × Tag} (neighbours G.list) (p, q)). ⊎_elim
      (λ (x : (first_tag v.fins ≡ Some q) × Contains {X = Tag × Tag} (neighbours ring) (p, m)). absurd (not_v x.0))
      (λ (x : (first_tag v.fins ≢ Some q) × Contains {X = Tag × Tag} (neighbours ring) (p, q)). in_ring p q x.1)
      (joined-first n m v.fins u.fins (end-once S well g agree v G) p q (turned-neighbours G.list v.fins G.turned (p, q) k)))
      (λ (nv : h.loop_ ≢ v.loop_).
      let next : ComesAfter R p q = record { loop_ = h.loop_; face = h.face; fins = h.fins; vertex = h.vertex; loop_is = loop_stays h.loop_ h.face h.fins h.vertex h.loop_is nu nv; among = h.among } in
      next)
      (comes-here_or_not S well v.loop_ v.face G.list G.lone G.loop_is p q h))
      (comes-here_or_not S well u.loop_ u.face E.list E.lone E.loop_is p q h)

  comes_n : (p q : Tag) → ComesAfter S p q → first_tag u.fins ≡ Some q → ComesAfter R p n
  comes_n p q h first = ⊎_elim
      (λ (x : (first_tag u.fins ≡ Some q) × Contains {X = Tag × Tag} (neighbours ring) (p, n)). in_ring p n x.1)
      (λ (x : (first_tag u.fins ≢ Some q) × Contains {X = Tag × Tag} (neighbours ring) (p, q)). absurd (x.0 first))
      (joined-second n m v.fins u.fins (end-once S well g agree u E) p q (turned-neighbours E.list u.fins E.turned (p, q)
      (comes-here S well u.loop_ u.face E.list E.lone E.loop_is p q h (turned-in u.fins E.list (turned-back E.list u.fins E.turned) q (first-in u.fins q first)))))

  comes_m : (p q : Tag) → ComesAfter S p q → first_tag v.fins ≡ Some q → ComesAfter R p m
  comes_m p q h first = ⊎_elim
      (λ (x : (first_tag v.fins ≡ Some q) × Contains {X = Tag × Tag} (neighbours ring) (p, m)). in_ring p m x.1)
      (λ (x : (first_tag v.fins ≢ Some q) × Contains {X = Tag × Tag} (neighbours ring) (p, q)). absurd (x.0 first))
      (joined-first n m v.fins u.fins (end-once S well g agree v G) p q (turned-neighbours G.list v.fins G.turned (p, q)
      (comes-here S well v.loop_ v.face G.list G.lone G.loop_is p q h (turned-in v.fins G.list (turned-back G.list v.fins G.turned) q (first-in v.fins q first)))))

  -- ---- how many there are

  balance : (d : Tag) → (made_in class.Vertex d g R + (made_in class.Face d g R + made_in class.Face d g R)) + (number_in_body class.Edge S d + number_in_body class.Loop S d)
      ≡ (number_in_body class.Vertex S d + (number_in_body class.Face S d + number_in_body class.Face S d)) + (made_in class.Edge d g R + made_in class.Loop d g R)
  balance d =
      let number = edits-numbers change before stood refl well.written.ascends g agree in
      let w = number class.Vertex refl d in
      let i = number class.Edge refl d in
      let j = number class.Face refl d in
      let k = number class.Loop refl d in
      let same : one_if (same_tag (g v.loop_) d) ≡ one_if (same_tag (g e) d) = ap (λ t. one_if (same_tag t d)) (dead_body ∙ sym g_e) in
      omega (arith, w, i, j, k, same)

  times_more : (t : Tag) → times_in_loops R t ≡ (one_if (same_tag n t) + one_if (same_tag m t)) + times_in_loops S t
  times_more t =
      let s = sums (λ x. times t (fins_of x.1)) (fins-no_attribute t) in
      let a = joined-times n m v.fins u.fins t in
      let b = turned-times ring (from_least ring) (turned-least ring) t in
      let c = turned-times E.list u.fins E.turned t in
      let d = turned-times G.list v.fins G.turned t in
      omega (arith, s, a, b, c, d)

  fins_more : (t : Tag) → fins_with_edge R t ≡ (one_if (same_tag e t) + one_if (same_tag e t)) + fins_with_edge S t
  fins_more t = let s = sums (λ x. cond (is_fin_of t x.1) 1 0) (edges-no_attribute t) in omega (arith, s)

  u_lone : loops_alone_at R u.vertex ≡ 0
  u_lone =
      let s = sums (λ x. cond (is_alone_in u.vertex x.1) 1 0) (lone-no_attribute u.vertex) in
      omega (arith, s, end-alone_own S u E, end-alone_other S v G u.vertex ends, E.alone)

  v_lone : loops_alone_at R v.vertex ≡ 0
  v_lone =
      let s = sums (λ x. cond (is_alone_in v.vertex x.1) 1 0) (lone-no_attribute v.vertex) in
      omega (arith, s, end-alone_own S v G, end-alone_other S u E v.vertex (λ h. ends (sym h)), G.alone)

  lone_same : (t : Tag) → t ≢ u.vertex → t ≢ v.vertex → loops_alone_at R t ≡ loops_alone_at S t
  lone_same t nu nv =
      let s = sums (λ x. cond (is_alone_in t x.1) 1 0) (lone-no_attribute t) in
      omega (arith, s, end-alone_other S u E t nu, end-alone_other S v G t nv)

  -- ---- all

  outer_stays : (f shell outer : Tag) (fins : List Tag) (vertex : Option Tag) → item_at S f ≡ Some (Face shell outer) → item_at S outer ≡ Some (Loop f fins vertex) → SoundFace R f outer
  outer_stays f shell outer fins vertex f_is is = ⊎_elim
      (λ (same : outer ≡ u.loop_).
      let both : Some (Loop f fins vertex) ≡ Some old = sym is ∙ ap (item_at S) same ∙ E.loop_is in
      let face : f ≡ u.face = cc in
      let h : SoundFace R f outer = record { fins = from_least ring; vertex = None; outer_is = ap (item_at R) same ∙ l_is ∙ ap (λ t. Some (Loop t (from_least ring) None)) (sym face) } in
      h)
      (λ (nu : outer ≢ u.loop_).
      let nv : outer ≢ v.loop_ = λ same.
      let both : Some (Loop f fins vertex) ≡ Some dead = sym is ∙ ap (item_at S) same ∙ G.loop_is in
      let face : f ≡ v.face = cc in
      ring_of_face (sym same ∙ sym (ap (λ (o : Option Item). option_map_or outer_of o (tag 0)) f_is) ∙ ap (outer_at S) face) in
      let h : SoundFace R f outer = record { fins = fins; vertex = vertex; outer_is = loop_stays outer f fins vertex is nu nv } in
      h)
      (same_or_other outer u.loop_)

  loop_new : LoopIn R g u.loop_ u.face (from_least ring) None
  loop_new = joined-loop R g u.loop_ u.face n m e u.vertex v.vertex v.fins u.fins face_stays (end-face_body S well g agree u E) (loop_body ∙ sym g_n) (loop_body ∙ sym g_m) n_is m_is
      (subst (λ t. Side R g t v.vertex v.fins) (one_body ∙ sym loop_body) (side-of_end S R well g agree fin_stays v G))
      (subst (λ t. Side R g t u.vertex u.fins) (sym loop_body) (side-of_end S R well g agree fin_stays u E))

  edge_made : EdgeMade S R g u.body e n m u.vertex v.vertex (first_tag u.fins) (first_tag v.fins)
  edge_made = record {
    ascends = change.ascends;
    agree = agree;
    stays = stays;
    outside = outside-was change (refl, (refl, (refl, (refl, tt))));
    owner = λ a o name value is c na h. class_stays o c na (change.owner a o name value is).0 h;
    each_fin = λ P pn pm before t mate edge vertex is. each-fin change P (tt, (pn, (pm, (tt, tt)))) before t mate edge vertex is;
    each_edge = λ P pe before t body is. each-edge change P (pe, (tt, (tt, (tt, tt)))) before t body is;
    vertex_was = each-vertex change (λ t body point. ((t ≡ v.vertex) × (body ≡ u.body) × AreCoordinates point) ⊎ (item_at S t ≡ Some (Vertex body point)))
        (tt, (tt, (tt, (tt, tt)))) (λ t body point is. inr is);
    face_was = each-face change (λ f shell outer. FaceOf R g f shell outer ⊎ (item_at S f ≡ Some (Face shell outer))) (tt, (tt, (tt, (tt, tt)))) (λ f shell outer is. inr is);
    outer_stays = outer_stays;
    loop_was = each-loop change (λ l face fins vertex. LoopIn R g l face fins vertex ⊎ (item_at S l ≡ Some (Loop face fins vertex)))
        (tt, (tt, (tt, (inl loop_new, tt)))) (λ l face fins vertex is. inr is);
    free = (free.0, free.1.0, free.1.1.0);
    n_other = once.1.0.0;
    u_other = ends;
    e_is = e_is;
    n_is = n_is;
    m_is = m_is;
    b_is = ap (option_map class_of_item) E.body_is;
    u_is = vertex_stays u.vertex E.vertex_is;
    v_is = vertex_stays v.vertex G.vertex_is;
    b_body = end-body S well g agree u E;
    e_body = g_e;
    n_body = g_n;
    m_body = g_m;
    u_body = end-vertex_body S well g agree u E;
    v_body = end-vertex_body S well g agree v G ∙ one_body;
    times_more = times_more;
    edges_more = fins_more;
    u_lone = u_lone;
    v_lone = v_lone;
    lone_same = lone_same;
    balance = balance;
    u_corner = E.corner;
    v_corner = G.corner;
    u_round = E.round;
    v_round = G.round;
    comes = comes;
    comes_n = comes_n;
    comes_m = comes_m;
    after_m = in_ring m (unwrap_or (first_tag u.fins) n) (joined-after_m n m v.fins u.fins);
    after_n = in_ring n (unwrap_or (first_tag v.fins) m) (joined-after_n n m v.fins u.fins);
  }

  pub ring-joined : IsWell R
  ring-joined = edge-well S R g u.body e n m u.vertex v.vertex (first_tag u.fins) (first_tag v.fins) well edge_made

pub mekr-keeps : (S : Shape) (tags : List Tag) (k r : Tag) → IsWell S → TagsAscend tags → AllByRecursion (λ t. item_at S t ≡ None) tags → Keeps tags (mekr S k r)
mekr-keeps S tags k r well ascend free = keeps-bind tags (end_at S k) _ (λ u h. keeps-bind tags (end_at S r) _ (λ v j.
    keeps-after tags (refuse_where (not (same_tag u.face v.face)) (NotOneFace u.face v.face)) _ (λ face. keeps-after tags (refuse_where (same_tag u.loop_ v.loop_) (OneLoop u.loop_)) _ (λ loops.
    keeps-after tags (refuse_where (same_tag v.loop_ (outer_at S v.face)) (IsOuter v.loop_)) _ (λ ring. keeps-after tags (refuse_where (same_tag u.vertex v.vertex) (SameVertex u.vertex)) _ (λ ends enough.
    let new = tag_at tags 0 ∷ tag_at tags 1 ∷ tag_at tags 2 ∷ [] in
    let fresh : AllByRecursion (λ t. item_at S t ≡ None) new = (free_at S tags 0 free (omega arith), (free_at S tags 1 free (omega arith), (free_at S tags 2 free (omega arith), tt))) in
    let apart = λ (i j : ℕ) (h : i < j) (k : j < 3). apart_at tags i j ascend h (omega (arith, k, enough)) in
    let once : NoRepeats new = ((apart 0 1 (omega arith) (omega arith), (apart 0 2 (omega arith) (omega arith), tt)), ((apart 1 2 (omega arith) (omega arith), tt), (tt, tt))) in
    ring-joined S well u v (end-well S well k (item_at S k) refl u h) (end-well S well r (item_at S r) refl v j)
    (same_means u.face v.face (not-false (same_tag u.face v.face) (not_refused _ _ face))) (differs_means u.loop_ v.loop_ (not_refused _ _ loops))
    (differs_means v.loop_ (outer_at S v.face) (not_refused _ _ ring)) (differs_means u.vertex v.vertex (not_refused _ _ ends))
    (tag_at tags 0) (tag_at tags 1) (tag_at tags 2) once fresh (body_or_new S new u.body) (λ t x is. old-body S new u.body t x fresh is)
    (new-body S new u.body (tag_at tags 0) (0, omega arith, refl)) (new-body S new u.body (tag_at tags 1) (1, omega arith, refl)) (new-body S new u.body (tag_at tags 2) (2, omega arith, refl))))))))
