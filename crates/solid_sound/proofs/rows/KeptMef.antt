-- The row mef keeps soundness.
use Rattle.std.proofs.Common.{◌≡◌, ◌≢◌, ℕ, ◌+◌, ◌<◌, ◌≤◌, ◌⊎◌, inl, inr, ⊎_elim, true, false, not, cond, List, [], ◌∷◌, ◌++◌, length, Option, Some, None, refl, sym, ap, subst, ◌∙◌, arith}
use Rattle.std.specs.Prelude.{option_map, Contains}
use Rattle.std.specs.List.{AllByRecursion, sum_by}
use Rattle.std.proofs.lemmas.Bool.{not-false}
use Rattle.std.proofs.lemmas.List.Elements.{Contains-append_right}
use Rattle.std.proofs.lemmas.Option.{same_Some}
use Rattle.pk_base.specs.Entity.{same_tag}
use Rattle.pk_base.specs.declared.tag.Tag.{Tag}
use Rattle.pk_base.specs.declared.entity.Class.{Class}
use Rattle.pk_base.specs.declared.entity.Class.TheVariants as class
use Rattle.pk_base.specs.declared.refusal.Refusal.TheVariants.{NotOneLoop, SameVertex}
use Rattle.pk_model.specs.Apart.{NoRepeats}
use Rattle.pk_model.specs.Tags.{TagsAscend, tag_at}
use Rattle.solid_model.specs.Items.{Item, Shape, item_at, class_of_item, ◌with◌}
use Rattle.solid_model.specs.Items.Item.{Face, Loop, Fin, Edge, Vertex}
use Rattle.solid_model.specs.Rings.{before, from, from_least, neighbours, ring_of}
use Rattle.solid_model.specs.Owners.{fins_of, body_of, number_in_body}
use Rattle.solid_model.specs.Places.{End, PlacedFin, fin_at, start_at}
use Rattle.solid_model.specs.Rows.{refuse_where}
use Rattle.solid_model.specs.Links.{is_fin_of}
use Rattle.solid_model.specs.Mef.{mef}
use Rattle.solid_model.specs.Sound.{ComesAfter, class_at, times_in_loops, fins_with_edge, is_alone_in, is_empty, loops_alone_at, end_of, AreOf}
use Rattle.list_facts.proofs.Elements.{Contains-first, Contains-later}
use Rattle.pk_base.proofs.Same.{same_means, differs_means, same_or_other}
use Rattle.solid_model.proofs.lists.Neighbours.{once-last, one_if, times}
use Rattle.solid_model.proofs.lists.Cycles.{cut-at}
use Rattle.solid_model.proofs.lists.Turned.{Turned, turned-back, turned-in, turned-least, turned-neighbours, turned-times}
use Rattle.solid_sound.proofs.shapes.Reading.{vertex_of_class}
use Rattle.solid_sound.proofs.shapes.Lookups.{Items}
use Rattle.solid_sound.proofs.shapes.Sums.{Weight}
use Rattle.solid_sound.proofs.shapes.Names.{NotAttr}
use Rattle.solid_sound.proofs.shapes.Bodies.{body_or_new, new-body, old-body}
use Rattle.solid_sound.proofs.rows.Asked.{free_at, apart_at}
use Rattle.solid_sound.proofs.shapes.EachItem.{SoundFace}
use Rattle.solid_sound.proofs.shapes.Attributes.{CountsNoAttribute, fins-no_attribute, edges-no_attribute, lone-no_attribute}
use Rattle.solid_sound.proofs.shapes.Edits.{Before, Edits, StoodIn, counted, edits-class, edits-numbers, edits-stay, edits-sums, keeps-new, live-none_of, written}
use Rattle.solid_sound.proofs.edges.Corners.{IsFin, Follows, CornerAt, Round, comes-here, comes-here_or_not, start_of_fin, mate_of_fin}
use Rattle.solid_sound.proofs.edges.EdgeMade.{made_in, is_fixed, fixed-not_attr, fixed-other, LoopIn, FaceOf, EdgeMade, edge-well}
use Rattle.solid_sound.proofs.shapes.ByClass.{each-fin, each-edge, each-vertex, each-face, each-loop, outside-was}
use Rattle.solid_sound.proofs.edges.Ends.{EndIn, as_end, FinIn, fin-well}
use Rattle.solid_sound.proofs.edges.JoinedLoop.{end-once, end-loop_body, end-vertex_body, end-body, end-face, end-face_body, Side, loop-comes, loop-of_ring, side-of_end, end-alone}
use Rattle.solid_model.proofs.lists.Parted.{whole, first_part, second_part, Place, parted, parted-after_n, parted-after_m, ends_apart, first-all, second-all, first-each, second-each, parted-times}
use Rattle.solid_sound.proofs.rows.KeptRings.{face_of_class, FaceIn, face_in}
use Rattle.solid_sound.proofs.rows.KeptMotions.{AreCoordinates}
use Rattle.solid_sound.proofs.rows.RowKeeps.{IsWell, Keeps, keeps-after, keeps-bind, not_refused}

-- The edge e of the fins n and m parts the loop of the end u, whose list is a, ts, c and us. n starts
-- where c does, at v, and m where a does, at the vertex of u. The new face f has the loop l of a, ts
-- and n; c, us and m stay in the loop that was.
module _ (S : Shape) (well : IsWell S) (u : End) (E : EndIn S u) (a c v shell outer : Tag) (ts us : List Tag) (cut : u.fins ≡ a ∷ ts ++ c ∷ us)
    (a_corner : CornerAt S u.vertex (Some a)) (c_corner : CornerAt S v (Some c)) (c_round : Round S v) (v_is : class_at S v ≡ Some class.Vertex) (v_body : body_of S v ≡ u.body) (v_alone : loops_alone_at S v ≡ 0)
    (ends : v ≢ u.vertex) (face_is : item_at S u.face ≡ Some (Face shell outer))
    (f l e n m : Tag) (once : NoRepeats (f ∷ l ∷ e ∷ n ∷ m ∷ [])) (free : AllByRecursion (λ t. item_at S t ≡ None) (f ∷ l ∷ e ∷ n ∷ m ∷ []))
    (g : Tag → Tag) (agree : (t : Tag) (x : Item) → item_at S t ≡ Some x → g t ≡ body_of S t)
    (g_f : g f ≡ u.body) (g_l : g l ≡ u.body) (g_e : g e ≡ u.body) (g_n : g n ≡ u.body) (g_m : g m ≡ u.body) where
  abbrev fresh : List Tag
  fresh = first_part a c n m ts us

  abbrev rest : List Tag
  rest = second_part a c n m ts us

  abbrev all_fins : List Tag
  all_fins = whole a c n m ts us

  abbrev old : Item
  old = Loop u.face E.list E.lone

  abbrev new : Item
  new = Loop u.face (from_least rest) None

  abbrev xs : Items
  xs = (f, Face shell l) ∷ (l, Loop f (from_least fresh) None) ∷ (e, Edge u.body) ∷ (n, Fin m e v) ∷ (m, Fin n e u.vertex) ∷ (u.loop_, new) ∷ []

  abbrev R : Shape
  R = S with xs

  abbrev stood_before : Before
  stood_before = (f, None) ∷ (l, None) ∷ (e, None) ∷ (n, None) ∷ (m, None) ∷ (u.loop_, Some old) ∷ []

  stood : StoodIn S stood_before
  stood = (free.0, (free.1.0, (free.1.1.0, (free.1.1.1.0, (free.1.1.1.1.0, (E.loop_is, tt))))))

  change : Edits S R xs []
  change = written S xs well.written.ascends (once-last (f ∷ l ∷ e ∷ n ∷ m ∷ []) u.loop_ once (live-none_of S (f ∷ l ∷ e ∷ n ∷ m ∷ []) u.loop_ old free E.loop_is))

  sums : (w : Weight) → CountsNoAttribute w → sum_by w R + sum_by (counted w) stood_before ≡ sum_by w xs + sum_by w S
  sums = edits-sums change stood_before stood refl

  -- what stands there
  loop_is : item_at R u.loop_ ≡ Some new
  loop_is = change.news u.loop_ new (5, omega arith, refl)

  f_is : item_at R f ≡ Some (Face shell l)
  f_is = change.news f (Face shell l) (0, omega arith, refl)

  l_is : item_at R l ≡ Some (Loop f (from_least fresh) None)
  l_is = change.news l (Loop f (from_least fresh) None) (1, omega arith, refl)

  e_is : item_at R e ≡ Some (Edge u.body)
  e_is = change.news e (Edge u.body) (2, omega arith, refl)

  n_is : IsFin R n m e v
  n_is = change.news n (Fin m e v) (3, omega arith, refl)

  m_is : IsFin R m n e u.vertex
  m_is = change.news m (Fin n e u.vertex) (4, omega arith, refl)

  stays : (t : Tag) (x : Item) → item_at S t ≡ Some x → is_fixed x ≡ true → item_at R t ≡ Some x
  stays t x is fixed = edits-stay change stood_before stood refl t x is (fixed-not_attr x fixed) (fixed-other S t u.loop_ u.face x E.list E.lone is fixed E.loop_is, tt)

  fin_stays : (t mate edge vertex : Tag) → IsFin S t mate edge vertex → IsFin R t mate edge vertex
  fin_stays t mate edge vertex is = stays t (Fin mate edge vertex) is refl

  loop_stays : (k face : Tag) (fins : List Tag) (vertex : Option Tag) → item_at S k ≡ Some (Loop face fins vertex) → k ≢ u.loop_ → item_at R k ≡ Some (Loop face fins vertex)
  loop_stays k face fins vertex is other = edits-stay change stood_before stood refl k (Loop face fins vertex) is (λ h. cc) (other, tt)

  class_stays : (t : Tag) (k : Class) → NotAttr k → class_at S t ≡ Some k → class_at R t ≡ Some k
  class_stays t k na h = edits-class change
      (keeps-new S f _ free.0, (keeps-new S l _ free.1.0, (keeps-new S e _ free.1.1.0, (keeps-new S n _ free.1.1.1.0, (keeps-new S m _ free.1.1.1.1.0, ((λ d h. same_Some class.Loop d (sym (ap (option_map class_of_item) E.loop_is) ∙ h)), tt))))))
      t k na tt h

  -- ---- bodies

  F : FaceIn S u.face shell outer
  F = face_in S well u.face shell outer face_is

  loop_body : g u.loop_ ≡ u.body
  loop_body = end-loop_body S well g agree u E

  face_body : g u.face ≡ g u.loop_
  face_body = end-face_body S well g agree u E

  shell_body : g shell ≡ u.body
  shell_body = agree shell _ F.shell_is ∙ F.shell_body ∙ sym F.face_body ∙ sym (agree u.face _ face_is) ∙ face_body ∙ loop_body

  -- ---- how the fins go round

  turned : Turned E.list all_fins
  turned = subst (Turned E.list) cut E.turned

  list_once : NoRepeats all_fins
  list_once = subst NoRepeats cut (end-once S well g agree u E)

  in_fresh : (p q : Tag) → Contains {X = Tag × Tag} (neighbours fresh) (p, q) → ComesAfter R p q
  in_fresh p q k = loop-comes R l f fresh l_is p q k

  in_rest : (p q : Tag) → Contains {X = Tag × Tag} (neighbours rest) (p, q) → ComesAfter R p q
  in_rest p q k = loop-comes R u.loop_ u.face rest loop_is p q k

  place : (p q : Tag) → Contains {X = Tag × Tag} (neighbours E.list) (p, q) → Place a c n m ts us p q
  place p q k = parted a c n m ts us list_once p q (turned-neighbours E.list all_fins turned (p, q) k)

  -- a fin of the loop comes after what came before it
  place_of : (p q : Tag) → ComesAfter S p q → Contains all_fins q → Place a c n m ts us p q
  place_of p q h k = place p q (comes-here S well u.loop_ u.face E.list E.lone E.loop_is p q h (turned-in all_fins E.list (turned-back E.list all_fins turned) q k))

  comes : (p q : Tag) → ComesAfter S p q → Some c ≢ Some q → Some a ≢ Some q → ComesAfter R p q
  comes p q h not_c not_a = ⊎_elim
      (λ (k : Contains {X = Tag × Tag} (neighbours E.list) (p, q)). ⊎_elim
      (λ (x : (q ≡ c) × Contains {X = Tag × Tag} (neighbours fresh) (p, n)). absurd (not_c (ap Some (sym x.0))))
      (λ (y : ((q ≡ a) × Contains {X = Tag × Tag} (neighbours rest) (p, m)) ⊎ ((q ≢ a) × (q ≢ c) × (Contains {X = Tag × Tag} (neighbours fresh) (p, q) ⊎ Contains {X = Tag × Tag} (neighbours rest) (p, q)))). ⊎_elim
      (λ (x : (q ≡ a) × Contains {X = Tag × Tag} (neighbours rest) (p, m)). absurd (not_a (ap Some (sym x.0))))
      (λ (x : (q ≢ a) × (q ≢ c) × (Contains {X = Tag × Tag} (neighbours fresh) (p, q) ⊎ Contains {X = Tag × Tag} (neighbours rest) (p, q))). ⊎_elim (in_fresh p q) (in_rest p q) x.2)
      y)
      (place p q k))
      (λ (other : h.loop_ ≢ u.loop_).
      let next : ComesAfter R p q = record { loop_ = h.loop_; face = h.face; fins = h.fins; vertex = h.vertex; loop_is = loop_stays h.loop_ h.face h.fins h.vertex h.loop_is other; among = h.among } in
      next)
      (comes-here_or_not S well u.loop_ u.face E.list E.lone E.loop_is p q h)

  comes_n : (p q : Tag) → ComesAfter S p q → Some c ≡ Some q → ComesAfter R p n
  comes_n p q h is =
      let same : c ≡ q = same_Some c q is in
      let apart : c ≢ a = ends_apart a c n m ts us list_once in
      ⊎_elim
      (λ (x : (c ≡ c) × Contains {X = Tag × Tag} (neighbours fresh) (p, n)). in_fresh p n x.1)
      (λ (y : ((c ≡ a) × Contains {X = Tag × Tag} (neighbours rest) (p, m)) ⊎ ((c ≢ a) × (c ≢ c) × (Contains {X = Tag × Tag} (neighbours fresh) (p, c) ⊎ Contains {X = Tag × Tag} (neighbours rest) (p, c)))). ⊎_elim
      (λ (x : (c ≡ a) × Contains {X = Tag × Tag} (neighbours rest) (p, m)). absurd (apart x.0))
      (λ (x : (c ≢ a) × (c ≢ c) × (Contains {X = Tag × Tag} (neighbours fresh) (p, c) ⊎ Contains {X = Tag × Tag} (neighbours rest) (p, c))). absurd (x.1 refl))
      y)
      (place_of p c (subst (ComesAfter S p) (sym same) h) (in_middle ts))
    where
      in_middle : (ts : List Tag) → Contains (a ∷ ts ++ c ∷ us) c
      in_middle ts = Contains-later a (ts ++ c ∷ us) c (Contains-append_right ts (c ∷ us) c (Contains-first c us))

  comes_m : (p q : Tag) → ComesAfter S p q → Some a ≡ Some q → ComesAfter R p m
  comes_m p q h is =
      let same : a ≡ q = same_Some a q is in
      let apart : c ≢ a = ends_apart a c n m ts us list_once in
      ⊎_elim
      (λ (x : (a ≡ c) × Contains {X = Tag × Tag} (neighbours fresh) (p, n)). absurd (apart (sym x.0)))
      (λ (y : ((a ≡ a) × Contains {X = Tag × Tag} (neighbours rest) (p, m)) ⊎ ((a ≢ a) × (a ≢ c) × (Contains {X = Tag × Tag} (neighbours fresh) (p, a) ⊎ Contains {X = Tag × Tag} (neighbours rest) (p, a)))). ⊎_elim
      (λ (x : (a ≡ a) × Contains {X = Tag × Tag} (neighbours rest) (p, m)). in_rest p m x.1)
      (λ (x : (a ≢ a) × (a ≢ c) × (Contains {X = Tag × Tag} (neighbours fresh) (p, a) ⊎ Contains {X = Tag × Tag} (neighbours rest) (p, a))). absurd (x.0 refl))
      y)
      (place_of p a (subst (ComesAfter S p) (sym same) h) (Contains-first a (ts ++ c ∷ us)))

  -- ---- how many there are

  balance : (d : Tag) → (made_in class.Vertex d g R + (made_in class.Face d g R + made_in class.Face d g R)) + (number_in_body class.Edge S d + number_in_body class.Loop S d)
      ≡ (number_in_body class.Vertex S d + (number_in_body class.Face S d + number_in_body class.Face S d)) + (made_in class.Edge d g R + made_in class.Loop d g R)
  balance d =
      let number = edits-numbers change stood_before stood refl well.written.ascends g agree in
      let w = number class.Vertex refl d in
      let i = number class.Edge refl d in
      let j = number class.Face refl d in
      let k = number class.Loop refl d in
      let one : one_if (same_tag (g f) d) ≡ one_if (same_tag (g e) d) = ap (λ t. one_if (same_tag t d)) (g_f ∙ sym g_e) in
      let more : one_if (same_tag (g l) d) ≡ one_if (same_tag (g e) d) = ap (λ t. one_if (same_tag t d)) (g_l ∙ sym g_e) in
      omega (arith, w, i, j, k, one, more)

  times_more : (t : Tag) → times_in_loops R t ≡ (one_if (same_tag n t) + one_if (same_tag m t)) + times_in_loops S t
  times_more t =
      let s = sums (λ x. times t (fins_of x.1)) (fins-no_attribute t) in
      let h = parted-times a c n m ts us t in
      let i = turned-times fresh (from_least fresh) (turned-least fresh) t in
      let j = turned-times rest (from_least rest) (turned-least rest) t in
      let k = turned-times E.list all_fins turned t in
      omega (arith, s, h, i, j, k)

  fins_more : (t : Tag) → fins_with_edge R t ≡ (one_if (same_tag e t) + one_if (same_tag e t)) + fins_with_edge S t
  fins_more t = let s = sums (λ x. cond (is_fin_of t x.1) 1 0) (edges-no_attribute t) in omega (arith, s)

  not_empty : is_empty u.fins ≡ false
  not_empty = ap is_empty cut

  lone_same : (t : Tag) → loops_alone_at R t ≡ loops_alone_at S t
  lone_same t =
      let s = sums (λ x. cond (is_alone_in t x.1) 1 0) (lone-no_attribute t) in
      let none : cond {A = ℕ} (is_alone_in t old) 1 0 ≡ 0 = end-alone S u E t ∙ ap (λ b. cond {A = ℕ} b (one_if (same_tag u.vertex t)) 0) not_empty in
      omega (arith, s, none)

  -- ---- the loops

  side : Side R g u.body u.vertex u.fins
  side = side-of_end S R well g agree fin_stays u E

  a_start : start_at R a ≡ u.vertex
  a_start = start_of_fin R a a_corner.0 a_corner.1 u.vertex (fin_stays a a_corner.0 a_corner.1 u.vertex a_corner.2)

  c_start : start_at R c ≡ v
  c_start = start_of_fin R c c_corner.0 c_corner.1 v (fin_stays c c_corner.0 c_corner.1 v c_corner.2)

  n_start : start_at R n ≡ v
  n_start = start_of_fin R n m e v n_is

  m_start : start_at R m ≡ u.vertex
  m_start = start_of_fin R m n e u.vertex m_is

  n_end : end_of R n ≡ u.vertex
  n_end = ap (start_at R) (mate_of_fin R n m e v n_is) ∙ m_start

  m_end : end_of R m ≡ v
  m_end = ap (start_at R) (mate_of_fin R m n e u.vertex m_is) ∙ n_start

  fins_are : AreOf R class.Fin all_fins
  fins_are = subst (AreOf R class.Fin) cut side.fins

  fins_body : (k : Tag) → g k ≡ u.body → AllByRecursion (λ t. g k ≡ g t) all_fins
  fins_body k h = subst (λ b. AllByRecursion (λ t. b ≡ g t) all_fins) (sym h) (subst (AllByRecursion (λ t. u.body ≡ g t)) cut side.bodies)

  follow : AllByRecursion (Follows R) (neighbours all_fins)
  follow = subst (λ fs. AllByRecursion (Follows R) (neighbours fs)) cut side.follow

  loop_fresh : LoopIn R g l f (from_least fresh) None
  loop_fresh = loop-of_ring R g l f a fresh (ap (option_map class_of_item) f_is) (g_f ∙ sym g_l) (Contains-first a (ts ++ n ∷ []))
      (first-each a c n m ts us (λ t. class_at R t ≡ Some class.Fin) (ap (option_map class_of_item) n_is) fins_are)
      (first-each a c n m ts us (λ t. g l ≡ g t) (g_l ∙ sym g_n) (fins_body l g_l))
      (first-all a c n m ts us (Follows R) (a_start ∙ sym n_end) (λ p h. n_start ∙ sym c_start ∙ h) follow)

  loop_rest : LoopIn R g u.loop_ u.face (from_least rest) None
  loop_rest = loop-of_ring R g u.loop_ u.face c rest (class_stays u.face class.Face (λ h. cc) (end-face S well g agree u E)) face_body (Contains-first c (us ++ m ∷ []))
      (second-each a c n m ts us (λ t. class_at R t ≡ Some class.Fin) (ap (option_map class_of_item) m_is) fins_are)
      (second-each a c n m ts us (λ t. g u.loop_ ≡ g t) (loop_body ∙ sym g_m) (fins_body u.loop_ loop_body))
      (second-all a c n m ts us (Follows R) (c_start ∙ sym m_end) (λ p h. m_start ∙ sym a_start ∙ h) follow)

  -- ---- all

  outer_stays : (h s o : Tag) (fins : List Tag) (vertex : Option Tag) → item_at S h ≡ Some (Face s o) → item_at S o ≡ Some (Loop h fins vertex) → SoundFace R h o
  outer_stays h s o fins vertex h_is is = ⊎_elim
      (λ (same : o ≡ u.loop_).
      let both : Some (Loop h fins vertex) ≡ Some old = sym is ∙ ap (item_at S) same ∙ E.loop_is in
      let face : h ≡ u.face = cc in
      let x : SoundFace R h o = record { fins = from_least rest; vertex = None; outer_is = ap (item_at R) same ∙ loop_is ∙ ap (λ t. Some (Loop t (from_least rest) None)) (sym face) } in
      x)
      (λ (other : o ≢ u.loop_). let x : SoundFace R h o = record { fins = fins; vertex = vertex; outer_is = loop_stays o h fins vertex is other } in x)
      (same_or_other o u.loop_)

  face_new : FaceOf R g f shell l
  face_new =
      let outer_now : SoundFace R f l = record { fins = from_least fresh; vertex = None; outer_is = l_is } in
      (class_stays shell class.Shell (λ h. cc) (ap (option_map class_of_item) F.shell_is), outer_now, shell_body ∙ sym g_f)

  edge_made : EdgeMade S R g u.body e n m v u.vertex (Some c) (Some a)
  edge_made = record {
    ascends = change.ascends;
    agree = agree;
    stays = stays;
    outside = outside-was change (refl, (refl, (refl, (refl, (refl, (refl, tt))))));
    owner = λ b o name value is k na h. class_stays o k na h;
    each_fin = λ P pn pm before t mate edge vertex is. each-fin change P (tt, (tt, (tt, (pn, (pm, (tt, tt)))))) before t mate edge vertex is;
    each_edge = λ P pe before t body is. each-edge change P (tt, (tt, (pe, (tt, (tt, (tt, tt)))))) before t body is;
    vertex_was = each-vertex change (λ t body point. ((t ≡ u.vertex) × (body ≡ u.body) × AreCoordinates point) ⊎ (item_at S t ≡ Some (Vertex body point)))
        (tt, (tt, (tt, (tt, (tt, (tt, tt)))))) (λ t body point is. inr is);
    face_was = each-face change (λ h s o. FaceOf R g h s o ⊎ (item_at S h ≡ Some (Face s o))) (inl face_new, (tt, (tt, (tt, (tt, (tt, tt)))))) (λ h s o is. inr is);
    outer_stays = outer_stays;
    loop_was = each-loop change (λ k face fins vertex. LoopIn R g k face fins vertex ⊎ (item_at S k ≡ Some (Loop face fins vertex)))
        (tt, (inl loop_fresh, (tt, (tt, (tt, (inl loop_rest, tt)))))) (λ k face fins vertex is. inr is);
    free = (free.1.1.0, free.1.1.1.0, free.1.1.1.1.0);
    n_other = once.1.1.1.0.0;
    u_other = ends;
    e_is = e_is;
    n_is = n_is;
    m_is = m_is;
    b_is = ap (option_map class_of_item) E.body_is;
    u_is = class_stays v class.Vertex (λ h. cc) v_is;
    v_is = class_stays u.vertex class.Vertex (λ h. cc) E.vertex_is;
    b_body = end-body S well g agree u E;
    e_body = g_e;
    n_body = g_n;
    m_body = g_m;
    u_body = let w = vertex_of_class (item_at S v) v_is in agree v _ w.2 ∙ v_body;
    v_body = end-vertex_body S well g agree u E;
    times_more = times_more;
    edges_more = fins_more;
    u_lone = lone_same v ∙ v_alone;
    v_lone = lone_same u.vertex ∙ E.alone ∙ ap (λ b. cond {A = ℕ} b 1 0) not_empty;
    lone_same = λ t nu nv. lone_same t;
    balance = balance;
    u_corner = c_corner;
    v_corner = a_corner;
    u_round = c_round;
    v_round = E.round;
    comes = comes;
    comes_n = comes_n;
    comes_m = comes_m;
    after_m = in_rest m c (parted-after_m a c n m ts us);
    after_n = in_fresh n a (parted-after_n a c n m ts us);
  }

  pub face-parted : IsWell R
  face-parted = edge-well S R g u.body e n m v u.vertex (Some c) (Some a) well edge_made

-- ---- the row

same_list : (face to : Tag) (fins list : List Tag) (vertex after : Option Tag) → Some (Loop face fins vertex) ≡ Some (Loop to list after) → fins ≡ list
same_list face to fins list vertex after h = cc

mef-well : (S : Shape) (tags : List Tag) (f g : Tag) → IsWell S → TagsAscend tags → AllByRecursion (λ t. item_at S t ≡ None) tags → (u v : PlacedFin) → FinIn S f u → FinIn S g v
    → u.loop_ ≡ v.loop_ → u.vertex ≢ v.vertex → 5 ≤ length tags → IsWell (S with
    (tag_at tags 0, Face u.shell (tag_at tags 1)) ∷
    (tag_at tags 1, ring_of (tag_at tags 0) (before g u.fins ++ tag_at tags 3 ∷ [])) ∷
    (tag_at tags 2, Edge u.body) ∷
    (tag_at tags 3, Fin (tag_at tags 4) (tag_at tags 2) v.vertex) ∷
    (tag_at tags 4, Fin (tag_at tags 3) (tag_at tags 2) u.vertex) ∷
    (u.loop_, ring_of u.face (from g u.fins ++ tag_at tags 4 ∷ [])) ∷ [])
mef-well S tags f g well ascend free u v U V one_loop ends enough =
    let new = tag_at tags 0 ∷ tag_at tags 1 ∷ tag_at tags 2 ∷ tag_at tags 3 ∷ tag_at tags 4 ∷ [] in
    let fresh : AllByRecursion (λ t. item_at S t ≡ None) new = (free_at S tags 0 free (omega arith), (free_at S tags 1 free (omega arith), (free_at S tags 2 free (omega arith), (free_at S tags 3 free (omega arith), (free_at S tags 4 free (omega arith), tt))))) in
    let apart = λ (i j : ℕ) (h : i < j) (k : j < 5). apart_at tags i j ascend h (omega (arith, k, enough)) in
    let once : NoRepeats new = (
      (apart 0 1 (omega arith) (omega arith), (apart 0 2 (omega arith) (omega arith), (apart 0 3 (omega arith) (omega arith), (apart 0 4 (omega arith) (omega arith), tt)))),
      (
        (apart 1 2 (omega arith) (omega arith), (apart 1 3 (omega arith) (omega arith), (apart 1 4 (omega arith) (omega arith), tt))),
        ((apart 2 3 (omega arith) (omega arith), (apart 2 4 (omega arith) (omega arith), tt)), ((apart 3 4 (omega arith) (omega arith), tt), (tt, tt))),
      ),
    ) in
    let other : f ≢ g = λ h.
    let both : Some (Fin u.mate u.edge u.vertex) ≡ Some (Fin v.mate v.edge v.vertex) = sym U.fin_is ∙ ap (item_at S) h ∙ V.fin_is in
    ends (cc) in
    let list : V.end.list ≡ U.end.list = same_list v.face u.face V.end.list U.end.list V.end.lone U.end.lone (sym V.end.loop_is ∙ ap (item_at S) (sym one_loop) ∙ U.end.loop_is) in
    let g_first : Contains v.fins g = subst (λ ts. Contains ts g) (sym V.fins_are) (Contains-first g V.rest) in
    let g_in : Contains u.fins g = turned-in U.end.list u.fins U.end.turned g (subst (λ ts. Contains ts g) list (turned-in v.fins V.end.list (turned-back V.end.list v.fins V.end.turned) g g_first)) in
    let cut = cut-at f g U.rest (λ h. other (sym h)) (subst (λ ts. Contains ts g) U.fins_are g_in) in
    let body : v.body ≡ u.body = sym V.end.loop_body ∙ ap (body_of S) (sym one_loop) ∙ U.end.loop_body in
    let face = face_of_class (item_at S u.face) (well.sound.names.kinds u.loop_ _ U.end.loop_is).0.0 in
    let shell_is : face.0 ≡ u.shell = sym (face_in S well u.face face.0 face.1 face.2).shell_of ∙ U.shell_is in
    let first : f ∷ cut.ahead ≡ before g u.fins = sym (ap (before g) U.fins_are ∙ cut.before_is) in
    let second : g ∷ cut.behind ≡ from g u.fins = sym (ap (from g) U.fins_are ∙ cut.from_is) in
    subst IsWell
    (λ i. S with
    (tag_at tags 0, Face (shell_is i) (tag_at tags 1)) ∷
    (tag_at tags 1, ring_of (tag_at tags 0) (first i ++ tag_at tags 3 ∷ [])) ∷
    (tag_at tags 2, Edge u.body) ∷
    (tag_at tags 3, Fin (tag_at tags 4) (tag_at tags 2) v.vertex) ∷
    (tag_at tags 4, Fin (tag_at tags 3) (tag_at tags 2) u.vertex) ∷
    (u.loop_, ring_of u.face (second i ++ tag_at tags 4 ∷ [])) ∷ [])
    (face-parted S well (as_end u) U.end f g v.vertex face.0 face.1 cut.ahead cut.behind (U.fins_are ∙ ap (λ ts. f ∷ ts) cut.is) (u.mate, u.edge, U.fin_is) (v.mate, v.edge, V.fin_is) V.end.round V.end.vertex_is
    (V.end.vertex_body ∙ body) (V.end.alone ∙ ap (λ ts. cond {A = ℕ} (is_empty ts) 1 0) V.fins_are) (λ h. ends (sym h)) face.2
    (tag_at tags 0) (tag_at tags 1) (tag_at tags 2) (tag_at tags 3) (tag_at tags 4) once fresh
    (body_or_new S new u.body) (λ t x is. old-body S new u.body t x fresh is)
    (new-body S new u.body (tag_at tags 0) (0, omega arith, refl)) (new-body S new u.body (tag_at tags 1) (1, omega arith, refl)) (new-body S new u.body (tag_at tags 2) (2, omega arith, refl))
    (new-body S new u.body (tag_at tags 3) (3, omega arith, refl)) (new-body S new u.body (tag_at tags 4) (4, omega arith, refl)))

pub mef-keeps : (S : Shape) (tags : List Tag) (f g : Tag) → IsWell S → TagsAscend tags → AllByRecursion (λ t. item_at S t ≡ None) tags → Keeps tags (mef S f g)
mef-keeps S tags f g well ascend free = keeps-bind tags (fin_at S f) _ (λ u h. keeps-bind tags (fin_at S g) _ (λ v k.
    keeps-after tags (refuse_where (not (same_tag u.loop_ v.loop_)) (NotOneLoop u.loop_ v.loop_)) _ (λ one. keeps-after tags (refuse_where (same_tag u.vertex v.vertex) (SameVertex u.vertex)) _ (λ two enough.
    mef-well S tags f g well ascend free u v (fin-well S well f (item_at S f) refl u h) (fin-well S well g (item_at S g) refl v k)
    (same_means u.loop_ v.loop_ (not-false (same_tag u.loop_ v.loop_) (not_refused _ _ one))) (differs_means u.vertex v.vertex (not_refused _ _ two)) enough))))
