-- Shapes that differ in an edge that was made, and in the loops that it joins or parts.
use Rattle.std.proofs.Common.{◌≡◌, ◌≢◌, ℕ, ◌+◌, ◌⊎◌, inl, inr, ⊎_elim, Bool, true, false, cond, List, [], ◌∷◌, Option, Some, None, refl, sym, ap, subst, ◌∙◌, arith}
use Rattle.std.specs.Prelude.{T, ℤ, pos, ◌+ℤ◌, ◌-ℤ◌, ◌*ℤ◌, option_map, is_some, unwrap_or}
use Rattle.std.specs.List.{AllByRecursion, sum_by}
use Rattle.std.specs.FinMap.{is_sorted}
use Rattle.std.proofs.lemmas.Bool.{true≢false}
use Rattle.std.proofs.lemmas.Int.{ints}
use Rattle.std.proofs.lemmas.Option.{same_Some}
use Rattle.pk_base.specs.Entity.{same_tag}
use Rattle.pk_base.specs.declared.tag.Tag.{Tag}
use Rattle.pk_base.specs.declared.entity.Point.{Point}
use Rattle.pk_base.specs.declared.entity.Name.{Name}
use Rattle.pk_base.specs.declared.entity.Class.{Class}
use Rattle.pk_base.specs.declared.entity.Class.TheVariants as class
use Rattle.pk_model.specs.Maps.{tag_cmp}
use Rattle.solid_model.specs.Items.{Item, Shape, item_at, class_of_item}
use Rattle.solid_model.specs.Items.Item.{Body, Shell, Face, Loop, Fin, Edge, Vertex, Attr}
use Rattle.solid_model.specs.Rings.{neighbours, from_least}
use Rattle.solid_model.specs.Owners.{fins_of, same_class, body_of, number_in_body}
use Rattle.solid_model.specs.Places.{mate_at}
use Rattle.solid_model.specs.Links.{is_fin_of}
use Rattle.solid_model.specs.Sound.{IsMated, AreOf, optional, ComesAfter, GoesRound, MeetsEulerPoincare, NamesItsKind, class_at, times_in_loops, fins_with_edge, is_alone_in, loops_alone_at, is_empty}
use Rattle.list_facts.proofs.Each.{ByRecursion-weaker, ByRecursion-contains, ByRecursion-at}
use Rattle.pk_base.proofs.Same.{same_itself, not_same, same_or_other}
use Rattle.solid_model.proofs.lists.Neighbours.{one_if, times, times-none, neighbours-in}
use Rattle.solid_sound.proofs.shapes.Names.{NotAttr}
use Rattle.solid_sound.proofs.shapes.Numbers.{number-alike, counts_in}
use Rattle.solid_sound.proofs.shapes.Sums.{sum-alike, sum-nothing}
use Rattle.solid_sound.proofs.shapes.Bodies.{LeadsUp, body_of-leads, item_of_class, low_item, agreed-LeadsUp}
use Rattle.solid_sound.proofs.shapes.EachItem.{SoundItem, SoundFace, SoundFin, sound-by_item}
use Rattle.solid_sound.proofs.shapes.Edits.{counts_by}
use Rattle.solid_sound.proofs.edges.Corners.{IsFin, Follows, CornerAt, corner-start, Round, round-made, mate-stays, follow-stays}
use Rattle.solid_sound.proofs.rows.KeptMotions.{AreCoordinates}
use Rattle.solid_sound.proofs.rows.RowKeeps.{IsWell}

-- neither a loop nor an attribute
abbrev pub is_fixed : Item → Bool
is_fixed (Body shell) = true
is_fixed (Shell body q) = true
is_fixed (Face shell outer) = true
is_fixed (Loop face fins vertex) = false
is_fixed (Fin mate edge vertex) = true
is_fixed (Edge body) = true
is_fixed (Vertex body point) = true
is_fixed (Attr owner name value) = false

-- a body, a shell or an attribute
abbrev pub is_outside : Item → Bool
is_outside (Body shell) = true
is_outside (Shell body q) = true
is_outside (Face shell outer) = false
is_outside (Loop face fins vertex) = false
is_outside (Fin mate edge vertex) = false
is_outside (Edge body) = false
is_outside (Vertex body point) = false
is_outside (Attr owner name value) = true

abbrev pub NotLoop : Class → Type 0
NotLoop c = c ≢ class.Loop

fixed_by_class : (x : Item) → NotAttr (class_of_item x) → NotLoop (class_of_item x) → is_fixed x ≡ true
fixed_by_class (Body shell) na nl = refl
fixed_by_class (Shell body q) na nl = refl
fixed_by_class (Face shell outer) na nl = refl
fixed_by_class (Loop face fins vertex) na nl = absurd (nl refl)
fixed_by_class (Fin mate edge vertex) na nl = refl
fixed_by_class (Edge body) na nl = refl
fixed_by_class (Vertex body point) na nl = refl
fixed_by_class (Attr owner name value) na nl = absurd (na refl)

pub fixed-not_attr : (x : Item) → is_fixed x ≡ true → NotAttr (class_of_item x)
fixed-not_attr (Body shell) h = λ k. cc
fixed-not_attr (Shell body q) h = λ k. cc
fixed-not_attr (Face shell outer) h = λ k. cc
fixed-not_attr (Loop face fins vertex) h = λ k. cc
fixed-not_attr (Fin mate edge vertex) h = λ k. cc
fixed-not_attr (Edge body) h = λ k. cc
fixed-not_attr (Vertex body point) h = λ k. cc
fixed-not_attr (Attr owner name value) h = absurd (cc)

pub fixed-other : (S : Shape) (t l face : Tag) (x : Item) (fins : List Tag) (vertex : Option Tag) → item_at S t ≡ Some x → is_fixed x ≡ true → item_at S l ≡ Some (Loop face fins vertex) → t ≢ l
fixed-other S t l face x fins vertex is fixed l_is same =
    let loop : x ≡ Loop face fins vertex = same_Some x (Loop face fins vertex) (sym is ∙ ap (item_at S) same ∙ l_is) in
    true≢false (sym fixed ∙ ap is_fixed loop)

-- what is shown of a loop, where g leads to the body of each item
pub record LoopIn (R : Shape) (g : Tag → Tag) (l face : Tag) (fins : List Tag) (vertex : Option Tag) : Type 0 where
  pub face_is : class_at R face ≡ Some class.Face
  pub face_body : g face ≡ g l
  pub fins_are : AreOf R class.Fin fins
  pub fins_body : AllByRecursion (λ f. g l ≡ g f) fins
  pub vertices : AreOf R class.Vertex (optional vertex)
  pub vertex_body : AllByRecursion (λ w. g w ≡ g l) (optional vertex)
  pub follow : AllByRecursion (Follows R) (neighbours fins)
  pub lone : is_some vertex ≡ is_empty fins
  pub least : from_least fins ≡ fins

-- what is shown of a face
abbrev pub FaceOf : Shape → (Tag → Tag) → Tag → Tag → Tag → Type 0
FaceOf R g f shell outer = (class_at R shell ≡ Some class.Shell) × SoundFace R f outer × (g shell ≡ g f)

-- how many items of the class stand in the body, where g leads to it
abbrev pub made_in : Class → Tag → (Tag → Tag) → Shape → ℕ
made_in c d g R = sum_by (counts_by c d g) R

-- R is S with the edge e of the fins n and m, which start at u and v, in the body b. The corners are
-- j at u and k at v: what came before j now comes before n, and what came before k before m; after
-- m comes j, and after n comes k. g is the body of each item of R.
pub record EdgeMade (S R : Shape) (g : Tag → Tag) (b e n m u v : Tag) (j k : Option Tag) : Type 1 where
  pub ascends : T (is_sorted tag_cmp R)
  pub agree : (t : Tag) (x : Item) → item_at S t ≡ Some x → g t ≡ body_of S t
  -- what was and is
  pub stays : (t : Tag) (x : Item) → item_at S t ≡ Some x → is_fixed x ≡ true → item_at R t ≡ Some x
  pub outside : (t : Tag) (x : Item) → item_at R t ≡ Some x → is_outside x ≡ true → item_at S t ≡ Some x
  pub owner : (a o : Tag) (name : Name) (value : ℤ) → item_at R a ≡ Some (Attr o name value) → (c : Class) → NotAttr c → class_at S o ≡ Some c → class_at R o ≡ Some c
  pub each_fin : (P : Tag → Tag → Tag → Tag → Type 0) → P n m e u → P m n e v → ((t mate edge vertex : Tag) → IsFin S t mate edge vertex → P t mate edge vertex)
      → (t mate edge vertex : Tag) → IsFin R t mate edge vertex → P t mate edge vertex
  pub each_edge : (P : Tag → Tag → Type 0) → P e b → ((t body : Tag) → item_at S t ≡ Some (Edge body) → P t body) → (t body : Tag) → item_at R t ≡ Some (Edge body) → P t body
  pub vertex_was : (t body : Tag) (point : Point) → item_at R t ≡ Some (Vertex body point) → ((t ≡ v) × (body ≡ b) × AreCoordinates point) ⊎ (item_at S t ≡ Some (Vertex body point))
  pub face_was : (f shell outer : Tag) → item_at R f ≡ Some (Face shell outer) → FaceOf R g f shell outer ⊎ (item_at S f ≡ Some (Face shell outer))
  pub outer_stays : (f shell outer : Tag) (fins : List Tag) (vertex : Option Tag) → item_at S f ≡ Some (Face shell outer) → item_at S outer ≡ Some (Loop f fins vertex) → SoundFace R f outer
  pub loop_was : (l face : Tag) (fins : List Tag) (vertex : Option Tag) → item_at R l ≡ Some (Loop face fins vertex) → LoopIn R g l face fins vertex ⊎ (item_at S l ≡ Some (Loop face fins vertex))
  -- what is new
  pub free : (item_at S e ≡ None) × (item_at S n ≡ None) × (item_at S m ≡ None)
  pub n_other : n ≢ m
  pub u_other : u ≢ v
  pub e_is : item_at R e ≡ Some (Edge b)
  pub n_is : IsFin R n m e u
  pub m_is : IsFin R m n e v
  pub b_is : class_at S b ≡ Some class.Body
  pub u_is : class_at R u ≡ Some class.Vertex
  pub v_is : class_at R v ≡ Some class.Vertex
  pub b_body : g b ≡ b
  pub e_body : g e ≡ b
  pub n_body : g n ≡ b
  pub m_body : g m ≡ b
  pub u_body : g u ≡ b
  pub v_body : g v ≡ b
  -- how many there are
  pub times_more : (t : Tag) → times_in_loops R t ≡ (one_if (same_tag n t) + one_if (same_tag m t)) + times_in_loops S t
  pub edges_more : (t : Tag) → fins_with_edge R t ≡ (one_if (same_tag e t) + one_if (same_tag e t)) + fins_with_edge S t
  pub u_lone : loops_alone_at R u ≡ 0
  pub v_lone : loops_alone_at R v ≡ 0
  pub lone_same : (t : Tag) → t ≢ u → t ≢ v → loops_alone_at R t ≡ loops_alone_at S t
  pub balance : (d : Tag) → (made_in class.Vertex d g R + (made_in class.Face d g R + made_in class.Face d g R)) + (number_in_body class.Edge S d + number_in_body class.Loop S d)
      ≡ (number_in_body class.Vertex S d + (number_in_body class.Face S d + number_in_body class.Face S d)) + (made_in class.Edge d g R + made_in class.Loop d g R)
  -- how the fins go round
  pub u_corner : CornerAt S u j
  pub v_corner : CornerAt S v k
  pub u_round : Round S u
  pub v_round : Round S v
  pub comes : (p q : Tag) → ComesAfter S p q → j ≢ Some q → k ≢ Some q → ComesAfter R p q
  pub comes_n : (p q : Tag) → ComesAfter S p q → j ≡ Some q → ComesAfter R p n
  pub comes_m : (p q : Tag) → ComesAfter S p q → k ≡ Some q → ComesAfter R p m
  pub after_m : ComesAfter R m (unwrap_or j n)
  pub after_n : ComesAfter R n (unwrap_or k m)

-- ---- what is not live is named nowhere

module _ (S : Shape) (well : IsWell S) (t : Tag) (free : item_at S t ≡ None) where
  not_live : (c : Class) → class_at S t ≢ Some c
  not_live c h = let both : None ≡ Some c = sym (ap (option_map class_of_item) free) ∙ h in cc

  times_nowhere : (u : Tag) (x : Item) → item_at S u ≡ Some x → times t (fins_of x) ≡ 0
  times_nowhere u (Loop face fins vertex) e = times-none t fins (λ k. not_live class.Fin (ByRecursion-at (λ f. class_at S f ≡ Some class.Fin) fins t (well.sound.names.kinds u (Loop face fins vertex) e).1 k))
  times_nowhere u (Body shell) e = refl
  times_nowhere u (Shell body q) e = refl
  times_nowhere u (Face shell outer) e = refl
  times_nowhere u (Fin mate edge vertex) e = refl
  times_nowhere u (Edge body) e = refl
  times_nowhere u (Vertex body point) e = refl
  times_nowhere u (Attr owner name value) e = refl

  pub free-times : times_in_loops S t ≡ 0
  free-times = sum-nothing (λ x. times t (fins_of x.1)) S well.written.ascends times_nowhere

  edge_nowhere : (u : Tag) (x : Item) → item_at S u ≡ Some x → cond {A = ℕ} (is_fin_of t x) 1 0 ≡ 0
  edge_nowhere u (Fin mate edge vertex) e = ap (λ c. cond {A = ℕ} c 1 0) (not_same edge t (λ same. not_live class.Edge (ap (class_at S) (sym same) ∙ (well.sound.names.kinds u (Fin mate edge vertex) e).1.0)))
  edge_nowhere u (Loop face fins vertex) e = refl
  edge_nowhere u (Body shell) e = refl
  edge_nowhere u (Shell body q) e = refl
  edge_nowhere u (Face shell outer) e = refl
  edge_nowhere u (Edge body) e = refl
  edge_nowhere u (Vertex body point) e = refl
  edge_nowhere u (Attr owner name value) e = refl

  pub free-edges : fins_with_edge S t ≡ 0
  free-edges = sum-nothing (λ x. cond (is_fin_of t x.1) 1 0) S well.written.ascends edge_nowhere

  lone_nowhere : (u : Tag) (x : Item) → item_at S u ≡ Some x → cond {A = ℕ} (is_alone_in t x) 1 0 ≡ 0
  lone_nowhere u (Loop face fins None) e = refl
  lone_nowhere u (Loop face fins (Some w)) e = ap (λ c. cond {A = ℕ} c 1 0) (not_same w t (λ same. not_live class.Vertex (ap (class_at S) (sym same) ∙ (well.sound.names.kinds u (Loop face fins (Some w)) e).2.0)))
  lone_nowhere u (Fin mate edge vertex) e = refl
  lone_nowhere u (Body shell) e = refl
  lone_nowhere u (Shell body q) e = refl
  lone_nowhere u (Face shell outer) e = refl
  lone_nowhere u (Edge body) e = refl
  lone_nowhere u (Vertex body point) e = refl
  lone_nowhere u (Attr owner name value) e = refl

  pub free-lone : loops_alone_at S t ≡ 0
  free-lone = sum-nothing (λ x. cond (is_alone_in t x.1) 1 0) S well.written.ascends lone_nowhere

  pub free-corner : CornerAt S t None
  free-corner f mate edge e = not_live class.Vertex (well.sound.names.kinds f (Fin mate edge t) e).2.0

-- ---- the ten facts

-- the formula holds where vertices, edges, faces and loops grow or shrink in balance
formula_by : (v e f l w i g k : ℕ) (q : ℤ) → (w + (g + g)) + (e + l) ≡ (v + (f + f)) + (i + k)
    → ((pos v -ℤ pos e) +ℤ pos f) -ℤ (pos l -ℤ pos f) ≡ pos 2 *ℤ q → ((pos w -ℤ pos i) +ℤ pos g) -ℤ (pos k -ℤ pos g) ≡ pos 2 *ℤ q
formula_by v e f l w i g k q balance h = omega (arith, ints)

module _ (S R : Shape) (g : Tag → Tag) (b e n m u v : Tag) (j k : Option Tag) (well : IsWell S) (made : EdgeMade S R g b e n m u v j k) where
  class_stays : (c : Class) → NotAttr c → NotLoop c → (t : Tag) → class_at S t ≡ Some c → class_at R t ≡ Some c
  class_stays c na nl t h =
      let x = item_of_class (item_at S t) c h in
      ap (option_map class_of_item) (made.stays t x.0 x.1 (fixed_by_class x.0 (subst NotAttr (sym x.2) na) (subst NotLoop (sym x.2) nl))) ∙ ap Some x.2

  classes_stay : (c : Class) → NotAttr c → NotLoop c → (ts : List Tag) → AreOf S c ts → AreOf R c ts
  classes_stay c na nl ts h = ByRecursion-weaker (λ t. class_at S t ≡ Some c) (λ t. class_at R t ≡ Some c) (class_stays c na nl) ts h

  fin_stays : (t mate edge vertex : Tag) → IsFin S t mate edge vertex → IsFin R t mate edge vertex
  fin_stays t mate edge vertex is = made.stays t (Fin mate edge vertex) is refl

  agreed : LeadsUp S g
  agreed = agreed-LeadsUp S well.written well.sound g made.agree

  agree_class : (t : Tag) (c : Class) → class_at S t ≡ Some c → g t ≡ body_of S t
  agree_class t c h = let x = item_of_class (item_at S t) c h in made.agree t x.0 x.1

  -- ---- loops and faces

  lone_bodies : (l face : Tag) (fins : List Tag) (vertex : Option Tag) → item_at S l ≡ Some (Loop face fins vertex) → AllByRecursion (λ w. g w ≡ g l) (optional vertex)
  lone_bodies l face fins None is = tt
  lone_bodies l face fins (Some w) is = (agree_class w class.Vertex (well.sound.names.kinds l (Loop face fins (Some w)) is).2.0 ∙ well.sound.bodies.lone l face w fins is ∙ sym (made.agree l _ is), tt)

  loop_old : (l face : Tag) (fins : List Tag) (vertex : Option Tag) → item_at S l ≡ Some (Loop face fins vertex) → LoopIn R g l face fins vertex
  loop_old l face fins vertex is =
      let named = well.sound.names.kinds l (Loop face fins vertex) is in
      record {
        face_is = class_stays class.Face (λ h. cc) (λ h. cc) face named.0.0;
        face_body = agreed.loops l face fins vertex is;
        fins_are = classes_stay class.Fin (λ h. cc) (λ h. cc) fins named.1;
        fins_body = ByRecursion-contains (λ f. g l ≡ g f) fins (λ f h. agreed.fins l face fins vertex is f h);
        vertices = classes_stay class.Vertex (λ h. cc) (λ h. cc) (optional vertex) named.2;
        vertex_body = lone_bodies l face fins vertex is;
        follow = follow-stays S R well fin_stays l face fins vertex is;
        lone = well.sound.lone l face fins vertex is;
        least = well.written.loops l face fins vertex is;
      }

  loop_in : (l face : Tag) (fins : List Tag) (vertex : Option Tag) → item_at R l ≡ Some (Loop face fins vertex) → LoopIn R g l face fins vertex
  loop_in l face fins vertex is = ⊎_elim (λ (h : LoopIn R g l face fins vertex). h) (λ (h : item_at S l ≡ Some (Loop face fins vertex)). loop_old l face fins vertex h) (made.loop_was l face fins vertex is)

  face_in : (f shell outer : Tag) → item_at R f ≡ Some (Face shell outer) → FaceOf R g f shell outer
  face_in f shell outer is = ⊎_elim {C = FaceOf R g f shell outer} (λ (h : FaceOf R g f shell outer). h)
      (λ (h : item_at S f ≡ Some (Face shell outer)).
      let o = well.sound.outer f shell outer h in
      (class_stays class.Shell (λ c. cc) (λ c. cc) shell (well.sound.names.kinds f (Face shell outer) h).0.0, made.outer_stays f shell outer o.0 o.1 h o.2, agreed.faces f shell outer h))
      (made.face_was f shell outer is)

  -- ---- names

  b_is : class_at R b ≡ Some class.Body
  b_is = class_stays class.Body (λ h. cc) (λ h. cc) b made.b_is

  class_by : (t : Tag) (x : Item) → item_at R t ≡ Some x → class_at R t ≡ Some (class_of_item x)
  class_by t x is = ap (option_map class_of_item) is

  fin_names : (t mate edge vertex : Tag) → IsFin R t mate edge vertex → NamesItsKind R (Fin mate edge vertex)
  fin_names = made.each_fin (λ t mate edge vertex. NamesItsKind R (Fin mate edge vertex))
      ((class_by m _ made.m_is, tt), (class_by e _ made.e_is, tt), (made.u_is, tt))
      ((class_by n _ made.n_is, tt), (class_by e _ made.e_is, tt), (made.v_is, tt))
      (λ t mate edge vertex is.
      let named = well.sound.names.kinds t (Fin mate edge vertex) is in
      (classes_stay class.Fin (λ h. cc) (λ h. cc) (mate ∷ []) named.0, classes_stay class.Edge (λ h. cc) (λ h. cc) (edge ∷ []) named.1, classes_stay class.Vertex (λ h. cc) (λ h. cc) (vertex ∷ []) named.2))

  kinds : (t : Tag) (x : Item) → item_at R t ≡ Some x → NamesItsKind R x
  kinds t (Body shell) is = classes_stay class.Shell (λ h. cc) (λ h. cc) (shell ∷ []) (well.sound.names.kinds t (Body shell) (made.outside t _ is refl))
  kinds t (Shell body q) is = classes_stay class.Body (λ h. cc) (λ h. cc) (body ∷ []) (well.sound.names.kinds t (Shell body q) (made.outside t _ is refl))
  kinds t (Face shell outer) is = let f = face_in t shell outer is in ((f.0, tt), (class_by outer _ f.1.outer_is, tt))
  kinds t (Loop face fins vertex) is = let l = loop_in t face fins vertex is in ((l.face_is, tt), l.fins_are, l.vertices)
  kinds t (Fin mate edge vertex) is = fin_names t mate edge vertex is
  kinds t (Edge body) is = made.each_edge (λ t body. AreOf R class.Body (body ∷ [])) (b_is, tt)
      (λ t body was. classes_stay class.Body (λ h. cc) (λ h. cc) (body ∷ []) (well.sound.names.kinds t (Edge body) was)) t body is
  kinds t (Vertex body point) is = ⊎_elim {C = AreOf R class.Body (body ∷ [])}
      (λ (h : (t ≡ v) × (body ≡ b) × AreCoordinates point). (ap (class_at R) h.1 ∙ b_is, tt))
      (λ (h : item_at S t ≡ Some (Vertex body point)). classes_stay class.Body (λ c. cc) (λ c. cc) (body ∷ []) (well.sound.names.kinds t (Vertex body point) h))
      (made.vertex_was t body point is)
  kinds t (Attr owner name value) is = tt

  -- ---- fins and edges

  n_times : times_in_loops R n ≡ 1
  n_times =
      let more = made.times_more n in
      let one : one_if (same_tag n n) ≡ 1 = ap one_if (same_itself n) in
      let other : one_if (same_tag m n) ≡ 0 = ap one_if (not_same m n (λ h. made.n_other (sym h))) in
      omega (arith, more, one, other, free-times S well n made.free.1)

  m_times : times_in_loops R m ≡ 1
  m_times =
      let more = made.times_more m in
      let one : one_if (same_tag m m) ≡ 1 = ap one_if (same_itself m) in
      let other : one_if (same_tag n m) ≡ 0 = ap one_if (not_same n m made.n_other) in
      omega (arith, more, one, other, free-times S well m made.free.2)

  live_other : (t w : Tag) (x : Item) → item_at S t ≡ None → item_at S w ≡ Some x → t ≢ w
  live_other t w x none is same = let both : None ≡ Some x = sym none ∙ ap (item_at S) same ∙ is in cc

  placed : (t mate edge vertex : Tag) → IsFin R t mate edge vertex → times_in_loops R t ≡ 1
  placed = made.each_fin (λ t mate edge vertex. times_in_loops R t ≡ 1) n_times m_times (λ t mate edge vertex is.
      let more = made.times_more t in
      let one : one_if (same_tag n t) ≡ 0 = ap one_if (not_same n t (live_other n t _ made.free.1 is)) in
      let other : one_if (same_tag m t) ≡ 0 = ap one_if (not_same m t (live_other m t _ made.free.2 is)) in
      omega (arith, more, one, other, well.sound.placed t mate edge vertex is))

  edges : (t body : Tag) → item_at R t ≡ Some (Edge body) → fins_with_edge R t ≡ 2
  edges = made.each_edge (λ t body. fins_with_edge R t ≡ 2)
      (let more = made.edges_more e in
      let one : one_if (same_tag e e) ≡ 1 = ap one_if (same_itself e) in
      omega (arith, more, one, free-edges S well e made.free.0))
      (λ t body is.
      let more = made.edges_more t in
      let one : one_if (same_tag e t) ≡ 0 = ap one_if (not_same e t (live_other e t _ made.free.0 is)) in
      omega (arith, more, one, well.sound.mates.edges t body is))

  -- ---- bodies

  fin_bodies : (t mate edge vertex : Tag) → IsFin R t mate edge vertex → (g edge ≡ g t) × (g vertex ≡ g t)
  fin_bodies = made.each_fin (λ t mate edge vertex. (g edge ≡ g t) × (g vertex ≡ g t))
      (made.e_body ∙ sym made.n_body, made.u_body ∙ sym made.n_body)
      (made.e_body ∙ sym made.m_body, made.v_body ∙ sym made.m_body)
      (λ t mate edge vertex is.
      let named = well.sound.names.kinds t (Fin mate edge vertex) is in
      let in_body = well.sound.bodies.fins t mate edge vertex is in (
        agree_class edge class.Edge named.1.0 ∙ in_body.0 ∙ sym (made.agree t _ is),
        agree_class vertex class.Vertex named.2.0 ∙ in_body.1 ∙ sym (made.agree t _ is),
      ))

  up : LeadsUp R g
  up = record {
    bodies = λ d shell is. agreed.bodies d shell (made.outside d _ is refl);
    shells = λ s body q is. agreed.shells s body q (made.outside s _ is refl);
    faces = λ f shell outer is. (face_in f shell outer is).2;
    loops = λ l face fins vertex is. (loop_in l face fins vertex is).face_body;
    fins = λ l face fins vertex is f h. ByRecursion-at (λ t. g l ≡ g t) fins f (loop_in l face fins vertex is).fins_body h;
    edges = made.each_edge (λ t body. g body ≡ g t) (made.b_body ∙ sym made.e_body) (λ t body is. agreed.edges t body is);
    vertices = λ t body point is. ⊎_elim {C = g body ≡ g t}
        (λ (h : (t ≡ v) × (body ≡ b) × AreCoordinates point). ap g h.1 ∙ made.b_body ∙ sym made.v_body ∙ ap g (sym h.0))
        (λ (h : item_at S t ≡ Some (Vertex body point)). agreed.vertices t body point h)
        (made.vertex_was t body point is);
  }

  body_at : (t : Tag) (x : Item) → item_at R t ≡ Some x → NotAttr (class_of_item x) → body_of R t ≡ g t
  body_at t x is na = body_of-leads R made.ascends kinds placed g up t x is (low_item x na)

  body_of_class : (t : Tag) (c : Class) → NotAttr c → class_at R t ≡ Some c → body_of R t ≡ g t
  body_of_class t c na h = let x = item_of_class (item_at R t) c h in body_at t x.0 x.1 (subst NotAttr (sym x.2) na)

  number_by : (d : Tag) (c : Class) → same_class class.Attr c ≡ false → number_in_body c R d ≡ made_in c d g R
  number_by d c na = sum-alike (λ x. counts_in c d (body_of R x.0) x.1) (counts_by c d g) R made.ascends (λ t x is. number-alike c na d (body_of R t) (g t) x (λ other. body_at t x is other))

  formula : (d : Tag) (q : ℤ) → MeetsEulerPoincare S d q → MeetsEulerPoincare R d q
  formula d q h =
      let v = number_by d class.Vertex refl in
      let e = number_by d class.Edge refl in
      let f = number_by d class.Face refl in
      let l = number_by d class.Loop refl in
      (λ i. ((pos (v i) -ℤ pos (e i)) +ℤ pos (f i)) -ℤ (pos (l i) -ℤ pos (f i)))
      ∙ formula_by (number_in_body class.Vertex S d) (number_in_body class.Edge S d) (number_in_body class.Face S d) (number_in_body class.Loop S d)
      (made_in class.Vertex d g R) (made_in class.Edge d g R) (made_in class.Face d g R) (made_in class.Loop d g R) q (made.balance d) h

  loop_bodies : (l : Tag) (vs : List Tag) → AreOf R class.Vertex vs → AllByRecursion (λ w. g w ≡ g l) vs → body_of R l ≡ g l → AllByRecursion (λ w. body_of R w ≡ body_of R l) vs
  loop_bodies l [] named h own = tt
  loop_bodies l (w ∷ ws) named h own = (body_of_class w class.Vertex (λ c. cc) named.0 ∙ h.0 ∙ sym own, loop_bodies l ws named.1 h.1 own)

  -- ---- vertices

  fin_was : (w f mate edge : Tag) → IsFin R f mate edge w → ((f ≡ n) × (w ≡ u)) ⊎ ((f ≡ m) × (w ≡ v)) ⊎ IsFin S f mate edge w
  fin_was w f mate edge is = made.each_fin (λ t mate edge vertex. ((t ≡ n) × (vertex ≡ u)) ⊎ ((t ≡ m) × (vertex ≡ v)) ⊎ IsFin S t mate edge vertex)
      (inl (refl, refl)) (inr (inl (refl, refl))) (λ t mate edge vertex was. inr (inr was)) f mate edge w is

  goes_round : (w : Tag) (h : Round R w) → loops_alone_at R w ≡ cond (is_empty h.fins) 1 0 → GoesRound R w
  goes_round w h lone = record {
    fins = h.fins;
    once = h.once;
    are_all = λ f. (λ c. h.fin f c, λ x. h.all f x.0 x.1 x.2);
    round = h.round;
    lone = lone;
  }

  round_u : GoesRound R u
  round_u =
      let h = round-made S R u n m e j (λ f mate edge is. fin_stays f mate edge u is)
      (λ f mate edge is. ⊎_elim {C = (f ≡ n) ⊎ IsFin S f mate edge u} (λ (l : (f ≡ n) × (u ≡ u)). inl l.0)
      (λ (r : ((f ≡ m) × (u ≡ v)) ⊎ IsFin S f mate edge u). ⊎_elim {C = (f ≡ n) ⊎ IsFin S f mate edge u} (λ (l : (f ≡ m) × (u ≡ v)). absurd (made.u_other l.1)) (λ (l : IsFin S f mate edge u). inr l) r)
      (fin_was u f mate edge is))
      made.n_is made.free.1 made.u_corner
      (λ p q mate edge c is other. made.comes p q c other (λ same. made.u_other (sym (corner-start S v u k q mate edge made.v_corner same is))))
      made.comes_n made.after_m made.u_round in
      goes_round u h.0 (made.u_lone ∙ ap (λ c. cond {A = ℕ} c 1 0) (sym h.1))

  round_v : GoesRound R v
  round_v =
      let h = round-made S R v m n e k (λ f mate edge is. fin_stays f mate edge v is)
      (λ f mate edge is. ⊎_elim {C = (f ≡ m) ⊎ IsFin S f mate edge v} (λ (l : (f ≡ n) × (v ≡ u)). absurd (made.u_other (sym l.1)))
      (λ (r : ((f ≡ m) × (v ≡ v)) ⊎ IsFin S f mate edge v). ⊎_elim {C = (f ≡ m) ⊎ IsFin S f mate edge v} (λ (l : (f ≡ m) × (v ≡ v)). inl l.0) (λ (l : IsFin S f mate edge v). inr l) r)
      (fin_was v f mate edge is))
      made.m_is made.free.2 made.v_corner
      (λ p q mate edge c is other. made.comes p q c (λ same. made.u_other (corner-start S u v j q mate edge made.u_corner same is)) other)
      made.comes_m made.after_n made.v_round in
      goes_round v h.0 (made.v_lone ∙ ap (λ c. cond {A = ℕ} c 1 0) (sym h.1))

  round_other : (w body : Tag) (point : Point) → item_at S w ≡ Some (Vertex body point) → w ≢ u → w ≢ v → GoesRound R w
  round_other w body point is nu nv =
      let h = well.sound.round w body point is in
      record {
        fins = h.fins;
        once = h.once;
        are_all = λ f. (
          λ c. let x = (h.are_all f).0 c in (x.0, x.1, fin_stays f x.0 x.1 w x.2),
          λ x. ⊎_elim (λ (l : (f ≡ n) × (w ≡ u)). absurd (nu l.1))
              (λ (r : ((f ≡ m) × (w ≡ v)) ⊎ IsFin S f x.0 x.1 w). ⊎_elim (λ (l : (f ≡ m) × (w ≡ v)). absurd (nv l.1)) (λ (l : IsFin S f x.0 x.1 w). (h.are_all f).1 (x.0, x.1, l)) r)
              (fin_was w f x.0 x.1 x.2),
        );
        round = ByRecursion-contains (λ y. ComesAfter R (mate_at R y.0) y.1) (neighbours h.fins) (λ y c.
            let both = neighbours-in h.fins y c in
            let f = (h.are_all y.0).0 both.0 in
            let t = (h.are_all y.1).0 both.1 in
            subst (λ p. ComesAfter R p y.1) (sym (mate-stays S R well fin_stays y.0 f.0 f.1 w f.2))
            (made.comes (mate_at S y.0) y.1 (ByRecursion-at (λ z. ComesAfter S (mate_at S z.0) z.1) (neighbours h.fins) y h.round c)
            (λ same. nu (sym (corner-start S u w j y.1 t.0 t.1 made.u_corner same t.2))) (λ same. nv (sym (corner-start S v w k y.1 t.0 t.1 made.v_corner same t.2)))));
        lone = made.lone_same w nu nv ∙ h.lone;
      }

  round : (w body : Tag) (point : Point) → item_at R w ≡ Some (Vertex body point) → GoesRound R w
  round w body point is = ⊎_elim (λ (l : w ≡ u). subst (GoesRound R) (sym l) round_u)
      (λ (nu : w ≢ u). ⊎_elim (λ (l : w ≡ v). subst (GoesRound R) (sym l) round_v)
      (λ (nv : w ≢ v). ⊎_elim (λ (h : (w ≡ v) × (body ≡ b) × AreCoordinates point). absurd (nv h.0))
      (λ (h : item_at S w ≡ Some (Vertex body point)). round_other w body point h nu nv)
      (made.vertex_was w body point is))
      (same_or_other w v))
      (same_or_other w u)

  -- ---- all

  sound_fin : (t mate edge vertex : Tag) → IsFin R t mate edge vertex → SoundFin R t mate edge vertex
  sound_fin t mate edge vertex is =
      let named = fin_names t mate edge vertex is in
      let in_body = fin_bodies t mate edge vertex is in
      let own = body_at t _ is (λ h. cc) in
      record {
        placed = placed t mate edge vertex is;
        mated = made.each_fin (IsMated R)
            (record { other = λ h. made.n_other (sym h); end = v; mate_is = made.m_is; apart = λ h. made.u_other (sym h) })
            (record { other = made.n_other; end = u; mate_is = made.n_is; apart = made.u_other })
            (λ t mate edge vertex was. let h = well.sound.mates.fins t mate edge vertex was in record { other = h.other; end = h.end; mate_is = fin_stays mate t edge h.end h.mate_is; apart = h.apart })
            t mate edge vertex is;
        edge_body = body_of_class edge class.Edge (λ h. cc) named.1.0 ∙ in_body.0 ∙ sym own;
        vertex_body = body_of_class vertex class.Vertex (λ h. cc) named.2.0 ∙ in_body.1 ∙ sym own;
      }

  each : (t : Tag) (x : Item) → item_at R t ≡ Some x → SoundItem R t x
  each t (Body shell) is =
      let was = made.outside t _ is refl in
      let h = well.sound.names.shells t shell was in
      record {
        has_shell = record { q = h.q; shell_is = made.stays shell _ h.shell_is refl; face = h.face; outer = h.outer; face_is = made.stays h.face _ h.face_is refl };
        formula = λ q shell_is. formula t q (well.sound.measure.formula t shell q was (made.outside shell _ shell_is refl));
      }
  each t (Shell body q) is = made.stays body _ (well.sound.names.bodies t body q (made.outside t _ is refl)) refl
  each t (Face shell outer) is = (face_in t shell outer is).1
  each t (Loop face fins vertex) is =
      let l = loop_in t face fins vertex is in
      record { follow = l.follow; lone = l.lone; body = loop_bodies t (optional vertex) l.vertices l.vertex_body (body_at t _ is (λ h. cc)) }
  each t (Fin mate edge vertex) is = sound_fin t mate edge vertex is
  each t (Edge body) is = edges t body is
  each t (Vertex body point) is = (
    round t body point is,
    ⊎_elim (λ (h : (t ≡ v) × (body ≡ b) × AreCoordinates point). h.2) (λ (h : item_at S t ≡ Some (Vertex body point)). well.sound.measure.points t body point h) (made.vertex_was t body point is),
  )
  each t (Attr owner name value) is =
      let h = well.sound.attributes.owned t owner name value (made.outside t _ is refl) in
      (h.0, made.owner t owner name value is h.0 h.2 h.1, h.2)

  pub edge-well : IsWell R
  edge-well = record {
    written = record { ascends = made.ascends; loops = λ l face fins vertex is. (loop_in l face fins vertex is).least };
    sound = sound-by_item R kinds each (λ t w o name x y h c. well.sound.attributes.one t w o name x y (made.outside t _ h refl) (made.outside w _ c refl));
  }
