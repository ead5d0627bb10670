-- The row kef keeps soundness.
use Rattle.std.proofs.Common.{◌≡◌, ◌≢◌, ℕ, ◌+◌, inl, inr, ⊎_elim, false, cond, List, [], ◌∷◌, ◌++◌, drop, Option, Some, None, refl, sym, ap, subst, ◌∙◌, arith}
use Rattle.std.specs.Prelude.{option_map, Contains}
use Rattle.std.specs.List.{sum_by}
use Rattle.std.proofs.lemmas.List.Elements.{Contains-append_cases}
use Rattle.std.proofs.lemmas.Option.{same_Some}
use Rattle.pk_base.specs.Entity.{same_tag}
use Rattle.pk_base.specs.declared.refusal.Refusal.TheVariants.{OneLoop, HasRings}
use Rattle.pk_base.specs.declared.tag.Tag.{Tag}
use Rattle.pk_base.specs.declared.entity.Class.{Class}
use Rattle.pk_base.specs.declared.entity.Class.TheVariants as class
use Rattle.list_facts.proofs.Each.{ByRecursion-at}
use Rattle.solid_model.specs.Items.{Item, Shape, item_at, class_of_item, ◌with◌}
use Rattle.solid_model.specs.Items.Item.{Body, Face, Loop, Fin, Edge}
use Rattle.solid_model.specs.Rings.{neighbours, neighbours_from, from_least, last_of, ring_of, written_from}
use Rattle.solid_model.specs.Owners.{fins_of, owner_in, body_of, has_rings, parts_of_class, same_class}
use Rattle.solid_model.specs.Deaths.{◌without◌}
use Rattle.solid_model.specs.Rows.{refuse_where}
use Rattle.solid_model.specs.Places.{PlacedFin, fin_at, fins_at, start_at}
use Rattle.solid_model.specs.Links.{is_fin_of}
use Rattle.solid_model.specs.Kef.{kef}
use Rattle.solid_model.specs.Sound.{ComesAfter, AreOf, class_at, is_alone_in, loops_alone_at, optional}
use Rattle.list_facts.proofs.Elements.{Contains-first, Contains-later, Contains-only}
use Rattle.pk_model.proofs.TagLists.{NoneOf}
use Rattle.pk_base.proofs.Same.{not_same, differs_means, same_or_other}
use Rattle.solid_model.proofs.lists.Neighbours.{times, times-cons, one_if, neighbours-in, times-append}
use Rattle.solid_model.proofs.lists.Cycles.{Pair, steps, step_or_last, step-in, last-in, after_first, before_first, from_least-again, times-least, least-in, least-neighbours, neighbours-least, is_empty-least, first-ring, last-ring, step-ring, ring-step, merge-first, merge-second, merge-cases}
use Rattle.solid_sound.proofs.shapes.Lookups.{Items, tags_in}
use Rattle.solid_sound.proofs.shapes.Names.{NotAttr}
use Rattle.solid_sound.proofs.shapes.Numbers.{counts_in}
use Rattle.solid_sound.proofs.shapes.Sums.{Weight}
use Rattle.solid_sound.proofs.shapes.Attributes.{CountsNoAttribute, fins-no_attribute, edges-no_attribute, lone-no_attribute, numbers-no_attribute}
use Rattle.solid_sound.proofs.shapes.Edits.{Edits, edits, edits-class, edits-was, edits-attributes, KeepsClasses, class_apart, Before, StoodIn, counted, edits-sums}
use Rattle.solid_sound.proofs.shapes.Bodies.{LeadsUp, leads_up}
use Rattle.solid_sound.proofs.shapes.EachItem.{SoundFace}
use Rattle.solid_sound.proofs.edges.EdgeDeaths.{number_by, formula-counted, Follows, LoopLeft, EdgeDies, core-not, edge_of_class, edge_dies-well, mates-apart, ends-apart, mate_of_n, starts_n, after-starts}
use Rattle.solid_sound.proofs.shapes.FinRings.{RingOf, asked_fin, ring_with, in-ring, ring-times, ring_owner, ring_fins, ring_face, one_loop, ring_fin, ring_body, ring-after, after-ring, before-ring, same-ring, nowhere_alone, loop-left, loop_as}
use Rattle.solid_sound.proofs.rows.KeptRings.{face_of_class, face_in}
use Rattle.solid_sound.proofs.rows.KeptKfmrh.{no_two, loop_among_parts}
use Rattle.solid_sound.proofs.rows.RowKeeps.{IsWell, Keeps, keeps-after, keeps-bind, not_refused}

-- ---- the row

-- The fin n starts at u, in the loop lx of the face fx, which is n p P. Its mate m starts at v, in the loop ly of the
-- face fy, which is m q Q. The face fx has no other loop.
module _ (S : Shape) (well : IsWell S) (n m e u v lx fx ly fy p q : Tag) (ringx ringy P Q : List Tag) (n_is : item_at S n ≡ Some (Fin m e u)) (m_is : item_at S m ≡ Some (Fin n e v))
    (rx : RingOf S n lx fx ringx (p ∷ P)) (ry : RingOf S m ly fy ringy (q ∷ Q)) (two : lx ≢ ly)
    (only : (k : Tag) (fs : List Tag) (o : Option Tag) → item_at S k ≡ Some (Loop fx fs o) → k ≡ lx) where
  abbrev N : List Tag
  N = (p ∷ P) ++ q ∷ Q

  abbrev new : Item
  new = Loop fy (from_least N) None

  abbrev xs : Items
  xs = (ly, new) ∷ []

  abbrev killed : List Tag
  killed = lx ∷ fx ∷ n ∷ m ∷ e ∷ []

  n_class : class_at S n ≡ Some class.Fin
  n_class = ap (option_map class_of_item) n_is

  m_class : class_at S m ≡ Some class.Fin
  m_class = ap (option_map class_of_item) m_is

  e_class : class_at S e ≡ Some class.Edge
  e_class = (well.sound.names.kinds n _ n_is).1.0

  lx_class : class_at S lx ≡ Some class.Loop
  lx_class = ap (option_map class_of_item) rx.loop_is

  ly_class : class_at S ly ≡ Some class.Loop
  ly_class = ap (option_map class_of_item) ry.loop_is

  fx_class : class_at S fx ≡ Some class.Face
  fx_class = (well.sound.names.kinds lx _ rx.loop_is).0.0

  fy_class : class_at S fy ≡ Some class.Face
  fy_class = (well.sound.names.kinds ly _ ry.loop_is).0.0

  abbrev X : (shell : Tag) × (outer : Tag) × (item_at S fx ≡ Some (Face shell outer))
  X = face_of_class (item_at S fx) fx_class

  abbrev Y : (shell : Tag) × (outer : Tag) × (item_at S fy ≡ Some (Face shell outer))
  Y = face_of_class (item_at S fy) fy_class

  abbrev E : (body : Tag) × (item_at S e ≡ Some (Edge body))
  E = edge_of_class (item_at S e) e_class

  abbrev up : LeadsUp S (body_of S)
  up = leads_up S well.written well.sound

  -- what is no loop, face, fin or edge lives on
  lives : (t : Tag) (c : Class) → class_at S t ≡ Some c → c ≢ class.Loop → c ≢ class.Face → c ≢ class.Fin → c ≢ class.Edge → NoneOf t killed
  lives t c h loop face fin edge = (class_apart S t lx c class.Loop h lx_class loop, (class_apart S t fx c class.Face h fx_class face, (class_apart S t n c class.Fin h n_class fin, (class_apart S t m c class.Fin h m_class fin, (class_apart S t e c class.Edge h e_class edge, tt)))))

  face_lives : (t : Tag) → class_at S t ≡ Some class.Face → t ≢ fx → NoneOf t killed
  face_lives t h other = (class_apart S t lx _ _ h lx_class (λ k. cc), (other, (class_apart S t n _ _ h n_class (λ k. cc), (class_apart S t m _ _ h m_class (λ k. cc), (class_apart S t e _ _ h e_class (λ k. cc), tt)))))

  fin_lives : (t : Tag) → class_at S t ≡ Some class.Fin → t ≢ n → t ≢ m → NoneOf t killed
  fin_lives t h tn tm = (class_apart S t lx _ _ h lx_class (λ k. cc), (class_apart S t fx _ _ h fx_class (λ k. cc), (tn, (tm, (class_apart S t e _ _ h e_class (λ k. cc), tt)))))

  edge_lives : (t : Tag) → class_at S t ≡ Some class.Edge → t ≢ e → NoneOf t killed
  edge_lives t h te = (class_apart S t lx _ _ h lx_class (λ k. cc), (class_apart S t fx _ _ h fx_class (λ k. cc), (class_apart S t n _ _ h n_class (λ k. cc), (class_apart S t m _ _ h m_class (λ k. cc), (te, tt)))))

  loop_lives : (t : Tag) → class_at S t ≡ Some class.Loop → t ≢ lx → NoneOf t killed
  loop_lives t h other = (other, (class_apart S t fx _ _ h fx_class (λ k. cc), (class_apart S t n _ _ h n_class (λ k. cc), (class_apart S t m _ _ h m_class (λ k. cc), (class_apart S t e _ _ h e_class (λ k. cc), tt)))))

  not_ly : (t : Tag) (c : Class) → class_at S t ≡ Some c → c ≢ class.Loop → NoneOf t (tags_in xs)
  not_ly t c h loop = (class_apart S t ly c class.Loop h ly_class loop, tt)

  pub kef_edits : Edits S (S with xs without killed) xs killed
  kef_edits = edits S xs killed well.written.ascends (tt, tt) (
    (class_apart S lx fx _ _ lx_class fx_class (λ k. cc), (class_apart S lx n _ _ lx_class n_class (λ k. cc), (class_apart S lx m _ _ lx_class m_class (λ k. cc), (class_apart S lx e _ _ lx_class e_class (λ k. cc), tt)))),
    (
      (class_apart S fx n _ _ fx_class n_class (λ k. cc), (class_apart S fx m _ _ fx_class m_class (λ k. cc), (class_apart S fx e _ _ fx_class e_class (λ k. cc), tt))),
      (
        ((λ k. mates-apart S well n m e u v n_is m_is (sym k)), (class_apart S n e _ _ n_class e_class (λ k. cc), tt)),
        ((class_apart S m e _ _ m_class e_class (λ k. cc), tt), (tt, tt)),
      ),
    ),
  )
      ((two, tt), (not_ly fx _ fx_class (λ k. cc), (not_ly n _ n_class (λ k. cc), (not_ly m _ m_class (λ k. cc), (not_ly e _ e_class (λ k. cc), tt)))))
      ((λ k. cc), tt)

  -- the loop stays a loop
  keeps_classes : KeepsClasses S xs
  keeps_classes = (λ c h. same_Some class.Loop c (sym ly_class ∙ h), tt)

  faces_apart : fy ≢ fx
  faces_apart h = two (sym (only ly ringy None (ry.loop_is ∙ ap (λ t. Some (Loop t ringy None)) h)))

  -- what stood under the tags that are written or killed
  abbrev stood_before : Before
  stood_before = (ly, Some (Loop fy ringy None)) ∷ (lx, Some (Loop fx ringx None)) ∷ (fx, Some (Face X.0 X.1)) ∷ (n, Some (Fin m e u)) ∷ (m, Some (Fin n e v)) ∷ (e, Some (Edge E.0)) ∷ []

  stood : StoodIn S stood_before
  stood = (ry.loop_is, (rx.loop_is, (X.2, (n_is, (m_is, (E.1, tt))))))

  -- ---- the two loops

  has_n : Contains ringx n
  has_n = rx.among

  has_m : Contains ringy m
  has_m = ry.among

  x_in : (t : Tag) → Contains (p ∷ P) t → Contains ringx t
  x_in t k = in-ring S well n lx fx ringx (p ∷ P) rx t (Contains-later n (p ∷ P) t k)

  y_in : (t : Tag) → Contains (q ∷ Q) t → Contains ringy t
  y_in t k = in-ring S well m ly fy ringy (q ∷ Q) ry t (Contains-later m (q ∷ Q) t k)

  -- no fin stands in both
  not_both : (t : Tag) → Contains ringx t → Contains ringy t → ⊥
  not_both t j k = two (one_loop S well m ly fy ringy (q ∷ Q) ry lx fx ringx None rx.loop_is t j k)

  not_n : (t : Tag) → Contains N t → t ≢ n
  not_n t k same = ⊎_elim
      (λ (l : Contains (p ∷ P) t). ByRecursion-at (λ x. n ≢ x) (p ∷ P) t rx.once.0 l (sym same))
      (λ (r : Contains (q ∷ Q) t). not_both t (subst (Contains ringx) (sym same) has_n) (y_in t r))
      (Contains-append_cases (p ∷ P) (q ∷ Q) t k)

  not_m : (t : Tag) → Contains N t → t ≢ m
  not_m t k same = ⊎_elim
      (λ (l : Contains (p ∷ P) t). not_both t (x_in t l) (subst (Contains ringy) (sym same) has_m))
      (λ (r : Contains (q ∷ Q) t). ByRecursion-at (λ x. m ≢ x) (q ∷ Q) t ry.once.0 r (sym same))
      (Contains-append_cases (p ∷ P) (q ∷ Q) t k)

  -- all that dies is of one body
  e_body : body_of S e ≡ body_of S m
  e_body = (well.sound.bodies.fins m n e v m_is).0

  ly_body : body_of S ly ≡ body_of S m
  ly_body = ring_body S well m ly fy ringy (q ∷ Q) ry m has_m

  lx_body : body_of S lx ≡ body_of S m
  lx_body = ring_body S well n lx fx ringx (p ∷ P) rx n has_n ∙ sym (well.sound.bodies.fins n m e u n_is).0 ∙ e_body

  fx_body : body_of S fx ≡ body_of S m
  fx_body = up.loops lx fx ringx None rx.loop_is ∙ lx_body

  fy_body : body_of S fy ≡ body_of S m
  fy_body = up.loops ly fy ringy None ry.loop_is ∙ ly_body

  same_shell : Y.0 ≡ X.0
  same_shell =
      let F = face_in S well fx X.0 X.1 X.2 in
      let G = face_in S well fy Y.0 Y.1 Y.2 in
      let bodies : Some (Body Y.0) ≡ Some (Body X.0) = sym G.body_is ∙ ap (item_at S) (sym G.face_body ∙ fy_body ∙ sym fx_body ∙ F.face_body) ∙ F.body_is in
      cc

  module _ (R : Shape) (ed : Edits S R xs killed) where
    sums : (w : Weight) → CountsNoAttribute w → sum_by w R + sum_by (counted w) stood_before ≡ sum_by w xs + sum_by w S
    sums = edits-sums ed stood_before stood refl

    class_stays : (t : Tag) (c : Class) → NotAttr c → class_at S t ≡ Some c → NoneOf t killed → class_at R t ≡ Some c
    class_stays t c na h live = edits-class ed keeps_classes t c na live h

    was : (t : Tag) (x : Item) → item_at R t ≡ Some x → class_of_item x ≢ class.Loop → item_at S t ≡ Some x
    was t x h other = edits-was ed class.Loop (refl, tt) t x h other

    vertex_stays : (t : Tag) → class_at S t ≡ Some class.Vertex → class_at R t ≡ Some class.Vertex
    vertex_stays t h = class_stays t class.Vertex (λ k. cc) h (lives t class.Vertex h (λ k. cc) (λ k. cc) (λ k. cc) (λ k. cc))

    ly_now : item_at R ly ≡ Some new
    ly_now = ed.news ly new (Contains-first (ly, new) [])

    -- what holds of the loop written and of those that were holds of all
    each_loop : (P : Tag → Tag → List Tag → Option Tag → Type 0) → P ly fy (from_least N) None
        → ((k h : Tag) (fins : List Tag) (vertex : Option Tag) → k ≢ lx → k ≢ ly → item_at S k ≡ Some (Loop h fins vertex) → P k h fins vertex)
        → (k h : Tag) (fins : List Tag) (vertex : Option Tag) → item_at R k ≡ Some (Loop h fins vertex) → P k h fins vertex
    each_loop P at_ly old k h fins vertex is = ⊎_elim
        (λ (c : Contains xs (k, Loop h fins vertex)).
        let same = Contains-only (ly, new) (k, Loop h fins vertex) c in
        loop_as P ly k fy h (from_least N) fins None vertex (sym (ap (λ (x : Tag × Item). x.0) same)) (ap (λ (x : Tag × Item). x.1) same) at_ly)
        (λ (c : (item_at S k ≡ Some (Loop h fins vertex)) × NoneOf k (tags_in xs)). old k h fins vertex (ed.alive k _ is).0 c.1.0 c.0)
        (ed.was k _ is)

    loop_stays : (k h : Tag) (fins : List Tag) (vertex : Option Tag) → item_at S k ≡ Some (Loop h fins vertex) → k ≢ lx → k ≢ ly → item_at R k ≡ Some (Loop h fins vertex)
    loop_stays k h fins vertex is kx ky = ed.stays k _ is (λ j. cc) (ky, tt) (loop_lives k (ap (option_map class_of_item) is) kx)

    comes_after : (a b : Tag) → Contains (neighbours N) (a, b) → ComesAfter R a b
    comes_after a b k = record { loop_ = ly; face = fy; fins = from_least N; vertex = None; loop_is = ly_now; among = neighbours-least N (a, b) k }

    -- the loop ly is now p P q Q
    new_left : LoopLeft S R n m (body_of S) ly fy (from_least N) None
    new_left = record {
      face_is = class_stays fy class.Face (λ k. cc) fy_class (face_lives fy fy_class faces_apart);
      fins_are = λ f k. let j = least-in f N k in (
        ⊎_elim {C = class_at S f ≡ Some class.Fin}
            (λ (l : Contains (p ∷ P) f). ring_fin S well n lx fx ringx (p ∷ P) rx f (x_in f l))
            (λ (r : Contains (q ∷ Q) f). ring_fin S well m ly fy ringy (q ∷ Q) ry f (y_in f r))
            (Contains-append_cases (p ∷ P) (q ∷ Q) f j),
        not_n f j,
        not_m f j,
      );
      lone_is = tt;
      lone = sym (is_empty-least N);
      follows = λ a b k. ⊎_elim {C = Follows S n m a b}
          (λ (j : Contains (neighbours_from q p P) (a, b)). ⊎_elim {C = Follows S n m a b}
          (λ (s : Contains (steps p P) (a, b)). inl (ring-after S well n lx fx ringx (p ∷ P) rx a b (step-ring n p P (a, b) s)))
          (λ (s : (last_of p P, q) ≡ (a, b)). inr (inl (
            subst (λ t. ComesAfter S t n) (ap (λ (x : Pair). x.0) s) (ring-after S well n lx fx ringx (p ∷ P) rx (last_of p P) n (last-ring n p P)),
            subst (λ t. ComesAfter S m t) (ap (λ (x : Pair). x.1) s) (ring-after S well m ly fy ringy (q ∷ Q) ry m q (first-ring m q Q)),
          )))
          (step_or_last q p P (a, b) j))
          (λ (j : Contains (neighbours_from p q Q) (a, b)). ⊎_elim {C = Follows S n m a b}
          (λ (s : Contains (steps q Q) (a, b)). inl (ring-after S well m ly fy ringy (q ∷ Q) ry a b (step-ring m q Q (a, b) s)))
          (λ (s : (last_of q Q, p) ≡ (a, b)). inr (inr (
            subst (λ t. ComesAfter S t m) (ap (λ (x : Pair). x.0) s) (ring-after S well m ly fy ringy (q ∷ Q) ry (last_of q Q) m (last-ring m q Q)),
            subst (λ t. ComesAfter S n t) (ap (λ (x : Pair). x.1) s) (ring-after S well n lx fx ringx (p ∷ P) rx n p (first-ring n p P)),
          )))
          (step_or_last p q Q (a, b) j))
          (merge-cases p P q Q (a, b) (least-neighbours N (a, b) k));
      least = from_least-again N;
      face_body = up.loops ly fy ringy None ry.loop_is;
      fin_bodies = λ f k. ⊎_elim {C = body_of S ly ≡ body_of S f}
          (λ (l : Contains (p ∷ P) f). ly_body ∙ sym lx_body ∙ ring_body S well n lx fx ringx (p ∷ P) rx f (x_in f l))
          (λ (r : Contains (q ∷ Q) f). ring_body S well m ly fy ringy (q ∷ Q) ry f (y_in f r))
          (Contains-append_cases (p ∷ P) (q ∷ Q) f (least-in f N k));
      lone_body = tt;
    }

    -- every loop but the two stays
    old_left : (k h : Tag) (fins : List Tag) (vertex : Option Tag) → k ≢ lx → k ≢ ly → item_at S k ≡ Some (Loop h fins vertex) → LoopLeft S R n m (body_of S) k h fins vertex
    old_left k h fins vertex kx ky is = loop-left S R n m (body_of S) well (λ t x j. refl) k h fins vertex is
        (let c = (well.sound.names.kinds k _ is).0.0 in class_stays h class.Face (λ j. cc) c (face_lives h c (λ j. kx (only k fins vertex (is ∙ ap (λ t. Some (Loop t fins vertex)) j)))))
        (lone_live vertex is)
        (λ j. kx (one_loop S well n lx fx ringx (p ∷ P) rx k h fins vertex is n j has_n))
        (λ j. ky (one_loop S well m ly fy ringy (q ∷ Q) ry k h fins vertex is m j has_m))
      where
        lone_live : (o : Option Tag) → item_at S k ≡ Some (Loop h fins o) → AreOf R class.Vertex (optional o)
        lone_live None j = tt
        lone_live (Some c) j = (vertex_stays c (well.sound.names.kinds k _ j).2.0, tt)

    lone_all : (t : Tag) → loops_alone_at R t ≡ loops_alone_at S t
    lone_all t =
        let w = λ (x : Tag × Item). cond {A = ℕ} (is_alone_in t x.1) 1 0 in
        let sum = sums w (lone-no_attribute t) in
        omega (arith, sum)

    -- the two fins are not next to each other
    never_next : ComesAfter S m n → ⊥
    never_next h = not_both m (in-ring S well n lx fx ringx (p ∷ P) rx m (neighbours-in (n ∷ p ∷ P) (m, n) (before-ring S well n lx fx ringx (p ∷ P) rx m n h has_n)).0) has_m

    never_back : ComesAfter S n m → ⊥
    never_back h = not_both m (in-ring S well n lx fx ringx (p ∷ P) rx m (neighbours-in (n ∷ p ∷ P) (n, m) (after-ring S well n lx fx ringx (p ∷ P) rx n m h has_n)).1) has_m

    before_n : (a : Tag) → ComesAfter S a n → a ≡ last_of p P
    before_n a h = before_first n (p ∷ P) a (λ j. ByRecursion-at (λ t. n ≢ t) (p ∷ P) n rx.once.0 j refl) (before-ring S well n lx fx ringx (p ∷ P) rx a n h has_n)

    after_n : (b : Tag) → ComesAfter S n b → b ≡ p
    after_n b h = after_first n (p ∷ P) b (λ j. ByRecursion-at (λ t. n ≢ t) (p ∷ P) n rx.once.0 j refl) (after-ring S well n lx fx ringx (p ∷ P) rx n b h has_n)

    before_m : (a : Tag) → ComesAfter S a m → a ≡ last_of q Q
    before_m a h = before_first m (q ∷ Q) a (λ j. ByRecursion-at (λ t. m ≢ t) (q ∷ Q) m ry.once.0 j refl) (before-ring S well m ly fy ringy (q ∷ Q) ry a m h has_m)

    after_m : (b : Tag) → ComesAfter S m b → b ≡ q
    after_m b h = after_first m (q ∷ Q) b (λ j. ByRecursion-at (λ t. m ≢ t) (q ∷ Q) m ry.once.0 j refl) (after-ring S well m ly fy ringy (q ∷ Q) ry m b h has_m)

    pub kef_dies : EdgeDies S R n m e u v (body_of S)
    kef_dies = record {
      ascends = ed.ascends;
      n_is = n_is;
      m_is = m_is;
      was = was;
      gone = λ t x h. let live = ed.alive t x h in (live.1.1.0, live.1.1.1.0, live.1.1.1.1.0);
      stays = λ t x h core.
          let c = ap (option_map class_of_item) h in
          let not = core-not x core in
          ed.stays t x h not.5 (not_ly t _ c not.1) (lives t _ c not.1 not.0 not.2 not.3);
      fins = λ f mate edge vertex h fn fm. let c = ap (option_map class_of_item) h in ed.stays f _ h (λ k. cc) (not_ly f _ c (λ k. cc)) (fin_lives f c fn fm);
      edges = λ t body h te. let c = ap (option_map class_of_item) h in ed.stays t _ h (λ k. cc) (not_ly t _ c (λ k. cc)) (edge_lives t c te);
      starts = λ f mate edge vertex h. vertex_stays vertex (well.sound.names.kinds f _ (was f _ h (λ k. cc))).2.0;
      agree = λ t x h. refl;
      faces = λ f shell outer h.
          let o = well.sound.outer f shell outer (was f _ h (λ k. cc)) in
          let not_lx : outer ≢ lx = λ same.
          let both : Some (Loop f o.0 o.1) ≡ Some (Loop fx ringx None) = sym o.2 ∙ ap (item_at S) same ∙ rx.loop_is in
          let face_same : f ≡ fx = cc in
          (ed.alive f _ h).1.0 face_same in
          ⊎_elim {C = SoundFace R f outer}
          (λ (same : outer ≡ ly).
          let both : Some (Loop f o.0 o.1) ≡ Some (Loop fy ringy None) = sym o.2 ∙ ap (item_at S) same ∙ ry.loop_is in
          let face_same : fy ≡ f = cc in
          record { fins = from_least N; vertex = None; outer_is = ap (item_at R) same ∙ ly_now ∙ ap (λ t. Some (Loop t (from_least N) None)) face_same })
          (λ (other : outer ≢ ly). record { fins = o.0; vertex = o.1; outer_is = loop_stays outer f o.0 o.1 o.2 not_lx other })
          (same_or_other outer ly);
      loops = each_loop (LoopLeft S R n m (body_of S)) new_left old_left;
      has_face = λ shell body f outer q s_is f_is. ⊎_elim {C = (t : Tag) × (o : Tag) × (item_at R t ≡ Some (Face shell o))}
          (λ (same : f ≡ fx).
          let both : Some (Face shell outer) ≡ Some (Face X.0 X.1) = sym f_is ∙ ap (item_at S) same ∙ X.2 in
          let shell_same : X.0 ≡ shell = cc in
          (fy, Y.1, ed.stays fy _ Y.2 (λ k. cc) (not_ly fy _ fy_class (λ k. cc)) (face_lives fy fy_class faces_apart) ∙ ap (λ t. Some (Face t Y.1)) (same_shell ∙ shell_same)))
          (λ (other : f ≢ fx). let c = ap (option_map class_of_item) f_is in (f, outer, ed.stays f _ f_is (λ k. cc) (not_ly f _ c (λ k. cc)) (face_lives f c other)))
          (same_or_other f fx);
      attributes = edits-attributes ed well.sound.attributes keeps_classes (λ a o name value h. was a _ h (λ k. cc));
      times_same = λ t tn tm.
          let w = λ (x : Tag × Item). times t (fins_of x.1) in
          let sum = sums w (fins-no_attribute t) in
          let whole_x = ring-times S well n lx fx ringx (p ∷ P) rx t in
          let whole_y = ring-times S well m ly fy ringy (q ∷ Q) ry t in
          let no_n : one_if (same_tag n t) ≡ 0 = ap one_if (not_same n t (λ k. tn (sym k))) in
          let no_m : one_if (same_tag m t) ≡ 0 = ap one_if (not_same m t (λ k. tm (sym k))) in
          omega (arith, sum, whole_x, whole_y, no_n, no_m, times-cons t n (p ∷ P), times-cons t m (q ∷ Q), times-append t (p ∷ P) (q ∷ Q), times-least t N);
      edges_same = λ t te.
          let w = λ (x : Tag × Item). cond {A = ℕ} (is_fin_of t x.1) 1 0 in
          let sum = sums w (edges-no_attribute t) in
          let none : cond {A = ℕ} (same_tag e t) 1 0 ≡ 0 = ap (λ c. cond {A = ℕ} c 1 0) (not_same e t (λ k. te (sym k))) in
          omega (arith, sum, none);
      lone_same = λ t tu tv. lone_all t;
      keeps = λ a b h an am bn bm. ⊎_elim {C = ComesAfter R a b}
          (λ (same : h.loop_ ≡ lx). comes_after a b (merge-first p P q Q (a, b) (step-in q p P (a, b) (ring-step n p P a b (same-ring S well n lx fx ringx (p ∷ P) rx a b h same) an bn))))
          (λ (other_x : h.loop_ ≢ lx). ⊎_elim {C = ComesAfter R a b}
          (λ (same : h.loop_ ≡ ly). comes_after a b (merge-second p P q Q (a, b) (step-in p q Q (a, b) (ring-step m q Q a b (same-ring S well m ly fy ringy (q ∷ Q) ry a b h same) am bm))))
          (λ (other_y : h.loop_ ≢ ly). record { loop_ = h.loop_; face = h.face; fins = h.fins; vertex = h.vertex; loop_is = loop_stays h.loop_ h.face h.fins h.vertex h.loop_is other_x other_y; among = h.among })
          (same_or_other h.loop_ ly))
          (same_or_other h.loop_ lx);
      at_u = record {
        join = λ a b h k an am bn bm. comes_after a b (subst (λ (x : Pair). Contains (neighbours N) x) (λ i. (sym (before_n a h) i, sym (after_m b k) i)) (merge-first p P q Q (last_of p P, q) (last-in q p P)));
        alone = λ h. absurd (never_next h);
        not_alone = λ b h bn. lone_all u ∙ nowhere_alone S well n m e u n_is;
      };
      at_v = λ there. record {
        join = λ a b h k am an bm bn. comes_after a b (subst (λ (x : Pair). Contains (neighbours N) x) (λ i. (sym (before_m a h) i, sym (after_n b k) i)) (merge-second p P q Q (last_of q Q, p) (last-in p q Q)));
        alone = λ h. absurd (never_back h);
        not_alone = λ b h bm. lone_all v ∙ nowhere_alone S well m n e v m_is;
      };
      formula = λ b shell q b_is s_is numbers.
          let g = body_of S in
          let one = cond {A = ℕ} (same_tag (body_of S m) b) 1 0 in
          let at_one : (t : Tag) → body_of S t ≡ body_of S m → cond {A = ℕ} (same_tag (body_of S t) b) 1 0 ≡ one = λ t same. ap (λ k. cond {A = ℕ} (same_tag k b) 1 0) same in
          let w = λ (c : Class) (x : Tag × Item). counts_in c b (g x.0) x.1 in
          let sum = λ (c : Class) (na : same_class class.Attr c ≡ false). sums (w c) (numbers-no_attribute c na b g) in
          let vertices : number_by g b class.Vertex R ≡ number_by g b class.Vertex S =
          let v = w class.Vertex in omega (arith, sum class.Vertex refl) in
          let edges : number_by g b class.Edge R + one ≡ number_by g b class.Edge S =
          let v = w class.Edge in omega (arith, sum class.Edge refl, at_one e e_body) in
          let faces : number_by g b class.Face R + one ≡ number_by g b class.Face S =
          let v = w class.Face in omega (arith, sum class.Face refl, at_one fx fx_body) in
          let loops : number_by g b class.Loop R + one ≡ number_by g b class.Loop S =
          let v = w class.Loop in omega (arith, sum class.Loop refl, at_one lx lx_body) in
          formula-counted S R g b q numbers (omega (arith, vertices, edges, faces, loops));
    }

    -- the shape that kef leaves is sound
    pub kef-well : IsWell R
    kef-well = edge_dies-well S R n m e u v (body_of S) well kef_dies

-- a loop with a fin has another
ring-more : (S : Shape) → IsWell S → (n m e u v l face : Tag) (ring rest : List Tag) → item_at S n ≡ Some (Fin m e u) → item_at S m ≡ Some (Fin n e v) → RingOf S n l face ring rest
    → (p : Tag) × (rest ≡ p ∷ drop 1 rest)
ring-more S well n m e u v l face ring [] n_is m_is r =
    let turns = after-starts S well n n (ring-after S well n l face ring [] r n n (Contains-first (n, n) [])) in
    absurd (ends-apart S well n m e u v n_is m_is (sym (ap (λ t. start_at S t) (mate_of_n S well n m e u v n_is m_is) ∙ starts_n S well m n e v u m_is n_is) ∙ sym turns ∙ starts_n S well n m e u v n_is m_is))
ring-more S well n m e u v l face ring (p ∷ rest) n_is m_is r = (p, refl)

pub kef-keeps : (S : Shape) (tags : List Tag) (f : Tag) → IsWell S → Keeps tags (kef S f)
kef-keeps S tags f well = keeps-bind tags (fin_at S f) _ (λ a h. keeps-bind tags (fin_at S a.mate) _ (λ b k.
    keeps-after tags (refuse_where (same_tag a.loop_ b.loop_) (OneLoop a.loop_)) _ (λ two. keeps-after tags (refuse_where (has_rings S a.face) (HasRings a.face)) _ (λ rings.
    let x = asked_fin S f (item_at S f) a h in
    let y = asked_fin S a.mate (item_at S a.mate) b k in
    let m = x.0 in
    let mated = well.sound.mates.fins f x.0 x.1 x.2 x.3 in
    let m_same : m ≡ a.mate = ap (λ (q : PlacedFin). q.mate) x.4 in
    let rx = ring_with S well f x.0 x.1 x.2 x.3 in
    let ry = ring_with S well m f x.1 mated.end mated.mate_is in
    let restx = drop 1 (written_from f rx.2) in
    let resty = drop 1 (written_from m ry.2) in
    let P = ring-more S well f m x.1 x.2 mated.end rx.0 rx.1 rx.2 restx x.3 mated.mate_is rx.3 in
    let Q = ring-more S well m f x.1 mated.end x.2 ry.0 ry.1 ry.2 resty mated.mate_is x.3 ry.3 in
    let X = subst (RingOf S f rx.0 rx.1 rx.2) P.1 rx.3 in
    let Y = subst (RingOf S m ry.0 ry.1 ry.2) Q.1 ry.3 in
    let fins_x : f ∷ restx ≡ a.fins = sym (ring_fins S well f rx.0 rx.1 rx.2 restx rx.3) ∙ ap (λ (q : PlacedFin). q.fins) x.4 in
    let fins_y : m ∷ resty ≡ b.fins = sym (ring_fins S well m ry.0 ry.1 ry.2 resty ry.3) ∙ ap (λ t. written_from t (fins_at S (owner_in S t))) m_same ∙ ap (λ (q : PlacedFin). q.fins) y.4 in
    let loop_x : rx.0 ≡ a.loop_ = sym (ring_owner S well f rx.0 rx.1 rx.2 restx rx.3 f rx.3.among) ∙ ap (λ (q : PlacedFin). q.loop_) x.4 in
    let loop_y : ry.0 ≡ b.loop_ = sym (ring_owner S well m ry.0 ry.1 ry.2 resty ry.3 m ry.3.among) ∙ ap (owner_in S) m_same ∙ ap (λ (q : PlacedFin). q.loop_) y.4 in
    let face_x : rx.1 ≡ a.face = sym (ring_face S well f rx.0 rx.1 rx.2 restx rx.3) ∙ ap (λ (q : PlacedFin). q.face) x.4 in
    let face_y : ry.1 ≡ b.face = sym (ring_face S well m ry.0 ry.1 ry.2 resty ry.3) ∙ ap (λ t. owner_in S (owner_in S t)) m_same ∙ ap (λ (q : PlacedFin). q.face) y.4 in
    let edge_same : x.1 ≡ a.edge = ap (λ (q : PlacedFin). q.edge) x.4 in
    let loops_apart : rx.0 ≢ ry.0 = λ same. differs_means a.loop_ b.loop_ (not_refused _ _ two) (sym loop_x ∙ same ∙ loop_y) in
    let few : has_rings S rx.1 ≡ false = ap (has_rings S) face_x ∙ not_refused _ _ rings in
    let only : (t : Tag) (fs : List Tag) (o : Option Tag) → item_at S t ≡ Some (Loop rx.1 fs o) → t ≡ rx.0 =
    λ t fs o is. no_two (parts_of_class class.Loop S rx.1) t rx.0 few (loop_among_parts S t rx.1 fs o is) (loop_among_parts S rx.0 rx.1 rx.2 None rx.3.loop_is) in
    let new_same : ring_of ry.1 ((P.0 ∷ drop 1 restx) ++ Q.0 ∷ drop 1 resty) ≡ ring_of b.face (drop 1 a.fins ++ drop 1 b.fins) =
    (λ i. ring_of (face_y i) (sym P.1 i ++ sym Q.1 i)) ∙ (λ i. ring_of b.face (drop 1 (fins_x i) ++ drop 1 (fins_y i))) in
    subst IsWell (λ i. S with (loop_y i, new_same i) ∷ [] without loop_x i ∷ face_x i ∷ f ∷ m_same i ∷ edge_same i ∷ [])
    (kef-well S well f m x.1 x.2 mated.end rx.0 rx.1 ry.0 ry.1 P.0 Q.0 rx.2 ry.2 (drop 1 restx) (drop 1 resty) x.3 mated.mate_is X Y loops_apart only _
    (kef_edits S well f m x.1 x.2 mated.end rx.0 rx.1 ry.0 ry.1 P.0 Q.0 rx.2 ry.2 (drop 1 restx) (drop 1 resty) x.3 mated.mate_is X Y loops_apart only))))))
