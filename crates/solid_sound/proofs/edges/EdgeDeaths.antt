-- An edge dies with its two fins: what came before each of them now comes before what came after the other. The rest
-- stays sound.
use Rattle.std.proofs.Common.{◌≡◌, ◌≢◌, ℕ, ◌⊎◌, inl, inr, ⊎_elim, Bool, true, false, cond, List, [], ◌∷◌, drop, Option, Some, None, refl, sym, ap, subst, ◌∙◌, arith, ◌+◌}
use Rattle.std.specs.Prelude.{T, ℤ, pos, ◌+ℤ◌, ◌-ℤ◌, ◌*ℤ◌, option_map, is_some, Contains}
use Rattle.std.specs.Option.{option_map_or}
use Rattle.std.specs.List.{AllByRecursion, sum_by}
use Rattle.std.specs.FinMap.{is_sorted}
use Rattle.std.proofs.lemmas.Int.{ints}
use Rattle.pk_base.specs.Blocks.{tag}
use Rattle.pk_base.specs.declared.tag.Tag.{Tag}
use Rattle.pk_base.specs.declared.entity.Class.{Class}
use Rattle.pk_base.specs.declared.entity.Class.TheVariants as class
use Rattle.pk_model.specs.Apart.{NoRepeats}
use Rattle.pk_model.specs.Maps.{tag_cmp}
use Rattle.solid_model.specs.Items.{Item, Shape, item_at, class_of_item}
use Rattle.solid_model.specs.Items.Item.{Body, Shell, Face, Loop, Fin, Edge, Vertex, Attr}
use Rattle.solid_model.specs.Rings.{written_from, neighbours, from_least}
use Rattle.solid_model.specs.Owners.{same_class, body_of, number_in_body}
use Rattle.solid_model.specs.Places.{mate_of, mate_at, vertex_of, start_at}
use Rattle.solid_model.specs.Links.{is_fin_of}
use Rattle.solid_model.specs.Sound.{HasAttributes, ComesAfter, GoesRound, MeetsEulerPoincare, NamesItsKind, AreOf, class_at, times_in_loops, fins_with_edge, end_of, loops_alone_at, is_empty, optional}
use Rattle.list_facts.proofs.Elements.{Contains-first, Contains-later, Contains-cases}
use Rattle.list_facts.proofs.Each.{ByRecursion-contains, ByRecursion-at}
use Rattle.pk_base.proofs.Same.{same_itself, same_or_other}
use Rattle.solid_model.proofs.lists.Neighbours.{neighbours-in}
use Rattle.solid_model.proofs.lists.Cycles.{first-dropped, once-written, in-written, written-in, written-neighbours, written-first}
use Rattle.solid_sound.proofs.shapes.Reading.{fin_of_class}
use Rattle.solid_sound.proofs.shapes.Names.{NotAttr}
use Rattle.solid_sound.proofs.shapes.Numbers.{number-alike, counts_in}
use Rattle.solid_sound.proofs.shapes.Sums.{weight_at, sum-alike}
use Rattle.solid_sound.proofs.shapes.Edits.{sum-but_all}
use Rattle.solid_sound.proofs.shapes.Bodies.{LeadsUp, body_of-leads, item_of_class, low_item, agreed-LeadsUp}
use Rattle.solid_sound.proofs.shapes.EachItem.{SoundItem, SoundFace, sound-by_item}
use Rattle.solid_sound.proofs.rows.RowKeeps.{IsWell}

-- b comes after a in S; or n and m lay between them
abbrev pub Follows : Shape → Tag → Tag → Tag → Tag → Type 0
Follows S n m a b = ComesAfter S a b ⊎ ((ComesAfter S a n × ComesAfter S m b) ⊎ (ComesAfter S a m × ComesAfter S n b))

-- a loop of R
pub record LoopLeft (S R : Shape) (n m : Tag) (g : Tag → Tag) (l face : Tag) (fins : List Tag) (vertex : Option Tag) : Type 0 where
  pub face_is : class_at R face ≡ Some class.Face
  pub fins_are : (f : Tag) → Contains fins f → (class_at S f ≡ Some class.Fin) × (f ≢ n) × (f ≢ m)
  pub lone_is : AreOf R class.Vertex (optional vertex)
  pub lone : is_some vertex ≡ is_empty fins
  pub follows : (a b : Tag) → Contains (neighbours fins) (a, b) → Follows S n m a b
  pub least : from_least fins ≡ fins
  pub face_body : g face ≡ g l
  pub fin_bodies : (f : Tag) → Contains fins f → g l ≡ g f
  pub lone_body : AllByRecursion (λ c. g c ≡ g l) (optional vertex)

-- Around the vertex where n starts: what came before n comes before what came after its mate m. Where
-- n came after m, no other fin starts there.
pub record Joined (S R : Shape) (n m vertex : Tag) : Type 0 where
  pub join : (a b : Tag) → ComesAfter S a n → ComesAfter S m b → a ≢ n → a ≢ m → b ≢ n → b ≢ m → ComesAfter R a b
  pub alone : ComesAfter S m n → loops_alone_at R vertex ≡ 1
  pub not_alone : (b : Tag) → ComesAfter S m b → b ≢ n → loops_alone_at R vertex ≡ 0

abbrev pub is_core : Item → Bool
is_core (Body shell) = true
is_core (Shell body q) = true
is_core (Face shell outer) = false
is_core (Loop face fins vertex) = false
is_core (Fin mate edge vertex) = false
is_core (Edge body) = false
is_core (Vertex body point) = false
is_core (Attr owner name value) = false

-- how many items of a class stand in the body b, by g
abbrev pub number_by : (Tag → Tag) → Tag → Class → Shape → ℕ
number_by g b c S = sum_by (λ (x : Tag × Item). counts_in c b (g x.0) x.1) S

abbrev pub Counted : Shape → Shape → (Tag → Tag) → Tag → Type 0
Counted S R g b = (c : Class) → same_class class.Attr c ≡ false → (number_in_body c R b ≡ number_by g b c R) × (number_in_body c S b ≡ number_by g b c S)

-- R is S without the edge e and its fins, n from u and m from v; g is the body of each item of R
pub record EdgeDies (S R : Shape) (n m e u v : Tag) (g : Tag → Tag) : Type 0 where
  pub ascends : T (is_sorted tag_cmp R)
  pub n_is : item_at S n ≡ Some (Fin m e u)
  pub m_is : item_at S m ≡ Some (Fin n e v)
  -- what there is but loops was there
  pub was : (t : Tag) (x : Item) → item_at R t ≡ Some x → class_of_item x ≢ class.Loop → item_at S t ≡ Some x
  pub gone : (t : Tag) (x : Item) → item_at R t ≡ Some x → (t ≢ n) × (t ≢ m) × (t ≢ e)
  -- bodies, shells, fins and edges stay
  pub stays : (t : Tag) (x : Item) → item_at S t ≡ Some x → is_core x ≡ true → item_at R t ≡ Some x
  pub fins : (f mate edge vertex : Tag) → item_at S f ≡ Some (Fin mate edge vertex) → f ≢ n → f ≢ m → item_at R f ≡ Some (Fin mate edge vertex)
  pub edges : (t body : Tag) → item_at S t ≡ Some (Edge body) → t ≢ e → item_at R t ≡ Some (Edge body)
  pub starts : (f mate edge vertex : Tag) → item_at R f ≡ Some (Fin mate edge vertex) → class_at R vertex ≡ Some class.Vertex
  pub agree : (t : Tag) (x : Item) → item_at S t ≡ Some x → g t ≡ body_of S t
  pub faces : (f shell outer : Tag) → item_at R f ≡ Some (Face shell outer) → SoundFace R f outer
  pub loops : (l face : Tag) (fins : List Tag) (vertex : Option Tag) → item_at R l ≡ Some (Loop face fins vertex) → LoopLeft S R n m g l face fins vertex
  pub has_face : (shell body face outer : Tag) (q : ℤ) → item_at S shell ≡ Some (Shell body q) → item_at S face ≡ Some (Face shell outer)
      → (f : Tag) × (o : Tag) × (item_at R f ≡ Some (Face shell o))
  pub attributes : HasAttributes R
  -- what they count
  pub times_same : (t : Tag) → t ≢ n → t ≢ m → times_in_loops R t ≡ times_in_loops S t
  pub edges_same : (t : Tag) → t ≢ e → fins_with_edge R t ≡ fins_with_edge S t
  pub lone_same : (t : Tag) → t ≢ u → t ≢ v → loops_alone_at R t ≡ loops_alone_at S t
  -- what comes after what
  pub keeps : (a b : Tag) → ComesAfter S a b → a ≢ n → a ≢ m → b ≢ n → b ≢ m → ComesAfter R a b
  pub at_u : Joined S R n m u
  pub at_v : class_at R v ≡ Some class.Vertex → Joined S R m n v
  pub formula : (b shell : Tag) (q : ℤ) → item_at R b ≡ Some (Body shell) → item_at R shell ≡ Some (Shell b q) → Counted S R g b → MeetsEulerPoincare S b q → MeetsEulerPoincare R b q

pub edge_of_class : (o : Option Item) → option_map class_of_item o ≡ Some class.Edge → (body : Tag) × (o ≡ Some (Edge body))
edge_of_class None h = absurd (cc)
edge_of_class (Some (Edge body)) h = (body, refl)
edge_of_class (Some (Body shell)) h = absurd (cc)
edge_of_class (Some (Shell body q)) h = absurd (cc)
edge_of_class (Some (Face shell outer)) h = absurd (cc)
edge_of_class (Some (Loop face fins vertex)) h = absurd (cc)
edge_of_class (Some (Fin mate edge vertex)) h = absurd (cc)
edge_of_class (Some (Vertex body point)) h = absurd (cc)
edge_of_class (Some (Attr owner name value)) h = absurd (cc)

core_class : (x : Item) (c : Class) → class_of_item x ≡ c → (c ≡ class.Body) ⊎ (c ≡ class.Shell) → is_core x ≡ true
core_class (Body shell) c h k = refl
core_class (Shell body q) c h k = refl
core_class (Face shell outer) c h k = absurd (⊎_elim (λ l. cc) (λ r. cc) k)
core_class (Loop face fins vertex) c h k = absurd (⊎_elim (λ l. cc) (λ r. cc) k)
core_class (Fin mate edge vertex) c h k = absurd (⊎_elim (λ l. cc) (λ r. cc) k)
core_class (Edge body) c h k = absurd (⊎_elim (λ l. cc) (λ r. cc) k)
core_class (Vertex body point) c h k = absurd (⊎_elim (λ l. cc) (λ r. cc) k)
core_class (Attr owner name value) c h k = absurd (⊎_elim (λ l. cc) (λ r. cc) k)

pub core-not : (x : Item) → is_core x ≡ true → (class_of_item x ≢ class.Face) × (class_of_item x ≢ class.Loop) × (class_of_item x ≢ class.Fin) × (class_of_item x ≢ class.Edge) × (class_of_item x ≢ class.Vertex) × (class_of_item x ≢ class.Attr)
core-not (Body shell) h = ((λ k. cc), (λ k. cc), (λ k. cc), (λ k. cc), (λ k. cc), (λ k. cc))
core-not (Shell body q) h = ((λ k. cc), (λ k. cc), (λ k. cc), (λ k. cc), (λ k. cc), (λ k. cc))
core-not (Face shell outer) h = absurd (cc)
core-not (Loop face fins vertex) h = absurd (cc)
core-not (Fin mate edge vertex) h = absurd (cc)
core-not (Edge body) h = absurd (cc)
core-not (Vertex body point) h = absurd (cc)
core-not (Attr owner name value) h = absurd (cc)

-- ---- fins and their mates

module _ (S : Shape) (well : IsWell S) where
  -- the fin after another starts where that ends
  pub after-starts : (a b : Tag) → ComesAfter S a b → start_at S b ≡ end_of S a
  after-starts a b h = ByRecursion-at (λ (p : Tag × Tag). start_at S p.1 ≡ end_of S p.0) (neighbours h.fins) (a, b) (well.sound.follow h.loop_ h.face h.fins h.vertex h.loop_is) h.among

  module _ (n m e u v : Tag) (n_is : item_at S n ≡ Some (Fin m e u)) (m_is : item_at S m ≡ Some (Fin n e v)) where
    pub mates-apart : m ≢ n
    mates-apart = (well.sound.mates.fins n m e u n_is).other

    pub ends-apart : v ≢ u
    ends-apart h =
        let x = well.sound.mates.fins n m e u n_is in
        let both : Some (Fin n e x.end) ≡ Some (Fin n e v) = sym x.mate_is ∙ m_is in
        let same : x.end ≡ v = cc in
        x.apart (same ∙ h)

    pub mate_of_n : mate_at S n ≡ m
    mate_of_n = ap (λ (o : Option Item). option_map_or mate_of o (tag 0)) n_is

    pub starts_n : start_at S n ≡ u
    starts_n = ap (λ (o : Option Item). option_map_or vertex_of o (tag 0)) n_is

    -- the mate of another fin is another
    pub mate-other : (f mate edge vertex : Tag) → item_at S f ≡ Some (Fin mate edge vertex) → f ≢ n → f ≢ m → (mate ≢ n) × (mate ≢ m)
    mate-other f mate edge vertex f_is fn fm =
        let x = well.sound.mates.fins f mate edge vertex f_is in (
          λ h. let both : Some (Fin f edge x.end) ≡ Some (Fin m e u) = sym x.mate_is ∙ ap (item_at S) h ∙ n_is in let same : f ≡ m = cc in fm same,
          λ h. let both : Some (Fin f edge x.end) ≡ Some (Fin n e v) = sym x.mate_is ∙ ap (item_at S) h ∙ m_is in let same : f ≡ n = cc in fn same,
        )

    -- no other fin has the edge
    pub edge-other : (f mate edge vertex : Tag) → item_at S f ≡ Some (Fin mate edge vertex) → f ≢ n → f ≢ m → edge ≢ e
    edge-other f mate edge vertex f_is fn fm h =
        let w = λ (x : Tag × Item). cond {A = ℕ} (is_fin_of e x.1) 1 0 in
        let b = edge_of_class (item_at S e) (well.sound.names.kinds n (Fin m e u) n_is).1.0 in
        let two : fins_with_edge S e ≡ 2 = well.sound.mates.edges e b.0 b.1 in
        let one : cond {A = ℕ} (is_fin_of e (Fin n e v)) 1 0 ≡ 1 = ap (λ c. cond {A = ℕ} c 1 0) (same_itself e) in
        let at_n : weight_at w S n ≡ 1 = ap (λ (o : Option Item). option_map_or (λ x. w (n, x)) o 0) n_is ∙ one in
        let at_m : weight_at w S m ≡ 1 = ap (λ (o : Option Item). option_map_or (λ x. w (m, x)) o 0) m_is ∙ one in
        let at_f : weight_at w S f ≡ 1 = ap (λ (o : Option Item). option_map_or (λ x. w (f, x)) o 0) (f_is ∙ ap (λ t. Some (Fin mate t vertex)) h) ∙ one in
        let all = sum-but_all w S (n ∷ m ∷ f ∷ []) well.written.ascends (((λ k. mates-apart (sym k)), ((λ k. fn (sym k)), tt)), (((λ k. fm (sym k)), tt), (tt, tt))) in
        absurd (omega (arith, two, at_n, at_m, at_f, all))

-- ---- around a vertex

module _ (S R : Shape) (well : IsWell S) (n m e u v : Tag) (n_is : item_at S n ≡ Some (Fin m e u)) (m_is : item_at S m ≡ Some (Fin n e v))
    (back : (f mate edge vertex : Tag) → item_at R f ≡ Some (Fin mate edge vertex) → (item_at S f ≡ Some (Fin mate edge vertex)) × (f ≢ n) × (f ≢ m))
    (forth : (f mate edge vertex : Tag) → item_at S f ≡ Some (Fin mate edge vertex) → f ≢ n → f ≢ m → item_at R f ≡ Some (Fin mate edge vertex))
    (keeps : (a b : Tag) → ComesAfter S a b → a ≢ n → a ≢ m → b ≢ n → b ≢ m → ComesAfter R a b) where
  mate_same : (f mate edge vertex : Tag) → item_at S f ≡ Some (Fin mate edge vertex) → f ≢ n → f ≢ m → (mate_at R f ≡ mate) × (mate_at S f ≡ mate)
  mate_same f mate edge vertex f_is fn fm = (
    ap (λ (o : Option Item). option_map_or mate_of o (tag 0)) (forth f mate edge vertex f_is fn fm),
    ap (λ (o : Option Item). option_map_or mate_of o (tag 0)) f_is,
  )

  -- a fin from elsewhere is neither n nor m
  from_other : (f mate edge w : Tag) → item_at S f ≡ Some (Fin mate edge w) → w ≢ u → w ≢ v → (f ≢ n) × (f ≢ m)
  from_other f mate edge w f_is wu wv = (
    λ h. let both : Some (Fin mate edge w) ≡ Some (Fin m e u) = sym f_is ∙ ap (item_at S) h ∙ n_is in let same : w ≡ u = cc in wu same,
    λ h. let both : Some (Fin mate edge w) ≡ Some (Fin n e v) = sym f_is ∙ ap (item_at S) h ∙ m_is in let same : w ≡ v = cc in wv same,
  )

  pub round-other : (w : Tag) → w ≢ u → w ≢ v → loops_alone_at R w ≡ loops_alone_at S w → GoesRound S w → GoesRound R w
  round-other w wu wv lone h =
      let fin = λ (f : Tag) (k : Contains h.fins f). (h.are_all f).0 k in
      let other = λ (f : Tag) (k : Contains h.fins f). from_other f (fin f k).0 (fin f k).1 w (fin f k).2 wu wv in
      record {
        fins = h.fins;
        once = h.once;
        are_all = λ f. (λ k. ((fin f k).0, (fin f k).1, forth f _ _ w (fin f k).2 (other f k).0 (other f k).1), λ x. (h.are_all f).1 (x.0, x.1, (back f x.0 x.1 w x.2).0));
        round = ByRecursion-contains (λ p. ComesAfter R (mate_at R p.0) p.1) (neighbours h.fins) (λ p k.
            let both = neighbours-in h.fins p k in
            let x = fin p.0 both.0 in
            let a = other p.0 both.0 in
            let b = other p.1 both.1 in
            let same = mate_same p.0 x.0 x.1 w x.2 a.0 a.1 in
            let far = mate-other S well n m e u v n_is m_is p.0 x.0 x.1 w x.2 a.0 a.1 in
            let was = subst (λ t. ComesAfter S t p.1) same.1 (ByRecursion-at (λ (q : Tag × Tag). ComesAfter S (mate_at S q.0) q.1) (neighbours h.fins) p h.round k) in
            subst (λ t. ComesAfter R t p.1) (sym same.0) (keeps x.0 p.1 was far.0 far.1 b.0 b.1));
        lone = lone ∙ h.lone;
      }

  -- where n starts
  module _ (joined : Joined S R n m u) (h : GoesRound S u) where
    abbrev rest : List Tag
    rest = drop 1 (written_from n h.fins)

    has_n : Contains h.fins n
    has_n = (h.are_all n).1 (m, e, n_is)

    is : written_from n h.fins ≡ n ∷ rest
    is = written-first n h.fins has_n

    once : NoRepeats (n ∷ rest)
    once = subst NoRepeats is (once-written n h.fins h.once)

    in_rest : (f : Tag) → Contains rest f → Contains h.fins f
    in_rest f k = written-in f n h.fins (subst (λ ts. Contains ts f) (sym is) (Contains-later n rest f k))

    rest_in : (f : Tag) → Contains h.fins f → f ≢ n → Contains rest f
    rest_in f k fn = ⊎_elim (λ (l : n ≡ f). absurd (fn (sym l))) (λ (r : Contains rest f). r) (Contains-cases n rest f (subst (λ ts. Contains ts f) is (in-written f n h.fins k)))

    was_round : (p : Tag × Tag) → Contains (neighbours (n ∷ rest)) p → ComesAfter S (mate_at S p.0) p.1
    was_round p k = ByRecursion-at (λ (q : Tag × Tag). ComesAfter S (mate_at S q.0) q.1) (neighbours h.fins) p h.round (written-neighbours n h.fins p (subst (λ ts. Contains (neighbours ts) p) (sym is) k))

    after_n : (b : Tag) → Contains (neighbours (n ∷ rest)) (n, b) → ComesAfter S m b
    after_n b k = subst (λ t. ComesAfter S t b) (mate_of_n S well n m e u v n_is m_is) (was_round (n, b) k)

    fin : (f : Tag) → Contains rest f → (mate : Tag) × (edge : Tag) × (item_at S f ≡ Some (Fin mate edge u))
    fin f k = (h.are_all f).0 (in_rest f k)

    other : (f : Tag) → Contains rest f → (f ≢ n) × (f ≢ m)
    other f k = (
      λ h. ByRecursion-at (λ t. n ≢ t) rest f once.0 k (sym h),
      λ same_m. let x = fin f k in let both : Some (Fin x.0 x.1 u) ≡ Some (Fin n e v) = sym x.2 ∙ ap (item_at S) same_m ∙ m_is in let same : v ≡ u = cc in ends-apart S well n m e u v n_is m_is same,
    )

    lone_by : (ts : List Tag) → ((b : Tag) → Contains (neighbours (n ∷ ts)) (n, b) → ComesAfter S m b) → NoRepeats (n ∷ ts) → loops_alone_at R u ≡ cond (is_empty ts) 1 0
    lone_by [] after apart = joined.alone (after n (Contains-first (n, n) []))
    lone_by (b ∷ ts) after apart = joined.not_alone b (after b (Contains-first (n, b) _)) (λ k. apart.0.0 (sym k))

    pub round-joined : GoesRound R u
    round-joined = record {
      fins = rest;
      once = once.1;
      are_all = λ f. (
        λ k. ((fin f k).0, (fin f k).1, forth f _ _ u (fin f k).2 (other f k).0 (other f k).1),
        λ x. let b = back f x.0 x.1 u x.2 in rest_in f ((h.are_all f).1 (x.0, x.1, b.0)) b.1,
      );
      round = ByRecursion-contains (λ p. ComesAfter R (mate_at R p.0) p.1) (neighbours rest) (λ p k.
          let both = neighbours-in rest p k in
          let x = fin p.0 both.0 in
          let a = other p.0 both.0 in
          let b = other p.1 both.1 in
          let same = mate_same p.0 x.0 x.1 u x.2 a.0 a.1 in
          let far = mate-other S well n m e u v n_is m_is p.0 x.0 x.1 u x.2 a.0 a.1 in
          subst (λ t. ComesAfter R t p.1) (sym same.0) (⊎_elim
          (λ (l : Contains (neighbours (n ∷ rest)) (p.0, p.1)). keeps x.0 p.1 (subst (λ t. ComesAfter S t p.1) same.1 (was_round (p.0, p.1) l)) far.0 far.1 b.0 b.1)
          (λ (r : Contains (neighbours (n ∷ rest)) (p.0, n) × Contains (neighbours (n ∷ rest)) (n, p.1)).
          joined.join x.0 p.1 (subst (λ t. ComesAfter S t n) same.1 (was_round (p.0, n) r.0)) (after_n p.1 r.1) far.0 far.1 b.0 b.1)
          (first-dropped n rest p.0 p.1 k)));
      lone = lone_by rest after_n once;
    }

-- ---- the formula

-- where the vertices and twice the faces, less the edges and the loops, are as many as before
pub formula-counted : (S R : Shape) (g : Tag → Tag) (b : Tag) (q : ℤ) → Counted S R g b
    → ((number_by g b class.Vertex R + (number_by g b class.Face R + number_by g b class.Face R)) + number_by g b class.Edge S) + number_by g b class.Loop S
    ≡ ((number_by g b class.Vertex S + (number_by g b class.Face S + number_by g b class.Face S)) + number_by g b class.Edge R) + number_by g b class.Loop R
    → MeetsEulerPoincare S b q → MeetsEulerPoincare R b q
formula-counted S R g b q counted same h =
    let v = counted class.Vertex refl in
    let e = counted class.Edge refl in
    let f = counted class.Face refl in
    let l = counted class.Loop refl in
    formula-kept (number_in_body class.Vertex R b) (number_in_body class.Edge R b) (number_in_body class.Face R b) (number_in_body class.Loop R b)
    (number_in_body class.Vertex S b) (number_in_body class.Edge S b) (number_in_body class.Face S b) (number_in_body class.Loop S b) q
    (omega (arith, same, v.0, v.1, e.0, e.1, f.0, f.1, l.0, l.1)) h
  where
    formula-kept : (v e f l v_was e_was f_was l_was : ℕ) (q : ℤ) → ((v + (f + f)) + e_was) + l_was ≡ ((v_was + (f_was + f_was)) + e) + l
        → ((pos v_was -ℤ pos e_was) +ℤ pos f_was) -ℤ (pos l_was -ℤ pos f_was) ≡ pos 2 *ℤ q
        → ((pos v -ℤ pos e) +ℤ pos f) -ℤ (pos l -ℤ pos f) ≡ pos 2 *ℤ q
    formula-kept v e f l v_was e_was f_was l_was q same h = omega (arith, ints)

-- ---- the rest stays sound

module _ (S R : Shape) (n m e u v : Tag) (g : Tag → Tag) (well : IsWell S) (dies : EdgeDies S R n m e u v g) where
  core_stays : (t : Tag) (c : Class) → (c ≡ class.Body) ⊎ (c ≡ class.Shell) → class_at S t ≡ Some c → class_at R t ≡ Some c
  core_stays t c core h =
      let x = item_of_class (item_at S t) c h in
      ap (option_map class_of_item) (dies.stays t x.0 x.1 (core_class x.0 c x.2 core)) ∙ ap Some x.2

  back : (f mate edge vertex : Tag) → item_at R f ≡ Some (Fin mate edge vertex) → (item_at S f ≡ Some (Fin mate edge vertex)) × (f ≢ n) × (f ≢ m)
  back f mate edge vertex h = let far = dies.gone f _ h in (dies.was f _ h (λ k. cc), far.0, far.1)

  fin_class : (f : Tag) → class_at S f ≡ Some class.Fin → f ≢ n → f ≢ m → class_at R f ≡ Some class.Fin
  fin_class f h fn fm = let x = fin_of_class (item_at S f) h in ap (option_map class_of_item) (dies.fins f x.0 x.1 x.2 x.3 fn fm)

  edge_class : (t : Tag) → class_at S t ≡ Some class.Edge → t ≢ e → class_at R t ≡ Some class.Edge
  edge_class t h te = let x = edge_of_class (item_at S t) h in ap (option_map class_of_item) (dies.edges t x.0 x.1 te)

  kinds : (t : Tag) (x : Item) → item_at R t ≡ Some x → NamesItsKind R x
  kinds t (Body shell) h = (core_stays shell class.Shell (inr refl) (well.sound.names.kinds t _ (dies.was t _ h (λ k. cc))).0, tt)
  kinds t (Shell body q) h = (core_stays body class.Body (inl refl) (well.sound.names.kinds t _ (dies.was t _ h (λ k. cc))).0, tt)
  kinds t (Face shell outer) h = (
    (core_stays shell class.Shell (inr refl) (well.sound.names.kinds t _ (dies.was t _ h (λ k. cc))).0.0, tt),
    (ap (option_map class_of_item) (dies.faces t shell outer h).outer_is, tt),
  )
  kinds t (Loop face fins vertex) h =
      let l = dies.loops t face fins vertex h in
      ((l.face_is, tt), ByRecursion-contains (λ f. class_at R f ≡ Some class.Fin) fins (λ f k. let x = l.fins_are f k in fin_class f x.0 x.1 x.2), l.lone_is)
  kinds t (Fin mate edge vertex) h =
      let b = back t mate edge vertex h in
      let named = well.sound.names.kinds t _ b.0 in
      let far = mate-other S well n m e u v dies.n_is dies.m_is t mate edge vertex b.0 b.1 b.2 in
      ((fin_class mate named.0.0 far.0 far.1, tt), (edge_class edge named.1.0 (edge-other S well n m e u v dies.n_is dies.m_is t mate edge vertex b.0 b.1 b.2), tt), (dies.starts t mate edge vertex h, tt))
  kinds t (Edge body) h = (core_stays body class.Body (inl refl) (well.sound.names.kinds t _ (dies.was t _ h (λ k. cc))).0, tt)
  kinds t (Vertex body point) h = (core_stays body class.Body (inl refl) (well.sound.names.kinds t _ (dies.was t _ h (λ k. cc))).0, tt)
  kinds t (Attr owner name value) h = tt

  placed : (f mate edge vertex : Tag) → item_at R f ≡ Some (Fin mate edge vertex) → times_in_loops R f ≡ 1
  placed f mate edge vertex h = let b = back f mate edge vertex h in dies.times_same f b.1 b.2 ∙ well.sound.placed f mate edge vertex b.0

  -- ---- bodies

  agreed : LeadsUp S g
  agreed = agreed-LeadsUp S well.written well.sound g dies.agree

  up : LeadsUp R g
  up = record {
    bodies = λ b shell h. agreed.bodies b shell (dies.was b _ h (λ k. cc));
    shells = λ s body q h. agreed.shells s body q (dies.was s _ h (λ k. cc));
    faces = λ f shell outer h. agreed.faces f shell outer (dies.was f _ h (λ k. cc));
    loops = λ l face fins vertex h. (dies.loops l face fins vertex h).face_body;
    fins = λ l face fins vertex h. (dies.loops l face fins vertex h).fin_bodies;
    edges = λ t body h. agreed.edges t body (dies.was t _ h (λ k. cc));
    vertices = λ w body point h. agreed.vertices w body point (dies.was w _ h (λ k. cc));
  }

  body_at : (t : Tag) (x : Item) → item_at R t ≡ Some x → NotAttr (class_of_item x) → body_of R t ≡ g t
  body_at t x h na = body_of-leads R dies.ascends kinds placed g up t x h (low_item x na)

  body_class : (t : Tag) (c : Class) → NotAttr c → class_at R t ≡ Some c → body_of R t ≡ g t
  body_class t c na h = let x = item_of_class (item_at R t) c h in body_at t x.0 x.1 (subst NotAttr (sym x.2) na)

  agree_class : (t : Tag) (c : Class) → class_at S t ≡ Some c → g t ≡ body_of S t
  agree_class t c h = let x = item_of_class (item_at S t) c h in dies.agree t x.0 x.1

  lone_bodies : (t : Tag) (vs : List Tag) → AreOf R class.Vertex vs → AllByRecursion (λ c. g c ≡ g t) vs → body_of R t ≡ g t → AllByRecursion (λ c. body_of R c ≡ body_of R t) vs
  lone_bodies t [] a h own = tt
  lone_bodies t (c ∷ cs) a h own = (body_class c class.Vertex (λ k. cc) a.0 ∙ h.0 ∙ sym own, lone_bodies t cs a.1 h.1 own)

  numbers : (b : Tag) → Counted S R g b
  numbers b c na = (
    sum-alike (λ x. counts_in c b (body_of R x.0) x.1) (λ x. counts_in c b (g x.0) x.1) R dies.ascends (λ t x h. number-alike c na b (body_of R t) (g t) x (λ other. body_at t x h other)),
    sum-alike (λ x. counts_in c b (body_of S x.0) x.1) (λ x. counts_in c b (g x.0) x.1) S well.written.ascends (λ t x h. ap (λ w. counts_in c b w x) (sym (dies.agree t x h))),
  )

  -- ---- what follows

  start_same : (f : Tag) → class_at S f ≡ Some class.Fin → f ≢ n → f ≢ m → (start_at R f ≡ start_at S f) × (end_of R f ≡ end_of S f)
  start_same f h fn fm =
      let x = fin_of_class (item_at S f) h in
      let now = dies.fins f x.0 x.1 x.2 x.3 fn fm in
      let mated = well.sound.mates.fins f x.0 x.1 x.2 x.3 in
      let far = mate-other S well n m e u v dies.n_is dies.m_is f x.0 x.1 x.2 x.3 fn fm in
      let mate_now = dies.fins x.0 f x.1 mated.end mated.mate_is far.0 far.1 in (
        ap (λ (o : Option Item). option_map_or vertex_of o (tag 0)) (now ∙ sym x.3),
        ap (start_at R) (ap (λ (o : Option Item). option_map_or mate_of o (tag 0)) now)
            ∙ ap (λ (o : Option Item). option_map_or vertex_of o (tag 0)) (mate_now ∙ sym mated.mate_is)
            ∙ ap (start_at S) (sym (ap (λ (o : Option Item). option_map_or mate_of o (tag 0)) x.3)),
      )

  follows_on : (a b : Tag) → Follows S n m a b → start_at S b ≡ end_of S a
  follows_on a b h = ⊎_elim {C = start_at S b ≡ end_of S a}
      (λ (l : ComesAfter S a b). after-starts S well a b l)
      (λ (r : (ComesAfter S a n × ComesAfter S m b) ⊎ (ComesAfter S a m × ComesAfter S n b)). ⊎_elim {C = start_at S b ≡ end_of S a}
      (λ (p : ComesAfter S a n × ComesAfter S m b).
      after-starts S well m b p.1 ∙ ap (start_at S) (mate_of_n S well m n e v u dies.m_is dies.n_is) ∙ after-starts S well a n p.0)
      (λ (p : ComesAfter S a m × ComesAfter S n b).
      after-starts S well n b p.1 ∙ ap (start_at S) (mate_of_n S well n m e u v dies.n_is dies.m_is) ∙ after-starts S well a m p.0)
      r)
      h

  follow : (l face : Tag) (fins : List Tag) (vertex : Option Tag) → item_at R l ≡ Some (Loop face fins vertex)
      → AllByRecursion (λ p. start_at R p.1 ≡ end_of R p.0) (neighbours fins)
  follow l face fins vertex h =
      let left = dies.loops l face fins vertex h in
      ByRecursion-contains (λ p. start_at R p.1 ≡ end_of R p.0) (neighbours fins) (λ p k.
      let both = neighbours-in fins p k in
      let a = left.fins_are p.0 both.0 in
      let b = left.fins_are p.1 both.1 in
      (start_same p.1 b.0 b.1 b.2).0 ∙ follows_on p.0 p.1 (left.follows p.0 p.1 k) ∙ sym (start_same p.0 a.0 a.1 a.2).1)

  round : (w body : Tag) (point : _) → item_at R w ≡ Some (Vertex body point) → GoesRound R w
  round w body point h =
      let was = well.sound.round w body point (dies.was w _ h (λ k. cc)) in
      ⊎_elim {C = GoesRound R w}
      (λ (wu : w ≡ u). subst (GoesRound R) (sym wu) (round-joined S R well n m e u v dies.n_is dies.m_is back dies.fins dies.keeps dies.at_u (subst (GoesRound S) wu was)))
      (λ (wu : w ≢ u). ⊎_elim {C = GoesRound R w}
      (λ (wv : w ≡ v). subst (GoesRound R) (sym wv) (round-joined S R well m n e v u dies.m_is dies.n_is
      (λ f a b c k. let x = back f a b c k in (x.0, x.2, x.1)) (λ f a b c k fm fn. dies.fins f a b c k fn fm) (λ a b k am an bm bn. dies.keeps a b k an am bn bm)
      (dies.at_v (ap (class_at R) (sym wv) ∙ ap (option_map class_of_item) h)) (subst (GoesRound S) wv was)))
      (λ (wv : w ≢ v). round-other S R well n m e u v dies.n_is dies.m_is back dies.fins dies.keeps w wu wv (dies.lone_same w wu wv) was)
      (same_or_other w v))
      (same_or_other w u)

  each : (t : Tag) (x : Item) → item_at R t ≡ Some x → SoundItem R t x
  each t (Body shell) h =
      let t_was = dies.was t _ h (λ k. cc) in
      let s = well.sound.names.shells t shell t_was in
      let f = dies.has_face shell t s.face s.outer s.q s.shell_is s.face_is in
      record {
        has_shell = record { q = s.q; shell_is = dies.stays shell _ s.shell_is refl; face = f.0; outer = f.1; face_is = f.2 };
        formula = λ q is. dies.formula t shell q h is (numbers t) (well.sound.measure.formula t shell q t_was (dies.was shell _ is (λ k. cc)));
      }
  each t (Shell body q) h = dies.stays body _ (well.sound.names.bodies t body q (dies.was t _ h (λ k. cc))) refl
  each t (Face shell outer) h = dies.faces t shell outer h
  each t (Loop face fins vertex) h =
      let l = dies.loops t face fins vertex h in
      record { follow = follow t face fins vertex h; lone = l.lone; body = lone_bodies t (optional vertex) l.lone_is l.lone_body (body_at t _ h (λ k. cc)) }
  each t (Fin mate edge vertex) h =
      let b = back t mate edge vertex h in
      let mated = well.sound.mates.fins t mate edge vertex b.0 in
      let far = mate-other S well n m e u v dies.n_is dies.m_is t mate edge vertex b.0 b.1 b.2 in
      let named = well.sound.names.kinds t _ b.0 in
      let own = well.sound.bodies.fins t mate edge vertex b.0 in
      let here = sym (dies.agree t _ b.0) ∙ sym (body_at t _ h (λ k. cc)) in
      record {
        placed = placed t mate edge vertex h;
        mated = record { other = mated.other; end = mated.end; mate_is = dies.fins mate t edge mated.end mated.mate_is far.0 far.1; apart = mated.apart };
        edge_body = body_class edge class.Edge (λ k. cc) (kinds t _ h).1.0 ∙ agree_class edge class.Edge named.1.0 ∙ own.0 ∙ here;
        vertex_body = body_class vertex class.Vertex (λ k. cc) (kinds t _ h).2.0 ∙ agree_class vertex class.Vertex named.2.0 ∙ own.1 ∙ here;
      }
  each t (Edge body) h = dies.edges_same t (dies.gone t _ h).2 ∙ well.sound.mates.edges t body (dies.was t _ h (λ k. cc))
  each t (Vertex body point) h = (round t body point h, well.sound.measure.points t body point (dies.was t _ h (λ k. cc)))
  each t (Attr owner name value) h = dies.attributes.owned t owner name value h

  pub edge_dies-well : IsWell R
  edge_dies-well = record {
    written = record { ascends = dies.ascends; loops = λ l face fins vertex h. (dies.loops l face fins vertex h).least };
    sound = sound-by_item R kinds each dies.attributes.one;
  }
