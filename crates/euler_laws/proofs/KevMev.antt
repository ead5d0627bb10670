-- kev, and then mev.
use Rattle.std.proofs.Common.{◌≡◌, ◌≢◌, ◌+◌, ◌≤◌, ◌⊎◌, inl, inr, ⊎_elim, Bool, true, false, cond, not, List, [], ◌∷◌, ◌++◌, drop, take, length, Option, Some, None, Result, Ok, refl, sym, ap, subst, ◌∙◌, arith}
use Rattle.std.specs.Prelude.{T, ℤ, IsOk, IsTrue, find, map, option_map, unwrap_or, Contains}
use Rattle.std.specs.Option.{option_map_or}
use Rattle.std.specs.List.{AllByRecursion}
use Rattle.std.specs.FinMap.{is_sorted}
use Rattle.pk_base.specs.Blocks.{tag}
use Rattle.pk_base.specs.declared.tag.Tag.{Tag}
use Rattle.pk_base.specs.declared.call.Call.TheVariants as call
use Rattle.pk_base.specs.declared.entity.Class.TheVariants as class
use Rattle.pk_base.specs.declared.entity.Point.{Point}
use Rattle.pk_base.specs.declared.entity.Triple.{Triple}
use Rattle.pk_base.specs.declared.refusal.Refusal.TheVariants.{OutOfRange}
use Rattle.pk_base.proofs.Same.{same_or_other}
use Rattle.pk_model.specs.Apart.{NoRepeats}
use Rattle.pk_model.specs.Maps.{EntityMap, tag_cmp}
use Rattle.pk_model.specs.Step.{◌>>=◌}
use Rattle.pk_model.specs.Tags.{TagsAscend, tag_at}
use Rattle.pk_model.proofs.TagLists.{NoneOf, NoRepeats-take}
use Rattle.list_facts.proofs.Elements.{Contains-first, Contains-later}
use Rattle.list_facts.proofs.Each.{ByRecursion-at, ByRecursion-contains, ByRecursion-take, ByRecursion-weaker}
use Rattle.solid_model.specs.Items.{Item, Shape, item_at, class_of_item, ◌with◌}
use Rattle.solid_model.specs.Items.Item.{Body, Shell, Face, Loop, Fin, Edge, Vertex, Attr}
use Rattle.solid_model.specs.Deaths.{is_attribute_of, ◌without◌}
use Rattle.solid_model.specs.Rings.{first_tag, from_least, neighbours, next_in, ring_of, ring_or_lone, written_from}
use Rattle.solid_model.specs.Owners.{body_of, fins_of, owner_in}
use Rattle.solid_model.specs.Rows.{Row, changes, cost_of, makes_four, ◌>>◌}
use Rattle.solid_model.specs.Places.{End, PlacedFin, end_at, end_in, end_of_item, fin_at, fins_at, mate_at, mate_of, point_at, point_of_vertex, start_at, the_origin, vertex_of}
use Rattle.solid_model.specs.Ranges.{coordinates_of, is_coordinate, numbers_of, point_of, refuse_outside}
use Rattle.solid_model.specs.Shapes.{shape_of}
use Rattle.solid_model.specs.Sound.{class_at, end_of}
use Rattle.solid_model.specs.Kev.{kev}
use Rattle.solid_model.specs.Mev.{mev}
use Rattle.solid_model.proofs.lists.Cycles.{written-itself}
use Rattle.solid_model.proofs.lists.Neighbours.{once-last}
use Rattle.solid_model.proofs.lists.Turned.{Turned, turned-all, turned-back, turned-in, turned-least, turned-once}
use Rattle.solid_sound.proofs.shapes.Bodies.{item_of_class, leads_up}
use Rattle.solid_sound.proofs.shapes.Edits.{Edits, class_apart, live-none_of, written}
use Rattle.solid_sound.proofs.shapes.Lookups.{Items, with-other, with-sorted, with-written}
use Rattle.solid_sound.proofs.shapes.Reading.{fin_in, fins-once, loop-of_fin, vertex_of_class}
use Rattle.solid_sound.proofs.shapes.FinRings.{asked_fin}
use Rattle.solid_sound.proofs.edges.EdgeDeaths.{edge_of_class}
use Rattle.solid_sound.proofs.edges.Ends.{FinIn, as_end, fin-well}
use Rattle.solid_sound.proofs.rows.RowKeeps.{IsWell, well-shape}
use Rattle.solid_sound.proofs.rows.KeptKev.{kev-keeps}
use Rattle.solid_sound.proofs.rows.KeptMev.{mev-keeps}
use Rattle.solid_sound.proofs.rows.KeptMotions.{AreCoordinates}
use Rattle.solid_sound.proofs.rows.KeptRings.{face_in, face_of_class}
use Rattle.solid_calls.specs.Pairs.{reached, row_on}
use Rattle.solid_calls.proofs.Kept.{reached-well}
use Rattle.solid_calls.proofs.RowKinds.{cost-changing, kev-changes}
use Rattle.solid_edits.proofs.Going.{goes-on}
use Rattle.euler_make.proofs.MevFound.{mev-cost, strut_items}
use Rattle.euler_kill.proofs.KevFound.{dying-once, goes-strut, kev-row, kev_changes}
use Rattle.euler_laws.specs.Both.{GivesBackButNames, MayFollow, cost_on}
use Rattle.solid_model.specs.SameButNames.{IsTurned, SameButNames, SameIfAny, SameItem, but_attributes}
use Rattle.euler_laws.specs.Operands.{edge_at, edge_of, end_left, fins_from, point_beyond, strut, triple_of}
use Rattle.euler_laws.proofs.AnewNames.{left-without, live-both, pairs-once, same-anew}
use Rattle.euler_laws.proofs.Carrying.{cost-changed}
use Rattle.euler_laws.proofs.GivenBack.{killed-none, spared}
use Rattle.euler_laws.proofs.Laws.{ascend-once, free-items, gives-back-names}
use Rattle.euler_laws.proofs.Placed.{end-item, owner-of_loop}
use Rattle.euler_laws.proofs.Renamings.{Pairs, both_of, renamed, renamed-pair}
use Rattle.euler_laws.proofs.SameNames.{as-turned, from-turned, is_among-by, map-fixed, same-wider, turned-map}
use Rattle.euler_laws.proofs.TurnedLists.{turned-twice, written-turned}

-- ---- what lies in the range of coordinates is not refused

find-nothing : (p : ℤ → Bool) (vs : List ℤ) → AllByRecursion (λ v. p v ≡ true) vs → find (λ v. not (p v)) vs ≡ None
find-nothing p [] h = refl
find-nothing p (v ∷ vs) h = ap (λ b. cond (not b) (Some v) (find (λ v. not (p v)) vs)) h.0 ∙ find-nothing p vs h.1

pub within-range : (p : Point) → AreCoordinates p → refuse_outside is_coordinate (numbers_of (triple_of p)) ≡ None
within-range p h = ap (option_map OutOfRange) (find-nothing is_coordinate (numbers_of (triple_of p)) h)

-- ---- the body of a loop that stays in its face

pub loop-body : (S R : Shape) → IsWell S → IsWell R → (l face : Tag) (fins fs : List Tag) (v o : Option Tag) → item_at S l ≡ Some (Loop face fins v) → item_at R l ≡ Some (Loop face fs o)
    → ((t shell outer : Tag) → item_at S t ≡ Some (Face shell outer) → item_at R t ≡ Some (Face shell outer))
    → ((t body : Tag) (q : ℤ) → item_at S t ≡ Some (Shell body q) → item_at R t ≡ Some (Shell body q)) → body_of R l ≡ body_of S l
loop-body S R well made l face fins fs v o is now faces shells =
    let y = face_of_class (item_at S face) (well.sound.names.kinds l _ is).0.0 in
    let F = face_in S well face y.0 y.1 y.2 in
    let G = face_in R made face y.0 y.1 (faces face y.0 y.1 y.2) in
    let both : Some (Shell F.body F.q) ≡ Some (Shell G.body G.q) = sym (shells y.0 F.body F.q F.shell_is) ∙ G.shell_is in
    let same : F.body ≡ G.body = cc in
    sym ((leads_up R made.written made.sound).loops l face fs o now) ∙ G.face_body ∙ sym same ∙ sym F.face_body ∙ (leads_up S well.written well.sound).loops l face fins v is

-- ---- an end in a loop that was written

pub end-there : (R : Shape) → IsWell R → (l face u : Tag) (A : List Tag) → item_at R l ≡ Some (ring_or_lone face A u) → NoRepeats A
    → ((g : Tag) (gs : List Tag) → A ≡ g ∷ gs → (mate : Tag) × (edge : Tag) × (item_at R g ≡ Some (Fin mate edge u)))
    → end_at R (unwrap_or (first_tag A) l) ≡ Ok (record { vertex = u; loop_ = l; face = face; body = body_of R l; fins = A })
end-there R made l face u [] is once starts =
    let face_is : owner_in R l ≡ face = owner-of_loop R l face [] (Some u) is in
    let there : Ok (end_in R u l []) ≡ Ok (record { vertex = u; loop_ = l; face = face; body = body_of R l; fins = [] }) = λ i. Ok (record { vertex = u; loop_ = l; face = face_is i; body = body_of R l; fins = [] }) in
    ap (end_of_item R l) is ∙ there
end-there R made l face u (g ∷ gs) is once starts =
    let s = starts g gs refl in
    let F = from_least (g ∷ gs) in
    let among : Contains F g = turned-in (g ∷ gs) F (turned-least (g ∷ gs)) g (Contains-first g gs) in
    let owner : owner_in R g ≡ l = loop-of_fin R made.written made.sound l face F None is g among in
    let face_is : owner_in R l ≡ face = owner-of_loop R l face F None is in
    let list : fins_at R l ≡ F = ap (λ (o : Option Item). option_map_or fins_of o []) is in
    let fins_are : written_from g (fins_at R l) ≡ g ∷ gs = ap (written_from g) list ∙ written-turned g gs F (turned-least (g ∷ gs)) once in
    let there : Ok (end_in R u l (written_from g (fins_at R l))) ≡ Ok (record { vertex = u; loop_ = l; face = face; body = body_of R l; fins = g ∷ gs }) = λ i. Ok (record { vertex = u; loop_ = l; face = face_is i; body = body_of R l; fins = fins_are i }) in
    ap (end_of_item R g) s.2 ∙ ap (λ t. Ok (end_in R u t (written_from g (fins_at R t)))) owner ∙ there

-- ---- the edge of f, whose mate comes at once, and the vertex v where the mate starts

module _ (S : Shape) (well : IsWell S) (f m e s v l face b shell : Tag) (A : List Tag) (p : Point)
    (f_is : item_at S f ≡ Some (Fin m e s)) (m_is : item_at S m ≡ Some (Fin f e v)) (e_is : item_at S e ≡ Some (Edge b)) (v_is : item_at S v ≡ Some (Vertex b p)) (b_is : item_at S b ≡ Some (Body shell))
    (l_is : item_at S l ≡ Some (Loop face (from_least (f ∷ m ∷ A)) None)) (loop_body : body_of S l ≡ b)
    (t0 t1 t2 t3 : Tag) (once : NoRepeats (t0 ∷ t1 ∷ t2 ∷ t3 ∷ [])) (free : AllByRecursion (λ t. item_at S t ≡ None) (t0 ∷ t1 ∷ t2 ∷ t3 ∷ [])) where
  abbrev ring : List Tag
  ring = f ∷ m ∷ A

  abbrev ks : List Tag
  ks = f ∷ m ∷ e ∷ v ∷ []

  abbrev cut : Items
  cut = (l, ring_or_lone face A s) ∷ []

  abbrev pub shorn : Shape
  shorn = S with cut without ks

  class_is : (t : Tag) (x : Item) → item_at S t ≡ Some x → option_map class_of_item (item_at S t) ≡ Some (class_of_item x)
  class_is t x is = ap (option_map class_of_item) is

  s_class : class_at S s ≡ Some class.Vertex
  s_class = (well.sound.names.kinds f _ f_is).2.0

  face_class : class_at S face ≡ Some class.Face
  face_class = (well.sound.names.kinds l _ l_is).0.0

  ring_once : NoRepeats ring
  ring_once = turned-once (from_least ring) ring (turned-back ring (from_least ring) (turned-least ring)) (fins-once S well.written well.sound l face (from_least ring) None l_is)

  in_ring : (t : Tag) → Contains ring t → Contains (from_least ring) t
  in_ring t k = turned-in ring (from_least ring) (turned-least ring) t k

  ks_once : NoRepeats ks
  ks_once = dying-once S well f m e s v f_is m_is

  -- what is of a class of none of these is none of them
  l_apart : NoneOf l ks
  l_apart = (
    class_apart S l f class.Loop class.Fin (class_is l _ l_is) (class_is f _ f_is) (λ h. cc),
    (
      class_apart S l m class.Loop class.Fin (class_is l _ l_is) (class_is m _ m_is) (λ h. cc),
      (class_apart S l e class.Loop class.Edge (class_is l _ l_is) (class_is e _ e_is) (λ h. cc), (class_apart S l v class.Loop class.Vertex (class_is l _ l_is) (class_is v _ v_is) (λ h. cc), tt)),
    ),
  )

  sorted_cut : T (is_sorted tag_cmp (S with cut))
  sorted_cut = with-sorted S cut well.written.ascends

  -- ---- what is left

  left_at : (t : Tag) → NoneOf t ks → t ≢ l → item_at shorn t ≡ but_attributes ks (item_at S t)
  left_at t none other = left-without (S with cut) ks sorted_cut t none ∙ ap (but_attributes ks) (with-other S cut t (other, tt))

  stays : (t : Tag) (x : Item) → item_at S t ≡ Some x → is_attribute_of ks x ≡ false → NoneOf t ks → t ≢ l → item_at shorn t ≡ Some x
  stays t x is plain none other = left_at t none other ∙ ap (but_attributes ks) is ∙ ap (λ c. cond c None (Some x)) plain

  l_left : item_at shorn l ≡ Some (ring_or_lone face A s)
  l_left =
      let there : item_at (S with cut) l ≡ Some (ring_or_lone face A s) = with-written S cut l _ (tt, tt) (0, omega arith, refl) in
      spared (S with cut) ks sorted_cut l l_apart (λ x h. loop_plain A x (sym h ∙ there)) ∙ there
    where
      loop_plain : (A : List Tag) (x : Item) → Some x ≡ Some (ring_or_lone face A s) → is_attribute_of ks x ≡ false
      loop_plain [] x h = let same : x ≡ Loop face [] (Some s) = cc in ap (is_attribute_of ks) same
      loop_plain (g ∷ gs) x h = let same : x ≡ Loop face (from_least (g ∷ gs)) None = cc in ap (is_attribute_of ks) same

  gone : (t : Tag) → Contains ks t → item_at shorn t ≡ None
  gone t k = killed-none (S with cut) ks sorted_cut t k

  live_new : (t : Tag) (x : Item) → item_at S t ≡ Some x → NoneOf t (t0 ∷ t1 ∷ t2 ∷ t3 ∷ [])
  live_new t x is = live-none_of S (t0 ∷ t1 ∷ t2 ∷ t3 ∷ []) t x free is

  pub still_free : AllByRecursion (λ t. item_at shorn t ≡ None) (t0 ∷ t1 ∷ t2 ∷ t3 ∷ [])
  still_free = ByRecursion-contains (λ t. item_at shorn t ≡ None) (t0 ∷ t1 ∷ t2 ∷ t3 ∷ []) (λ t k.
      let none = ByRecursion-at (λ u. item_at S u ≡ None) (t0 ∷ t1 ∷ t2 ∷ t3 ∷ []) t free k in
      let apart = λ (u : Tag) (x : Item) (is : item_at S u ≡ Some x) (same : t ≡ u). ByRecursion-at (λ z. u ≢ z) (t0 ∷ t1 ∷ t2 ∷ t3 ∷ []) t (live_new u x is) k (sym same) in
      left_at t (apart f _ f_is, (apart m _ m_is, (apart e _ e_is, (apart v _ v_is, tt)))) (apart l _ l_is) ∙ ap (but_attributes ks) none)

  -- what is neither a fin nor an edge nor a vertex nor a loop is none of these
  face_stays : (t a o : Tag) → item_at S t ≡ Some (Face a o) → item_at shorn t ≡ Some (Face a o)
  face_stays t a o is = stays t (Face a o) is refl (
    class_apart S t f class.Face class.Fin (class_is t _ is) (class_is f _ f_is) (λ h. cc),
    (
      class_apart S t m class.Face class.Fin (class_is t _ is) (class_is m _ m_is) (λ h. cc),
      (class_apart S t e class.Face class.Edge (class_is t _ is) (class_is e _ e_is) (λ h. cc), (class_apart S t v class.Face class.Vertex (class_is t _ is) (class_is v _ v_is) (λ h. cc), tt)),
    ),
  )
      (class_apart S t l class.Face class.Loop (class_is t _ is) (class_is l _ l_is) (λ h. cc))

  shell_stays : (t a : Tag) (q : ℤ) → item_at S t ≡ Some (Shell a q) → item_at shorn t ≡ Some (Shell a q)
  shell_stays t a q is = stays t (Shell a q) is refl (
    class_apart S t f class.Shell class.Fin (class_is t _ is) (class_is f _ f_is) (λ h. cc),
    (
      class_apart S t m class.Shell class.Fin (class_is t _ is) (class_is m _ m_is) (λ h. cc),
      (class_apart S t e class.Shell class.Edge (class_is t _ is) (class_is e _ e_is) (λ h. cc), (class_apart S t v class.Shell class.Vertex (class_is t _ is) (class_is v _ v_is) (λ h. cc), tt)),
    ),
  )
      (class_apart S t l class.Shell class.Loop (class_is t _ is) (class_is l _ l_is) (λ h. cc))

  b_stays : item_at shorn b ≡ Some (Body shell)
  b_stays = stays b (Body shell) b_is refl (
    class_apart S b f class.Body class.Fin (class_is b _ b_is) (class_is f _ f_is) (λ h. cc),
    (
      class_apart S b m class.Body class.Fin (class_is b _ b_is) (class_is m _ m_is) (λ h. cc),
      (class_apart S b e class.Body class.Edge (class_is b _ b_is) (class_is e _ e_is) (λ h. cc), (class_apart S b v class.Body class.Vertex (class_is b _ b_is) (class_is v _ v_is) (λ h. cc), tt)),
    ),
  )
      (class_apart S b l class.Body class.Loop (class_is b _ b_is) (class_is l _ l_is) (λ h. cc))

  -- the vertex where f starts is another than v
  s_other : s ≢ v
  s_other h = (well.sound.mates.fins f m e s f_is).apart (let mated = well.sound.mates.fins f m e s f_is in
      let both : Some (Fin f e mated.end) ≡ Some (Fin f e v) = sym mated.mate_is ∙ m_is in
      let end : mated.end ≡ v = cc in
      end ∙ sym h)

  s_stays : (body : Tag) (q : Point) → item_at S s ≡ Some (Vertex body q) → item_at shorn s ≡ Some (Vertex body q)
  s_stays body q is = stays s (Vertex body q) is refl (
    class_apart S s f class.Vertex class.Fin s_class (class_is f _ f_is) (λ h. cc),
    (
      class_apart S s m class.Vertex class.Fin s_class (class_is m _ m_is) (λ h. cc),
      (class_apart S s e class.Vertex class.Edge s_class (class_is e _ e_is) (λ h. cc), (s_other, tt)),
    ),
  )
      (class_apart S s l class.Vertex class.Loop s_class (class_is l _ l_is) (λ h. cc))

  -- a fin of A stays
  fin_stays : (g mate edge start : Tag) → Contains A g → item_at S g ≡ Some (Fin mate edge start) → item_at shorn g ≡ Some (Fin mate edge start)
  fin_stays g mate edge start k is = stays g (Fin mate edge start) is refl (
    (λ h. ByRecursion-at (λ z. f ≢ z) A g ring_once.0.1 k (sym h)),
    (
      (λ h. ByRecursion-at (λ z. m ≢ z) A g ring_once.1.0 k (sym h)),
      (class_apart S g e class.Fin class.Edge (class_is g _ is) (class_is e _ e_is) (λ h. cc), (class_apart S g v class.Fin class.Vertex (class_is g _ is) (class_is v _ v_is) (λ h. cc), tt)),
    ),
  )
      (class_apart S g l class.Fin class.Loop (class_is g _ is) (class_is l _ l_is) (λ h. cc))

  fin_of : (g : Tag) → Contains A g → (mate : Tag) × (edge : Tag) × (start : Tag) × (item_at S g ≡ Some (Fin mate edge start))
  fin_of g k = fin_in S well.written well.sound l face (from_least ring) None l_is g (in_ring g (Contains-later f (m ∷ A) g (Contains-later m A g k)))

  -- the fin after the mate starts where f starts
  pub first_starts : (g : Tag) (gs : List Tag) → A ≡ g ∷ gs → (mate : Tag) × (edge : Tag) × (item_at shorn g ≡ Some (Fin mate edge s))
  first_starts g gs same =
      let k : Contains A g = subst (λ ts. Contains ts g) (sym same) (Contains-first g gs) in
      let x = fin_of g k in
      let follow = turned-all (λ n. start_at S n.1 ≡ end_of S n.0) (from_least ring) ring (turned-back ring (from_least ring) (turned-least ring)) (well.sound.follow l face (from_least ring) None l_is) in
      let here : start_at S g ≡ end_of S m = (subst (λ ts. AllByRecursion (λ (n : Tag × Tag). start_at S n.1 ≡ end_of S n.0) (neighbours (f ∷ m ∷ ts))) same follow).1.0 in
      let mate_is : mate_at S m ≡ f = ap (λ (o : Option Item). option_map_or mate_of o (tag 0)) m_is in
      let start_f : start_at S f ≡ s = ap (λ (o : Option Item). option_map_or vertex_of o (tag 0)) f_is in
      let start_g : start_at S g ≡ x.2 = ap (λ (o : Option Item). option_map_or vertex_of o (tag 0)) x.3 in
      let start : x.2 ≡ s = sym start_g ∙ here ∙ ap (start_at S) mate_is ∙ start_f in
      (x.0, x.1, fin_stays g x.0 x.1 x.2 k x.3 ∙ ap (λ t. Some (Fin x.0 x.1 t)) start)

  -- ---- what is made anew

  module _ (cut_well : IsWell shorn) where
    abbrev pub place : End
    place = record { vertex = s; loop_ = l; face = face; body = body_of shorn l; fins = A }

    pub end_found : end_at shorn (unwrap_or (first_tag A) l) ≡ Ok (record { vertex = s; loop_ = l; face = face; body = body_of shorn l; fins = A })
    end_found = end-there shorn cut_well l face s A l_left ring_once.1.1 first_starts

    abbrev xs : Items
    xs = strut_items (record { vertex = s; loop_ = l; face = face; body = body_of shorn l; fins = A }) (triple_of p) t0 t1 t2 t3

    abbrev pub grown : Shape
    grown = shorn with xs

    change : Edits shorn grown xs []
    change = written shorn xs cut_well.written.ascends (once-last (t0 ∷ t1 ∷ t2 ∷ t3 ∷ []) l once (live_new l _ l_is))

    body_same : body_of shorn l ≡ b
    body_same = by_list A l_left
      where
        by_list : (B : List Tag) → item_at shorn l ≡ Some (ring_or_lone face B s) → body_of shorn l ≡ b
        by_list [] is = loop-body S shorn well cut_well l face (from_least ring) [] None (Some s) l_is is face_stays shell_stays ∙ loop_body
        by_list (g ∷ gs) is = loop-body S shorn well cut_well l face (from_least ring) (from_least (g ∷ gs)) None None l_is is face_stays shell_stays ∙ loop_body

    at_0 : item_at grown t0 ≡ Some (Vertex b p)
    at_0 = change.news t0 _ (0, omega arith, refl) ∙ ap (λ t. Some (Vertex t p)) body_same

    at_1 : item_at grown t1 ≡ Some (Edge b)
    at_1 = change.news t1 _ (1, omega arith, refl) ∙ ap (λ t. Some (Edge t)) body_same

    at_2 : item_at grown t2 ≡ Some (Fin t3 t1 s)
    at_2 = change.news t2 _ (2, omega arith, refl)

    at_3 : item_at grown t3 ≡ Some (Fin t2 t1 t0)
    at_3 = change.news t3 _ (3, omega arith, refl)

    at_l : item_at grown l ≡ Some (Loop face (from_least (t2 ∷ t3 ∷ A)) None)
    at_l = change.news l _ (4, omega arith, refl)

    other_at : (t : Tag) → NoneOf t (t0 ∷ t1 ∷ t2 ∷ t3 ∷ []) → t ≢ l → item_at grown t ≡ item_at shorn t
    other_at t none other = with-other shorn xs t (none.0, (none.1.0, (none.1.1.0, (none.1.1.1.0, (other, tt)))))

    abbrev pub pairs : Pairs
    pairs = (f, t2) ∷ (m, t3) ∷ (e, t1) ∷ (v, t0) ∷ []

    pairs_once : NoRepeats (both_of pairs)
    pairs_once = pairs-once S pairs ((_, f_is), ((_, m_is), ((_, e_is), ((_, v_is), tt)))) (free.1.1.0, (free.1.1.1.0, (free.1.0, (free.0, tt)))) ks_once
        ((once.1.1.0.0, ((λ h. once.1.0.0 (sym h)), ((λ h. once.0.1.0 (sym h)), tt))), (((λ h. once.1.0.1.0 (sym h)), ((λ h. once.0.1.1.0 (sym h)), tt)), (((λ h. once.0.0 (sym h)), tt), (tt, tt))))

    module _ (made : IsWell grown) where
      r : Tag → Tag
      r = renamed pairs

      dead : AllByRecursion (λ (q : Tag × Tag). item_at grown q.0 ≡ None) pairs
      dead = (
        other_at f (live_new f _ f_is) (λ h. l_apart.0 (sym h)) ∙ gone f (0, omega arith, refl),
        (
          other_at m (live_new m _ m_is) (λ h. l_apart.1.0 (sym h)) ∙ gone m (1, omega arith, refl),
          (
            other_at e (live_new e _ e_is) (λ h. l_apart.1.1.0 (sym h)) ∙ gone e (2, omega arith, refl),
            (other_at v (live_new v _ v_is) (λ h. l_apart.1.1.1.0 (sym h)) ∙ gone v (3, omega arith, refl), tt),
          ),
        ),
      )

      new : AllByRecursion (λ (q : Tag × Tag). item_at S q.1 ≡ None) pairs
      new = (free.1.1.0, (free.1.1.1.0, (free.1.0, (free.0, tt))))

      fixed : (t : Tag) (x y : Item) → item_at S t ≡ Some x → item_at grown t ≡ Some y → renamed pairs t ≡ t
      fixed t x y is now = live-both S grown well made pairs pairs_once dead new t x y is now

      -- what is left and is not the loop is there in the end
      there : (t : Tag) (x : Item) → item_at S t ≡ Some x → t ≢ l → item_at shorn t ≡ Some x → item_at grown t ≡ Some x
      there t x is other now = other_at t (live_new t x is) other ∙ now

      r_b : renamed pairs b ≡ b
      r_b = fixed b _ _ b_is (there b _ b_is (class_apart S b l class.Body class.Loop (class_is b _ b_is) (class_is l _ l_is) (λ h. cc)) b_stays)

      r_s : renamed pairs s ≡ s
      r_s =
          let y = vertex_of_class (item_at S s) s_class in
          fixed s _ _ y.2 (there s _ y.2 (class_apart S s l class.Vertex class.Loop s_class (class_is l _ l_is) (λ h. cc)) (s_stays y.0 y.1 y.2))

      r_face : renamed pairs face ≡ face
      r_face =
          let y = face_of_class (item_at S face) face_class in
          fixed face _ _ y.2 (there face _ y.2 (class_apart S face l class.Face class.Loop face_class (class_is l _ l_is) (λ h. cc)) (face_stays face y.0 y.1 y.2))

      r_A : map (renamed pairs) A ≡ A
      r_A = map-fixed (renamed pairs) A (ByRecursion-contains (λ t. renamed pairs t ≡ t) A (λ g k.
          let x = fin_of g k in
          fixed g _ _ x.3 (there g _ x.3 (class_apart S g l class.Fin class.Loop (class_is g _ x.3) (class_is l _ l_is) (λ h. cc)) (fin_stays g x.0 x.1 x.2 k x.3))))

      r_f : renamed pairs f ≡ t2
      r_f = (renamed-pair pairs pairs_once (f, t2) (0, omega arith, refl)).0

      r_m : renamed pairs m ≡ t3
      r_m = (renamed-pair pairs pairs_once (m, t3) (1, omega arith, refl)).0

      r_e : renamed pairs e ≡ t1
      r_e = (renamed-pair pairs pairs_once (e, t1) (2, omega arith, refl)).0

      r_v : renamed pairs v ≡ t0
      r_v = (renamed-pair pairs pairs_once (v, t0) (3, omega arith, refl)).0

      both : (t u : Tag) (x y : Item) → item_at S t ≡ Some x → item_at grown u ≡ Some y → SameItem (renamed pairs) x y → SameIfAny (renamed pairs) (item_at S t) (item_at grown u)
      both t u x y is now same = subst (λ (o : Option Item × Option Item). SameIfAny (renamed pairs) o.0 o.1) (λ i. (sym is i, sym now i)) same

      anew : AllByRecursion (λ (q : Tag × Tag). SameIfAny (renamed pairs) (item_at S q.0) (item_at grown q.1)) pairs
      anew = (
        both f t2 _ _ f_is at_2 (λ i. Fin (sym r_m i) (sym r_e i) (sym r_s i)),
        (
          both m t3 _ _ m_is at_3 (λ i. Fin (sym r_f i) (sym r_e i) (sym r_v i)),
          (
            both e t1 _ _ e_is at_1 (λ i. Edge (sym r_b i)),
            (both v t0 _ _ v_is at_0 (λ i. Vertex (sym r_b i) p), tt),
          ),
        ),
      )

      turned : IsTurned (map (renamed pairs) (from_least ring)) (from_least (t2 ∷ t3 ∷ A))
      turned =
          let G = from_least (t2 ∷ t3 ∷ A) in
          let there : IsTurned (map (renamed pairs) ring) (map (renamed pairs) (from_least ring)) = turned-map (renamed pairs) ring (from_least ring) (as-turned (turned-least ring)) in
          let names : map (renamed pairs) ring ≡ t2 ∷ t3 ∷ A = λ i. r_f i ∷ r_m i ∷ r_A i in
          let back : Turned (map (renamed pairs) (from_least ring)) (map (renamed pairs) ring) = turned-back (map (renamed pairs) ring) (map (renamed pairs) (from_least ring)) (from-turned there) in
          as-turned (turned-twice (map (renamed pairs) (from_least ring)) (t2 ∷ t3 ∷ A) G (subst (Turned (map (renamed pairs) (from_least ring))) names back) (turned-least (t2 ∷ t3 ∷ A)))

      others : (t : Tag) → NoneOf t ks → NoneOf t (t2 ∷ t3 ∷ t1 ∷ t0 ∷ []) → SameIfAny (renamed pairs) (item_at S t) (item_at grown t) ⊎ (item_at grown t ≡ but_attributes ks (item_at S t))
      others t none free_of = ⊎_elim {C = SameIfAny (renamed pairs) (item_at S t) (item_at grown t) ⊎ (item_at grown t ≡ but_attributes ks (item_at S t))}
          (λ (same : t ≡ l). inl (subst (λ u. SameIfAny (renamed pairs) (item_at S u) (item_at grown u)) (sym same)
          (both l l _ _ l_is at_l (from_least (t2 ∷ t3 ∷ A), turned, (λ i. Loop (sym r_face i) (from_least (t2 ∷ t3 ∷ A)) None)))))
          (λ (other : t ≢ l). inr (other_at t (free_of.1.1.1.0, (free_of.1.1.0, (free_of.0, (free_of.1.0, tt)))) other ∙ left_at t none other))
          (same_or_other t l)

      pub strut-anew : SameButNames (v ∷ e ∷ f ∷ m ∷ []) (t0 ∷ t1 ∷ t2 ∷ t3 ∷ []) S grown
      strut-anew = same-wider (f ∷ m ∷ e ∷ v ∷ []) (t2 ∷ t3 ∷ t1 ∷ t0 ∷ []) (v ∷ e ∷ f ∷ m ∷ []) (t0 ∷ t1 ∷ t2 ∷ t3 ∷ []) S grown
          (is_among-by (f ∷ m ∷ e ∷ v ∷ t2 ∷ t3 ∷ t1 ∷ t0 ∷ []) (v ∷ e ∷ f ∷ m ∷ t0 ∷ t1 ∷ t2 ∷ t3 ∷ []) (λ t k.
          ByRecursion-at (λ u. Contains (v ∷ e ∷ f ∷ m ∷ t0 ∷ t1 ∷ t2 ∷ t3 ∷ []) u) (f ∷ m ∷ e ∷ v ∷ t2 ∷ t3 ∷ t1 ∷ t0 ∷ []) t
          ((2, omega arith, refl), ((3, omega arith, refl), ((1, omega arith, refl), ((0, omega arith, refl), ((6, omega arith, refl), ((7, omega arith, refl), ((5, omega arith, refl), ((4, omega arith, refl), tt)))))))) k))
          (same-anew S grown well made pairs pairs_once dead new anew others)

-- ---- the law

-- the row of mev at an end that was found
mev-found : (S : Shape) (t : Tag) (at : Triple) (u : End) → end_at S t ≡ Ok u → refuse_outside is_coordinate (numbers_of at) ≡ None → mev S t at ≡ makes_four (λ w e n m. S with strut_items u at w e n m)
mev-found S t at u found within =
    ap (λ r. r >>= (λ (u : End). refuse_outside is_coordinate (numbers_of at) >> makes_four (λ w e n m. S with strut_items u at w e n m))) found
    ∙ ap (λ o. o >> makes_four (λ w e n m. S with strut_items u at w e n m)) within

-- a body is its own
pub own-body : (S : Shape) → IsWell S → (t : Tag) → class_at S t ≡ Some class.Body → body_of S t ≡ t
own-body S well t live = let x = body_of_class (item_at S t) live in (leads_up S well.written well.sound).bodies t x.0 x.1
  where
    body_of_class : (o : Option Item) → option_map class_of_item o ≡ Some class.Body → (shell : Tag) × (o ≡ Some (Body shell))
    body_of_class None h = absurd (cc)
    body_of_class (Some (Body shell)) h = (shell, refl)
    body_of_class (Some (Shell body q)) h = absurd (cc)
    body_of_class (Some (Face shell outer)) h = absurd (cc)
    body_of_class (Some (Loop face fins vertex)) h = absurd (cc)
    body_of_class (Some (Fin mate edge vertex)) h = absurd (cc)
    body_of_class (Some (Edge body)) h = absurd (cc)
    body_of_class (Some (Vertex body point)) h = absurd (cc)
    body_of_class (Some (Attr owner name value)) h = absurd (cc)

-- the mate comes first in the rest of the ring
first-rest : (f m : Tag) (rest : List Tag) → m ≢ f → next_in (f ∷ rest) f ≡ m → (A : List Tag) × (rest ≡ m ∷ A)
first-rest f m rest other next = by_list rest (sym (ap (λ ts. unwrap_or (first_tag (drop 1 ts)) f) (written-itself f rest)) ∙ next)
  where
    by_list : (rest : List Tag) → unwrap_or (first_tag rest) f ≡ m → (A : List Tag) × (rest ≡ m ∷ A)
    by_list [] h = absurd (other (sym h))
    by_list (g ∷ A) h = (A, ap (λ t. t ∷ A) h)

-- what is known of the edge of f, where kev goes
pub record IsStrut (S : Shape) (f : Tag) : Type 0 where
  pub m : Tag
  pub e : Tag
  pub s : Tag
  pub v : Tag
  pub l : Tag
  pub face : Tag
  pub b : Tag
  pub shell : Tag
  pub A : List Tag
  pub p : Point
  pub f_is : item_at S f ≡ Some (Fin m e s)
  pub m_is : item_at S m ≡ Some (Fin f e v)
  pub e_is : item_at S e ≡ Some (Edge b)
  pub v_is : item_at S v ≡ Some (Vertex b p)
  pub b_is : item_at S b ≡ Some (Body shell)
  pub l_is : item_at S l ≡ Some (Loop face (from_least (f ∷ m ∷ A)) None)
  pub loop_body : body_of S l ≡ b
  pub row : kev S f ≡ changes (S with (l, ring_or_lone face A s) ∷ [] without f ∷ m ∷ e ∷ v ∷ [])
  pub end_is : end_left S f ≡ unwrap_or (first_tag A) l
  pub point_is : point_beyond S f ≡ triple_of p
  pub strut_is : strut S f ≡ v ∷ e ∷ f ∷ m ∷ []
  pub fins_are : fins_from S f ≡ f ∷ m ∷ A

pub is-strut : (S : Shape) → IsWell S → (f : Tag) → IsOk (kev S f) → IsStrut S f
is-strut S well f goes =
    let g = goes-on (fin_at S f) _ goes in
    let h = goes-on (fin_at S g.found.mate) _ g.goes in
    let u : PlacedFin = g.found in
    let w : PlacedFin = h.found in
    let U = fin-well S well f (item_at S f) refl u g.is in
    let W = fin-well S well u.mate (item_at S u.mate) refl w h.is in
    let mated = well.sound.mates.fins f u.mate u.edge u.vertex U.fin_is in
    let both : Some (Fin f u.edge mated.end) ≡ Some (Fin w.mate w.edge w.vertex) = sym mated.mate_is ∙ W.fin_is in
    let end : mated.end ≡ w.vertex = cc in
    let m_is : item_at S u.mate ≡ Some (Fin f u.edge w.vertex) = mated.mate_is ∙ ap (λ t. Some (Fin f u.edge t)) end in
    let next = goes-strut S f u w g.is h.is goes in
    let q = first-rest f u.mate U.rest mated.other (ap (λ ts. next_in ts f) (sym U.fins_are) ∙ next) in
    let fins_are : u.fins ≡ f ∷ u.mate ∷ q.0 = U.fins_are ∙ ap (λ ts. f ∷ ts) q.1 in
    let E = edge_of_class (item_at S u.edge) (well.sound.names.kinds f _ U.fin_is).1.0 in
    let V = vertex_of_class (item_at S w.vertex) (well.sound.names.kinds u.mate _ m_is).2.0 in
    let up = leads_up S well.written well.sound in
    let near = well.sound.bodies.fins f u.mate u.edge u.vertex U.fin_is in
    let far = well.sound.bodies.fins u.mate f u.edge w.vertex m_is in
    let edge_body : body_of S u.edge ≡ u.body = near.0 ∙ sym near.1 ∙ U.end.vertex_body in
    let e_body : E.0 ≡ u.body = sym (own-body S well E.0 (well.sound.names.kinds u.edge _ E.1).0) ∙ up.edges u.edge E.0 E.1 ∙ edge_body in
    let v_body : V.0 ≡ u.body = sym (own-body S well V.0 (well.sound.names.kinds w.vertex _ V.2).0) ∙ up.vertices w.vertex V.0 V.1 V.2 ∙ far.1 ∙ sym far.0 ∙ edge_body in
    let x = asked_fin S f (item_at S f) u g.is in
    let loop_same : owner_in S f ≡ u.loop_ = ap (λ (r : PlacedFin). r.loop_) x.4 in
    let fins_same : fins_from S f ≡ f ∷ u.mate ∷ q.0 = ap (λ (r : PlacedFin). r.fins) x.4 ∙ fins_are in
    let mate_same : mate_at S f ≡ u.mate = ap (λ (o : Option Item). option_map_or mate_of o (tag 0)) U.fin_is in
    let edge_same : edge_at S f ≡ u.edge = ap (λ (o : Option Item). option_map_or edge_of o (tag 0)) U.fin_is in
    let start_same : start_at S (mate_at S f) ≡ w.vertex = ap (start_at S) mate_same ∙ ap (λ (o : Option Item). option_map_or vertex_of o (tag 0)) m_is in
    let point_same : point_at S w.vertex ≡ V.1 = ap (λ (o : Option Item). option_map_or point_of_vertex o the_origin) V.2 in
    record {
      m = u.mate;
      e = u.edge;
      s = u.vertex;
      v = w.vertex;
      l = u.loop_;
      face = u.face;
      b = u.body;
      shell = U.end.shell;
      A = q.0;
      p = V.1;
      f_is = U.fin_is;
      m_is = m_is;
      e_is = E.1 ∙ ap (λ t. Some (Edge t)) e_body;
      v_is = V.2 ∙ ap (λ t. Some (Vertex t V.1)) v_body;
      b_is = U.end.body_is;
      l_is = end-item S well (as_end u) U.end ∙ ap (λ fs. Some (ring_or_lone u.face fs u.vertex)) fins_are;
      loop_body = U.end.loop_body;
      row = kev-row S f u w g.is h.is next ∙ ap (λ fs. changes (S with (u.loop_, ring_or_lone u.face (drop 2 fs) u.vertex) ∷ [] without f ∷ u.mate ∷ u.edge ∷ w.vertex ∷ [])) fins_are;
      end_is = λ i. unwrap_or (first_tag (drop 2 (fins_same i))) (loop_same i);
      point_is = ap (λ t. triple_of (point_at S t)) start_same ∙ ap triple_of point_same;
      strut_is = λ i. start_same i ∷ edge_same i ∷ f ∷ mate_same i ∷ [];
      fins_are = fins_same;
    }

kev-mev_at : (m : EntityMap) (f t0 t1 t2 t3 : Tag) (rest : List Tag) → MayFollow m (call.Kev f) 4 (t0 ∷ t1 ∷ t2 ∷ t3 ∷ rest)
    → GivesBackButNames m (call.Kev f) (call.Mev (end_left (shape_of m) f) (point_beyond (shape_of m) f)) (t0 ∷ t1 ∷ t2 ∷ t3 ∷ rest) (strut (shape_of m) f) (t0 ∷ t1 ∷ t2 ∷ t3 ∷ [])
kev-mev_at m f t0 t1 t2 t3 rest may =
    let S = shape_of m in
    let tags = t0 ∷ t1 ∷ t2 ∷ t3 ∷ rest in
    let four = t0 ∷ t1 ∷ t2 ∷ t3 ∷ [] in
    let well = well-shape m may.sound in
    let free = free-items m may.sound tags may.free in
    let once : NoRepeats (t0 ∷ t1 ∷ t2 ∷ t3 ∷ []) = NoRepeats-take 4 tags (ascend-once tags may.ascend) in
    let new : AllByRecursion (λ t. item_at S t ≡ None) (t0 ∷ t1 ∷ t2 ∷ t3 ∷ []) = ByRecursion-take (λ t. item_at S t ≡ None) 4 tags free in
    let a = may.ascend in
    let ascend : TagsAscend (t0 ∷ t1 ∷ t2 ∷ t3 ∷ []) = ((a.0.0, (a.0.1.0, (a.0.1.1.0, tt))), ((a.1.0.0, (a.1.0.1.0, tt)), ((a.1.1.0.0, tt), (tt, tt)))) in
    let k = is-strut S well f may.goes in
    let R = shorn S well f k.m k.e k.s k.v k.l k.face k.b k.shell k.A k.p k.f_is k.m_is k.e_is k.v_is k.b_is k.l_is k.loop_body t0 t1 t2 t3 once new in
    let first : reached S tags (kev S f) ≡ R = ap (reached S tags) k.row in
    let none : cost_of (kev S f) ≡ 0 = cost-changing (kev S f) (kev-changes S f) in
    let cut : IsWell R = subst IsWell first (reached-well S tags (kev S f) well (omega (arith, none)) (kev-keeps S tags f well)) in
    let end = unwrap_or (first_tag k.A) k.l in
    let at = triple_of k.p in
    let Q = grown S well f k.m k.e k.s k.v k.l k.face k.b k.shell k.A k.p k.f_is k.m_is k.e_is k.v_is k.b_is k.l_is k.loop_body t0 t1 t2 t3 once new cut in
    let row = mev-found R end at (record { vertex = k.s; loop_ = k.l; face = k.face; body = body_of R k.l; fins = k.A })
    (end_found S well f k.m k.e k.s k.v k.l k.face k.b k.shell k.A k.p k.f_is k.m_is k.e_is k.v_is k.b_is k.l_is k.loop_body t0 t1 t2 t3 once new cut)
    (within-range k.p (well.sound.measure.points k.v k.b k.p k.v_is)) in
    let goes : IsOk (mev R end at) = subst IsOk (sym row) refl in
    let cost : cost_of (mev R end at) ≡ 4 = mev-cost R end at goes in
    let made : IsWell Q = subst IsWell (ap (reached R four) row) (reached-well R four (mev R end at) cut (let fits : length (t0 ∷ t1 ∷ t2 ∷ t3 ∷ []) ≡ 4 = refl in omega (arith, cost, fits))
    (mev-keeps R four end at cut ascend (still_free S well f k.m k.e k.s k.v k.l k.face k.b k.shell k.A k.p k.f_is k.m_is k.e_is k.v_is k.b_is k.l_is k.loop_body t0 t1 t2 t3 once new))) in
    let same = strut-anew S well f k.m k.e k.s k.v k.l k.face k.b k.shell k.A k.p k.f_is k.m_is k.e_is k.v_is k.b_is k.l_is k.loop_body t0 t1 t2 t3 once new cut made in
    let law : GivesBackButNames m (call.Kev f) (call.Mev end at) tags (k.v ∷ k.e ∷ f ∷ k.m ∷ []) four = gives-back-names m (call.Kev f) (call.Mev end at) tags (k.v ∷ k.e ∷ f ∷ k.m ∷ []) four R Q may.sound first cut goes
    (ap (λ c. reached R (drop c tags) (mev R end at)) (cost-changed m (call.Kev f) (kev-changes S f)) ∙ ap (reached R tags) row) made same in
    subst (λ (z : Tag × Triple × List Tag). GivesBackButNames m (call.Kev f) (call.Mev z.0 z.1) tags z.2 four) (λ i. (sym k.end_is i, sym k.point_is i, sym k.strut_is i)) law

pub kev-mev : (m : EntityMap) (f : Tag) (tags : List Tag) → MayFollow m (call.Kev f) 4 tags
    → GivesBackButNames m (call.Kev f) (call.Mev (end_left (shape_of m) f) (point_beyond (shape_of m) f)) tags (strut (shape_of m) f) (take 4 tags)
kev-mev m f [] may = absurd (let h = may.enough in omega (arith, h))
kev-mev m f (a ∷ []) may = absurd (let h = may.enough in omega (arith, h))
kev-mev m f (a ∷ b ∷ []) may = absurd (let h = may.enough in omega (arith, h))
kev-mev m f (a ∷ b ∷ c ∷ []) may = absurd (let h = may.enough in omega (arith, h))
kev-mev m f (a ∷ b ∷ c ∷ d ∷ rest) may = kev-mev_at m f a b c d rest may
