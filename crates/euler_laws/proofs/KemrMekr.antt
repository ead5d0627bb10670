-- kemr, and then mekr.
use Rattle.std.proofs.Common.{◌≡◌, ◌≢◌, ◌+◌, ◌≤◌, ◌⊎◌, inl, inr, ⊎_elim, Bool, true, false, cond, not, List, [], ◌∷◌, ◌++◌, drop, take, length, Option, Some, None, Result, Ok, refl, sym, ap, subst, ◌∙◌, arith}
use Rattle.std.specs.Prelude.{T, ℤ, IsOk, map, option_map, unwrap_or, Contains}
use Rattle.std.specs.Option.{option_map_or}
use Rattle.std.specs.List.{AllByRecursion}
use Rattle.std.specs.FinMap.{is_sorted}
use Rattle.std.proofs.lemmas.List.Elements.{Contains-append_left, Contains-append_right}
use Rattle.pk_base.specs.Blocks.{tag}
use Rattle.pk_base.specs.Entity.{same_tag}
use Rattle.pk_base.specs.declared.tag.Tag.{Tag}
use Rattle.pk_base.specs.declared.call.Call.TheVariants as call
use Rattle.pk_base.specs.declared.entity.Class.TheVariants as class
use Rattle.pk_base.specs.declared.entity.Point.{Point}
use Rattle.pk_base.proofs.Same.{not_same, same_itself, same_or_other}
use Rattle.pk_model.specs.Apart.{NoRepeats}
use Rattle.pk_model.specs.Maps.{EntityMap, tag_cmp}
use Rattle.pk_model.specs.Tags.{TagsAscend, tag_at}
use Rattle.pk_model.proofs.TagLists.{NoneOf, NoRepeats-between, NoRepeats-take}
use Rattle.list_facts.proofs.Elements.{Contains-first, Contains-later}
use Rattle.list_facts.proofs.Each.{ByRecursion-at, ByRecursion-contains, ByRecursion-take}
use Rattle.solid_model.specs.Items.{Item, Shape, item_at, class_of_item, ◌with◌}
use Rattle.solid_model.specs.Items.Item.{Body, Shell, Face, Loop, Fin, Edge, Vertex, Attr}
use Rattle.solid_model.specs.Deaths.{is_attribute_of, ◌without◌}
use Rattle.solid_model.specs.Rings.{before, first_tag, from, from_least, neighbours, ring_of, ring_or_lone}
use Rattle.solid_model.specs.Owners.{body_of, owner_in}
use Rattle.solid_model.specs.Rows.{Row, cost_of, makes_one, makes_three}
use Rattle.solid_model.specs.Places.{End, PlacedFin, end_at, fin_at, mate_at, mate_of, outer_at, start_at, vertex_of}
use Rattle.solid_model.specs.Shapes.{shape_of}
use Rattle.solid_model.specs.Sound.{class_at, end_of}
use Rattle.solid_model.specs.Kemr.{kemr}
use Rattle.solid_model.specs.Mekr.{mekr}
use Rattle.solid_model.proofs.lists.Cycles.{cut-at}
use Rattle.solid_model.proofs.lists.Neighbours.{among_or_none, neighbour_of, once-last}
use Rattle.solid_model.proofs.lists.Turned.{Turned, turned-all, turned-back, turned-in, turned-least, turned-once}
use Rattle.solid_sound.proofs.shapes.Bodies.{leads_up}
use Rattle.solid_sound.proofs.shapes.Edits.{class_apart, live-none_of}
use Rattle.solid_sound.proofs.shapes.FinRings.{asked_fin}
use Rattle.solid_sound.proofs.shapes.Lookups.{Items, with-other, with-sorted, with-written}
use Rattle.solid_sound.proofs.shapes.Reading.{fin_in, fins-once, vertex_of_class}
use Rattle.solid_sound.proofs.edges.EdgeDeaths.{edge_of_class}
use Rattle.solid_sound.proofs.edges.Ends.{FinIn, as_end, fin-well}
use Rattle.solid_sound.proofs.rows.RowKeeps.{IsWell, well-shape}
use Rattle.solid_sound.proofs.rows.KeptKemr.{kemr-keeps}
use Rattle.solid_sound.proofs.rows.KeptMekr.{mekr-keeps}
use Rattle.solid_sound.proofs.rows.KeptRings.{face_in, face_of_class}
use Rattle.solid_calls.specs.Pairs.{reached, row_on}
use Rattle.solid_calls.proofs.Kept.{reached-well}
use Rattle.solid_calls.proofs.RowKinds.{cost-making, kemr-makes, mekr-makes}
use Rattle.solid_edits.proofs.Going.{goes-on}
use Rattle.euler_make.proofs.MekrFound.{AreApart, mekr-cost, mekr-is}
use Rattle.euler_kill.proofs.KemrFound.{kemr-goes, kemr-is}
use Rattle.euler_laws.specs.Both.{GivesBackButNames, MayFollow, cost_on}
use Rattle.solid_model.specs.SameButNames.{IsTurned, SameButNames, SameIfAny, SameItem, but_attributes}
use Rattle.euler_laws.specs.Operands.{bridge, cut_end, edge_at, edge_of, fins_from, kept_end}
use Rattle.euler_laws.proofs.AnewNames.{but-none, left-without, live-both, pairs-once, ring-plain, same-anew}
use Rattle.euler_laws.proofs.Carrying.{cost-made}
use Rattle.euler_laws.proofs.GivenBack.{killed-none, spared}
use Rattle.euler_laws.proofs.KevMev.{end-there, loop-body, own-body}
use Rattle.euler_laws.proofs.Laws.{ascend-once, free-items, gives-back-names}
use Rattle.euler_laws.proofs.Placed.{end-item, owns-none}
use Rattle.euler_laws.proofs.Renamings.{Pairs, both_of, renamed, renamed-pair}
use Rattle.euler_laws.proofs.SameNames.{as-turned, from-turned, is_among-by, map-append, map-fixed, same-wider, turned-map}
use Rattle.euler_laws.proofs.TurnedLists.{turned-twice}

-- ---- the edge of f, which has one loop on both sides

-- the fin starts at s, and its mate m at r; the loop is f A m B
module _ (S : Shape) (well : IsWell S) (f m e s r l face b shell outer : Tag) (A B : List Tag)
    (f_is : item_at S f ≡ Some (Fin m e s)) (m_is : item_at S m ≡ Some (Fin f e r)) (e_is : item_at S e ≡ Some (Edge b)) (b_is : item_at S b ≡ Some (Body shell))
    (l_is : item_at S l ≡ Some (Loop face (from_least (f ∷ A ++ m ∷ B)) None)) (loop_body : body_of S l ≡ b) (face_is : item_at S face ≡ Some (Face shell outer))
    (t0 t1 t2 t3 : Tag) (once : NoRepeats (t0 ∷ t1 ∷ t2 ∷ t3 ∷ [])) (free : AllByRecursion (λ t. item_at S t ≡ None) (t0 ∷ t1 ∷ t2 ∷ t3 ∷ [])) where
  abbrev ring : List Tag
  ring = f ∷ A ++ m ∷ B

  abbrev ks : List Tag
  ks = f ∷ m ∷ e ∷ []

  abbrev cut : Items
  cut = (l, ring_or_lone face B s) ∷ (t0, ring_or_lone face A r) ∷ []

  abbrev pub holed : Shape
  holed = S with cut without ks

  abbrev new : List Tag
  new = t0 ∷ t1 ∷ t2 ∷ t3 ∷ []

  class_is : (t : Tag) (x : Item) → item_at S t ≡ Some x → option_map class_of_item (item_at S t) ≡ Some (class_of_item x)
  class_is t x is = ap (option_map class_of_item) is

  s_class : class_at S s ≡ Some class.Vertex
  s_class = (well.sound.names.kinds f _ f_is).2.0

  r_class : class_at S r ≡ Some class.Vertex
  r_class = (well.sound.names.kinds m _ m_is).2.0

  live_new : (t : Tag) (x : Item) → item_at S t ≡ Some x → NoneOf t new
  live_new t x is = live-none_of S new t x free is

  ring_once : NoRepeats ring
  ring_once = turned-once (from_least ring) ring (turned-back ring (from_least ring) (turned-least ring)) (fins-once S well.written well.sound l face (from_least ring) None l_is)

  m_other : m ≢ f
  m_other = (well.sound.mates.fins f m e s f_is).other

  s_other : s ≢ r
  s_other h =
      let mated = well.sound.mates.fins f m e s f_is in
      let both : Some (Fin f e mated.end) ≡ Some (Fin f e r) = sym mated.mate_is ∙ m_is in
      let end : mated.end ≡ r = cc in
      mated.apart (end ∙ sym h)

  l_apart : NoneOf l ks
  l_apart = (
    class_apart S l f class.Loop class.Fin (class_is l _ l_is) (class_is f _ f_is) (λ h. cc),
    (
      class_apart S l m class.Loop class.Fin (class_is l _ l_is) (class_is m _ m_is) (λ h. cc),
      (class_apart S l e class.Loop class.Edge (class_is l _ l_is) (class_is e _ e_is) (λ h. cc), tt),
    ),
  )

  new_apart : (t : Tag) → Contains new t → NoneOf t ks
  new_apart t k = ((λ h. ByRecursion-at (λ z. f ≢ z) new t (live_new f _ f_is) k (sym h)), ((λ h. ByRecursion-at (λ z. m ≢ z) new t (live_new m _ m_is) k (sym h)), ((λ h. ByRecursion-at (λ z. e ≢ z) new t (live_new e _ e_is) k (sym h)), tt)))

  new_l : (t : Tag) → Contains new t → t ≢ l
  new_l t k h = ByRecursion-at (λ z. l ≢ z) new t (live_new l _ l_is) k (sym h)

  ks_once : NoRepeats ks
  ks_once = (((λ h. m_other (sym h)), (class_apart S f e class.Fin class.Edge (class_is f _ f_is) (class_is e _ e_is) (λ h. cc), tt)), ((class_apart S m e class.Fin class.Edge (class_is m _ m_is) (class_is e _ e_is) (λ h. cc), tt), (tt, tt)))

  sorted_cut : T (is_sorted tag_cmp (S with cut))
  sorted_cut = with-sorted S cut well.written.ascends

  -- ---- what is left

  left_at : (t : Tag) → NoneOf t ks → t ≢ l → t ≢ t0 → item_at holed t ≡ but_attributes ks (item_at S t)
  left_at t none other new = left-without (S with cut) ks sorted_cut t none ∙ ap (but_attributes ks) (with-other S cut t (other, (new, tt)))

  ring_left : (t : Tag) (C : List Tag) (v : Tag) → Contains cut (t, ring_or_lone face C v) → NoneOf t ks → item_at holed t ≡ Some (ring_or_lone face C v)
  ring_left t C v k none =
      let there : item_at (S with cut) t ≡ Some (ring_or_lone face C v) = with-written S cut t _ (((live_new l _ l_is).0, tt), (tt, tt)) k in
      spared (S with cut) ks sorted_cut t none (λ y h. let both : Some y ≡ Some (ring_or_lone face C v) = sym h ∙ there in let same : y ≡ ring_or_lone face C v = cc in ap (is_attribute_of ks) same ∙ ring-plain ks face C v) ∙ there

  l_left : item_at holed l ≡ Some (ring_or_lone face B s)
  l_left = ring_left l B s (0, omega arith, refl) l_apart

  t0_left : item_at holed t0 ≡ Some (ring_or_lone face A r)
  t0_left = ring_left t0 A r (1, omega arith, refl) (new_apart t0 (0, omega arith, refl))

  gone : (t : Tag) → Contains ks t → item_at holed t ≡ None
  gone t k = killed-none (S with cut) ks sorted_cut t k

  pub still_free : AllByRecursion (λ t. item_at holed t ≡ None) (t1 ∷ t2 ∷ t3 ∷ [])
  still_free =
      let stays = λ (t : Tag) (k : Contains new t) (none : item_at S t ≡ None) (other : t ≢ t0). left_at t (new_apart t k) (new_l t k) other ∙ ap (but_attributes ks) none in
      (stays t1 (1, omega arith, refl) free.1.0 (λ h. once.0.0 (sym h)), (stays t2 (2, omega arith, refl) free.1.1.0 (λ h. once.0.1.0 (sym h)), (stays t3 (3, omega arith, refl) free.1.1.1.0 (λ h. once.0.1.1.0 (sym h)), tt)))

  stays : (t : Tag) (x : Item) → item_at S t ≡ Some x → is_attribute_of ks x ≡ false → NoneOf t ks → t ≢ l → item_at holed t ≡ Some x
  stays t x is plain none other = left_at t none other (live_new t x is).0 ∙ ap (but_attributes ks) is ∙ ap (λ c. cond c None (Some x)) plain

  face_stays : (t a o : Tag) → item_at S t ≡ Some (Face a o) → item_at holed t ≡ Some (Face a o)
  face_stays t a o is = stays t (Face a o) is refl
      (class_apart S t f class.Face class.Fin (class_is t _ is) (class_is f _ f_is) (λ h. cc), (class_apart S t m class.Face class.Fin (class_is t _ is) (class_is m _ m_is) (λ h. cc), (class_apart S t e class.Face class.Edge (class_is t _ is) (class_is e _ e_is) (λ h. cc), tt)))
      (class_apart S t l class.Face class.Loop (class_is t _ is) (class_is l _ l_is) (λ h. cc))

  shell_stays : (t a : Tag) (q : ℤ) → item_at S t ≡ Some (Shell a q) → item_at holed t ≡ Some (Shell a q)
  shell_stays t a q is = stays t (Shell a q) is refl
      (class_apart S t f class.Shell class.Fin (class_is t _ is) (class_is f _ f_is) (λ h. cc), (class_apart S t m class.Shell class.Fin (class_is t _ is) (class_is m _ m_is) (λ h. cc), (class_apart S t e class.Shell class.Edge (class_is t _ is) (class_is e _ e_is) (λ h. cc), tt)))
      (class_apart S t l class.Shell class.Loop (class_is t _ is) (class_is l _ l_is) (λ h. cc))

  b_stays : item_at holed b ≡ Some (Body shell)
  b_stays = stays b (Body shell) b_is refl
      (class_apart S b f class.Body class.Fin (class_is b _ b_is) (class_is f _ f_is) (λ h. cc), (class_apart S b m class.Body class.Fin (class_is b _ b_is) (class_is m _ m_is) (λ h. cc), (class_apart S b e class.Body class.Edge (class_is b _ b_is) (class_is e _ e_is) (λ h. cc), tt)))
      (class_apart S b l class.Body class.Loop (class_is b _ b_is) (class_is l _ l_is) (λ h. cc))

  vertex_stays : (t body : Tag) (q : Point) → item_at S t ≡ Some (Vertex body q) → item_at holed t ≡ Some (Vertex body q)
  vertex_stays t body q is = stays t (Vertex body q) is refl
      (class_apart S t f class.Vertex class.Fin (class_is t _ is) (class_is f _ f_is) (λ h. cc), (class_apart S t m class.Vertex class.Fin (class_is t _ is) (class_is m _ m_is) (λ h. cc), (class_apart S t e class.Vertex class.Edge (class_is t _ is) (class_is e _ e_is) (λ h. cc), tt)))
      (class_apart S t l class.Vertex class.Loop (class_is t _ is) (class_is l _ l_is) (λ h. cc))

  fin_stays : (g mate edge start : Tag) → g ≢ f → g ≢ m → item_at S g ≡ Some (Fin mate edge start) → item_at holed g ≡ Some (Fin mate edge start)
  fin_stays g mate edge start nf nm is = stays g (Fin mate edge start) is refl (nf, (nm, (class_apart S g e class.Fin class.Edge (class_is g _ is) (class_is e _ e_is) (λ h. cc), tt)))
      (class_apart S g l class.Fin class.Loop (class_is g _ is) (class_is l _ l_is) (λ h. cc))

  fin_of : (g : Tag) → Contains ring g → (mate : Tag) × (edge : Tag) × (start : Tag) × (item_at S g ≡ Some (Fin mate edge start))
  fin_of g k = fin_in S well.written well.sound l face (from_least ring) None l_is g (turned-in ring (from_least ring) (turned-least ring) g k)

  in_A : (g : Tag) → Contains A g → Contains ring g
  in_A g k = Contains-append_left (f ∷ A) (m ∷ B) g (Contains-later f A g k)

  in_B : (g : Tag) → Contains B g → Contains ring g
  in_B g k = Contains-append_right (f ∷ A) (m ∷ B) g (Contains-later m B g k)

  A_f : (g : Tag) → Contains A g → g ≢ f
  A_f g k h = ByRecursion-at (λ z. f ≢ z) (A ++ m ∷ B) g ring_once.0 (Contains-append_left A (m ∷ B) g k) (sym h)

  A_m : (g : Tag) → Contains A g → g ≢ m
  A_m g k h = NoRepeats-between (f ∷ A) (m ∷ B) g ring_once (Contains-later f A g k) (subst (Contains (m ∷ B)) (sym h) (Contains-first m B))

  B_f : (g : Tag) → Contains B g → g ≢ f
  B_f g k h = ByRecursion-at (λ z. f ≢ z) (A ++ m ∷ B) g ring_once.0 (Contains-append_right A (m ∷ B) g (Contains-later m B g k)) (sym h)

  B_m : (g : Tag) → Contains B g → g ≢ m
  B_m g k h = ByRecursion-at (λ z. m ≢ z) B g (once_right (f ∷ A) (m ∷ B) ring_once).0 k (sym h)
    where
      once_right : (xs ys : List Tag) → NoRepeats (xs ++ ys) → NoRepeats ys
      once_right [] ys h = h
      once_right (x ∷ xs) ys h = once_right xs ys h.1

  -- what comes after a fin of the ring starts where that fin ends
  follows : (p g : Tag) → Contains {X = Tag × Tag} (neighbours ring) (p, g) → start_at S g ≡ end_of S p
  follows p g k = ByRecursion-at (λ (n : Tag × Tag). start_at S n.1 ≡ end_of S n.0) (neighbours ring) (p, g)
      (turned-all (λ n. start_at S n.1 ≡ end_of S n.0) (from_least ring) ring (turned-back ring (from_least ring) (turned-least ring)) (well.sound.follow l face (from_least ring) None l_is)) k

  starts_at : (g t mate edge start : Tag) → item_at S g ≡ Some (Fin mate edge start) → start_at S g ≡ t → start ≡ t
  starts_at g t mate edge start is h = sym (ap (λ (o : Option Item). option_map_or vertex_of o (tag 0)) is) ∙ h

  end_m : end_of S m ≡ s
  end_m = ap (start_at S) (ap (λ (o : Option Item). option_map_or mate_of o (tag 0)) m_is) ∙ ap (λ (o : Option Item). option_map_or vertex_of o (tag 0)) f_is

  end_f : end_of S f ≡ r
  end_f = ap (start_at S) (ap (λ (o : Option Item). option_map_or mate_of o (tag 0)) f_is) ∙ ap (λ (o : Option Item). option_map_or vertex_of o (tag 0)) m_is

  first_B : (g : Tag) (gs : List Tag) → B ≡ g ∷ gs → (mate : Tag) × (edge : Tag) × (item_at holed g ≡ Some (Fin mate edge s))
  first_B g gs same =
      let k : Contains B g = subst (λ ts. Contains ts g) (sym same) (Contains-first g gs) in
      let x = fin_of g (in_B g k) in
      let next : Contains {X = Tag × Tag} (neighbours (f ∷ A ++ m ∷ (g ∷ gs))) (m, g) = neighbour_of m (f ∷ A) (g ∷ gs) in
      let start : x.2 ≡ s = starts_at g s x.0 x.1 x.2 x.3 (follows m g (subst (λ ts. Contains {X = Tag × Tag} (neighbours (f ∷ A ++ m ∷ ts)) (m, g)) (sym same) next) ∙ end_m) in
      (x.0, x.1, fin_stays g x.0 x.1 x.2 (B_f g k) (B_m g k) x.3 ∙ ap (λ t. Some (Fin x.0 x.1 t)) start)

  first_A : (g : Tag) (gs : List Tag) → A ≡ g ∷ gs → (mate : Tag) × (edge : Tag) × (item_at holed g ≡ Some (Fin mate edge r))
  first_A g gs same =
      let k : Contains A g = subst (λ ts. Contains ts g) (sym same) (Contains-first g gs) in
      let x = fin_of g (in_A g k) in
      let next : Contains {X = Tag × Tag} (neighbours (f ∷ (g ∷ gs) ++ m ∷ B)) (f, g) = neighbour_of f [] ((g ∷ gs) ++ m ∷ B) in
      let start : x.2 ≡ r = starts_at g r x.0 x.1 x.2 x.3 (follows f g (subst (λ ts. Contains {X = Tag × Tag} (neighbours (f ∷ ts ++ m ∷ B)) (f, g)) (sym same) next) ∙ end_f) in
      (x.0, x.1, fin_stays g x.0 x.1 x.2 (A_f g k) (A_m g k) x.3 ∙ ap (λ t. Some (Fin x.0 x.1 t)) start)

  parts_once : NoRepeats A × NoRepeats B
  parts_once = (once_left A (m ∷ B) ring_once.1, (once_right A (m ∷ B) ring_once.1).1)
    where
      once_left : (xs ys : List Tag) → NoRepeats (xs ++ ys) → NoRepeats xs
      once_left [] ys h = tt
      once_left (x ∷ xs) ys h = (ByRecursion-contains (λ z. x ≢ z) xs (λ z k. ByRecursion-at (λ z. x ≢ z) (xs ++ ys) z h.0 (Contains-append_left xs ys z k)), once_left xs ys h.1)

      once_right : (xs ys : List Tag) → NoRepeats (xs ++ ys) → NoRepeats ys
      once_right [] ys h = h
      once_right (x ∷ xs) ys h = once_right xs ys h.1

  -- ---- what is made anew

  abbrev ys : Items
  ys = (t1, Edge b) ∷ (t2, Fin t3 t1 s) ∷ (t3, Fin t2 t1 r) ∷ (l, ring_of face (t2 ∷ A ++ t3 ∷ B)) ∷ []

  abbrev pub bridged : Shape
  bridged = holed with ys without t0 ∷ []

  module _ (cut_well : IsWell holed) where
    body_same : body_of holed l ≡ b
    body_same = by_list B l_left
      where
        by_list : (C : List Tag) → item_at holed l ≡ Some (ring_or_lone face C s) → body_of holed l ≡ b
        by_list [] is = loop-body S holed well cut_well l face (from_least ring) [] None (Some s) l_is is face_stays shell_stays ∙ loop_body
        by_list (g ∷ gs) is = loop-body S holed well cut_well l face (from_least ring) (from_least (g ∷ gs)) None None l_is is face_stays shell_stays ∙ loop_body

    apart : AreApart holed (record { vertex = s; loop_ = l; face = face; body = body_of holed l; fins = B }) (record { vertex = r; loop_ = t0; face = face; body = body_of holed t0; fins = A })
    apart =
        let o = well.sound.outer face shell outer face_is in
        let G = face_in holed cut_well face shell outer (face_stays face shell outer face_is) in
        record {
          face = same_itself face;
          loops = not_same l t0 (live_new l _ l_is).0;
          outer = ap (same_tag t0) G.outer_is ∙ not_same t0 outer (λ h. (live_new outer _ o.2).0 (sym h));
          ends = not_same s r s_other;
        }

    pub row : mekr holed (unwrap_or (first_tag B) l) (unwrap_or (first_tag A) t0) ≡ makes_three (λ edge x y. holed with (edge, Edge b) ∷ (x, Fin y edge s) ∷ (y, Fin x edge r) ∷ (l, ring_of face (x ∷ A ++ y ∷ B)) ∷ [] without t0 ∷ [])
    row =
        mekr-is holed (unwrap_or (first_tag B) l) (unwrap_or (first_tag A) t0) (record { vertex = s; loop_ = l; face = face; body = body_of holed l; fins = B }) (record { vertex = r; loop_ = t0; face = face; body = body_of holed t0; fins = A })
        (end-there holed cut_well l face s B l_left parts_once.1 first_B) (end-there holed cut_well t0 face r A t0_left parts_once.0 first_A) apart
        ∙ ap (λ c. makes_three (λ edge x y. holed with (edge, Edge c) ∷ (x, Fin y edge s) ∷ (y, Fin x edge r) ∷ (l, ring_of face (x ∷ A ++ y ∷ B)) ∷ [] without t0 ∷ [])) body_same

    sorted_ys : T (is_sorted tag_cmp (holed with ys))
    sorted_ys = with-sorted holed ys cut_well.written.ascends

    ys_once : NoRepeats (t1 ∷ t2 ∷ t3 ∷ l ∷ [])
    ys_once = once-last (t1 ∷ t2 ∷ t3 ∷ []) l once.1 (live_new l _ l_is).1

    writes : (t : Tag) (x : Item) → Contains ys (t, x) → t ≢ t0 → is_attribute_of (t0 ∷ []) x ≡ false → item_at bridged t ≡ Some x
    writes t x k other plain =
        let there : item_at (holed with ys) t ≡ Some x = with-written holed ys t x ys_once k in
        spared (holed with ys) (t0 ∷ []) sorted_ys t (other, tt) (λ y h. let both : Some y ≡ Some x = sym h ∙ there in let same : y ≡ x = cc in ap (is_attribute_of (t0 ∷ [])) same ∙ plain) ∙ there

    at_1 : item_at bridged t1 ≡ Some (Edge b)
    at_1 = writes t1 _ (0, omega arith, refl) (λ h. once.0.0 (sym h)) refl

    at_2 : item_at bridged t2 ≡ Some (Fin t3 t1 s)
    at_2 = writes t2 _ (1, omega arith, refl) (λ h. once.0.1.0 (sym h)) refl

    at_3 : item_at bridged t3 ≡ Some (Fin t2 t1 r)
    at_3 = writes t3 _ (2, omega arith, refl) (λ h. once.0.1.1.0 (sym h)) refl

    at_l : item_at bridged l ≡ Some (Loop face (from_least (t2 ∷ A ++ t3 ∷ B)) None)
    at_l = writes l _ (3, omega arith, refl) (live_new l _ l_is).0 refl

    t0_gone : item_at bridged t0 ≡ None
    t0_gone = killed-none (holed with ys) (t0 ∷ []) sorted_ys t0 (0, omega arith, refl)

    other_at : (t : Tag) → NoneOf t new → t ≢ l → item_at bridged t ≡ but_attributes (t0 ∷ []) (item_at holed t)
    other_at t none other = left-without (holed with ys) (t0 ∷ []) sorted_ys t (none.0, tt) ∙ ap (but_attributes (t0 ∷ [])) (with-other holed ys t (none.1.0, (none.1.1.0, (none.1.1.1.0, (other, tt)))))

    abbrev pairs : Pairs
    pairs = (f, t2) ∷ (m, t3) ∷ (e, t1) ∷ []

    pairs_once : NoRepeats (both_of pairs)
    pairs_once = pairs-once S pairs ((_, f_is), ((_, m_is), ((_, e_is), tt))) (free.1.1.0, (free.1.1.1.0, (free.1.0, tt))) ks_once
        ((once.1.1.0.0, ((λ h. once.1.0.0 (sym h)), tt)), (((λ h. once.1.0.1.0 (sym h)), tt), (tt, tt)))

    module _ (made : IsWell bridged) where
      dead : AllByRecursion (λ (q : Tag × Tag). item_at bridged q.0 ≡ None) pairs
      dead = (
        other_at f (live_new f _ f_is) (λ h. l_apart.0 (sym h)) ∙ ap (but_attributes (t0 ∷ [])) (gone f (0, omega arith, refl)),
        (
          other_at m (live_new m _ m_is) (λ h. l_apart.1.0 (sym h)) ∙ ap (but_attributes (t0 ∷ [])) (gone m (1, omega arith, refl)),
          (other_at e (live_new e _ e_is) (λ h. l_apart.1.1.0 (sym h)) ∙ ap (but_attributes (t0 ∷ [])) (gone e (2, omega arith, refl)), tt),
        ),
      )

      fresh : AllByRecursion (λ (q : Tag × Tag). item_at S q.1 ≡ None) pairs
      fresh = (free.1.1.0, (free.1.1.1.0, (free.1.0, tt)))

      -- what is left and is not the loop, nor an attribute, is there in the end, and keeps its name
      fixed : (t : Tag) (x : Item) → item_at S t ≡ Some x → is_attribute_of (t0 ∷ []) x ≡ false → t ≢ l → item_at holed t ≡ Some x → renamed pairs t ≡ t
      fixed t x is plain other now = live-both S bridged well made pairs pairs_once dead fresh t x x is
          (other_at t (live_new t x is) other ∙ ap (but_attributes (t0 ∷ [])) now ∙ ap (λ c. cond c None (Some x)) plain)

      r_b : renamed pairs b ≡ b
      r_b = fixed b _ b_is refl (class_apart S b l class.Body class.Loop (class_is b _ b_is) (class_is l _ l_is) (λ h. cc)) b_stays

      r_vertex : (v : Tag) → class_at S v ≡ Some class.Vertex → renamed pairs v ≡ v
      r_vertex v h = let y = vertex_of_class (item_at S v) h in fixed v _ y.2 refl (class_apart S v l class.Vertex class.Loop h (class_is l _ l_is) (λ k. cc)) (vertex_stays v y.0 y.1 y.2)

      r_face : renamed pairs face ≡ face
      r_face = fixed face _ face_is refl (class_apart S face l class.Face class.Loop (class_is face _ face_is) (class_is l _ l_is) (λ h. cc)) (face_stays face shell outer face_is)

      r_fin : (g : Tag) → Contains ring g → g ≢ f → g ≢ m → renamed pairs g ≡ g
      r_fin g k nf nm = let x = fin_of g k in fixed g _ x.3 refl (class_apart S g l class.Fin class.Loop (class_is g _ x.3) (class_is l _ l_is) (λ h. cc)) (fin_stays g x.0 x.1 x.2 nf nm x.3)

      r_A : map (renamed pairs) A ≡ A
      r_A = map-fixed (renamed pairs) A (ByRecursion-contains (λ t. renamed pairs t ≡ t) A (λ g k. r_fin g (in_A g k) (A_f g k) (A_m g k)))

      r_B : map (renamed pairs) B ≡ B
      r_B = map-fixed (renamed pairs) B (ByRecursion-contains (λ t. renamed pairs t ≡ t) B (λ g k. r_fin g (in_B g k) (B_f g k) (B_m g k)))

      r_f : renamed pairs f ≡ t2
      r_f = (renamed-pair pairs pairs_once (f, t2) (0, omega arith, refl)).0

      r_m : renamed pairs m ≡ t3
      r_m = (renamed-pair pairs pairs_once (m, t3) (1, omega arith, refl)).0

      r_e : renamed pairs e ≡ t1
      r_e = (renamed-pair pairs pairs_once (e, t1) (2, omega arith, refl)).0

      both : (t u : Tag) (x y : Item) → item_at S t ≡ Some x → item_at bridged u ≡ Some y → SameItem (renamed pairs) x y → SameIfAny (renamed pairs) (item_at S t) (item_at bridged u)
      both t u x y is now same = subst (λ (o : Option Item × Option Item). SameIfAny (renamed pairs) o.0 o.1) (λ i. (sym is i, sym now i)) same

      anew : AllByRecursion (λ (q : Tag × Tag). SameIfAny (renamed pairs) (item_at S q.0) (item_at bridged q.1)) pairs
      anew = (
        both f t2 _ _ f_is at_2 (λ i. Fin (sym r_m i) (sym r_e i) (sym (r_vertex s s_class) i)),
        (
          both m t3 _ _ m_is at_3 (λ i. Fin (sym r_f i) (sym r_e i) (sym (r_vertex r r_class) i)),
          (both e t1 _ _ e_is at_1 (λ i. Edge (sym r_b i)), tt),
        ),
      )

      turned : IsTurned (map (renamed pairs) (from_least ring)) (from_least (t2 ∷ A ++ t3 ∷ B))
      turned =
          let N = t2 ∷ A ++ t3 ∷ B in
          let there : IsTurned (map (renamed pairs) ring) (map (renamed pairs) (from_least ring)) = turned-map (renamed pairs) ring (from_least ring) (as-turned (turned-least ring)) in
          let names : map (renamed pairs) ring ≡ t2 ∷ A ++ t3 ∷ B = map-append (renamed pairs) (f ∷ A) (m ∷ B) ∙ (λ i. (r_f i ∷ r_A i) ++ (r_m i ∷ r_B i)) in
          let back : Turned (map (renamed pairs) (from_least ring)) (map (renamed pairs) ring) = turned-back (map (renamed pairs) ring) (map (renamed pairs) (from_least ring)) (from-turned there) in
          as-turned (turned-twice (map (renamed pairs) (from_least ring)) N (from_least N) (subst (Turned (map (renamed pairs) (from_least ring))) names back) (turned-least N))

      others : (t : Tag) → NoneOf t ks → NoneOf t (t2 ∷ t3 ∷ t1 ∷ []) → SameIfAny (renamed pairs) (item_at S t) (item_at bridged t) ⊎ (item_at bridged t ≡ but_attributes ks (item_at S t))
      others t none new_of = ⊎_elim {C = SameIfAny (renamed pairs) (item_at S t) (item_at bridged t) ⊎ (item_at bridged t ≡ but_attributes ks (item_at S t))}
          (λ (same : t ≡ l). inl (subst (λ u. SameIfAny (renamed pairs) (item_at S u) (item_at bridged u)) (sym same)
          (both l l _ _ l_is at_l (from_least (t2 ∷ A ++ t3 ∷ B), turned, (λ i. Loop (sym r_face i) (from_least (t2 ∷ A ++ t3 ∷ B)) None)))))
          (λ (other : t ≢ l). ⊎_elim {C = SameIfAny (renamed pairs) (item_at S t) (item_at bridged t) ⊎ (item_at bridged t ≡ but_attributes ks (item_at S t))}
          (λ (same : t ≡ t0). inl (subst (λ u. SameIfAny (renamed pairs) (item_at S u) (item_at bridged u)) (sym same)
          (subst (λ (o : Option Item × Option Item). SameIfAny (renamed pairs) o.0 o.1) (λ i. (sym free.0 i, sym t0_gone i)) tt)))
          (λ (also : t ≢ t0). inr (other_at t (also, (new_of.1.1.0, (new_of.0, (new_of.1.0, tt)))) other ∙ ap (but_attributes (t0 ∷ [])) (left_at t none other also)
          ∙ but-none S (t0 ∷ []) ks (owns-none S well (t0 ∷ []) (free.0, tt)) t))
          (same_or_other t t0))
          (same_or_other t l)

      pub bridge-anew : SameButNames (e ∷ f ∷ m ∷ []) (t1 ∷ t2 ∷ t3 ∷ []) S bridged
      bridge-anew = same-wider (f ∷ m ∷ e ∷ []) (t2 ∷ t3 ∷ t1 ∷ []) (e ∷ f ∷ m ∷ []) (t1 ∷ t2 ∷ t3 ∷ []) S bridged
          (is_among-by (f ∷ m ∷ e ∷ t2 ∷ t3 ∷ t1 ∷ []) (e ∷ f ∷ m ∷ t1 ∷ t2 ∷ t3 ∷ []) (λ t k.
          ByRecursion-at (λ u. Contains (e ∷ f ∷ m ∷ t1 ∷ t2 ∷ t3 ∷ []) u) (f ∷ m ∷ e ∷ t2 ∷ t3 ∷ t1 ∷ []) t
          ((1, omega arith, refl), ((2, omega arith, refl), ((0, omega arith, refl), ((4, omega arith, refl), ((5, omega arith, refl), ((3, omega arith, refl), tt)))))) k))
          (same-anew S bridged well made pairs pairs_once dead fresh anew others)

-- ---- the law

-- what is known of the edge of f, where kemr goes
pub record IsBridge (S : Shape) (f : Tag) : Type 0 where
  pub m : Tag
  pub e : Tag
  pub s : Tag
  pub r : Tag
  pub l : Tag
  pub face : Tag
  pub b : Tag
  pub shell : Tag
  pub outer : Tag
  pub A : List Tag
  pub B : List Tag
  pub f_is : item_at S f ≡ Some (Fin m e s)
  pub m_is : item_at S m ≡ Some (Fin f e r)
  pub e_is : item_at S e ≡ Some (Edge b)
  pub b_is : item_at S b ≡ Some (Body shell)
  pub l_is : item_at S l ≡ Some (Loop face (from_least (f ∷ A ++ m ∷ B)) None)
  pub loop_body : body_of S l ≡ b
  pub face_is : item_at S face ≡ Some (Face shell outer)
  pub row : kemr S f ≡ makes_one (λ ring. S with (l, ring_or_lone face B s) ∷ (ring, ring_or_lone face A r) ∷ [] without f ∷ m ∷ e ∷ [])
  pub fins_are : fins_from S f ≡ f ∷ A ++ m ∷ B
  pub keep_is : kept_end S f ≡ unwrap_or (first_tag B) l
  pub cut_is : (t : Tag) → cut_end S f t ≡ unwrap_or (first_tag A) t
  pub bridge_is : bridge S f ≡ e ∷ f ∷ m ∷ []

pub is-bridge : (S : Shape) → IsWell S → (f : Tag) → IsOk (kemr S f) → IsBridge S f
is-bridge S well f goes =
    let g = goes-on (fin_at S f) _ goes in
    let h = goes-on (fin_at S g.found.mate) _ g.goes in
    let u : PlacedFin = g.found in
    let w : PlacedFin = h.found in
    let U = fin-well S well f (item_at S f) refl u g.is in
    let W = fin-well S well u.mate (item_at S u.mate) refl w h.is in
    let mated = well.sound.mates.fins f u.mate u.edge u.vertex U.fin_is in
    let both : Some (Fin f u.edge mated.end) ≡ Some (Fin w.mate w.edge w.vertex) = sym mated.mate_is ∙ W.fin_is in
    let end : mated.end ≡ w.vertex = cc in
    let m_is : item_at S u.mate ≡ Some (Fin f u.edge w.vertex) = mated.mate_is ∙ ap (λ t. Some (Fin f u.edge t)) end in
    let one = kemr-goes S f u w g.is h.is goes in
    let loops : Some (Loop u.face U.end.list U.end.lone) ≡ Some (Loop w.face W.end.list W.end.lone) = sym U.end.loop_is ∙ ap (item_at S) one ∙ W.end.loop_is in
    let lists : U.end.list ≡ W.end.list = cc in
    let in_w : Contains W.end.list u.mate = turned-in w.fins W.end.list (turned-back W.end.list w.fins W.end.turned) u.mate (subst (λ ts. Contains ts u.mate) (sym W.fins_are) (Contains-first u.mate W.rest)) in
    let in_u : Contains u.fins u.mate = turned-in U.end.list u.fins U.end.turned u.mate (subst (λ ts. Contains ts u.mate) (sym lists) in_w) in
    let c = cut-at f u.mate U.rest mated.other (subst (λ ts. Contains ts u.mate) U.fins_are in_u) in
    let A = c.ahead in
    let B = c.behind in
    let fins_are : u.fins ≡ f ∷ A ++ u.mate ∷ B = U.fins_are ∙ ap (λ ts. f ∷ ts) c.is in
    let from_is : from u.mate u.fins ≡ u.mate ∷ B = ap (from u.mate) U.fins_are ∙ c.from_is in
    let before_is : before u.mate u.fins ≡ f ∷ A = ap (before u.mate) U.fins_are ∙ c.before_is in
    let E = edge_of_class (item_at S u.edge) (well.sound.names.kinds f _ U.fin_is).1.0 in
    let F = face_of_class (item_at S u.face) (well.sound.names.kinds u.loop_ _ U.end.loop_is).0.0 in
    let G = face_in S well u.face F.0 F.1 F.2 in
    let up = leads_up S well.written well.sound in
    let near = well.sound.bodies.fins f u.mate u.edge u.vertex U.fin_is in
    let edge_body : body_of S u.edge ≡ u.body = near.0 ∙ sym near.1 ∙ U.end.vertex_body in
    let e_body : E.0 ≡ u.body = sym (own-body S well E.0 (well.sound.names.kinds u.edge _ E.1).0) ∙ up.edges u.edge E.0 E.1 ∙ edge_body in
    let g_body : G.body ≡ u.body = sym G.face_body ∙ up.loops u.loop_ u.face U.end.list U.end.lone U.end.loop_is ∙ U.end.loop_body in
    let shells : Some (Body F.0) ≡ Some (Body U.end.shell) = sym G.body_is ∙ ap (item_at S) g_body ∙ U.end.body_is in
    let shell_same : F.0 ≡ U.end.shell = cc in
    let x = asked_fin S f (item_at S f) u g.is in
    let loop_same : owner_in S f ≡ u.loop_ = ap (λ (p : PlacedFin). p.loop_) x.4 in
    let fins_same : fins_from S f ≡ u.fins = ap (λ (p : PlacedFin). p.fins) x.4 in
    let mate_same : mate_at S f ≡ u.mate = ap (λ (o : Option Item). option_map_or mate_of o (tag 0)) U.fin_is in
    let edge_same : edge_at S f ≡ u.edge = ap (λ (o : Option Item). option_map_or edge_of o (tag 0)) U.fin_is in
    let behind : from (mate_at S f) (fins_from S f) ≡ u.mate ∷ B = (λ i. from (mate_same i) (fins_same i)) ∙ from_is in
    let ahead : before (mate_at S f) (fins_from S f) ≡ f ∷ A = (λ i. before (mate_same i) (fins_same i)) ∙ before_is in
    record {
      m = u.mate;
      e = u.edge;
      s = u.vertex;
      r = w.vertex;
      l = u.loop_;
      face = u.face;
      b = u.body;
      shell = U.end.shell;
      outer = F.1;
      A = A;
      B = B;
      f_is = U.fin_is;
      m_is = m_is;
      e_is = E.1 ∙ ap (λ t. Some (Edge t)) e_body;
      b_is = U.end.body_is;
      l_is = end-item S well (as_end u) U.end ∙ ap (λ fs. Some (ring_or_lone u.face fs u.vertex)) fins_are;
      loop_body = U.end.loop_body;
      face_is = F.2 ∙ ap (λ t. Some (Face t F.1)) shell_same;
      row = kemr-is S f u w g.is h.is one
          ∙ (λ i. makes_one (λ ring. S with (u.loop_, ring_or_lone u.face (drop 1 (from_is i)) u.vertex) ∷ (ring, ring_or_lone u.face (drop 1 (before_is i)) w.vertex) ∷ [] without f ∷ u.mate ∷ u.edge ∷ []));
      fins_are = fins_same ∙ fins_are;
      keep_is = λ i. unwrap_or (first_tag (drop 1 (behind i))) (loop_same i);
      cut_is = λ t i. unwrap_or (first_tag (drop 1 (ahead i))) t;
      bridge_is = λ i. edge_same i ∷ f ∷ mate_same i ∷ [];
    }

kemr-mekr_at : (m : EntityMap) (f t0 t1 t2 t3 : Tag) (rest : List Tag) → MayFollow m (call.Kemr f) 4 (t0 ∷ t1 ∷ t2 ∷ t3 ∷ rest)
    → GivesBackButNames m (call.Kemr f) (call.Mekr (kept_end (shape_of m) f) (cut_end (shape_of m) f t0)) (t0 ∷ t1 ∷ t2 ∷ t3 ∷ rest) (bridge (shape_of m) f) (t1 ∷ t2 ∷ t3 ∷ [])
kemr-mekr_at m f t0 t1 t2 t3 rest may =
    let S = shape_of m in
    let tags = t0 ∷ t1 ∷ t2 ∷ t3 ∷ rest in
    let three = t1 ∷ t2 ∷ t3 ∷ [] in
    let well = well-shape m may.sound in
    let free = free-items m may.sound tags may.free in
    let once : NoRepeats (t0 ∷ t1 ∷ t2 ∷ t3 ∷ []) = NoRepeats-take 4 tags (ascend-once tags may.ascend) in
    let new : AllByRecursion (λ t. item_at S t ≡ None) (t0 ∷ t1 ∷ t2 ∷ t3 ∷ []) = ByRecursion-take (λ t. item_at S t ≡ None) 4 tags free in
    let a = may.ascend in
    let ascend : TagsAscend (t1 ∷ t2 ∷ t3 ∷ []) = ((a.1.0.0, (a.1.0.1.0, tt)), ((a.1.1.0.0, tt), (tt, tt))) in
    let k = is-bridge S well f may.goes in
    let R = holed S well f k.m k.e k.s k.r k.l k.face k.b k.shell k.outer k.A k.B k.f_is k.m_is k.e_is k.b_is k.l_is k.loop_body k.face_is t0 t1 t2 t3 once new in
    let first : reached S tags (kemr S f) ≡ R = ap (reached S tags) k.row in
    let one : cost_of (kemr S f) ≡ 1 = cost-making 1 (kemr S f) (kemr-makes S f) may.goes in
    let cut : IsWell R = subst IsWell first (reached-well S tags (kemr S f) well (let enough = may.enough in omega (arith, one, enough)) (kemr-keeps S tags f well (λ more. free.0))) in
    let keep = unwrap_or (first_tag k.B) k.l in
    let ring = unwrap_or (first_tag k.A) t0 in
    let row_is = row S well f k.m k.e k.s k.r k.l k.face k.b k.shell k.outer k.A k.B k.f_is k.m_is k.e_is k.b_is k.l_is k.loop_body k.face_is t0 t1 t2 t3 once new cut in
    let Q = bridged S well f k.m k.e k.s k.r k.l k.face k.b k.shell k.outer k.A k.B k.f_is k.m_is k.e_is k.b_is k.l_is k.loop_body k.face_is t0 t1 t2 t3 once new in
    let goes : IsOk (mekr R keep ring) = subst IsOk (sym row_is) refl in
    let cost : cost_of (mekr R keep ring) ≡ 3 = mekr-cost R keep ring goes in
    let made : IsWell Q = subst IsWell (ap (reached R three) row_is) (reached-well R three (mekr R keep ring) cut (let fits : length (t1 ∷ t2 ∷ t3 ∷ []) ≡ 3 = refl in omega (arith, cost, fits))
    (mekr-keeps R three keep ring cut ascend (still_free S well f k.m k.e k.s k.r k.l k.face k.b k.shell k.outer k.A k.B k.f_is k.m_is k.e_is k.b_is k.l_is k.loop_body k.face_is t0 t1 t2 t3 once new))) in
    let same = bridge-anew S well f k.m k.e k.s k.r k.l k.face k.b k.shell k.outer k.A k.B k.f_is k.m_is k.e_is k.b_is k.l_is k.loop_body k.face_is t0 t1 t2 t3 once new cut made in
    let law : GivesBackButNames m (call.Kemr f) (call.Mekr keep ring) tags (k.e ∷ f ∷ k.m ∷ []) three = gives-back-names m (call.Kemr f) (call.Mekr keep ring) tags (k.e ∷ f ∷ k.m ∷ []) three R Q may.sound first cut goes
    (ap (λ n. reached R (drop n tags) (mekr R keep ring)) (cost-made 1 m (call.Kemr f) (kemr-makes S f) may.goes) ∙ ap (reached R (t1 ∷ t2 ∷ t3 ∷ rest)) row_is) made same in
    subst (λ (z : Tag × Tag × List Tag). GivesBackButNames m (call.Kemr f) (call.Mekr z.0 z.1) tags z.2 three) (λ i. (sym k.keep_is i, sym (k.cut_is t0) i, sym k.bridge_is i)) law

pub kemr-mekr : (m : EntityMap) (f : Tag) (tags : List Tag) → MayFollow m (call.Kemr f) 4 tags
    → GivesBackButNames m (call.Kemr f) (call.Mekr (kept_end (shape_of m) f) (cut_end (shape_of m) f (tag_at tags 0))) tags (bridge (shape_of m) f) (drop 1 (take 4 tags))
kemr-mekr m f [] may = absurd (let h = may.enough in omega (arith, h))
kemr-mekr m f (a ∷ []) may = absurd (let h = may.enough in omega (arith, h))
kemr-mekr m f (a ∷ b ∷ []) may = absurd (let h = may.enough in omega (arith, h))
kemr-mekr m f (a ∷ b ∷ c ∷ []) may = absurd (let h = may.enough in omega (arith, h))
kemr-mekr m f (a ∷ b ∷ c ∷ d ∷ rest) may = kemr-mekr_at m f a b c d rest may
