-- kef, and then mef.
use Rattle.std.proofs.Common.{◌≡◌, ◌≢◌, ◌⊎◌, inl, inr, ⊎_elim, false, cond, not, List, [], ◌∷◌, ◌++◌, drop, take, length, Option, Some, None, Result, Ok, refl, sym, ap, subst, ◌∙◌, arith}
use Rattle.std.specs.Prelude.{T, ℤ, IsOk, map, option_map, unwrap_or, Contains}
use Rattle.std.specs.Option.{option_map_or}
use Rattle.std.specs.List.{AllByRecursion}
use Rattle.std.specs.FinMap.{is_sorted}
use Rattle.pk_base.specs.Blocks.{tag}
use Rattle.pk_base.specs.declared.tag.Tag.{Tag}
use Rattle.pk_base.specs.declared.call.Call.TheVariants as call
use Rattle.pk_base.specs.declared.entity.Class.TheVariants as class
use Rattle.pk_base.specs.declared.entity.Point.{Point}
use Rattle.pk_base.specs.declared.refusal.Refusal.{Refusal}
use Rattle.pk_base.specs.declared.refusal.Refusal.TheVariants.{NotOneLoop, SameVertex}
use Rattle.pk_base.proofs.Same.{differs_means, not_same, same_itself, same_or_other}
use Rattle.pk_model.specs.Apart.{NoRepeats}
use Rattle.pk_model.specs.Maps.{EntityMap, tag_cmp}
use Rattle.pk_model.specs.Tags.{TagsAscend}
use Rattle.pk_model.proofs.TagLists.{NoneOf, NoRepeats-between, NoRepeats-take}
use Rattle.list_facts.proofs.Elements.{Contains-first, Contains-later}
use Rattle.list_facts.proofs.Each.{ByRecursion-at, ByRecursion-contains, ByRecursion-take}
use Rattle.solid_model.specs.Items.{Item, Shape, item_at, class_of_item, ◌with◌}
use Rattle.solid_model.specs.Items.Item.{Body, Shell, Face, Loop, Fin, Edge, Vertex}
use Rattle.solid_model.specs.Deaths.{is_attribute_of, ◌without◌}
use Rattle.solid_model.specs.Rings.{first_tag, from_least, next_in, ring_of, ring_or_lone}
use Rattle.solid_model.specs.Owners.{body_of, has_rings, owner_in, parts_of_class}
use Rattle.solid_model.specs.Rows.{changes, cost_of, makes_five, refuse_where, ◌>>◌}
use Rattle.solid_model.specs.Places.{PlacedFin, fin_at, mate_at, mate_of, start_at, vertex_of}
use Rattle.solid_model.specs.Shapes.{shape_of}
use Rattle.solid_model.specs.Sound.{class_at, end_of}
use Rattle.solid_model.specs.Kef.{kef}
use Rattle.solid_model.specs.Mef.{mef}
use Rattle.solid_model.proofs.lists.Cycles.{written-itself}
use Rattle.solid_model.proofs.lists.Neighbours.{once-last, parts_at}
use Rattle.solid_model.proofs.lists.Turned.{Turned, turned-all, turned-back, turned-in, turned-least, turned-once}
use Rattle.solid_sound.proofs.shapes.Bodies.{leads_up}
use Rattle.solid_sound.proofs.shapes.Edits.{Edits, class_apart, live-none_of, written}
use Rattle.solid_sound.proofs.shapes.FinRings.{asked_fin}
use Rattle.solid_sound.proofs.shapes.Lookups.{Items, with-other, with-sorted, with-written}
use Rattle.solid_sound.proofs.shapes.Reading.{fin_in, fins-once, loop-of_fin, vertex_of_class}
use Rattle.solid_sound.proofs.edges.EdgeDeaths.{edge_of_class}
use Rattle.solid_sound.proofs.edges.Ends.{FinIn, as_end, fin-well}
use Rattle.solid_sound.proofs.rows.RowKeeps.{IsWell, well-shape}
use Rattle.solid_sound.proofs.rows.KeptKef.{kef-keeps}
use Rattle.solid_sound.proofs.rows.KeptKfmrh.{loop_among_parts, no_two}
use Rattle.solid_sound.proofs.rows.KeptMef.{mef-keeps}
use Rattle.solid_sound.proofs.rows.KeptRings.{face_in, face_of_class}
use Rattle.solid_calls.specs.Pairs.{reached}
use Rattle.solid_calls.proofs.Kept.{reached-well}
use Rattle.solid_calls.proofs.RowKinds.{cost-changing, kef-changes}
use Rattle.solid_edits.proofs.Going.{goes-on}
use Rattle.euler_make.proofs.MefFound.{mef-asked, mef-cost}
use Rattle.euler_kill.proofs.KefFound.{kef-not_refused, kef-passes}
use Rattle.euler_laws.specs.Both.{GivesBackButNames, MayFollow}
use Rattle.solid_model.specs.SameButNames.{IsTurned, SameButNames, SameIfAny, SameItem, but_attributes}
use Rattle.euler_laws.specs.Operands.{edge_at, edge_of, face_and_edge, fin_after, fins_from}
use Rattle.euler_laws.proofs.AnewNames.{left-without, live-both, pairs-once, same-anew}
use Rattle.euler_laws.proofs.Carrying.{cost-changed}
use Rattle.euler_laws.proofs.GivenBack.{killed-none, spared}
use Rattle.euler_laws.proofs.KevMev.{own-body}
use Rattle.euler_laws.proofs.Laws.{ascend-once, free-items, gives-back-names}
use Rattle.euler_laws.proofs.MefKef.{last-least}
use Rattle.euler_laws.proofs.Placed.{end-item, fin-placed, owner-of_loop, placed}
use Rattle.euler_laws.proofs.Renamings.{Pairs, both_of, renamed, renamed-pair}
use Rattle.euler_laws.proofs.SameNames.{as-turned, from-turned, is_among-by, map-fixed, same-wider, turned-map}
use Rattle.euler_laws.proofs.TurnedLists.{turned-twice}

-- ---- the edge of x, which has the faces g and h on its sides

-- The fin x starts at s, and its mate y at r. The one loop of g is k, of the fins x p P; the loop l of h has y q Q.
module _ (S : Shape) (well : IsWell S) (x y e s r k g l h b shell outer p q : Tag) (P Q : List Tag)
    (x_is : item_at S x ≡ Some (Fin y e s)) (y_is : item_at S y ≡ Some (Fin x e r)) (e_is : item_at S e ≡ Some (Edge b)) (b_is : item_at S b ≡ Some (Body shell))
    (k_is : item_at S k ≡ Some (Loop g (from_least (x ∷ p ∷ P)) None)) (l_is : item_at S l ≡ Some (Loop h (from_least (y ∷ q ∷ Q)) None)) (two : k ≢ l)
    (g_is : item_at S g ≡ Some (Face shell k)) (h_is : item_at S h ≡ Some (Face shell outer)) (loop_body : body_of S l ≡ b)
    (only : (t : Tag) (fs : List Tag) (o : Option Tag) → item_at S t ≡ Some (Loop g fs o) → t ≡ k)
    (t0 t1 t2 t3 t4 : Tag) (once : NoRepeats (t0 ∷ t1 ∷ t2 ∷ t3 ∷ t4 ∷ [])) (free : AllByRecursion (λ t. item_at S t ≡ None) (t0 ∷ t1 ∷ t2 ∷ t3 ∷ t4 ∷ [])) where
  abbrev here : List Tag
  here = x ∷ p ∷ P

  abbrev across : List Tag
  across = y ∷ q ∷ Q

  abbrev ring : List Tag
  ring = (p ∷ P) ++ q ∷ Q

  abbrev ks : List Tag
  ks = k ∷ g ∷ x ∷ y ∷ e ∷ []

  abbrev cut : Items
  cut = (l, ring_of h ring) ∷ []

  abbrev pub merged : Shape
  merged = S with cut without ks

  abbrev new : List Tag
  new = t0 ∷ t1 ∷ t2 ∷ t3 ∷ t4 ∷ []

  class_is : (t : Tag) (z : Item) → item_at S t ≡ Some z → option_map class_of_item (item_at S t) ≡ Some (class_of_item z)
  class_is t z is = ap (option_map class_of_item) is

  apart : (t u : Tag) (z w : Item) → item_at S t ≡ Some z → item_at S u ≡ Some w → class_of_item z ≢ class_of_item w → t ≢ u
  apart t u z w is also differ = class_apart S t u (class_of_item z) (class_of_item w) (class_is t z is) (class_is u w also) differ

  live_new : (t : Tag) (z : Item) → item_at S t ≡ Some z → NoneOf t new
  live_new t z is = live-none_of S new t z free is

  here_once : NoRepeats here
  here_once = turned-once (from_least here) here (turned-back here (from_least here) (turned-least here)) (fins-once S well.written well.sound k g (from_least here) None k_is)

  across_once : NoRepeats across
  across_once = turned-once (from_least across) across (turned-back across (from_least across) (turned-least across)) (fins-once S well.written well.sound l h (from_least across) None l_is)

  -- a fin stands in one of the two loops alone
  in_one : (t : Tag) → Contains here t → Contains across t → ⊥
  in_one t a c = two (sym (owner_of k g here k_is a) ∙ owner_of l h across l_is c)
    where
      owner_of : (j face : Tag) (ts : List Tag) → item_at S j ≡ Some (Loop face (from_least ts) None) → Contains ts t → owner_in S t ≡ j
      owner_of j face ts is m = loop-of_fin S well.written well.sound j face (from_least ts) None is t (turned-in ts (from_least ts) (turned-least ts) t m)

  y_other : y ≢ x
  y_other = (well.sound.mates.fins x y e s x_is).other

  s_other : s ≢ r
  s_other same =
      let mated = well.sound.mates.fins x y e s x_is in
      let both : Some (Fin x e mated.end) ≡ Some (Fin x e r) = sym mated.mate_is ∙ y_is in
      let end : mated.end ≡ r = cc in
      mated.apart (end ∙ sym same)

  g_h : g ≢ h
  g_h same = two (sym (only l (from_least across) None (l_is ∙ ap (λ t. Some (Loop t (from_least across) None)) (sym same))))

  l_apart : NoneOf l ks
  l_apart = ((λ e. two (sym e)), (apart l g _ _ l_is g_is (λ c. cc), (apart l x _ _ l_is x_is (λ c. cc), (apart l y _ _ l_is y_is (λ c. cc), (apart l e _ _ l_is e_is (λ c. cc), tt)))))

  ks_once : NoRepeats ks
  ks_once = (
    (apart k g _ _ k_is g_is (λ c. cc), (apart k x _ _ k_is x_is (λ c. cc), (apart k y _ _ k_is y_is (λ c. cc), (apart k e _ _ k_is e_is (λ c. cc), tt)))),
    (
      (apart g x _ _ g_is x_is (λ c. cc), (apart g y _ _ g_is y_is (λ c. cc), (apart g e _ _ g_is e_is (λ c. cc), tt))),
      (((λ h. y_other (sym h)), (apart x e _ _ x_is e_is (λ c. cc), tt)), ((apart y e _ _ y_is e_is (λ c. cc), tt), (tt, tt))),
    ),
  )

  sorted_cut : T (is_sorted tag_cmp (S with cut))
  sorted_cut = with-sorted S cut well.written.ascends

  -- ---- what is left

  left_at : (t : Tag) → NoneOf t ks → t ≢ l → item_at merged t ≡ but_attributes ks (item_at S t)
  left_at t none other = left-without (S with cut) ks sorted_cut t none ∙ ap (but_attributes ks) (with-other S cut t (other, tt))

  l_left : item_at merged l ≡ Some (Loop h (from_least ring) None)
  l_left =
      let there : item_at (S with cut) l ≡ Some (Loop h (from_least ring) None) = with-written S cut l _ (tt, tt) (0, omega arith, refl) in
      spared (S with cut) ks sorted_cut l l_apart (λ z j. let both : Some z ≡ Some (Loop h (from_least ring) None) = sym j ∙ there in let same : z ≡ Loop h (from_least ring) None = cc in ap (is_attribute_of ks) same) ∙ there

  gone : (t : Tag) → Contains ks t → item_at merged t ≡ None
  gone t m = killed-none (S with cut) ks sorted_cut t m

  pub still_free : AllByRecursion (λ t. item_at merged t ≡ None) (t0 ∷ t1 ∷ t2 ∷ t3 ∷ t4 ∷ [])
  still_free = ByRecursion-contains (λ t. item_at merged t ≡ None) new (λ t m.
      let none = ByRecursion-at (λ u. item_at S u ≡ None) new t free m in
      let off = λ (u : Tag) (z : Item) (is : item_at S u ≡ Some z) (same : t ≡ u). ByRecursion-at (λ z. u ≢ z) new t (live_new u z is) m (sym same) in
      left_at t (off k _ k_is, (off g _ g_is, (off x _ x_is, (off y _ y_is, (off e _ e_is, tt))))) (off l _ l_is) ∙ ap (but_attributes ks) none)

  stays : (t : Tag) (z : Item) → item_at S t ≡ Some z → is_attribute_of ks z ≡ false → NoneOf t ks → t ≢ l → item_at merged t ≡ Some z
  stays t z is plain none other = left_at t none other ∙ ap (but_attributes ks) is ∙ ap (λ c. cond c None (Some z)) plain

  h_stays : item_at merged h ≡ Some (Face shell outer)
  h_stays = stays h _ h_is refl (apart h k _ _ h_is k_is (λ c. cc), ((λ j. g_h (sym j)), (apart h x _ _ h_is x_is (λ c. cc), (apart h y _ _ h_is y_is (λ c. cc), (apart h e _ _ h_is e_is (λ c. cc), tt))))) (apart h l _ _ h_is l_is (λ c. cc))

  shell_stays : (t a : Tag) (n : ℤ) → item_at S t ≡ Some (Shell a n) → item_at merged t ≡ Some (Shell a n)
  shell_stays t a n is = stays t _ is refl (apart t k _ _ is k_is (λ c. cc), (apart t g _ _ is g_is (λ c. cc), (apart t x _ _ is x_is (λ c. cc), (apart t y _ _ is y_is (λ c. cc), (apart t e _ _ is e_is (λ c. cc), tt))))) (apart t l _ _ is l_is (λ c. cc))

  b_stays : item_at merged b ≡ Some (Body shell)
  b_stays = stays b _ b_is refl (apart b k _ _ b_is k_is (λ c. cc), (apart b g _ _ b_is g_is (λ c. cc), (apart b x _ _ b_is x_is (λ c. cc), (apart b y _ _ b_is y_is (λ c. cc), (apart b e _ _ b_is e_is (λ c. cc), tt))))) (apart b l _ _ b_is l_is (λ c. cc))

  vertex_stays : (t body : Tag) (n : Point) → item_at S t ≡ Some (Vertex body n) → item_at merged t ≡ Some (Vertex body n)
  vertex_stays t body n is = stays t _ is refl (apart t k _ _ is k_is (λ c. cc), (apart t g _ _ is g_is (λ c. cc), (apart t x _ _ is x_is (λ c. cc), (apart t y _ _ is y_is (λ c. cc), (apart t e _ _ is e_is (λ c. cc), tt))))) (apart t l _ _ is l_is (λ c. cc))

  fin_stays : (t mate edge start : Tag) → t ≢ x → t ≢ y → item_at S t ≡ Some (Fin mate edge start) → item_at merged t ≡ Some (Fin mate edge start)
  fin_stays t mate edge start nx ny is = stays t _ is refl (apart t k _ _ is k_is (λ c. cc), (apart t g _ _ is g_is (λ c. cc), (nx, (ny, (apart t e _ _ is e_is (λ c. cc), tt))))) (apart t l _ _ is l_is (λ c. cc))

  fin_here : (t : Tag) → Contains here t → (mate : Tag) × (edge : Tag) × (start : Tag) × (item_at S t ≡ Some (Fin mate edge start))
  fin_here t m = fin_in S well.written well.sound k g (from_least here) None k_is t (turned-in here (from_least here) (turned-least here) t m)

  fin_across : (t : Tag) → Contains across t → (mate : Tag) × (edge : Tag) × (start : Tag) × (item_at S t ≡ Some (Fin mate edge start))
  fin_across t m = fin_in S well.written well.sound l h (from_least across) None l_is t (turned-in across (from_least across) (turned-least across) t m)

  -- the fins of the two lists are neither x nor y
  not_here : (t : Tag) → Contains (p ∷ P) t → (t ≢ x) × (t ≢ y)
  not_here t m = ((λ j. ByRecursion-at (λ z. x ≢ z) (p ∷ P) t here_once.0 m (sym j)), (λ j. in_one t (Contains-later x (p ∷ P) t m) (subst (Contains across) (sym j) (Contains-first y (q ∷ Q)))))

  not_across : (t : Tag) → Contains (q ∷ Q) t → (t ≢ x) × (t ≢ y)
  not_across t m = ((λ j. in_one t (subst (Contains here) (sym j) (Contains-first x (p ∷ P))) (Contains-later y (q ∷ Q) t m)), (λ j. ByRecursion-at (λ z. y ≢ z) (q ∷ Q) t across_once.0 m (sym j)))

  starts_at : (t u mate edge start : Tag) → item_at S t ≡ Some (Fin mate edge start) → start_at S t ≡ u → start ≡ u
  starts_at t u mate edge start is j = sym (ap (λ (o : Option Item). option_map_or vertex_of o (tag 0)) is) ∙ j

  end_x : end_of S x ≡ r
  end_x = ap (start_at S) (ap (λ (o : Option Item). option_map_or mate_of o (tag 0)) x_is) ∙ ap (λ (o : Option Item). option_map_or vertex_of o (tag 0)) y_is

  end_y : end_of S y ≡ s
  end_y = ap (start_at S) (ap (λ (o : Option Item). option_map_or mate_of o (tag 0)) y_is) ∙ ap (λ (o : Option Item). option_map_or vertex_of o (tag 0)) x_is

  p_start : (mate : Tag) × (edge : Tag) × (item_at S p ≡ Some (Fin mate edge r))
  p_start =
      let m = fin_here p (Contains-later x (p ∷ P) p (Contains-first p P)) in
      let next : start_at S p ≡ end_of S x = (turned-all (λ n. start_at S n.1 ≡ end_of S n.0) (from_least here) here (turned-back here (from_least here) (turned-least here)) (well.sound.follow k g (from_least here) None k_is)).0 in
      (m.0, m.1, m.3 ∙ ap (λ t. Some (Fin m.0 m.1 t)) (starts_at p r m.0 m.1 m.2 m.3 (next ∙ end_x)))

  q_start : (mate : Tag) × (edge : Tag) × (item_at S q ≡ Some (Fin mate edge s))
  q_start =
      let m = fin_across q (Contains-later y (q ∷ Q) q (Contains-first q Q)) in
      let next : start_at S q ≡ end_of S y = (turned-all (λ n. start_at S n.1 ≡ end_of S n.0) (from_least across) across (turned-back across (from_least across) (turned-least across)) (well.sound.follow l h (from_least across) None l_is)).0 in
      (m.0, m.1, m.3 ∙ ap (λ t. Some (Fin m.0 m.1 t)) (starts_at q s m.0 m.1 m.2 m.3 (next ∙ end_y)))

  -- ---- what is made anew

  abbrev xs : Items
  xs = (t0, Face shell t1) ∷ (t1, ring_of t0 ((p ∷ P) ++ t3 ∷ [])) ∷ (t2, Edge b) ∷ (t3, Fin t4 t2 s) ∷ (t4, Fin t3 t2 r) ∷ (l, ring_of h ((q ∷ Q) ++ t4 ∷ [])) ∷ []

  abbrev pub walled : Shape
  walled = merged with xs

  module _ (cut_well : IsWell merged) where
    ring_once : NoRepeats ring
    ring_once = turned-once (from_least ring) ring (turned-back ring (from_least ring) (turned-least ring)) (fins-once merged cut_well.written cut_well.sound l h (from_least ring) None l_left)

    turned_q : Turned ((q ∷ Q) ++ p ∷ P) ring
    turned_q = record { pre = q ∷ Q; post = p ∷ P; here = refl; there = refl }

    body_same : body_of merged l ≡ b
    body_same =
        let F = face_in S well h shell outer h_is in
        let G = face_in merged cut_well h shell outer h_stays in
        let both : Some (Shell F.body F.q) ≡ Some (Shell G.body G.q) = sym (shell_stays shell F.body F.q F.shell_is) ∙ G.shell_is in
        let same : F.body ≡ G.body = cc in
        sym ((leads_up merged cut_well.written cut_well.sound).loops l h (from_least ring) None l_left) ∙ G.face_body ∙ sym same ∙ sym F.face_body
        ∙ (leads_up S well.written well.sound).loops l h (from_least across) None l_is ∙ loop_body

    pub row : mef merged p q ≡ makes_five (λ face c edge i j. merged with (face, Face shell c) ∷ (c, ring_of face ((p ∷ P) ++ i ∷ [])) ∷ (edge, Edge b) ∷ (i, Fin j edge s) ∷ (j, Fin i edge r) ∷ (l, ring_of h ((q ∷ Q) ++ j ∷ [])) ∷ [])
    row =
        let u = placed merged p p_start.0 p_start.1 r l h (P ++ q ∷ Q) in
        let v = placed merged q q_start.0 q_start.1 s l h (Q ++ p ∷ P) in
        let np = not_here p (Contains-first p P) in
        let nq = not_across q (Contains-first q Q) in
        let p_at : fin_at merged p ≡ Ok (placed merged p p_start.0 p_start.1 r l h (P ++ q ∷ Q)) = fin-placed merged cut_well p p_start.0 p_start.1 r l h (from_least ring) (P ++ q ∷ Q) None (fin_stays p p_start.0 p_start.1 r np.0 np.1 p_start.2) l_left (turned-least ring) ring_once in
        let q_at : fin_at merged q ≡ Ok (placed merged q q_start.0 q_start.1 s l h (Q ++ p ∷ P)) = fin-placed merged cut_well q q_start.0 q_start.1 s l h (from_least ring) (Q ++ p ∷ P) None (fin_stays q q_start.0 q_start.1 s nq.0 nq.1 q_start.2) l_left
        (turned-twice ((q ∷ Q) ++ p ∷ P) ring (from_least ring) turned_q (turned-least ring)) (turned-once ring ((q ∷ Q) ++ p ∷ P) (turned-back ((q ∷ Q) ++ p ∷ P) ring turned_q) ring_once) in
        let cuts = parts_at q (p ∷ P) Q (λ m. NoRepeats-between (p ∷ P) (q ∷ Q) q ring_once m (Contains-first q Q)) in
        let shell_is : owner_in merged h ≡ shell = (face_in merged cut_well h shell outer h_stays).shell_of in
        let many = λ (sh body : Tag) (before_q from_q : List Tag). makes_five (λ face c edge i j. merged with (face, Face sh c) ∷ (c, ring_of face (before_q ++ i ∷ [])) ∷ (edge, Edge body) ∷ (i, Fin j edge s) ∷ (j, Fin i edge r) ∷ (l, ring_of h (from_q ++ j ∷ [])) ∷ []) in
        mef-asked merged p q (placed merged p p_start.0 p_start.1 r l h (P ++ q ∷ Q)) (placed merged q q_start.0 q_start.1 s l h (Q ++ p ∷ P)) p_at q_at
        ∙ (λ n. refuse_where (not (same_itself l n)) (NotOneLoop l l) >> (refuse_where (not_same r s (λ j. s_other (sym j)) n) (SameVertex r) >> many (shell_is n) (body_same n) (cuts.0 n) (cuts.1 n)))

    change : Edits merged walled xs []
    change = written merged xs cut_well.written.ascends (once-last new l once (live_new l _ l_is))

    at_0 : item_at walled t0 ≡ Some (Face shell t1)
    at_0 = change.news t0 _ (0, omega arith, refl)

    at_1 : item_at walled t1 ≡ Some (Loop t0 (from_least ((p ∷ P) ++ t3 ∷ [])) None)
    at_1 = change.news t1 _ (1, omega arith, refl)

    at_2 : item_at walled t2 ≡ Some (Edge b)
    at_2 = change.news t2 _ (2, omega arith, refl)

    at_3 : item_at walled t3 ≡ Some (Fin t4 t2 s)
    at_3 = change.news t3 _ (3, omega arith, refl)

    at_4 : item_at walled t4 ≡ Some (Fin t3 t2 r)
    at_4 = change.news t4 _ (4, omega arith, refl)

    at_l : item_at walled l ≡ Some (Loop h (from_least ((q ∷ Q) ++ t4 ∷ [])) None)
    at_l = change.news l _ (5, omega arith, refl)

    other_at : (t : Tag) → NoneOf t new → t ≢ l → item_at walled t ≡ item_at merged t
    other_at t none other = with-other merged xs t (none.0, (none.1.0, (none.1.1.0, (none.1.1.1.0, (none.1.1.1.1.0, (other, tt))))))

    abbrev pairs : Pairs
    pairs = (k, t1) ∷ (g, t0) ∷ (x, t3) ∷ (y, t4) ∷ (e, t2) ∷ []

    fresh : AllByRecursion (λ (n : Tag × Tag). item_at S n.1 ≡ None) pairs
    fresh = (free.1.0, (free.0, (free.1.1.1.0, (free.1.1.1.1.0, (free.1.1.0, tt)))))

    pairs_once : NoRepeats (both_of pairs)
    pairs_once = pairs-once S pairs ((_, k_is), ((_, g_is), ((_, x_is), ((_, y_is), ((_, e_is), tt))))) fresh ks_once (
      ((λ h. once.0.0 (sym h)), (once.1.0.1.0, (once.1.0.1.1.0, (once.1.0.0, tt)))),
      ((once.0.1.1.0, (once.0.1.1.1.0, (once.0.1.0, tt))), ((once.1.1.1.0.0, ((λ h. once.1.1.0.0 (sym h)), tt)), (((λ h. once.1.1.0.1.0 (sym h)), tt), (tt, tt)))),
    )

    module _ (made : IsWell walled) where
      dead : AllByRecursion (λ (n : Tag × Tag). item_at walled n.0 ≡ None) pairs
      dead = (
        other_at k (live_new k _ k_is) (λ j. l_apart.0 (sym j)) ∙ gone k (0, omega arith, refl),
        (
          other_at g (live_new g _ g_is) (λ j. l_apart.1.0 (sym j)) ∙ gone g (1, omega arith, refl),
          (
            other_at x (live_new x _ x_is) (λ j. l_apart.1.1.0 (sym j)) ∙ gone x (2, omega arith, refl),
            (
              other_at y (live_new y _ y_is) (λ j. l_apart.1.1.1.0 (sym j)) ∙ gone y (3, omega arith, refl),
              (other_at e (live_new e _ e_is) (λ j. l_apart.1.1.1.1.0 (sym j)) ∙ gone e (4, omega arith, refl), tt),
            ),
          ),
        ),
      )

      fixed : (t : Tag) (z : Item) → item_at S t ≡ Some z → t ≢ l → item_at merged t ≡ Some z → renamed pairs t ≡ t
      fixed t z is other now = live-both S walled well made pairs pairs_once dead fresh t z z is (other_at t (live_new t z is) other ∙ now)

      r_b : renamed pairs b ≡ b
      r_b = fixed b _ b_is (apart b l _ _ b_is l_is (λ c. cc)) b_stays

      r_shell : renamed pairs shell ≡ shell
      r_shell = let F = face_in S well h shell outer h_is in fixed shell _ F.shell_is (apart shell l _ _ F.shell_is l_is (λ c. cc)) (shell_stays shell F.body F.q F.shell_is)

      r_h : renamed pairs h ≡ h
      r_h = fixed h _ h_is (apart h l _ _ h_is l_is (λ c. cc)) h_stays

      r_vertex : (v : Tag) → class_at S v ≡ Some class.Vertex → renamed pairs v ≡ v
      r_vertex v c = let z = vertex_of_class (item_at S v) c in fixed v _ z.2 (apart v l _ _ z.2 l_is (λ n. cc)) (vertex_stays v z.0 z.1 z.2)

      r_s : renamed pairs s ≡ s
      r_s = r_vertex s (well.sound.names.kinds x _ x_is).2.0

      r_r : renamed pairs r ≡ r
      r_r = r_vertex r (well.sound.names.kinds y _ y_is).2.0

      r_P : map (renamed pairs) (p ∷ P) ≡ p ∷ P
      r_P = map-fixed (renamed pairs) (p ∷ P) (ByRecursion-contains (λ t. renamed pairs t ≡ t) (p ∷ P) (λ t m.
          let z = fin_here t (Contains-later x (p ∷ P) t m) in
          fixed t _ z.3 (apart t l _ _ z.3 l_is (λ n. cc)) (fin_stays t z.0 z.1 z.2 (not_here t m).0 (not_here t m).1 z.3)))

      r_Q : map (renamed pairs) (q ∷ Q) ≡ q ∷ Q
      r_Q = map-fixed (renamed pairs) (q ∷ Q) (ByRecursion-contains (λ t. renamed pairs t ≡ t) (q ∷ Q) (λ t m.
          let z = fin_across t (Contains-later y (q ∷ Q) t m) in
          fixed t _ z.3 (apart t l _ _ z.3 l_is (λ n. cc)) (fin_stays t z.0 z.1 z.2 (not_across t m).0 (not_across t m).1 z.3)))

      r_k : renamed pairs k ≡ t1
      r_k = (renamed-pair pairs pairs_once (k, t1) (0, omega arith, refl)).0

      r_g : renamed pairs g ≡ t0
      r_g = (renamed-pair pairs pairs_once (g, t0) (1, omega arith, refl)).0

      r_x : renamed pairs x ≡ t3
      r_x = (renamed-pair pairs pairs_once (x, t3) (2, omega arith, refl)).0

      r_y : renamed pairs y ≡ t4
      r_y = (renamed-pair pairs pairs_once (y, t4) (3, omega arith, refl)).0

      r_e : renamed pairs e ≡ t2
      r_e = (renamed-pair pairs pairs_once (e, t2) (4, omega arith, refl)).0

      both : (t u : Tag) (z w : Item) → item_at S t ≡ Some z → item_at walled u ≡ Some w → SameItem (renamed pairs) z w → SameIfAny (renamed pairs) (item_at S t) (item_at walled u)
      both t u z w is now same = subst (λ (o : Option Item × Option Item). SameIfAny (renamed pairs) o.0 o.1) (λ i. (sym is i, sym now i)) same

      -- a list of which the first fin was killed, and was made anew as the last
      turned_on : (c n : Tag) (C : List Tag) → renamed pairs c ≡ n → map (renamed pairs) C ≡ C → IsTurned (map (renamed pairs) (from_least (c ∷ C))) (from_least (C ++ n ∷ []))
      turned_on c n C first rest =
          let N = from_least (C ++ n ∷ []) in
          let there : IsTurned (map (renamed pairs) (c ∷ C)) (map (renamed pairs) (from_least (c ∷ C))) = turned-map (renamed pairs) (c ∷ C) (from_least (c ∷ C)) (as-turned (turned-least (c ∷ C))) in
          let names : map (renamed pairs) (c ∷ C) ≡ n ∷ C = λ i. first i ∷ rest i in
          let back : Turned (map (renamed pairs) (from_least (c ∷ C))) (map (renamed pairs) (c ∷ C)) = turned-back (map (renamed pairs) (c ∷ C)) (map (renamed pairs) (from_least (c ∷ C))) (from-turned there) in
          as-turned (turned-twice (map (renamed pairs) (from_least (c ∷ C))) (n ∷ C) N (subst (Turned (map (renamed pairs) (from_least (c ∷ C)))) names back) (last-least n C))

      anew : AllByRecursion (λ (n : Tag × Tag). SameIfAny (renamed pairs) (item_at S n.0) (item_at walled n.1)) pairs
      anew = (
        both k t1 _ _ k_is at_1 (from_least ((p ∷ P) ++ t3 ∷ []), turned_on x t3 (p ∷ P) r_x r_P, (λ i. Loop (sym r_g i) (from_least ((p ∷ P) ++ t3 ∷ [])) None)),
        (
          both g t0 _ _ g_is at_0 (λ i. Face (sym r_shell i) (sym r_k i)),
          (
            both x t3 _ _ x_is at_3 (λ i. Fin (sym r_y i) (sym r_e i) (sym r_s i)),
            (
              both y t4 _ _ y_is at_4 (λ i. Fin (sym r_x i) (sym r_e i) (sym r_r i)),
              (both e t2 _ _ e_is at_2 (λ i. Edge (sym r_b i)), tt),
            ),
          ),
        ),
      )

      others : (t : Tag) → NoneOf t ks → NoneOf t (t1 ∷ t0 ∷ t3 ∷ t4 ∷ t2 ∷ []) → SameIfAny (renamed pairs) (item_at S t) (item_at walled t) ⊎ (item_at walled t ≡ but_attributes ks (item_at S t))
      others t none new_of = ⊎_elim {C = SameIfAny (renamed pairs) (item_at S t) (item_at walled t) ⊎ (item_at walled t ≡ but_attributes ks (item_at S t))}
          (λ (same : t ≡ l). inl (subst (λ u. SameIfAny (renamed pairs) (item_at S u) (item_at walled u)) (sym same)
          (both l l _ _ l_is at_l (from_least ((q ∷ Q) ++ t4 ∷ []), turned_on y t4 (q ∷ Q) r_y r_Q, (λ i. Loop (sym r_h i) (from_least ((q ∷ Q) ++ t4 ∷ [])) None)))))
          (λ (other : t ≢ l). inr (other_at t (new_of.1.0, (new_of.0, (new_of.1.1.1.1.0, (new_of.1.1.0, (new_of.1.1.1.0, tt))))) other ∙ left_at t none other))
          (same_or_other t l)

      pub wall-anew : SameButNames (g ∷ k ∷ e ∷ x ∷ y ∷ []) (t0 ∷ t1 ∷ t2 ∷ t3 ∷ t4 ∷ []) S walled
      wall-anew = same-wider (k ∷ g ∷ x ∷ y ∷ e ∷ []) (t1 ∷ t0 ∷ t3 ∷ t4 ∷ t2 ∷ []) (g ∷ k ∷ e ∷ x ∷ y ∷ []) (t0 ∷ t1 ∷ t2 ∷ t3 ∷ t4 ∷ []) S walled
          (is_among-by (k ∷ g ∷ x ∷ y ∷ e ∷ t1 ∷ t0 ∷ t3 ∷ t4 ∷ t2 ∷ []) (g ∷ k ∷ e ∷ x ∷ y ∷ t0 ∷ t1 ∷ t2 ∷ t3 ∷ t4 ∷ []) (λ t m.
          ByRecursion-at (λ u. Contains (g ∷ k ∷ e ∷ x ∷ y ∷ t0 ∷ t1 ∷ t2 ∷ t3 ∷ t4 ∷ []) u) (k ∷ g ∷ x ∷ y ∷ e ∷ t1 ∷ t0 ∷ t3 ∷ t4 ∷ t2 ∷ []) t
          ((1, omega arith, refl), ((0, omega arith, refl), ((3, omega arith, refl), ((4, omega arith, refl), ((2, omega arith, refl), ((6, omega arith, refl), ((5, omega arith, refl), ((8, omega arith, refl), ((9, omega arith, refl), ((7, omega arith, refl), tt)))))))))) m))
          (same-anew S walled well made pairs pairs_once dead fresh anew others)

-- ---- the law

-- what is known of the edge of x, where kef goes
pub record IsWall (S : Shape) (x : Tag) : Type 0 where
  pub y : Tag
  pub e : Tag
  pub s : Tag
  pub r : Tag
  pub k : Tag
  pub g : Tag
  pub l : Tag
  pub h : Tag
  pub b : Tag
  pub shell : Tag
  pub outer : Tag
  pub p : Tag
  pub q : Tag
  pub P : List Tag
  pub Q : List Tag
  pub x_is : item_at S x ≡ Some (Fin y e s)
  pub y_is : item_at S y ≡ Some (Fin x e r)
  pub e_is : item_at S e ≡ Some (Edge b)
  pub b_is : item_at S b ≡ Some (Body shell)
  pub k_is : item_at S k ≡ Some (Loop g (from_least (x ∷ p ∷ P)) None)
  pub l_is : item_at S l ≡ Some (Loop h (from_least (y ∷ q ∷ Q)) None)
  pub two : k ≢ l
  pub g_is : item_at S g ≡ Some (Face shell k)
  pub h_is : item_at S h ≡ Some (Face shell outer)
  pub loop_body : body_of S l ≡ b
  pub only : (t : Tag) (fs : List Tag) (o : Option Tag) → item_at S t ≡ Some (Loop g fs o) → t ≡ k
  pub row : kef S x ≡ changes (S with (l, ring_of h ((p ∷ P) ++ q ∷ Q)) ∷ [] without k ∷ g ∷ x ∷ y ∷ e ∷ [])
  pub after_x : fin_after S x ≡ p
  pub after_y : fin_after S (mate_at S x) ≡ q
  pub wall_is : face_and_edge S x ≡ g ∷ k ∷ e ∷ x ∷ y ∷ []

-- the loop of a fin that starts where its edge does not end has another fin
more-fins : (S : Shape) → IsWell S → (f mate edge start end l face : Tag) (rest : List Tag) → item_at S f ≡ Some (Fin mate edge start) → item_at S mate ≡ Some (Fin f edge end) → start ≢ end → item_at S l ≡ Some (Loop face (from_least (f ∷ rest)) None)
    → (g : Tag) × (gs : List Tag) × (rest ≡ g ∷ gs)
more-fins S well f mate edge start end l face [] f_is mate_is apart l_is =
    let follow : start_at S f ≡ end_of S f = (turned-all (λ n. start_at S n.1 ≡ end_of S n.0) (from_least (f ∷ [])) (f ∷ []) (turned-back (f ∷ []) (from_least (f ∷ [])) (turned-least (f ∷ []))) (well.sound.follow l face (from_least (f ∷ [])) None l_is)).0 in
    let here : start_at S f ≡ start = ap (λ (o : Option Item). option_map_or vertex_of o (tag 0)) f_is in
    let there : end_of S f ≡ end = ap (start_at S) (ap (λ (o : Option Item). option_map_or mate_of o (tag 0)) f_is) ∙ ap (λ (o : Option Item). option_map_or vertex_of o (tag 0)) mate_is in
    absurd (apart (sym here ∙ follow ∙ there))
more-fins S well f mate edge start end l face (g ∷ gs) f_is mate_is apart l_is = (g, gs, refl)

after-first : (S : Shape) (f g : Tag) (gs : List Tag) → fins_from S f ≡ f ∷ g ∷ gs → fin_after S f ≡ g
after-first S f g gs is = ap (λ ts. next_in ts f) is ∙ ap (λ ts. unwrap_or (first_tag (drop 1 ts)) f) (written-itself f (g ∷ gs))

same-shell : (a b : Tag) → Some (Body a) ≡ Some (Body b) → a ≡ b
same-shell a b h = cc

-- the mate of a fin goes back to it, and does not start where it starts
mate-there : (S : Shape) → IsWell S → (f mate edge start back other end : Tag) → item_at S f ≡ Some (Fin mate edge start) → item_at S mate ≡ Some (Fin back other end) → (item_at S mate ≡ Some (Fin f edge end)) × (start ≢ end)
mate-there S well f mate edge start back other end f_is mate_is =
    let mated = well.sound.mates.fins f mate edge start f_is in
    let both : Some (Fin f edge mated.end) ≡ Some (Fin back other end) = sym mated.mate_is ∙ mate_is in
    let same : mated.end ≡ end = cc in
    (mated.mate_is ∙ ap (λ t. Some (Fin f edge t)) same, λ h. mated.apart (same ∙ sym h))

-- the loop of a fin is written from it
loop-there : (S : Shape) → IsWell S → (f : Tag) (u : PlacedFin) (U : FinIn S f u) → item_at S u.loop_ ≡ Some (Loop u.face (from_least (f ∷ U.rest)) None)
loop-there S well f u U = end-item S well (as_end u) U.end ∙ ap (λ fs. Some (ring_or_lone u.face fs u.vertex)) U.fins_are

-- the edge of a fin is of the body of the vertex where it starts
edge-there : (S : Shape) → IsWell S → (f mate edge start body : Tag) → item_at S f ≡ Some (Fin mate edge start) → body_of S start ≡ body → item_at S edge ≡ Some (Edge body)
edge-there S well f mate edge start body f_is start_body =
    let E = edge_of_class (item_at S edge) (well.sound.names.kinds f _ f_is).1.0 in
    let near = well.sound.bodies.fins f mate edge start f_is in
    let edge_body : body_of S edge ≡ body = near.0 ∙ sym near.1 ∙ start_body in
    let same : E.0 ≡ body = sym (own-body S well E.0 (well.sound.names.kinds edge _ E.1).0) ∙ (leads_up S well.written well.sound).edges edge E.0 E.1 ∙ edge_body in
    E.1 ∙ ap (λ t. Some (Edge t)) same

-- the two fins of an edge start at vertices of one body
far-body : (S : Shape) → IsWell S → (f mate edge start end body : Tag) → item_at S f ≡ Some (Fin mate edge start) → item_at S mate ≡ Some (Fin f edge end) → body_of S start ≡ body → body_of S end ≡ body
far-body S well f mate edge start end body f_is mate_is start_body =
    let near = well.sound.bodies.fins f mate edge start f_is in
    let far = well.sound.bodies.fins mate f edge end mate_is in
    far.1 ∙ sym far.0 ∙ near.0 ∙ sym near.1 ∙ start_body

-- the face of a loop is of the shell of its body
face-there : (S : Shape) → IsWell S → (l face body shell : Tag) (fins : List Tag) (lone : Option Tag) → item_at S l ≡ Some (Loop face fins lone) → body_of S l ≡ body → item_at S body ≡ Some (Body shell)
    → (outer : Tag) × (item_at S face ≡ Some (Face shell outer))
face-there S well l face body shell fins lone l_is loop_body body_is =
    let F = face_of_class (item_at S face) (well.sound.names.kinds l _ l_is).0.0 in
    let G = face_in S well face F.0 F.1 F.2 in
    let same : G.body ≡ body = sym G.face_body ∙ (leads_up S well.written well.sound).loops l face fins lone l_is ∙ loop_body in
    let shell_same : F.0 ≡ shell = same-shell F.0 shell (sym G.body_is ∙ ap (item_at S) same ∙ body_is) in
    (F.1, F.2 ∙ ap (λ t. Some (Face t F.1)) shell_same)

-- a face with no rings has one loop, which is its outer one
only-loop : (S : Shape) (face l : Tag) (fins : List Tag) (lone : Option Tag) → has_rings S face ≡ false → item_at S l ≡ Some (Loop face fins lone)
    → (t : Tag) (fs : List Tag) (o : Option Tag) → item_at S t ≡ Some (Loop face fs o) → t ≡ l
only-loop S face l fins lone few l_is t fs o is = no_two (parts_of_class class.Loop S face) t l few (loop_among_parts S t face fs o is) (loop_among_parts S l face fins lone l_is)

pub kef-live : (S : Shape) (x : Tag) → IsOk (kef S x) → IsOk (fin_at S x)
kef-live S x goes = let a = goes-on (fin_at S x) _ goes in subst (λ (o : Result PlacedFin Refusal). IsOk o) (sym a.is) refl

pub kef-live_mate : (S : Shape) (x : Tag) → IsOk (kef S x) → IsOk (fin_at S (mate_at S x))
kef-live_mate S x goes =
    let a = goes-on (fin_at S x) _ goes in
    let c = goes-on (fin_at S a.found.mate) _ a.goes in
    let i = asked_fin S x (item_at S x) a.found a.is in
    let same : mate_at S x ≡ a.found.mate = ap (λ (o : Option Item). option_map_or mate_of o (tag 0)) i.3 ∙ ap (λ (n : PlacedFin). n.mate) i.4 in
    subst (λ (o : Result PlacedFin Refusal). IsOk o) (sym (ap (fin_at S) same ∙ c.is)) refl

-- what was found of the fin and of its mate
wall-found : (S : Shape) → IsWell S → (x : Tag) (u v : PlacedFin) → fin_at S x ≡ Ok u → fin_at S u.mate ≡ Ok v → IsOk (kef S x) → IsWall S x
wall-found S well x u v found also goes =
    let U : FinIn S x u = fin-well S well x (item_at S x) refl u found in
    let V : FinIn S u.mate v = fin-well S well u.mate (item_at S u.mate) refl v also in
    let tests = kef-not_refused S x u v found also goes in
    let M = mate-there S well x u.mate u.edge u.vertex v.mate v.edge v.vertex U.fin_is V.fin_is in
    let y_is : item_at S u.mate ≡ Some (Fin x u.edge v.vertex) = M.0 in
    let k_is : item_at S u.loop_ ≡ Some (Loop u.face (from_least (x ∷ U.rest)) None) = loop-there S well x u U in
    let l_is : item_at S v.loop_ ≡ Some (Loop v.face (from_least (u.mate ∷ V.rest)) None) = loop-there S well u.mate v V in
    let one = more-fins S well x u.mate u.edge u.vertex v.vertex u.loop_ u.face U.rest U.fin_is y_is M.1 k_is in
    let other = more-fins S well u.mate x u.edge v.vertex u.vertex v.loop_ v.face V.rest y_is U.fin_is (λ same. M.1 (sym same)) l_is in
    let here : u.fins ≡ x ∷ one.0 ∷ one.1 = U.fins_are ∙ ap (λ ts. x ∷ ts) one.2 in
    let across : v.fins ≡ u.mate ∷ other.0 ∷ other.1 = V.fins_are ∙ ap (λ ts. u.mate ∷ ts) other.2 in
    let k_now : item_at S u.loop_ ≡ Some (Loop u.face (from_least (x ∷ one.0 ∷ one.1)) None) = k_is ∙ ap (λ ts. Some (Loop u.face (from_least (x ∷ ts)) None)) one.2 in
    let l_now : item_at S v.loop_ ≡ Some (Loop v.face (from_least (u.mate ∷ other.0 ∷ other.1)) None) = l_is ∙ ap (λ ts. Some (Loop v.face (from_least (u.mate ∷ ts)) None)) other.2 in
    let v_body : v.body ≡ u.body = sym V.end.vertex_body ∙ far-body S well x u.mate u.edge u.vertex v.vertex u.body U.fin_is y_is U.end.vertex_body in
    let l_body : body_of S v.loop_ ≡ u.body = V.end.loop_body ∙ v_body in
    let only = only-loop S u.face u.loop_ (from_least (x ∷ one.0 ∷ one.1)) None tests.1 k_now in
    let G = face-there S well u.loop_ u.face u.body U.end.shell (from_least (x ∷ one.0 ∷ one.1)) None k_now U.end.loop_body U.end.body_is in
    let H = face-there S well v.loop_ v.face u.body U.end.shell (from_least (u.mate ∷ other.0 ∷ other.1)) None l_now l_body U.end.body_is in
    let outer = well.sound.outer u.face U.end.shell G.0 G.1 in
    let outer_is : G.0 ≡ u.loop_ = only G.0 outer.0 outer.1 outer.2 in
    let i = asked_fin S x (item_at S x) u found in
    let j = asked_fin S u.mate (item_at S u.mate) v also in
    let loop_same : owner_in S x ≡ u.loop_ = ap (λ (n : PlacedFin). n.loop_) i.4 in
    let mate_same : mate_at S x ≡ u.mate = ap (λ (o : Option Item). option_map_or mate_of o (tag 0)) U.fin_is in
    let edge_same : edge_at S x ≡ u.edge = ap (λ (o : Option Item). option_map_or edge_of o (tag 0)) U.fin_is in
    let face_same : owner_in S (owner_in S x) ≡ u.face = ap (owner_in S) loop_same ∙ owner-of_loop S u.loop_ u.face (from_least (x ∷ one.0 ∷ one.1)) None k_now in
    record {
      y = u.mate;
      e = u.edge;
      s = u.vertex;
      r = v.vertex;
      k = u.loop_;
      g = u.face;
      l = v.loop_;
      h = v.face;
      b = u.body;
      shell = U.end.shell;
      outer = H.0;
      p = one.0;
      q = other.0;
      P = one.1;
      Q = other.1;
      x_is = U.fin_is;
      y_is = y_is;
      e_is = edge-there S well x u.mate u.edge u.vertex u.body U.fin_is U.end.vertex_body;
      b_is = U.end.body_is;
      k_is = k_now;
      l_is = l_now;
      two = differs_means u.loop_ v.loop_ tests.0;
      g_is = G.1 ∙ ap (λ t. Some (Face U.end.shell t)) outer_is;
      h_is = H.1;
      loop_body = l_body;
      only = only;
      row = kef-passes S x u v found also tests.0 tests.1 ∙ (λ n. changes (S with (v.loop_, ring_of v.face (drop 1 (here n) ++ drop 1 (across n))) ∷ [] without u.loop_ ∷ u.face ∷ x ∷ u.mate ∷ u.edge ∷ []));
      after_x = after-first S x one.0 one.1 (ap (λ (n : PlacedFin). n.fins) i.4 ∙ here);
      after_y = ap (fin_after S) mate_same ∙ after-first S u.mate other.0 other.1 (ap (λ (n : PlacedFin). n.fins) j.4 ∙ across);
      wall_is = λ n. face_same n ∷ loop_same n ∷ edge_same n ∷ x ∷ mate_same n ∷ [];
    }

pub is-wall : (S : Shape) → IsWell S → (x : Tag) → IsOk (kef S x) → IsWall S x
is-wall S well x goes =
    let a = goes-on (fin_at S x) _ goes in
    let c = goes-on (fin_at S a.found.mate) _ a.goes in
    wall-found S well x a.found c.found a.is c.is goes

kef-mef_at : (m : EntityMap) (x t0 t1 t2 t3 t4 : Tag) (rest : List Tag) → MayFollow m (call.Kef x) 5 (t0 ∷ t1 ∷ t2 ∷ t3 ∷ t4 ∷ rest)
    → GivesBackButNames m (call.Kef x) (call.Mef (fin_after (shape_of m) x) (fin_after (shape_of m) (mate_at (shape_of m) x))) (t0 ∷ t1 ∷ t2 ∷ t3 ∷ t4 ∷ rest) (face_and_edge (shape_of m) x) (t0 ∷ t1 ∷ t2 ∷ t3 ∷ t4 ∷ [])
kef-mef_at m x t0 t1 t2 t3 t4 rest may =
    let S = shape_of m in
    let tags = t0 ∷ t1 ∷ t2 ∷ t3 ∷ t4 ∷ rest in
    let five = t0 ∷ t1 ∷ t2 ∷ t3 ∷ t4 ∷ [] in
    let well = well-shape m may.sound in
    let free = free-items m may.sound tags may.free in
    let once : NoRepeats (t0 ∷ t1 ∷ t2 ∷ t3 ∷ t4 ∷ []) = NoRepeats-take 5 tags (ascend-once tags may.ascend) in
    let new : AllByRecursion (λ t. item_at S t ≡ None) (t0 ∷ t1 ∷ t2 ∷ t3 ∷ t4 ∷ []) = ByRecursion-take (λ t. item_at S t ≡ None) 5 tags free in
    let a = may.ascend in
    let ascend : TagsAscend (t0 ∷ t1 ∷ t2 ∷ t3 ∷ t4 ∷ []) = ((a.0.0, (a.0.1.0, (a.0.1.1.0, (a.0.1.1.1.0, tt)))), ((a.1.0.0, (a.1.0.1.0, (a.1.0.1.1.0, tt))), ((a.1.1.0.0, (a.1.1.0.1.0, tt)), ((a.1.1.1.0.0, tt), (tt, tt))))) in
    let k = is-wall S well x may.goes in
    let R = merged S well x k.y k.e k.s k.r k.k k.g k.l k.h k.b k.shell k.outer k.p k.q k.P k.Q k.x_is k.y_is k.e_is k.b_is k.k_is k.l_is k.two k.g_is k.h_is k.loop_body k.only t0 t1 t2 t3 t4 once new in
    let first : reached S tags (kef S x) ≡ R = ap (reached S tags) k.row in
    let none : cost_of (kef S x) ≡ 0 = cost-changing (kef S x) (kef-changes S x) in
    let cut : IsWell R = subst IsWell first (reached-well S tags (kef S x) well (omega (arith, none)) (kef-keeps S tags x well)) in
    let row_is = row S well x k.y k.e k.s k.r k.k k.g k.l k.h k.b k.shell k.outer k.p k.q k.P k.Q k.x_is k.y_is k.e_is k.b_is k.k_is k.l_is k.two k.g_is k.h_is k.loop_body k.only t0 t1 t2 t3 t4 once new cut in
    let Q = walled S well x k.y k.e k.s k.r k.k k.g k.l k.h k.b k.shell k.outer k.p k.q k.P k.Q k.x_is k.y_is k.e_is k.b_is k.k_is k.l_is k.two k.g_is k.h_is k.loop_body k.only t0 t1 t2 t3 t4 once new in
    let goes : IsOk (mef R k.p k.q) = subst IsOk (sym row_is) refl in
    let cost : cost_of (mef R k.p k.q) ≡ 5 = mef-cost R k.p k.q goes in
    let made : IsWell Q = subst IsWell (ap (reached R five) row_is) (reached-well R five (mef R k.p k.q) cut (let fits : length (t0 ∷ t1 ∷ t2 ∷ t3 ∷ t4 ∷ []) ≡ 5 = refl in omega (arith, cost, fits))
    (mef-keeps R five k.p k.q cut ascend (still_free S well x k.y k.e k.s k.r k.k k.g k.l k.h k.b k.shell k.outer k.p k.q k.P k.Q k.x_is k.y_is k.e_is k.b_is k.k_is k.l_is k.two k.g_is k.h_is k.loop_body k.only t0 t1 t2 t3 t4 once new))) in
    let same = wall-anew S well x k.y k.e k.s k.r k.k k.g k.l k.h k.b k.shell k.outer k.p k.q k.P k.Q k.x_is k.y_is k.e_is k.b_is k.k_is k.l_is k.two k.g_is k.h_is k.loop_body k.only t0 t1 t2 t3 t4 once new cut made in
    let law : GivesBackButNames m (call.Kef x) (call.Mef k.p k.q) tags (k.g ∷ k.k ∷ k.e ∷ x ∷ k.y ∷ []) five = gives-back-names m (call.Kef x) (call.Mef k.p k.q) tags (k.g ∷ k.k ∷ k.e ∷ x ∷ k.y ∷ []) five R Q may.sound first cut goes
    (ap (λ n. reached R (drop n tags) (mef R k.p k.q)) (cost-changed m (call.Kef x) (kef-changes S x)) ∙ ap (reached R tags) row_is) made same in
    subst (λ (z : Tag × Tag × List Tag). GivesBackButNames m (call.Kef x) (call.Mef z.0 z.1) tags z.2 five) (λ i. (sym k.after_x i, sym k.after_y i, sym k.wall_is i)) law

pub kef-mef : (m : EntityMap) (x : Tag) (tags : List Tag) → MayFollow m (call.Kef x) 5 tags
    → GivesBackButNames m (call.Kef x) (call.Mef (fin_after (shape_of m) x) (fin_after (shape_of m) (mate_at (shape_of m) x))) tags (face_and_edge (shape_of m) x) (take 5 tags)
kef-mef m x [] may = absurd (let h = may.enough in omega (arith, h))
kef-mef m x (a ∷ []) may = absurd (let h = may.enough in omega (arith, h))
kef-mef m x (a ∷ b ∷ []) may = absurd (let h = may.enough in omega (arith, h))
kef-mef m x (a ∷ b ∷ c ∷ []) may = absurd (let h = may.enough in omega (arith, h))
kef-mef m x (a ∷ b ∷ c ∷ d ∷ []) may = absurd (let h = may.enough in omega (arith, h))
kef-mef m x (a ∷ b ∷ c ∷ d ∷ e ∷ rest) may = kef-mef_at m x a b c d e rest may
