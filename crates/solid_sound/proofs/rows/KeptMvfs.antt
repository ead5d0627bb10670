-- The row mvfs keeps soundness.
use Rattle.std.proofs.Common.{◌≡◌, ◌≢◌, ℕ, ◌+◌, ◌<◌, ◌≤◌, ⊎_elim, false, cond, List, [], ◌∷◌, length, Option, Some, None, refl, sym, ap, subst, ◌∙◌, arith}
use Rattle.std.specs.Prelude.{ℤ, pos, ◌+ℤ◌, ◌-ℤ◌, ◌&&◌, option_map, Contains}
use Rattle.std.specs.Option.{option_map_or}
use Rattle.std.specs.List.{AllByRecursion, sum_by}
use Rattle.pk_base.specs.Blocks.{tag}
use Rattle.pk_base.specs.Entity.{same_tag}
use Rattle.pk_base.specs.declared.tag.Tag.{Tag}
use Rattle.pk_base.specs.declared.entity.Point.{Point}
use Rattle.pk_base.specs.declared.entity.Triple.{Triple}
use Rattle.pk_base.specs.declared.entity.Name.{Name}
use Rattle.pk_base.specs.declared.entity.Class.{Class}
use Rattle.pk_base.specs.declared.entity.Class.TheVariants as class
use Rattle.pk_model.specs.Apart.{NoRepeats}
use Rattle.pk_model.specs.Tags.{TagsAscend, tag_at}
use Rattle.solid_model.specs.Items.{Item, Shape, item_at, class_of_item}
use Rattle.solid_model.specs.Items.Item.{Body, Shell, Face, Loop, Fin, Edge, Vertex, Attr}
use Rattle.solid_model.specs.Rings.{neighbours, from_least}
use Rattle.solid_model.specs.Owners.{fins_of, same_class, body_of, number_in_body}
use Rattle.solid_model.specs.Places.{mate_of, mate_at, vertex_of, start_at}
use Rattle.solid_model.specs.Ranges.{is_coordinate, numbers_of, point_of, refuse_outside}
use Rattle.solid_model.specs.Links.{is_fin_of}
use Rattle.solid_model.specs.Mvfs.{mvfs}
use Rattle.solid_model.specs.Sound.{IsWritten, IsSoundShape, AreOf, optional, ComesAfter, GoesRound, MeetsEulerPoincare, NamesItsKind, class_at, times_in_loops, fins_with_edge, end_of, is_alone_in, loops_alone_at}
use Rattle.list_facts.proofs.Elements.{not_in_nil}
use Rattle.list_facts.proofs.Each.{ByRecursion-contains, ByRecursion-at}
use Rattle.pk_base.proofs.Same.{same_itself, not_same}
use Rattle.solid_model.proofs.lists.Neighbours.{times, neighbours-in}
use Rattle.solid_sound.proofs.shapes.Reading.{fin_in}
use Rattle.solid_sound.proofs.shapes.Lookups.{Items}
use Rattle.solid_sound.proofs.shapes.Sums.{sum-alike, sum-nothing}
use Rattle.solid_sound.proofs.shapes.Edits.{Adds, adds}
use Rattle.solid_sound.proofs.shapes.Names.{NotAttr, names-carried, each-named}
use Rattle.solid_sound.proofs.shapes.Bodies.{LeadsUp, body_of-leads, body_of-live, item_of_class, low_item, body_or_new, new-body, old-body, agreed-LeadsUp, low_item}
use Rattle.solid_sound.proofs.shapes.Numbers.{attr_or_not, number-attribute, number-alike, number-elsewhere}
use Rattle.solid_sound.proofs.rows.Asked.{free_at}
use Rattle.solid_sound.proofs.shapes.EachItem.{LeadsFrom, leads-by_item, item-leads, SoundItem, SoundLoop, sound-by_item, item-of_sound}
use Rattle.solid_sound.proofs.rows.RowKeeps.{IsWell, Keeps, keeps-after}
use Rattle.solid_sound.proofs.rows.KeptMotions.{AreCoordinates, outside-none}

module _ (S : Shape) (well : IsWell S) (b s f l v : Tag) (p : Point) (within : AreCoordinates p)
    (once : NoRepeats (b ∷ s ∷ f ∷ l ∷ v ∷ [])) (free : AllByRecursion (λ u. item_at S u ≡ None) (b ∷ s ∷ f ∷ l ∷ v ∷ []))
    (R : Shape) (added : Adds S R ((b, Body s) ∷ (s, Shell b (pos 1)) ∷ (f, Face s l) ∷ (l, Loop f [] (Some v)) ∷ (v, Vertex b p) ∷ [])) where
  -- what stands there
  b_is : item_at R b ≡ Some (Body s)
  b_is = added.news b (Body s) (0, omega arith, refl)

  s_is : item_at R s ≡ Some (Shell b (pos 1))
  s_is = added.news s (Shell b (pos 1)) (1, omega arith, refl)

  f_is : item_at R f ≡ Some (Face s l)
  f_is = added.news f (Face s l) (2, omega arith, refl)

  l_is : item_at R l ≡ Some (Loop f [] (Some v))
  l_is = added.news l (Loop f [] (Some v)) (3, omega arith, refl)

  v_is : item_at R v ≡ Some (Vertex b p)
  v_is = added.news v (Vertex b p) (4, omega arith, refl)

  -- what holds of the new items and of those that were holds of all
  each : (P : Tag → Item → Type 0) → P b (Body s) → P s (Shell b (pos 1)) → P f (Face s l) → P l (Loop f [] (Some v)) → P v (Vertex b p)
      → ((t : Tag) (x : Item) → item_at S t ≡ Some x → P t x) → (t : Tag) (x : Item) → item_at R t ≡ Some x → P t x
  each P pb ps pf pl pv old t x e = ⊎_elim
      (λ (k : Contains ((b, Body s) ∷ (s, Shell b (pos 1)) ∷ (f, Face s l) ∷ (l, Loop f [] (Some v)) ∷ (v, Vertex b p) ∷ []) (t, x)).
      ByRecursion-at (λ (y : Tag × Item). P y.0 y.1) ((b, Body s) ∷ (s, Shell b (pos 1)) ∷ (f, Face s l) ∷ (l, Loop f [] (Some v)) ∷ (v, Vertex b p) ∷ []) (t, x) (pb, (ps, (pf, (pl, (pv, tt))))) k)
      (λ (was : item_at S t ≡ Some x). old t x was)
      (added.was t x e)

  -- ---- names

  class_stays : (t : Tag) (c : Class) → NotAttr c → Unit {0} → class_at S t ≡ Some c → class_at R t ≡ Some c
  class_stays t c na u h = let y = item_of_class (item_at S t) c h in ap (option_map class_of_item) (added.stays t y.0 y.1) ∙ ap Some y.2

  class_by : (t : Tag) (x : Item) → item_at R t ≡ Some x → class_at R t ≡ Some (class_of_item x)
  class_by t x e = ap (option_map class_of_item) e

  kinds : (t : Tag) (x : Item) → item_at R t ≡ Some x → NamesItsKind R x
  kinds = each (λ t x. NamesItsKind R x)
      (class_by s _ s_is, tt) (class_by b _ b_is, tt) ((class_by s _ s_is, tt), (class_by l _ l_is, tt)) ((class_by f _ f_is, tt), tt, (class_by v _ v_is, tt)) (class_by b _ b_is, tt)
      (λ t x e. names-carried S R (λ u. Unit {0}) class_stays x (each-named x) (well.sound.names.kinds t x e))

  -- ---- fins, edges and lone vertices

  times_same : (t : Tag) → times_in_loops R t ≡ times_in_loops S t
  times_same t = let sum = added.sums (λ x. times t (fins_of x.1)) in omega (arith, sum)

  edges_same : (e : Tag) → fins_with_edge R e ≡ fins_with_edge S e
  edges_same e = let sum = added.sums (λ x. cond (is_fin_of e x.1) 1 0) in omega (arith, sum)

  lone_more : (t : Tag) → loops_alone_at R t ≡ cond (same_tag v t) 1 0 + loops_alone_at S t
  lone_more t = let sum = added.sums (λ x. cond (is_alone_in t x.1) 1 0) in omega (arith, sum)

  fin_was : (t mate edge vertex : Tag) → item_at R t ≡ Some (Fin mate edge vertex) → item_at S t ≡ Some (Fin mate edge vertex)
  fin_was t mate edge vertex e = ⊎_elim
      (λ (k : Contains ((b, Body s) ∷ (s, Shell b (pos 1)) ∷ (f, Face s l) ∷ (l, Loop f [] (Some v)) ∷ (v, Vertex b p) ∷ []) (t, Fin mate edge vertex)).
      absurd (ByRecursion-at (λ (y : Tag × Item). y.1 ≢ Fin mate edge vertex) ((b, Body s) ∷ (s, Shell b (pos 1)) ∷ (f, Face s l) ∷ (l, Loop f [] (Some v)) ∷ (v, Vertex b p) ∷ []) (t, Fin mate edge vertex)
      ((λ h. cc), ((λ h. cc), ((λ h. cc), ((λ h. cc), ((λ h. cc), tt))))) k refl))
      (λ (was : item_at S t ≡ Some (Fin mate edge vertex)). was)
      (added.was t _ e)

  attribute_was : (t o : Tag) (n : Name) (w : ℤ) → item_at R t ≡ Some (Attr o n w) → item_at S t ≡ Some (Attr o n w)
  attribute_was t o n w e = ⊎_elim
      (λ (k : Contains ((b, Body s) ∷ (s, Shell b (pos 1)) ∷ (f, Face s l) ∷ (l, Loop f [] (Some v)) ∷ (v, Vertex b p) ∷ []) (t, Attr o n w)).
      absurd (ByRecursion-at (λ (y : Tag × Item). y.1 ≢ Attr o n w) ((b, Body s) ∷ (s, Shell b (pos 1)) ∷ (f, Face s l) ∷ (l, Loop f [] (Some v)) ∷ (v, Vertex b p) ∷ []) (t, Attr o n w)
      ((λ h. cc), ((λ h. cc), ((λ h. cc), ((λ h. cc), ((λ h. cc), tt))))) k refl))
      (λ (was : item_at S t ≡ Some (Attr o n w)). was)
      (added.was t _ e)

  placed : (t mate edge vertex : Tag) → item_at R t ≡ Some (Fin mate edge vertex) → times_in_loops R t ≡ 1
  placed t mate edge vertex e = times_same t ∙ well.sound.placed t mate edge vertex (fin_was t mate edge vertex e)

  -- ---- bodies

  abbrev g : Tag → Tag
  g t = body_or_new S (b ∷ s ∷ f ∷ l ∷ v ∷ []) b t

  g_new : (t : Tag) → Contains (b ∷ s ∷ f ∷ l ∷ v ∷ []) t → g t ≡ b
  g_new t k = new-body S (b ∷ s ∷ f ∷ l ∷ v ∷ []) b t k

  g_b : g b ≡ b
  g_b = g_new b (0, omega arith, refl)

  g_s : g s ≡ b
  g_s = g_new s (1, omega arith, refl)

  g_f : g f ≡ b
  g_f = g_new f (2, omega arith, refl)

  g_l : g l ≡ b
  g_l = g_new l (3, omega arith, refl)

  g_v : g v ≡ b
  g_v = g_new v (4, omega arith, refl)

  g_old : (t : Tag) (x : Item) → item_at S t ≡ Some x → g t ≡ body_of S t
  g_old t x e = old-body S (b ∷ s ∷ f ∷ l ∷ v ∷ []) b t x free e

  up : LeadsUp R g
  up = leads-by_item R g (each (LeadsFrom g) g_b (g_b ∙ sym g_s) (g_s ∙ sym g_f) (g_f ∙ sym g_l, tt) (g_b ∙ sym g_v)
      (item-leads S g (agreed-LeadsUp S well.written well.sound g g_old)))

  body_at : (t : Tag) (x : Item) → item_at R t ≡ Some x → NotAttr (class_of_item x) → body_of R t ≡ g t
  body_at t x e na = body_of-leads R added.ascends kinds placed g up t x e (low_item x na)

  body_was : (t : Tag) (x : Item) → item_at S t ≡ Some x → NotAttr (class_of_item x) → body_of R t ≡ body_of S t
  body_was t x e na = body_at t x (added.stays t x e) na ∙ g_old t x e

  body_of_class : (t : Tag) (c : Class) → NotAttr c → class_at S t ≡ Some c → body_of R t ≡ body_of S t
  body_of_class t c na h = let x = item_of_class (item_at S t) c h in body_was t x.0 x.1 (subst NotAttr (sym x.2) na)

  -- ---- numbers

  abbrev xs : Items
  xs = (b, Body s) ∷ (s, Shell b (pos 1)) ∷ (f, Face s l) ∷ (l, Loop f [] (Some v)) ∷ (v, Vertex b p) ∷ []

  number_more : (c : Class) → same_class class.Attr c ≡ false → (d : Tag) → number_in_body c R d ≡ sum_by (λ (x : Tag × Item). cond (same_class (class_of_item x.1) c && same_tag (g x.0) d) 1 0) xs + number_in_body c S d
  number_more c na d =
      sum-alike (λ x. cond (same_class (class_of_item x.1) c && same_tag (body_of R x.0) d) 1 0) (λ x. cond (same_class (class_of_item x.1) c && same_tag (g x.0) d) 1 0) R added.ascends
      (λ t x e. number-alike c na d (body_of R t) (g t) x (λ other. body_at t x e other))
      ∙ added.sums (λ x. cond (same_class (class_of_item x.1) c && same_tag (g x.0) d) 1 0)
      ∙ ap (λ n. sum_by (λ (x : Tag × Item). cond (same_class (class_of_item x.1) c && same_tag (g x.0) d) 1 0) xs + n)
      (sum-alike (λ x. cond (same_class (class_of_item x.1) c && same_tag (g x.0) d) 1 0) (λ x. cond (same_class (class_of_item x.1) c && same_tag (body_of S x.0) d) 1 0) S well.written.ascends
      (λ t x e. number-alike c na d (g t) (body_of S t) x (λ other. g_old t x e)))

  abbrev one : Class → Class → Tag → Tag → ℕ
  one k c t d = cond (same_class k c && same_tag t d) 1 0

  new_numbers : (c : Class) (d : Tag) → sum_by (λ (x : Tag × Item). cond (same_class (class_of_item x.1) c && same_tag (g x.0) d) 1 0) xs
      ≡ ((((0 + one class.Body c b d) + one class.Shell c b d) + one class.Face c b d) + one class.Loop c b d) + one class.Vertex c b d
  new_numbers c d = λ i. ((((0 + one class.Body c (g_b i) d) + one class.Shell c (g_s i) d) + one class.Face c (g_f i) d) + one class.Loop c (g_l i) d) + one class.Vertex c (g_v i) d

  vertices_more : (d : Tag) → number_in_body class.Vertex R d ≡ cond (same_tag b d) 1 0 + number_in_body class.Vertex S d
  vertices_more d = let m = number_more class.Vertex refl d in let n = new_numbers class.Vertex d in omega (arith, m, n)

  edges_more : (d : Tag) → number_in_body class.Edge R d ≡ number_in_body class.Edge S d
  edges_more d = let m = number_more class.Edge refl d in let n = new_numbers class.Edge d in omega (arith, m, n)

  faces_more : (d : Tag) → number_in_body class.Face R d ≡ cond (same_tag b d) 1 0 + number_in_body class.Face S d
  faces_more d = let m = number_more class.Face refl d in let n = new_numbers class.Face d in omega (arith, m, n)

  loops_more : (d : Tag) → number_in_body class.Loop R d ≡ cond (same_tag b d) 1 0 + number_in_body class.Loop S d
  loops_more d = let m = number_more class.Loop refl d in let n = new_numbers class.Loop d in omega (arith, m, n)

  -- nothing stood in the new body
  none_in_new : (c : Class) → same_class class.Attr c ≡ false → number_in_body c S b ≡ 0
  none_in_new c na = sum-nothing (λ x. cond (same_class (class_of_item x.1) c && same_tag (body_of S x.0) b) 1 0) S well.written.ascends
      (λ t x e. ⊎_elim {C = cond {A = ℕ} (same_class (class_of_item x) c && same_tag (body_of S t) b) 1 0 ≡ 0}
      (λ (a : class_of_item x ≡ class.Attr). number-attribute c na (same_tag (body_of S t) b) x a)
      (λ (other : NotAttr (class_of_item x)). number-elsewhere (same_class (class_of_item x) c) (body_of S t) b (λ same.
      let live = body_of-live S well.written.ascends well.sound.names.kinds well.sound.placed t x e (low_item x other) in
      let both : None ≡ Some (Body live.0) = sym free.0 ∙ ap (item_at S) (sym same) ∙ live.1 in
      cc))
      (attr_or_not x))

  formula_new : MeetsEulerPoincare R b (pos 1)
  formula_new =
      let same : cond {A = ℕ} (same_tag b b) 1 0 ≡ 1 = ap (λ c. cond {A = ℕ} c 1 0) (same_itself b) in
      let vn : number_in_body class.Vertex R b ≡ 1 = let m = vertices_more b in let n = none_in_new class.Vertex refl in omega (arith, m, n, same) in
      let en : number_in_body class.Edge R b ≡ 0 = edges_more b ∙ none_in_new class.Edge refl in
      let fn : number_in_body class.Face R b ≡ 1 = let m = faces_more b in let n = none_in_new class.Face refl in omega (arith, m, n, same) in
      let ln : number_in_body class.Loop R b ≡ 1 = let m = loops_more b in let n = none_in_new class.Loop refl in omega (arith, m, n, same) in
      λ i. ((pos (vn i) -ℤ pos (en i)) +ℤ pos (fn i)) -ℤ (pos (ln i) -ℤ pos (fn i))

  formula_old : (d : Tag) (q : ℤ) → d ≢ b → MeetsEulerPoincare S d q → MeetsEulerPoincare R d q
  formula_old d q other h =
      let none : cond {A = ℕ} (same_tag b d) 1 0 ≡ 0 = ap (λ c. cond {A = ℕ} c 1 0) (not_same b d (λ k. other (sym k))) in
      let vn : number_in_body class.Vertex R d ≡ number_in_body class.Vertex S d = let m = vertices_more d in omega (arith, m, none) in
      let en = edges_more d in
      let fn : number_in_body class.Face R d ≡ number_in_body class.Face S d = let m = faces_more d in omega (arith, m, none) in
      let ln : number_in_body class.Loop R d ≡ number_in_body class.Loop S d = let m = loops_more d in omega (arith, m, none) in
      (λ i. ((pos (vn i) -ℤ pos (en i)) +ℤ pos (fn i)) -ℤ (pos (ln i) -ℤ pos (fn i))) ∙ h

  -- ---- what was

  at_same : (t : Tag) (x : Item) → item_at S t ≡ Some x → item_at R t ≡ item_at S t
  at_same t x e = added.stays t x e ∙ sym e

  start_same : (t mate edge vertex : Tag) → item_at S t ≡ Some (Fin mate edge vertex) → (start_at R t ≡ start_at S t) × (mate_at R t ≡ mate_at S t) × (end_of R t ≡ end_of S t)
  start_same t mate edge vertex e =
      let m = well.sound.mates.fins t mate edge vertex e in
      let mate_same : mate_at R t ≡ mate_at S t = ap (λ o. option_map_or mate_of o (tag 0)) (at_same t _ e) in
      let mate_is : mate_at S t ≡ mate = ap (λ o. option_map_or mate_of o (tag 0)) e in (
        ap (λ o. option_map_or vertex_of o (tag 0)) (at_same t _ e),
        mate_same,
        ap (start_at R) (mate_same ∙ mate_is) ∙ ap (λ o. option_map_or vertex_of o (tag 0)) (at_same mate _ m.mate_is) ∙ ap (start_at S) (sym mate_is),
      )

  -- what is not live stands at no vertex
  not_live : (t : Tag) (c : Class) → item_at S t ≡ None → class_at S t ≢ Some c
  not_live t c none h = let both : None ≡ Some c = sym (ap (option_map class_of_item) none) ∙ h in cc

  loop_old : (t face : Tag) (fins : List Tag) (vertex : Option Tag) → item_at S t ≡ Some (Loop face fins vertex) → SoundLoop R t fins vertex
  loop_old t face fins vertex e =
      let was = item-of_sound S well.sound t (Loop face fins vertex) e in
      let at = λ (u : Tag) (k : Contains fins u). let x = fin_in S well.written well.sound t face fins vertex e u k in start_same u x.0 x.1 x.2 x.3 in
      record {
        follow = ByRecursion-contains (λ n. start_at R n.1 ≡ end_of R n.0) (neighbours fins) (λ n k.
            let both = neighbours-in fins n k in
            (at n.1 both.1).0 ∙ ByRecursion-at (λ m. start_at S m.1 ≡ end_of S m.0) (neighbours fins) n was.follow k ∙ sym (at n.0 both.0).2);
        lone = was.lone;
        body = lone_bodies (optional vertex) (well.sound.names.kinds t (Loop face fins vertex) e).2 was.body (body_was t _ e (λ k. cc));
      }
    where
      lone_bodies : (vs : List Tag) → AreOf S class.Vertex vs → AllByRecursion (λ u. body_of S u ≡ body_of S t) vs → body_of R t ≡ body_of S t → AllByRecursion (λ u. body_of R u ≡ body_of R t) vs
      lone_bodies [] a h own = tt
      lone_bodies (u ∷ us) a h own = (body_of_class u class.Vertex (λ k. cc) a.0 ∙ h.0 ∙ sym own, lone_bodies us a.1 h.1 own)

  comes_after : (t u : Tag) → ComesAfter S t u → ComesAfter R t u
  comes_after t u h = record { loop_ = h.loop_; face = h.face; fins = h.fins; vertex = h.vertex; loop_is = added.stays h.loop_ _ h.loop_is; among = h.among }

  round_old : (t : Tag) (x : Item) → item_at S t ≡ Some x → GoesRound S t → GoesRound R t
  round_old t x e h =
      let fin = λ (u : Tag) (k : Contains h.fins u). (h.are_all u).0 k in
      let none : cond {A = ℕ} (same_tag v t) 1 0 ≡ 0 = ap (λ c. cond {A = ℕ} c 1 0) (not_same v t (λ same. let both : None ≡ Some x = sym free.1.1.1.1.0 ∙ ap (item_at S) same ∙ e in cc)) in
      record {
        fins = h.fins;
        once = h.once;
        are_all = λ u. (λ k. ((fin u k).0, (fin u k).1, added.stays u _ (fin u k).2), λ m. (h.are_all u).1 (m.0, m.1, fin_was u m.0 m.1 t m.2));
        round = ByRecursion-contains (λ n. ComesAfter R (mate_at R n.0) n.1) (neighbours h.fins) (λ n k.
            let x = fin n.0 (neighbours-in h.fins n k).0 in
            subst (λ u. ComesAfter R u n.1) (sym (start_same n.0 x.0 x.1 t x.2).1)
            (comes_after (mate_at S n.0) n.1 (ByRecursion-at (λ m. ComesAfter S (mate_at S m.0) m.1) (neighbours h.fins) n h.round k)));
        lone = lone_more t ∙ ap (λ n. n + loops_alone_at S t) none ∙ omega arith ∙ h.lone;
      }

  round_new : GoesRound R v
  round_new =
      let same : cond {A = ℕ} (same_tag v v) 1 0 ≡ 1 = ap (λ c. cond {A = ℕ} c 1 0) (same_itself v) in
      let none : loops_alone_at S v ≡ 0 = sum-nothing (λ x. cond (is_alone_in v x.1) 1 0) S well.written.ascends (λ t x e. nowhere_alone t x e) in
      let m = lone_more v in
      record {
        fins = [];
        once = tt;
        are_all = λ u. (λ k. absurd (not_in_nil u k), λ m. absurd (not_live v class.Vertex free.1.1.1.1.0 (well.sound.names.kinds u (Fin m.0 m.1 v) (fin_was u m.0 m.1 v m.2)).2.0));
        round = tt;
        lone = omega (arith, m, none, same);
      }
    where
      nowhere_alone : (t : Tag) (x : Item) → item_at S t ≡ Some x → cond {A = ℕ} (is_alone_in v x) 1 0 ≡ 0
      nowhere_alone t (Loop face fins None) e = refl
      nowhere_alone t (Loop face fins (Some u)) e = ap (λ c. cond {A = ℕ} c 1 0) (not_same u v (λ same. not_live v class.Vertex free.1.1.1.1.0 (ap (class_at S) (sym same) ∙ (well.sound.names.kinds t (Loop face fins (Some u)) e).2.0)))
      nowhere_alone t (Fin mate edge vertex) e = refl
      nowhere_alone t (Body shell) e = refl
      nowhere_alone t (Shell body q) e = refl
      nowhere_alone t (Face shell outer) e = refl
      nowhere_alone t (Edge body) e = refl
      nowhere_alone t (Vertex body point) e = refl
      nowhere_alone t (Attr owner name value) e = refl

  old : (t : Tag) (x : Item) → item_at S t ≡ Some x → SoundItem R t x
  old t (Body shell) e =
      let was = item-of_sound S well.sound t (Body shell) e in
      let h = was.has_shell in
      record {
        has_shell = record { q = h.q; shell_is = added.stays shell _ h.shell_is; face = h.face; outer = h.outer; face_is = added.stays h.face _ h.face_is };
        formula = λ q is.
            let q_is : Some (Shell t h.q) ≡ Some (Shell t q) = sym (added.stays shell _ h.shell_is) ∙ is in
            let same : h.q ≡ q = cc in
            formula_old t q (λ k. let both : None ≡ Some (Body shell) = sym free.0 ∙ ap (item_at S) (sym k) ∙ e in cc) (was.formula q (h.shell_is ∙ ap (λ n. Some (Shell t n)) same));
      }
  old t (Shell body q) e = added.stays body _ (item-of_sound S well.sound t (Shell body q) e)
  old t (Face shell outer) e = let o = item-of_sound S well.sound t (Face shell outer) e in record { fins = o.fins; vertex = o.vertex; outer_is = added.stays outer _ o.outer_is }
  old t (Loop face fins vertex) e = loop_old t face fins vertex e
  old t (Fin mate edge vertex) e =
      let was = item-of_sound S well.sound t (Fin mate edge vertex) e in
      let named = well.sound.names.kinds t (Fin mate edge vertex) e in
      let own = body_was t _ e (λ k. cc) in
      record {
        placed = times_same t ∙ was.placed;
        mated = record { other = was.mated.other; end = was.mated.end; mate_is = added.stays mate _ was.mated.mate_is; apart = was.mated.apart };
        edge_body = body_of_class edge class.Edge (λ k. cc) named.1.0 ∙ was.edge_body ∙ sym own;
        vertex_body = body_of_class vertex class.Vertex (λ k. cc) named.2.0 ∙ was.vertex_body ∙ sym own;
      }
  old t (Edge body) e = edges_same t ∙ item-of_sound S well.sound t (Edge body) e
  old t (Vertex body point) e = let was = item-of_sound S well.sound t (Vertex body point) e in (round_old t _ e was.0, was.1)
  old t (Attr owner name value) e = let was = item-of_sound S well.sound t (Attr owner name value) e in (was.0, class_stays owner was.0 was.2 tt was.1, was.2)

  pub vertex_body-added : IsSoundShape R
  vertex_body-added = sound-by_item R kinds (each (SoundItem R)
      (record {
        has_shell = record { q = pos 1; shell_is = s_is; face = f; outer = l; face_is = f_is };
        formula = λ q is. let both : Some (Shell b (pos 1)) ≡ Some (Shell b q) = sym s_is ∙ is in let same : pos 1 ≡ q = cc in subst (MeetsEulerPoincare R b) same formula_new;
      })
      b_is
      (record { fins = []; vertex = Some v; outer_is = l_is })
      (record { follow = tt; lone = refl; body = (body_at v _ v_is (λ k. cc) ∙ g_v ∙ sym g_l ∙ sym (body_at l _ l_is (λ k. cc)), tt) })
      (round_new, within)
      old)
      (λ a d o n x y h k. well.sound.attributes.one a d o n x y (attribute_was a o n x h) (attribute_was d o n y k))

  pub vertex_body-written : IsWritten R
  vertex_body-written = record {
    ascends = added.ascends;
    loops = λ t face fins vertex e. each (λ u x. from_least (fins_of x) ≡ fins_of x) refl refl refl refl refl least_old t (Loop face fins vertex) e;
  }
    where
      least_old : (t : Tag) (x : Item) → item_at S t ≡ Some x → from_least (fins_of x) ≡ fins_of x
      least_old t (Loop face fins vertex) e = well.written.loops t face fins vertex e
      least_old t (Body shell) e = refl
      least_old t (Shell body q) e = refl
      least_old t (Face shell outer) e = refl
      least_old t (Fin mate edge vertex) e = refl
      least_old t (Edge body) e = refl
      least_old t (Vertex body point) e = refl
      least_old t (Attr owner name value) e = refl

-- five tags that ascend are different
five_apart : (tags : List Tag) → TagsAscend tags → 5 ≤ length tags → NoRepeats (tag_at tags 0 ∷ tag_at tags 1 ∷ tag_at tags 2 ∷ tag_at tags 3 ∷ tag_at tags 4 ∷ [])
five_apart [] a h = absurd (omega arith)
five_apart (b ∷ []) a h = absurd (omega arith)
five_apart (b ∷ s ∷ []) a h = absurd (omega arith)
five_apart (b ∷ s ∷ f ∷ []) a h = absurd (omega arith)
five_apart (b ∷ s ∷ f ∷ l ∷ []) a h = absurd (omega arith)
five_apart (b ∷ s ∷ f ∷ l ∷ v ∷ more) a h = (
  (differs b s a.0.0, (differs b f a.0.1.0, (differs b l a.0.1.1.0, (differs b v a.0.1.1.1.0, tt)))),
  (
    (differs s f a.1.0.0, (differs s l a.1.0.1.0, (differs s v a.1.0.1.1.0, tt))),
    (
      (differs f l a.1.1.0.0, (differs f v a.1.1.0.1.0, tt)),
      ((differs l v a.1.1.1.0.0, tt), (tt, tt)),
    ),
  ),
)
  where
    differs : (t u : Tag) → t.0 < u.0 → t ≢ u
    differs t u h e = let same : t.0 ≡ u.0 = ap (λ (x : Tag). x.0) e in omega arith

pub mvfs-keeps : (S : Shape) (tags : List Tag) (at : Triple) → IsWell S → TagsAscend tags → AllByRecursion (λ t. item_at S t ≡ None) tags → Keeps tags (mvfs S at)
mvfs-keeps S tags at well ascend free = keeps-after tags (refuse_outside is_coordinate (numbers_of at)) _ (λ n enough.
    let within = outside-none is_coordinate (numbers_of at) n in
    let once = five_apart tags ascend enough in
    let none : AllByRecursion (λ u. item_at S u ≡ None) (tag_at tags 0 ∷ tag_at tags 1 ∷ tag_at tags 2 ∷ tag_at tags 3 ∷ tag_at tags 4 ∷ []) = (free_at S tags 0 free (omega arith), (free_at S tags 1 free (omega arith), (free_at S tags 2 free (omega arith), (free_at S tags 3 free (omega arith), (free_at S tags 4 free (omega arith), tt))))) in
    let added = adds S ((tag_at tags 0, Body (tag_at tags 1)) ∷ (tag_at tags 1, Shell (tag_at tags 0) (pos 1)) ∷ (tag_at tags 2, Face (tag_at tags 1) (tag_at tags 3)) ∷ (tag_at tags 3, Loop (tag_at tags 2) [] (Some (tag_at tags 4))) ∷ (tag_at tags 4, Vertex (tag_at tags 0) (point_of at)) ∷ []) well.written.ascends once none in
    record {
      written = vertex_body-written S well (tag_at tags 0) (tag_at tags 1) (tag_at tags 2) (tag_at tags 3) (tag_at tags 4) (point_of at) within once none _ added;
      sound = vertex_body-added S well (tag_at tags 0) (tag_at tags 1) (tag_at tags 2) (tag_at tags 3) (tag_at tags 4) (point_of at) within once none _ added;
    })
