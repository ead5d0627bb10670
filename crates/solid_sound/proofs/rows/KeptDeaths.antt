-- A body dies with all that stands in it, and the rest stays sound.
use Rattle.std.proofs.Common.{◌≡◌, ◌≢◌, ℕ, ⊎_elim, true, false, not, cond, List, Option, Some, None, refl, sym, ap, subst, ◌∙◌}
use Rattle.std.specs.Prelude.{T, ℤ, pos, ◌+ℤ◌, ◌-ℤ◌, ◌&&◌, filter, option_map, Contains}
use Rattle.std.specs.Option.{option_map_or}
use Rattle.std.specs.List.{AllByRecursion, sum_by}
use Rattle.std.specs.FinMap.{is_sorted}
use Rattle.std.proofs.lemmas.Bool.{true≢false, or_cases, not-false}
use Rattle.pk_base.specs.Blocks.{tag}
use Rattle.pk_base.specs.Entity.{same_tag}
use Rattle.pk_base.specs.declared.tag.Tag.{Tag}
use Rattle.pk_base.specs.declared.entity.Name.{Name}
use Rattle.pk_base.specs.declared.entity.Class.{Class}
use Rattle.pk_base.specs.declared.entity.Class.TheVariants as class
use Rattle.pk_base.specs.declared.refusal.Refusal.TheVariants.{NotBare}
use Rattle.pk_model.specs.Maps.{tag_cmp}
use Rattle.solid_model.specs.Items.{Item, Shape, item_at, class_of_item}
use Rattle.solid_model.specs.Items.Item.{Body, Shell, Face, Loop, Fin, Edge, Vertex, Attr}
use Rattle.solid_model.specs.Rings.{is_among, neighbours}
use Rattle.solid_model.specs.Owners.{fins_of, same_class, body_of, all_in_body, number_in_body}
use Rattle.solid_model.specs.Deaths.{is_attribute_of, dies_with, ◌without◌}
use Rattle.solid_model.specs.Rows.{refuse_where}
use Rattle.solid_model.specs.Places.{mate_of, mate_at, vertex_of, start_at, body_at}
use Rattle.solid_model.specs.Links.{is_fin_of}
use Rattle.solid_model.specs.Kvfs.{kvfs, has_more_than_a_vertex}
use Rattle.solid_model.specs.Delete.{delete}
use Rattle.solid_model.specs.Sound.{IsSoundShape, ComesAfter, GoesRound, NamesItsKind, class_at, times_in_loops, fins_with_edge, end_of, is_alone_in, loops_alone_at}
use Rattle.list_facts.proofs.Elements.{Contains-map, map_contains}
use Rattle.list_facts.proofs.Each.{ByRecursion-contains, ByRecursion-at}
use Rattle.pk_base.proofs.Same.{same_means, not_same, same_itself}
use Rattle.solid_model.proofs.lists.Neighbours.{is_among-in, in-is_among, not_among, times, times-none, neighbours-in, neither_parts, neither_from}
use Rattle.solid_sound.proofs.shapes.Lookups.{filter-was, filter-kept, filter-sorted}
use Rattle.solid_sound.proofs.shapes.Reading.{fin_in}
use Rattle.solid_sound.proofs.shapes.Found.{among-item, item-among}
use Rattle.solid_sound.proofs.shapes.Sums.{sum-alike, sum-left}
use Rattle.solid_sound.proofs.shapes.Names.{NotAttr, names-carried, named-weaker}
use Rattle.solid_sound.proofs.shapes.Bodies.{LeadsUp, leads_up, body_of-leads, item_of_class, named-in_body, low_item}
use Rattle.solid_sound.proofs.shapes.Numbers.{number-attribute, number-alike, number-elsewhere}
use Rattle.solid_sound.proofs.shapes.Attributes.{attribute_of-class, no_attribute_of}
use Rattle.solid_sound.proofs.rows.RowKeeps.{IsWell, Keeps, keeps-after, keeps-bind}

-- ---- what stands in the body

pub in_body-among : (S : Shape) (b t : Tag) (x : Item) → item_at S t ≡ Some x → body_of S t ≡ b → Contains (all_in_body S b) t
in_body-among S b t x e h =
    Contains-map (λ (y : Tag × Item). y.0) (filter (λ y. same_tag (body_of S y.0) b) S) (t, x)
    (item-among (filter (λ y. same_tag (body_of S y.0) b) S) t x (filter-kept (λ y. same_tag (body_of S y.0) b) S t x e (ap (λ u. same_tag u b) h ∙ same_itself b)))

pub among-in_body : (S : Shape) (b t : Tag) → T (is_sorted tag_cmp S) → Contains (all_in_body S b) t → body_of S t ≡ b
among-in_body S b t sorted k =
    let y = map_contains (λ (z : Tag × Item). z.0) (filter (λ z. same_tag (body_of S z.0) b) S) t k in
    let left = filter-was (λ z. same_tag (body_of S z.0) b) S sorted y.0.0 y.0.1
    (among-item (filter (λ z. same_tag (body_of S z.0) b) S) (filter-sorted (λ z. same_tag (body_of S z.0) b) S sorted) y.0.0 y.0.1 y.1) in
    ap (body_of S) (sym y.2) ∙ same_means (body_of S y.0.0) b left.1

-- R is S without the body
pub record WithoutBody (S R : Shape) (b : Tag) : Type 0 where
  pub ascends : T (is_sorted tag_cmp R)
  pub stays : (t : Tag) (x : Item) → item_at S t ≡ Some x → NotAttr (class_of_item x) → body_of S t ≢ b → item_at R t ≡ Some x
  pub was : (t : Tag) (x : Item) → item_at R t ≡ Some x → item_at S t ≡ Some x
  pub outside : (t : Tag) (x : Item) → item_at R t ≡ Some x → body_of S t ≢ b
  pub owner : (a o : Tag) (name : Name) (value : ℤ) → item_at R a ≡ Some (Attr o name value) → (c : Class) → class_at S o ≡ Some c → body_of S o ≢ b
  pub sums : (w : Tag × Item → ℕ) → ((t : Tag) (x : Item) → item_at S t ≡ Some x → body_of S t ≡ b → w (t, x) ≡ 0)
      → ((t : Tag) (x : Item) → class_of_item x ≡ class.Attr → w (t, x) ≡ 0) → sum_by w R ≡ sum_by w S

without_body : (S : Shape) (b : Tag) → IsWell S → WithoutBody S (S without all_in_body S b) b
without_body S b well =
    let sorted = well.written.ascends in
    let lives = λ (x : Tag × Item). not (dies_with (all_in_body S b) x) in
    record {
      ascends = filter-sorted lives S sorted;
      stays = λ t x e na other. filter-kept lives S t x e (neither_from (is_among t (all_in_body S b)) (is_attribute_of (all_in_body S b) x)
          (not_among t (all_in_body S b) (λ k. other (among-in_body S b t sorted k))) (no_attribute_of (all_in_body S b) x na));
      was = λ t x e. (filter-was lives S sorted t x e).0;
      outside = λ t x e h.
          let left = filter-was lives S sorted t x e in
          let alive = neither_parts (is_among t (all_in_body S b)) (is_attribute_of (all_in_body S b) x) left.1 in
          true≢false (sym (is_among-in t (all_in_body S b) (in_body-among S b t x left.0 h)) ∙ alive.0);
      owner = λ a o n v e c live h.
          let left = filter-was lives S sorted a (Attr o n v) e in
          let alive = neither_parts (is_among a (all_in_body S b)) (is_among o (all_in_body S b)) left.1 in
          let y = item_of_class (item_at S o) c live in
          true≢false (sym (is_among-in o (all_in_body S b) (in_body-among S b o y.0 y.1 h)) ∙ alive.1);
      sums = λ w dead attr. sum-left w lives S sorted (λ t x e d. ⊎_elim {C = w (t, x) ≡ 0}
          (λ (l : is_among t (all_in_body S b) ≡ true). dead t x e (among-in_body S b t sorted (in-is_among t (all_in_body S b) l)))
          (λ (r : is_attribute_of (all_in_body S b) x ≡ true). attr t x (attribute_of-class (all_in_body S b) x r))
          (or_cases (is_among t (all_in_body S b)) (is_attribute_of (all_in_body S b) x) (not-false (dies_with (all_in_body S b) (t, x)) d)));
    }

module _ (S R : Shape) (b : Tag) (well : IsWell S) (left : WithoutBody S R b) where
  class_stays : (t : Tag) (c : Class) → NotAttr c → body_of S t ≢ b → class_at S t ≡ Some c → class_at R t ≡ Some c
  class_stays t c na other h =
      let y = item_of_class (item_at S t) c h in
      ap (option_map class_of_item) (left.stays t y.0 y.1 (subst NotAttr (sym y.2) na) other) ∙ ap Some y.2

  kinds : (t : Tag) (x : Item) → item_at R t ≡ Some x → NamesItsKind R x
  kinds t x e =
      let was = left.was t x e in
      let other = left.outside t x e in
      names-carried S R (λ u. body_of S u ≢ b) class_stays x
      (named-weaker (λ u. body_of S u ≡ body_of S t) (λ u. body_of S u ≢ b) (λ u same h. other (sym same ∙ h)) x (named-in_body S well.written well.sound t x was))
      (well.sound.names.kinds t x was)

  up : LeadsUp R (body_of S)
  up = let was = leads_up S well.written well.sound in record {
    bodies = λ d shell e. was.bodies d shell (left.was d _ e);
    shells = λ s body q e. was.shells s body q (left.was s _ e);
    faces = λ f shell outer e. was.faces f shell outer (left.was f _ e);
    loops = λ l face fins vertex e. was.loops l face fins vertex (left.was l _ e);
    fins = λ l face fins vertex e f k. was.fins l face fins vertex (left.was l _ e) f k;
    edges = λ e body is. was.edges e body (left.was e _ is);
    vertices = λ v body point e. was.vertices v body point (left.was v _ e);
  }

  no_fins : (f : Tag) → body_of S f ≢ b → (t : Tag) (x : Item) → item_at S t ≡ Some x → body_of S t ≡ b → times f (fins_of x) ≡ 0
  no_fins f other t (Loop face fins vertex) e h = times-none f fins (λ k. other (sym ((leads_up S well.written well.sound).fins t face fins vertex e f k) ∙ h))
  no_fins f other t (Body shell) e h = refl
  no_fins f other t (Shell body q) e h = refl
  no_fins f other t (Face shell outer) e h = refl
  no_fins f other t (Fin mate edge vertex) e h = refl
  no_fins f other t (Edge body) e h = refl
  no_fins f other t (Vertex body point) e h = refl
  no_fins f other t (Attr owner name value) e h = refl

  attr_fins : (f : Tag) (x : Item) → class_of_item x ≡ class.Attr → times f (fins_of x) ≡ 0
  attr_fins f (Attr owner name value) h = refl
  attr_fins f (Loop face fins vertex) h = absurd (cc)
  attr_fins f (Body shell) h = refl
  attr_fins f (Shell body q) h = refl
  attr_fins f (Face shell outer) h = refl
  attr_fins f (Fin mate edge vertex) h = refl
  attr_fins f (Edge body) h = refl
  attr_fins f (Vertex body point) h = refl

  times_same : (f : Tag) → body_of S f ≢ b → times_in_loops R f ≡ times_in_loops S f
  times_same f other = left.sums (λ x. times f (fins_of x.1)) (no_fins f other) (λ t x h. attr_fins f x h)

  placed : (f mate edge vertex : Tag) → item_at R f ≡ Some (Fin mate edge vertex) → times_in_loops R f ≡ 1
  placed f mate edge vertex e = times_same f (left.outside f _ e) ∙ well.sound.placed f mate edge vertex (left.was f _ e)

  no_edge : (e : Tag) → body_of S e ≢ b → (t : Tag) (x : Item) → item_at S t ≡ Some x → body_of S t ≡ b → cond {A = ℕ} (is_fin_of e x) 1 0 ≡ 0
  no_edge e other t (Fin mate edge vertex) is h = ap (λ c. cond {A = ℕ} c 1 0) (not_same edge e (λ k. other (ap (body_of S) (sym k) ∙ (well.sound.bodies.fins t mate edge vertex is).0 ∙ h)))
  no_edge e other t (Body shell) is h = refl
  no_edge e other t (Shell body q) is h = refl
  no_edge e other t (Face shell outer) is h = refl
  no_edge e other t (Loop face fins vertex) is h = refl
  no_edge e other t (Edge body) is h = refl
  no_edge e other t (Vertex body point) is h = refl
  no_edge e other t (Attr owner name value) is h = refl

  attr_edge : (e : Tag) (x : Item) → class_of_item x ≡ class.Attr → cond {A = ℕ} (is_fin_of e x) 1 0 ≡ 0
  attr_edge e (Fin mate edge vertex) h = absurd (cc)
  attr_edge e (Attr owner name value) h = refl
  attr_edge e (Loop face fins vertex) h = refl
  attr_edge e (Body shell) h = refl
  attr_edge e (Shell body q) h = refl
  attr_edge e (Face shell outer) h = refl
  attr_edge e (Edge body) h = refl
  attr_edge e (Vertex body point) h = refl

  edges_same : (e : Tag) → body_of S e ≢ b → fins_with_edge R e ≡ fins_with_edge S e
  edges_same e other = left.sums (λ x. cond (is_fin_of e x.1) 1 0) (no_edge e other) (λ t x h. attr_edge e x h)

  no_lone : (v : Tag) → body_of S v ≢ b → (t : Tag) (x : Item) → item_at S t ≡ Some x → body_of S t ≡ b → cond {A = ℕ} (is_alone_in v x) 1 0 ≡ 0
  no_lone v other t (Loop face fins None) e h = refl
  no_lone v other t (Loop face fins (Some vertex)) e h = ap (λ c. cond {A = ℕ} c 1 0) (not_same vertex v (λ k. other (ap (body_of S) (sym k) ∙ well.sound.bodies.lone t face vertex fins e ∙ h)))
  no_lone v other t (Fin mate edge vertex) e h = refl
  no_lone v other t (Body shell) e h = refl
  no_lone v other t (Shell body q) e h = refl
  no_lone v other t (Face shell outer) e h = refl
  no_lone v other t (Edge body) e h = refl
  no_lone v other t (Vertex body point) e h = refl
  no_lone v other t (Attr owner name value) e h = refl

  attr_lone : (v : Tag) (x : Item) → class_of_item x ≡ class.Attr → cond {A = ℕ} (is_alone_in v x) 1 0 ≡ 0
  attr_lone v (Loop face fins vertex) h = absurd (cc)
  attr_lone v (Attr owner name value) h = refl
  attr_lone v (Fin mate edge vertex) h = refl
  attr_lone v (Body shell) h = refl
  attr_lone v (Shell body q) h = refl
  attr_lone v (Face shell outer) h = refl
  attr_lone v (Edge body) h = refl
  attr_lone v (Vertex body point) h = refl

  lone_same : (v : Tag) → body_of S v ≢ b → loops_alone_at R v ≡ loops_alone_at S v
  lone_same v other = left.sums (λ x. cond (is_alone_in v x.1) 1 0) (no_lone v other) (λ t x h. attr_lone v x h)

  body_same : (t : Tag) (x : Item) → item_at R t ≡ Some x → NotAttr (class_of_item x) → body_of R t ≡ body_of S t
  body_same t x e na = body_of-leads R left.ascends kinds placed (body_of S) up t x e (low_item x na)

  number_same : (c : Class) → same_class class.Attr c ≡ false → (d : Tag) → d ≢ b → number_in_body c R d ≡ number_in_body c S d
  number_same c na d other =
      sum-alike (λ x. cond (same_class (class_of_item x.1) c && same_tag (body_of R x.0) d) 1 0) (λ x. cond (same_class (class_of_item x.1) c && same_tag (body_of S x.0) d) 1 0) R left.ascends
      (λ t x e. number-alike c na d (body_of R t) (body_of S t) x (λ other_class. body_same t x e other_class))
      ∙ left.sums (λ x. cond (same_class (class_of_item x.1) c && same_tag (body_of S x.0) d) 1 0)
      (λ t x e h. number-elsewhere (same_class (class_of_item x) c) (body_of S t) d (λ k. other (sym k ∙ h)))
      (λ t x h. number-attribute c na (same_tag (body_of S t) d) x h)

  mate_same : (f : Tag) (x : Item) → item_at S f ≡ Some x → NotAttr (class_of_item x) → body_of S f ≢ b → item_at R f ≡ item_at S f
  mate_same f x e na other = left.stays f x e na other ∙ sym e

  fin_same : (f mate edge vertex : Tag) → item_at S f ≡ Some (Fin mate edge vertex) → body_of S f ≢ b → (item_at R f ≡ item_at S f) × (item_at R mate ≡ item_at S mate)
  fin_same f mate edge vertex e other =
      let m = well.sound.mates.fins f mate edge vertex e in
      let named = named-in_body S well.written well.sound f (Fin mate edge vertex) e in
      (mate_same f _ e (λ k. cc) other, mate_same mate _ m.mate_is (λ k. cc) (λ h. other (sym named.0 ∙ h)))

  start_same : (f mate edge vertex : Tag) → item_at S f ≡ Some (Fin mate edge vertex) → body_of S f ≢ b → (start_at R f ≡ start_at S f) × (mate_at R f ≡ mate_at S f) × (end_of R f ≡ end_of S f)
  start_same f mate edge vertex e other =
      let same = fin_same f mate edge vertex e other in
      let mate_of_f : mate_at R f ≡ mate_at S f = ap (λ o. option_map_or mate_of o (tag 0)) same.0 in
      let mate_is : mate_at S f ≡ mate = ap (λ o. option_map_or mate_of o (tag 0)) e in (
        ap (λ o. option_map_or vertex_of o (tag 0)) same.0,
        mate_of_f,
        ap (start_at R) (mate_of_f ∙ mate_is) ∙ ap (λ o. option_map_or vertex_of o (tag 0)) same.1 ∙ ap (start_at S) (sym mate_is),
      )

  follow : (l face : Tag) (fins : List Tag) (vertex : Option Tag) → item_at R l ≡ Some (Loop face fins vertex)
      → AllByRecursion (λ n. start_at R n.1 ≡ end_of R n.0) (neighbours fins)
  follow l face fins vertex e =
      let was = left.was l _ e in
      let out = left.outside l _ e in
      let fin = λ (f : Tag) (k : Contains fins f). fin_in S well.written well.sound l face fins vertex was f k in
      let at = λ (f : Tag) (k : Contains fins f). start_same f (fin f k).0 (fin f k).1 (fin f k).2 (fin f k).3 (λ h. out ((leads_up S well.written well.sound).fins l face fins vertex was f k ∙ h)) in
      ByRecursion-contains (λ n. start_at R n.1 ≡ end_of R n.0) (neighbours fins) (λ n k.
      let both = neighbours-in fins n k in
      (at n.1 both.1).0 ∙ ByRecursion-at (λ m. start_at S m.1 ≡ end_of S m.0) (neighbours fins) n (well.sound.follow l face fins vertex was) k ∙ sym (at n.0 both.0).2)

  comes_after : (f g : Tag) → body_of S g ≢ b → ComesAfter S f g → ComesAfter R f g
  comes_after f g other h =
      let both = neighbours-in h.fins (f, g) h.among in
      record {
        loop_ = h.loop_;
        face = h.face;
        fins = h.fins;
        vertex = h.vertex;
        loop_is = left.stays h.loop_ _ h.loop_is (λ k. cc) (λ k. other (sym ((leads_up S well.written well.sound).fins h.loop_ h.face h.fins h.vertex h.loop_is g both.1) ∙ k));
        among = h.among;
      }

  round : (v : Tag) → body_of S v ≢ b → GoesRound S v → GoesRound R v
  round v other h =
      let fin = λ (f : Tag) (k : Contains h.fins f). (h.are_all f).0 k in
      let out = λ (f : Tag) (k : Contains h.fins f) (at : body_of S f ≡ b). other ((well.sound.bodies.fins f (fin f k).0 (fin f k).1 v (fin f k).2).1 ∙ at) in
      record {
        fins = h.fins;
        once = h.once;
        are_all = λ f. (λ k. ((fin f k).0, (fin f k).1, left.stays f _ (fin f k).2 (λ e. cc) (out f k)), λ m. (h.are_all f).1 (m.0, m.1, left.was f _ m.2));
        round = ByRecursion-contains (λ n. ComesAfter R (mate_at R n.0) n.1) (neighbours h.fins) (λ n k.
            let both = neighbours-in h.fins n k in
            let x = fin n.0 both.0 in
            subst (λ t. ComesAfter R t n.1) (sym (start_same n.0 x.0 x.1 v x.2 (out n.0 both.0)).1)
            (comes_after (mate_at S n.0) n.1 (out n.1 both.1) (ByRecursion-at (λ m. ComesAfter S (mate_at S m.0) m.1) (neighbours h.fins) n h.round k)));
        lone = lone_same v other ∙ h.lone;
      }

  body_of_class : (t : Tag) (c : Class) → NotAttr c → class_at R t ≡ Some c → body_of R t ≡ body_of S t
  body_of_class t c na h = let x = item_of_class (item_at R t) c h in body_same t x.0 x.1 (subst NotAttr (sym x.2) na)

  own_body : (d shell : Tag) → item_at R d ≡ Some (Body shell) → d ≢ b
  own_body d shell e h = left.outside d _ e ((leads_up S well.written well.sound).bodies d shell (left.was d _ e) ∙ h)

  sound_left : IsSoundShape R
  sound_left = record {
    names = record {
      kinds = kinds;
      shells = λ d shell e.
          let was = well.sound.names.shells d shell (left.was d _ e) in
          let out = left.outside d _ e in
          let shell_out = λ (h : body_of S shell ≡ b). out ((leads_up S well.written well.sound).shells shell d was.q was.shell_is ∙ h) in
          record {
            q = was.q;
            shell_is = left.stays shell _ was.shell_is (λ k. cc) shell_out;
            face = was.face;
            outer = was.outer;
            face_is = left.stays was.face _ was.face_is (λ k. cc) (λ h. shell_out ((leads_up S well.written well.sound).faces was.face shell was.outer was.face_is ∙ h));
          };
      bodies = λ s d q e. left.stays d _ (well.sound.names.bodies s d q (left.was s _ e)) (λ k. cc) (λ h. left.outside s _ e (sym ((leads_up S well.written well.sound).shells s d q (left.was s _ e)) ∙ h));
    };
    placed = placed;
    mates = record {
      fins = λ f mate edge vertex e.
          let was = well.sound.mates.fins f mate edge vertex (left.was f _ e) in
          let named = named-in_body S well.written well.sound f (Fin mate edge vertex) (left.was f _ e) in
          record { other = was.other; end = was.end; mate_is = left.stays mate _ was.mate_is (λ k. cc) (λ h. left.outside f _ e (sym named.0 ∙ h)); apart = was.apart };
      edges = λ e body is. edges_same e (left.outside e _ is) ∙ well.sound.mates.edges e body (left.was e _ is);
    };
    follow = follow;
    lone = λ l face fins vertex e. well.sound.lone l face fins vertex (left.was l _ e);
    outer = λ f shell outer e.
        let o = well.sound.outer f shell outer (left.was f _ e) in
        (o.0, o.1, left.stays outer _ o.2 (λ k. cc) (λ h. left.outside f _ e ((leads_up S well.written well.sound).loops outer f o.0 o.1 o.2 ∙ h)));
    round = λ v body point e. round v (left.outside v _ e) (well.sound.round v body point (left.was v _ e));
    bodies = record {
      fins = λ f mate edge vertex e.
          let was = well.sound.bodies.fins f mate edge vertex (left.was f _ e) in
          let named = kinds f (Fin mate edge vertex) e in
          let own = body_same f _ e (λ k. cc) in
          (body_of_class edge class.Edge (λ k. cc) named.1.0 ∙ was.0 ∙ sym own, body_of_class vertex class.Vertex (λ k. cc) named.2.0 ∙ was.1 ∙ sym own);
      lone = λ l face vertex fins e.
          let named = kinds l (Loop face fins (Some vertex)) e in
          body_of_class vertex class.Vertex (λ k. cc) named.2.0 ∙ well.sound.bodies.lone l face vertex fins (left.was l _ e) ∙ sym (body_same l _ e (λ k. cc));
    };
    attributes = record {
      owned = λ a o n v e.
          let was = well.sound.attributes.owned a o n v (left.was a _ e) in
          (was.0, class_stays o was.0 was.2 (left.owner a o n v e was.0 was.1) was.1, was.2);
      one = λ a d o n v w e f. well.sound.attributes.one a d o n v w (left.was a _ e) (left.was d _ f);
    };
    measure = record {
      formula = λ d shell q e s.
          let v = number_same class.Vertex refl d (own_body d shell e) in
          let g = number_same class.Edge refl d (own_body d shell e) in
          let f = number_same class.Face refl d (own_body d shell e) in
          let l = number_same class.Loop refl d (own_body d shell e) in
          (λ i. ((pos (v i) -ℤ pos (g i)) +ℤ pos (f i)) -ℤ (pos (l i) -ℤ pos (f i)))
          ∙ well.sound.measure.formula d shell q (left.was d _ e) (left.was shell _ s);
      points = λ v body point e. well.sound.measure.points v body point (left.was v _ e);
    };
  }

pub body-dies : (S : Shape) (b : Tag) → IsWell S → IsWell (S without all_in_body S b)
body-dies S b well =
    let left = without_body S b well in
    record {
      written = record { ascends = left.ascends; loops = λ l face fins vertex e. well.written.loops l face fins vertex (left.was l _ e) };
      sound = sound_left S _ b well left;
    }

pub kvfs-keeps : (S : Shape) (tags : List Tag) (b : Tag) → IsWell S → Keeps tags (kvfs S b)
kvfs-keeps S tags b well = keeps-bind tags (body_at S b) _ (λ shell e. keeps-after tags (refuse_where (has_more_than_a_vertex S b) (NotBare b)) _ (λ n. body-dies S b well))

pub delete-keeps : (S : Shape) (tags : List Tag) (b : Tag) → IsWell S → Keeps tags (delete S b)
delete-keeps S tags b well = keeps-bind tags (body_at S b) _ (λ shell e. body-dies S b well)
