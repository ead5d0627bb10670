-- kvfs: what it finds before it changes anything, its room, and why it is refused.
use Rattle.std.proofs.Common.{◌≡◌, ◌≢◌, ⊎_elim, Bool, true, false, ◌||◌, cond, List, [], ◌∷◌, length, Option, Some, None, refl, sym, ap, ◌∙◌, arith, ℕ, ◌⊎◌, inl, inr, Ok, subst}
use Rattle.std.specs.Prelude.{T, ◌&&◌, map, filter, nat_lt, option_map, Contains, ℤ}
use Rattle.std.specs.FinMap.{is_sorted, get}
use Rattle.std.proofs.lemmas.Bool.Decides.{nat_tests}
use Rattle.std.proofs.lemmas.List.{length-map}
use Rattle.std.proofs.lemmas.List.Sums.{length-filter}
use Rattle.pk_base.specs.Entity.{same_tag, same_optional}
use Rattle.pk_base.specs.declared.tag.Tag.{Tag}
use Rattle.pk_base.specs.declared.entity.Class.{Class}
use Rattle.pk_base.specs.declared.entity.Class.TheVariants as class
use Rattle.pk_model.specs.Maps.{tag_cmp, EntityMap}
use Rattle.solid_model.specs.Items.{Item, Shape, item_at, class_of_item}
use Rattle.solid_model.specs.Items.Item.{Body, Shell, Face, Loop, Fin, Edge, Vertex, Attr}
use Rattle.solid_model.specs.Owners.{same_class, owner_of_item, body_of, number_in_body, parts_of_class, all_in_body}
use Rattle.solid_model.specs.Deaths.{dies_with, is_attribute_of}
use Rattle.solid_model.specs.Kvfs.{has_more_than_a_vertex}
use Rattle.solid_model.specs.Rings.{is_among}
use Rattle.solid_model.specs.Room.{dying}
use Rattle.solid_model.specs.Sound.{class_at, IsSound, is_alone_in, is_empty}
use Rattle.pk_base.proofs.Same.{same_itself, not_same, same_means, same_or_other}
use Rattle.solid_model.proofs.lists.Neighbours.{is_among-in, not_among}
use Rattle.solid_sound.proofs.shapes.Edits.{class_apart}
use Rattle.solid_sound.proofs.shapes.Lookups.{filter-kept}
use Rattle.solid_sound.proofs.shapes.Found.{item-among, among-item}
use Rattle.solid_sound.proofs.shapes.Sums.{sum-alike}
use Rattle.solid_sound.proofs.shapes.Bodies.{leads_up, item_of_class}
use Rattle.solid_sound.proofs.rows.RowKeeps.{IsWell, well-shape}
use Rattle.solid_sound.proofs.rows.KeptRings.{face_of_class, shell_of_class}
use Rattle.solid_sound.proofs.rows.KeptKfmrh.{no_two}
use Rattle.list_facts.proofs.Elements.{not_in_nil, Contains-map, filter_contains, Contains-first}
use Rattle.solid_places.proofs.Kids.{same_class-itself}
use Rattle.std.specs.List.{AllByRecursion, count_by}
use Rattle.std.proofs.lemmas.Bool.{or_left, or_parts, or_right}
use Rattle.pk_base.specs.declared.entity.Entity.TheVariants as entity
use Rattle.pk_base.specs.declared.entity.Name.{Name}
use Rattle.pk_base.specs.declared.entity.Point.{Point}
use Rattle.solid_model.specs.Places.{asked, as_body, body_at}
use Rattle.solid_model.specs.Shapes.{shape_of}
use Rattle.solid_sound.proofs.shapes.Reading.{each-found, fin_in, vertex_of_class}
use Rattle.solid_edits.specs.BareParts.{AreBareParts, lone_vertex, tags_of_parts}
use Rattle.solid_edits.specs.declared.bare_parts.BareParts.{BareParts}
use Rattle.solid_places.proofs.Read.{item-of}
use Rattle.solid_calls.proofs.Represented.{represents-sound}
use Rattle.pk_model.specs.Apart.{NoRepeats}
use Rattle.solid_sound.proofs.shapes.AttributeBodies.{attribute-body}
use Rattle.solid_edits.proofs.TagsPut.{AreOwners}
use Rattle.list_facts.proofs.Each.{ByRecursion-at, ByRecursion-weaker}

-- ---- what stands in the body, of one class

abbrev stands : Class → Shape → Tag → Tag × Item → Bool
stands c S b x = same_class (class_of_item x.1) c && same_tag (body_of S x.0) b

abbrev pub of_class_in : Class → Shape → Tag → List Tag
of_class_in c S b = map (λ x. x.0) (filter (stands c S b) S)

length-of_class_in : (c : Class) (S : Shape) (b : Tag) → length (of_class_in c S b) ≡ number_in_body c S b
length-of_class_in c S b = length-map (filter (stands c S b) S) (λ x. x.0) ∙ length-filter (stands c S b) S

among-of_class : (c : Class) (S : Shape) (b t : Tag) → class_at S t ≡ Some c → body_of S t ≡ b → (x : Item) → item_at S t ≡ Some x → class_of_item x ≡ c → Contains (of_class_in c S b) t
among-of_class c S b t h at x e k =
    Contains-map (λ (y : Tag × Item). y.0) (filter (stands c S b) S) (t, x)
    (item-among (filter (stands c S b) S) t x (filter-kept (stands c S b) S t x e
    ((λ i. same_class (k i) c && same_tag (at i) b) ∙ ap (λ q. q && same_tag b b) (same_class-itself c) ∙ same_itself b)))

-- none stands there
pub none-stands : (c : Class) (S : Shape) (b : Tag) → nat_lt 0 (number_in_body c S b) ≡ false → (t : Tag) (x : Item) → item_at S t ≡ Some x → class_of_item x ≡ c → body_of S t ≡ b → ⊥
none-stands c S b none t x e k at =
    empty (of_class_in c S b) (ap (nat_lt 0) (length-of_class_in c S b) ∙ none) (among-of_class c S b t (ap (option_map class_of_item) e ∙ ap Some k) at x e k)
  where
    empty : (ts : List Tag) → nat_lt 0 (length ts) ≡ false → Contains ts t → ⊥
    empty [] h m = not_in_nil t m
    empty (u ∷ us) h m = grind (arith, nat_tests)

-- no two stand there
pub one-stands : (c : Class) (S : Shape) (b : Tag) → nat_lt 1 (number_in_body c S b) ≡ false → (t u : Tag) (x y : Item) → item_at S t ≡ Some x → class_of_item x ≡ c → body_of S t ≡ b → item_at S u ≡ Some y → class_of_item y ≡ c → body_of S u ≡ b → t ≡ u
one-stands c S b one t u x y e k at f m au =
    no_two (of_class_in c S b) t u (ap (nat_lt 1) (length-of_class_in c S b) ∙ one)
    (among-of_class c S b t (ap (option_map class_of_item) e ∙ ap Some k) at x e k) (among-of_class c S b u (ap (option_map class_of_item) f ∙ ap Some m) au y f m)

-- ---- what one owner owns

abbrev owned_by : Class → Shape → Tag → Tag × Item → Bool
owned_by c S o x = same_class (class_of_item x.1) c && same_optional (owner_of_item S x.0 x.1) (Some o)

pub counted-by : (c : Class) (S : Shape) (b o : Tag) → T (is_sorted tag_cmp S)
    → ((t : Tag) (x : Item) → item_at S t ≡ Some x → stands c S b (t, x) ≡ owned_by c S o (t, x))
    → length (parts_of_class c S o) ≡ number_in_body c S b
counted-by c S b o sorted same =
    length-map (filter (owned_by c S o) S) (λ x. x.0) ∙ length-filter (owned_by c S o) S
    ∙ sum-alike (λ x. cond (owned_by c S o x) 1 0) (λ x. cond (stands c S b x) 1 0) S sorted (λ t x e. ap (λ q. cond q 1 0) (sym (same t x e)))

-- two tests of tags agree
pub same-both : (t u v w : Tag) → (t ≡ u → v ≡ w) → (v ≡ w → t ≡ u) → same_tag t u ≡ same_tag v w
same-both t u v w h k = ⊎_elim {C = same_tag t u ≡ same_tag v w}
    (λ (e : t ≡ u). ap (same_tag t) (sym e) ∙ same_itself t ∙ sym (ap (same_tag v) (sym (h e)) ∙ same_itself v))
    (λ (n : t ≢ u). not_same t u n ∙ sym (not_same v w (λ e. n (k e))))
    (same_or_other t u)

body_of_class : (o : Option Item) → option_map class_of_item o ≡ Some class.Body → (shell : Tag) × (o ≡ Some (Body shell))
body_of_class None h = absurd (cc)
body_of_class (Some (Body shell)) h = (shell, refl)
body_of_class (Some (Shell body q)) h = absurd (cc)
body_of_class (Some (Face shell outer)) h = absurd (cc)
body_of_class (Some (Loop face fins vertex)) h = absurd (cc)
body_of_class (Some (Fin mate edge vertex)) h = absurd (cc)
body_of_class (Some (Edge body)) h = absurd (cc)
body_of_class (Some (Vertex body point)) h = absurd (cc)
body_of_class (Some (Attr owner name value)) h = absurd (cc)

module _ (S : Shape) (well : IsWell S) (b shell : Tag) (body_is : item_at S b ≡ Some (Body shell)) where
  -- a shell of the body is the body's
  shell_only : (s : Tag) → class_at S s ≡ Some class.Shell → body_of S s ≡ b → s ≡ shell
  shell_only s live at =
      let is = shell_of_class (item_at S s) live in
      let named = well.sound.names.bodies s is.0 is.1 is.2 in
      let up = leads_up S well.written well.sound in
      let same : is.0 ≡ b = sym (up.bodies is.0 s named) ∙ up.shells s is.0 is.1 is.2 ∙ at in
      let both : Some (Body s) ≡ Some (Body shell) = sym named ∙ ap (item_at S) same ∙ body_is in
      cc

  pub shell_body : body_of S shell ≡ b
  shell_body =
      let up = leads_up S well.written well.sound in
      let has = well.sound.names.shells b shell body_is in
      sym (up.shells shell b has.q has.shell_is) ∙ up.bodies b shell body_is

  own_body : (u : Tag) → class_at S u ≡ Some class.Body → body_of S u ≡ u
  own_body u live = let is = body_of_class (item_at S u) live in (leads_up S well.written well.sound).bodies u is.0 is.1

  edge_stands : (t : Tag) (x : Item) → item_at S t ≡ Some x → stands class.Edge S b (t, x) ≡ owned_by class.Edge S b (t, x)
  edge_stands t (Edge body) e =
      let up = leads_up S well.written well.sound in
      let live = well.sound.names.kinds t (Edge body) e in
      same-both (body_of S t) b body b
      (λ h. sym (own_body body live.0) ∙ up.edges t body e ∙ h)
      (λ h. sym (up.edges t body e) ∙ own_body body live.0 ∙ h)
  edge_stands t (Body s) e = refl
  edge_stands t (Shell body q) e = refl
  edge_stands t (Face s outer) e = refl
  edge_stands t (Loop face fins vertex) e = refl
  edge_stands t (Fin mate edge vertex) e = refl
  edge_stands t (Vertex body point) e = refl
  edge_stands t (Attr owner name value) e = refl

  face_stands : (t : Tag) (x : Item) → item_at S t ≡ Some x → stands class.Face S b (t, x) ≡ owned_by class.Face S shell (t, x)
  face_stands t (Face s outer) e =
      let up = leads_up S well.written well.sound in
      let live = (well.sound.names.kinds t (Face s outer) e).0.0 in
      same-both (body_of S t) b s shell (λ h. shell_only s live (up.faces t s outer e ∙ h)) (λ h. sym (up.faces t s outer e) ∙ ap (body_of S) h ∙ shell_body)
  face_stands t (Body s) e = refl
  face_stands t (Shell body q) e = refl
  face_stands t (Loop face fins vertex) e = refl
  face_stands t (Fin mate edge vertex) e = refl
  face_stands t (Edge body) e = refl
  face_stands t (Vertex body point) e = refl
  face_stands t (Attr owner name value) e = refl

  pub edges-counted : length (parts_of_class class.Edge S b) ≡ number_in_body class.Edge S b
  edges-counted = counted-by class.Edge S b b well.written.ascends edge_stands

  pub faces-counted : length (parts_of_class class.Face S shell) ≡ number_in_body class.Face S b
  faces-counted = counted-by class.Face S b shell well.written.ascends face_stands

  module _ (face outer : Tag) (face_is : item_at S face ≡ Some (Face shell outer)) (one : nat_lt 1 (number_in_body class.Face S b) ≡ false) where
    pub face_body : body_of S face ≡ b
    face_body = sym ((leads_up S well.written well.sound).faces face shell outer face_is) ∙ shell_body

    pub face_only : (f : Tag) → class_at S f ≡ Some class.Face → body_of S f ≡ b → f ≡ face
    face_only f live at =
        let is = face_of_class (item_at S f) live in
        one-stands class.Face S b one f face _ _ is.2 refl at face_is refl face_body

    loop_stands : (t : Tag) (x : Item) → item_at S t ≡ Some x → stands class.Loop S b (t, x) ≡ owned_by class.Loop S face (t, x)
    loop_stands t (Loop f fins vertex) e =
        let up = leads_up S well.written well.sound in
        let live = (well.sound.names.kinds t (Loop f fins vertex) e).0.0 in
        same-both (body_of S t) b f face (λ h. face_only f live (up.loops t f fins vertex e ∙ h)) (λ h. sym (up.loops t f fins vertex e) ∙ ap (body_of S) h ∙ face_body)
    loop_stands t (Body s) e = refl
    loop_stands t (Shell body q) e = refl
    loop_stands t (Face s o) e = refl
    loop_stands t (Fin mate edge vertex) e = refl
    loop_stands t (Edge body) e = refl
    loop_stands t (Vertex body point) e = refl
    loop_stands t (Attr owner name value) e = refl

    pub loops-counted : length (parts_of_class class.Loop S face) ≡ number_in_body class.Loop S b
    loops-counted = counted-by class.Loop S b face well.written.ascends loop_stands

-- ---- the test whether a body has more than a vertex

-- one edge is too much, and so is a second face
pub more-edges : (S : Shape) (b : Tag) → IsWell S → (shell : Tag) → item_at S b ≡ Some (Body shell) → nat_lt 0 (length (parts_of_class class.Edge S b)) ≡ true → has_more_than_a_vertex S b ≡ true
more-edges S b well shell is h =
    let test : nat_lt 0 (number_in_body class.Edge S b) ≡ true = ap (nat_lt 0) (sym (edges-counted S well b shell is)) ∙ h in
    ap (λ q. q || nat_lt 1 (number_in_body class.Face S b) || nat_lt 1 (number_in_body class.Loop S b)) test

pub more-faces : (S : Shape) (b : Tag) → IsWell S → (shell : Tag) → item_at S b ≡ Some (Body shell) → nat_lt 1 (length (parts_of_class class.Face S shell)) ≡ true → has_more_than_a_vertex S b ≡ true
more-faces S b well shell is h =
    let test : nat_lt 1 (number_in_body class.Face S b) ≡ true = ap (nat_lt 1) (sym (faces-counted S well b shell is)) ∙ h in
    or_left (nat_lt 0 (number_in_body class.Edge S b) || nat_lt 1 (number_in_body class.Face S b)) (nat_lt 1 (number_in_body class.Loop S b)) (or_right (nat_lt 0 (number_in_body class.Edge S b)) (nat_lt 1 (number_in_body class.Face S b)) test)

-- else it is a second loop that counts
pub loops-tell : (S : Shape) (b : Tag) → IsWell S → (shell face outer : Tag) → item_at S b ≡ Some (Body shell) → item_at S face ≡ Some (Face shell outer)
    → nat_lt 0 (length (parts_of_class class.Edge S b)) ≡ false → nat_lt 1 (length (parts_of_class class.Face S shell)) ≡ false
    → nat_lt 1 (length (parts_of_class class.Loop S face)) ≡ has_more_than_a_vertex S b
loops-tell S b well shell face outer is face_is no_edge one_face =
    let edges : nat_lt 0 (number_in_body class.Edge S b) ≡ false = ap (nat_lt 0) (sym (edges-counted S well b shell is)) ∙ no_edge in
    let faces : nat_lt 1 (number_in_body class.Face S b) ≡ false = ap (nat_lt 1) (sym (faces-counted S well b shell is)) ∙ one_face in
    ap (nat_lt 1) (loops-counted S well b shell is face outer face_is faces)
    ∙ sym (λ i. edges i || faces i || nat_lt 1 (number_in_body class.Loop S b))

-- ---- what is read

pub asked-body : (b shell : Tag) (o : Option Item) → asked as_body b o ≡ Ok shell → o ≡ Some (Body shell)
asked-body b shell None h = absurd (cc)
asked-body b shell (Some (Body s)) h = cc
asked-body b shell (Some (Shell body q)) h = absurd (cc)
asked-body b shell (Some (Face s outer)) h = absurd (cc)
asked-body b shell (Some (Loop face fins vertex)) h = absurd (cc)
asked-body b shell (Some (Fin mate edge vertex)) h = absurd (cc)
asked-body b shell (Some (Edge body)) h = absurd (cc)
asked-body b shell (Some (Vertex body point)) h = absurd (cc)
asked-body b shell (Some (Attr owner name value)) h = absurd (cc)

-- ---- what is counted once is there

counted-one : (p : Tag × Item → Bool) (S : Shape) → count_by p S ≡ 1 → (y : Tag × Item) × Contains S y × (p y ≡ true)
counted-one p S h = first (filter p S) refl
  where
    first : (ys : Shape) → filter p S ≡ ys → (y : Tag × Item) × Contains S y × (p y ≡ true)
    first [] e = let none : length (filter p S) ≡ 0 = ap length e in absurd (omega (arith, none, h, length-filter p S))
    first (y ∷ ys) e = let both = filter_contains p S y (subst (λ zs. Contains zs y) (sym e) (Contains-first y ys)) in (y, both.0, both.1)

alone-is : (v : Tag) (x : Item) → is_alone_in v x ≡ true → (face : Tag) × (fins : List Tag) × (x ≡ Loop face fins (Some v))
alone-is v (Loop face fins (Some u)) h = (face, fins, ap (λ t. Loop face fins (Some t)) (same_means u v h))
alone-is v (Loop face fins None) h = absurd (cc)
alone-is v (Body shell) h = absurd (cc)
alone-is v (Shell body q) h = absurd (cc)
alone-is v (Face shell outer) h = absurd (cc)
alone-is v (Fin mate edge vertex) h = absurd (cc)
alone-is v (Edge body) h = absurd (cc)
alone-is v (Vertex body point) h = absurd (cc)
alone-is v (Attr owner name value) h = absurd (cc)

-- ---- a body with no edge, one face and one loop

pub record IsBare (S : Shape) (b : Tag) : Type 0 where
  pub edges : nat_lt 0 (number_in_body class.Edge S b) ≡ false
  pub faces : nat_lt 1 (number_in_body class.Face S b) ≡ false
  pub loops : nat_lt 1 (number_in_body class.Loop S b) ≡ false

pub is-bare : (S : Shape) (b : Tag) → has_more_than_a_vertex S b ≡ false → IsBare S b
is-bare S b h =
    let e = nat_lt 0 (number_in_body class.Edge S b) in
    let f = nat_lt 1 (number_in_body class.Face S b) in
    let l = nat_lt 1 (number_in_body class.Loop S b) in
    let two = or_parts (e || f) l h in
    let one = or_parts e f two.0 in
    record { edges = one.0; faces = one.1; loops = two.1 }

nothing_in : (fins : List Tag) → ((f : Tag) → Contains fins f → ⊥) → fins ≡ []
nothing_in [] h = refl
nothing_in (f ∷ fins) h = absurd (h f (Contains-first f fins))

module _ (S : Shape) (well : IsWell S) (b : Tag) (bare : IsBare S b) where
  pub no-fin : (f mate edge vertex : Tag) → item_at S f ≡ Some (Fin mate edge vertex) → body_of S f ≡ b → ⊥
  no-fin f mate edge vertex e at =
      let edge_is = item_of_class (item_at S edge) class.Edge (well.sound.names.kinds f (Fin mate edge vertex) e).1.0 in
      none-stands class.Edge S b bare.edges edge edge_is.0 edge_is.1 edge_is.2 ((well.sound.bodies.fins f mate edge vertex e).0 ∙ at)

  module _ (shell face outer : Tag) (body_is : item_at S b ≡ Some (Body shell)) (face_is : item_at S face ≡ Some (Face shell outer)) where
    in_face : body_of S face ≡ b
    in_face = face_body S well b shell body_is face outer face_is bare.faces

    -- the outer loop of the face has a lone vertex
    pub lone-found : (fins : List Tag) (lone : Option Tag) → item_at S outer ≡ Some (Loop face fins lone)
        → (v : Tag) × (lone ≡ Some v) × AreBareParts S (record { body = b; shell = shell; face = face; loop_ = outer; vertex = v })
    lone-found fins lone e =
        let up = leads_up S well.written well.sound in
        let none : fins ≡ [] = nothing_in fins (λ f k.
        let fin = fin_in S well.written well.sound outer face fins lone e f k in
        no-fin f fin.0 fin.1 fin.2 fin.3 (sym (up.fins outer face fins lone e f k) ∙ sym (up.loops outer face fins lone e) ∙ in_face)) in
        there lone (e ∙ ap (λ fs. Some (Loop face fs lone)) none)
      where
        there : (o : Option Tag) → item_at S outer ≡ Some (Loop face [] o) → (v : Tag) × (o ≡ Some v) × AreBareParts S (record { body = b; shell = shell; face = face; loop_ = outer; vertex = v })
        there None is = let empty = well.sound.lone outer face [] None is in absurd (cc)
        there (Some v) is =
            let up = leads_up S well.written well.sound in
            let has = well.sound.names.shells b shell body_is in
            let vertex = vertex_of_class (item_at S v) (well.sound.names.kinds outer (Loop face [] (Some v)) is).2.0 in
            let at : body_of S v ≡ b = well.sound.bodies.lone outer face v [] is ∙ sym (up.loops outer face [] (Some v) is) ∙ in_face in
            let own = item_of_class (item_at S vertex.0) class.Body (well.sound.names.kinds v (Vertex vertex.0 vertex.1) vertex.2).0 in
            let body : vertex.0 ≡ b = sym (body_of_body vertex.0 own.0 own.1 own.2) ∙ up.vertices v vertex.0 vertex.1 vertex.2 ∙ at in (
              v,
              refl,
              record {
                q = has.q;
                point = vertex.1;
                body_is = body_is;
                shell_is = has.shell_is;
                face_is = face_is;
                loop_is = is;
                vertex_is = vertex.2 ∙ ap (λ t. Some (Vertex t vertex.1)) body;
              },
            )
          where
            body_of_body : (t : Tag) (x : Item) → item_at S t ≡ Some x → class_of_item x ≡ class.Body → body_of S t ≡ t
            body_of_body t (Body s) e c = (leads_up S well.written well.sound).bodies t s e
            body_of_body t (Shell body q) e c = absurd (cc)
            body_of_body t (Face s o) e c = absurd (cc)
            body_of_body t (Loop f fins vertex) e c = absurd (cc)
            body_of_body t (Fin mate edge vertex) e c = absurd (cc)
            body_of_body t (Edge body) e c = absurd (cc)
            body_of_body t (Vertex body point) e c = absurd (cc)
            body_of_body t (Attr owner name value) e c = absurd (cc)

-- ---- the parts, and what else stands there

module _ (S : Shape) (well : IsWell S) (p : BareParts) (are : AreBareParts S p) where
  pub body-part : body_of S p.body ≡ p.body
  body-part = (leads_up S well.written well.sound).bodies p.body p.shell are.body_is

  pub shell-part : body_of S p.shell ≡ p.body
  shell-part = sym ((leads_up S well.written well.sound).shells p.shell p.body are.q are.shell_is) ∙ body-part

  pub face-part : body_of S p.face ≡ p.body
  face-part = sym ((leads_up S well.written well.sound).faces p.face p.shell p.loop_ are.face_is) ∙ shell-part

  pub loop-part : body_of S p.loop_ ≡ p.body
  loop-part = sym ((leads_up S well.written well.sound).loops p.loop_ p.face [] (Some p.vertex) are.loop_is) ∙ face-part

  pub vertex-part : body_of S p.vertex ≡ p.body
  vertex-part = sym ((leads_up S well.written well.sound).vertices p.vertex p.body are.point are.vertex_is) ∙ body-part

  pub parts-body : (t : Tag) → Contains (tags_of_parts p) t → body_of S t ≡ p.body
  parts-body t k = ByRecursion-at (λ u. body_of S u ≡ p.body) (tags_of_parts p) t (body-part, (shell-part, (face-part, (loop-part, (vertex-part, tt))))) k

  -- it is a part
  abbrev pub IsPart : Tag → Type 0
  IsPart t = Contains (tags_of_parts p) t

  module _ (bare : IsBare S p.body) where
    vertex_in : (t body : Tag) (point : Point) → item_at S t ≡ Some (Vertex body point) → body_of S t ≡ p.body → t ≡ p.vertex
    vertex_in t body point e at =
        let round = well.sound.round t body point e in
        let none : round.fins ≡ [] = nothing_in round.fins (λ f k.
        let fin = (round.are_all f).0 k in
        no-fin S well p.body bare f fin.0 fin.1 t fin.2 (sym (well.sound.bodies.fins f fin.0 fin.1 t fin.2).1 ∙ at)) in
        let alone = counted-one (λ x. is_alone_in t x.1) S (round.lone ∙ ap (λ fs. cond {A = ℕ} (is_empty fs) 1 0) none) in
        let loop_ = alone-is t alone.0.1 alone.2 in
        let is = among-item S well.written.ascends alone.0.0 alone.0.1 alone.1 ∙ ap Some loop_.2 in
        let same : alone.0.0 ≡ p.loop_ = one-stands class.Loop S p.body bare.loops alone.0.0 p.loop_ (Loop loop_.0 loop_.1 (Some t)) (Loop p.face [] (Some p.vertex)) is refl (sym (well.sound.bodies.lone alone.0.0 loop_.0 t loop_.1 is) ∙ at) are.loop_is refl loop-part in
        let both : Some (Loop loop_.0 loop_.1 (Some t)) ≡ Some (Loop p.face [] (Some p.vertex)) = sym is ∙ ap (item_at S) same ∙ are.loop_is in
        cc

    -- what stands in the body is a part, or an attribute of one
    pub part-or_attribute : (t : Tag) (x : Item) → item_at S t ≡ Some x → body_of S t ≡ p.body → IsPart t ⊎ ((o : Tag) × (name : Name) × (value : ℤ) × (x ≡ Attr o name value))
    part-or_attribute t (Body shell) e at =
        let same : p.body ≡ t = sym at ∙ (leads_up S well.written well.sound).bodies t shell e in
        inl (0, omega arith, same)
    part-or_attribute t (Shell body q) e at =
        let named = well.sound.names.bodies t body q e in
        let up = leads_up S well.written well.sound in
        let own : body ≡ p.body = sym (up.bodies body t named) ∙ up.shells t body q e ∙ at in
        let both : Some (Body t) ≡ Some (Body p.shell) = sym named ∙ ap (item_at S) own ∙ are.body_is in
        let same : p.shell ≡ t = cc in
        inl (1, omega arith, same)
    part-or_attribute t (Face shell outer) e at =
        inl (2, omega arith, sym (one-stands class.Face S p.body bare.faces t p.face _ _ e refl at are.face_is refl face-part))
    part-or_attribute t (Loop face fins vertex) e at =
        inl (3, omega arith, sym (one-stands class.Loop S p.body bare.loops t p.loop_ _ _ e refl at are.loop_is refl loop-part))
    part-or_attribute t (Fin mate edge vertex) e at = absurd (no-fin S well p.body bare t mate edge vertex e at)
    part-or_attribute t (Edge body) e at = absurd (none-stands class.Edge S p.body bare.edges t _ e refl at)
    part-or_attribute t (Vertex body point) e at = inl (4, omega arith, sym (vertex_in t body point e at))
    part-or_attribute t (Attr owner name value) e at = inr (owner, name, value, refl)

    owner_part : (t : Tag) (x : Item) → item_at S t ≡ Some x → class_of_item x ≢ class.Attr → body_of S t ≡ p.body → IsPart t
    owner_part t x e na at = ⊎_elim {C = IsPart t} (λ (l : IsPart t). l)
        (λ (r : (o : Tag) × (name : Name) × (value : ℤ) × (x ≡ Attr o name value)). absurd (na (ap class_of_item r.3)))
        (part-or_attribute t x e at)

    -- the owner of an attribute in the body is a part
    pub owner-part : (t o : Tag) (name : Name) (value : ℤ) → item_at S t ≡ Some (Attr o name value) → body_of S t ≡ p.body → IsPart o
    owner-part t o name value e at =
        let owned = well.sound.attributes.owned t o name value e in
        let y = item_of_class (item_at S o) owned.0 owned.1 in
        owner_part o y.0 y.1 (λ k. owned.2 (sym y.2 ∙ k)) (sym (attribute-body S well t o name value e) ∙ at)

-- ---- what the walk from a body finds, in a sound map

-- the body's shell has a face
pub face-there : (m : EntityMap) → IsSound m → (b shell : Tag) → body_at (shape_of m) b ≡ Ok shell → (face : Tag) × (outer : Tag) × (get m face ≡ Some (entity.Face shell outer))
face-there m sound b shell at =
    let has = (well-shape m sound).sound.names.shells b shell (asked-body b shell (item_at (shape_of m) b) at) in
    (has.face, has.outer, (represents-sound m sound).items has.face (Face shell has.outer) has.face_is)

-- the lone vertex of the outer loop of a face
pub lone-there : (m : EntityMap) → IsSound m → (b shell face outer : Tag) → IsBare (shape_of m) b → body_at (shape_of m) b ≡ Ok shell → get m face ≡ Some (entity.Face shell outer)
    → (v : Tag) × (lone_vertex (get m outer) ≡ Some v) × AreBareParts (shape_of m) (record { body = b; shell = shell; face = face; loop_ = outer; vertex = v })
lone-there m sound b shell face outer bare at face_is =
    let S = shape_of m in
    let well = well-shape m sound in
    let is_face : item_at S face ≡ Some (Face shell outer) = item-of m face _ face_is in
    let own = well.sound.outer face shell outer is_face in
    let found = lone-found S well b bare shell face outer (asked-body b shell (item_at S b) at) is_face own.0 own.1 own.2 in
    let shown = ((represents-sound m sound).items outer _ own.2).0 in
    (found.0, ap lone_vertex shown ∙ found.1, found.2)

-- they are the parts with the vertex that was read
pub same-vertex : (S : Shape) (b shell face outer v w : Tag) → v ≡ w → AreBareParts S (record { body = b; shell = shell; face = face; loop_ = outer; vertex = v }) → AreBareParts S (record { body = b; shell = shell; face = face; loop_ = outer; vertex = w })
same-vertex S b shell face outer v w e h = subst (λ u. AreBareParts S (record { body = b; shell = shell; face = face; loop_ = outer; vertex = u })) e h

-- ---- what stands in a body of one vertex dies with its five parts

filter-same : (p q : Tag × Item → Bool) (xs : Shape) → AllByRecursion (λ x. p x ≡ q x) xs → filter p xs ≡ filter q xs
filter-same p q [] h = refl
filter-same p q (x ∷ xs) h = let rest = filter-same p q xs h.1 in λ i. cond (h.0 i) (x ∷ rest i) (rest i)

module _ (S : Shape) (well : IsWell S) (p : BareParts) (are : AreBareParts S p) where
  abbrev ks : List Tag
  ks = tags_of_parts p

  body_class : class_at S p.body ≡ Some class.Body
  body_class = ap (option_map class_of_item) are.body_is

  shell_class : class_at S p.shell ≡ Some class.Shell
  shell_class = ap (option_map class_of_item) are.shell_is

  face_class : class_at S p.face ≡ Some class.Face
  face_class = ap (option_map class_of_item) are.face_is

  loop_class : class_at S p.loop_ ≡ Some class.Loop
  loop_class = ap (option_map class_of_item) are.loop_is

  vertex_class : class_at S p.vertex ≡ Some class.Vertex
  vertex_class = ap (option_map class_of_item) are.vertex_is

  pub parts-own : AreOwners S ks
  parts-own = (
    (class.Body, body_class, (λ k. cc)),
    ((class.Shell, shell_class, (λ k. cc)), ((class.Face, face_class, (λ k. cc)), ((class.Loop, loop_class, (λ k. cc)), ((class.Vertex, vertex_class, (λ k. cc)), tt)))),
  )

  pub parts-once : NoRepeats ks
  parts-once = (
    (
      class_apart S p.body p.shell _ _ body_class shell_class (λ k. cc),
      (
        class_apart S p.body p.face _ _ body_class face_class (λ k. cc),
        (class_apart S p.body p.loop_ _ _ body_class loop_class (λ k. cc), (class_apart S p.body p.vertex _ _ body_class vertex_class (λ k. cc), tt)),
      ),
    ),
    (
      (
        class_apart S p.shell p.face _ _ shell_class face_class (λ k. cc),
        (class_apart S p.shell p.loop_ _ _ shell_class loop_class (λ k. cc), (class_apart S p.shell p.vertex _ _ shell_class vertex_class (λ k. cc), tt)),
      ),
      (
        (class_apart S p.face p.loop_ _ _ face_class loop_class (λ k. cc), (class_apart S p.face p.vertex _ _ face_class vertex_class (λ k. cc), tt)),
        ((class_apart S p.loop_ p.vertex _ _ loop_class vertex_class (λ k. cc), tt), (tt, tt)),
      ),
    ),
  )

  module _ (bare : IsBare S p.body) where
    dies_here : (t : Tag) (x : Item) → item_at S t ≡ Some x → body_of S t ≡ p.body → dies_with ks (t, x) ≡ true
    dies_here t x e at = ⊎_elim {C = dies_with ks (t, x) ≡ true}
        (λ (part : Contains ks t). ap (λ b. b || is_attribute_of ks x) (is_among-in t ks part))
        (λ (a : (o : Tag) × (name : Name) × (value : ℤ) × (x ≡ Attr o name value)).
        let own = owner-part S well p are bare t a.0 a.1 a.2 (e ∙ ap Some a.3) at in
        ap (λ y. is_among t ks || is_attribute_of ks y) a.3 ∙ or_right (is_among t ks) (is_among a.0 ks) (is_among-in a.0 ks own))
        (part-or_attribute S well p are bare t x e at)

    not_on : (t : Tag) (x : Item) → item_at S t ≡ Some x → body_of S t ≢ p.body → is_attribute_of ks x ≡ false
    not_on t (Attr owner name value) e out = not_among owner ks (λ k. out (attribute-body S well t owner name value e ∙ parts-body S well p are owner k))
    not_on t (Body s) e out = refl
    not_on t (Shell body q) e out = refl
    not_on t (Face s o) e out = refl
    not_on t (Loop face fins vertex) e out = refl
    not_on t (Fin mate edge vertex) e out = refl
    not_on t (Edge body) e out = refl
    not_on t (Vertex body point) e out = refl

    dies_if : (t : Tag) (x : Item) → item_at S t ≡ Some x → dies_with ks (t, x) ≡ same_tag (body_of S t) p.body
    dies_if t x e = ⊎_elim {C = dies_with ks (t, x) ≡ same_tag (body_of S t) p.body}
        (λ (at : body_of S t ≡ p.body). dies_here t x e at ∙ sym (ap (λ u. same_tag u p.body) at ∙ same_itself p.body))
        (λ (out : body_of S t ≢ p.body).
        let part : is_among t ks ≡ false = not_among t ks (λ k. out (parts-body S well p are t k)) in
        let on = not_on t x e out in
        (λ i. part i || on i) ∙ sym (not_same (body_of S t) p.body out))
        (same_or_other (body_of S t) p.body)

    pub dying-body : dying S ks ≡ all_in_body S p.body
    dying-body = ap (map (λ (x : Tag × Item). x.0)) (filter-same (dies_with ks) (λ x. same_tag (body_of S x.0) p.body) S
        (ByRecursion-weaker (λ (x : Tag × Item). item_at S x.0 ≡ Some x.1) (λ (x : Tag × Item). dies_with ks x ≡ same_tag (body_of S x.0) p.body) (λ x e. dies_if x.0 x.1 e) S (each-found S well.written.ascends)))
