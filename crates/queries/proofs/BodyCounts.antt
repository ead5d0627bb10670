-- How many vertices, edges, faces and loops a body has: counted among what it and its shell own, and by the formula of
-- Euler and Poincaré.
use Rattle.std.proofs.Common.{◌≡◌, ◌≢◌, ℕ, ◌-◌, ◌<◌, ◌≤◌, ◌^◌, ⊎_elim, Bool, true, cond, List, [], ◌∷◌, length, Option, Some, None, Result, Ok, Err, refl, sym, ap, subst, ◌∙◌, arith}
use Rattle.std.specs.Prelude.{T, ℤ, pos, ◌+ℤ◌, ◌-ℤ◌, ◌*ℤ◌, IsOk, ◌&&◌, map, filter, option_map, Contains}
use Rattle.std.specs.List.{AllByRecursion}
use Rattle.std.specs.Option.{option_map_or}
use Rattle.std.specs.FinMap.{get, is_sorted}
use Rattle.std.proofs.lemmas.Int.{ints}
use Rattle.std.proofs.lemmas.List.{length-map}
use Rattle.std.proofs.lemmas.List.Sums.{count_by-le-length, length-filter}
use Rattle.pk_base.specs.Blocks.{tag}
use Rattle.pk_base.specs.Entity.{class_of, same_tag, same_optional}
use Rattle.pk_base.specs.declared.tag.Tag.{Tag}
use Rattle.pk_base.specs.declared.entity.Class.{Class}
use Rattle.pk_base.specs.declared.entity.Class.TheVariants as class
use Rattle.pk_base.specs.declared.entity.Entity.{Entity}
use Rattle.pk_base.specs.declared.entity.Entity.TheVariants as entity
use Rattle.pk_base.proofs.Same.{not_same, same_itself, same_or_other}
use Rattle.pk_base.specs.declared.act.Reply.TheVariants.{Counts}
use Rattle.pk_base.specs.declared.call.Call.TheVariants.{Counts as CountsOf}
use Rattle.pk_base.specs.declared.refusal.Refusal.{Refusal}
use Rattle.pk_model.specs.Apart.{NoRepeats}
use Rattle.pk_model.specs.Maps.{EntityMap, tag_cmp}
use Rattle.pk_model.specs.Step.{◌>>=◌}
use Rattle.entity_store.proofs.Room.{no_more-different}
use Rattle.list_facts.proofs.Each.{ByRecursion-contains, ByRecursion-at}
use Rattle.list_facts.proofs.Elements.{Contains-filter, Contains-map, filter_contains, map_contains}
use Rattle.solid_model.specs.Items.{Item, Shape, item_at, class_of_item}
use Rattle.solid_model.specs.Items.Item.{Body, Shell, Face, Loop, Fin, Edge, Vertex, Attr}
use Rattle.solid_model.specs.Owners.{body_of, number_in_body, owner_of_item, parts_of_class, same_class}
use Rattle.solid_model.specs.Places.{as_body, asked, body_at, outer_at, outer_of, q_at, q_of}
use Rattle.solid_model.specs.Queries.{counted}
use Rattle.solid_model.specs.Rows.{tells}
use Rattle.solid_model.specs.Shapes.{shape_of}
use Rattle.solid_model.specs.Sound.{IsSound, MeetsEulerPoincare, class_at}
use Rattle.solid_calls.specs.Pairs.{row_on}
use Rattle.solid_calls.proofs.Sizes.{apart-ascending}
use Rattle.solid_sound.proofs.shapes.Bodies.{leads_up}
use Rattle.solid_sound.proofs.shapes.Found.{among-item, item-among}
use Rattle.solid_sound.proofs.shapes.Sums.{sum-alike}
use Rattle.solid_sound.proofs.rows.KeptRings.{shell_of_class}
use Rattle.solid_sound.proofs.rows.RowKeeps.{IsWell, well-shape}
use Rattle.solid_places.proofs.Read.{entity-of}
use Rattle.entity_store.specs.Kids.{kids_of}
use Rattle.solid_places.proofs.Kids.{Walk, kids-counted}
use Rattle.queries.specs.Formula.{rings_by_formula}
use Rattle.queries.proofs.Owned.{filtered-ascend}

-- ---- what stands in the body, and what one owner owns

abbrev stands : Class → Shape → Tag → Tag × Item → Bool
stands c S b x = same_class (class_of_item x.1) c && same_tag (body_of S x.0) b

abbrev owned_by : Class → Shape → Tag → Tag × Item → Bool
owned_by c S o x = same_class (class_of_item x.1) c && same_optional (owner_of_item S x.0 x.1) (Some o)

counted-by : (c : Class) (S : Shape) (b o : Tag) → T (is_sorted tag_cmp S)
    → ((t : Tag) (x : Item) → item_at S t ≡ Some x → stands c S b (t, x) ≡ owned_by c S o (t, x))
    → length (parts_of_class c S o) ≡ number_in_body c S b
counted-by c S b o sorted same =
    length-map (filter (owned_by c S o) S) (λ x. x.0) ∙ length-filter (owned_by c S o) S
    ∙ sum-alike (λ x. cond (owned_by c S o x) 1 0) (λ x. cond (stands c S b x) 1 0) S sorted (λ t x e. ap (λ q. cond q 1 0) (sym (same t x e)))

-- two tests of tags agree
same-both : (t u v w : Tag) → (t ≡ u → v ≡ w) → (v ≡ w → t ≡ u) → same_tag t u ≡ same_tag v w
same-both t u v w h k = ⊎_elim {C = same_tag t u ≡ same_tag v w}
    (λ (e : t ≡ u). ap (same_tag t) (sym e) ∙ same_itself t ∙ sym (ap (same_tag v) (sym (h e)) ∙ same_itself v))
    (λ (n : t ≢ u). not_same t u n ∙ sym (not_same v w (λ e. n (k e))))
    (same_or_other t u)

body_of_class : (o : Option Item) → option_map class_of_item o ≡ Some class.Body → (shell : Tag) × (o ≡ Some (Body shell))
body_of_class None h = absurd (cc)
body_of_class (Some (Body shell)) h = (shell, refl)
body_of_class (Some (Shell body q)) h = absurd (cc)
body_of_class (Some (Face shell outer)) h = absurd (cc)
body_of_class (Some (Loop face fins vertex)) h = absurd (cc)
body_of_class (Some (Fin mate edge vertex)) h = absurd (cc)
body_of_class (Some (Edge body)) h = absurd (cc)
body_of_class (Some (Vertex body point)) h = absurd (cc)
body_of_class (Some (Attr owner name value)) h = absurd (cc)

module _ (S : Shape) (well : IsWell S) (b shell : Tag) (body_is : item_at S b ≡ Some (Body shell)) where
  own_body : (u : Tag) → class_at S u ≡ Some class.Body → body_of S u ≡ u
  own_body u live = let is = body_of_class (item_at S u) live in (leads_up S well.written well.sound).bodies u is.0 is.1

  -- a shell of the body is the body's
  shell_only : (s : Tag) → class_at S s ≡ Some class.Shell → body_of S s ≡ b → s ≡ shell
  shell_only s live at =
      let is = shell_of_class (item_at S s) live in
      let named = well.sound.names.bodies s is.0 is.1 is.2 in
      let up = leads_up S well.written well.sound in
      let same : is.0 ≡ b = sym (up.bodies is.0 s named) ∙ up.shells s is.0 is.1 is.2 ∙ at in
      let both : Some (Body s) ≡ Some (Body shell) = sym named ∙ ap (item_at S) same ∙ body_is in
      cc

  shell_body : body_of S shell ≡ b
  shell_body =
      let up = leads_up S well.written well.sound in
      let has = well.sound.names.shells b shell body_is in
      sym (up.shells shell b has.q has.shell_is) ∙ up.bodies b shell body_is

  vertex_stands : (t : Tag) (x : Item) → item_at S t ≡ Some x → stands class.Vertex S b (t, x) ≡ owned_by class.Vertex S b (t, x)
  vertex_stands t (Vertex body point) e =
      let up = leads_up S well.written well.sound in
      let live = well.sound.names.kinds t (Vertex body point) e in
      same-both (body_of S t) b body b
      (λ h. sym (own_body body live.0) ∙ up.vertices t body point e ∙ h)
      (λ h. sym (up.vertices t body point e) ∙ own_body body live.0 ∙ h)
  vertex_stands t (Body s) e = refl
  vertex_stands t (Shell body q) e = refl
  vertex_stands t (Face s outer) e = refl
  vertex_stands t (Loop face fins vertex) e = refl
  vertex_stands t (Fin mate edge vertex) e = refl
  vertex_stands t (Edge body) e = refl
  vertex_stands t (Attr owner name value) e = refl

  edge_stands : (t : Tag) (x : Item) → item_at S t ≡ Some x → stands class.Edge S b (t, x) ≡ owned_by class.Edge S b (t, x)
  edge_stands t (Edge body) e =
      let up = leads_up S well.written well.sound in
      let live = well.sound.names.kinds t (Edge body) e in
      same-both (body_of S t) b body b
      (λ h. sym (own_body body live.0) ∙ up.edges t body e ∙ h)
      (λ h. sym (up.edges t body e) ∙ own_body body live.0 ∙ h)
  edge_stands t (Body s) e = refl
  edge_stands t (Shell body q) e = refl
  edge_stands t (Face s outer) e = refl
  edge_stands t (Loop face fins vertex) e = refl
  edge_stands t (Fin mate edge vertex) e = refl
  edge_stands t (Vertex body point) e = refl
  edge_stands t (Attr owner name value) e = refl

  face_stands : (t : Tag) (x : Item) → item_at S t ≡ Some x → stands class.Face S b (t, x) ≡ owned_by class.Face S shell (t, x)
  face_stands t (Face s outer) e =
      let up = leads_up S well.written well.sound in
      let live = (well.sound.names.kinds t (Face s outer) e).0.0 in
      same-both (body_of S t) b s shell (λ h. shell_only s live (up.faces t s outer e ∙ h)) (λ h. sym (up.faces t s outer e) ∙ ap (body_of S) h ∙ shell_body)
  face_stands t (Body s) e = refl
  face_stands t (Shell body q) e = refl
  face_stands t (Loop face fins vertex) e = refl
  face_stands t (Fin mate edge vertex) e = refl
  face_stands t (Edge body) e = refl
  face_stands t (Vertex body point) e = refl
  face_stands t (Attr owner name value) e = refl

  pub vertices-counted : length (parts_of_class class.Vertex S b) ≡ number_in_body class.Vertex S b
  vertices-counted = counted-by class.Vertex S b b well.written.ascends vertex_stands

  pub edges-counted : length (parts_of_class class.Edge S b) ≡ number_in_body class.Edge S b
  edges-counted = counted-by class.Edge S b b well.written.ascends edge_stands

  pub faces-counted : length (parts_of_class class.Face S shell) ≡ number_in_body class.Face S b
  faces-counted = counted-by class.Face S b shell well.written.ascends face_stands

  -- ---- no fewer loops than faces: each face has its outer one

  abbrev tags_in : Class → List Tag
  tags_in c = map (λ x. x.0) (filter (stands c S b) S)

  length-tags_in : (c : Class) → length (tags_in c) ≡ number_in_body c S b
  length-tags_in c = length-map (filter (stands c S b) S) (λ (x : Tag × Item). x.0) ∙ length-filter (stands c S b) S

  -- a face of the body, and its outer loop
  record IsFaceOf (f : Tag) : Type 0 where
    shell_of : Tag
    outer : Tag
    face_is : item_at S f ≡ Some (Face shell_of outer)
    body : same_tag (body_of S f) b ≡ true

  face_item : (f : Tag) (x : Item) → item_at S f ≡ Some x → stands class.Face S b (f, x) ≡ true → IsFaceOf f
  face_item f (Face s outer) e h = record { shell_of = s; outer = outer; face_is = e; body = h }
  face_item f (Body s) e h = absurd (cc)
  face_item f (Shell body q) e h = absurd (cc)
  face_item f (Loop face fins vertex) e h = absurd (cc)
  face_item f (Fin mate edge vertex) e h = absurd (cc)
  face_item f (Edge body) e h = absurd (cc)
  face_item f (Vertex body point) e h = absurd (cc)
  face_item f (Attr owner name value) e h = absurd (cc)

  face_among : (f : Tag) → Contains (tags_in class.Face) f → IsFaceOf f
  face_among f k =
      let x = map_contains (λ (y : Tag × Item). y.0) (filter (stands class.Face S b) S) f k in
      let y = filter_contains (stands class.Face S b) S x.0 x.1 in
      let is : item_at S x.0.0 ≡ Some x.0.1 = among-item S well.written.ascends x.0.0 x.0.1 y.0 in
      subst IsFaceOf x.2 (face_item x.0.0 x.0.1 is y.1)

  outer-is : (f : Tag) (h : IsFaceOf f) → outer_at S f ≡ h.outer
  outer-is f h = ap (λ (o : Option Item). option_map_or outer_of o (tag 0)) h.face_is

  -- its outer loop stands in the body
  outer-among : (f : Tag) → IsFaceOf f → Contains (tags_in class.Loop) (outer_at S f)
  outer-among f h =
      let up = leads_up S well.written well.sound in
      let l = well.sound.outer f h.shell_of h.outer h.face_is in
      let x : Item = Loop f l.0 l.1 in
      let at : same_tag (body_of S h.outer) b ≡ true = ap (λ t. same_tag t b) (sym (up.loops h.outer f l.0 l.1 l.2)) ∙ h.body in
      subst (Contains (tags_in class.Loop)) (sym (outer-is f h))
      (Contains-map (λ (y : Tag × Item). y.0) (filter (stands class.Loop S b) S) (h.outer, x)
      (Contains-filter (stands class.Loop S b) S (h.outer, x) (item-among S h.outer x l.2) at))

  -- and is no other face's
  outer-once : (f g : Tag) → IsFaceOf f → IsFaceOf g → outer_at S f ≡ outer_at S g → f ≡ g
  outer-once f g h k same =
      let l = well.sound.outer f h.shell_of h.outer h.face_is in
      let n = well.sound.outer g k.shell_of k.outer k.face_is in
      let one : h.outer ≡ k.outer = sym (outer-is f h) ∙ same ∙ outer-is g k in
      let both : Some (Loop f l.0 l.1) ≡ Some (Loop g n.0 n.1) = sym l.2 ∙ ap (item_at S) one ∙ n.2 in
      cc

  outers-once : (fs : List Tag) → NoRepeats fs → AllByRecursion IsFaceOf fs → NoRepeats (map (outer_at S) fs)
  outers-once [] once are = tt
  outers-once (f ∷ fs) once are = (
    ByRecursion-contains (λ u. outer_at S f ≢ u) (map (outer_at S) fs) (λ u k e.
        let x = map_contains (outer_at S) fs u k in
        ByRecursion-at (λ v. f ≢ v) fs x.0 once.0 x.1 (outer-once f x.0 are.0 (ByRecursion-at IsFaceOf fs x.0 are.1 x.1) (e ∙ sym x.2))),
    outers-once fs once.1 are.1,
  )

  pub loops-more : number_in_body class.Face S b ≤ number_in_body class.Loop S b
  loops-more =
      let fs : List Tag = tags_in class.Face in
      let are : AllByRecursion IsFaceOf fs = ByRecursion-contains IsFaceOf fs face_among in
      let once = outers-once fs (apart-ascending fs (filtered-ascend (stands class.Face S b) S well.written.ascends)) are in
      let fewer = no_more-different (map (outer_at S) fs) (tags_in class.Loop) once (ByRecursion-contains (Contains (tags_in class.Loop)) (map (outer_at S) fs) (λ u k.
      let x = map_contains (outer_at S) fs u k in
      subst (Contains (tags_in class.Loop)) x.2 (outer-among x.0 (ByRecursion-at IsFaceOf fs x.0 are x.1)))) in
      omega (arith, fewer, length-tags_in class.Face, length-tags_in class.Loop, length-map fs (outer_at S))

  -- ---- the formula

  pub formula : MeetsEulerPoincare S b (q_at S shell)
  formula =
      let has = well.sound.names.shells b shell body_is in
      subst (MeetsEulerPoincare S b) (sym (ap (λ (o : Option Item). option_map_or q_of o (pos 0)) has.shell_is)) (well.sound.measure.formula b shell has.q body_is has.shell_is)

-- what the formula tells of the loops
rings-are : (v e f l : ℕ) (q : ℤ) → f ≤ l → ((pos v -ℤ pos e) +ℤ pos f) -ℤ (pos l -ℤ pos f) ≡ pos 2 *ℤ q → rings_by_formula v e f q ≡ pos (l - f)
rings-are v e f l q more is = omega (arith, ints)

-- ---- how many are counted

pub counted-few : (c : Class) (all left : List (Tag × Entity)) (count n : ℕ) → Walk c all count left → length all ≤ n → count ≤ n
counted-few c all left count n w few =
    let sum = w.sum in
    omega (arith, sum, few, count_by-le-length (λ (k : Tag × Entity). same_class (class_of k.1) c) all)

pub counted-parts : (m : EntityMap) → IsSound m → (c : Class) (o : Tag) (count : ℕ) → Walk c (kids_of m (Some o)) count [] → count ≡ length (parts_of_class c (shape_of m) o)
counted-parts m s c o count w =
    let sum = w.sum in
    omega (arith, sum, kids-counted m s c o)

-- ---- the body that is asked for

pub body-found : (S : Shape) (b shell : Tag) → body_at S b ≡ Ok shell → item_at S b ≡ Some (Body shell)
body-found S b shell h = from (item_at S b) h
  where
    from : (o : Option Item) → asked as_body b o ≡ Ok shell → o ≡ Some (Body shell)
    from None k = absurd (cc)
    from (Some (Body s)) k = cc
    from (Some (Shell body q)) k = absurd (cc)
    from (Some (Face s outer)) k = absurd (cc)
    from (Some (Loop face fins vertex)) k = absurd (cc)
    from (Some (Fin mate edge vertex)) k = absurd (cc)
    from (Some (Edge body)) k = absurd (cc)
    from (Some (Vertex body point)) k = absurd (cc)
    from (Some (Attr owner name value)) k = absurd (cc)

pub counts-goes : (m : EntityMap) (b : Tag) → IsOk (row_on m (CountsOf b)) → IsOk (body_at (shape_of m) b)
counts-goes m b goes = from (body_at (shape_of m) b) goes
  where
    from : (r : Result Tag Refusal) → IsOk (r >>= (λ shell. tells (Counts (counted (shape_of m) b shell)))) → IsOk r
    from (Ok shell) h = refl
    from (Err e) h = absurd (cc)

pub counts-told : (m : EntityMap) (b shell : Tag) → body_at (shape_of m) b ≡ Ok shell → row_on m (CountsOf b) ≡ tells (Counts (counted (shape_of m) b shell))
counts-told m b shell h = ap (λ (r : Result Tag Refusal). r >>= (λ s. tells (Counts (counted (shape_of m) b s)))) h

-- the entity of its shell
pub shell-read : (m : EntityMap) → IsSound m → (b shell : Tag) → body_at (shape_of m) b ≡ Ok shell → (q : ℤ) × (get m shell ≡ Some (entity.Shell b q)) × (q_at (shape_of m) shell ≡ q)
shell-read m s b shell h =
    let well = well-shape m s in
    let has = well.sound.names.shells b shell (body-found (shape_of m) b shell h) in
    (has.q, entity-of m s shell (Shell b has.q) has.shell_is, ap (λ (o : Option Item). option_map_or q_of o (pos 0)) has.shell_is)

pub shell-q : (m : EntityMap) → IsSound m → (b shell : Tag) → body_at (shape_of m) b ≡ Ok shell → (body : Tag) (q : ℤ) → get m shell ≡ Some (entity.Shell body q) → q ≡ q_at (shape_of m) shell
shell-q m s b shell h body q live =
    let x = shell-read m s b shell h in
    let both : Some (entity.Shell body q) ≡ Some (entity.Shell b x.0) = sym live ∙ x.1 in
    let same : q ≡ x.0 = cc in
    same ∙ sym x.2

-- ---- all the counts

-- so many were counted
pub record AreCounts (S : Shape) (b shell : Tag) (v e f : ℕ) (q : ℤ) : Type 0 where
  pub vertices : v ≡ length (parts_of_class class.Vertex S b)
  pub edges : e ≡ length (parts_of_class class.Edge S b)
  pub faces : f ≡ length (parts_of_class class.Face S shell)
  pub q_is : q ≡ q_at S shell

module _ (m : EntityMap) (s : IsSound m) (b shell : Tag) (found : body_at (shape_of m) b ≡ Ok shell) (v e f : ℕ) (q : ℤ) (are : AreCounts (shape_of m) b shell v e f q) where
  abbrev T' : Shape
  T' = shape_of m

  is_body : item_at T' b ≡ Some (Body shell)
  is_body = body-found T' b shell found

  v_is : v ≡ number_in_body class.Vertex T' b
  v_is = are.vertices ∙ vertices-counted T' (well-shape m s) b shell is_body

  e_is : e ≡ number_in_body class.Edge T' b
  e_is = are.edges ∙ edges-counted T' (well-shape m s) b shell is_body

  f_is : f ≡ number_in_body class.Face T' b
  f_is = are.faces ∙ faces-counted T' (well-shape m s) b shell is_body

  tell_rings : rings_by_formula v e f q ≡ pos (number_in_body class.Loop T' b - number_in_body class.Face T' b)
  tell_rings =
      (λ i. rings_by_formula (v_is i) (e_is i) (f_is i) (are.q_is i))
      ∙ rings-are (number_in_body class.Vertex T' b) (number_in_body class.Edge T' b) (number_in_body class.Face T' b) (number_in_body class.Loop T' b) (q_at T' shell)
      (loops-more T' (well-shape m s) b shell is_body) (formula T' (well-shape m s) b shell is_body)

  pub rings-fit : length T' ≤ 16777152 → (rings : ℕ) × (rings < 2 ^ 32) × (rings_by_formula v e f q ≡ pos rings)
  rings-fit few =
      let l : ℕ = number_in_body class.Loop T' b in
      let most : l ≤ length T' = count_by-le-length (stands class.Loop T' b) T' in
      let fits : l - number_in_body class.Face T' b < 2 ^ 32 = omega (arith, most, few) in
      (l - number_in_body class.Face T' b, fits, tell_rings)

  pub counts-are : (r : ℕ) → pos r ≡ rings_by_formula v e f q → row_on m (CountsOf b) ≡ tells (Counts (record { vertices = v; edges = e; faces = f; rings = r; q = q }))
  counts-are r is =
      let same : pos (number_in_body class.Loop T' b - number_in_body class.Face T' b) ≡ pos r = sym tell_rings ∙ sym is in
      let r_is : number_in_body class.Loop T' b - number_in_body class.Face T' b ≡ r = omega (arith, ints, same) in
      counts-told m b shell found
      ∙ (λ i. tells (Counts (record { vertices = sym v_is i; edges = sym e_is i; faces = sym f_is i; rings = r_is i; q = sym are.q_is i })))
