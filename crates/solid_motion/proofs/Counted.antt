-- The vertices of a body: in its shape, and among its kids.
use Rattle.std.proofs.Common.{◌≡◌, ◌≤◌, Bool, true, cond, List, [], ◌∷◌, length, Some, refl, sym, ap, ◌∙◌, arith}
use Rattle.std.specs.Prelude.{◌&&◌, map, filter, Contains}
use Rattle.std.specs.FinMap.{get}
use Rattle.std.specs.List.{AllByRecursion}
use Rattle.std.proofs.lemmas.List.{length-map}
use Rattle.std.proofs.lemmas.List.Sums.{count_by-le-length, length-filter}
use Rattle.pk_base.specs.Entity.{same_tag, same_optional}
use Rattle.pk_base.specs.declared.tag.Tag.{Tag}
use Rattle.pk_base.specs.declared.entity.Class.TheVariants as class
use Rattle.pk_base.specs.declared.entity.Entity.{Entity}
use Rattle.pk_base.specs.declared.entity.Entity.TheVariants as entity
use Rattle.pk_base.proofs.Same.{same_itself}
use Rattle.pk_base.specs.declared.entity.Point.{Point}
use Rattle.pk_model.specs.Maps.{EntityMap}
use Rattle.entity_store.specs.Kids.{kids_of}
use Rattle.list_facts.proofs.Each.{ByRecursion-weaker}
use Rattle.list_facts.proofs.Elements.{Contains-filter, Contains-map}
use Rattle.solid_model.specs.Items.{Item, Shape, item_at, class_of_item}
use Rattle.solid_model.specs.Items.Item.{Body, Shell, Face, Loop, Fin, Edge, Vertex, Attr}
use Rattle.solid_model.specs.Owners.{body_of, owner_of_item, parts_of_class, same_class}
use Rattle.solid_model.specs.Room.{vertices_in_body}
use Rattle.solid_model.specs.Shapes.{shape_of}
use Rattle.solid_model.specs.Sound.{IsSound}
use Rattle.solid_places.proofs.Kids.{Walk, kids-counted}
use Rattle.solid_places.proofs.Read.{item-of}
use Rattle.solid_sound.proofs.rows.RowKeeps.{IsWell, well-shape}
use Rattle.solid_sound.proofs.shapes.Bodies.{item_of_class, leads_up}
use Rattle.solid_motion.specs.Vertices.{vertices_on}
use Rattle.solid_motion.proofs.Moving.{on-vertex}
use Rattle.solid_sound.proofs.shapes.Found.{item-among}
use Rattle.solid_sound.proofs.shapes.Reading.{each-found}

-- ---- a vertex stands in the body that it names

body_by_class : (x : Item) → class_of_item x ≡ class.Body → (shell : Tag) × (x ≡ Body shell)
body_by_class (Body shell) h = (shell, refl)
body_by_class (Shell body q) h = absurd (cc)
body_by_class (Face shell outer) h = absurd (cc)
body_by_class (Loop face fins vertex) h = absurd (cc)
body_by_class (Fin mate edge vertex) h = absurd (cc)
body_by_class (Edge body) h = absurd (cc)
body_by_class (Vertex body point) h = absurd (cc)
body_by_class (Attr owner name value) h = absurd (cc)

pub body_of-vertex : (S : Shape) → IsWell S → (v body : Tag) (point : Point) → item_at S v ≡ Some (Vertex body point) → body_of S v ≡ body
body_of-vertex S well v body point e =
    let up = leads_up S well.written well.sound in
    let b = item_of_class (item_at S body) class.Body (well.sound.names.kinds v (Vertex body point) e).0 in
    let x = body_by_class b.0 b.2 in
    sym (up.vertices v body point e) ∙ up.bodies body x.0 (b.1 ∙ ap Some x.1)

-- ---- in the shape

abbrev in_body : Shape → Tag → Tag × Item → Bool
in_body S b x = same_class (class_of_item x.1) class.Vertex && same_tag (body_of S x.0) b

abbrev is_part : Shape → Tag → Tag × Item → Bool
is_part S b x = same_class (class_of_item x.1) class.Vertex && same_optional (owner_of_item S x.0 x.1) (Some b)

each_same : (S : Shape) → IsWell S → (b t : Tag) (x : Item) → item_at S t ≡ Some x → in_body S b (t, x) ≡ is_part S b (t, x)
each_same S well b t (Vertex body point) e = ap (λ u. same_tag u b) (body_of-vertex S well t body point e)
each_same S well b t (Body shell) e = refl
each_same S well b t (Shell body q) e = refl
each_same S well b t (Face shell outer) e = refl
each_same S well b t (Loop face fins vertex) e = refl
each_same S well b t (Fin mate edge vertex) e = refl
each_same S well b t (Edge body) e = refl
each_same S well b t (Attr owner name value) e = refl

filter_same : {A : Type 0} (p q : A → Bool) (xs : List A) → AllByRecursion (λ x. p x ≡ q x) xs → filter p xs ≡ filter q xs
filter_same p q [] h = refl
filter_same p q (x ∷ xs) h = λ i. cond (h.0 i) (x ∷ filter_same p q xs h.1 i) (filter_same p q xs h.1 i)

-- they are the body's parts of their class
pub vertices-parts : (S : Shape) → IsWell S → (b : Tag) → vertices_in_body S b ≡ parts_of_class class.Vertex S b
vertices-parts S well b =
    ap (map (λ (x : Tag × Item). x.0)) (filter_same (in_body S b) (is_part S b) S
    (ByRecursion-weaker (λ (x : Tag × Item). item_at S x.0 ≡ Some x.1) (λ x. in_body S b x ≡ is_part S b x) (λ x e. each_same S well b x.0 x.1 e) S (each-found S well.written.ascends)))

pub vertices-few : (S : Shape) (b : Tag) → length (vertices_in_body S b) ≤ length S
vertices-few S b = omega (arith, length-map (filter (in_body S b) S) (λ (x : Tag × Item). x.0), length-filter (in_body S b) S, count_by-le-length (in_body S b) S)

-- a vertex of the body is one of them
pub vertex-among : (m : EntityMap) → IsSound m → (b v : Tag) (point : Point) → get m v ≡ Some (entity.Vertex b point) → Contains (vertices_in_body (shape_of m) b) v
vertex-among m s b v point live =
    let S = shape_of m in
    let is : item_at S v ≡ Some (Vertex b point) = item-of m v (entity.Vertex b point) live in
    let here : in_body S b (v, Vertex b point) ≡ true = ap (λ u. same_tag u b) (body_of-vertex S (well-shape m s) v b point is) ∙ same_itself b in
    Contains-map (λ (x : Tag × Item). x.0) (filter (in_body S b) S) (v, Vertex b point) (Contains-filter (in_body S b) S (v, Vertex b point) (item-among S v (Vertex b point) is) here)

pub all-among : (m : EntityMap) → IsSound m → (b t : Tag) → Contains (vertices_on m b) t → Contains (vertices_in_body (shape_of m) b) t
all-among m s b t k = let x = on-vertex m b t k in vertex-among m s b t x.0 x.1

-- ---- among the kids

-- how many were counted, and how many are left
pub counted-left : (m : EntityMap) → IsSound m → (b : Tag) (count : _) (left : List (Tag × Entity)) → Walk class.Vertex (kids_of m (Some b)) count left → count ≤ length (vertices_in_body (shape_of m) b)
counted-left m s b count left w =
    let same : length (vertices_in_body (shape_of m) b) ≡ length (parts_of_class class.Vertex (shape_of m) b) = ap length (vertices-parts (shape_of m) (well-shape m s) b) in
    let sum = w.sum in
    omega (arith, same, sum, kids-counted m s class.Vertex b)

pub counted-all : (m : EntityMap) → IsSound m → (b : Tag) (count : _) → Walk class.Vertex (kids_of m (Some b)) count [] → count ≡ length (vertices_in_body (shape_of m) b)
counted-all m s b count w =
    let same : length (vertices_in_body (shape_of m) b) ≡ length (parts_of_class class.Vertex (shape_of m) b) = ap length (vertices-parts (shape_of m) (well-shape m s) b) in
    let sum = w.sum in
    omega (arith, same, sum, kids-counted m s class.Vertex b)
