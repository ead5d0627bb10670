-- When a shape is a sound half-edge structure, and when a map of entities is.
use Rattle.std.specs.Prelude.{◌≡◌, ◌≢◌, ◌↔◌, ℕ, ℤ, pos, ◌+ℤ◌, ◌-ℤ◌, ◌*ℤ◌, Bool, true, false, cond, T, List, [], ◌∷◌, Option, Some, None, option_map, is_some, IsTrue, Contains}
use Rattle.std.specs.List.{AllByRecursion, count_by, sum_by}
use Rattle.std.specs.FinMap.{is_sorted}
use Rattle.pk_base.specs.Entity.{same_tag}
use Rattle.pk_base.specs.declared.tag.Tag.{Tag}
use Rattle.pk_base.specs.declared.entity.Point.{Point}
use Rattle.pk_base.specs.declared.entity.Name.{Name}
use Rattle.pk_base.specs.declared.entity.Class.{Class}
use Rattle.pk_base.specs.declared.entity.Class.TheVariants as class
use Rattle.pk_model.specs.Maps.{EntityMap, tag_cmp}
use Rattle.pk_model.specs.Apart.{NoRepeats}
use Rattle.solid_model.specs.Items.{Item, Shape, item_at, class_of_item}
use Rattle.solid_model.specs.Items.Item.{Body, Shell, Face, Loop, Fin, Edge, Vertex, Attr}
use Rattle.solid_model.specs.Rings.{neighbours, from_least}
use Rattle.solid_model.specs.Owners.{fins_of, body_of, number_in_body}
use Rattle.solid_model.specs.Places.{start_at, mate_at}
use Rattle.solid_model.specs.Ranges.{is_coordinate, coordinates_of}
use Rattle.solid_model.specs.Links.{links, is_fin_of}

-- ---- names

abbrev pub class_at : Shape → Tag → Option Class
class_at S t = option_map class_of_item (item_at S t)

-- each of these tags is live and of this class
abbrev pub AreOf : Shape → Class → List Tag → Type 0
AreOf S c ts = AllByRecursion (λ t. class_at S t ≡ Some c) ts

abbrev pub optional : Option Tag → List Tag
optional None = []
optional (Some t) = t ∷ []

-- what the item names is live, and of the class that is asked for
abbrev pub NamesItsKind : Shape → Item → Type 0
NamesItsKind S (Body shell) = AreOf S class.Shell (shell ∷ [])
NamesItsKind S (Shell body q) = AreOf S class.Body (body ∷ [])
NamesItsKind S (Face shell outer) =
    AreOf S class.Shell (shell ∷ []) × AreOf S class.Loop (outer ∷ [])
NamesItsKind S (Loop face fins vertex) =
    AreOf S class.Face (face ∷ [])
    × AreOf S class.Fin fins × AreOf S class.Vertex (optional vertex)
NamesItsKind S (Fin mate edge vertex) =
    AreOf S class.Fin (mate ∷ [])
    × AreOf S class.Edge (edge ∷ []) × AreOf S class.Vertex (vertex ∷ [])
NamesItsKind S (Edge body) = AreOf S class.Body (body ∷ [])
NamesItsKind S (Vertex body point) = AreOf S class.Body (body ∷ [])
NamesItsKind S (Attr owner name value) = Unit {0}

-- A body and its shell name each other, and the body has a face.
pub record HasShell (S : Shape) (body shell : Tag) : Type 0 where
  pub q : ℤ
  pub shell_is : item_at S shell ≡ Some (Shell body q)
  pub face : Tag
  pub outer : Tag
  pub face_is : item_at S face ≡ Some (Face shell outer)

-- ---- loops

-- how often the tag stands in the lists of all loops
abbrev pub times_in_loops : Shape → Tag → ℕ
times_in_loops S f = sum_by (λ x. count_by (λ t. same_tag t f) (fins_of x.1)) S

-- in some loop's list, g comes after f
pub record ComesAfter (S : Shape) (f g : Tag) : Type 0 where
  pub loop_ : Tag
  pub face : Tag
  pub fins : List Tag
  pub vertex : Option Tag
  pub loop_is : item_at S loop_ ≡ Some (Loop face fins vertex)
  pub among : Contains (neighbours fins) (f, g)

-- the vertex where the fin ends: where its mate starts
abbrev pub end_of : Shape → Tag → Tag
end_of S f = start_at S (mate_at S f)

abbrev pub is_empty : List Tag → Bool
is_empty [] = true
is_empty (t ∷ ts) = false

-- ---- edges

-- the mate is another fin, whose mate is this one; both have one edge, and it does not end where it
-- starts
pub record IsMated (S : Shape) (f mate edge vertex : Tag) : Type 0 where
  pub other : mate ≢ f
  pub end : Tag
  pub mate_is : item_at S mate ≡ Some (Fin f edge end)
  pub apart : end ≢ vertex

-- how many fins have the edge
abbrev pub fins_with_edge : Shape → Tag → ℕ
fins_with_edge S e = count_by (λ x. is_fin_of e x.1) S

-- ---- vertices

abbrev pub is_alone_in : Tag → Item → Bool
is_alone_in v (Loop face fins (Some vertex)) = same_tag vertex v
is_alone_in v (Loop face fins None) = false
is_alone_in v (Body shell) = false
is_alone_in v (Shell body q) = false
is_alone_in v (Face shell outer) = false
is_alone_in v (Fin mate edge vertex) = false
is_alone_in v (Edge body) = false
is_alone_in v (Vertex body point) = false
is_alone_in v (Attr owner name value) = false

-- how many loops have the vertex as their lone one
abbrev pub loops_alone_at : Shape → Tag → ℕ
loops_alone_at S v = count_by (λ x. is_alone_in v x.1) S

-- The fins that start at a vertex, each once, go round it: after the mate of each comes the next
-- one. It is the lone vertex of one loop where there are none, and else of no loop.
pub record GoesRound (S : Shape) (v : Tag) : Type 0 where
  pub fins : List Tag
  pub once : NoRepeats fins
  pub are_all : (f : Tag) → Contains fins f
      ↔ ((mate : Tag) × (edge : Tag) × (item_at S f ≡ Some (Fin mate edge v)))
  pub round : AllByRecursion (λ n. ComesAfter S (mate_at S n.0) n.1) (neighbours fins)
  pub lone : loops_alone_at S v ≡ cond (is_empty fins) 1 0

-- ---- bodies

-- v - e + f - (loops - f) = 2 q, over what stands in the body
abbrev pub MeetsEulerPoincare : Shape → Tag → ℤ → Type 0
MeetsEulerPoincare S b q =
    let v = pos (number_in_body class.Vertex S b) in
    let e = pos (number_in_body class.Edge S b) in
    let f = pos (number_in_body class.Face S b) in
    let l = pos (number_in_body class.Loop S b) in
    ((v -ℤ e) +ℤ f) -ℤ (l -ℤ f) ≡ pos 2 *ℤ q

-- ---- the ten facts

-- Every named tag is live and has the class that is asked for; a shell and its body name each
-- other, and a body has one shell and a face.
pub record NamesWell (S : Shape) : Type 0 where
  pub kinds : (t : Tag) (x : Item) → item_at S t ≡ Some x → NamesItsKind S x
  pub shells : (b shell : Tag) → item_at S b ≡ Some (Body shell) → HasShell S b shell
  pub bodies : (s b : Tag) (q : ℤ) → item_at S s ≡ Some (Shell b q)
      → item_at S b ≡ Some (Body s)

-- Mates are mutual and different. An edge has two fins, which so are mates, and no edge starts and
-- ends at one vertex.
pub record HasMates (S : Shape) : Type 0 where
  pub fins : (f mate edge vertex : Tag) → item_at S f ≡ Some (Fin mate edge vertex)
      → IsMated S f mate edge vertex
  pub edges : (e body : Tag) → item_at S e ≡ Some (Edge body) → fins_with_edge S e ≡ 2

-- The fins of an edge, their loops, faces and vertices, and the edge, are of one body. A lone
-- vertex has the body of its loop.
pub record StaysInBody (S : Shape) : Type 0 where
  pub fins : (f mate edge vertex : Tag) → item_at S f ≡ Some (Fin mate edge vertex)
      → (body_of S edge ≡ body_of S f) × (body_of S vertex ≡ body_of S f)
  pub lone : (l face vertex : Tag) (fins : List Tag)
      → item_at S l ≡ Some (Loop face fins (Some vertex)) → body_of S vertex ≡ body_of S l

-- An attribute's owner is live and is no attribute. No owner has two attributes of one name.
pub record HasAttributes (S : Shape) : Type 0 where
  pub owned : (a owner : Tag) (name : Name) (value : ℤ)
      → item_at S a ≡ Some (Attr owner name value)
      → (c : Class) × (class_at S owner ≡ Some c) × (c ≢ class.Attr)
  pub one : (a b owner : Tag) (name : Name) (v w : ℤ) → item_at S a ≡ Some (Attr owner name v)
      → item_at S b ≡ Some (Attr owner name w) → a ≡ b

-- The Euler-Poincaré formula holds of each body, and each coordinate of a vertex's point is within
-- the limit.
pub record HasMeasure (S : Shape) : Type 0 where
  pub formula : (b shell : Tag) (q : ℤ) → item_at S b ≡ Some (Body shell)
      → item_at S shell ≡ Some (Shell b q) → MeetsEulerPoincare S b q
  pub points : (v body : Tag) (point : Point) → item_at S v ≡ Some (Vertex body point)
      → AllByRecursion (λ c. IsTrue (is_coordinate c)) (coordinates_of point)

pub record IsSoundShape (S : Shape) : Type 0 where
  pub names : NamesWell S
  -- each fin stands in just one loop's list, once
  pub placed : (f mate edge vertex : Tag) → item_at S f ≡ Some (Fin mate edge vertex)
      → times_in_loops S f ≡ 1
  pub mates : HasMates S
  -- the fin after f starts where f's mate starts
  pub follow : (l face : Tag) (fins : List Tag) (vertex : Option Tag)
      → item_at S l ≡ Some (Loop face fins vertex)
      → AllByRecursion (λ n. start_at S n.1 ≡ end_of S n.0) (neighbours fins)
  -- a loop has a lone vertex just where its list is empty
  pub lone : (l face : Tag) (fins : List Tag) (vertex : Option Tag)
      → item_at S l ≡ Some (Loop face fins vertex) → is_some vertex ≡ is_empty fins
  -- a face's outer loop is one of its loops
  pub outer : (f shell outer : Tag) → item_at S f ≡ Some (Face shell outer)
      → (fins : List Tag) × (vertex : Option Tag)
      × (item_at S outer ≡ Some (Loop f fins vertex))
  -- the fins that start at a vertex go round it, or it is the lone vertex of just one loop
  pub round : (v body : Tag) (point : Point) → item_at S v ≡ Some (Vertex body point)
      → GoesRound S v
  pub bodies : StaysInBody S
  pub attributes : HasAttributes S
  pub measure : HasMeasure S

-- ---- sound maps

-- The items are those of a map of tags, and each loop's list is written from its least tag.
pub record IsWritten (S : Shape) : Type 0 where
  pub ascends : T (is_sorted tag_cmp S)
  pub loops : (l face : Tag) (fins : List Tag) (vertex : Option Tag)
      → item_at S l ≡ Some (Loop face fins vertex) → from_least fins ≡ fins

-- The map is that of a sound shape.
pub record IsSound (m : EntityMap) : Type 0 where
  pub shape : Shape
  pub written : IsWritten shape
  pub sound : IsSoundShape shape
  pub map_is : m ≡ links shape
