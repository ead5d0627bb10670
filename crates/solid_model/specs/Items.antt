-- A shape: what stands under each tag, in Mäntylä's half-edge structure (An Introduction to Solid
-- Modeling, 1988) with loops as lists. A loop has all its fins, in their order; so a fin need not
-- say where it stands, and an edge need not say which fins it has.
use Rattle.std.specs.Prelude.{ℤ, List, [], ◌∷◌, Option}
use Rattle.std.specs.FinMap.{find, put}
use Rattle.pk_base.specs.declared.tag.Tag.{Tag}
use Rattle.pk_base.specs.declared.entity.Point.{Point}
use Rattle.pk_base.specs.declared.entity.Name.{Name}
use Rattle.pk_base.specs.declared.entity.Class.{Class}
use Rattle.pk_base.specs.declared.entity.Class.TheVariants as class
use Rattle.pk_model.specs.Maps.{tag_cmp}

-- A loop's list of fins is cyclic, and is written from the least tag. A loop without fins has a
-- lone vertex.
pub data Item : Type 0 where
  Body : (shell : Tag) → Item
  Shell : (body : Tag) → (q : ℤ) → Item
  Face : (shell : Tag) → (outer : Tag) → Item
  Loop : (face : Tag) → (fins : List Tag) → (lone : Option Tag) → Item
  Fin : (mate : Tag) → (edge : Tag) → (vertex : Tag) → Item
  Edge : (body : Tag) → Item
  Vertex : (body : Tag) → (point : Point) → Item
  Attr : (owner : Tag) → (name : Name) → (value : ℤ) → Item

abbrev pub class_of_item : Item → Class
class_of_item (Body shell) = class.Body
class_of_item (Shell body q) = class.Shell
class_of_item (Face shell outer) = class.Face
class_of_item (Loop face fins vertex) = class.Loop
class_of_item (Fin mate edge vertex) = class.Fin
class_of_item (Edge body) = class.Edge
class_of_item (Vertex body point) = class.Vertex
class_of_item (Attr owner name value) = class.Attr

-- the items with their tags, ascending
abbrev pub Shape : Type 0
Shape = List (Tag × Item)

-- what stands under the tag
abbrev pub item_at : Shape → Tag → Option Item
item_at S t = find tag_cmp t S

-- the shape with these items under these tags
infixl 12 ◌with◌
abbrev pub ◌with◌ : Shape → List (Tag × Item) → Shape
S with [] = S
S with (x ∷ xs) = (put tag_cmp x.0 x.1 S) with xs
