-- Entities: their classes, their owners, and when two are the same.
use Rattle.std.specs.Prelude.{ℕ, Bool, true, false, ◌==◌, ◌&&◌, Option, Some, None, List, [], ◌∷◌, ◌++◌, codes}
use Rattle.std.specs.Ordering.{int_eq}
use Rattle.pk_base.specs.declared.tag.Tag.{Tag}
use Rattle.pk_base.specs.declared.entity.Point.{Point}
use Rattle.pk_base.specs.declared.entity.Name.{Name}
use Rattle.pk_base.specs.declared.entity.Class.{Class}
use Rattle.pk_base.specs.declared.entity.Class.TheVariants as class
use Rattle.pk_base.specs.declared.entity.Entity.{Entity}
use Rattle.pk_base.specs.declared.entity.Entity.TheVariants.{Body, Shell, Face, Loop, Fin, Edge, Vertex, Attr}
use lib.Pointwise.{pointwise}

abbrev pub class_of : Entity → Class
class_of (Body shell) = class.Body
class_of (Shell body q) = class.Shell
class_of (Face shell outer) = class.Face
class_of (Loop face first vertex) = class.Loop
class_of (Fin l next prev mate edge vertex) = class.Fin
class_of (Edge body fin) = class.Edge
class_of (Vertex body point) = class.Vertex
class_of (Attr owner name value) = class.Attr

-- what the entity is part of: nothing exactly for a body
abbrev pub owner_of : Entity → Option Tag
owner_of (Body shell) = None
owner_of (Shell body q) = Some body
owner_of (Face shell outer) = Some shell
owner_of (Loop face first vertex) = Some face
owner_of (Fin l next prev mate edge vertex) = Some l
owner_of (Edge body fin) = Some body
owner_of (Vertex body point) = Some body
owner_of (Attr owner name value) = Some owner

abbrev pub optional_tags : Option Tag → List Tag
optional_tags None = []
optional_tags (Some t) = t ∷ []

-- the tags that the entity names, in the order of its fields
abbrev pub named_by : Entity → List Tag
named_by (Body shell) = shell ∷ []
named_by (Shell body q) = body ∷ []
named_by (Face shell outer) = shell ∷ outer ∷ []
named_by (Loop face first vertex) = face ∷ optional_tags first ++ optional_tags vertex
named_by (Fin l next prev mate edge vertex) = l ∷ next ∷ prev ∷ mate ∷ edge ∷ vertex ∷ []
named_by (Edge body fin) = body ∷ fin ∷ []
named_by (Vertex body point) = body ∷ []
named_by (Attr owner name value) = owner ∷ []

abbrev pub class_word : Class → List ℕ
class_word class.Body = codes "body"
class_word class.Shell = codes "shell"
class_word class.Face = codes "face"
class_word class.Loop = codes "loop"
class_word class.Fin = codes "fin"
class_word class.Edge = codes "edge"
class_word class.Vertex = codes "vertex"
class_word class.Attr = codes "attr"

abbrev pub same_tag : Tag → Tag → Bool
same_tag a b = a.0 == b.0

-- both name nothing, or both the same tag
abbrev pub same_optional : Option Tag → Option Tag → Bool
same_optional None None = true
same_optional (Some a) (Some b) = same_tag a b
same_optional _ _ = false

abbrev pub same_point : Point → Point → Bool
same_point a b = int_eq a.x b.x && (int_eq a.y b.y && int_eq a.z b.z)

abbrev pub same_name : Name → Name → Bool
same_name a b = pointwise ◌==◌ a.0 b.0

-- the same class, and the same fields
abbrev pub same_entity : Entity → Entity → Bool
same_entity (Body a) (Body b) = same_tag a b
same_entity (Shell a p) (Shell b q) = same_tag a b && int_eq p q
same_entity (Face a o) (Face b u) = same_tag a b && same_tag o u
same_entity (Loop a f l) (Loop b g m) = same_tag a b && (same_optional f g && same_optional l m)
same_entity (Fin a n p m e v) (Fin b o q k f w) =
    same_tag a b && (same_tag n o && (same_tag p q
    && (same_tag m k && (same_tag e f && same_tag v w))))
same_entity (Edge a f) (Edge b g) = same_tag a b && same_tag f g
same_entity (Vertex a p) (Vertex b q) = same_tag a b && same_point p q
same_entity (Attr a n v) (Attr b m w) = same_tag a b && (same_name n m && int_eq v w)
same_entity _ _ = false
