-- The shape that a map of entities has. A loop's list is read from its first fin, from each fin to
-- the next, until the first comes again.
use Rattle.std.specs.Prelude.{ℕ, zero, suc, true, false, List, [], ◌∷◌, map, length, Option, Some, None}
use Rattle.std.specs.Option.{option_map_or}
use Rattle.std.specs.FinMap.{entries, find}
use Rattle.pk_base.specs.Blocks.{tag}
use Rattle.pk_base.specs.Entity.{same_tag}
use Rattle.pk_base.specs.declared.tag.Tag.{Tag}
use Rattle.pk_base.specs.declared.entity.Entity.{Entity}
use Rattle.pk_base.specs.declared.entity.Entity.TheVariants as entity
use Rattle.pk_model.specs.Maps.{EntityMap, tag_cmp}
use Rattle.solid_model.specs.Items.{Item, Shape}
use Rattle.solid_model.specs.Items.Item.{Body, Shell, Face, Loop, Fin, Edge, Vertex, Attr}

-- the fin after this entity's
abbrev pub next_of : Entity → Tag
next_of (entity.Fin l next prev mate edge vertex) = next
next_of (entity.Body shell) = tag 0
next_of (entity.Shell body q) = tag 0
next_of (entity.Face shell outer) = tag 0
next_of (entity.Loop face first vertex) = tag 0
next_of (entity.Edge body fin) = tag 0
next_of (entity.Vertex body point) = tag 0
next_of (entity.Attr owner name value) = tag 0

abbrev pub next_among : List (Tag × Entity) → Tag → Tag
next_among es f = option_map_or next_of (find tag_cmp f es) (tag 0)

-- at most n fins, from f on, until the next one is the first
abbrev pub fins_until : ℕ → List (Tag × Entity) → Tag → Tag → List Tag
fins_until zero es first f = []
fins_until (suc n) es first f =
    let rest = fins_until n es first (next_among es f) in
    f ∷ elim (same_tag (next_among es f) first) [ true ↦ [] | false ↦ rest ]

abbrev pub fins_read : List (Tag × Entity) → Option Tag → List Tag
fins_read es None = []
fins_read es (Some f) = fins_until (length es) es f f

-- the item that the entity is
abbrev pub item_of : List (Tag × Entity) → Entity → Item
item_of es (entity.Body shell) = Body shell
item_of es (entity.Shell body q) = Shell body q
item_of es (entity.Face shell outer) = Face shell outer
item_of es (entity.Loop face first vertex) = Loop face (fins_read es first) vertex
item_of es (entity.Fin l next prev mate edge vertex) = Fin mate edge vertex
item_of es (entity.Edge body fin) = Edge body
item_of es (entity.Vertex body point) = Vertex body point
item_of es (entity.Attr owner name value) = Attr owner name value

abbrev pub items_of : List (Tag × Entity) → Shape
items_of es = map (λ x. (x.0, item_of es x.1)) es

abbrev pub shape_of : EntityMap → Shape
shape_of m = items_of (entries m)
