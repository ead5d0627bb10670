-- The attributes of an entity. Every entity but an attribute may have some, each of another name.
use Rattle.std.specs.Prelude.{Bool, false, ◌&&◌, find, Option, Some, None, Result, option_map}
use Rattle.pk_base.specs.Entity.{same_tag, same_name}
use Rattle.pk_base.specs.declared.tag.Tag.{Tag}
use Rattle.pk_base.specs.declared.entity.Name.{Name}
use Rattle.pk_base.specs.declared.refusal.Refusal.{Refusal}
use Rattle.solid_model.specs.Items.{Item, Shape, item_at}
use Rattle.solid_model.specs.Items.Item.{Body, Shell, Face, Loop, Fin, Edge, Vertex, Attr}
use Rattle.solid_model.specs.Places.{asked}

-- an item that may have attributes
abbrev pub as_owner : Item → Option Item
as_owner (Attr owner name value) = None
as_owner (Body shell) = Some (Body shell)
as_owner (Shell body q) = Some (Shell body q)
as_owner (Face shell outer) = Some (Face shell outer)
as_owner (Loop face fins vertex) = Some (Loop face fins vertex)
as_owner (Fin mate edge vertex) = Some (Fin mate edge vertex)
as_owner (Edge body) = Some (Edge body)
as_owner (Vertex body point) = Some (Vertex body point)

abbrev pub owner_of_attributes_at : Shape → Tag → Result Item Refusal
owner_of_attributes_at S t = asked as_owner t (item_at S t)

abbrev pub is_attribute_named : Tag → Name → Item → Bool
is_attribute_named o n (Attr owner name value) = same_tag owner o && same_name name n
is_attribute_named o n (Body shell) = false
is_attribute_named o n (Shell body q) = false
is_attribute_named o n (Face shell outer) = false
is_attribute_named o n (Loop face fins vertex) = false
is_attribute_named o n (Fin mate edge vertex) = false
is_attribute_named o n (Edge body) = false
is_attribute_named o n (Vertex body point) = false

-- the attribute that the owner has of this name
abbrev pub attribute_named : Shape → Tag → Name → Option Tag
attribute_named S owner name =
    option_map (λ x. x.0) (find (λ x. is_attribute_named owner name x.1) S)
