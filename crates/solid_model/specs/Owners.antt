-- Who owns what in a shape, and which body it all stands in.
use Rattle.std.specs.Prelude.{ℕ, zero, suc, Bool, ◌==◌, nat_lt, ◌&&◌, length, List, [], map, filter, find, Option, Some, None, option_map, unwrap_or}
use Rattle.std.specs.List.{count_by}
use Rattle.std.specs.Option.{option_and_then}
use Rattle.pk_base.specs.Blocks.{tag}
use Rattle.pk_base.specs.Entity.{same_tag, same_optional}
use Rattle.pk_base.specs.declared.tag.Tag.{Tag}
use Rattle.pk_base.specs.declared.entity.Class.{Class}
use Rattle.pk_base.specs.declared.entity.Class.TheVariants as class
use Rattle.solid_model.specs.Items.{Item, Shape, item_at, class_of_item}
use Rattle.solid_model.specs.Items.Item.{Body, Shell, Face, Loop, Fin, Edge, Vertex, Attr}
use Rattle.solid_model.specs.Rings.{is_among}

abbrev pub number_of_class : Class → ℕ
number_of_class class.Body = 1
number_of_class class.Shell = 2
number_of_class class.Face = 3
number_of_class class.Loop = 4
number_of_class class.Fin = 5
number_of_class class.Edge = 6
number_of_class class.Vertex = 7
number_of_class class.Attr = 8

abbrev pub same_class : Class → Class → Bool
same_class a b = number_of_class a == number_of_class b

-- the fins of a loop
abbrev pub fins_of : Item → List Tag
fins_of (Loop face fins vertex) = fins
fins_of (Body shell) = []
fins_of (Shell body q) = []
fins_of (Face shell outer) = []
fins_of (Fin mate edge vertex) = []
fins_of (Edge body) = []
fins_of (Vertex body point) = []
fins_of (Attr owner name value) = []

-- the loop in whose list the fin stands
abbrev pub loop_with : Shape → Tag → Option Tag
loop_with S f = option_map (λ x. x.0) (find (λ x. is_among f (fins_of x.1)) S)

-- what owns the item under tag t
abbrev pub owner_of_item : Shape → Tag → Item → Option Tag
owner_of_item S t (Body shell) = None
owner_of_item S t (Shell body q) = Some body
owner_of_item S t (Face shell outer) = Some shell
owner_of_item S t (Loop face fins vertex) = Some face
owner_of_item S t (Fin mate edge vertex) = loop_with S t
owner_of_item S t (Edge body) = Some body
owner_of_item S t (Vertex body point) = Some body
owner_of_item S t (Attr owner name value) = Some owner

abbrev pub owner_at : Shape → Tag → Option Tag
owner_at S t = option_and_then (owner_of_item S t) (item_at S t)

-- what the tag owns, ascending
abbrev pub parts_of : Shape → Tag → List Tag
parts_of S t =
    map (λ x. x.0) (filter (λ x. same_optional (owner_of_item S x.0 x.1) (Some t)) S)

-- what it owns of one class, ascending
abbrev pub parts_of_class : Class → Shape → Tag → List Tag
parts_of_class c S t =
    map (λ x. x.0) (filter (λ x. same_class (class_of_item x.1) c
    && same_optional (owner_of_item S x.0 x.1) (Some t)) S)

abbrev pub owner_or_itself : Shape → Tag → Tag
owner_or_itself S t = unwrap_or (owner_at S t) t

-- what stands so many owners above the tag, or the last of them that has no owner
abbrev pub above : ℕ → Shape → Tag → Tag
above zero S t = t
above (suc n) S t = above n S (owner_or_itself S t)

-- The body in which the tag stands. The longest way is that of an attribute of a fin: by its loop,
-- face and shell.
abbrev pub body_of : Shape → Tag → Tag
body_of S t = above 5 S t

-- the face of a loop, the shell of a face
abbrev pub owner_in : Shape → Tag → Tag
owner_in S t = unwrap_or (owner_at S t) (tag 0)

-- all that stands in a body, itself and every attribute included, ascending
abbrev pub all_in_body : Shape → Tag → List Tag
all_in_body S b = map (λ x. x.0) (filter (λ x. same_tag (body_of S x.0) b) S)

-- how many items of one class stand in it
abbrev pub number_in_body : Class → Shape → Tag → ℕ
number_in_body c S b =
    count_by (λ x. same_class (class_of_item x.1) c && same_tag (body_of S x.0) b) S

-- whether a face has more than one loop
abbrev pub has_rings : Shape → Tag → Bool
has_rings S f = nat_lt 1 (length (parts_of_class class.Loop S f))
