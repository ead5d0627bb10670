-- What dies with the items that are killed.
use Rattle.std.specs.Prelude.{Bool, false, not, ◌||◌, List, filter}
use Rattle.pk_base.specs.declared.tag.Tag.{Tag}
use Rattle.solid_model.specs.Items.{Item, Shape}
use Rattle.solid_model.specs.Items.Item.{Body, Shell, Face, Loop, Fin, Edge, Vertex, Attr}
use Rattle.solid_model.specs.Rings.{is_among}

-- whether it is an attribute of one of these
abbrev pub is_attribute_of : List Tag → Item → Bool
is_attribute_of killed (Attr owner name value) = is_among owner killed
is_attribute_of killed (Body shell) = false
is_attribute_of killed (Shell body q) = false
is_attribute_of killed (Face shell outer) = false
is_attribute_of killed (Loop face fins vertex) = false
is_attribute_of killed (Fin mate edge vertex) = false
is_attribute_of killed (Edge body) = false
is_attribute_of killed (Vertex body point) = false

-- it stands under one of these tags, or is an attribute of one
abbrev pub dies_with : List Tag → Tag × Item → Bool
dies_with killed x = is_among x.0 killed || is_attribute_of killed x.1

-- the shape without what stands under these tags, and without the attributes of that
infixl 12 ◌without◌
abbrev pub ◌without◌ : Shape → List Tag → Shape
S without killed = filter (λ x. not (dies_with killed x)) S
