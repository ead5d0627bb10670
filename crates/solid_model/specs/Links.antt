-- The map of entities that a shape stands for: what a shape says by its lists, entities say by the
-- tags of their neighbours.
use Rattle.std.specs.Prelude.{Bool, false, List, map, find, option_map, unwrap_or}
use Rattle.std.specs.FinMap.{from_sorted}
use Rattle.pk_base.specs.Blocks.{tag}
use Rattle.pk_base.specs.Entity.{same_tag}
use Rattle.pk_base.specs.declared.tag.Tag.{Tag}
use Rattle.pk_base.specs.declared.entity.Entity.{Entity}
use Rattle.pk_base.specs.declared.entity.Entity.TheVariants as entity
use Rattle.pk_model.specs.Maps.{EntityMap}
use Rattle.solid_model.specs.Items.{Item, Shape}
use Rattle.solid_model.specs.Items.Item.{Body, Shell, Face, Loop, Fin, Edge, Vertex, Attr}
use Rattle.solid_model.specs.Rings.{next_in, previous_in, first_tag}
use Rattle.solid_model.specs.Owners.{owner_in}
use Rattle.solid_model.specs.Places.{fins_at}

abbrev pub is_fin_of : Tag → Item → Bool
is_fin_of e (Fin mate edge vertex) = same_tag edge e
is_fin_of e (Body shell) = false
is_fin_of e (Shell body q) = false
is_fin_of e (Face shell outer) = false
is_fin_of e (Loop face fins vertex) = false
is_fin_of e (Edge body) = false
is_fin_of e (Vertex body point) = false
is_fin_of e (Attr owner name value) = false

-- the least of the fins that name the edge
abbrev pub fin_of_edge : Shape → Tag → Tag
fin_of_edge S e = unwrap_or (option_map (λ x. x.0) (find (λ x. is_fin_of e x.1) S)) (tag 0)

-- a fin in a loop: its neighbours are those of the loop's list
abbrev pub linked_fin : Tag → Tag → List Tag → Tag → Tag → Tag → Entity
linked_fin f l fins mate edge vertex =
    entity.Fin l (next_in fins f) (previous_in fins f) mate edge vertex

-- the entity that the item under tag t is
abbrev pub entity_of : Shape → Tag → Item → Entity
entity_of S t (Body shell) = entity.Body shell
entity_of S t (Shell body q) = entity.Shell body q
entity_of S t (Face shell outer) = entity.Face shell outer
entity_of S t (Loop face fins vertex) = entity.Loop face (first_tag fins) vertex
entity_of S t (Fin mate edge vertex) =
    linked_fin t (owner_in S t) (fins_at S (owner_in S t)) mate edge vertex
entity_of S t (Edge body) = entity.Edge body (fin_of_edge S t)
entity_of S t (Vertex body point) = entity.Vertex body point
entity_of S t (Attr owner name value) = entity.Attr owner name value

abbrev pub entities_of : Shape → List (Tag × Entity)
entities_of S = map (λ x. (x.0, entity_of S x.0 x.1)) S

-- the map of these entities
unfoldable pub links : Shape → EntityMap
links S = from_sorted (entities_of S)
