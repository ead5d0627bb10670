-- An edge that is made, with its two fins.
use Rattle.std.specs.Prelude.{List, [], ◌∷◌, Some}
use Rattle.pk_base.specs.declared.tag.Tag.{Tag}
use Rattle.pk_base.specs.declared.entity.Entity.{Entity}
use Rattle.pk_base.specs.declared.entity.Entity.TheVariants as entity
use Rattle.pk_model.specs.Maps.{EntityMap, with_entity}
use Rattle.solid_edits.specs.declared.new_edges.NewEdge.{NewEdge}
use Rattle.solid_edits.specs.declared.new_edges.NewFin.{NewFin}

abbrev pub tags_of_edge : NewEdge → List Tag
tags_of_edge e = e.tag ∷ e.fin.tag ∷ e.mate.tag ∷ []

-- a fin with this mate and edge, as a ring alone
abbrev pub fin_alone : NewFin → (mate edge : Tag) → Entity
fin_alone f mate edge = entity.Fin f.loop_ f.tag f.tag mate edge f.vertex

-- The map with the edge and both of its fins, which are mates, each a ring alone. The edge names
-- the first of them.
abbrev pub with_edge : EntityMap → NewEdge → EntityMap
with_edge m e =
    let one = with_entity m e.tag (Some (entity.Edge e.body e.fin.tag)) in
    let two = with_entity one e.fin.tag (Some (fin_alone e.fin e.mate.tag e.tag)) in
    with_entity two e.mate.tag (Some (fin_alone e.mate e.fin.tag e.tag))
