-- The map in which an edge was made: what it has under the tags of the edge, and what stays.
use Rattle.std.proofs.Common.{◌≡◌, ◌<◌, List, [], ◌∷◌, Option, Some, refl, ap, ◌∙◌}
use Rattle.std.specs.List.{AllByRecursion}
use Rattle.std.specs.FinMap.{get}
use Rattle.pk_base.specs.declared.tag.Tag.{Tag}
use Rattle.pk_base.specs.declared.entity.Entity.{Entity}
use Rattle.pk_base.specs.declared.entity.Entity.TheVariants as entity
use Rattle.pk_model.specs.Apart.{NoRepeats}
use Rattle.pk_model.specs.Maps.{EntityMap, with_entity}
use Rattle.pk_model.proofs.TagLists.{NoneOf}
use Rattle.entity_store.proofs.FirstValues.{get_other, get_put}
use Rattle.halfedge.specs.LinkedRings.{IsRing}
use Rattle.halfedge.proofs.LinkedRings.{ring_alone}
use Rattle.solid_model.specs.Items.{Shape, item_at}
use Rattle.solid_model.specs.Items.Item.{Edge, Fin}
use Rattle.solid_calls.proofs.Represented.{Shows}
use Rattle.solid_edits.specs.Deaths.{Kills, unless_on_any}
use Rattle.solid_edits.proofs.KilledMaps.{IsPlain, unless-plain}
use Rattle.solid_edits.proofs.PlacedAnew.{IsFinOf, IsSameElsewhere, elsewhere-fin, elsewhere-plain}
use Rattle.solid_edits.specs.NewEdges.{fin_alone, tags_of_edge, with_edge}
use Rattle.solid_edits.specs.declared.new_edges.NewEdge.{NewEdge}

-- The edge and its fins are there, each fin a ring alone, and nothing else has changed.
pub record HasEdge (m : EntityMap) (e : NewEdge) (n : EntityMap) : Type 0 where
  pub edge_is : get n e.tag ≡ Some (entity.Edge e.body e.fin.tag)
  pub fin_is : get n e.fin.tag ≡ Some (fin_alone e.fin e.mate.tag e.tag)
  pub mate_is : get n e.mate.tag ≡ Some (fin_alone e.mate e.fin.tag e.tag)
  pub fin_ring : IsRing n (e.fin.tag ∷ [])
  pub mate_ring : IsRing n (e.mate.tag ∷ [])
  pub others : (t : Tag) → NoneOf t (tags_of_edge e) → get n t ≡ get m t

pub edge-made : (m : EntityMap) (e : NewEdge) → NoRepeats (tags_of_edge e) → HasEdge m e (with_edge m e)
edge-made m e once =
    let edge : Option Entity = Some (entity.Edge e.body e.fin.tag) in
    let fin : Option Entity = Some (fin_alone e.fin e.mate.tag e.tag) in
    let mate : Option Entity = Some (fin_alone e.mate e.fin.tag e.tag) in
    let one = with_entity m e.tag edge in
    let two = with_entity one e.fin.tag fin in
    let fin_is : get (with_edge m e) e.fin.tag ≡ fin = get_other two e.mate.tag mate e.fin.tag once.1.0.0 ∙ get_put one e.fin.tag fin in
    let mate_is : get (with_edge m e) e.mate.tag ≡ mate = get_put two e.mate.tag mate in
    record {
      edge_is = get_other two e.mate.tag mate e.tag once.0.1.0 ∙ get_other one e.fin.tag fin e.tag once.0.0 ∙ get_put m e.tag edge;
      fin_is = fin_is;
      mate_is = mate_is;
      fin_ring = ring_alone (with_edge m e) e.fin.tag e.fin.loop_ e.mate.tag e.tag e.fin.vertex fin_is;
      mate_ring = ring_alone (with_edge m e) e.mate.tag e.mate.loop_ e.fin.tag e.tag e.mate.vertex mate_is;
      others = λ t h. get_other two e.mate.tag mate t h.1.1.0 ∙ get_other one e.fin.tag fin t h.1.0 ∙ get_other m e.tag edge t h.0;
    }

-- ---- the edge is there still

-- The edge is there, with its fins, wherever they stand.
pub record KeepsEdge (e : NewEdge) (n : EntityMap) : Type 0 where
  pub edge_is : get n e.tag ≡ Some (entity.Edge e.body e.fin.tag)
  pub fin_is : IsFinOf (get n e.fin.tag) e.mate.tag e.tag e.fin.vertex
  pub mate_is : IsFinOf (get n e.mate.tag) e.fin.tag e.tag e.mate.vertex

-- once fins were placed anew
pub edge-kept : (m n r : EntityMap) (e : NewEdge) → HasEdge m e n → AllByRecursion (IsSameElsewhere n r) (tags_of_edge e) → KeepsEdge e r
edge-kept m n r e has same = record {
  edge_is = elsewhere-plain n r e.tag (entity.Edge e.body e.fin.tag) same.0 refl has.edge_is;
  fin_is = elsewhere-fin n r e.fin.tag e.mate.tag e.tag e.fin.vertex same.1.0 (e.fin.loop_, e.fin.tag, e.fin.tag, has.fin_is);
  mate_is = elsewhere-fin n r e.mate.tag e.fin.tag e.tag e.mate.vertex same.1.1.0 (e.mate.loop_, e.mate.tag, e.mate.tag, has.mate_is);
}

-- once others have died
pub edge-lives : (n r : EntityMap) (e : NewEdge) (killed : List Tag) → KeepsEdge e n → Kills n killed r → AllByRecursion (λ t. NoneOf t killed) (tags_of_edge e) → KeepsEdge e r
edge-lives n r e killed keeps kills live = record {
  edge_is = stands e.tag (entity.Edge e.body e.fin.tag) live.0 (λ o. refl) keeps.edge_is;
  fin_is = let f = keeps.fin_is in (f.0, f.1, f.2, stands e.fin.tag (entity.Fin f.0 f.1 f.2 e.mate.tag e.tag e.fin.vertex) live.1.0 (λ o. refl) f.3);
  mate_is = let g = keeps.mate_is in (g.0, g.1, g.2, stands e.mate.tag (entity.Fin g.0 g.1 g.2 e.fin.tag e.tag e.mate.vertex) live.1.1.0 (λ o. refl) g.3);
}
  where
    stands : (t : Tag) (x : Entity) → NoneOf t killed → IsPlain x → get n t ≡ Some x → get r t ≡ Some x
    stands t x none plain is = kills.others t none ∙ ap (unless_on_any killed) is ∙ unless-plain killed x plain

-- it is shown, and so are its fins by what it keeps
pub edge-shown : (R : Shape) (n : EntityMap) (e : NewEdge) → KeepsEdge e n → e.fin.tag.0 < e.mate.tag.0 → item_at R e.fin.tag ≡ Some (Fin e.mate.tag e.tag e.fin.vertex) → Shows R n e.tag (Edge e.body)
edge-shown R n e keeps less is = (e.fin.tag, keeps.edge_is, record { mate = e.mate.tag; vertex = e.fin.vertex; fin_is = is; less = less })
