-- mev: the steps from one map to the next.
use Rattle.std.proofs.Common.{◌≡◌, [], ◌∷◌, Option, Some, ◌∙◌}
use Rattle.std.specs.Prelude.{Contains, IfSome}
use Rattle.std.specs.FinMap.{get}
use Rattle.pk_base.specs.declared.tag.Tag.{Tag}
use Rattle.pk_base.specs.declared.entity.Point.{Point}
use Rattle.pk_base.specs.declared.entity.Entity.TheVariants as entity
use Rattle.pk_model.specs.Apart.{NoRepeats}
use Rattle.pk_model.specs.Maps.{EntityMap, with_entity}
use Rattle.pk_model.proofs.TagLists.{NoneOf}
use Rattle.entity_store.proofs.FirstValues.{get_put, get_other}
use Rattle.solid_model.specs.Places.{End}
use Rattle.halfedge.specs.LinkedRings.{IsInRing, ring_of_any}
use Rattle.halfedge.proofs.LinkedRings.{ring_of_any-kept}
use Rattle.solid_edits.specs.NewEdges.{with_edge}
use Rattle.solid_edits.proofs.EditedMaps.{same-links}
use Rattle.solid_edits.proofs.MadeEdges.{HasEdge, edge-made}
use Rattle.euler_make.proofs.MevFound.{strut_edge}

-- ---- the strut

-- the map with the new vertex w
abbrev pub with_vertex : EntityMap → End → Tag → Point → EntityMap
with_vertex m0 u w p = with_entity m0 w (Some (entity.Vertex u.body p))

-- the vertex is put, and then the edge to it, with its fins n and m
pub record StrutPut (m0 m1 : EntityMap) (u : End) (w e n m : Tag) (p : Point) : Type 0 where
  pub at_w : get m1 w ≡ Some (entity.Vertex u.body p)
  pub edge : HasEdge (with_vertex m0 u w p) (strut_edge u w e n m) m1
  pub others : (t : Tag) → NoneOf t (w ∷ e ∷ n ∷ m ∷ []) → get m1 t ≡ get m0 t

pub strut-put : (m0 : EntityMap) (u : End) (w e n m : Tag) (p : Point) → NoRepeats (w ∷ e ∷ n ∷ m ∷ []) → StrutPut m0 (with_edge (with_vertex m0 u w p) (strut_edge u w e n m)) u w e n m p
strut-put m0 u w e n m p once =
    let edge = edge-made (with_vertex m0 u w p) (strut_edge u w e n m) once.1 in
    record {
      at_w = edge.others w once.0 ∙ get_put m0 w (Some (entity.Vertex u.body p));
      edge = edge;
      others = λ t h. edge.others t h.1 ∙ get_other m0 w (Some (entity.Vertex u.body p)) t h.0;
    }

-- ---- the ring that was, in a map with more entities

pub ring-more : (m n : EntityMap) (first : Option Tag) → IfSome first (IsInRing m) → ((f : Tag) → Contains (ring_of_any m first) f → get n f ≡ get m f)
    → (ring_of_any n first ≡ ring_of_any m first) × IfSome first (IsInRing n)
ring-more m n first h same = ring_of_any-kept m n first h (λ t k. same-links m n t (same t k))
