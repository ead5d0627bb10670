-- What mvfs needs after kvfs, as it is read from the store before.
use Rattle.std.proofs.Common.{◌≡◌, Some, sym, ap, ◌∙◌}
use Rattle.std.specs.Prelude.{IsOk, option_map}
use Rattle.std.specs.FinMap.{get}
use Rattle.pk_base.specs.Entity.{same_tag}
use Rattle.pk_base.specs.declared.tag.Tag.{Tag}
use Rattle.pk_base.specs.declared.entity.Entity.TheVariants as entity
use Rattle.pk_base.specs.declared.entity.Point.{Point}
use Rattle.pk_base.proofs.Same.{same_itself, same_means}
use Rattle.pk_model.specs.Maps.{EntityMap}
use Rattle.solid_model.specs.Items.{item_at}
use Rattle.solid_model.specs.Items.Item.{Vertex}
use Rattle.solid_model.specs.Kvfs.{kvfs}
use Rattle.solid_model.specs.Links.{entity_of}
use Rattle.solid_model.specs.Owners.{body_of}
use Rattle.solid_model.specs.Shapes.{shape_of}
use Rattle.solid_model.specs.Sound.{IsSound}
use Rattle.solid_sound.proofs.shapes.Bodies.{leads_up}
use Rattle.solid_sound.proofs.rows.RowKeeps.{well-shape}
use Rattle.solid_sound.proofs.rows.Asked.{get-links}
use Rattle.solid_places.proofs.Read.{item-of}
use Rattle.euler_kill.proofs.KidsFound.{IsKid}
use Rattle.euler_laws.specs.Operands.{point_of_body, triple_of}
use Rattle.euler_laws.proofs.KevMev.{own-body}
use Rattle.euler_laws.proofs.KvfsMvfs.{bare-parts, only_vertex, point_is}
use Rattle.euler_laws.proofs.Laws.{back-again}

-- a vertex among the kids is of the body that is asked for
pub vertex-of_kid : (m : EntityMap) (body t b : Tag) (point : Point) → IsKid m (Some body) t (entity.Vertex b point) → get m t ≡ Some (entity.Vertex body point)
vertex-of_kid m body t b point is = is.0 ∙ ap (λ u. Some (entity.Vertex u point)) (same_means b body is.1)

module _ (m : EntityMap) (sound : IsSound m) (b : Tag) (goes : IsOk (kvfs (shape_of m) b)) where
  -- the body has a vertex
  pub has-vertex : (v : Tag) × (point : Point) × (get m v ≡ Some (entity.Vertex b point))
  has-vertex =
      let S = shape_of m in
      let k = bare-parts S (well-shape m sound) b goes in (
        k.0.vertex,
        k.2.point,
        ap (λ n. get n k.0.vertex) (sym (back-again m sound)) ∙ get-links S k.0.vertex (well-shape m sound).written.ascends ∙ ap (option_map (entity_of S k.0.vertex)) k.2.vertex_is
            ∙ ap (λ t. Some (entity.Vertex t k.2.point)) k.1,
      )

  -- and just one
  pub vertex-point : (v : Tag) (point : Point) → get m v ≡ Some (entity.Vertex b point) → triple_of point ≡ point_of_body (shape_of m) b
  vertex-point v point is =
      let S = shape_of m in
      let well = well-shape m sound in
      let k = bare-parts S well b goes in
      let here : item_at S v ≡ Some (Vertex b point) = item-of m v _ is in
      let up = leads_up S well.written well.sound in
      let at : body_of S v ≡ k.0.body = sym (up.vertices v b point here) ∙ own-body S well b (well.sound.names.kinds v (Vertex b point) here).0 ∙ sym k.1 in
      let same : v ≡ k.0.vertex = only_vertex S well k.0 k.2 k.3 v (Vertex b point) here (ap (λ u. same_tag u k.0.body) at ∙ same_itself k.0.body) in
      let both : Some (Vertex b point) ≡ Some (Vertex k.0.body k.2.point) = sym here ∙ ap (item_at S) same ∙ k.2.vertex_is in
      let points : point ≡ k.2.point = cc in
      ap triple_of points ∙ sym (point_is S well k.0 k.2 k.3) ∙ ap (point_of_body S) k.1
