-- kvfs: what each step asks for, and what is put.
use Rattle.std.proofs.Common.{◌≡◌, [], length, Some, None, sym, ap, subst, ◌∙◌}
use Rattle.std.specs.Prelude.{ℤ}
use Rattle.std.specs.FinMap.{get}
use Rattle.pk_base.specs.declared.tag.Tag.{Tag}
use Rattle.pk_base.specs.declared.entity.Entity.TheVariants as entity
use Rattle.pk_model.specs.Maps.{EntityMap}
use Rattle.solid_model.specs.Owners.{all_in_body}
use Rattle.solid_model.specs.Shapes.{shape_of}
use Rattle.solid_model.specs.Sound.{IsSound}
use Rattle.pk_base.specs.declared.entity.Point.{Point}
use Rattle.solid_sound.proofs.rows.RowKeeps.{well-shape}
use Rattle.entity_store.specs.Store.{StoreView}
use Rattle.solid_edits.specs.BareParts.{AreBareParts, tags_of_parts}
use Rattle.solid_edits.specs.declared.bare_parts.BareParts.{BareParts}
use Rattle.solid_edits.specs.Deaths.{with_attributes}
use Rattle.solid_calls.proofs.Represented.{represents-sound}
use Rattle.pk_base.specs.declared.call.Call.TheVariants.{Kvfs}
use Rattle.solid_model.specs.Room.{dying, puts_of, tags_put}
use Rattle.solid_calls.proofs.RowKinds.{kvfs-changes}
use Rattle.solid_edits.proofs.TagsPut.{length-with_attributes, puts-changed, within-changed}
use Rattle.solid_edits.proofs.Dying.{dying-has}
use Rattle.solid_edits.proofs.Stages.{Within}
use Rattle.euler_kill.proofs.KvfsFound.{IsBare, dying-body, parts-once, parts-own}

-- ---- the parts are there

-- what each part has under its tag
pub record HasParts (m : EntityMap) (p : BareParts) : Type 0 where
  pub body_is : get m p.body ≡ Some (entity.Body p.shell)
  pub shell_is : (q : ℤ) × (get m p.shell ≡ Some (entity.Shell p.body q))
  pub face_is : get m p.face ≡ Some (entity.Face p.shell p.loop_)
  pub loop_is : get m p.loop_ ≡ Some (entity.Loop p.face None (Some p.vertex))
  pub vertex_is : (point : Point) × (get m p.vertex ≡ Some (entity.Vertex p.body point))

pub has-parts : (m : EntityMap) → IsSound m → (p : BareParts) → AreBareParts (shape_of m) p → HasParts m p
has-parts m sound p are =
    let was = represents-sound m sound in
    record {
      body_is = was.items p.body _ are.body_is;
      shell_is = (are.q, was.items p.shell _ are.shell_is);
      face_is = was.items p.face _ are.face_is;
      loop_is = (was.items p.loop_ _ are.loop_is).0;
      vertex_is = (are.point, was.items p.vertex _ are.vertex_is);
    }

-- what is found of the parts in a store that is lent
pub parts-seen : (v s : StoreView) → v ≡ s → (p : BareParts) → AreBareParts (shape_of v.state.map) p → AreBareParts (shape_of s.state.map) p
parts-seen v s e p h = subst (λ (w : StoreView). AreBareParts (shape_of w.state.map) p) e h

-- ---- what is put is of the body

-- the parts, and their attributes, are all that stands in the body
module _ (m : EntityMap) (sound : IsSound m) (p : BareParts) (are : AreBareParts (shape_of m) p) (bare : IsBare (shape_of m) p.body) (b : Tag) (same : p.body ≡ b) where
  all_of_body : dying (shape_of m) (tags_of_parts p) ≡ all_in_body (shape_of m) b
  all_of_body = dying-body (shape_of m) (well-shape m sound) p are bare ∙ ap (all_in_body (shape_of m)) same

  pub kvfs-within : Within (with_attributes m (tags_of_parts p)) (tags_put (shape_of m) (Kvfs b) [])
  kvfs-within t k =
      within-changed (shape_of m) (Kvfs b) [] (dying (shape_of m) (tags_of_parts p)) (sym all_of_body) t
      (dying-has m (tags_of_parts p) (parts-own (shape_of m) (well-shape m sound) p are) t k)

  pub kvfs-counts : puts_of (shape_of m) (Kvfs b) ≡ length (with_attributes m (tags_of_parts p))
  kvfs-counts =
      let well = well-shape m sound in
      puts-changed (shape_of m) (Kvfs b) (dying (shape_of m) (tags_of_parts p)) (kvfs-changes (shape_of m) b) (sym all_of_body)
      ∙ sym (length-with_attributes m (tags_of_parts p) sound (parts-once (shape_of m) well p are) (parts-own (shape_of m) well p are))
