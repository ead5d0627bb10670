-- The rows lamina and sweep keep soundness.
use Rattle.std.proofs.Common.{◌≡◌, ◌+◌, ◌*◌, ◌≤◌, List, [], ◌∷◌, length, Option, None, Ok, ap, ◌∙◌, arith}
use Rattle.std.specs.Prelude.{ℤ, pos, int_lt, not}
use Rattle.std.specs.Option.{option_map_or}
use Rattle.std.specs.List.{AllByRecursion, flat_map}
use Rattle.pk_base.specs.Blocks.{tag}
use Rattle.pk_base.specs.declared.tag.Tag.{Tag}
use Rattle.pk_base.specs.declared.entity.Pair.{Pair}
use Rattle.pk_base.specs.declared.entity.Triple.{Triple}
use Rattle.pk_base.specs.declared.refusal.Refusal.TheVariants.{HasRings, FlatSweep}
use Rattle.pk_model.specs.Tags.{TagsAscend}
use Rattle.solid_model.specs.Items.{Item, Shape, item_at}
use Rattle.solid_model.specs.Owners.{has_rings}
use Rattle.solid_model.specs.Rows.{refuse_where}
use Rattle.solid_model.specs.Places.{PlacedFace, face_at, fins_at, outer_at, outer_of}
use Rattle.solid_model.specs.Ranges.{is_component, is_coordinate, numbers_of, coordinates_of, refuse_outside}
use Rattle.pk_plane.specs.Vectors.{dot}
use Rattle.pk_plane.specs.Turns.{moved}
use Rattle.solid_model.specs.Newell.{newell, starts_of}
use Rattle.solid_model.specs.Lamina.{after_lamina, refuse_count, refuse_corners, refuse_polygon, lamina}
use Rattle.solid_model.specs.Sweep.{after_sweep, sweep}
use Rattle.solid_sound.proofs.rows.RowKeeps.{IsWell, Keeps, keeps-after, keeps-bind}
use Rattle.solid_sound.proofs.rows.Taken.{TakesOnly, takes-after, takes-bind}
use Rattle.solid_sound.proofs.rows.KeptRings.{asked_face}
use Rattle.solid_sound.proofs.rows.Progress.{start, Began, began-start, began-more, began-live, began-lamina, began-sweep}

-- S is the shape at the beginning, and these are the tags that there were.
module _ (S : Shape) (tags : List Tag) (well : IsWell S) (ascend : TagsAscend tags) (free : AllByRecursion (λ t. item_at S t ≡ None) tags) where
  -- ---- lamina

  pub lamina-began : (z : ℤ) (corners : List Pair) → 4 * length corners + 6 ≤ length tags → Began S tags (4 * length corners + 6) (after_lamina z corners (start S tags))
  lamina-began z corners enough = began-more S tags (0 + (4 * length corners + 6)) (4 * length corners + 6) (after_lamina z corners (start S tags)) (omega arith)
      (began-lamina S tags ascend free 0 z corners (start S tags) (began-start S tags well) (omega (arith, enough)))

  pub lamina-keeps : (z : ℤ) (corners : List Pair) → Keeps tags (lamina S z corners)
  lamina-keeps z corners = keeps-after tags (refuse_count corners) _ (λ a. keeps-after tags (refuse_outside is_coordinate (z ∷ [])) _ (λ b.
      keeps-after tags (refuse_corners corners) _ (λ c. keeps-after tags (refuse_polygon corners) _ (λ d enough. (lamina-began z corners enough).well))))

  pub lamina-takes : (z : ℤ) (corners : List Pair) → TakesOnly S tags (lamina S z corners)
  lamina-takes z corners = takes-after S tags (refuse_count corners) _ (λ a. takes-after S tags (refuse_outside is_coordinate (z ∷ [])) _ (λ b.
      takes-after S tags (refuse_corners corners) _ (λ c. takes-after S tags (refuse_polygon corners) _ (λ d enough.
      began-live S tags (4 * length corners + 6) (after_lamina z corners (start S tags)) (lamina-began z corners enough)))))

  -- ---- sweep

  sweep-began : (f : Tag) (by : Triple) (face : PlacedFace) → face_at S f ≡ Ok face → 9 * length (fins_at S face.outer) ≤ length tags → Began S tags (9 * length (fins_at S face.outer)) (after_sweep f by (start S tags))
  sweep-began f by face is enough =
      let x = asked_face S f (item_at S f) face is in
      let outer : outer_at S f ≡ face.outer = ap (λ (o : Option Item). option_map_or outer_of o (tag 0)) x.2 ∙ x.5 in
      let long = ap (λ l. length (fins_at S l)) outer in
      began-more S tags (0 + 9 * length (fins_at S face.outer)) (9 * length (fins_at S face.outer)) (after_sweep f by (start S tags)) (omega arith)
      (began-sweep S tags ascend free 0 (length (fins_at S face.outer)) f by (start S tags) (omega (arith, long)) (began-start S tags well) (omega (arith, enough)))

  pub sweep-keeps : (f : Tag) (by : Triple) → Keeps tags (sweep S f by)
  sweep-keeps f by = keeps-bind tags (face_at S f) _ (λ face is. keeps-after tags (refuse_where (has_rings S f) (HasRings f)) _ (λ a.
      keeps-after tags (refuse_outside is_component (numbers_of by)) _ (λ b. keeps-after tags (refuse_outside is_coordinate (flat_map (λ p. coordinates_of (moved by p)) (starts_of S face.outer))) _ (λ c.
      keeps-after tags (refuse_where (not (int_lt (pos 0) (dot (newell S face.outer) by))) FlatSweep) _ (λ d enough. (sweep-began f by face is enough).well)))))

  pub sweep-takes : (f : Tag) (by : Triple) → TakesOnly S tags (sweep S f by)
  sweep-takes f by = takes-bind S tags (face_at S f) _ (λ face is. takes-after S tags (refuse_where (has_rings S f) (HasRings f)) _ (λ a.
      takes-after S tags (refuse_outside is_component (numbers_of by)) _ (λ b. takes-after S tags (refuse_outside is_coordinate (flat_map (λ p. coordinates_of (moved by p)) (starts_of S face.outer))) _ (λ c.
      takes-after S tags (refuse_where (not (int_lt (pos 0) (dot (newell S face.outer) by))) FlatSweep) _ (λ d enough.
      began-live S tags (9 * length (fins_at S face.outer)) (after_sweep f by (start S tags)) (sweep-began f by face is enough))))))
