-- ringmove: the map that is reached, and that it is that of the shape of its row.
use Rattle.std.proofs.Common.{◌≡◌, ◌≢◌, ⊎_elim, [], Some, sym, ap, subst, ◌∙◌}
use Rattle.std.specs.Prelude.{option_map}
use Rattle.std.specs.FinMap.{get, put}
use Rattle.pk_base.specs.declared.tag.Tag.{Tag}
use Rattle.pk_base.specs.declared.entity.Entity.TheVariants as entity
use Rattle.pk_model.specs.Maps.{EntityMap, with_entity, tag_cmp}
use Rattle.solid_model.specs.Items.{Shape, item_at}
use Rattle.solid_model.specs.Items.Item.{Loop}
use Rattle.solid_model.specs.Rings.{first_tag}
use Rattle.solid_model.specs.Links.{links}
use Rattle.solid_model.specs.Shapes.{shape_of}
use Rattle.solid_model.specs.Sound.{IsSound}
use Rattle.solid_sound.proofs.shapes.Lookups.{put-same, put-other}
use Rattle.pk_base.proofs.Same.{same_or_other}
use Rattle.solid_sound.proofs.rows.RowKeeps.{IsWell, Keeps, well-shape}
use Rattle.solid_sound.proofs.rows.KeptRings.{apart, ringmove-keeps}
use Rattle.solid_edits.specs.Faces.{of_face}
use Rattle.solid_calls.proofs.Represented.{Represents, represented, represents-sound}
use Rattle.solid_edits.proofs.StaysRepresented.{IsShown, KeepsFins, are-shown, shown-by, stays-shown, loop-given}
use Rattle.entity_store.proofs.FirstValues.{get_other, get_put}
use Rattle.euler_kill.proofs.RingMoveFound.{MovesRing}

module _ (m : EntityMap) (sound : IsSound m) (l to : Tag) (x : MovesRing (shape_of m) l to) where
  abbrev S : Shape
  S = shape_of m

  abbrev R : Shape
  R = put tag_cmp l (Loop to x.fins x.vertex) S

  abbrev n : EntityMap
  n = with_entity m l (option_map (of_face to) (get m l))

  well : IsWell S
  well = well-shape m sound

  was : Represents S m
  was = represents-sound m sound

  pub ring-has : get m l ≡ Some (entity.Loop x.face (first_tag x.fins) x.vertex)
  ring-has = (was.items l _ x.ring_is).0

  pub face-has : get m to ≡ Some (entity.Face x.shell x.outer)
  face-has = was.items to _ x.face_is

  now : get n l ≡ Some (entity.Loop to (first_tag x.fins) x.vertex)
  now = get_put m l (option_map (of_face to) (get m l)) ∙ ap (option_map (of_face to)) ring-has

  elsewhere : (t : Tag) → t ≢ l → (item_at R t ≡ item_at S t) × (get n t ≡ get m t)
  elsewhere t h = (put-other S l t _ h, get_other m l _ t h)

  fins : KeepsFins S R m n
  fins f mate edge vertex e =
      let other = elsewhere f (apart S f l _ _ e x.ring_is (λ k. cc)) in (other.0 ∙ e, other.1)

  each : (t : Tag) → IsShown R n t
  each t = ⊎_elim {C = IsShown R n t}
      (λ (e : t ≡ l). subst (IsShown R n) (sym e) (shown-by R n l _ (put-same S l _) (loop-given S R m n well fins l x.face to x.fins x.vertex x.ring_is (was.items l _ x.ring_is) now)))
      (λ (h : t ≢ l). let other = elsewhere t h in stays-shown S R m n well fins was t other.0 other.1)
      (same_or_other t l)

  pub ring-moved : n ≡ links R
  ring-moved = represented R n (subst (Keeps []) x.row_is (ringmove-keeps S [] l to well)) (are-shown R n each)
