-- The rows move and turn, and the map of the shape that they reach.
use Rattle.std.proofs.Common.{◌≡◌, [], ◌∷◌, Option, Some, None, Ok, refl, sym, ap, subst, ◌∙◌, ⊎_elim, cond}
use Rattle.std.specs.Prelude.{ℤ, IsOk, IsTrue, nat_abs, option_map}
use Rattle.std.specs.Option.{option_and_then}
use Rattle.std.specs.List.{flat_map}
use Rattle.std.specs.FinMap.{get}
use Rattle.pk_base.specs.declared.tag.Tag.{Tag}
use Rattle.pk_base.specs.declared.entity.Axis.{Axis}
use Rattle.pk_base.specs.declared.entity.Point.{Point}
use Rattle.pk_base.specs.declared.entity.Triple.{Triple}
use Rattle.pk_base.specs.declared.entity.Entity.{Entity}
use Rattle.pk_base.specs.declared.entity.Entity.TheVariants as entity
use Rattle.pk_base.proofs.Same.{same_itself}
use Rattle.pk_model.specs.Maps.{EntityMap}
use Rattle.halfedge.specs.LinkedRings.{FinFields, as_fin}
use Rattle.solid_calls.proofs.Represented.{Represents, Shows, represented, represents-sound, shows-linked}
use Rattle.solid_edits.proofs.Going.{goes-on, goes-past}
use Rattle.solid_model.specs.Items.{Item, Shape, item_at}
use Rattle.solid_model.specs.Items.Item.{Body, Shell, Face, Loop, Fin, Edge, Vertex, Attr}
use Rattle.solid_model.specs.Links.{links}
use Rattle.pk_plane.specs.Turns.{moved, quarters}
use Rattle.solid_model.specs.Motions.{with_point, with_points, points_of, is_turn, move, turn}
use Rattle.solid_model.specs.Places.{body_at}
use Rattle.solid_model.specs.Ranges.{is_component, is_coordinate, coordinates_of, numbers_of, refuse_outside}
use Rattle.solid_model.specs.Rows.{Row}
use Rattle.solid_model.specs.Rows.Effect.{Changes}
use Rattle.solid_model.specs.Shapes.{shape_of}
use Rattle.solid_model.specs.Sound.{IsSound}
use Rattle.solid_model.proofs.Reading.{find-map}
use Rattle.solid_places.proofs.Read.{item-of}
use Rattle.solid_sound.proofs.rows.KeptMotions.{move-keeps, outside-none, turn-keeps}
use Rattle.solid_sound.proofs.rows.RowKeeps.{IsWell, Keeps, well-shape}
use Rattle.solid_sound.proofs.shapes.Found.{none_or_some}
use Rattle.solid_places.specs.Points.{AreComponents}
use Rattle.solid_motion.specs.Vertices.{AreWithin, MovesVertices, entity_moved}

-- ---- rows that do not refuse

-- what the row reaches, which is well
pub record Goes (S : Shape) (b : Tag) (motion : Point → Point) (row : Row) : Type 0 where
  pub row_is : row ≡ Ok (Changes (with_points motion S b))
  pub well : IsWell (with_points motion S b)

pub move-goes : (S : Shape) (b : Tag) (by : Triple) → IsWell S → IsOk (move S b by) → Goes S b (moved by) (move S b by) × AreComponents by
move-goes S b by well h =
    let a = goes-on (body_at S b) _ h in
    let c = goes-past (refuse_outside is_component (numbers_of by)) _ a.goes in
    let d = goes-past (refuse_outside is_coordinate (flat_map (λ p. coordinates_of (moved by p)) (points_of S b))) _ c.goes in
    let row = a.same ∙ c.same ∙ d.same in
    (record { row_is = row; well = subst (Keeps []) row (move-keeps S [] b by well) }, outside-none is_component (numbers_of by) c.is)

pub turn-goes : (S : Shape) (b : Tag) (axis : Axis) (k : ℤ) → IsWell S → IsOk (turn S b axis k) → Goes S b (quarters (nat_abs k) axis) (turn S b axis k) × IsTrue (is_turn k)
turn-goes S b axis k well h =
    let a = goes-on (body_at S b) _ h in
    let c = goes-past (refuse_outside is_turn (k ∷ [])) _ a.goes in
    let row = a.same ∙ c.same in
    (record { row_is = row; well = subst (Keeps []) row (turn-keeps S [] b axis k well) }, (outside-none is_turn (k ∷ []) c.is).0)

-- ---- what is reached

module _ (m : EntityMap) (sound : IsSound m) (b : Tag) (motion : Point → Point) (well : IsWell (with_points motion (shape_of m) b)) where
  abbrev S : Shape
  S = shape_of m

  abbrev R : Shape
  R = with_points motion S b

  item_moved : (t : Tag) → item_at R t ≡ option_map (with_point motion b) (item_at S t)
  item_moved t = find-map (λ u. with_point motion b) t S

  pub points-within : AreWithin motion b m
  points-within t p live =
      let is : item_at S t ≡ Some (Vertex b p) = item-of m t (entity.Vertex b p) live in
      let there : item_at R t ≡ Some (Vertex b (motion p)) = item_moved t ∙ ap (option_map (with_point motion b)) is ∙ ap (λ c. Some (Vertex b (cond c (motion p) p))) (same_itself b) in
      ((well-shape m sound).sound.measure.points t b p is, well.sound.measure.points t b (motion p) there)

  module _ (n : EntityMap) (moves : MovesVertices motion b m n) where
    stays : (t : Tag) (e : Entity) → get m t ≡ Some e → entity_moved motion b e ≡ e → get n t ≡ get m t
    stays t e is same = moves t ∙ ap (option_map (entity_moved motion b)) is ∙ ap Some same ∙ sym is

    fin_same : (o : Option Entity) → option_and_then as_fin (option_map (entity_moved motion b) o) ≡ option_and_then as_fin o
    fin_same None = refl
    fin_same (Some (entity.Body shell)) = refl
    fin_same (Some (entity.Shell body q)) = refl
    fin_same (Some (entity.Face shell outer)) = refl
    fin_same (Some (entity.Loop face first vertex)) = refl
    fin_same (Some (entity.Fin l next prev mate edge vertex)) = refl
    fin_same (Some (entity.Edge body fin)) = refl
    fin_same (Some (entity.Vertex body point)) = refl
    fin_same (Some (entity.Attr owner name value)) = refl

    fin_stays : (f : Tag) → option_and_then as_fin (get n f) ≡ option_and_then as_fin (get m f)
    fin_stays f = ap (option_and_then as_fin) (moves f) ∙ fin_same (get m f)

    same_shown : (t : Tag) (x : Item) → with_point motion b x ≡ x → Shows S m t x → get n t ≡ get m t → Shows R n t (with_point motion b x)
    same_shown t x same h stay = subst (Shows R n t) (sym same) (shows-linked S R m n t x h stay
        (λ f k. (ap (λ (o : Option FinFields). option_map (λ y. y.next) o) (fin_stays f), ap (λ (o : Option FinFields). option_map (λ y. y.prev) o) (fin_stays f), ap (λ (o : Option FinFields). option_map (λ y. y.loop_) o) (fin_stays f)))
        (λ f mate vertex is. (vertex, item_moved f ∙ ap (option_map (with_point motion b)) is)))

    moved_shown : (t : Tag) (x : Item) → Shows S m t x → Shows R n t (with_point motion b x)
    moved_shown t (Body shell) h = same_shown t (Body shell) refl h (stays t _ h refl)
    moved_shown t (Shell body q) h = same_shown t (Shell body q) refl h (stays t _ h refl)
    moved_shown t (Face shell outer) h = same_shown t (Face shell outer) refl h (stays t _ h refl)
    moved_shown t (Loop face fins vertex) h = same_shown t (Loop face fins vertex) refl h (stays t _ h.0 refl)
    moved_shown t (Fin mate edge vertex) h = same_shown t (Fin mate edge vertex) refl h (stays t _ h.3 refl)
    moved_shown t (Edge body) h = same_shown t (Edge body) refl h (stays t _ h.1 refl)
    moved_shown t (Attr owner name value) h = same_shown t (Attr owner name value) refl h (stays t _ h refl)
    moved_shown t (Vertex body point) h = moves t ∙ ap (option_map (entity_moved motion b)) h

    was : Represents S m
    was = represents-sound m sound

    shown : Represents R n
    shown = record {
      items = λ t y e. ⊎_elim {C = Shows R n t y}
          (λ (none : item_at S t ≡ None). let both : Some y ≡ None = sym e ∙ item_moved t ∙ ap (option_map (with_point motion b)) none in absurd (cc))
          (λ (some : (x : Item) × (item_at S t ≡ Some x)).
          let both : Some (with_point motion b some.0) ≡ Some y = sym (ap (option_map (with_point motion b)) some.1) ∙ sym (item_moved t) ∙ e in
          let is : with_point motion b some.0 ≡ y = cc in
          subst (Shows R n t) is (moved_shown t some.0 (was.items t some.0 some.1)))
          (none_or_some (item_at S t));
      nothing = λ t none. moves t ∙ ap (option_map (entity_moved motion b)) (was.nothing t (not_there (item_at S t) (sym (item_moved t) ∙ none)));
    }
      where
        not_there : (o : Option Item) → option_map (with_point motion b) o ≡ None → o ≡ None
        not_there None h = refl
        not_there (Some x) h = absurd (cc)

    pub map-moved : n ≡ links R
    map-moved = represented R n well shown
