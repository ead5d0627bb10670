-- What a call on a sound map does to the map's shape.
use Rattle.std.proofs.Common.{◌≡◌, ◌≤◌, List, [], ◌∷◌, length, Option, Some, None, Result, Ok, Err, refl, sym, ap, ◌∙◌}
use Rattle.std.specs.Prelude.{ℤ, pos, ◌+ℤ◌, int_lt, not}
use Rattle.std.specs.List.{AllByRecursion, flat_map}
use Rattle.pk_base.specs.declared.tag.Tag.{Tag}
use Rattle.pk_base.specs.declared.entity.Axis.{Axis}
use Rattle.pk_base.specs.declared.entity.Pair.{Pair}
use Rattle.pk_base.specs.declared.entity.Triple.{Triple}
use Rattle.pk_base.specs.declared.refusal.Refusal.{Refusal}
use Rattle.pk_base.specs.declared.refusal.Refusal.TheVariants.{HasRings, FlatSweep}
use Rattle.pk_base.specs.declared.call.Call.{Call}
use Rattle.pk_base.specs.declared.call.Call.TheVariants.{Lamina, Sweep, Prism, Block, Move, Turn}
use Rattle.pk_model.specs.Step.{◌>>=◌}
use Rattle.pk_model.specs.Maps.{EntityMap}
use Rattle.pk_model.specs.Modelling.{Outcome, MayBeAsked}
use Rattle.solid_model.specs.Items.{Shape, item_at}
use Rattle.pk_plane.specs.Vectors.{dot}
use Rattle.pk_plane.specs.Turns.{moved}
use Rattle.solid_model.specs.Owners.{has_rings}
use Rattle.solid_model.specs.Rows.{Row, refuse_where, ◌>>◌, cost_of}
use Rattle.solid_model.specs.Rows.Effect.{Makes, Changes, Tells}
use Rattle.solid_model.specs.Places.{body_at, face_at}
use Rattle.solid_model.specs.Ranges.{is_component, is_coordinate, is_size, numbers_of, coordinates_of, refuse_outside}
use Rattle.solid_model.specs.Links.{links}
use Rattle.solid_model.specs.Newell.{newell, starts_of}
use Rattle.solid_model.specs.Motions.{is_turn, points_of}
use Rattle.solid_model.specs.Lamina.{refuse_count, refuse_corners, refuse_polygon}
use Rattle.solid_model.specs.Shapes.{shape_of}
use Rattle.solid_model.specs.Calls.{row_of}
use Rattle.solid_model.specs.Euler.{euler, outcome_of, step_by}
use Rattle.list_facts.proofs.Each.{ByRecursion-weaker}
use Rattle.solid_sound.proofs.shapes.OnlyShape.{shape-read}
use Rattle.solid_sound.proofs.rows.RowKeeps.{IsWell, Keeps, well-shape}
use Rattle.solid_sound.proofs.rows.Asked.{free_item}
use Rattle.solid_sound.proofs.rows.KeptMotions.{move-keeps, turn-keeps}
use Rattle.solid_sound.proofs.rows.KeptFolds.{lamina-keeps, sweep-keeps}
use Rattle.solid_sound.proofs.rows.KeptPrism.{prism-keeps, block-keeps}
use Rattle.solid_forms.specs.Reached.{Reaches}
use Rattle.solid_forms.specs.OfMaps.{MakesItsShape, ChangesItsShape}

-- ---- rows of one kind

abbrev OnlyMakes : Row → Type 0
OnlyMakes (Ok (Makes k reaches)) = Unit {0}
OnlyMakes (Ok (Changes reached)) = ⊥
OnlyMakes (Ok (Tells reply)) = ⊥
OnlyMakes (Err e) = Unit {0}

abbrev OnlyChanges : Row → Type 0
OnlyChanges (Ok (Makes k reaches)) = ⊥
OnlyChanges (Ok (Changes reached)) = Unit {0}
OnlyChanges (Ok (Tells reply)) = ⊥
OnlyChanges (Err e) = Unit {0}

makes-after : (o : Option Refusal) (row : Row) → OnlyMakes row → OnlyMakes (o >> row)
makes-after None row h = h
makes-after (Some e) row h = tt

makes-bind : {A : Type 0} (r : Result A Refusal) (row : A → Row) → ((a : A) → OnlyMakes (row a)) → OnlyMakes (r >>= row)
makes-bind (Ok a) row h = h a
makes-bind (Err e) row h = tt

changes-after : (o : Option Refusal) (row : Row) → OnlyChanges row → OnlyChanges (o >> row)
changes-after None row h = h
changes-after (Some e) row h = tt

changes-bind : {A : Type 0} (r : Result A Refusal) (row : A → Row) → ((a : A) → OnlyChanges (row a)) → OnlyChanges (r >>= row)
changes-bind (Ok a) row h = h a
changes-bind (Err e) row h = tt

-- ---- by the row

well-read : (S : Shape) → IsWell S → shape_of (links S) ≡ S
well-read S w = shape-read (links S) (record { shape = S; written = w.written; sound = w.sound; map_is = refl })

module _ (m : EntityMap) (c : Call) (tags : List Tag) (o : Outcome) (may : MayBeAsked euler m c tags) where
  abbrev S : Shape
  S = shape_of m

  well : IsWell S
  well = well-shape m may.sound

  makes_by : (row : Row) → row_of S c ≡ row → cost_of row ≤ length tags → Keeps tags row → OnlyMakes row → step_by m tags row ≡ Ok o → Reaches S c tags (shape_of o.map)
  makes_by (Ok (Makes k reaches)) is enough keeps only step =
      let e : outcome_of m tags (Makes k reaches) ≡ o = cc in
      record {
        written = well.written;
        sound = well.sound;
        ascend = may.ascend;
        free = ByRecursion-weaker _ _ (λ t h. free_item m may.sound t h) tags may.free;
        takes = k;
        reaches = reaches;
        row_is = is;
        enough = enough;
        reached = ap (λ (x : Outcome). shape_of x.map) (sym e) ∙ well-read (reaches tags) (keeps enough);
      }
  makes_by (Ok (Changes reached)) is enough keeps only step = absurd only
  makes_by (Ok (Tells reply)) is enough keeps only step = absurd only
  makes_by (Err e) is enough keeps only step = absurd (cc)

  changes_by : (row : Row) → row_of S c ≡ row → Keeps tags row → OnlyChanges row → step_by m tags row ≡ Ok o → row_of S c ≡ Ok (Changes (shape_of o.map))
  changes_by (Ok (Makes k reaches)) is keeps only step = absurd only
  changes_by (Ok (Changes reached)) is keeps only step =
      let e : outcome_of m tags (Changes reached) ≡ o = cc in
      let shape : shape_of o.map ≡ reached = ap (λ (x : Outcome). shape_of x.map) (sym e) ∙ well-read reached keeps in
      is ∙ ap (λ R. Ok (Changes R)) (sym shape)
  changes_by (Ok (Tells reply)) is keeps only step = absurd only
  changes_by (Err e) is keeps only step = absurd (cc)

  pub makes-shape : (IsWell S → Keeps tags (row_of S c)) → OnlyMakes (row_of S c) → step_by m tags (row_of S c) ≡ Ok o → Reaches S c tags (shape_of o.map)
  makes-shape keeps only step = makes_by (row_of S c) refl may.enough (keeps well) only step

  pub changes-shape : (IsWell S → Keeps tags (row_of S c)) → OnlyChanges (row_of S c) → step_by m tags (row_of S c) ≡ Ok o → row_of S c ≡ Ok (Changes (shape_of o.map))
  changes-shape keeps only step = changes_by (row_of S c) refl (keeps well) only step

-- ---- each call

free_items : (m : EntityMap) (c : Call) (tags : List Tag) → (may : MayBeAsked euler m c tags) → AllByRecursion (λ t. item_at (shape_of m) t ≡ None) tags
free_items m c tags may = ByRecursion-weaker _ _ (λ t h. free_item m may.sound t h) tags may.free

pub lamina-shape : (z : ℤ) (corners : List Pair) → MakesItsShape (Lamina z corners)
lamina-shape z corners m tags o may step = makes-shape m (Lamina z corners) tags o may
    (λ w. lamina-keeps (shape_of m) tags w may.ascend (free_items m (Lamina z corners) tags may) z corners)
    (makes-after (refuse_count corners) _ (makes-after (refuse_outside is_coordinate (z ∷ [])) _ (makes-after (refuse_corners corners) _ (makes-after (refuse_polygon corners) _ tt)))) step

pub sweep-shape : (face : Tag) (by : Triple) → MakesItsShape (Sweep face by)
sweep-shape face by m tags o may step = makes-shape m (Sweep face by) tags o may
    (λ w. sweep-keeps (shape_of m) tags w may.ascend (free_items m (Sweep face by) tags may) face by)
    (makes-bind (face_at (shape_of m) face) _ (λ a. makes-after (refuse_where (has_rings (shape_of m) face) (HasRings face)) _ (makes-after (refuse_outside is_component (numbers_of by)) _
    (makes-after (refuse_outside is_coordinate (flat_map (λ p. coordinates_of (moved by p)) (starts_of (shape_of m) a.outer))) _
    (makes-after (refuse_where (not (int_lt (pos 0) (dot (newell (shape_of m) a.outer) by))) FlatSweep) _ tt))))) step

pub prism-shape : (z h : ℤ) (corners : List Pair) → MakesItsShape (Prism z h corners)
prism-shape z h corners m tags o may step = makes-shape m (Prism z h corners) tags o may
    (λ w. prism-keeps (shape_of m) tags w may.ascend (free_items m (Prism z h corners) tags may) z h corners)
    (makes-after (refuse_count corners) _ (makes-after (refuse_outside is_coordinate (z ∷ [])) _ (makes-after (refuse_outside is_size (h ∷ [])) _
    (makes-after (refuse_outside is_coordinate ((z +ℤ h) ∷ [])) _ (makes-after (refuse_corners corners) _ (makes-after (refuse_polygon corners) _ tt)))))) step

pub block-shape : (at size : Triple) → MakesItsShape (Block at size)
block-shape at size m tags o may step = makes-shape m (Block at size) tags o may
    (λ w. block-keeps (shape_of m) tags w may.ascend (free_items m (Block at size) tags may) at size)
    (makes-after (refuse_outside is_coordinate (numbers_of at)) _ (makes-after (refuse_outside is_size (numbers_of size)) _
    (makes-after (refuse_outside is_coordinate ((at.x +ℤ size.x) ∷ (at.y +ℤ size.y) ∷ (at.z +ℤ size.z) ∷ [])) _ tt))) step

pub move-shape : (body : Tag) (by : Triple) → ChangesItsShape (Move body by)
move-shape body by m tags o may step = changes-shape m (Move body by) tags o may (λ w. move-keeps (shape_of m) tags body by w)
    (changes-bind (body_at (shape_of m) body) _ (λ a. changes-after (refuse_outside is_component (numbers_of by)) _
    (changes-after (refuse_outside is_coordinate (flat_map (λ p. coordinates_of (moved by p)) (points_of (shape_of m) body))) _ tt))) step

pub turn-shape : (body : Tag) (axis : Axis) (turns : ℤ) → ChangesItsShape (Turn body axis turns)
turn-shape body axis turns m tags o may step = changes-shape m (Turn body axis turns) tags o may (λ w. turn-keeps (shape_of m) tags body axis turns w)
    (changes-bind (body_at (shape_of m) body) _ (λ a. changes-after (refuse_outside is_turn (turns ∷ [])) _ tt)) step
