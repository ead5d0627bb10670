-- The rows move and turn take no tags.
use Rattle.std.proofs.Common.{[], ◌∷◌, Option, Some, None, Result, Ok, Err}
use Rattle.std.specs.Prelude.{ℤ}
use Rattle.std.specs.List.{flat_map}
use Rattle.pk_base.specs.declared.tag.Tag.{Tag}
use Rattle.pk_base.specs.declared.entity.Axis.{Axis}
use Rattle.pk_base.specs.declared.entity.Triple.{Triple}
use Rattle.pk_base.specs.declared.refusal.Refusal.{Refusal}
use Rattle.pk_model.specs.Step.{◌>>=◌}
use Rattle.solid_calls.proofs.RowKinds.{IsChanging}
use Rattle.solid_model.specs.Items.{Shape}
use Rattle.pk_plane.specs.Turns.{moved}
use Rattle.solid_model.specs.Motions.{move, points_of, is_turn, turn}
use Rattle.solid_model.specs.Places.{body_at}
use Rattle.solid_model.specs.Ranges.{is_component, is_coordinate, coordinates_of, numbers_of, refuse_outside}
use Rattle.solid_model.specs.Rows.{Row, ◌>>◌}

bind : {A : Type 0} (r : Result A Refusal) (row : A → Row) → ((a : A) → IsChanging (row a)) → IsChanging (r >>= row)
bind (Ok a) row h = h a
bind (Err e) row h = tt

after : (o : Option Refusal) (row : Row) → IsChanging row → IsChanging (o >> row)
after None row h = h
after (Some e) row h = tt

pub move-changes : (S : Shape) (b : Tag) (by : Triple) → IsChanging (move S b by)
move-changes S b by = bind (body_at S b) _ (λ shell. after (refuse_outside is_component (numbers_of by)) _
    (after (refuse_outside is_coordinate (flat_map (λ p. coordinates_of (moved by p)) (points_of S b))) _ tt))

pub turn-changes : (S : Shape) (b : Tag) (axis : Axis) (k : ℤ) → IsChanging (turn S b axis k)
turn-changes S b axis k = bind (body_at S b) _ (λ shell. after (refuse_outside is_turn (k ∷ [])) _ tt)
