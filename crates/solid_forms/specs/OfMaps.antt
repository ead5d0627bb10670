-- What a call on a sound map does to the map's shape. So what is said of shapes is said of maps.
use Rattle.std.specs.Prelude.{◌≡◌, List, Ok}
use Rattle.pk_base.specs.declared.tag.Tag.{Tag}
use Rattle.pk_base.specs.declared.call.Call.{Call}
use Rattle.pk_model.specs.Maps.{EntityMap}
use Rattle.pk_model.specs.Modelling.{Outcome, MayBeAsked}
use Rattle.solid_model.specs.Rows.Effect.{Changes}
use Rattle.solid_model.specs.Shapes.{shape_of}
use Rattle.solid_model.specs.Calls.{row_of}
use Rattle.solid_model.specs.Euler.{euler}
use Rattle.solid_forms.specs.Reached.{Reaches}

-- Wherever the call may be asked and is not refused, it makes the shape of the map that it leaves of
-- the shape of the map that it was asked of.
abbrev pub MakesItsShape : Call → Type 0
MakesItsShape c =
    (m : EntityMap) (tags : List Tag) (o : Outcome) → MayBeAsked euler m c tags
    → euler.step m c tags ≡ Ok o → Reaches (shape_of m) c tags (shape_of o.map)

-- Or it changes the one to the other.
abbrev pub ChangesItsShape : Call → Type 0
ChangesItsShape c =
    (m : EntityMap) (tags : List Tag) (o : Outcome) → MayBeAsked euler m c tags
    → euler.step m c tags ≡ Ok o → row_of (shape_of m) c ≡ Ok (Changes (shape_of o.map))
