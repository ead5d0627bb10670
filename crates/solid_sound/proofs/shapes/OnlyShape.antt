-- A sound map has one shape.
use Rattle.std.proofs.Common.{◌≡◌, sym, ap, ◌∙◌}
use Rattle.pk_model.specs.Maps.{EntityMap}
use Rattle.solid_model.specs.Shapes.{shape_of}
use Rattle.solid_model.specs.Sound.{IsSound}
use Rattle.solid_sound.proofs.shapes.Reading.{shape_read}

pub shape-read : (m : EntityMap) (a : IsSound m) → shape_of m ≡ a.shape
shape-read m a = ap shape_of a.map_is ∙ shape_read a.shape a.written a.sound

pub only_shape : (m : EntityMap) (a b : IsSound m) → a.shape ≡ b.shape
only_shape m a b = sym (shape-read m a) ∙ shape-read m b
