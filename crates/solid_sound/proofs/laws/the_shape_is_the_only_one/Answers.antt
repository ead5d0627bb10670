use Rattle.solid_sound.proofs.shapes.OnlyShape.{only_shape, shape-read}
use Rattle.solid_sound.proofs.laws.the_shape_is_the_only_one.Goals as goal

pub returns-clause-only : goal.returns-clause-only
returns-clause-only c = only_shape

pub returns-clause-read : goal.returns-clause-read
returns-clause-read c = shape-read
