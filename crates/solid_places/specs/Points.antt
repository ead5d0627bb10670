-- The numbers of points and of vectors, and whether they are in range.
use Rattle.std.specs.Prelude.{IsTrue}
use Rattle.std.specs.List.{AllByRecursion}
use Rattle.pk_base.specs.declared.entity.Point.{Point}
use Rattle.pk_base.specs.declared.entity.Triple.{Triple}
use Rattle.solid_model.specs.Ranges.{is_component, is_coordinate, coordinates_of, numbers_of}

-- each number of the point is in the range of coordinates
abbrev pub AreCoordinates : Point → Type 0
AreCoordinates p = AllByRecursion (λ c. IsTrue (is_coordinate c)) (coordinates_of p)

-- each number of the vector is in the range of components
abbrev pub AreComponents : Triple → Type 0
AreComponents by = AllByRecursion (λ c. IsTrue (is_component c)) (numbers_of by)
