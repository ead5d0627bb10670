-- The modelling of the calls on solids, all 25 of them, which `Euler` carries out.
use Rattle.pk_model.specs.Modelling.{Modelling}
use Rattle.solid_model.specs.Euler as all

abbrev pub euler : Modelling
euler = all.euler
