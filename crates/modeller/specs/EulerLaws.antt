-- The modelling of all calls is what is asked of a modeller.
use Rattle.pk_model.specs.Modelling.{IsModeller}
use Rattle.solid_sound.proofs.rows.EveryCall as every
use Rattle.modeller.specs.Euler.{euler}

pub euler-IsModeller : IsModeller euler
euler-IsModeller = every.euler-IsModeller
