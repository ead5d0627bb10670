use Rattle.solid_sound.proofs.rows.EveryCall.{euler-IsModeller}
use Rattle.solid_sound.proofs.laws.euler_is_a_modeller.Goals as goal

pub returns : goal.returns
returns c = euler-IsModeller
