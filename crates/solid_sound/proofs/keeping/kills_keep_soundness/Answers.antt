use Rattle.std.proofs.Common.{arith}
use Rattle.pk_base.specs.declared.call.Call.TheVariants.{Kev, Kef, Kemr}
use Rattle.solid_sound.proofs.rows.Asked.{keeps-by_row, free_at}
use Rattle.solid_sound.proofs.rows.KeptKev.{kev-keeps}
use Rattle.solid_sound.proofs.rows.KeptKef.{kef-keeps}
use Rattle.solid_sound.proofs.rows.KeptKemr.{kemr-keeps}
use Rattle.solid_sound.proofs.keeping.kills_keep_soundness.Goals as goal

pub returns-clause-kev : goal.returns-clause-kev
returns-clause-kev c = λ fin. keeps-by_row (Kev fin) (λ S tags well ascend free. kev-keeps S tags fin well)

pub returns-clause-kef : goal.returns-clause-kef
returns-clause-kef c = λ fin. keeps-by_row (Kef fin) (λ S tags well ascend free. kef-keeps S tags fin well)

pub returns-clause-kemr : goal.returns-clause-kemr
returns-clause-kemr c = λ fin. keeps-by_row (Kemr fin) (λ S tags well ascend free. kemr-keeps S tags fin well (λ enough. free_at S tags 0 free (omega arith)))
