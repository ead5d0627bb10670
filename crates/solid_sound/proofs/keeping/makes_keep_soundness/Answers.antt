use Rattle.pk_base.specs.declared.call.Call.TheVariants.{Mev, Mef, Mekr}
use Rattle.solid_sound.proofs.rows.Asked.{keeps-by_row}
use Rattle.solid_sound.proofs.rows.KeptMev.{mev-keeps}
use Rattle.solid_sound.proofs.rows.KeptMef.{mef-keeps}
use Rattle.solid_sound.proofs.rows.KeptMekr.{mekr-keeps}
use Rattle.solid_sound.proofs.keeping.makes_keep_soundness.Goals as goal

pub returns-clause-mev : goal.returns-clause-mev
returns-clause-mev c = λ end at. keeps-by_row (Mev end at) (λ S tags well ascend free. mev-keeps S tags end at well ascend free)

pub returns-clause-mef : goal.returns-clause-mef
returns-clause-mef c = λ start end. keeps-by_row (Mef start end) (λ S tags well ascend free. mef-keeps S tags start end well ascend free)

pub returns-clause-mekr : goal.returns-clause-mekr
returns-clause-mekr c = λ keep ring. keeps-by_row (Mekr keep ring) (λ S tags well ascend free. mekr-keeps S tags keep ring well ascend free)
