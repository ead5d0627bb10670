use Rattle.std.proofs.Common.{arith}
use Rattle.pk_base.specs.declared.call.Call.TheVariants.{Mfkrh, Kfmrh, RingMove}
use Rattle.solid_sound.proofs.rows.Asked.{keeps-by_row, free_at}
use Rattle.solid_sound.proofs.rows.KeptRings.{ringmove-keeps}
use Rattle.solid_sound.proofs.rows.KeptMfkrh.{mfkrh-keeps}
use Rattle.solid_sound.proofs.rows.KeptKfmrh.{kfmrh-keeps}
use Rattle.solid_sound.proofs.keeping.rings_keep_soundness.Goals as goal

pub returns-clause-mfkrh : goal.returns-clause-mfkrh
returns-clause-mfkrh c = λ ring. keeps-by_row (Mfkrh ring) (λ S tags well ascend free. mfkrh-keeps S tags ring well (λ enough. free_at S tags 0 free (omega arith)))

pub returns-clause-kfmrh : goal.returns-clause-kfmrh
returns-clause-kfmrh c = λ keep kill. keeps-by_row (Kfmrh keep kill) (λ S tags well ascend free. kfmrh-keeps S tags keep kill well)

pub returns-clause-ringmove : goal.returns-clause-ringmove
returns-clause-ringmove c = λ ring face. keeps-by_row (RingMove ring face) (λ S tags well ascend free. ringmove-keeps S tags ring face well)
