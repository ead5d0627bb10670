use Rattle.pk_base.specs.declared.call.Call.TheVariants.{Move, Turn}
use Rattle.solid_sound.proofs.rows.Asked.{keeps-by_row}
use Rattle.solid_sound.proofs.rows.KeptMotions.{move-keeps, turn-keeps}
use Rattle.solid_sound.proofs.keeping.motions_keep_soundness.Goals as goal

pub returns-clause-moves : goal.returns-clause-moves
returns-clause-moves c = λ body by. keeps-by_row (Move body by) (λ S tags well ascend free. move-keeps S tags body by well)

pub returns-clause-turns : goal.returns-clause-turns
returns-clause-turns c = λ body axis turns. keeps-by_row (Turn body axis turns) (λ S tags well ascend free. turn-keeps S tags body axis turns well)
