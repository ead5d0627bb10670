use Rattle.std.proofs.Common.{arith}
use Rattle.pk_base.specs.declared.call.Call.TheVariants.{SetAttr, DropAttr}
use Rattle.solid_sound.proofs.rows.Asked.{keeps-by_row, free_at}
use Rattle.solid_sound.proofs.rows.KeptAttributes.{set-keeps, drop-keeps}
use Rattle.solid_sound.proofs.keeping.attributes_keep_soundness.Goals as goal

pub returns-clause-set : goal.returns-clause-set
returns-clause-set c = λ owner name value. keeps-by_row (SetAttr owner name value) (λ S tags well ascend free. set-keeps S tags owner name value well (λ enough. free_at S tags 0 free (omega arith)))

pub returns-clause-drop : goal.returns-clause-drop
returns-clause-drop c = λ owner name. keeps-by_row (DropAttr owner name) (λ S tags well ascend free. drop-keeps S tags owner name well)
