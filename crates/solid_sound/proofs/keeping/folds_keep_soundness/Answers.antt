use Rattle.pk_base.specs.declared.call.Call.TheVariants.{Lamina, Block, Prism, Sweep}
use Rattle.solid_sound.proofs.rows.EveryCall.{call-keeps}
use Rattle.solid_sound.proofs.keeping.folds_keep_soundness.Goals as goal

pub returns-clause-lamina : goal.returns-clause-lamina
returns-clause-lamina c = λ z corners. call-keeps (Lamina z corners)

pub returns-clause-sweep : goal.returns-clause-sweep
returns-clause-sweep c = λ face by. call-keeps (Sweep face by)

pub returns-clause-prism : goal.returns-clause-prism
returns-clause-prism c = λ z h corners. call-keeps (Prism z h corners)

pub returns-clause-block : goal.returns-clause-block
returns-clause-block c = λ at size. call-keeps (Block at size)
