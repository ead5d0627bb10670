use Rattle.pk_model.specs.State.{opening}
use Rattle.partition_uses.proofs.WorkedWork.{load-marked}
use Rattle.partition_uses.proofs.worked.a_mark_begins_anew.Goals as goal

pub returns : goal.returns
returns g c = λ p t journal h. load-marked g.K.Meaning.modelling (opening p) 0 t journal h
