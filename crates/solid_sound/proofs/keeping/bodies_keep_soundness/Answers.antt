use Rattle.pk_base.specs.declared.call.Call.TheVariants.{Mvfs, Kvfs, Delete}
use Rattle.solid_sound.proofs.rows.Asked.{keeps-by_row}
use Rattle.solid_sound.proofs.rows.KeptDeaths.{kvfs-keeps, delete-keeps}
use Rattle.solid_sound.proofs.rows.KeptMvfs.{mvfs-keeps}
use Rattle.solid_sound.proofs.keeping.bodies_keep_soundness.Goals as goal

pub returns-clause-mvfs : goal.returns-clause-mvfs
returns-clause-mvfs c = λ at. keeps-by_row (Mvfs at) (λ S tags well ascend free. mvfs-keeps S tags at well ascend free)

pub returns-clause-kvfs : goal.returns-clause-kvfs
returns-clause-kvfs c = λ body. keeps-by_row (Kvfs body) (λ S tags well ascend free. kvfs-keeps S tags body well)

pub returns-clause-delete : goal.returns-clause-delete
returns-clause-delete c = λ body. keeps-by_row (Delete body) (λ S tags well ascend free. delete-keeps S tags body well)
