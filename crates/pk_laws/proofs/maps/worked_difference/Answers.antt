use Rattle.pk_laws.proofs.WorkedJournals.{older_newer}
use Rattle.pk_laws.proofs.maps.worked_difference.Goals as goal

pub returns : goal.returns
returns c = older_newer
