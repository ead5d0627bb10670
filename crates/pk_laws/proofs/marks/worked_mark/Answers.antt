use Rattle.pk_laws.proofs.Return.{two_bodies}
use Rattle.pk_laws.proofs.marks.worked_mark.Goals as goal

pub returns : goal.returns
returns c = two_bodies
