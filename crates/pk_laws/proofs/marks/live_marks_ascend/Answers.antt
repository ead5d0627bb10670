use Rattle.pk_laws.proofs.LiveMarks.{replay-live_ascend}
use Rattle.pk_laws.proofs.marks.live_marks_ascend.Goals as goal

pub returns : goal.returns
returns g c = replay-live_ascend g.K.Meaning.modelling
