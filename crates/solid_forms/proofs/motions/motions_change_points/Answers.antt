use Rattle.solid_forms.proofs.Moved.{move-changes, turn-changes}
use Rattle.solid_forms.proofs.motions.motions_change_points.Goals as goal

pub returns-clause-moves : goal.returns-clause-moves
returns-clause-moves c = λ S R b by h. move-changes S R b by h

pub returns-clause-turns : goal.returns-clause-turns
returns-clause-turns c = λ S R b axis k h. turn-changes S R b axis k h
