use Rattle.pk_model.proofs.TagsTaken.{replay-sound}
use Rattle.pk_model.proofs.replays_are_sound.Goals as goal

pub returns-clause-now : goal.returns-clause-now
returns-clause-now g c = λ p journal s h. (replay-sound _ c.requires p journal s h).now

pub returns-clause-marks : goal.returns-clause-marks
returns-clause-marks g c = λ p journal s h. (replay-sound _ c.requires p journal s h).marks
