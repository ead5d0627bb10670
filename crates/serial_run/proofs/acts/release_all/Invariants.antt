use Rattle.std.proofs.Common.{◌≡◌, drop}
use Rattle.std.specs.List.{AllByRecursion}
use Rattle.pk_model.specs.Tags.{Ascends}
use Rattle.serial_run.specs.Serial.{released}
use Rattle.serial_run.specs.Reached.{IsHeldBy, IsThreadOf}
use Rattle.serial_run.proofs.acts.release_all.Given as goal

abbrev pub invariant-loop-p : goal.invariant-loop-p
invariant-loop-p g l =
    (IsThreadOf l.world l.t)
    × (AllByRecursion (IsHeldBy l.world l.t) (drop l.p-index l.parts)
    × (Ascends (drop l.p-index l.parts)
    × (released g.K.Meaning.modelling l.t (drop l.p-index l.parts) l.world ≡ released g.K.Meaning.modelling l.t l.parts l.initial.world)))
