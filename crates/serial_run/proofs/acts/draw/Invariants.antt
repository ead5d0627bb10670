use Rattle.std.proofs.Common.{◌≡◌, ◌-◌}
use Rattle.serial_run.specs.Serial.{draws}
use Rattle.serial_run.specs.Reached.{IsHeldBy, IsThreadOf}
use Rattle.serial_run.proofs.acts.draw.Given as goal

abbrev pub invariant-loop : goal.invariant-loop
invariant-loop g l =
    (IsHeldBy l.world l.t l.p)
    × (IsThreadOf l.world l.t
    × (draws g.K.Meaning.modelling l.t l.p (l.count - l.counter) l.world ≡ draws g.K.Meaning.modelling l.t l.p l.count l.initial.world))
