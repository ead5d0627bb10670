-- Motions of points.
use Rattle.std.specs.Prelude.{ℕ, ◌≤◌}
use Rattle.pk_base.specs.declared.entity.Point.{Point}
use Rattle.pk_plane.specs.Turns.{moved, quarters}
use Rattle.solid_places.specs.Points.{AreComponents}
use Rattle.solid_motion.specs.declared.points.Motion.{Motion}
use Rattle.solid_motion.specs.declared.points.Motion.TheVariants.{By, About}

-- a body is turned by 1, 2 or 3 quarter turns
abbrev pub IsNumberOfTurns : ℕ → Type 0
IsNumberOfTurns n = (1 ≤ n) × (n ≤ 3)

-- its numbers are such as a motion may have
abbrev pub IsMotion : Motion → Type 0
IsMotion (By vector) = AreComponents vector
IsMotion (About axis turns) = IsNumberOfTurns turns

-- where it brings a point
abbrev pub point_by : Motion → Point → Point
point_by (By vector) p = moved vector p
point_by (About axis turns) p = quarters turns axis p
