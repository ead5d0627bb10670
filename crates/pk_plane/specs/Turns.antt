-- Moves and quarter turns of a point.
use Rattle.std.specs.Prelude.{ℕ, zero, suc, ◌+ℤ◌, neg_ℤ}
use Rattle.pk_base.specs.declared.entity.Axis.{Axis}
use Rattle.pk_base.specs.declared.entity.Axis.TheVariants.{X, Y, Z}
use Rattle.pk_base.specs.declared.entity.Point.{Point}
use Rattle.pk_base.specs.declared.entity.Triple.{Triple}

abbrev pub moved : Triple → Point → Point
moved by p = record { x = p.x +ℤ by.x; y = p.y +ℤ by.y; z = p.z +ℤ by.z }

-- a quarter turn about the axis, from its positive end counter-clockwise
abbrev pub quarter : Axis → Point → Point
quarter X p = record { x = p.x; y = neg_ℤ p.z; z = p.y }
quarter Y p = record { x = p.z; y = p.y; z = neg_ℤ p.x }
quarter Z p = record { x = neg_ℤ p.y; y = p.x; z = p.z }

abbrev pub quarters : ℕ → Axis → Point → Point
quarters zero axis p = p
quarters (suc k) axis p = quarter axis (quarters k axis p)
